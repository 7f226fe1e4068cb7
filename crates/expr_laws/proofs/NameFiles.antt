-- What a name or a member stands for lies in the files of the program, and what is wrong with it
-- stands in the file of its scope.
use Rattle.std.proofs.Common.{ℕ, ◌<◌, Bool, true, false, ◌||◌, List, [], ◌∷◌, Option, Some, None, refl}
use Rattle.std.specs.Prelude.{IfSome}
use Rattle.std.specs.Option.{option_map}
use Rattle.ck_values.specs.declared.kind.Elem.TheVariants as elem
use Rattle.ck_values.specs.declared.kind.Kind.{Kind}
use Rattle.ck_values.specs.declared.kind.Kind.TheVariants.{One, Row, Grid}
use Rattle.ugen_names.specs.declared.table.UgenKind.{UgenKind}
use Rattle.ck_syntax.specs.Tree.{Name}
use Rattle.ck_typed.specs.declared.expr.Spot.TheVariants as spot
use Rattle.ck_typed.specs.Tree as typed
use Rattle.ck_typed.specs.Tree.{no_exprs}
use Rattle.ck_typed.specs.WellFormed.{LiesIn, ExprLies, ExprsLie}
use Rattle.type_rules.specs.Calls.{has_call}
use Rattle.type_rules.specs.Parameters.{Settable, parameter_of}
use Rattle.type_rules.specs.declared.calls.Holder.{Holder}
use Rattle.type_rules.specs.declared.calls.Holder.TheVariants as on
use Rattle.type_table.specs.Answer.{Answer, gives}
use Rattle.type_table.specs.declared.built_ins.BuiltInName.{BuiltInName}
use Rattle.type_table.specs.declared.built_ins.BuiltInName.TheVariants as name
use Rattle.type_table.specs.declared.table.Member.{Member}
use Rattle.type_table.specs.declared.table.Member.TheVariants as member
use Rattle.type_table.specs.NameClash.{is_event_call}
use Rattle.type_table.specs.Names.{built_in}
use Rattle.type_table.specs.Table.{Table, class_named, fun_named, member_named, variable_named}
use Rattle.type_table.proofs.FaultFiles.{Placed, placed_then, placed_if}
use Rattle.type_table.proofs.Ranges.{Each}
use Rattle.check_scope.specs.Denotations as m
use Rattle.check_scope.specs.Denotations.{Typed, Callee, Denotation, member_here, as_value, name_meaning, member_meaning}
use Rattle.check_scope.specs.Scope.{Scope, local_named, this_local}
use Rattle.expr_laws.proofs.FineNames.{some_if, first_found_is}

module _ (files : ℕ) where
  -- each place in what an expression stands for lies in one of so many files
  abbrev pub TypedLies : Typed → Type 0
  TypedLies x = ExprLies files x.expr × LiesIn files x.place

  abbrev pub CalleeLies : Callee → Type 0
  CalleeLies (m.through o f) = ExprLies files o
  CalleeLies (m.method o f slot) = ExprLies files o
  CalleeLies (m.native_on o h n) = ExprLies files o
  CalleeLies (m.param u p) = ExprLies files u
  CalleeLies _ = Unit {0}

  abbrev pub Lies : Denotation → Type 0
  Lies (m.value x) = TypedLies x
  Lies (m.at spot address k) = ExprsLie files address
  Lies (m.callable c) = CalleeLies c
  Lies (m.a_type b) = Unit {0}
  Lies (m.declared d) = ExprsLie files d.address × ExprLies files d.alone
  Lies (m.an_auto n has_form) = Unit {0}

  -- what is found lies there, and what is wrong stands in this file
  abbrev pub IsIn : (file : ℕ) → Answer Denotation → Type 0
  IsIn f a = Placed Lies f a

  -- the same, if there is something
  abbrev HasIn : (file : ℕ) → Option (Answer Denotation) → Type 0
  HasIn f found = IfSome found (λ a. IsIn f a)

  made_in : {A : Type 0} (f : ℕ) (g : A → Answer Denotation) (found : Option A)
      → ((a : A) → IsIn f (g a)) → HasIn f (option_map g found)
  made_in f g None all = tt
  made_in f g (Some a) all = all a

  pub as_value_in : (s : Scope) → s.file < files → (l : ℕ) (x : Denotation) → Lies x
      → Placed TypedLies s.file (as_value s l x)
  as_value_in s here l (m.value x) lies = lies
  as_value_in s here l (m.at spot address k) lies = ((lies, here), here)
  as_value_in s here l (m.callable c) lies = refl
  as_value_in s here l (m.a_type b) lies = refl
  as_value_in s here l (m.declared d) lies = (lies.1, here)
  as_value_in s here l (m.an_auto n has_form) lies = refl

module _ (files : ℕ) (t : Table) (s : Scope) (here : s.file < files) (l : ℕ) where
  -- names -----------------------------------------------------------------------------------------

  with_this_in : (this : Option ℕ) (named : typed.Expr → Denotation)
      → ((e : typed.Expr) → ExprLies files e → Lies files (named e))
      → IsIn files s.file (m.with_this s l this named)
  with_this_in None named follows = refl
  with_this_in (Some i) named follows = follows _ (tt, here)

  unless_public_in : (x : Denotation) → Lies files x → IsIn files s.file (m.unless_public t s l x)
  unless_public_in x lies =
      placed_if (Lies files) s.file (m.is_public_class t s.class) _ _ refl lies

  in_fields_in : (x : Option Member) → HasIn files s.file (m.in_fields t s l x)
  in_fields_in (Some (member.Field i k)) =
      with_this_in (this_local t s) _ (λ this lies. (lies, tt))
  in_fields_in (Some (member.Static i k)) = tt
  in_fields_in _ = tt

  in_methods_in : (x : Option Member) → HasIn files s.file (m.in_methods t s l x)
  in_methods_in (Some (member.Fun f None)) = tt
  in_methods_in (Some (member.Fun f (Some k))) = with_this_in (this_local t s) _ (λ this lies. lies)
  in_methods_in _ = tt

  in_event_calls_in : (n : Name) (class : Option ℕ)
      → HasIn files s.file (m.in_event_calls t s l n class)
  in_event_calls_in n None = tt
  in_event_calls_in n (Some c) =
      some_if (λ a. IsIn files s.file a) (is_event_call t c n) _
      (λ event. with_this_in (this_local t s) _ (λ this lies. lies))

  in_places_in : (n : Name) → Each (HasIn files s.file) (m.in_places t s l n)
  in_places_in n = (
    made_in files s.file _ (local_named s n) (λ i. tt),
    (
      in_fields_in (m.unless_unseen s n (member_here t s.class n)),
      (
        made_in files s.file _ (m.seen s (variable_named t s.file n)) (λ v.
            unless_public_in (m.at (spot.Static v.index) no_exprs v.kind) tt),
        (
          in_methods_in (member_here t s.class n),
          (
            in_event_calls_in n s.class,
            (
              made_in files s.file _ (fun_named t s.file n) (λ f.
                  unless_public_in (m.callable (m.numbered f)) tt),
              (
                made_in files s.file _ (class_named t s.file n) (λ c. tt),
                (made_in files s.file _ (built_in n) (λ b. tt), tt),
              ),
            ),
          ),
        ),
      ),
    ),
  )

  -- the first place that has a name
  known_in : (found : Option (Answer Denotation)) → HasIn files s.file found
      → IsIn files s.file (m.or_unknown s l found)
  known_in None is = refl
  known_in (Some a) is = is

  first_known_in : (places : List (Option (Answer Denotation))) → Each (HasIn files s.file) places
      → IsIn files s.file (m.or_unknown s l (m.first_found places))
  first_known_in places are =
      known_in (m.first_found places) (first_found_is (λ a. IsIn files s.file a) places are)

  pub name_in : (n : Name) → IsIn files s.file (name_meaning t s l n)
  name_in n = first_known_in (m.in_places t s l n) (in_places_in n)

  -- members of values -----------------------------------------------------------------------------

  module _ (o : typed.Expr) (lies : ExprLies files o) where
    native_in : (h : Holder) (n : Name) → IsIn files s.file (m.native_meaning s l o h n)
    native_in h n = placed_if (Lies files) s.file (has_call h n) _ _ lies refl

    object_in : (c : ℕ) (n : Name) (x : Option Member)
        → IsIn files s.file (m.object_meaning t s l o c n x)
    object_in c n (Some (member.Field i k)) = (lies, tt)
    object_in c n (Some (member.Static i k)) = (lies, tt)
    object_in c n (Some (member.Fun f None)) = lies
    object_in c n (Some (member.Fun f (Some k))) = lies
    object_in c n (Some member.Auto) = refl
    object_in c n None = placed_if (Lies files) s.file (is_event_call t c n) _ _ lies refl

    ugen_in : (k : UgenKind) (n : Name) → IsIn files s.file (m.ugen_meaning s l o k n)
    ugen_in k n =
        let setting : Settable → Answer Denotation = λ p. gives (m.callable (m.param o p)) in
        let call : Holder → Answer Denotation = λ h. gives (m.callable (m.native_on o h n)) in
        first_known_in
        (option_map setting (parameter_of k n) ∷ option_map call (m.ugen_holder k n) ∷ []) (
          made_in files s.file setting (parameter_of k n) (λ p. lies),
          (made_in files s.file call (m.ugen_holder k n) (λ h. lies), tt),
        )

    member_of_kind_in : (k : Kind) (n : Name) → IsIn files s.file (m.member_of_kind t s l o k n)
    member_of_kind_in (One (elem.Class c)) n = object_in c n (member_named t c n)
    member_of_kind_in (One (elem.Unit k)) n = ugen_in k n
    member_of_kind_in (One elem.Shred) n = native_in on.Shred n
    member_of_kind_in (One elem.Text) n = native_in on.Text n
    member_of_kind_in (Row e) n = native_in on.Array n
    member_of_kind_in (Grid e) n = native_in on.Array n
    member_of_kind_in _ n = refl

  -- members of types ------------------------------------------------------------------------------

  if_there_in : (there : Bool) → IsIn files s.file (m.if_there s l there)
  if_there_in true = refl
  if_there_in false = refl

  static_in : (c : ℕ) (n : Name) (x : Option Member)
      → IsIn files s.file (m.static_meaning t s l c n x)
  static_in c n (Some (member.Static i k)) = tt
  static_in c n (Some (member.Fun f None)) = tt
  static_in c n (Some _) = refl
  static_in c n None = if_there_in (is_event_call t c n)

  member_of_type_in : (b : BuiltInName) (n : Name) → IsIn files s.file (m.member_of_type t s l b n)
  member_of_type_in (name.Elem (elem.Class c)) n = static_in c n (member_named t c n)
  member_of_type_in (name.Elem (elem.Unit k)) n =
      if_there_in (m.has_param (parameter_of k n) || m.has_holder (m.ugen_holder k n))
  member_of_type_in (name.Elem _) n = if_there_in (has_call on.Shred n)
  member_of_type_in (name.Module h) n = placed_if (Lies files) s.file (has_call h n) _ _ tt refl

  pub member_in : (k : ℕ) (x : Denotation) (n : Name) → Lies files x
      → IsIn files s.file (member_meaning t s l k x n)
  member_in k (m.a_type b) n lies = member_of_type_in b n
  member_in k x n lies =
      placed_then (TypedLies files) (Lies files) s.file (as_value s k x) _
      (as_value_in files s here k x lies) (λ o so. member_of_kind_in o.expr so.0 o.kind n)
