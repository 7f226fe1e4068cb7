-- What a name or a member stands for makes no more steps than the value that it is a member of, and
-- a few.
use Rattle.std.proofs.Common.{ℕ, ◌+◌, ◌≤◌, Bool, true, false, ◌||◌, List, [], ◌∷◌, Option, Some, None}
use Rattle.std.proofs.Common.{arith}
use Rattle.std.specs.Option.{option_map}
use Rattle.std.specs.Prelude.{IfSome}
use Rattle.ck_values.specs.declared.kind.Elem.TheVariants as elem
use Rattle.ck_values.specs.declared.kind.Kind.{Kind}
use Rattle.ck_values.specs.declared.kind.Kind.TheVariants.{One, Row, Grid}
use Rattle.ugen_names.specs.declared.table.UgenKind.{UgenKind}
use Rattle.ck_syntax.specs.Tree.{Name}
use Rattle.ck_typed.specs.declared.expr.Spot.TheVariants as spot
use Rattle.ck_typed.specs.declared.operation.Variadic.TheVariants as variadic
use Rattle.ck_typed.specs.Tree as typed
use Rattle.type_rules.specs.Calls.{has_call}
use Rattle.type_rules.specs.Parameters.{Settable, parameter_of}
use Rattle.type_rules.specs.declared.calls.Holder.{Holder}
use Rattle.type_rules.specs.declared.calls.Holder.TheVariants as on
use Rattle.type_table.specs.Answer.{Answer, gives}
use Rattle.type_table.specs.declared.built_ins.BuiltInName.{BuiltInName}
use Rattle.type_table.specs.declared.built_ins.BuiltInName.TheVariants as built
use Rattle.type_table.specs.declared.table.Member.{Member}
use Rattle.type_table.specs.declared.table.Member.TheVariants as member
use Rattle.type_table.specs.NameClash.{is_event_call}
use Rattle.type_table.specs.Names.{built_in}
use Rattle.type_table.specs.Table.{Table, class_named, fun_named, member_named, variable_named}
use Rattle.type_table.proofs.Ranges.{Each}
use Rattle.check_scope.specs.Denotations as m
use Rattle.check_scope.specs.Denotations.{Typed, Denotation, member_here, as_value, name_meaning, member_meaning}
use Rattle.check_scope.specs.Scope.{Scope, local_named, place, this_local}
use Rattle.expr_laws.proofs.FineNames.{some_if, first_found_is}
use Rattle.expr_laws.proofs.Oks.{ok_then}
use Rattle.expr_steps.proofs.Costs.{cost, Costs, costs_if, value_costs}
use Rattle.expr_steps.proofs.Most.{most}

module _ (n : ℕ) where
  -- what is found costs at most this
  abbrev FoundCosts : Option (Answer Denotation) → Type 0
  FoundCosts found = IfSome found (λ a. Costs n a)

  made_costs : {A : Type 0} (g : A → Answer Denotation) (found : Option A)
      → ((a : A) → Costs n (g a)) → FoundCosts (option_map g found)
  made_costs g None all = tt
  made_costs g (Some a) all = all a

module _ (n : ℕ) (t : Table) (s : Scope) (l : ℕ) where
  -- the first place that has a name
  known_costs : (found : Option (Answer Denotation)) → FoundCosts n found → Costs n (m.or_unknown s l found)
  known_costs None few = tt
  known_costs (Some a) few = few

  first_known_costs : (places : List (Option (Answer Denotation))) → Each (FoundCosts n) places
      → Costs n (m.or_unknown s l (m.first_found places))
  first_known_costs places are = known_costs (m.first_found places) (first_found_is (λ a. Costs n a) places are)

  -- names -----------------------------------------------------------------------------------------

  with_this_costs : (this : Option ℕ) (named : typed.Expr → Denotation)
      → ((x : typed.Expr) → most x ≤ 2 → cost (named x) ≤ n) → Costs n (m.with_this s l this named)
  with_this_costs None named few = tt
  with_this_costs (Some i) named few =
      few (typed.Variadic (variadic.Read (spot.Local i)) typed.no_exprs (place s l)) (omega arith)

  unless_public_costs : (x : Denotation) → cost x ≤ n → Costs n (m.unless_public t s l x)
  unless_public_costs x few = costs_if n (m.is_public_class t s.class) _ _ tt few

  in_fields_costs : (x : Option Member) → 6 ≤ n → FoundCosts n (m.in_fields t s l x)
  in_fields_costs (Some (member.Field i k)) few =
      with_this_costs (this_local t s) (λ this. m.at (spot.Field i) (m.one this) k) (λ x small. omega arith)
  in_fields_costs (Some (member.Static i k)) few = omega arith
  in_fields_costs _ few = tt

  in_methods_costs : (x : Option Member) → 6 ≤ n → FoundCosts n (m.in_methods t s l x)
  in_methods_costs (Some (member.Fun f None)) few = omega arith
  in_methods_costs (Some (member.Fun f (Some k))) few =
      with_this_costs (this_local t s) (λ this. m.callable (m.method this f k)) (λ x small. omega arith)
  in_methods_costs _ few = tt

  in_event_calls_costs : (name : Name) (class : Option ℕ) → 6 ≤ n → FoundCosts n (m.in_event_calls t s l name class)
  in_event_calls_costs name None few = tt
  in_event_calls_costs name (Some c) few = some_if (λ a. Costs n a) (is_event_call t c name) _ (λ event.
      with_this_costs (this_local t s) (λ this. m.callable (m.native_on this on.Event name)) (λ x small. omega arith))

  in_places_cost : (name : Name) → 6 ≤ n → Each (FoundCosts n) (m.in_places t s l name)
  in_places_cost name few = (
    made_costs n _ (local_named s name) (λ i. omega arith),
    (
      in_fields_costs (m.unless_unseen s name (member_here t s.class name)) few,
      (
        made_costs n _ (m.seen s (variable_named t s.file name))
            (λ v. unless_public_costs (m.at (spot.Static v.index) typed.no_exprs v.kind) (omega arith)),
        (
          in_methods_costs (member_here t s.class name) few,
          (
            in_event_calls_costs name s.class few,
            (
              made_costs n _ (fun_named t s.file name)
                  (λ f. unless_public_costs (m.callable (m.numbered f)) (omega arith)),
              (
                made_costs n _ (class_named t s.file name) (λ c. omega arith),
                (made_costs n _ (built_in name) (λ b. omega arith), tt),
              ),
            ),
          ),
        ),
      ),
    ),
  )

  pub name_costs : (name : Name) → 6 ≤ n → Costs n (name_meaning t s l name)
  name_costs name few = first_known_costs (m.in_places t s l name) (in_places_cost name few)

  -- members of values -----------------------------------------------------------------------------

  native_costs : (o : typed.Expr) (h : Holder) (name : Name) → most o ≤ n → Costs n (m.native_meaning s l o h name)
  native_costs o h name few = costs_if n (has_call h name) _ _ few tt

  object_costs : (o : typed.Expr) (c : ℕ) (name : Name) (x : Option Member) → most o + 4 ≤ n
      → Costs n (m.object_meaning t s l o c name x)
  object_costs o c name (Some (member.Field i k)) few = omega arith
  object_costs o c name (Some (member.Static i k)) few = omega arith
  object_costs o c name (Some (member.Fun f None)) few = omega arith
  object_costs o c name (Some (member.Fun f (Some k))) few = omega arith
  object_costs o c name (Some member.Auto) few = tt
  object_costs o c name None few = costs_if n (is_event_call t c name) _ _ (omega arith) tt

  ugen_costs : (o : typed.Expr) (k : UgenKind) (name : Name) → most o ≤ n → Costs n (m.ugen_meaning s l o k name)
  ugen_costs o k name few =
      let setting : Settable → Answer Denotation = λ p. gives (m.callable (m.param o p)) in
      let call : Holder → Answer Denotation = λ h. gives (m.callable (m.native_on o h name)) in
      first_known_costs
      (option_map setting (parameter_of k name) ∷ option_map call (m.ugen_holder k name) ∷ []) (
        made_costs n setting (parameter_of k name) (λ p. few),
        (made_costs n call (m.ugen_holder k name) (λ h. few), tt),
      )

  member_of_kind_costs : (o : typed.Expr) (k : Kind) (name : Name) → most o + 4 ≤ n
      → Costs n (m.member_of_kind t s l o k name)
  member_of_kind_costs o (One (elem.Class c)) name few = object_costs o c name (member_named t c name) few
  member_of_kind_costs o (One (elem.Unit k)) name few = ugen_costs o k name (omega arith)
  member_of_kind_costs o (One elem.Shred) name few = native_costs o on.Shred name (omega arith)
  member_of_kind_costs o (One elem.Text) name few = native_costs o on.Text name (omega arith)
  member_of_kind_costs o (Row i) name few = native_costs o on.Array name (omega arith)
  member_of_kind_costs o (Grid i) name few = native_costs o on.Array name (omega arith)
  member_of_kind_costs o _ name few = tt

  -- members of types ------------------------------------------------------------------------------

  if_there_costs : (there : Bool) → Costs n (m.if_there s l there)
  if_there_costs true = tt
  if_there_costs false = tt

  static_costs : (c : ℕ) (name : Name) (x : Option Member) → 4 ≤ n → Costs n (m.static_meaning t s l c name x)
  static_costs c name (Some (member.Static i k)) few = omega arith
  static_costs c name (Some (member.Fun f None)) few = omega arith
  static_costs c name (Some _) few = tt
  static_costs c name None few = if_there_costs (is_event_call t c name)

  member_of_type_costs : (b : BuiltInName) (name : Name) → 4 ≤ n → Costs n (m.member_of_type t s l b name)
  member_of_type_costs (built.Elem (elem.Class c)) name few = static_costs c name (member_named t c name) few
  member_of_type_costs (built.Elem (elem.Unit k)) name few =
      if_there_costs (m.has_param (parameter_of k name) || m.has_holder (m.ugen_holder k name))
  member_of_type_costs (built.Elem _) name few = if_there_costs (has_call on.Shred name)
  member_of_type_costs (built.Module h) name few = costs_if n (has_call h name) _ _ (omega arith) tt

  pub member_costs : (k : ℕ) (x : Denotation) (name : Name) → cost x + 4 ≤ n → Costs n (member_meaning t s l k x name)
  member_costs k (m.a_type b) name few = member_of_type_costs b name (omega arith)
  member_costs k x name few = ok_then (λ (y : Typed). most y.expr + 2 ≤ cost x) (λ (z : Denotation). cost z ≤ n)
      (as_value s k x) _ (value_costs s k x) (λ o small. member_of_kind_costs o.expr o.kind name (omega arith))
