-- Each step of the first walk keeps what was found, and a new variable or member is found by its name.
use Rattle.std.proofs.Common.{◌≡◌, ℕ, zero, suc, ◌<◌, Bool, true, false, not, ◌&&◌, ◌||◌, List, [], ◌∷◌, ◌++◌, length, drop, Option, Some, None, slice_set, if◌then◌else◌, refl, ap, ◌∙◌, subst}
use Rattle.std.specs.List.{list_any}
use Rattle.std.proofs.lemmas.List.{length-set}
use Rattle.ck_values.specs.declared.kind.Kind.{Kind}
use Rattle.ck_base.specs.declared.limits.TheConstants.{MAX_ANCESTORS}
use Rattle.ck_syntax.specs.Tree.{Name, Fun, fun, constructor, Members}
use Rattle.type_table.specs.declared.class.Dispatch.{Dispatch}
use Rattle.type_table.specs.declared.class.Own.{Own}
use Rattle.type_table.specs.declared.class.Own.TheVariants as own
use Rattle.type_table.specs.declared.fault.FaultKind.TheVariants.{UnknownName, Duplicate, BadClass, BadPlace}
use Rattle.type_table.specs.Answer.{Answer, gives, refused, and_then, wrong}
use Rattle.first_walk.specs.FirstWalk.{with_class, is_name_taken, with_member, may_override, slots_with, with_dispatch, with_method, new_dispatch, old_dispatch, enter_beside, enter_method_head, with_constructor, enter_constructor_head, enter_method, refuse_constructor, has_unknown, head_of, with_fun, enter_fun_head, enter_fun, next_static, with_variable, with_static, with_field, has_statement, with_body}
use Rattle.type_table.specs.NameClash.{is_other, has_other, is_taken_below, is_event_call, is_member_taken}
use Rattle.type_table.specs.Names.{lookup, is_some, and_first}
use Rattle.type_table.specs.declared.class.Class.{Class}
use Rattle.type_table.specs.declared.class.FileNames.{FileNames as File}
use Rattle.type_table.specs.declared.class.Head.{Head}
use Rattle.type_table.specs.Table.{Table, or_no_class, or_no_file, plain_head, file_of, class_of, line, line_by, line_within, as_member, own_member, member_in, member_named, and_own, ancestors, overridden}
use Rattle.type_table.proofs.Ranges.{Within, many}
use Rattle.type_table.proofs.ListFacts.{kept_at, get_within, within_same}
use Rattle.first_walk.proofs.DeclaredFrame.{changed_at, first_stays, first_found, Keeps, keeps_self, keeps_then}

-- answers -----------------------------------------------------------------------------------------

-- what is given, if anything is
abbrev pub GivesSuch : {A : Type 0} → (A → Type 0) → Answer A → Type 0
GivesSuch P (gives a) = P a
GivesSuch P (refused why) = Unit {0}

pub gives_map : {A : Type 0} (P Q : A → Type 0) → ((a : A) → P a → Q a) → (x : Answer A) → GivesSuch P x → GivesSuch Q x
gives_map P Q g (gives a) so = g a so
gives_map P Q g (refused why) so = tt

pub gives_then : {A B : Type 0} (P : A → Type 0) (Q : B → Type 0) (x : Answer A) (next : A → Answer B) → GivesSuch P x
    → ((a : A) → P a → GivesSuch Q (next a)) → GivesSuch Q (and_then x next)
gives_then P Q (gives a) next so goes = goes a so
gives_then P Q (refused why) next so goes = tt

pub gives_if : {A : Type 0} (P : A → Type 0) (b : Bool) (x y : Answer A) → (b ≡ true → GivesSuch P x)
    → (b ≡ false → GivesSuch P y) → GivesSuch P (if b then x else y)
gives_if P true x y one other = one refl
gives_if P false x y one other = other refl

pub gives_at : {A : Type 0} (P : A → Type 0) (x : Answer A) (a : A) → x ≡ gives a → GivesSuch P x → P a
gives_at P x a is so = subst (GivesSuch P) is so

-- what is kept ------------------------------------------------------------------------------------

module _ (f : ℕ) where
  -- a class changes but for its file, and loses no member
  pub keeps_class : (t : Table) (funs : List Head) (c : ℕ) (x : Class) → x.file ≡ (class_of t c).file
      → ((n : Name) (o : Own) → lookup n (class_of t c).members ≡ Some o → lookup n x.members ≡ Some o)
      → Keeps f t (record t { classes = slice_set t.classes c x; funs = funs })
  keeps_class t funs c x home members = record {
    many_classes = length-set t.classes c x;
    many_files = refl;
    parents = refl;
    publics = refl;
    homes = λ d. kept_at (λ y. (or_no_class y).file ≡ (class_of t d).file) t.classes c d x (λ was. home ∙ was) refl;
    classes = refl;
    variables = λ n v is. is;
    statics = λ i k is. is;
    members = λ d n o is. kept_at (λ y. lookup n (or_no_class y).members ≡ Some o) t.classes c d x (members n o) is;
  }

  -- the file changes but for its classes, and loses no variable
  pub keeps_file : (t : Table) (funs : List Head) (statics : List Kind) (x : File) → x.classes ≡ (file_of t f).classes
      → ((n : Name) (v : ℕ) → lookup n (file_of t f).variables ≡ Some v → lookup n x.variables ≡ Some v)
      → Within t.statics statics
      → Keeps f t (record t { files = slice_set t.files f x; funs = funs; statics = statics })
  keeps_file t funs statics x classes variables more = record {
    many_classes = refl;
    many_files = length-set t.files f x;
    parents = refl;
    publics = refl;
    homes = λ c. refl;
    classes = kept_at (λ y. (or_no_file y).classes ≡ (file_of t f).classes) t.files f f x (λ was. classes ∙ was) refl;
    variables = λ n v is. kept_at (λ y. lookup n (or_no_file y).variables ≡ Some v) t.files f f x (variables n v) is;
    statics = λ i k is. get_within t.statics statics i k more is;
    members = λ c n o is. is;
  }

  -- functions and statics alone change
  pub keeps_others : (t : Table) (funs : List Head) (statics : List Kind) → Within t.statics statics
      → Keeps f t (record t { funs = funs; statics = statics })
  keeps_others t funs statics more = record {
    many_classes = refl;
    many_files = refl;
    parents = refl;
    publics = refl;
    homes = λ c. refl;
    classes = refl;
    variables = λ n v is. is;
    statics = λ i k is. get_within t.statics statics i k more is;
    members = λ c n o is. is;
  }

  pub keeps_member : (t : Table) (c : ℕ) (n : Name) (o : Own) → Keeps f t (with_member t c n o)
  keeps_member t c n o = keeps_class t t.funs c (and_own (class_of t c) n o) refl
      (first_stays n o (class_of t c).members)

  pub found_member : (t : Table) (c : ℕ) (n : Name) (o : Own) → c < many t → lookup n (class_of t c).members ≡ None
      → lookup n (class_of (with_member t c n o) c).members ≡ Some o
  found_member t c n o lt none =
      ap (λ y. lookup n (or_no_class y).members) (changed_at t.classes c (and_own (class_of t c) n o) lt)
      ∙ first_found n o (class_of t c).members none

  -- functions
  keeps_dispatch : (t : Table) (c : ℕ) (h : Head) (d : Dispatch) → Keeps f t (with_dispatch t c h d)
  keeps_dispatch t c h d = keeps_class t (t.funs ++ h ∷ []) c
      (record (class_of t c) { slots = slots_with (class_of t c) d }) refl (λ m o is. is)

  keeps_method : (t : Table) (c : ℕ) (n : Name) (h : Head) (d : Dispatch) → Keeps f t (with_method t c n h d)
  keeps_method t c n h d = keeps_then f t (with_dispatch t c h d) (with_method t c n h d) (keeps_dispatch t c h d)
      (keeps_member (with_dispatch t c h d) c n (own.Fun (length t.funs) d))

  keeps_fun : (t : Table) (n : Name) (h : Head) → Keeps f t (with_fun t f n h)
  keeps_fun t n h = keeps_file t (t.funs ++ h ∷ []) t.statics
      (record (file_of t f) { funs = and_first n (length t.funs) (file_of t f).funs }) refl (λ m v is. is)
      (within_same t.statics)

  -- the function of the statements in a class's braces
  pub keeps_body : (t : Table) (c : ℕ) (ms : Members) → Keeps f t (with_body t c ms)
  keeps_body t c ms = go (has_statement ms)
    where
      go : (b : Bool) → Keeps f t (if b then record t {
        funs = t.funs ++ plain_head false ∷ [];
        classes = slice_set t.classes c
            (record (class_of t c) { body = Some (length t.funs) });
      } else t)
      go true = keeps_class t (t.funs ++ plain_head false ∷ []) c
          (record (class_of t c) { body = Some (length t.funs) }) refl (λ m o is. is)
      go false = keeps_self f t

  -- a constructor
  keeps_constructor : (t : Table) (c : ℕ) (h : Head) → Keeps f t (with_constructor t c h)
  keeps_constructor t c h = keeps_class t (t.funs ++ h ∷ []) c
      (record (class_of t c) { constructor = Some (length t.funs) }) refl (λ m o is. is)

  constructor_head_keeps : (t : Table) (l c : ℕ) (h : Option Head)
      → GivesSuch (Keeps f t) (enter_constructor_head t f l c h)
  constructor_head_keeps t l c None = tt
  constructor_head_keeps t l c (Some h) = keeps_constructor t c h

  refused_keeps : (t : Table) (l : ℕ) (h : Option Head) → GivesSuch (Keeps f t) (refuse_constructor f l h)
  refused_keeps t l None = tt
  refused_keeps t l (Some h) = tt

  beside_keeps : (t : Table) (l c : ℕ) (n : Name) (h : Head) (old : Option (Option Head))
      → GivesSuch (Keeps f t) (enter_beside t f l c n h old)
  beside_keeps t l c n h None = keeps_method t c n h (new_dispatch (class_of t c) h)
  beside_keeps t l c n h (Some old) =
      gives_if (Keeps f t) (may_override h old) (gives (with_method t c n h (old_dispatch h))) (wrong f l BadClass)
      (λ e. keeps_method t c n h (old_dispatch h)) (λ e. tt)

  method_head_keeps : (t : Table) (l c : ℕ) (n : Name) (h : Option Head)
      → GivesSuch (Keeps f t) (enter_method_head t f l c n h)
  method_head_keeps t l c n None = tt
  method_head_keeps t l c n (Some h) =
      gives_if (Keeps f t) (is_event_call t c n) (wrong f l BadClass)
      (enter_beside t f l c n h (overridden t (ancestors t c) n)) (λ e. tt)
      (λ e. beside_keeps t l c n h (overridden t (ancestors t c) n))

  pub method_keeps : (t : Table) (c : ℕ) (m : Fun) → GivesSuch (Keeps f t) (enter_method t f c m)
  method_keeps t c (fun l s result n ps body) =
      gives_if (Keeps f t) (has_unknown t f m) (wrong f l UnknownName)
      (if is_member_taken t c n true then wrong f l Duplicate else entered) (λ e. tt)
      (λ e. gives_if (Keeps f t) (is_member_taken t c n true) (wrong f l Duplicate) entered (λ d. tt)
      (λ d. method_head_keeps t l c n (head_of t f m)))
    where
      m : Fun
      m = fun l s result n ps body

      entered : Answer Table
      entered = enter_method_head t f l c n (head_of t f m)
  method_keeps t c (constructor l ps body) =
      gives_if (Keeps f t) (has_unknown t f (constructor l ps body)) (wrong f l UnknownName)
      (if is_some (class_of t c).constructor then wrong f l Duplicate else entered) (λ e. tt)
      (λ e. gives_if (Keeps f t) (is_some (class_of t c).constructor) (wrong f l Duplicate) entered (λ d. tt)
      (λ d. constructor_head_keeps t l c (head_of t f (constructor l ps body))))
    where
      entered : Answer Table
      entered = enter_constructor_head t f l c (head_of t f (constructor l ps body))

  fun_head_keeps : (t : Table) (l : ℕ) (n : Name) (h : Option Head) → GivesSuch (Keeps f t) (enter_fun_head t f l n h)
  fun_head_keeps t l n None = tt
  fun_head_keeps t l n (Some h) = gives_if (Keeps f t) h.is_static (wrong f l BadPlace) (gives (with_fun t f n h))
      (λ e. tt) (λ e. keeps_fun t n h)

  pub fun_keeps : (t : Table) (m : Fun) → GivesSuch (Keeps f t) (enter_fun t f m)
  fun_keeps t (fun l s result n ps body) =
      gives_if (Keeps f t) (has_unknown t f m) (wrong f l UnknownName)
      (if is_name_taken t f n then wrong f l Duplicate else entered) (λ e. tt)
      (λ e. gives_if (Keeps f t) (is_name_taken t f n) (wrong f l Duplicate) entered (λ d. tt)
      (λ d. fun_head_keeps t l n (head_of t f m)))
    where
      m : Fun
      m = fun l s result n ps body

      entered : Answer Table
      entered = enter_fun_head t f l n (head_of t f m)
  fun_keeps t (constructor l ps body) =
      gives_if (Keeps f t) (has_unknown t f (constructor l ps body)) (wrong f l UnknownName)
      (refuse_constructor f l (head_of t f (constructor l ps body))) (λ e. tt)
      (λ e. refused_keeps t l (head_of t f (constructor l ps body)))

-- variables and members ---------------------------------------------------------------------------

module _ (f : ℕ) (t : Table) (n : Name) (k : Kind) where
  pub keeps_variable : Keeps f t (with_variable t f n k)
  keeps_variable =
      keeps_file f t t.funs (t.statics ++ k ∷ [])
      (record (file_of t f) { variables = and_first n (length t.statics) (file_of t f).variables }) refl
      (first_stays n (length t.statics) (file_of t f).variables) (k ∷ [], refl)

  pub found_variable : f < length t.files → lookup n (file_of t f).variables ≡ None
      → lookup n (file_of (with_variable t f n k) f).variables ≡ Some (length t.statics)
  found_variable lt none =
      ap (λ o. lookup n (or_no_file o).variables)
      (changed_at t.files f (record (file_of t f)
      { variables = and_first n (length t.statics) (file_of t f).variables }) lt)
      ∙ first_found n (length t.statics) (file_of t f).variables none

  module _ (c : ℕ) where
    abbrev more_statics : Table
    more_statics = record t { statics = t.statics ++ k ∷ [] }

    abbrev more_fields : Table
    more_fields = with_class t c (record (class_of t c) { fields = (class_of t c).fields ++ k ∷ [] })

    pub keeps_static : Keeps f t (with_static t c n k)
    keeps_static = keeps_then f t more_statics (with_static t c n k)
        (keeps_others f t t.funs (t.statics ++ k ∷ []) (k ∷ [], refl))
        (keeps_member f more_statics c n (own.Static (next_static t k)))

    pub keeps_field : Keeps f t (with_field t c n k)
    keeps_field =
        keeps_then f t more_fields (with_field t c n k)
        (keeps_class f t t.funs c (record (class_of t c) { fields = (class_of t c).fields ++ k ∷ [] }) refl
        (λ m o is. is))
        (keeps_member f more_fields c n (own.Field (length (class_of t c).fields) k))

    module _ (lt : c < many t) (none : lookup n (class_of t c).members ≡ None) where
      pub found_static : lookup n (class_of (with_static t c n k) c).members ≡ Some (own.Static (next_static t k))
      found_static = found_member f more_statics c n (own.Static (next_static t k)) lt none

      pub found_field : lookup n (class_of (with_field t c n k) c).members
          ≡ Some (own.Field (length (class_of t c).fields) k)
      found_field =
          found_member f more_fields c n (own.Field (length (class_of t c).fields) k)
          (rw (length-set t.classes c (record (class_of t c) { fields = (class_of t c).fields ++ k ∷ [] })) lt)
          (ap (λ y. lookup n (or_no_class y).members)
          (changed_at t.classes c (record (class_of t c) { fields = (class_of t c).fields ++ k ∷ [] }) lt) ∙ none)

-- names that are free -----------------------------------------------------------------------------

neither : (a b : Bool) → a || b ≡ false → (a ≡ false) × (b ≡ false)
neither true b is = absurd (cc)
neither false b is = (refl, is)

not_any : {A : Type 0} (o : Option A) → is_some o ≡ false → o ≡ None
not_any None is = refl
not_any (Some a) is = absurd (cc)

not_other : (o : Option Own) → is_other false o ≡ false → o ≡ None
not_other None is = refl
not_other (Some o) is = absurd (cc)

module _ (t : Table) (n : Name) where
  pub no_variable : (f : ℕ) → is_name_taken t f n ≡ false → lookup n (file_of t f).variables ≡ None
  no_variable f free =
      not_any (lookup n (file_of t f).variables)
      (neither (is_some (lookup n (file_of t f).classes) || is_some (lookup n (file_of t f).funs))
      (is_some (lookup n (file_of t f).variables)) free).1

  pub no_member : (c : ℕ) → is_member_taken t c n false ≡ false → lookup n (class_of t c).members ≡ None
  no_member c free =
      not_other (lookup n (class_of t c).members)
      (neither here above (neither (here || above) below
      (neither (here || above || below) (not false && is_event_call t c n) free).0).0).0
    where
      here : Bool
      here = has_other t n false c

      above : Bool
      above = list_any (has_other t n false) (ancestors t c)

      below : Bool
      below = is_taken_below t c n false

-- a line begins with its class
line_begins : (parents : List ℕ) (steps c : ℕ) → line_within parents steps c ≡ c ∷ drop 1 (line_within parents steps c)
line_begins parents zero c = refl
line_begins parents (suc n) c = refl

line_first : (t : Table) (c : ℕ) → line t c ≡ c ∷ ancestors t c
unfolding line_by
line_first t c = line_begins t.parents MAX_ANCESTORS c

-- a class has what it declares
pub own_found : (t : Table) (c : ℕ) (n : Name) (o : Own) → lookup n (class_of t c).members ≡ Some o
    → member_named t c n ≡ Some (as_member t (ancestors t c) n o)
own_found t c n o is = ap (λ l. member_in t l n) (line_first t c)
    ∙ ap (λ p. own_member t (ancestors t c) n p (member_in t (ancestors t c) n)) is
