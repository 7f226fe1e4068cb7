-- The types of a text name classes that the table has.
use Rattle.std.proofs.Common.{◌≡◌, ℕ, zero, suc, ◌+◌, ◌<◌, ◌≤◌, Bool, true, false, ◌&&◌, nat_lt, List, Option, Some, None, if◌then◌else◌, refl, arith}
use Rattle.ck_values.specs.declared.kind.Elem.{Elem}
use Rattle.ck_values.specs.declared.kind.Elem.TheVariants as elem
use Rattle.ck_values.specs.declared.kind.Kind.{Kind}
use Rattle.ck_values.specs.declared.kind.Kind.TheVariants as kind
use Rattle.ck_syntax.specs.declared.declaration.Base.{Base}
use Rattle.ck_syntax.specs.declared.declaration.Base.TheVariants as base
use Rattle.ck_syntax.specs.declared.declaration.DeclHead.{DeclHead}
use Rattle.ck_syntax.specs.declared.file.Param.{Param}
use Rattle.ck_syntax.specs.Tree as tree
use Rattle.ck_syntax.specs.Tree.{Name, Brackets, no_brackets, Declr, declr, declr_with, Params, no_params, and_param}
use Rattle.type_rules.specs.Fitting.{is_reference}
use Rattle.type_table.specs.declared.built_ins.BuiltInName.{BuiltInName}
use Rattle.type_table.specs.declared.built_ins.BuiltInName.TheVariants.{Elem as one, Module}
use Rattle.type_table.specs.declared.types.Named.{Named}
use Rattle.type_table.specs.declared.types.Named.TheVariants as named
use Rattle.first_walk.specs.FirstWalk.{and_kind, param_kind, param_kinds, head_with, head_of}
use Rattle.type_table.specs.Names.{lookup, or_else, as_class, built_in, built_in_names}
use Rattle.type_table.specs.Table.{Table, file_of, class_of, class_named, seen_from}
use Rattle.type_table.specs.Types.{named_by, class_type, built_in_type, kind_of, is_plain, value_kind, result_kind, declared_kind, made_kind, written_kind, has_form, can_be_made, count}
use Rattle.type_table.proofs.Ranges.{Each, ElemIn, ValueIn, ResultIn, HeadIn}
use Rattle.type_table.proofs.BuiltIns.{built_in_holds}
use Rattle.type_table.proofs.ListFacts.{Holds, holds_map, holds_else, each_push, found_holds}

-- built-in classes are the first two
abbrev BuiltInRange : BuiltInName → Type 0
BuiltInRange (one e) = ElemIn 2 e
BuiltInRange (Module h) = Unit {0}

all_built_in : (n : Name) → Holds BuiltInRange (built_in n)
unfolding built_in_names
all_built_in n =
    built_in_holds BuiltInRange n
    (omega arith, (omega arith, (tt, (tt, (tt, (tt, tt)))))) (λ k named. tt)

elem_more : (m : ℕ) → 2 ≤ m → (e : Elem) → ElemIn 2 e → ElemIn m e
elem_more m two (elem.Class c) lt = omega (arith, two, lt)
elem_more m two _ lt = tt

built_class : (m : ℕ) → 2 ≤ m → (o : Option BuiltInName) → Holds BuiltInRange o → Holds (λ c. c < m) (as_class o)
built_class m two None so = tt
built_class m two (Some (Module h)) so = tt
built_class m two (Some (one (elem.Class c))) so = omega (arith, two, so)
built_class m two (Some (one _)) so = tt

-- a written type is in range
abbrev pub NamedIn : (classes : ℕ) → Named → Type 0
NamedIn m (named.Elem e) = ElemIn m e
NamedIn m _ = Unit {0}

built_named : (m : ℕ) → 2 ≤ m → (o : Option BuiltInName) → Holds BuiltInRange o → NamedIn m (built_in_type o)
built_named m two None so = tt
built_named m two (Some (Module h)) so = tt
built_named m two (Some (one e)) so = elem_more m two e so

-- kinds -----------------------------------------------------------------------------------------

kind_in : (m : ℕ) (e : Elem) (brackets : ℕ) → ElemIn m e → Holds (ValueIn m) (kind_of e brackets)
kind_in m e zero so = so
kind_in m e (suc zero) so = so
kind_in m e (suc (suc zero)) so = go (is_plain e)
  where
    go : (b : Bool) → Holds (ValueIn m) (if b then Some (kind.Grid e) else None)
    go true = so
    go false = tt
kind_in m e (suc (suc (suc b))) so = tt

value_in : (m : ℕ) (n : Named) (brackets : ℕ) → NamedIn m n → Holds (ValueIn m) (value_kind n brackets)
value_in m (named.Elem e) brackets so = kind_in m e brackets so
value_in m _ brackets so = tt

pub result_of_value : (m : ℕ) (k : Kind) → ValueIn m k → ResultIn m k
result_of_value m kind.Void so = tt
result_of_value m kind.Null so = so
result_of_value m (kind.One e) so = so
result_of_value m (kind.Row e) so = so
result_of_value m (kind.Grid e) so = so

result_in : (m : ℕ) (n : Named) (brackets : ℕ) → NamedIn m n → Holds (ResultIn m) (result_kind n brackets)
result_in m named.Void zero so = tt
result_in m named.Void (suc b) so = tt
result_in m (named.Elem e) b so = holds_map (ValueIn m) (ResultIn m) (result_of_value m) (kind_of e b)
    (kind_in m e b so)
result_in m named.Unknown b so = tt
result_in m named.NoType b so = tt

pub declared_in : (m : ℕ) (h : DeclHead) (n : Named) (bs : Brackets) → NamedIn m n
    → Holds (ValueIn m) (declared_kind h n bs)
declared_in m h (named.Elem e) bs so = go (has_form h e bs)
  where
    go : (b : Bool) → Holds (ValueIn m) (if b then kind_of e (count bs) else None)
    go true = kind_in m e (count bs) so
    go false = tt
declared_in m h _ bs so = tt

made_in : (m : ℕ) (n : Named) → NamedIn m n → Holds (ValueIn m) (made_kind n)
made_in m (named.Elem e) so = go (is_reference e && can_be_made e no_brackets)
  where
    go : (b : Bool) → Holds (ValueIn m) (if b then Some (kind.One e) else None)
    go true = so
    go false = tt
made_in m named.Unknown so = tt
made_in m named.NoType so = tt
made_in m named.Void so = tt

pub written_in : (m : ℕ) (h : DeclHead) (n : Named) (x : Declr) → NamedIn m n → Holds (ValueIn m) (written_kind h n x)
written_in m h n (declr name bs) so = declared_in m h n bs so
written_in m h n (declr_with name es) so = made_in m n so

and_kind_in : (m : ℕ) (ks : Option (List Kind)) (k : Option Kind) → Holds (Each (ValueIn m)) ks → Holds (ValueIn m) k
    → Holds (Each (ValueIn m)) (and_kind ks k)
and_kind_in m (Some ks) (Some k) all it = each_push (ValueIn m) ks k all it
and_kind_in m (Some ks) None all it = tt
and_kind_in m None k all it = tt

head_with_in : (m : ℕ) (s : Bool) (ks : Option (List Kind)) (k : Option Kind) → Holds (Each (ValueIn m)) ks
    → Holds (ResultIn m) k → Holds (λ h. HeadIn m h × (h.is_static ≡ s)) (head_with s ks k)
head_with_in m s (Some ks) (Some k) all it = ((all, it), refl)
head_with_in m s (Some ks) None all it = tt
head_with_in m s None k all it = tt

-- of a text ---------------------------------------------------------------------------------------

module _ (t : Table) (f m : ℕ) (two : 2 ≤ m) (classes : Each (λ (e : Name × ℕ). e.1 < m) (file_of t f).classes)
    (publics : Each (λ (e : Name × ℕ). e.1 < m) t.publics) where
  seen_in : (o : Option ℕ) → Holds (λ c. c < m) o → Holds (λ c. c < m) (seen_from t f o)
  seen_in None so = tt
  seen_in (Some c) so = go (nat_lt (class_of t c).file f)
    where
      go : (b : Bool) → Holds (λ d. d < m) (if b then Some c else None)
      go true = so
      go false = tt

  pub class_in : (n : Name) → Holds (λ c. c < m) (class_named t f n)
  class_in n =
      holds_else (λ c. c < m) (lookup n (file_of t f).classes)
      (or_else (seen_from t f (lookup n t.publics)) (as_class (built_in n)))
      (found_holds (λ c. c < m) n (file_of t f).classes classes)
      (holds_else (λ c. c < m) (seen_from t f (lookup n t.publics)) (as_class (built_in n))
      (seen_in (lookup n t.publics) (found_holds (λ c. c < m) n t.publics publics))
      (built_class m two (built_in n) (all_built_in n)))

  type_in : (n : Name) (o : Option ℕ) → Holds (λ c. c < m) o → NamedIn m (class_type n o)
  type_in n None so = built_named m two (built_in n) (all_built_in n)
  type_in n (Some c) so = so

  pub named_in : (b : Base) → NamedIn m (named_by t f b)
  named_in base.Int = tt
  named_in base.Float = tt
  named_in base.Dur = tt
  named_in base.Time = tt
  named_in base.String = tt
  named_in base.Void = tt
  named_in (base.Class n) = type_in n (class_named t f n) (class_in n)

  pub param_in : (p : Param) → Holds (ValueIn m) (param_kind t f p)
  param_in p = value_in m (named_by t f p.kind.base) (p.kind.brackets + p.brackets) (named_in p.kind.base)

  params_in : (ps : Params) → Holds (Each (ValueIn m)) (param_kinds t f ps)
  params_in no_params = tt
  params_in (and_param ps p) = and_kind_in m (param_kinds t f ps) (param_kind t f p) (params_in ps) (param_in p)

  -- the types of a function, which is static as its text says
  pub head_in : (l : ℕ) (s : Bool) (result : _) (n : Name) (ps : Params) (body : _)
      → Holds (λ h. HeadIn m h × (h.is_static ≡ s)) (head_of t f (tree.fun l s result n ps body))
  head_in l s result n ps body =
      head_with_in m s (param_kinds t f ps) (result_kind (named_by t f result.base) result.brackets) (params_in ps)
      (result_in m (named_by t f result.base) result.brackets (named_in result.base))

  -- and of a constructor
  pub constructor_in : (l : ℕ) (ps : Params) (body : _) → Holds (HeadIn m) (head_of t f (tree.constructor l ps body))
  constructor_in l ps body =
      holds_map (λ h. HeadIn m h × (h.is_static ≡ false)) (HeadIn m) (λ h is. is.0)
      (head_with false (param_kinds t f ps) (Some kind.Void))
      (head_with_in m false (param_kinds t f ps) (Some kind.Void) (params_in ps) tt)
