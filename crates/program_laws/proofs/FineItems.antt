-- The name of a `for` over an array: its kind is that of a value, and the items are bound to it.
use Rattle.std.proofs.Common.{◌≡◌, ◌⊎◌, inl, inr, ℕ, Bool, true, false, ◌||◌, ◌&&◌, not, if◌then◌else◌}
use Rattle.std.proofs.Common.{List, Option, Some, None, refl, sym, ap, subst}
use Rattle.std.specs.Prelude.{nat_lt, slice_get}
use Rattle.ck_values.specs.declared.kind.Elem.{Elem}
use Rattle.ck_values.specs.declared.kind.Elem.TheVariants as elem
use Rattle.ck_values.specs.declared.kind.Kind.{Kind}
use Rattle.ck_values.specs.declared.kind.Kind.TheVariants.{Void, Null, One, Row, Grid}
use Rattle.ck_syntax.specs.declared.declaration.Base.{Base}
use Rattle.ck_syntax.specs.declared.declaration.DeclHead.{DeclHead}
use Rattle.ck_syntax.specs.Tree.{Name}
use Rattle.ck_typed.specs.Standing.{Stands, given}
use Rattle.ck_typed.specs.Tree.{Program}
use Rattle.ck_typed.specs.WellFormed.{FoundWhere, HasItems, Binds, BindsItems, HasKind}
use Rattle.type_rules.specs.Fitting.{kind_fits}
use Rattle.type_table.specs.declared.types.Named.{Named}
use Rattle.type_table.specs.declared.types.Named.TheVariants as named
use Rattle.type_table.specs.Table.{Table}
use Rattle.type_table.specs.Types.{named_by, is_unknown, kind_of}
use Rattle.type_table.proofs.Ranges.{ElemIn, KindIn, ValueIn, many}
use Rattle.check_scope.specs.Denotations.{Typed}
use Rattle.check_scope.specs.Scope.{Scope, is_declared}
use Rattle.expr_laws.proofs.FineTypes.{NamedIn, named_in, kind_of_in, same_some}
use Rattle.expr_laws.proofs.Oks.{ok_if}
use Rattle.expr_laws.proofs.Premises.{Ok, Has, Valued, IsValue}
use Rattle.expr_laws.proofs.Standing.{Widens, kind_fit, same_elem_is, stands}
use Rattle.program_laws.specs.Statements.{item_kind, may_have_at, head_kind, taken_item, auto_item}
use Rattle.program_laws.specs.Statements.{local_item, widens}

-- the kind that a head gives is that of a value
head_kind_in : (n : ℕ) (h : DeclHead) (w : Named) (brackets : ℕ) (k : Kind) → NamedIn n w
    → head_kind h w brackets ≡ Some k → ValueIn n k
head_kind_in n h (named.Elem e) brackets k within is =
    go (h.is_reference && not (may_have_at e brackets)) is
  where
    go : (c : Bool) → (if c then None else kind_of e brackets) ≡ Some k → ValueIn n k
    go true is = absurd (cc)
    go false is = kind_of_in n e brackets k within.0 is
head_kind_in n h _ brackets k within is = absurd (cc)

-- an array has a kind
is_given : (a j : Kind) → HasItems a j → given a ≡ a
is_given Void j items = absurd items
is_given Null j items = refl
is_given (One e) j items = refl
is_given (Row e) j items = refl
is_given (Grid e) j items = refl

module _ (p : Program) (t : Table) (has : Has p t) where
  -- a local of this kind takes the items of such an array
  abbrev pub TakesItems : (array local : Kind) → Type 0
  TakesItems a k = (j : Kind) × HasItems a j × Binds p.classes (widens a k) j k

  only_stands : (a b : Kind) → Widens a b ⊎ Stands p.classes (given a) (given b) → (Widens a b → ⊥)
      → Stands p.classes (given a) (given b)
  only_stands a b (inl widens) never = absurd (never widens)
  only_stands a b (inr stands) never = stands

  row_binds : (e : Elem) (k : Kind) → ElemIn (many t) e → kind_fits t.parents (One e) k ≡ true
      → Binds p.classes (widens (Row e) k) (One e) k
  row_binds elem.Int (One elem.Float) within fit = (refl, refl)
  row_binds e (One f) within fit =
      only_stands (One e) (One f) (kind_fit p t has (One e) (One f) within fit)
      (λ w. absurd (cc))
  row_binds e _ within fit = absurd (cc)

  grid_binds : (e : Elem) (k : Kind) → kind_fits t.parents (Row e) k ≡ true
      → Stands p.classes (Row e) k
  grid_binds e (Row f) fit = ap Row (same_elem_is e f fit)
  grid_binds e _ fit = absurd (cc)

  -- an item that fits
  fit_binds : (a j k : Kind) → item_kind a ≡ Some j → KindIn (many t) a
      → kind_fits t.parents j k ≡ true → TakesItems a k
  fit_binds (Row e) j k is within fit = (
    One e,
    refl,
    row_binds e k within
        (subst (λ i. kind_fits t.parents i k ≡ true) (sym (same_some (One e) j is)) fit),
  )
  fit_binds (Grid e) j k is within fit = (
    Row e,
    refl,
    grid_binds e k
        (subst (λ i. kind_fits t.parents i k ≡ true) (sym (same_some (Row e) j is)) fit),
  )
  fit_binds _ j k is within fit = absurd (cc)

  -- an item's own kind
  itself_binds : (e : Elem) → Binds p.classes (widens (Row e) (One e)) (One e) (One e)
  itself_binds elem.Int = refl
  itself_binds (elem.Class c) = stands p.classes (One (elem.Class c))
  itself_binds (elem.Unit u) = stands p.classes (One (elem.Unit u))
  itself_binds _ = refl

  item_binds : (a k : Kind) → item_kind a ≡ Some k → KindIn (many t) a
      → ValueIn (many t) k × TakesItems a k
  item_binds (Row e) k is within =
      subst (λ i. ValueIn (many t) i × TakesItems (Row e) i) (same_some (One e) k is)
      (within, (One e, refl, itself_binds e))
  item_binds (Grid e) k is within =
      subst (λ i. ValueIn (many t) i × TakesItems (Grid e) i) (same_some (Row e) k is)
      (within, (Row e, refl, stands p.classes (Row e)))
  item_binds _ k is within = absurd (cc)

  module _ (a : Kind) (within : KindIn (many t) a) (s : Scope) (l : ℕ) where
    -- the name of the items has such a kind
    abbrev Item : Kind → Type 0
    Item k = ValueIn (many t) k × TakesItems a k

    taken_item_is : (item local : Option Kind) → item_kind a ≡ item
        → ((k : Kind) → local ≡ Some k → ValueIn (many t) k)
        → Ok Item (taken_item t.parents s l item local)
    taken_item_is (Some j) (Some k) is value =
        ok_if Item (kind_fits t.parents j k) _ _
        (λ fit. (value k refl, fit_binds a j k is within fit)) (λ unfit. tt)
    taken_item_is None local is value = tt
    taken_item_is (Some j) None is value = tt

    auto_item_is : (h : DeclHead) (brackets : ℕ) (item : Option Kind) → item_kind a ≡ item
        → Ok Item (auto_item s l h brackets item)
    auto_item_is h brackets None is = tt
    auto_item_is h brackets (Some k) is =
        ok_if Item (h.is_reference || nat_lt 0 brackets) _ _ (λ _. tt)
        (λ _. item_binds a k is within)

    pub local_item_is : (h : DeclHead) (n : Name) (brackets : ℕ) (base : Option Base)
        → Ok Item (local_item t s l h n brackets (item_kind a) base)
    local_item_is h n brackets None =
        ok_if Item (is_declared s n) _ _ (λ _. tt)
        (λ _. auto_item_is h brackets (item_kind a) refl)
    local_item_is h n brackets (Some b) =
        ok_if Item (is_unknown (named_by t s.file b)) _ _ (λ _. tt) (λ _.
        ok_if Item (is_declared s n) _ _ (λ _. tt) (λ _.
        taken_item_is (item_kind a) (head_kind h (named_by t s.file b) brackets) refl
        (λ k is. head_kind_in (many t) h (named_by t s.file b) brackets k
        (named_in p t has s.file b) is)))

  -- the items of a value are bound to a local that takes them
  pub items_bound : (all : List Kind) (x : Typed) (i : ℕ) (k : Kind) → IsValue p t all x
      → TakesItems x.kind k → slice_get all i ≡ Some k
      → BindsItems p all i (widens x.kind k) (HasKind p all x.expr)
  items_bound all x i k is takes found = (
    x.kind,
    takes.0,
    subst (Valued p t all x.expr) (is_given x.kind takes.0 takes.1) is.0,
    takes.1,
    subst (λ local. FoundWhere local (Binds p.classes (widens x.kind k) takes.0)) (sym found)
        takes.2,
  )
