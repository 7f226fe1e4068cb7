-- Types that a test finds the same are the same.
use Rattle.std.proofs.Common.{◌≡◌, Bool, true, false, not, ◌&&◌, List, [], ◌∷◌, Option, Some, None, refl, ap, ◌∙◌}
use Rattle.std.proofs.lemmas.Bool.{eqb-true}
use denote.Enum.Bare.{same_true}
use Rattle.ugen_names.specs.contracts.table.UgenKind as ugen_kind
use Rattle.ck_values.specs.declared.kind.Elem.{Elem}
use Rattle.ck_values.specs.declared.kind.Elem.TheVariants as elem
use Rattle.ck_values.specs.declared.kind.Kind.{Kind}
use Rattle.ck_values.specs.declared.kind.Kind.TheVariants.{Void, One, Row, Grid}
use Rattle.type_rules.specs.Fitting.{same_elem}
use Rattle.first_walk.specs.FirstWalk.{same_kind, same_kinds, same_types, may_override}
use Rattle.type_table.specs.declared.class.Head.{Head}
use Rattle.first_walk.proofs.TableFacts.{SameTypes}
use Rattle.type_table.proofs.ListFacts.{Holds}

both : (a b : Bool) → a && b ≡ true → (a ≡ true) × (b ≡ true)
both true b is = (refl, is)
both false b is = absurd (cc)

isnt : (b : Bool) → not b ≡ true → b ≡ false
isnt true is = absurd (cc)
isnt false is = refl

same_elem_is : (a b : Elem) → same_elem a b ≡ true → a ≡ b
same_elem_is elem.Int elem.Int is = refl
same_elem_is elem.Float elem.Float is = refl
same_elem_is elem.Dur elem.Dur is = refl
same_elem_is elem.Time elem.Time is = refl
same_elem_is elem.Text elem.Text is = refl
same_elem_is elem.Shred elem.Shred is = refl
same_elem_is (elem.Class c) (elem.Class d) is = ap elem.Class (eqb-true c d is)
same_elem_is (elem.Unit a) (elem.Unit b) is = ap elem.Unit (same_true ugen_kind.the_type tt a b is)
same_elem_is _ _ is = absurd (cc)

pub same_kind_is : (a b : Kind) → same_kind a b ≡ true → a ≡ b
same_kind_is Void Void is = refl
same_kind_is (One a) (One b) is = ap One (same_elem_is a b is)
same_kind_is (Row a) (Row b) is = ap Row (same_elem_is a b is)
same_kind_is (Grid a) (Grid b) is = ap Grid (same_elem_is a b is)
same_kind_is _ _ is = absurd (cc)

pub same_kinds_are : (a b : List Kind) → same_kinds a b ≡ true → a ≡ b
same_kinds_are [] [] is = refl
same_kinds_are (x ∷ a) (y ∷ b) is =
    let parts = both (same_kind x y) (same_kinds a b) is in
    ap (λ k. k ∷ a) (same_kind_is x y parts.0) ∙ ap (λ l. y ∷ l) (same_kinds_are a b parts.1)
same_kinds_are _ _ is = absurd (cc)

-- what a function may override has its types, and isn't static
pub may_is : (h : Head) (old : Option Head) → may_override h old ≡ true → Holds (λ (x : Head). SameTypes h x × (x.is_static ≡ false)) old
may_is h None is = tt
may_is h (Some x) is =
    let parts = both (same_types h x && not h.is_static) (not x.is_static) is in
    let more = both (same_types h x) (not h.is_static) parts.0 in
    let types = both (same_kinds h.params x.params) (same_kind h.result x.result) more.0 in
    ((same_kinds_are h.params x.params types.0, same_kind_is h.result x.result types.1), isnt x.is_static parts.1)
