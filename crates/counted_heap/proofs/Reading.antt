-- What a reference finds in the cells of a heap.
use Rattle.std.proofs.lemmas.Bool.Decides.{nat_tests}
use Rattle.std.proofs.lemmas.Bool.{cases_eq}
use Rattle.std.specs.Option.{option_copied}
use Rattle.std.proofs.Common.{Bor, IsSome, IsSomeAnd, ◌≡◌, ◌≢◌, inl, inr, ℕ, ◌+◌, ◌<◌, ◌≤◌, Option, Some, None, refl, sym, ap, ◌∙◌, arith, subst}
use Rattle.ck_values.specs.declared.reference.Ref.{Ref}
use Rattle.object_heap.specs.declared.body.Body.{Body}
use Rattle.counted_heap.specs.declared.cell.Cell.{Cell}
use Rattle.counted_heap.specs.Cells.{Cells, cell_at, inner, count_at, body_in, body_at, IsCounted, link_in, link_at}
use Rattle.counted_heap.specs.Counted.{Counted, outside, object}
use Rattle.counted_heap.proofs.Writes.{Wrote, Holds, held_is}

abbrev pub heap_of : Cells → ℕ → Counted
heap_of cs next = record { cells = cs; next = next }

pub outside_is : (cs : Cells) (next : ℕ) → IsCounted cs next → (r : Ref)
    → outside (heap_of cs next) r + inner cs r ≡ count_at cs r
unfolding outside
outside_is cs next good r = omega (arith, good.covered r)

pub link-held : (cs : Cells) (k : ℕ) (c : Cell) → cell_at cs k ≡ Some c → 0 < c.count
    → link_at cs k ≡ None
unfolding link_at
link-held cs k c e some = rw e (grind (arith, nat_tests))

pub link-zero : (cs : Cells) (k : ℕ) (c : Cell) → cell_at cs k ≡ Some c → c.count ≡ 0
    → link_at cs k ≡ Some c.link
unfolding link_at
link-zero cs k c e none = rw (e, none)

pub link-there : (old new : Cells) (k : ℕ) (x : Option Cell) → Wrote old new k x → (j : ℕ) → j ≢ k
    → link_at new j ≡ link_at old j
unfolding link_at
link-there old new k x wrote j differs = ap link_in (wrote.there j differs)

pub outside-le : (h : Counted) (r : Ref) → outside h r ≤ count_at h.cells r
unfolding outside
outside-le h r = omega arith

-- a live object stands in its cell
pub object_is : (cs : Cells) (r : Ref) (b : Body) → body_at cs r ≡ Some b → (c : Cell)
    × Holds cs r c × (c.body ≡ b)
unfolding body_at
object_is cs r b e = by_cell (cell_at cs r.slot) refl e
  where
    by_cell : (x : Option Cell) → cell_at cs r.slot ≡ x → body_in r x ≡ Some b → (c : Cell)
        × Holds cs r c × (c.body ≡ b)
    by_cell None at e = absurd (cc)
    by_cell (Some c) at e = elim (cases_eq c.serial r.serial) [
      | inl same ↦ (c, record { at = at; serial = same }, grind (arith, nat_tests))
      | inr other ↦ absurd (grind (arith, nat_tests))
    ]

pub object_at : (cs : Cells) (r : Ref) (c : Cell) → Holds cs r c → body_at cs r ≡ Some c.body
unfolding body_at
object_at cs r c h = rw h.at (let s = h.serial in grind (arith, nat_tests))

-- a look-up of an object that meets a condition
pub record ReadsBody (cs : Cells) (now : Counted) (next : ℕ) (at : Ref) (P : Body
    → Type 0) : Type 0 where
  pub view : heap_of cs next ≡ now
  pub live : IsSomeAnd (object now at) P

pub body_read : (cs : Cells) (now : Counted) (next : ℕ) (at : Ref) (P : Body → Type 0)
    → ReadsBody cs now next at P → (c : Cell) × Holds cs at c × P c.body
    × (object now at ≡ Some c.body)
body_read cs now next at P reads = by_body (object now at) refl reads.live
  where
    by_body : (x : Option Body) → object now at ≡ x → IsSomeAnd x P → (c : Cell) × Holds cs at c
        × P c.body × (object now at ≡ Some c.body)
    by_body None e live = absurd live
    by_body (Some b) e live =
        let o = object_is cs at b (ap (λ (h : Counted). object h at) reads.view ∙ e) in (
          o.0,
          o.1,
          (let Q : Body → Type 0 = λ y. P y in subst Q (sym o.2) live),
          e
              ∙ ap Some (sym o.2),
        )

pub live_is : (cs : Cells) (now : Counted) (next : ℕ) (at : Ref) → heap_of cs next ≡ now
    → IsSome (object now at) → (c : Cell) × Holds cs at c × (object now at ≡ Some c.body)
live_is cs now next at view live = by_body (object now at) refl live
  where
    by_body : (x : Option Body) → object now at ≡ x → IsSome x → (c : Cell) × Holds cs at c
        × (object now at ≡ Some c.body)
    by_body None e live = absurd (cc)
    by_body (Some b) e live =
        let o = object_is cs at b (ap (λ (h : Counted). object h at) view ∙ e) in
        (o.0, o.1, e ∙ ap Some (sym o.2))

pub get_live : (cs : Cells) (now : Counted) (next : ℕ) (at : Ref) (result : Option (Bor Cell))
    → heap_of cs next ≡ now → IsSome (object now at) → option_copied result ≡ cell_at cs at.slot
    → IsSome result
get_live cs now next at None view live e =
    let l = live_is cs now next at view live in
    let f : None ≡ Some l.0 = e ∙ l.1.at in
    absurd (cc)
get_live cs now next at (Some x) view live e = refl

pub body_of : (cs : Cells) (now : Counted) (next : ℕ) (at : Ref) (c : Cell) → heap_of cs next ≡ now
    → IsSome (object now at) → cell_at cs at.slot ≡ Some c → object now at ≡ Some c.body
body_of cs now next at c view live e =
    let l = live_is cs now next at view live in
    let f : Some l.0 ≡ Some c = sym l.1.at ∙ e in
    let g : l.0 ≡ c = cc in
    l.2 ∙ ap (λ (x : Cell). Some x.body) g

-- what `get` answers at the slot of an object that is held
pub get_held : (old : Cells) (now : Counted) (next : ℕ) (at : Ref) (result : Option (Bor Cell))
    → heap_of old next ≡ now → 0 < count_at now.cells at
    → option_copied result ≡ cell_at old at.slot → IsSome result
get_held old now next at None view held e =
    let n = ap (λ (h : Counted). count_at h.cells at) view in
    let h = held_is old at (omega arith) in
    let f : None ≡ Some h.0 = e ∙ h.1.at in
    absurd (cc)
get_held old now next at (Some x) view held e = refl
