-- What `take` does to the counts.
use Rattle.std.proofs.lemmas.Bool.Decides.{nat_tests}
use Rattle.std.proofs.Common.{IsSome, ◌≡◌, ◌≢◌, inl, inr, ℕ, ◌+◌, ◌<◌, List, [], ◌∷◌, Option, Some, None, is_some, refl, sym, ap, ◌∙◌, arith, cond, subst}
use Rattle.std.specs.Prelude.{IfNone}
use Rattle.slab.specs.Slab.{Slab, get, Updates}
use Rattle.ck_values.specs.declared.reference.Ref.{Ref}
use Rattle.counted_heap.specs.Places.{places}
use Rattle.object_heap.specs.declared.body.Body.{Body}
use Rattle.counted_heap.specs.declared.cell.Cell.{Cell}
use Rattle.object_heap.specs.Objects.{values_of}
use Rattle.counted_heap.specs.Cells.{Cells, cell_at, in_cell, inner, count_in, count_at, body_in, body_at, IsCounted, link_in, link_at, waits, times, IsChained, Runs}
use Rattle.counted_heap.specs.Counted.{Counted, outside, object, Takes, NoneChained}
use Rattle.counted_heap.specs.Stands.{StandsOn}
use Rattle.counted_heap.proofs.Lawful.{lawful_cells}
use Rattle.counted_heap.proofs.Standing.{stands_taken}
use Rattle.counted_heap.proofs.Writes.{full, same-ref, Wrote, Wrote-updates, Holds, count-held, chained_less}
use Rattle.counted_heap.proofs.Reading.{heap_of, outside_is, object_is, object_at, link-zero}
use Rattle.std.proofs.lemmas.Bool.{cases_eq}

-- the chain
pub none_chained : (cs : Cells) (now : Counted) (next : ℕ) → heap_of cs next ≡ now
    → IsChained cs None → NoneChained now
none_chained cs now next view chain = λ r live.
    let P : Counted → Type 0 = λ h. 0 < count_at h.cells r in
    subst P view (by_body r (object now r) refl live)
  where
    by_path : (path : List ℕ) → Runs cs None path → ((k : ℕ) → times k path ≡ waits cs k) → (k : ℕ)
        → waits cs k ≡ 0
    by_path [] runs each k = sym (each k)
    by_path (i ∷ path) runs each k = absurd (cc)

    by_cell : (r : Ref) (c : Cell) → Holds cs r c → 0 < count_at cs r
    by_cell r c held = elim (cases_eq c.count 0) [
      | inl gone ↦
          let z = by_path chain.path chain.runs chain.each r.slot in
          let l : waits cs r.slot ≡ 1 =
          ap (λ o. cond (is_some o) 1 0) (link-zero cs r.slot c held.at gone) in
          absurd (omega arith)
      | inr left ↦ let n = count-held cs r c held in omega arith
    ]

    by_body : (r : Ref) (x : Option Body) → object now r ≡ x → IsSome x → 0 < count_at cs r
    by_body r None e live = absurd (cc)
    by_body r (Some b) e live = let o = object_is cs r b (ap (λ (h : Counted). object h r) view
        ∙ e) in by_cell r o.0 o.1

pub chain_head : (cs : Cells) (k : ℕ) → IsChained cs (Some k) → (c : Cell) × (cell_at cs k ≡ Some c)
    × (c.count ≡ 0)
unfolding link_at
chain_head cs k chain = by_path chain.path chain.runs
  where
    by_cell : (next : Option ℕ) (x : Option Cell) → cell_at cs k ≡ x → link_in x ≡ Some next
        → (c : Cell) × (cell_at cs k ≡ Some c) × (c.count ≡ 0)
    by_cell next None e l = absurd (cc)
    by_cell next (Some c) e l =
        elim (cases_eq c.count 0) [
          | inl gone ↦ (c, e, gone)
          | inr left ↦
              absurd (grind (arith, nat_tests))
        ]

    by_path : (path : List ℕ) → Runs cs (Some k) path → (c : Cell) × (cell_at cs k ≡ Some c)
        × (c.count ≡ 0)
    by_path [] runs = absurd (cc)
    by_path (i ∷ path) runs =
        let here : i ≡ k = cc in
        by_cell runs.0 (cell_at cs k) refl (ap (λ j. link_in (cell_at cs j)) (sym here) ∙ runs.2)

-- a chained object goes
module _ (old new : Cells) (next : ℕ) (k : ℕ) (c : Cell) (here : cell_at old k ≡ Some c)
    (gone : c.count ≡ 0) (wrote : Wrote old new k None) (was : IsCounted old next) where
  abbrev it : Ref
  it = record { serial = c.serial; slot = k }

  took_count : (r : Ref) → count_at new r ≡ count_at old r
  unfolding count_at
  took_count r = elim (cases_eq r.slot k) [
    | inl slot ↦
        let e : cell_at new r.slot ≡ None = ap (cell_at new) slot ∙ wrote.here in
        let f : cell_at old r.slot ≡ Some c = ap (cell_at old) slot ∙ here in
        rw (e, f, gone) (grind (arith, nat_tests))
    | inr slot ↦ ap (count_in r) (wrote.there r.slot slot)
  ]

  took_inner : (r : Ref) → inner new r + places r (values_of c.body) ≡ inner old r
  took_inner r = let i = wrote.inside r in
      let e : in_cell r (cell_at old k) ≡ places r (values_of c.body) = ap (in_cell r) here in
      omega arith

  took_from : (j : ℕ) (d : Cell) → cell_at new j ≡ Some d → cell_at old j ≡ Some d
  took_from j d e = elim (cases_eq j k) [
    | inl same ↦ let f : None ≡ Some d = sym wrote.here ∙ ap (cell_at new) (sym same)
        ∙ e in absurd (cc)
    | inr other ↦ sym (wrote.there j other) ∙ e
  ]

  took_counted : IsCounted new next
  took_counted = record {
    first = was.first;
    room = was.room;
    covered = λ r. let w = was.covered r in let n = took_count r in let i = took_inner r in
        omega arith;
    numbered = λ j d e. was.numbered j d (took_from j d e);
    apart = λ i j d e p q alike. was.apart i j d e (took_from i d p) (took_from j e q) alike;
  }

  took_chained : IsChained old (Some k) → IsChained new c.link
  unfolding link_at
  took_chained chain = chained_less old new k c.link (rw (here, gone)) (ap link_in wrote.here)
      (λ j other. ap link_in (wrote.there j other)) chain

  took_here : body_at new it ≡ None
  unfolding body_at
  took_here = rw wrote.here

  took_there : (r : Ref) → r ≢ it → body_at new r ≡ body_at old r
  unfolding body_at
  took_there r other = elim (cases_eq r.slot k) [
    | inl slot ↦ elim (cases_eq r.serial c.serial) [
      | inl serial ↦ absurd (other (same-ref _ _ serial slot))
      | inr serial ↦
          let e : cell_at new r.slot ≡ None = ap (cell_at new) slot ∙ wrote.here in
          let f : cell_at old r.slot ≡ Some c = ap (cell_at old) slot ∙ here in
          rw (e, f) (grind (arith, nat_tests))
    ]
    | inr slot ↦ ap (body_in r) (wrote.there r.slot slot)
  ]

  takes : Takes (heap_of old next) (heap_of new next) c.body
  takes = record {
    gone = it;
    was = object_at old it c (record { at = here; serial = refl });
    chained = count-held old it c (record { at = here; serial = refl }) ∙ gone;
    here = took_here;
    there = took_there;
    next = refl;
    live = (let n = wrote.number in let e = ap full here in omega arith);
  }

  pub take_done : (now : Counted) → heap_of old next ≡ now → IsChained old (Some k)
      → (IsCounted new next × IsChained new c.link)
      × ((r : Ref) → outside (heap_of new next) r ≡ outside now r + places r (values_of c.body))
      × Takes now (heap_of new next) c.body
      × StandsOn now (heap_of new next) (λ s. s)
  take_done now view chain = (
    (took_counted, took_chained chain),
    (λ r.
        let i = took_inner r in
        let n = took_count r in
        let o = outside_is old next was r in
        let p = outside_is new next took_counted r in
        let e = ap (λ (h : Counted). outside h r) view in
        omega arith),
    (let P : Counted → Type 0 = λ h. Takes h (heap_of new next) c.body in subst P view takes),
    (let P : Counted → Type 0 = λ h. StandsOn h (heap_of new next) (λ s. s) in
        subst P view (λ s stood. stands_taken (heap_of old next) (heap_of new next) s c.body
        (lawful_cells old next was) (lawful_cells new next took_counted) takes stood)),
  )

pub head_of : (cs : Cells) (o p : Option ℕ) → o ≡ p → IsChained cs o → IsChained cs p
head_of cs o p e chain = let P : Option ℕ → Type 0 = λ x. IsChained cs x in subst P e chain

pub is_none : (result : Option Body) (P : Type 0) → result ≡ None → P → IfNone result P
is_none result P e p = rw e p

pub get_head : (cs : Cells) (k : ℕ) (result : Option Cell) → IsChained cs (Some k)
    → result ≡ cell_at cs k → IsSome result
get_head cs k result chain e = let h = chain_head cs k chain in rw (e, h.1) refl

pub take_found : (old new : Slab Cell) (next : ℕ) (k : ℕ) (c : Cell) → get old k ≡ Some c
    → Updates old new k None → IsCounted old.slots next → (now : Counted)
    → heap_of old.slots next ≡ now → IsChained old.slots (Some k)
    → (IsCounted new.slots next × IsChained new.slots c.link)
    × ((r : Ref) → outside (heap_of new.slots next) r ≡ outside now r + places r (values_of c.body))
    × Takes now (heap_of new.slots next) c.body
    × StandsOn now (heap_of new.slots next) (λ s. s)
take_found old new next k c e up was now view chain =
    let h = chain_head old.slots k chain in
    let f : Some h.0 ≡ Some c = sym h.1 ∙ e in
    let g : h.0 ≡ c = cc in
    take_done old.slots new.slots next k c e (ap (λ (y : Cell). y.count) (sym g)
    ∙ h.2) (Wrote-updates old new k None up) was now view chain
