-- What a write of one cell does to the counts, the objects and the chain.
use Rattle.std.proofs.lemmas.Bool.Decides.{nat_tests}
use Rattle.std.proofs.lemmas.Bool.{cases_eq}
use Rattle.std.proofs.lemmas.List.Sums.{sum_by-set, sum_by-cons}
use Rattle.std.proofs.Common.{◌≡◌, ◌≢◌, ◌⊎◌, inl, inr, ℕ, zero, suc, ◌+◌, ◌<◌, ◌≤◌, List, [], ◌∷◌, length, Option, Some, None, is_some, refl, sym, ap, ◌∙◌, arith, set, get_or, get_or-set_same, get_or-set_other, subst, cond}
use Rattle.std.specs.Prelude.{sum_by, count_by}
use Rattle.slab.specs.Slab.{Slab, Updates}
use Rattle.ck_values.specs.declared.reference.Ref.{Ref}
use Rattle.counted_heap.specs.Places.{hit, places}
use Rattle.counted_heap.proofs.Counting.{hit-same, hit-serial, hit-slot}
use Rattle.counted_heap.specs.declared.cell.Cell.{Cell}
use Rattle.object_heap.specs.Objects.{values_of}
use Rattle.counted_heap.specs.Cells.{Cells, cell_at, in_cell, inner, count_in, count_at, body_in, body_at, IsCounted, link_at, waits, times, Runs, IsChained}

abbrev pub full : Option Cell → ℕ
full x = cond (is_some x) 1 0

-- new has x in the cell k, and is old elsewhere
pub record Wrote (old new : Cells) (k : ℕ) (x : Option Cell) : Type 0 where
  pub here : cell_at new k ≡ x
  pub there : (j : ℕ) → j ≢ k → cell_at new j ≡ cell_at old j
  pub inside : (r : Ref) → inner new r + in_cell r (cell_at old k) ≡ inner old r + in_cell r x
  pub number : count_by is_some new + full (cell_at old k) ≡ count_by is_some old + full x

pub within : (cs : Cells) (k : ℕ) (c : Cell) → cell_at cs k ≡ Some c → k < length cs
within [] k c e = absurd (cc)
within (x ∷ xs) zero c e = omega arith
within (x ∷ xs) (suc k) c e = omega (arith, within xs k c e)

pub Wrote-set : (cs : Cells) (k : ℕ) (c : Cell) (x : Option Cell) → cell_at cs k ≡ Some c
    → Wrote cs (set cs k x) k x
unfolding inner
Wrote-set cs k c x e =
    let h = within cs k c e in
    record {
      here = get_or-set_same cs k x None h;
      there = λ j differs. get_or-set_other cs k j x None differs;
      inside = λ r. sum_by-set (in_cell r) cs k x None h;
      number = sum_by-set full cs k x None h;
    }

pub same-ref : (q r : Ref) → q.serial ≡ r.serial → q.slot ≡ r.slot → q ≡ r
same-ref q r serial slot =
    ap (λ (s : ℕ). let x : Ref = record { serial = s; slot = q.slot } in x) serial
    ∙ ap (λ (k : ℕ). let x : Ref = record { serial = r.serial; slot = k } in x) slot

-- a cell with a count
pub record Holds (cs : Cells) (r : Ref) (c : Cell) : Type 0 where
  pub at : cell_at cs r.slot ≡ Some c
  pub serial : c.serial ≡ r.serial

pub count-held : (cs : Cells) (r : Ref) (c : Cell) → Holds cs r c → count_at cs r ≡ c.count
unfolding count_at
count-held cs r c h = rw h.at (let s = h.serial in grind (arith, nat_tests))

pub held_is : (cs : Cells) (r : Ref) → 0 < count_at cs r → (c : Cell) × Holds cs r c
unfolding count_at
held_is cs r some = by_cell (cell_at cs r.slot) refl some
  where
    by_cell : (x : Option Cell) → cell_at cs r.slot ≡ x → 0 < count_in r x → (c : Cell)
        × Holds cs r c
    by_cell None e some = absurd (omega arith)
    by_cell (Some c) e some = (
      c,
      record {
        at = e;
        serial =
            elim (cases_eq c.serial r.serial) [
              | inl same ↦ same
              | inr other ↦
                  absurd (grind (arith, nat_tests))
            ];
      },
    )

module _ (old new : Cells) (at : Ref) (c d : Cell) (held : Holds old at c)
    (wrote : Wrote old new at.slot (Some d)) (same : d.serial ≡ c.serial) (some : 0 < at.serial)
  where
    held_after : Holds new at d
    held_after = record { at = wrote.here; serial = same ∙ held.serial }

    -- another reference's count stays
    count-other : (r : Ref) → (r.slot ≢ at.slot) ⊎ (r.serial ≢ at.serial)
        → count_at new r ≡ count_at old r
    unfolding count_at
    count-other r (inl slot) = ap (count_in r) (wrote.there r.slot slot)
    count-other r (inr serial) = elim (cases_eq r.slot at.slot) [
      | inl slot ↦
          let s = held.serial in
          let e : cell_at new r.slot ≡ Some d = ap (cell_at new) slot ∙ wrote.here in
          let f : cell_at old r.slot ≡ Some c = ap (cell_at old) slot ∙ held.at in
          rw (e, f) (grind (arith, nat_tests))
      | inr slot ↦ ap (count_in r) (wrote.there r.slot slot)
    ]

    -- at r the count is d's, and elsewhere it stays
    pub count_turn : (r : Ref)
        → ((hit r at ≡ 1) × (count_at new r ≡ d.count) × (count_at old r ≡ c.count))
        ⊎ ((hit r at ≡ 0) × (count_at new r ≡ count_at old r))
    count_turn r = elim (cases_eq at.slot r.slot) [
      | inl slot ↦ elim (cases_eq at.serial r.serial) [
        | inl serial ↦ inl (
          hit-same r at some serial slot,
          count-held new r d (record {
            at = ap (cell_at new) (sym slot) ∙ wrote.here;
            serial = same
                ∙ held.serial ∙ serial;
          }),
          count-held old r c (record {
            at = ap (cell_at old) (sym slot)
                ∙ held.at;
            serial = held.serial ∙ serial;
          }),
        )
        | inr serial ↦ inr (hit-serial r at serial, count-other r (inr (λ e. serial (sym e))))
      ]
      | inr slot ↦ inr (hit-slot r at slot, count-other r (inl (λ e. slot (sym e))))
    ]

    -- an object's body stays
    pub bodies_stay : d.body ≡ c.body → (r : Ref) → body_at new r ≡ body_at old r
    unfolding body_at
    bodies_stay body r = elim (cases_eq r.slot at.slot) [
      | inl slot ↦
          let e : cell_at new r.slot ≡ Some d = ap (cell_at new) slot ∙ wrote.here in
          let f : cell_at old r.slot ≡ Some c = ap (cell_at old) slot ∙ held.at in
          rw (e, f, same, body)
      | inr slot ↦ ap (body_in r) (wrote.there r.slot slot)
    ]

    pub live_stays : count_by is_some new ≡ count_by is_some old
    live_stays = let n = wrote.number in let e = ap full held.at in omega arith

    pub inner_stays : d.body ≡ c.body → (r : Ref) → inner new r ≡ inner old r
    inner_stays body r =
        let i = wrote.inside r in
        let e : in_cell r (cell_at old at.slot) ≡ places r (values_of c.body) =
        ap (in_cell r) held.at in
        let b : places r (values_of d.body) ≡ places r (values_of c.body) =
        ap (λ x. places r (values_of x)) body in
        omega arith

    -- the cells with other numbers stay apart
    cell_from : (k : ℕ) (e : Cell) → cell_at new k ≡ Some e → (o : Cell) × (cell_at old k ≡ Some o)
        × (o.serial ≡ e.serial)
    cell_from k e here = elim (cases_eq k at.slot) [
      | inl slot ↦
          let f : Some d ≡ Some e = sym wrote.here ∙ ap (cell_at new) (sym slot) ∙ here in
          let g : d ≡ e = cc in
          (c, ap (cell_at old) slot ∙ held.at, sym same ∙ ap (λ x. x.serial) g)
      | inr slot ↦ (e, sym (wrote.there k slot) ∙ here, refl)
    ]

    pub counted_after : (next : ℕ) → IsCounted old next → ((r : Ref) → inner new r ≤ count_at new r)
        → IsCounted new next
    counted_after next was covered =
        record {
          first = was.first;
          room = was.room;
          covered = covered;
          numbered = λ k e here. let o = cell_from k e here in let n = was.numbered k o.0 o.1 in
              (omega (arith, n.0, o.2), omega (arith, n.1, o.2));
          apart = λ j k e f here there alike.
              let o = cell_from j e here in
              let p = cell_from k f there in
              was.apart j k o.0 p.0 o.1 p.1 (o.2 ∙ alike ∙ sym p.2);
        }

abbrev if_some : Option (Option ℕ) → ℕ
if_some x = cond (is_some x) 1 0

-- a link that isn't changed
module _ (old new : Cells) where
  pub Runs-kept : (head : Option ℕ) (path : List ℕ)
      → ((j : ℕ) → 0 < times j path → link_at new j ≡ link_at old j) → Runs old head path
      → Runs new head path
  Runs-kept head [] kept runs = runs
  Runs-kept head (k ∷ ks) kept runs = (
    runs.0,
    runs.1,
    kept k (grind (arith, nat_tests))
        ∙ runs.2,
    Runs-kept runs.0 ks (λ j some. kept j (omega arith)) runs.3,
  )

  pub chained_same : (head : Option ℕ) → ((j : ℕ) → link_at new j ≡ link_at old j)
      → IsChained old head → IsChained new head
  chained_same head kept was = record {
    path = was.path;
    runs = Runs-kept head was.path (λ j _. kept j) was.runs;
    each = λ k. was.each k ∙ ap (λ (x : Option (Option ℕ)). if_some x) (sym (kept k));
  }

  -- a cell joins the chain at its head
  pub chained_more : (k : ℕ) (head : Option ℕ) → link_at old k ≡ None → link_at new k ≡ Some head
      → ((j : ℕ) → j ≢ k → link_at new j ≡ link_at old j) → IsChained old head
      → IsChained new (Some k)
  chained_more k head was_none is kept was = record {
    path = k ∷ was.path;
    runs = (
      head,
      refl,
      is,
      Runs-kept head was.path
          (λ j some. kept j (λ e. let z = was.each j in let y : waits old j ≡ 0 =
          ap if_some (ap (link_at old) e ∙ was_none) in absurd (omega arith))) was.runs,
    );
    each = λ j. elim (cases_eq j k) [
      | inl e ↦
          let z = was.each j in
          let y : waits old j ≡ 0 = ap if_some (ap (link_at old) e ∙ was_none) in
          let n : waits new j ≡ 1 = ap if_some (ap (link_at new) e ∙ is) in
          grind (arith, nat_tests)
      | inr e ↦
          let z = was.each j in
          let n : waits new j ≡ waits old j = ap if_some (kept j e) in
          grind (arith, nat_tests)
    ];
  }

  -- the head leaves the chain
  pub chained_less : (k : ℕ) (next : Option ℕ) → link_at old k ≡ Some next → link_at new k ≡ None
      → ((j : ℕ) → j ≢ k → link_at new j ≡ link_at old j) → IsChained old (Some k)
      → IsChained new next
  chained_less k next is now_none kept was = by_path was.path was.runs was.each
    where
      by_path : (path : List ℕ) → Runs old (Some k) path → ((j : ℕ) → times j path ≡ waits old j)
          → IsChained new next
      by_path [] runs each = absurd (cc)
      by_path (i ∷ path) runs each =
          let here : i ≡ k = cc in
          let follow : runs.0 ≡ next = let a : Some runs.0 ≡ Some next = sym runs.2
          ∙ ap (link_at old) here ∙ is in cc in
          let once : times k path ≡ 0 = let z = each k in let y : waits old k ≡ 1 = ap if_some is in
          grind (arith, nat_tests) in
          record {
            path = path;
            runs = Runs-kept next path
                (λ j some. kept j (λ e. let z : times j path ≡ 0 = rw e once in
                absurd (omega arith))) (let P : Option ℕ
                → Type 0 = λ o. Runs old o path in subst P follow runs.3);
            each = λ j. elim (cases_eq j k) [
              | inl e ↦
                  let n : waits new j ≡ 0 = ap if_some (ap (link_at new) e ∙ now_none) in
                  let z : times j path ≡ 0 = rw e once in
                  omega arith
              | inr e ↦
                  let z = each j in
                  let n : waits new j ≡ waits old j = ap if_some (kept j e) in
                  grind (arith, nat_tests)
            ];
          }

-- a write that is told by what each key has
module _ {X : Type 0} (f : Option X → ℕ) (nothing : f None ≡ 0) where
  all_same : (xs ys : List (Option X)) → ((j : ℕ) → get_or ys j None ≡ get_or xs j None)
      → sum_by f ys ≡ sum_by f xs
  all_same [] [] h = refl
  all_same [] (y ∷ ys) h = let e = ap f (h 0) in
      omega (arith, nothing, sum_by-cons f y ys, all_same [] ys (λ j. h (suc j)))
  all_same (x ∷ xs) [] h = let e = ap f (h 0) in
      omega (arith, nothing, sum_by-cons f x xs, all_same xs [] (λ j. h (suc j)))
  all_same (x ∷ xs) (y ∷ ys) h = let e = ap f (h 0) in
      omega (arith, sum_by-cons f x xs, sum_by-cons f y ys, all_same xs ys (λ j. h (suc j)))

  later : (P : ℕ → Type 0) (k : ℕ) → ((j : ℕ) → j ≢ suc k → P j) → (j : ℕ) → j ≢ k → P (suc j)
  later P k h j differs = h (suc j) (λ e. differs (omega arith))

  first : (P : ℕ → Type 0) → ((j : ℕ) → j ≢ zero → P j) → (j : ℕ) → P (suc j)
  first P h j = h (suc j) (λ e. absurd (omega arith))

  pub one_differs : (xs ys : List (Option X)) (k : ℕ)
      → ((j : ℕ) → j ≢ k → get_or ys j None ≡ get_or xs j None)
      → sum_by f ys + f (get_or xs k None) ≡ sum_by f xs + f (get_or ys k None)
  one_differs [] [] k h = refl
  one_differs [] (y ∷ ys) zero h =
      omega (
        arith,
        nothing,
        sum_by-cons f y ys,
        all_same [] ys (first (λ j. get_or (y ∷ ys) j None ≡ get_or [] j None) h),
      )
  one_differs [] (y ∷ ys) (suc k) h = let e = ap f (h 0 (λ e. absurd (omega arith))) in
      omega (
        arith,
        nothing,
        sum_by-cons f y ys,
        one_differs [] ys k (later (λ j. get_or (y ∷ ys) j None ≡ get_or [] j None) k h),
      )
  one_differs (x ∷ xs) [] zero h =
      omega (
        arith,
        nothing,
        sum_by-cons f x xs,
        all_same xs [] (first (λ j. get_or [] j None ≡ get_or (x ∷ xs) j None) h),
      )
  one_differs (x ∷ xs) [] (suc k) h = let e = ap f (h 0 (λ e. absurd (omega arith))) in
      omega (
        arith,
        nothing,
        sum_by-cons f x xs,
        one_differs xs [] k (later (λ j. get_or [] j None ≡ get_or (x ∷ xs) j None) k h),
      )
  one_differs (x ∷ xs) (y ∷ ys) zero h =
      omega (
        arith,
        sum_by-cons f x xs,
        sum_by-cons f y ys,
        all_same xs ys (first (λ j. get_or (y ∷ ys) j None ≡ get_or (x ∷ xs) j None) h),
      )
  one_differs (x ∷ xs) (y ∷ ys) (suc k) h = let e = ap f (h 0 (λ e. absurd (omega arith))) in
      omega (
        arith,
        sum_by-cons f x xs,
        sum_by-cons f y ys,
        one_differs xs ys k (later (λ j. get_or (y ∷ ys) j None ≡ get_or (x ∷ xs) j None) k h),
      )

pub Wrote-updates : (old new : Slab Cell) (k : ℕ) (x : Option Cell) → Updates old new k x
    → Wrote old.slots new.slots k x
unfolding inner
Wrote-updates old new k x up =
    record {
      here = up.changed;
      there = up.others;
      inside = λ r. one_differs (in_cell r) refl old.slots new.slots k up.others
          ∙ ap (λ c. sum_by (in_cell r) old.slots + in_cell r c) up.changed;
      number = one_differs full refl old.slots new.slots k up.others
          ∙ ap (λ c. sum_by full old.slots + full c) up.changed;
    }
