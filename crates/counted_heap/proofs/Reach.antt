-- The live objects are those that are reached.
use Rattle.std.proofs.lemmas.Bool.{cases_eq}
use Rattle.std.proofs.lemmas.List.Sums.{sum_by-cons}
use Rattle.std.specs.Prelude.{sum_by, count_by, is_some, cond}
use Rattle.std.proofs.Common.{IsSome, ◌≡◌, ◌≢◌, ◌⊎◌, inl, inr, ℕ, zero, suc, ◌+◌, ◌<◌, ◌≤◌, List, [], ◌∷◌, length, get_or, Option, Some, None, refl, sym, ap, ◌∙◌, arith, subst}
use Rattle.ck_values.specs.declared.reference.Ref.{Ref}
use Rattle.object_heap.specs.declared.body.Body.{Body}
use Rattle.object_heap.specs.Objects.{Objects, values_of}
use Rattle.counted_heap.specs.declared.cell.Cell.{Cell}
use Rattle.counted_heap.specs.Places.{places}
use Rattle.counted_heap.specs.Cells.{Cells, cell_at, in_cell, inner, body_at}
use Rattle.counted_heap.specs.Counted.{Counted, object, outside, live, NoneChained, IsLawful}
use Rattle.counted_heap.specs.Stands.{Points, Leads, Step, IsDead, StandsFor}
use Rattle.counted_heap.specs.Reach.{IsLive, IsRooted, Reached, Rooted, Round, Along, In, Distinct, LiveAreReached, LiveIsNumber}
use Rattle.counted_heap.proofs.Writes.{Holds}
use Rattle.counted_heap.proofs.Reading.{object_is, object_at}
use Rattle.counted_heap.proofs.Standing.{points_live, lead_on}

some_term : (f : Option Cell → ℕ) (cs : Cells) → 0 < sum_by f cs → (k : ℕ)
    × (0 < f (get_or cs k None)) × (k < length cs)
some_term f [] h = absurd (omega arith)
some_term f (x ∷ xs) h = by_first (f x) refl (λ less. some_term f xs less)
  where
    by_first : (n : ℕ) → f x ≡ n
        → (0 < sum_by f xs → (k : ℕ) × (0 < f (get_or xs k None)) × (k < length xs)) → (k : ℕ)
        × (0 < f (get_or (x ∷ xs) k None)) × (k < length (x ∷ xs))
    by_first zero e later = let t = later (omega (arith, sum_by-cons f x xs)) in
        (suc t.0, t.1, omega (arith, t.2))
    by_first (suc n) e later = (0, omega (arith, e), omega arith)

-- what the objects refer to stands in one of them
pub inner_some : (cs : Cells) (r : Ref) → 0 < inner cs r → (q : Ref) × (b : Body)
    × (body_at cs q ≡ Some b) × (0 < places r (values_of b))
unfolding inner
inner_some cs r some = let t = some_term (in_cell r) cs some in
    by_cell t.0 (cell_at cs t.0) refl t.1
  where
    by_cell : (k : ℕ) (x : Option Cell) → cell_at cs k ≡ x → 0 < in_cell r x → (q : Ref)
        × (b : Body) × (body_at cs q ≡ Some b) × (0 < places r (values_of b))
    by_cell k None e h = absurd (omega arith)
    by_cell k (Some c) e h = (
      record { serial = c.serial; slot = k },
      c.body,
      object_at cs (record { serial = c.serial; slot = k }) c (record { at = e; serial = refl }),
      h,
    )

-- a list without one of its numbers
pub record Without (x : ℕ) (xs : List ℕ) : Type 0 where
  pub rest : List ℕ
  pub shorter : length xs ≡ length rest + 1
  pub keeps : (y : ℕ) → In y xs → (y ≡ x) ⊎ In y rest

pub without : (x : ℕ) (xs : List ℕ) → In x xs → Without x xs
without x [] there = absurd there
without x (z ∷ xs) (inl here) =
    record {
      rest = xs;
      shorter = omega arith;
      keeps =
          λ y at. elim at [ inl e ↦ inl (e ∙ sym here) | inr later ↦ inr later ];
    }
without x (z ∷ xs) (inr later) =
    let w = without x xs later in
    record {
      rest = z ∷ w.rest;
      shorter = omega (arith, w.shorter);
      keeps =
          λ y at. elim at [
            | inl e ↦ inr (inl e)
            | inr there ↦
                elim (w.keeps y there) [ inl e ↦ inl e | inr there' ↦ inr (inr there') ]
          ];
    }

-- the numbers below n
below : ℕ → List ℕ
below zero = []
below (suc n) = n ∷ below n

below-has : (n y : ℕ) → y < n → In y (below n)
unfolding below
below-has zero y h = absurd (omega arith)
below-has (suc n) y h =
    elim (cases_eq y n) [ inl e ↦ inl e | inr other ↦ inr (below-has n y (omega arith)) ]

-- where each that stays is held from outside, or one that stays refers to it, it is reached
module _ (h : Counted) (s : Objects) (Stays : ℕ → Type 0)
    (held_by : (m : ℕ) → Stays m → IsRooted h m ⊎ ((x : ℕ) × Stays x × Points s x m)) where
  -- walking back from m, which leads to each of the seen
  walk : (fuel : ℕ) (m : ℕ) (seen unseen : List ℕ) → length unseen < fuel → Stays m
      → ((y : ℕ) → In y seen → (y ≡ m) ⊎ Leads s m y)
      → ((y : ℕ) → Stays y → In y seen ⊎ In y unseen) → Reached h s m
  walk zero m seen unseen short here leads split = absurd (omega arith)
  walk (suc fuel) m seen unseen short here leads split = elim (held_by m here) [
    | inl rooted ↦ Rooted rooted
    | inr (x, there, points) ↦
        elim (split x there) [
          | inl was ↦ elim (leads x was) [
            | inl same ↦ Round (let P : ℕ → Type 0 = λ z. Leads s z m in subst P same (Step points))
            | inr back ↦ Along (Round (lead_on s x m x points back)) points
          ]
          | inr fresh ↦
              let w = without x unseen fresh in
              Along
              (walk fuel x (x ∷ seen) w.rest (omega (arith, w.shorter)) there
              (λ y at. elim at [
                | inl e ↦ inl e
                | inr later ↦ elim (leads y later) [
                  | inl e ↦ inr (let P : ℕ
                      → Type 0 = λ z. Leads s x z in subst P (sym e) (Step points))
                  | inr on ↦
                      inr (lead_on s x m y points on)
                ]
              ])
              (λ y so. elim (split y so) [
                | inl was ↦ inl (inr was)
                | inr later ↦ elim (w.keeps y later) [
                  | inl e ↦ inl (inl e)
                  | inr rest ↦
                      inr rest
                ]
              ]))
              points
        ]
  ]

  -- where these have all that stay
  pub reached_from : (m : ℕ) → Stays m → (ms : List ℕ) → ((y : ℕ) → Stays y → In y ms) → Reached h s m
  reached_from m here ms all =
      let w = without m ms (all m here) in
      walk (suc (length w.rest)) m (m ∷ []) w.rest (omega arith) here
      (λ y at. elim at [ inl e ↦ inl e | inr none ↦ absurd none ])
      (λ y so. elim (w.keeps y (all y so)) [ inl e ↦ inl (inl e) | inr rest ↦ inr rest ])

module _ (h : Counted) (s : Objects) (law : IsLawful h) (settled : NoneChained h)
    (stands : StandsFor h s) where
  -- a live object is held from outside or by a live object
  held_by : (m : ℕ) → IsLive h m → IsRooted h m ⊎ ((x : ℕ) × IsLive h x × Points s x m)
  held_by m live = by_holds (outside h live.it) refl
    where
      by_holds : (n : ℕ) → outside h live.it ≡ n
          → IsRooted h m ⊎ ((x : ℕ) × IsLive h x × Points s x m)
      by_holds (suc n) e = inl (live.it, live.number, omega (arith, e))
      by_holds zero e =
          let c = settled live.it live.live in
          let p = law.split live.it in
          let i = inner_some h.cells live.it (omega arith) in
          inr (
            i.0.serial,
            record { it = i.0; number = refl; live = rw i.2 refl },
            record {
              body = i.1;
              at = stands.content i.0 i.1 i.2;
              to = live.it;
              number =
                  live.number;
              has = i.3;
            },
          )

  pub reached_from_live : (m : ℕ) → IsLive h m → Reached h s m
  reached_from_live m live =
      reached_from h s (IsLive h) held_by m live (below h.next)
      (λ y alive.
      let n = law.numbered alive.it alive.live in
      below-has h.next y (omega (arith, n.1, alive.number)))

  points_on : (x m : ℕ) → IsLive h x → Points s x m → IsLive h m
  points_on x m live points = by_body (object h live.it) refl live.live
    where
      by_body : (o : Option Body) → object h live.it ≡ o → IsSome o → IsLive h m
      by_body None e some = absurd (cc)
      by_body (Some b) e some =
          let q = points_live h s law stands.content x m points live.it live.number b e in
          record { it = q.0; number = q.1; live = law.live q.0 q.2 }

  -- and back, where it is known of each number whether it is live
  pub live_from_reached : ((m : ℕ) → IsLive h m ⊎ IsDead h m) → (m : ℕ) → Reached h s m → IsLive h m
  live_from_reached known m (Rooted (r, e, some)) =
      let p = law.split r in
      record { it = r; number = e; live = law.live r (omega arith) }
  live_from_reached known m (Round cycle) = elim (known m) [
    | inl live ↦ live
    | inr dead ↦ absurd (stands.no_cycle m dead cycle)
  ]
  live_from_reached known m (Along {x = x} before points) =
      points_on x m (live_from_reached known x before) points

abbrev serials : Cells → List ℕ
serials [] = []
serials (None ∷ cs) = serials cs
serials (Some c ∷ cs) = c.serial ∷ serials cs

length-serials : (cs : Cells) → length (serials cs) ≡ count_by is_some cs
length-serials [] = refl
length-serials (None ∷ cs) =
    omega (arith, length-serials cs, sum_by-cons (λ o. cond (is_some o) 1 0) None cs)
length-serials (Some c ∷ cs) =
    omega (arith, length-serials cs, sum_by-cons (λ o. cond (is_some o) 1 0) (Some c) cs)

from_serials : (cs : Cells) (m : ℕ) → In m (serials cs) → (k : ℕ) × (c : Cell)
    × (cell_at cs k ≡ Some c) × (c.serial ≡ m)
from_serials [] m at = absurd at
from_serials (None ∷ cs) m at = let f = from_serials cs m at in (suc f.0, f.1, f.2, f.3)
from_serials (Some c ∷ cs) m (inl here) = (zero, c, refl, sym here)
from_serials (Some c ∷ cs) m (inr later) = let f = from_serials cs m later in
    (suc f.0, f.1, f.2, f.3)

to_serials : (cs : Cells) (k : ℕ) (c : Cell) → cell_at cs k ≡ Some c → In c.serial (serials cs)
to_serials [] k c e = absurd (cc)
to_serials (None ∷ cs) zero c e = absurd (cc)
to_serials (None ∷ cs) (suc k) c e = to_serials cs k c e
to_serials (Some d ∷ cs) zero c e = inl (ap (λ (x : Cell). x.serial) (let f : c ≡ d = cc in f))
to_serials (Some d ∷ cs) (suc k) c e = inr (to_serials cs k c e)

unfoldable Apart : Cells → Type 0
Apart cs = (j k : ℕ) (c d : Cell) → cell_at cs j ≡ Some c → cell_at cs k ≡ Some d
    → c.serial ≡ d.serial → j ≡ k

distinct : (cs : Cells) → Apart cs → Distinct (serials cs)
unfolding Apart
distinct [] apart = tt
distinct (None ∷ cs) apart =
    distinct cs (λ j k c d p q e. let h = apart (suc j) (suc k) c d p q e in omega arith)
distinct (Some c ∷ cs) apart = (
  λ at. let f = from_serials cs c.serial at in let h =
      apart zero (suc f.0) c f.1 refl f.2 (sym f.3) in absurd (omega arith),
  distinct cs (λ j k c' d p q e. let h = apart (suc j) (suc k) c' d p q e in omega arith),
)

subset_length : (xs ys : List ℕ) → Distinct xs → ((y : ℕ) → In y xs → In y ys)
    → length xs ≤ length ys
subset_length [] ys d sub = omega arith
subset_length (x ∷ xs) ys d sub =
    let w = without x ys (sub x (inl refl)) in
    let h = subset_length xs w.rest d.1
    (λ y at. elim (w.keeps y (sub y (inr at))) [
      | inl e ↦ absurd (d.0 (rw e at at))
      | inr there ↦
          there
    ]) in
    omega (arith, w.shorter, h)

-- a number is that of a live object or of none
search_cells : (cs : Cells) (m : ℕ)
    → ((k : ℕ) × (c : Cell) × (cell_at cs k ≡ Some c) × (c.serial ≡ m)) ⊎ ((k : ℕ) (c : Cell)
    → cell_at cs k ≡ Some c → c.serial ≢ m)
search_cells [] m = inr (λ k c e same. absurd (cc))
search_cells (x ∷ cs) m = by_first x (search_cells cs m)
  where
    by_first : (x : Option Cell)
        → ((k : ℕ) × (c : Cell) × (cell_at cs k ≡ Some c) × (c.serial ≡ m)) ⊎ ((k : ℕ) (c : Cell)
        → cell_at cs k ≡ Some c → c.serial ≢ m)
        → ((k : ℕ) × (c : Cell) × (cell_at (x ∷ cs) k ≡ Some c)
        × (c.serial ≡ m)) ⊎ ((k : ℕ) (c : Cell) → cell_at (x ∷ cs) k ≡ Some c → c.serial ≢ m)
    by_first x (inl f) = inl (suc f.0, f.1, f.2, f.3)
    by_first None (inr later) = inr (λ k. not_none k)
      where
        not_none : (k : ℕ) (c : Cell) → cell_at (None ∷ cs) k ≡ Some c → c.serial ≢ m
        not_none zero c e same = absurd (cc)
        not_none (suc k) c e same = later k c e same
    by_first (Some d) (inr later) = elim (cases_eq d.serial m) [
      | inl same ↦ inl (zero, d, refl, same)
      | inr other ↦ inr (λ k. not_here other k)
    ]
      where
        not_here : d.serial ≢ m → (k : ℕ) (c : Cell) → cell_at (Some d ∷ cs) k ≡ Some c
            → c.serial ≢ m
        not_here other zero c e same = let f : d ≡ c = cc in other (ap (λ (x : Cell). x.serial) f
            ∙ same)
        not_here other (suc k) c e same = later k c e same

pub live_or_dead : (h : Counted) (m : ℕ) → IsLive h m ⊎ IsDead h m
live_or_dead h m = elim (search_cells h.cells m) [
  | inl f ↦ inl (record {
    it = record { serial = f.1.serial; slot = f.0 };
    number = f.3;
    live =
        rw (object_at h.cells (record { serial = f.1.serial; slot = f.0 }) f.1
        (record { at = f.2; serial = refl })) refl;
  })
  | inr none ↦ inr (λ r e. by_body r e (object h r) refl none)
]
  where
    by_body : (r : Ref) → r.serial ≡ m → (o : Option Body) → object h r ≡ o
        → ((k : ℕ) (c : Cell) → cell_at h.cells k ≡ Some c → c.serial ≢ m) → object h r ≡ None
    by_body r e None f none = f
    by_body r e (Some b) f none = let o = object_is h.cells r b f in
        absurd (none r.slot o.0 o.1.at (o.1.serial ∙ e))

live_cell : (h : Counted) (r : Ref) → IsSome (object h r) → (c : Cell) × Holds h.cells r c
live_cell h r some = by_body (object h r) refl some
  where
    by_body : (o : Option Body) → object h r ≡ o → IsSome o → (c : Cell) × Holds h.cells r c
    by_body None e some = absurd (cc)
    by_body (Some b) e some = let o = object_is h.cells r b e in (o.0, o.1)

-- the law for a heap by its parts
module _ (h : Counted) (law : IsLawful h) (settled : NoneChained h) where
  is_apart : Apart h.cells
  unfolding Apart
  is_apart j k c d p q e =
      let a : Ref = record { serial = c.serial; slot = j } in
      let b : Ref = record { serial = d.serial; slot = k } in
      ap (λ (r : Ref). r.slot)
      (law.one a b (rw (object_at h.cells a c (record { at = p; serial = refl })) refl)
      (rw (object_at h.cells b d (record { at = q; serial = refl })) refl) e)

  pub live_reached : LiveAreReached h
  live_reached s stands m = (
    reached_from_live h s law settled stands m,
    live_from_reached h s law settled stands (live_or_dead h) m,
  )

  pub live_number : LiveIsNumber h
  live_number s stands ms once each =
      let n = length-serials h.cells in
      let le = subset_length (serials h.cells) ms (distinct h.cells is_apart) (λ m at.
      let f = from_serials h.cells m at in
      let it : Ref = record { serial = f.1.serial; slot = f.0 } in
      (each m).1 (reached_from_live h s law settled stands m
      (record {
        it = it;
        number = f.3;
        live =
            rw (object_at h.cells it f.1 (record { at = f.2; serial = refl })) refl;
      }))) in
      let ge = subset_length ms (serials h.cells) once (λ m at.
      let l = live_from_reached h s law settled stands (live_or_dead h) m ((each m).0 at) in
      let c = live_cell h l.it l.live in
      rw (c.1.serial ∙ l.number) at (to_serials h.cells l.it.slot c.0 c.1.at)) in
      omega arith
