-- What `set`, `grow` and `clear_one` do to the counts.
use Rattle.std.proofs.lemmas.Bool.Decides.{nat_tests}
use Rattle.std.proofs.Common.{◌≡◌, ◌≢◌, inl, inr, ℕ, zero, suc, ◌+◌, ◌<◌, ◌≤◌, List, [], ◌∷◌, ◌++◌, length, Option, Some, None, refl, sym, ap, ◌∙◌, arith, set, subst}
use Rattle.std.specs.Prelude.{slice_get, slice_set}
use Rattle.slab.specs.Slab.{Slab, get, with_value}
use Rattle.std.specs.Prelude.{◌↔◌, IsSomeAnd, IsNone, IfSome, IfNone, OnOk, OnErr, Result, Ok, Err}
use Rattle.ck_values.specs.declared.reference.Ref.{Ref}
use Rattle.ck_values.specs.declared.value.Value.{Value}
use Rattle.counted_heap.specs.Places.{hits, places}
use Rattle.counted_heap.proofs.Counting.{places-set, places-push}
use Rattle.object_heap.specs.declared.body.Body.{Body}
use Rattle.object_heap.specs.declared.body.Body.TheVariants.{Instance, Array, Ugen}
use Rattle.counted_heap.specs.declared.cell.Cell.{Cell}
use Rattle.object_heap.specs.Objects.{values_of, with_values, with_body, IsArray}
use Rattle.counted_heap.specs.Cells.{Cells, cell_at, in_cell, inner, count_at, body_in, body_at, IsCounted, link_in, link_at, IsChained}
use Rattle.counted_heap.specs.Counted.{Counted, outside, object, Rewrites, IsAmong, Enters, Leaves}
use Rattle.counted_heap.specs.Stands.{StandsOn}
use Rattle.counted_heap.proofs.Lawful.{lawful_cells}
use Rattle.counted_heap.proofs.Standing.{stands_written}
use Rattle.counted_heap.proofs.Writes.{same-ref, Wrote, Wrote-set, Holds, count_turn, live_stays, counted_after, chained_same}
use Rattle.counted_heap.proofs.Reading.{heap_of, outside_is, object_at, body_read}
use Rattle.std.proofs.lemmas.Bool.{cases_eq}

pub values-set : (b : Body) (i : ℕ) (v : Value) → i < length (values_of b)
    → values_of (with_values b (slice_set (values_of b) i v)) ≡ slice_set (values_of b) i v
values-set (Instance class fields) i v within = refl
values-set (Array elem two items) i v within = refl
values-set (Ugen node) i v within = absurd (omega arith)

pub values-array : (b : Body) (vs : List Value) → IsArray b → values_of (with_values b vs) ≡ vs
values-array (Instance class fields) vs array = absurd array
values-array (Array elem two items) vs array = refl
values-array (Ugen node) vs array = absurd array

-- a write of a body
module _ (old new : Cells) (next : ℕ) (at : Ref) (c d : Cell) (held : Holds old at c)
    (wrote : Wrote old new at.slot (Some d)) (same : d.serial ≡ c.serial)
    (count : d.count ≡ c.count) (was : IsCounted old next) where
  pub some : 0 < at.serial
  some = let n = was.numbered at.slot c held.at in omega (arith, n.0, held.serial)

  counts_stay : (r : Ref) → count_at new r ≡ count_at old r
  counts_stay r = elim (count_turn old new at c d held wrote same some r) [
    | inl t ↦ omega arith
    | inr t ↦ omega arith
  ]

  pub rebodied : (enters leaves : Ref → ℕ)
      → ((r : Ref) → places r (values_of d.body) + leaves r ≡ places r (values_of c.body) + enters
      r) → ((r : Ref) → enters r ≤ outside (heap_of old next) r)
      → IsCounted new next × ((r : Ref)
      → outside (heap_of new next) r + enters r ≡ outside (heap_of old next) r + leaves r)
  rebodied enters leaves moves among =
      let inside : (r : Ref) → inner new r + leaves r ≡ inner old r + enters r = λ r.
      let i = wrote.inside r in
      let e : in_cell r (cell_at old at.slot) ≡ places r (values_of c.body) =
      ap (in_cell r) held.at in
      let m = moves r in
      omega arith in
      let covered : (r : Ref) → inner new r ≤ count_at new r = λ r.
      let i = inside r in
      let s = counts_stay r in
      let a = among r in
      let o = outside_is old next was r in
      omega arith in
      let good = counted_after old new at c d held wrote same some next was covered in (
        good,
        λ r.
            let i = inside r in
            let s = counts_stay r in
            let o = outside_is old next was r in
            let n = outside_is new next good r in
            omega arith,
      )

  pub chain_as_was : (head : Option ℕ) → d.link ≡ c.link → IsChained old head → IsChained new head
  unfolding link_at
  chain_as_was head link chain = chained_same old new head links chain
    where
      links : (j : ℕ) → link_at new j ≡ link_at old j
      links j = elim (cases_eq j at.slot) [
        | inl e ↦ ap (λ k. link_in (cell_at new k)) e ∙ ap link_in wrote.here
            ∙ (let f : link_in (Some d) ≡ link_in (Some c) = rw (count, link) in f)
            ∙ sym (ap link_in held.at) ∙ sym (ap (λ k. link_in (cell_at old k)) e)
        | inr e ↦ ap link_in (wrote.there j e)
      ]

  pub others_stay : (r : Ref) → r ≢ at → body_at new r ≡ body_at old r
  unfolding body_at
  others_stay r other = elim (cases_eq r.slot at.slot) [
    | inl slot ↦ elim (cases_eq r.serial at.serial) [
      | inl serial ↦ absurd (other (same-ref _ _ serial slot))
      | inr serial ↦
          let e : cell_at new r.slot ≡ Some d = ap (cell_at new) slot ∙ wrote.here in
          let f : cell_at old r.slot ≡ Some c = ap (cell_at old) slot ∙ held.at in
          let h = held.serial in
          rw (e, f) (grind (arith, nat_tests))
    ]
    | inr slot ↦ ap (body_in r) (wrote.there r.slot slot)
  ]

-- what a call that gives a live object another body leaves
pub record Rewritten (now : Counted) (new : Cells) (next : ℕ) (head : Option ℕ) (at : Ref)
    (body : Body) (enters leaves : Ref → ℕ) : Type 0 where
  pub invariant : IsCounted new next × IsChained new head
  pub holds : (r : Ref) → outside (heap_of new next) r + enters r ≡ outside now r + leaves r
  pub rewrites : Rewrites now (heap_of new next) at body
  pub stands : StandsOn now (heap_of new next) (λ s. with_body s at body)

module _ (old : Cells) (now : Counted) (next : ℕ) (at : Ref) (c : Cell) (new : Cells)
    (head : Option ℕ) (body : Body) where
  pub rewritten :
      (enters leaves : Ref → ℕ)
      → heap_of old next ≡ now → Holds old at c
      → new ≡ set old at.slot (Some (record c { body = body }))
      → ((r : Ref) → places r (values_of body) + leaves r ≡ places r (values_of c.body) + enters r)
      → ((r : Ref) → enters r ≤ outside now r)
      → IsCounted old next × IsChained old head
      → Rewritten now new next head at body enters leaves
  rewritten enters leaves view held is moves among (was, chain) =
      let done = rebodied old new next at c _ held wrote refl refl was enters leaves moves
      (λ r. let e = ap (λ (h : Counted). outside h r) view in let a = among r in omega arith) in
      record {
        invariant = (
          done.0,
          chain_as_was old new next at c _ held wrote refl refl was head refl
              chain,
        );
        holds = λ r. done.1 r ∙ ap (λ (h : Counted). outside h r + leaves r) view;
        rewrites = (let P : Counted
            → Type 0 = λ h. Rewrites h (heap_of new next) at body in subst P view rewrites);
        stands = (let P : Counted
            → Type 0 = λ h. StandsOn h (heap_of new next) (λ s. with_body s at body) in
            subst P view (stands done.0));
      }
    where
      wrote : Wrote old new at.slot (Some (record c { body = body }))
      wrote = rw is (Wrote-set old at.slot c _ held.at)

      rewrites : Rewrites (heap_of old next) (heap_of new next) at body
      rewrites = record {
        here = object_at new at _ (record { at = wrote.here; serial = held.serial });
        there = λ r other. others_stay old new next at c _ held wrote refl refl was r other;
        next = refl;
        live = live_stays old new at c _ held wrote refl
            (some old new next at c _ held wrote refl refl was);
      }

      stands : IsCounted new next
          → StandsOn (heap_of old next) (heap_of new next) (λ s. with_body s at body)
      stands good s stood =
          stands_written (heap_of old next) (heap_of new next) s at c.body body
          (lawful_cells old next was) (lawful_cells new next good) (object_at old at c held)
          rewrites stood

abbrev pub nothing : Ref → ℕ
nothing r = 0

pub set_done : (old : Cells) (now : Counted) (next : ℕ) (at : Ref) (index : ℕ) (v result : Value)
    (c : Cell) (new : Cells) (head : Option ℕ)
    → heap_of old next ≡ now → Holds old at c → index < length (values_of c.body)
    → new ≡ set old at.slot
    (Some (record c { body = with_values c.body (slice_set (values_of c.body) index v) }))
    → slice_get (values_of c.body) index ≡ Some result
    → IsAmong now v
    → IsCounted old next × IsChained old head
    → Rewritten now new next head at (with_values c.body (slice_set (values_of c.body) index v))
    (λ r. hits r v) (λ r. hits r result)
set_done old now next at index v result c new head view held within is got among good =
    rewritten old now next at c new head _ (λ r. hits r v) (λ r. hits r result) view held is
    (λ r. rw (values-set c.body index v within)
    (places-set r (values_of c.body) index v result got))
    among good

pub grow_done : (old : Cells) (now : Counted) (next : ℕ) (at : Ref) (v : Value) (c : Cell)
    (new : Cells) (head : Option ℕ)
    → heap_of old next ≡ now → Holds old at c → IsArray c.body
    → new ≡ set old at.slot
    (Some (record c { body = with_values c.body (values_of c.body ++ v ∷ []) }))
    → IsAmong now v
    → IsCounted old next × IsChained old head
    → Rewritten now new next head at (with_values c.body (values_of c.body ++ v ∷ []))
    (λ r. hits r v) nothing
grow_done old now next at v c new head view held array is among good =
    rewritten old now next at c new head _ (λ r. hits r v) nothing view held is
    (λ r. let e = ap (places r) (values-array c.body (values_of c.body ++ v ∷ []) array) in let p =
    places-push r (values_of c.body) v in omega arith)
    among good

pub clear_done : (old : Cells) (now : Counted) (next : ℕ) (at : Ref) (v : Value) (rest : List Value)
    (c : Cell) (new : Cells) (head : Option ℕ)
    → heap_of old next ≡ now → Holds old at c → IsArray c.body
    → values_of c.body ≡ rest ++ v ∷ []
    → new ≡ set old at.slot (Some (record c { body = with_values c.body rest }))
    → IsCounted old next × IsChained old head
    → Rewritten now new next head at (with_values c.body rest) nothing (λ r. hits r v)
clear_done old now next at v rest c new head view held array was is good =
    rewritten old now next at c new head _ nothing (λ r. hits r v) view held is
    (λ r. let e = ap (places r) (values-array c.body rest array) in let f = ap (places r) was in
    let p = places-push r rest v in omega arith)
    (λ r. omega arith) good

-- a write of what is there
set-same : (cs : Cells) (k : ℕ) (c : Cell) → cell_at cs k ≡ Some c → set cs k (Some c) ≡ cs
set-same [] k c e = absurd (cc)
set-same (x ∷ xs) zero c e = ap (λ y. y ∷ xs) (sym e)
set-same (x ∷ xs) (suc k) c e = ap (λ ys. x ∷ ys) (set-same xs k c e)

pub kept_cells : (old new : Cells) (now : Counted) (next : ℕ) (at : Ref) (c : Cell)
    (head : Option ℕ)
    → heap_of old next ≡ now → Holds old at c → new ≡ set old at.slot (Some c)
    → IsCounted old next × IsChained old head
    → (IsCounted new next × IsChained new head) × (heap_of new next ≡ now)
kept_cells old new now next at c head view held is good =
    let e : new ≡ old = is ∙ set-same old at.slot c held.at in
    let P : Cells → Type 0 = λ cs. IsCounted cs next × IsChained cs head in
    (subst P (sym e) good, ap (λ (cs : Cells). heap_of cs next) e ∙ view)

-- what `set` leaves of a live object's old body and new value
pub record SetDone (now new : Counted) (at : Ref) (index : ℕ) (v result : Value) : Type 0 where
  pub set : IfSome (object now at)
      (λ body. Rewrites now new at (with_values body (slice_set (values_of body) index v)))
  pub stands : IfSome (object now at)
      (λ body. StandsOn now new
      (λ s. with_body s at (with_values body (slice_set (values_of body) index v))))
  pub old : IfSome (object now at) (λ body. slice_get (values_of body) index ≡ Some result)
  pub holds : (r : Ref) → outside new r + hits r v ≡ outside now r + hits r result

-- what `grow` does
pub record GrowDone {A B : Type 0} (now new : Counted) (at : Ref) (v : Value)
    (result : Result A B) : Type 0 where
  pub grown : OnOk result
      (IfSome (object now at)
      (λ body. Rewrites now new at (with_values body (values_of body ++ v ∷ []))))
  pub stands : OnOk result
      (IfSome (object now at)
      (λ body. StandsOn now new
      (λ s. with_body s at (with_values body (values_of body ++ v ∷ [])))))
  pub holds : OnOk result (Leaves now new v)
  pub same : OnErr result (new ≡ now)

-- what `clear_one` does
pub record ClearDone (now new : Counted) (at : Ref) (result : Option Value) : Type 0 where
  pub empty : IsNone result ↔ IfSome (object now at) (λ body. values_of body ≡ [])
  pub last : IfSome result (λ v. IfSome (object now at) (λ body. (rest : List Value)
      × (values_of body ≡ rest ++ v ∷ []) × Rewrites now new at (with_values body rest)
      × StandsOn now new (λ s. with_body s at (with_values body rest))))
  pub holds : IfSome result (λ v. Enters now new v)
  pub none : IfNone result (new ≡ now)

module _ (old new : Slab Cell) (now : Counted) (next : ℕ) (head : Option ℕ) (at : Ref)
    (view : heap_of old.slots next ≡ now) (good : IsCounted old.slots next
    × IsChained old.slots head) where
  pub set_all : (index : ℕ) (v result : Value)
      → IsSomeAnd (object now at) (λ body. index < length (values_of body)) → IsAmong now v
      → ((c : Cell) → get old at.slot ≡ Some c
      → new ≡ with_value old at.slot
      (record c { body = with_values c.body (slice_set (values_of c.body) index v) }))
      → ((c : Cell) → get old at.slot ≡ Some c → slice_get (values_of c.body) index ≡ Some result)
      → (IsCounted new.slots next × IsChained new.slots head)
      × SetDone now (heap_of new.slots next) at index v result
  set_all index v result live among puts gets =
      let b = body_read old.slots now next at (λ body. index < length (values_of body))
      (record { view = view; live = live }) in
      let d = set_done old.slots now next at index v result b.0 new.slots head view b.1 b.2
      (ap (λ (s : Slab Cell). s.slots) (puts b.0 b.1.at)) (gets b.0 b.1.at) among good in (
        d.invariant,
        record {
          set = rw b.3 d.rewrites;
          stands = rw b.3 d.stands;
          old = rw b.3 (gets b.0 b.1.at);
          holds = d.holds;
        },
      )

  pub grow_all : {A B : Type 0} (v : Value) (result : Result A B)
      → IsSomeAnd (object now at) IsArray → IsAmong now v
      → OnOk result ((c : Cell) → get old at.slot ≡ Some c
      → new ≡ with_value old at.slot
      (record c { body = with_values c.body (values_of c.body ++ v ∷ []) }))
      → OnErr result ((c : Cell) → get old at.slot ≡ Some c → new ≡ with_value old at.slot c)
      → (IsCounted new.slots next × IsChained new.slots head)
      × GrowDone now (heap_of new.slots next) at v result
  grow_all v (Ok x) live among puts same =
      let b = body_read old.slots now next at IsArray (record { view = view; live = live }) in
      let d = grow_done old.slots now next at v b.0 new.slots head view b.1 b.2
      (ap (λ (s : Slab Cell). s.slots) (puts b.0 b.1.at)) among good in (
        d.invariant,
        record {
          grown = rw b.3 d.rewrites;
          stands = rw b.3 d.stands;
          holds = λ r. let h =
              d.holds r in omega arith;
          same = tt;
        },
      )
  grow_all v (Err x) live among puts same =
      let b = body_read old.slots now next at IsArray (record { view = view; live = live }) in
      let d = kept_cells old.slots new.slots now next at b.0 head view b.1
      (ap (λ (s : Slab Cell). s.slots) (same b.0 b.1.at)) good in (
        d.0,
        record { grown = tt; stands = tt; holds = tt; same = d.1 },
      )

  pub clear_all : (result : Option Value)
      → IsSomeAnd (object now at) IsArray
      → ((c : Cell) → get old at.slot ≡ Some c → IsNone result ↔ (values_of c.body ≡ []))
      → IfSome result (λ v. (c : Cell) → get old at.slot ≡ Some c → (rest : List Value)
      × (values_of c.body ≡ rest ++ v ∷ [])
      × (new ≡ with_value old at.slot (record c { body = with_values c.body rest })))
      → IfNone result ((c : Cell) → get old at.slot ≡ Some c → new ≡ with_value old at.slot c)
      → (IsCounted new.slots next × IsChained new.slots head)
      × ClearDone now (heap_of new.slots next) at result
  clear_all (Some v) live empty last none =
      let b = body_read old.slots now next at IsArray (record { view = view; live = live }) in
      let l = last b.0 b.1.at in
      let d = clear_done old.slots now next at v l.0 b.0 new.slots head view b.1 b.2 l.1
      (ap (λ (s : Slab Cell). s.slots) l.2) good in (
        d.invariant,
        record {
          empty = rw b.3 (empty b.0 b.1.at);
          last = rw b.3 (l.0, l.1, d.rewrites, d.stands);
          holds = λ r. let h = d.holds r in omega arith;
          none = tt;
        },
      )
  clear_all None live empty last none =
      let b = body_read old.slots now next at IsArray (record { view = view; live = live }) in
      let d = kept_cells old.slots new.slots now next at b.0 head view b.1
      (ap (λ (s : Slab Cell). s.slots) (none b.0 b.1.at)) good in (
        d.0,
        record { empty = rw b.3 (empty b.0 b.1.at); last = tt; holds = tt; none = d.1 },
      )
