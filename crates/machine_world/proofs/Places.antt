-- No place among the unit generators is free, whatever is made, set and heard; and what is set leaves
-- the ends of connections with their objects.
use Rattle.std.proofs.Common.{◌≡◌, ℕ, zero, suc, ◌≤◌, nat_lt, Bool, true, false, List, [], ◌∷◌, ◌++◌, length, Option, Some, None, Result, Ok, Err, OnOk, if◌then◌else◌, slice_set, refl, ap, sym, subst, ◌∙◌, arith}
use Rattle.std.specs.Prelude.{IsSome, IsSomeAnd, IfSome, OnErr, is_some}
use Rattle.std.specs.List.{list_all}
use Rattle.std.proofs.lemmas.Bool.Decides.{nat_tests}
use Rattle.object_heap.specs.Objects.{Objects}
use Rattle.ugen_names.specs.declared.table.UgenKind.{UgenKind}
use Rattle.ugen_kinds.specs.SoundFile.{no_waves}
use Rattle.ugen_sample.specs.Connection.{Connection}
use Rattle.ugen_sample.specs.declared.unit.UnitState.{UnitState}
use Rattle.ugen_sample.specs.UnitState.{Units, unit_at}
use Rattle.ugen_sample.specs.Order.{roots}
use Rattle.ugen_sample.specs.Sample.{sampled}
use Rattle.ugen_sample.specs.Origins.{origins_of}
use Rattle.ugen_sample.proofs.Origins.{origins_sampled}
use Rattle.ugen_graph.specs.declared.link.Link.{Link}
use Rattle.ugen_graph.specs.Wiring.{Network, filled}
use Rattle.machine_world.specs.Units.{are_taken, AreJoined}

-- a place that is free is the next one
next_free : (units : Units) (n : ℕ) → are_taken units ≡ true → n ≤ length units
    → unit_at units n ≡ None → n ≡ length units
next_free [] n all le free = omega (arith, le)
next_free (None ∷ us) n all le free = absurd cc
next_free (Some u ∷ us) zero all le free = absurd cc
next_free (Some u ∷ us) (suc n) all le free =
    ap suc (next_free us n all (omega (arith, le)) free)

filled_next : (units : Units) (n : ℕ) (unit : UnitState) → n ≡ length units
    → filled n unit units ≡ units ++ Some unit ∷ []
filled_next units n unit is =
    let past : nat_lt n (length units) ≡ false = grind (arith, nat_tests, is) in
    ap (λ (b : Bool). let us : Units =
    if b then slice_set units n (Some unit) else units ++ Some unit ∷ [] in us) past

-- so what is added comes to the end
pub record AtEnd (units : Units) (n : ℕ) (unit : UnitState) : Type 0 where
  pub place : n ≡ length units
  pub is : filled n unit units ≡ units ++ Some unit ∷ []

pub at_end : (units : Units) (n : ℕ) (unit : UnitState) → are_taken units ≡ true
    → n ≤ length units → unit_at units n ≡ None → AtEnd units n unit
at_end units n unit all le free =
    let place = next_free units n all le free in
    record { place = place; is = filled_next units n unit place }

taken_more : (units : Units) (unit : UnitState) → are_taken units ≡ true
    → are_taken (units ++ Some unit ∷ []) ≡ true
taken_more [] unit all = refl
taken_more (None ∷ us) unit all = absurd cc
taken_more (Some u ∷ us) unit all = taken_more us unit all

pub taken_added : (units : Units) (n : ℕ) (unit : UnitState) → are_taken units ≡ true
    → AtEnd units n unit → are_taken (filled n unit units) ≡ true
taken_added units n unit all end = ap are_taken end.is ∙ taken_more units unit all

pub taken_set : (units : Units) (n : ℕ) (unit : UnitState) → are_taken units ≡ true
    → are_taken (slice_set units n (Some unit)) ≡ true
taken_set [] n unit all = refl
taken_set (None ∷ us) n unit all = absurd cc
taken_set (Some u ∷ us) zero unit all = all
taken_set (Some u ∷ us) (suc n) unit all = taken_set us n unit all

taken_origins : (units : Units) → list_all is_some (origins_of units) ≡ are_taken units
taken_origins [] = refl
taken_origins (None ∷ us) = refl
taken_origins (Some u ∷ us) = taken_origins us

pub taken_sampled : (connections : List Connection) (units : Units) → are_taken units ≡ true
    → are_taken (sampled no_waves roots connections units) ≡ true
taken_sampled connections units all =
    sym (taken_origins (sampled no_waves roots connections units))
    ∙ ap (λ (os : List (Option (ℕ × UgenKind))). list_all is_some os)
    (origins_sampled no_waves roots connections units)
    ∙ taken_origins units ∙ all

-- other connections change nothing, whether the call succeeds or not
pub taken_linked : {T E : Type 0} (r : Result T E) (old new : Network) (links : List Link)
    → OnOk r (new ≡ record old { links = links }) → OnErr r (new ≡ old)
    → are_taken old.units ≡ true → are_taken new.units ≡ true
taken_linked (Ok a) old new links ok err all = ap (λ (g : Network). are_taken g.units) ok ∙ all
taken_linked (Err e) old new links ok err all = ap (λ (g : Network). are_taken g.units) err ∙ all

-- nor does what becomes of one
module _ (old new : Network) (n : ℕ) {A : Type 0} (change : UnitState → Option A)
    (put : UnitState → A → UnitState) where
  -- the one at n is changed, where it can be
  abbrev pub IsPut : Type 0
  IsPut = IfSome (unit_at old.units n) (λ u. IfSome (change u)
      (λ a. new ≡ record old { units = slice_set old.units n (Some (put u a)) }))

  -- what holds with whatever unit generator there holds after it
  put_then : (P : Network → Type 0)
      → ((u : UnitState) → P (record old { units = slice_set old.units n (Some u) }))
      → (unit : UnitState) (o : Option A) → IsSome o
      → IfSome o (λ a. new ≡ record old { units = slice_set old.units n (Some (put unit a)) }) → P new
  put_then P all unit None some is = absurd cc
  put_then P all unit (Some a) some is = subst P (sym is) (all (put unit a))

  put_so : (P : Network → Type 0)
      → ((u : UnitState) → P (record old { units = slice_set old.units n (Some u) }))
      → (o : Option UnitState) → IsSomeAnd o (λ u. IsSome (change u))
      → IfSome o (λ u. IfSome (change u)
      (λ a. new ≡ record old { units = slice_set old.units n (Some (put u a)) }))
      → P new
  put_so P all None can is = absurd can
  put_so P all (Some u) can is = put_then P all u (change u) can is

  pub taken_put : IsSomeAnd (unit_at old.units n) (λ u. IsSome (change u)) → IsPut
      → are_taken old.units ≡ true → are_taken new.units ≡ true
  taken_put can is all =
      put_so (λ (g : Network). are_taken g.units ≡ true) (λ u. taken_set old.units n u all)
      (unit_at old.units n) can is

  pub joined_put : (heap : Objects) → IsSomeAnd (unit_at old.units n) (λ u. IsSome (change u)) → IsPut
      → AreJoined heap old.links → AreJoined heap new.links
  joined_put heap can is joined =
      put_so (λ (g : Network). AreJoined heap g.links) (λ u. joined) (unit_at old.units n) can is

  pub taken_put_where : {T E : Type 0} (r : Result T E)
      → IsSomeAnd (unit_at old.units n) (λ u. IsSome (change u)) → OnOk r IsPut
      → OnErr r (new ≡ old) → are_taken old.units ≡ true → are_taken new.units ≡ true
  taken_put_where (Ok a) can ok err all = taken_put can ok all
  taken_put_where (Err e) can ok err all = ap (λ (g : Network). are_taken g.units) err ∙ all

  pub joined_put_where : {T E : Type 0} (r : Result T E) (heap : Objects)
      → IsSomeAnd (unit_at old.units n) (λ u. IsSome (change u)) → OnOk r IsPut
      → OnErr r (new ≡ old) → AreJoined heap old.links → AreJoined heap new.links
  joined_put_where (Ok a) heap can ok err joined = joined_put heap can ok joined
  joined_put_where (Err e) heap can ok err joined =
      subst (λ (g : Network). AreJoined heap g.links) (sym err) joined
