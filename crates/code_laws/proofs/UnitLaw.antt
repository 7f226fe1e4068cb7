-- The code of new unit generators does what they mean: of one, and of so many in an array.
use Rattle.std.proofs.Common.{◌≡◌, ℕ, zero, suc, ◌+◌, ◌<◌, List, ◌∷◌, length, Some, Bool, arith}
use Rattle.ck_values.specs.declared.kind.Elem.TheVariants as elem
use Rattle.ck_values.specs.declared.trap.Place.{Place}
use Rattle.ugen_names.specs.declared.table.UgenKind.{UgenKind}
use Rattle.ck_values.specs.Datum.{Datum}
use Rattle.ck_store.specs.Arrays.{Filled}
use Rattle.ck_store.specs.Objects.{Made}
use Rattle.ck_typed.specs.Tree.{Program}
use Rattle.ck_code.specs.declared.instr.Instr.TheVariants.{Ugen, Each, Turn, Fill, Jump}
use Rattle.ck_code.specs.declared.code.CodeParts.{CodeParts}
use Rattle.ck_code.specs.Machine.{Frame, frame, step_at}
use Rattle.ck_meaning.specs.Outcome.{Point, with_state, with_store}
use Rattle.ck_meaning.specs.Meaning.{Calls, Setting, setting, new_unit, each_made}
use Rattle.ck_scheme.specs.Scheme.{at}
use Rattle.code_laws.proofs.Lands.{Land, Within, no_way, here, then, does, after_try, either, next, turned, more}

module _ (code : CodeParts) (program : Program) (n bound : ℕ) (call : Calls) (f : ℕ)
    (rest : List Frame) where
  abbrev se : Setting
  se = setting program n bound call (length rest)

  -- a new unit generator
  pub unit_lands : (kind : UgenKind) (place : Place) (k p : ℕ) (ops : List Datum) (pt : Point)
      → Within k pt → step_at code f p ≡ Some (at (Ugen kind) place)
      → Land code n k (λ v l. frame f (p + 1) l (v ∷ ops) ∷ rest) no_way
      (frame f p pt.locals ops ∷ rest) pt.state pt.stores (new_unit se kind place pt)
  unit_lands kind place k p ops pt le has =
      after_try {A = Made} _ _ _ (does has) (λ made d.
      next d (here made.reference (with_store pt made.store) le))

  -- unit generators for the items of an array, from an index on, whose code stands from the place
  -- round on
  pub units_land : (kind : UgenKind) (place : Place) (round : ℕ)
      → step_at code f round ≡ Some (at (Each (round + 1 + 1 + 1 + 1 + 1)) place)
      → step_at code f (round + 1) ≡ Some (at Turn place)
      → step_at code f (round + 1 + 1) ≡ Some (at (Ugen kind) place)
      → step_at code f (round + 1 + 1 + 1) ≡ Some (at Fill place)
      → step_at code f (round + 1 + 1 + 1 + 1) ≡ Some (at (Jump round) place)
      → (m k : ℕ) → k < m → (i r : Datum) (ops : List Datum) (pt : Point) → Within k pt
      → Land code n k (λ v l. frame f (round + 1 + 1 + 1 + 1 + 1) l (v ∷ ops) ∷ rest) no_way
      (frame f round pt.locals (i ∷ r ∷ ops) ∷ rest) pt.state pt.stores
      (each_made m se (elem.Unit kind) r i place pt)
  units_land kind place round at_each at_turn at_new at_fill at_jump zero k lt i r ops pt le =
      absurd (omega arith)
  units_land kind place round at_each at_turn at_new at_fill at_jump (suc m) k lt i r ops pt le =
      after_try {A = Bool} _ _ _ (does at_each) (λ is d. either is d
      (λ d1. next d1 (turned place k le (does at_turn) (λ s2 j same le2 d2.
      next d2 (more {j = j} (omega arith)
      (then {done = λ v l. frame f (round + 1 + 1 + 1) l (v ∷ i ∷ r ∷ ops) ∷ rest}
      (unit_lands kind place j (round + 1 + 1) (i ∷ r ∷ ops) (with_state pt s2) le2 at_new)
      (λ v pt1 le1.
      after_try {A = Filled} _ _ _ (does at_fill) (λ done d3.
      next d3 (next (does at_jump) (units_land kind place round at_each at_turn at_new at_fill
      at_jump m j (omega arith) done.next r ops (with_store pt1 done.store) le1)))))))))
      (λ d1. next d1 (here r pt le)))
