-- What the instructions of unit generators lead to fits again.
use Rattle.std.proofs.Common.{ℕ, ◌+◌, List, ◌∷◌, inl, refl}
use Rattle.ck_values.specs.declared.kind.Elem.TheVariants.{Unit as UnitElem}
use Rattle.ck_values.specs.declared.kind.Kind.{Kind}
use Rattle.ck_values.specs.declared.kind.Kind.TheVariants.{One}
use Rattle.ck_values.specs.declared.trap.Place.{Place}
use Rattle.ugen_names.specs.declared.param.Param.{Param as Parameter}
use Rattle.ugen_names.specs.declared.table.UgenKind.{UgenKind}
use Rattle.ugen_names.specs.declared.table.UgenKind.TheVariants.{UGen, Dac as DacKind, Blackhole}
use Rattle.ck_values.specs.Datum.{Datum, ARef}
use Rattle.ck_store.specs.Store.{OfUnit, Store, State, Try, Shapes, shapes_of}
use Rattle.ck_store.specs.Graph.{unit_made, unit_of, connected, disconnected, parameter_of, ReadBack, parameter_set}
use Rattle.ck_typed.specs.declared.class.Class.{Class}
use Rattle.ck_typed.specs.Signatures.{parameter}
use Rattle.ck_code.specs.declared.instr.Instr.TheVariants.{Dac, Hole, Ugen, Connect, Disconnect, Param, SetParam}
use Rattle.ck_code.specs.declared.code.Fun.{Fun}
use Rattle.ck_code.specs.declared.code.CodeParts.{CodeParts}
use Rattle.ck_code.specs.Machine.{Frame, Effect, joins, effect}
use Rattle.ck_code.specs.Verified.{Places, Typing, Finds, OnUnits, Fits}
use Rattle.ck_code.specs.Fitting.{IsOfUnit, IsOf, Suits, Suit, IsNull, IsFitState, IsFitEffect}
use Rattle.ck_code.proofs.Standing.{found_is, where_found, stands_suits}
use Rattle.ck_code.proofs.Suiting.{Fine}
use Rattle.ck_code.proofs.Tables.{Grown, Makes}
use Rattle.ck_code.proofs.Units.{IsUnitAt, unit_of_fine, connected_fine, disconnected_fine, unit_made_fine, parameter_of_fine, parameter_set_fine}
use Rattle.ck_code.proofs.Nulls.{Traps, null_or, from_traps, to_traps, cut_from_traps, cut_to_traps, param_traps, set_param_traps}
use Rattle.ck_code.proofs.Frames.{Stand, good_try, good_trap, good_top, next_fits, grown_fits, made_fits}

-- an instruction at place p of a function, with what it finds there
module _ (code : CodeParts) (typing : Typing) (main : ℕ) (start : State) (fn : Fun)
    (places : Places) (f : ℕ) (rest : List Frame) (shred : ℕ) (place : Place) (p : ℕ)
    (kinds : List Kind) (l ops : List Datum) (s : State)
    (stands : Stand code typing main fn places f rest (shapes_of s.store))
    (held : Suit code.classes (shapes_of s.store) kinds ops)
    (locals : Suit code.classes (shapes_of s.store) fn.locals l) (state : IsFitState code start s) where
  abbrev classes : List Class
  classes = code.classes

  abbrev shapes : Shapes
  shapes = shapes_of s.store

  -- an instruction leads to what fits
  abbrev Good : Effect → Type 0
  Good e = IsFitEffect code typing main start e

  pub dac_fits : Fits code typing fn f places p Dac kinds
      → Good (effect code shred Dac place f p l ops rest s)
  dac_fits fits =
      next_fits fn places f rest (p + 1) (One (UnitElem UGen) ∷ kinds) l (ARef 1 ∷ ops) s stands
      fits (
        where_found (shapes 0) (IsOfUnit UGen) (OfUnit DacKind)
            state.store.graph.output (inl refl),
        held,
      ) locals state

  pub hole_fits : Fits code typing fn f places p Hole kinds
      → Good (effect code shred Hole place f p l ops rest s)
  hole_fits fits =
      next_fits fn places f rest (p + 1) (One (UnitElem UGen) ∷ kinds) l (ARef 2 ∷ ops) s stands
      fits (
        where_found (shapes 1) (IsOfUnit UGen) (OfUnit Blackhole)
            state.store.graph.hole (inl refl),
        held,
      ) locals state

  pub ugen_fits : (kind : UgenKind) → Fits code typing fn f places p (Ugen kind) kinds
      → Good (effect code shred (Ugen kind) place f p l ops rest s)
  ugen_fits kind fits =
      good_try Good (Makes code s.store (One (UnitElem kind))) (unit_made kind shred s.store) place
      s _ (unit_made_fine code s.store kind shred fits.0 state.store) (λ trap. state) (λ made h.
      made_fits fn places f rest (p + 1) (One (UnitElem kind)) kinds l ops s made stands fits.1
      held locals state h)

  -- a step on two unit generators, of which the upper one stays
  joins_fit : (step : Datum → Datum → Store → Try Store)
      → ((u w : UgenKind) (a b : Datum) → Suits classes shapes (One (UnitElem u)) a
      → Suits classes shapes (One (UnitElem w)) b → Fine (Grown code s.store) (step a b s.store))
      → ((a b : Datum) → IsNull a → Traps (step a b s.store))
      → ((u : UgenKind) (a b : Datum) → Suits classes shapes (One (UnitElem u)) a → IsNull b
      → Traps (step a b s.store))
      → OnUnits classes kinds (λ j beneath. Finds classes places (p + 1) (j ∷ beneath))
      → Good (joins place step f p l ops rest s)
  joins_fit step fine from to fits =
      good_top Good classes shapes _ kinds ops _ fits held (λ j kinds1 b lower below is_b suit1.
      good_top Good classes shapes _ kinds1 lower _ below suit1
      (λ i beneath a under top is_a suit.
      let suits_a = stands_suits classes shapes i (One (UnitElem top.0)) a top.3 is_a in
      let suits_b = stands_suits classes shapes j (One (UnitElem top.1)) b top.2 is_b in
      null_or classes shapes i a top.4 is_a (λ null.
      good_trap Good (step a b s.store) place s _ (from a b null) (λ trap. state)) (λ more.
      null_or classes shapes j b more is_b (λ null.
      good_trap Good (step a b s.store) place s _ (to top.0 a b suits_a null) (λ trap. state))
      (λ finds.
      good_try Good (Grown code s.store) (step a b s.store) place s _
      (fine top.0 top.1 a b suits_a suits_b) (λ trap. state)
      (λ store grown.
      grown_fits fn places f rest (p + 1) (j ∷ beneath) l (b ∷ under) s store stands finds (
        is_b,
        suit,
      ) locals state grown)))))

  -- what suits a type of unit generators refers to one, unless it is null
  there : (u : UgenKind) (a : Datum) → Suits classes shapes (One (UnitElem u)) a
      → Fine (IsUnitAt s.store u) (unit_of s.store a)
  there u a is = unit_of_fine s.store u classes a is

  pub connect_fits : Fits code typing fn f places p Connect kinds
      → Good (effect code shred Connect place f p l ops rest s)
  connect_fits fits =
      joins_fit connected (connected_fine code s.store state.store) (λ a b null.
      from_traps s.store a null b) (λ u a b is null.
      to_traps s.store b null (IsUnitAt s.store u) a (there u a is)) fits

  pub disconnect_fits : Fits code typing fn f places p Disconnect kinds
      → Good (effect code shred Disconnect place f p l ops rest s)
  disconnect_fits fits =
      joins_fit disconnected (disconnected_fine code s.store state.store) (λ a b null.
      cut_from_traps s.store a null b) (λ u a b is null.
      cut_to_traps s.store b null (IsUnitAt s.store u) a (there u a is)) fits

  pub param_fits : (q : Parameter) → Fits code typing fn f places p (Param q) kinds
      → Good (effect code shred (Param q) place f p l ops rest s)
  param_fits q fits =
      good_top Good classes shapes _ kinds ops _ fits held (λ j beneath r under unit is_r suit.
      null_or classes shapes j r unit is_r (λ null.
      good_trap Good (parameter_of q r s.store) place s _ (param_traps s.store r null q)
      (λ trap. state)) (λ top.
      let u = top.0 in
      let w = found_is (parameter u q) _ top.1 in
      good_try Good (IsOf classes shapes w.0.elem) (parameter_of q r s.store) place s _
      (parameter_of_fine code s.store state.store u q w.0 w.1 r
      (stands_suits classes shapes j (One (UnitElem u)) r w.2.0 is_r)) (λ trap. state) (λ v is_v.
      next_fits fn places f rest (p + 1) (One w.0.elem ∷ beneath) l (v ∷ under) s stands w.2.1 (
        is_v,
        suit,
      ) locals state)))

  pub set_param_fits : (q : Parameter) → Fits code typing fn f places p (SetParam q) kinds
      → Good (effect code shred (SetParam q) place f p l ops rest s)
  set_param_fits q fits =
      good_top Good classes shapes _ kinds ops _ fits held (λ j kinds1 v lower below is_v suit1.
      good_top Good classes shapes _ kinds1 lower _ below suit1
      (λ i beneath r under unit is_r suit.
      null_or classes shapes i r unit is_r (λ null.
      good_trap Good (parameter_set q r v s.store) place s _ (set_param_traps s.store r null q v)
      (λ trap. state)) (λ top.
      let u = top.0 in
      let w = found_is (parameter u q) _ top.1 in
      let e = w.0.elem in
      good_try Good (λ (set : ReadBack). IsOf classes shapes e set.value
      × Grown code s.store set.store) (parameter_set q r v s.store) place s _
      (parameter_set_fine code s.store state.store u q w.0 w.1 r
      (stands_suits classes shapes i (One (UnitElem u)) r w.2.2 is_r) v w.2.0
      (stands_suits classes shapes j (One e) v w.2.1 is_v)) (λ trap. state) (λ set h.
      grown_fits fn places f rest (p + 1) (One e ∷ beneath) l (set.value ∷ under) s set.store
      stands w.2.3 (h.0, suit) locals state h.1))))
