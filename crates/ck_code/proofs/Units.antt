-- The steps of unit generators: what refers to one is never a misfit, and a store that fits goes on
-- to.
use Rattle.std.proofs.Common.{◌≡◌, ℕ, zero, suc, ℤ, Bool, true, false, nat_lt, List, [], ◌∷◌, ◌++◌, length, All, Option, Some, None, option_map, refl, ap, sym, ◌∙◌, subst, inl, inr, slice_get, slice_set, option_and_then}
use Rattle.std.proofs.lemmas.List.{get_or_push}
use Rattle.std.proofs.lemmas.List.Elements.{All-nil, All-cons, All-head, All-tail, All-append}
use Rattle.ck_values.specs.declared.kind.Elem.TheVariants.{Unit as UnitElem}
use Rattle.ck_values.specs.declared.kind.Kind.TheVariants.{One}
use Rattle.ck_base.specs.declared.limits.TheConstants.{MAX_CONNECTIONS}
use Rattle.ck_values.specs.declared.trap.Trap.TheVariants.{Connections, DelayLimit}
use Rattle.ugen_names.specs.declared.param.Param.{Param}
use Rattle.ck_values.specs.declared.side.Side.TheVariants.{Both}
use Rattle.ugen_names.specs.declared.table.UgenKind.{UgenKind}
use Rattle.ugen_names.specs.declared.table.UgenKind.TheVariants.{UGen}
use Rattle.ck_values.specs.Datum.{Datum, ARef}
use Rattle.ugen_names.specs.declared.table.UgenKind.TheVariants as ugen
use Rattle.rand_pcg.specs.Lcg.{Lcg}
use Rattle.ugen_kinds.specs.declared.choices.WaveForm.{WaveForm}
use Rattle.ugen_kinds.specs.declared.choices.WaveForm.TheVariants.{Sine, Saw, Triangle, Square, Pulse, Ramp}
use Rattle.ugen_kinds.specs.declared.generator.Generator.{Generator}
use Rattle.ugen_kinds.specs.declared.generator.Generator.TheVariants as generator
use Rattle.ugen_kinds.specs.SoundFile.{no_waves}
use Rattle.ugen_kinds.specs.Generator.{wave_kind, kind_of, is_past_limit, keyed, staged}
use Rattle.ugen_kinds.proofs.Tables.{made_has_state, kind_first, kind_keyed, kind_staged}
use Rattle.ugen_sample.specs.Connection.{Connection}
use Rattle.ugen_sample.specs.declared.unit.UnitState.{UnitState}
use Rattle.ugen_sample.specs.UnitState.{Units, first_unit, unit_at}
use Rattle.ugen_sample.specs.Origins.{origin_of}
use Rattle.ugen_sample.specs.Parameters.{unit_parameter, with_unit_parameter}
use Rattle.ugen_sample.proofs.Origins.{origins_set, there_within}
use Rattle.ck_store.specs.Store.{Object, Instance, Items, UnitGenerator, Shape, OfUnit, shape, shape_at, Store, shapes_of, Gives, Fails, IsFitting}
use Rattle.ck_store.specs.Steps.{and_then, found}
use Rattle.ck_store.specs.Objects.{added}
use Rattle.ck_store.specs.Graph.{place_of, place_at, Located, unit_of, unit_made, connected, leads, without_first, disconnected, parameter_of, with_unit, unit_set, parameter_set, generator_changed, unit_keyed, unit_staged}
use Rattle.ck_typed.specs.declared.class.Class.{Class}
use Rattle.ck_typed.specs.Signatures.{Parameter, parameter}
use Rattle.ck_typed.specs.WellFormed.{FoundWhere, IsMade}
use Rattle.ck_code.specs.declared.code.CodeParts.{CodeParts}
use Rattle.ck_code.specs.Fitting.{IsOfUnit, IsOf, Suits, IsFitStore}
use Rattle.ck_code.proofs.Standing.{found_is, kept_same, refers_more, suit_kept, object_kept}
use Rattle.ck_code.proofs.Suiting.{Fine, fine_then, fine_map}
use Rattle.ck_code.proofs.Parameters.{IsOfType, Stays, has_parameter}
use Rattle.ck_code.proofs.Placed.{of_unit, IsWithin, GoOn, units_keep, graph_units, graph_connections, stay_on, more_on}
use Rattle.ck_code.proofs.Tables.{Grown, IsAdded, Makes, grown_trans, added_fine}
use Rattle.ck_code.proofs.Values.{picked}

-- what a value of a type of unit generators refers to
pub record IsUnitAt (store : Store) (u : UgenKind) (at : Located) : Type 0 where
  pub of_it : IsOfType u at.unit
  pub there : unit_at store.units at.place ≡ Some at.unit

-- what is of a type stays so
still_of : (u : UgenKind) (before after : UnitState) → Stays before after → IsOfType u before
    → IsOfType u after
still_of u before after stays (inl all) = inl all
still_of u before after stays (inr same) = inr (ap (λ (p : ℕ × UgenKind). p.1) stays ∙ same)

module _ (store : Store) (u : UgenKind) where
  -- the place of an object
  unit_there : (o : Option Object) → FoundWhere (option_and_then (shape store.units) o) (IsOfUnit u)
      → Fine (IsUnitAt store u) (and_then (place_of o) (λ place.
      and_then (found (unit_at store.units place)) (λ unit.
      Gives (record { place = place; unit = unit }))))
  unit_there None h = absurd h
  unit_there (Some (Instance class fields)) h = absurd h
  unit_there (Some (Items elem of_arrays items)) h = absurd h
  unit_there (Some (UnitGenerator place)) h =
      let unit = found_is (unit_at store.units place) _ (of_unit (IsOfUnit u) store.units place h) in
      subst (λ o. Fine (IsUnitAt store u) (and_then (found o) (λ unit.
      Gives (record { place = place; unit = unit })))) (sym unit.1)
      (record { of_it = unit.2; there = unit.1 })

  -- a value of the type refers to one that is there
  pub unit_of_fine : (classes : List Class) (r : Datum)
      → Suits classes (shapes_of store) (One (UnitElem u)) r
      → Fine (IsUnitAt store u) (unit_of store r)
  unfolding unit_of place_at
  unit_of_fine classes (ARef zero) h = tt
  unit_of_fine classes (ARef (suc n)) h = unit_there (slice_get store.objects n) h
  unit_of_fine classes _ h = absurd h

-- keys --------------------------------------------------------------------------------------------

-- the types of unit generators that have a key
abbrev pub IsKeyed : UgenKind → Type 0
IsKeyed ugen.Envelope = Unit {0}
IsKeyed ugen.Adsr = Unit {0}
IsKeyed _ = ⊥

-- the kind of a wave is none of them
abbrev is_wave : UgenKind → Bool
is_wave ugen.Envelope = false
is_wave ugen.Adsr = false
is_wave _ = true

wave_is : (form : WaveForm) → is_wave (wave_kind form) ≡ true
wave_is Sine = refl
wave_is Saw = refl
wave_is Triangle = refl
wave_is Square = refl
wave_is Pulse = refl
wave_is Ramp = refl

unlike : true ≡ false → ⊥
unlike e = cc

-- one of a type that has a key has it, and so an ADSR can be given its stages
module _ (is_on : Bool) where
  envelope_keys : (g : Generator) → kind_of g ≡ ugen.Envelope → IsFitting (found (keyed is_on g))
  unfolding keyed
  envelope_keys (generator.Envelope e) h = tt
  envelope_keys (generator.Wave w) h = absurd (unlike (sym (wave_is w.form) ∙ ap is_wave h))
  envelope_keys _ h = absurd cc

  adsr_keys : (g : Generator) → kind_of g ≡ ugen.Adsr → IsFitting (found (keyed is_on g))
  unfolding keyed
  adsr_keys (generator.Adsr a) h = tt
  adsr_keys (generator.Wave w) h = absurd (unlike (sym (wave_is w.form) ∙ ap is_wave h))
  adsr_keys _ h = absurd cc

  can_key : (u : UgenKind) → IsKeyed u → (unit : UnitState) → IsOfType u unit
      → IsFitting (found (keyed is_on unit.generator))
  can_key ugen.Envelope has_key unit (inl all) = absurd cc
  can_key ugen.Envelope has_key unit (inr same) = envelope_keys unit.generator same
  can_key ugen.Adsr has_key unit (inl all) = absurd cc
  can_key ugen.Adsr has_key unit (inr same) = adsr_keys unit.generator same
  can_key _ has_key unit of_it = absurd has_key

can_stage : (a d level release : ℤ) (u : UgenKind) → u ≡ ugen.Adsr → (unit : UnitState)
    → IsOfType u unit → IsFitting (found (staged a d level release unit.generator))
unfolding staged
can_stage a d level release u is unit (inl all) =
    let wrong : ugen.Adsr ≡ UGen = sym is ∙ all in absurd cc
can_stage a d level release u is unit (inr same) = adsr_stages unit.generator (same ∙ is)
  where
    adsr_stages : (g : Generator) → kind_of g ≡ ugen.Adsr
        → IsFitting (found (staged a d level release g))
    adsr_stages (generator.Adsr a) h = tt
    adsr_stages (generator.Wave w) h = absurd (unlike (sym (wave_is w.form) ∙ ap is_wave h))
    adsr_stages _ h = absurd cc

-- connections -------------------------------------------------------------------------------------

-- some are left where the first of some is taken away
without_all : (P : Connection → Type 0) (test : Connection → Bool) (cs : List Connection)
    → All P cs → All P (without_first test cs)
without_all P test [] all = All-nil P
without_all P test (c ∷ cs) all =
    let rest = All-tail P c cs all in
    picked (All P) (test c) cs (c ∷ without_first test cs) rest
    (All-cons P c (without_first test cs) (All-head P c cs all) (without_all P test cs rest))

module _ (code : CodeParts) where
  -- other unit generators that go on, or other connections
  pub units_fit : (store : Store) (after : Units) → IsFitStore code store
      → GoOn store.units after → IsFitStore code (record store { units = after })
  units_fit store after fit on =
      let shapes = shape_at after store.objects in
      let kept = units_keep store.objects store.units after on in
      record {
        objects = record {
          each = λ n o e.
              object_kept code.classes (shapes_of store) shapes kept o (fit.objects.each n o e);
        };
        statics = suit_kept code.classes (shapes_of store) shapes kept code.statics store.statics
            fit.statics;
        graph = graph_units store.objects store.units after store.connections on fit.graph;
        begun = fit.begun;
        within = fit.within;
        sporks = fit.sporks;
        next_shred = fit.next_shred;
      }

  -- another generator of random words
  pub words_fit : (words : Lcg) (store : Store) → IsFitStore code store
      → IsFitStore code (record store { words = words })
  words_fit words store fit = record {
    objects = fit.objects;
    statics = fit.statics;
    graph = fit.graph;
    begun = fit.begun;
    within = fit.within;
    sporks = fit.sporks;
    next_shred = fit.next_shred;
  }

  pub connections_fit : (store : Store) (after : List Connection) → IsFitStore code store
      → All (IsWithin store.units) after → IsFitStore code (record store { connections = after })
  connections_fit store after fit within = record {
    objects = fit.objects;
    statics = fit.statics;
    graph = graph_connections (shapes_of store) store.units store.connections after within fit.graph;
    begun = fit.begun;
    within = fit.within;
    sporks = fit.sporks;
    next_shred = fit.next_shred;
  }

  -- a step on two unit generators
  module _ (store : Store) (fit : IsFitStore code store) (u w : UgenKind) (a b : Datum)
      (is_a : Suits code.classes (shapes_of store) (One (UnitElem u)) a)
      (is_b : Suits code.classes (shapes_of store) (One (UnitElem w)) b) where
    pub connected_fine : Fine (Grown code store) (connected a b store)
    unfolding connected
    connected_fine =
        fine_then (IsUnitAt store u) (Grown code store) (unit_of store a) _
        (unit_of_fine store u code.classes a is_a) (λ from at_from.
        fine_then (IsUnitAt store w) (Grown code store) (unit_of store b) _
        (unit_of_fine store w code.classes b is_b) (λ to at_to.
        let c : Connection = record { from = from.place; to = to.place; side = Both } in
        let within : IsWithin store.units c = (
          there_within store.units from.place from.unit at_from.there,
          there_within store.units to.place to.unit at_to.there,
        ) in
        let all : All (IsWithin store.units) (store.connections ++ c ∷ []) =
        All-append (IsWithin store.units) store.connections (c ∷ []) fit.graph.within
        (All-cons (IsWithin store.units) c [] within (All-nil (IsWithin store.units))) in
        picked (Fine (Grown code store))
        (nat_lt (length store.connections) MAX_CONNECTIONS)
        (Gives (record store { connections = store.connections ++ c ∷ [] })) (Fails Connections) (
          connections_fit store (store.connections ++ c ∷ []) fit all,
          refl,
          kept_same (shapes_of store),
        ) tt))

    pub disconnected_fine : Fine (Grown code store) (disconnected a b store)
    unfolding disconnected
    disconnected_fine =
        fine_then (IsUnitAt store u) (Grown code store) (unit_of store a) _
        (unit_of_fine store u code.classes a is_a) (λ from at_from.
        fine_then (IsUnitAt store w) (Grown code store) (unit_of store b) _
        (unit_of_fine store w code.classes b is_b) (λ to at_to.
        let after = without_first (leads from.place to.place Both) store.connections in (
          connections_fit store after fit
              (without_all (IsWithin store.units) (leads from.place to.place Both) store.connections
              fit.graph.within),
          refl,
          kept_same (shapes_of store),
        )))

  -- a new unit generator
  pub unit_made_fine : (store : Store) (kind : UgenKind) (maker : ℕ) → IsMade kind
      → IsFitStore code store → Fine (Makes code store (One (UnitElem kind))) (unit_made kind maker store)
  unfolding unit_made
  unit_made_fine store kind maker made fit =
      let unit = first_unit kind maker (suc (length store.objects)) in
      let more : Store = record store { units = store.units ++ Some unit ∷ [] } in
      let on = more_on store.units unit in
      let fits : IsFitStore code more = units_fit store more.units fit on in
      let grown : Grown code store more =
      (fits, refl, units_keep store.objects store.units more.units on) in
      let new : Object = UnitGenerator (length store.units) in
      let is : shape more.units new ≡ Some (OfUnit kind) =
      ap (option_map (λ (unit : UnitState). OfUnit (kind_of unit.generator)))
      (get_or_push store.units (Some unit) None (length store.units) refl)
      ∙ ap (λ (k : UgenKind). let o : Option Shape = Some (OfUnit k) in o)
      (kind_first kind (suc (length store.objects)) (made_has_state kind made)) in
      fine_map (IsAdded code more (OfUnit kind)) (Makes code store (One (UnitElem kind)))
      (added new more) (added_fine code more new (OfUnit kind) fits tt is) (λ made h. (
        refers_more code.classes (shapes_of made.store) (λ y. y ≡ OfUnit kind) (IsOfUnit kind)
            (λ y e. subst (IsOfUnit kind) (sym e) (inr refl)) made.reference h.0,
        grown_trans code store more made.store grown h.1,
      ))

  -- one unit generator is replaced by another state of it
  unit_grown : (store : Store) (n : ℕ) (before after : UnitState) → IsFitStore code store
      → unit_at store.units n ≡ Some before → Stays before after
      → Grown code store (with_unit n after store)
  unit_grown store n before after fit there stays =
      let units = slice_set store.units n (Some after) in
      let on = stay_on store.units units
      (origins_set store.units n (Some after)
      (ap (λ (p : ℕ × UgenKind). let o : Option (ℕ × UgenKind) = Some p in o) stays
      ∙ sym (ap (option_map origin_of) there))) in
      (units_fit store units fit on, refl, units_keep store.objects store.units units on)

  -- a parameter of a type of unit generators
  module _ (store : Store) (fit : IsFitStore code store) (u : UgenKind) (q : Param)
      (w : Parameter) (has : parameter u q ≡ Some w) (r : Datum)
      (is_r : Suits code.classes (shapes_of store) (One (UnitElem u)) r) where
    abbrev Is : Datum → Type 0
    Is v = IsOf code.classes (shapes_of store) w.elem v

    pub parameter_of_fine : Fine Is (parameter_of q r store)
    unfolding parameter_of
    parameter_of_fine =
        fine_then (IsUnitAt store u) Is (unit_of store r) _
        (unit_of_fine store u code.classes r is_r) (λ at is.
        (has_parameter code.classes (shapes_of store) u q w at.unit is.of_it has).value)

    pub parameter_set_fine : (v : Datum) → w.is_read_only ≡ false → Is v
        → Fine (λ set. Is set.value × Grown code store set.store) (parameter_set q r v store)
    unfolding parameter_set
    parameter_set_fine v free is_v =
        fine_then (IsUnitAt store u) _ (unit_of store r) _
        (unit_of_fine store u code.classes r is_r) (λ at is.
        let old = has_parameter code.classes (shapes_of store) u q w at.unit is.of_it has in
        fine_then (Stays at.unit) _ (unit_set q v at.unit) _
        (picked (Fine (Stays at.unit)) (is_past_limit q v at.unit.generator) (Fails DelayLimit)
        (found (with_unit_parameter no_waves q v at.unit)) tt (old.set v free is_v)) (λ unit stays.
        let new =
        has_parameter code.classes (shapes_of store) u q w unit (still_of u at.unit unit stays is.of_it)
        has in
        fine_then Is _ (found (unit_parameter no_waves q unit)) _ new.value (λ x is_x. (
          is_x,
          unit_grown store at.place at.unit unit fit is.there stays,
        ))))

  -- a call that changes what a unit generator of a type keeps
  module _ (store : Store) (fit : IsFitStore code store) (u : UgenKind) (r : Datum)
      (is_r : Suits code.classes (shapes_of store) (One (UnitElem u)) r) where
    changed_fine : (change : Generator → Option Generator)
        → ((unit : UnitState) → IsOfType u unit → IsFitting (found (change unit.generator)))
        → ((g after : Generator) → change g ≡ Some after → kind_of after ≡ kind_of g)
        → Fine (Grown code store) (generator_changed change r store)
    unfolding generator_changed
    changed_fine change can keeps =
        fine_then (IsUnitAt store u) (Grown code store) (unit_of store r) _
        (unit_of_fine store u code.classes r is_r) (λ at is.
        changed_there at is (change at.unit.generator) refl (can at.unit is.of_it))
      where
        changed_there : (at : Located) → IsUnitAt store u at → (o : Option Generator)
            → change at.unit.generator ≡ o → IsFitting (found o)
            → Fine (Grown code store) (and_then (found o) (λ generator.
            Gives (with_unit at.place (record at.unit { generator = generator }) store)))
        changed_there at is None e h = absurd h
        changed_there at is (Some g) e h =
            unit_grown store at.place at.unit (record at.unit { generator = g }) fit is.there
            (ap (λ (k : UgenKind). let p : ℕ × UgenKind = (at.unit.maker, k) in p)
            (keeps at.unit.generator g e))

    -- a key of what can have one
    pub keyed_fine : (is_on : Bool) → IsKeyed u
        → Fine (Grown code store) (unit_keyed is_on r store)
    keyed_fine is_on has_key =
        changed_fine (keyed is_on) (λ unit of_it. can_key is_on u has_key unit of_it)
        (λ g after e. kind_keyed is_on g after e)

    -- the stages of an ADSR
    pub staged_fine : (a d level release : ℤ) → u ≡ ugen.Adsr
        → Fine (Grown code store) (unit_staged a d level release r store)
    staged_fine a d level release is =
        changed_fine (staged a d level release)
        (λ unit of_it. can_stage a d level release u is unit of_it)
        (λ g after e. kind_staged a d level release g after e)
