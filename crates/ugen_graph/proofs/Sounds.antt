-- What one node makes, in the list of all.
use Rattle.std.proofs.Common.{◌≡◌, ℕ, ℤ, pos, ◌<◌, Bool, false, not, ◌==◌, nat_eq, List, [], ◌∷◌, length, map, Option, Some, None, IfSome, IsSomeAnd, nat_lt, ◌≤◌, slice_index_or, slice_set, refl, ap, sym, subst, ◌∙◌, inl, inr, arith}
use Rattle.std.proofs.lemmas.List.{get_or_default, get_or_past}
use Rattle.std.proofs.lemmas.Option.{same_Some}
use Rattle.std.proofs.lemmas.Bool.Decides.{nat_tests}
use Rattle.ugen_kinds.specs.declared.output.Output.{Output}
use Rattle.ugen_kinds.specs.SoundFile.{SoundFile, no_waves}
use Rattle.ugen_sample.specs.declared.choices.Channel.{Channel}
use Rattle.ugen_sample.specs.declared.choices.Channel.TheVariants.{Mean, Left, Right}
use Rattle.ugen_sample.specs.declared.choices.Joining.{Joining}
use Rattle.ugen_sample.specs.declared.choices.Joining.TheVariants.{Sum}
use Rattle.ugen_sample.specs.declared.unit.UnitState.{UnitState}
use Rattle.ugen_sample.specs.Connection.{Connection}
use Rattle.ugen_sample.specs.UnitState.{Units, unit_at}
use Rattle.ugen_sample.specs.Order.{sources_of}
use Rattle.ugen_sample.specs.Sample.{dac, is_fed, input_of, both_heard, result_of, gives, sounded, sounded_where, numbers_of, sources_on, made_from}
use Rattle.ugen_sample.proofs.Among.{either, equal}
use Rattle.ugen_graph.specs.Hands.{at_hand, sides, IsAllOf}

fed_is : (f : ℕ → ℤ) (sources : List ℕ) → is_fed (map f sources) ≡ not (length sources == 0)
fed_is f [] = refl
fed_is f (s ∷ ss) = grind (arith, nat_tests)

-- what is read at a place stands there
read_is : (nodes : Units) (n : ℕ) (read : Option UnitState) (unit : UnitState) → n < length nodes
    → slice_index_or nodes n read ≡ Some unit → unit_at nodes n ≡ Some unit
read_is nodes n read unit within e = sym (get_or_default nodes n read None within) ∙ e

-- one node makes its output
pub sound_is : (nodes : Units) (n : ℕ) (sources : List ℕ) (first second : Option UnitState)
    (reader unit after : UnitState) (x : ℤ) (fed : Bool) → n < length nodes
    → nat_eq n dac ≡ false
    → slice_index_or nodes n first ≡ Some reader → slice_index_or nodes n second ≡ Some unit
    → x ≡ input_of reader.joining (numbers_of nodes Mean sources)
    → fed ≡ not (length sources == 0)
    → after ≡ gives unit (result_of no_waves unit.joining unit.generator x fed)
    → slice_set nodes n (Some after) ≡ made_from no_waves (λ _ _. sources) nodes n
unfolding sounded
sound_is nodes n sources first second reader unit after x fed within other a b x_is fed_e h =
    let heard : Channel → List ℤ = λ channel. numbers_of nodes channel sources in
    let there = read_is nodes n second unit within b in
    let same : reader ≡ unit = same_Some _ _ (sym (read_is nodes n first reader within a) ∙ there) in
    let input : x ≡ input_of unit.joining (heard Mean) =
    x_is ∙ ap (λ (u : UnitState). input_of u.joining (heard Mean)) same in
    let feeds : fed ≡ is_fed (heard Mean) = fed_e ∙ sym (fed_is _ sources) in
    let by_dac : sounded no_waves n unit heard
    ≡ gives unit (result_of no_waves unit.joining unit.generator
    (input_of unit.joining (heard Mean)) (is_fed (heard Mean))) = rw (other, sounded) refl in
    let made : after ≡ sounded no_waves n unit heard =
    h ∙ ap (λ (y : ℤ). gives unit (result_of no_waves unit.joining unit.generator y fed)) input
    ∙ ap (λ (b : Bool). gives unit (result_of no_waves unit.joining unit.generator
    (input_of unit.joining (heard Mean)) b)) feeds
    ∙ sym by_dac in
    ap (λ (o : Option UnitState). slice_set nodes n o) (ap (λ (u : UnitState). Some u) made
    ∙ ap (λ (o : Option UnitState). sounded_where no_waves n o heard) (sym there))

-- and so does `dac`
pub dac_is : (nodes : Units) (left right : List ℕ) (first second : Option UnitState)
    (reader unit after : UnitState) (y z : ℤ) → 0 < length nodes
    → slice_index_or nodes 0 first ≡ Some reader → slice_index_or nodes 0 second ≡ Some unit
    → y ≡ input_of reader.joining (numbers_of nodes Left left)
    → z ≡ input_of reader.joining (numbers_of nodes Right right)
    → after ≡ gives unit (unit.generator, record { left = y; right = z })
    → slice_set nodes 0 (Some after) ≡ made_from no_waves (sides left right) nodes dac
unfolding sounded
dac_is nodes left right first second reader unit after y z within a b y_is z_is h =
    let heard : Channel → List ℤ = λ channel. numbers_of nodes channel (sides left right channel dac) in
    let there = read_is nodes 0 second unit within b in
    let same : reader ≡ unit = same_Some _ _ (sym (read_is nodes 0 first reader within a) ∙ there) in
    let on_left : y ≡ input_of unit.joining (heard Left) =
    y_is ∙ ap (λ (u : UnitState). input_of u.joining (heard Left)) same in
    let on_right : z ≡ input_of unit.joining (heard Right) =
    z_is ∙ ap (λ (u : UnitState). input_of u.joining (heard Right)) same in
    let made : after ≡ gives unit (unit.generator, both_heard unit.joining heard) =
    h ∙ ap (λ (l : ℤ). gives unit (unit.generator, record { left = l; right = z })) on_left
    ∙ ap (λ (r : ℤ). gives unit (
      unit.generator,
      record { left = input_of unit.joining (heard Left); right = r },
    )) on_right in
    ap (λ (o : Option UnitState). slice_set nodes 0 o) (ap (λ (u : UnitState). Some u) made
    ∙ ap (λ (o : Option UnitState). sounded_where no_waves 0 o heard) (sym there))

-- `dac`, where all its sources are heard on both sides
pub whole_is : (nodes : Units) (sources : List ℕ) (first second : Option UnitState)
    (reader unit after : UnitState) (y : Output) → 0 < length nodes
    → slice_index_or nodes 0 first ≡ Some reader → slice_index_or nodes 0 second ≡ Some unit
    → y ≡ both_heard reader.joining (λ channel. numbers_of nodes channel sources)
    → after ≡ gives unit (unit.generator, y)
    → slice_set nodes 0 (Some after) ≡ made_from no_waves (λ _ _. sources) nodes dac
unfolding sounded
whole_is nodes sources first second reader unit after y within a b y_is h =
    let heard : Channel → List ℤ = λ channel. numbers_of nodes channel sources in
    let there = read_is nodes 0 second unit within b in
    let same : reader ≡ unit = same_Some _ _ (sym (read_is nodes 0 first reader within a) ∙ there) in
    let input : y ≡ both_heard unit.joining heard =
    y_is ∙ ap (λ (u : UnitState). both_heard u.joining heard) same in
    let made : after ≡ gives unit (unit.generator, both_heard unit.joining heard) =
    h ∙ ap (λ (z : Output). gives unit (unit.generator, z)) input in
    ap (λ (o : Option UnitState). slice_set nodes 0 o) (ap (λ (u : UnitState). Some u) made
    ∙ ap (λ (o : Option UnitState). sounded_where no_waves 0 o heard) (sym there))

-- one source is heard as it is where sources are summed
pub one_heard : (joining : Joining) (v : ℤ) → joining ≡ Sum → v ≡ input_of joining (v ∷ [])
unfolding input_of
one_heard joining v e = rw e refl

-- one without sources
pub alone_is : (nodes : Units) (n : ℕ) (read : Option UnitState) (unit after : UnitState)
    (x : ℤ) → n < length nodes → nat_eq n dac ≡ false → slice_index_or nodes n read ≡ Some unit
    → x ≡ pos 0
    → after ≡ gives unit (result_of no_waves unit.joining unit.generator x false)
    → slice_set nodes n (Some after) ≡ made_from no_waves (λ _ _. []) nodes n
unfolding input_of
alone_is nodes n read unit after x within other b zero_is h =
    sound_is nodes n [] read read unit unit after x false within other b b zero_is refl h

-- only `dac` hears sides, and only another hears means
apart_other : (waves : List SoundFile) (n : ℕ) (o : Option UnitState) (h k : Channel → List ℤ)
    → nat_eq n dac ≡ false → h Mean ≡ k Mean → sounded_where waves n o h ≡ sounded_where waves n o k
unfolding sounded
apart_other waves n None h k other e = refl
apart_other waves n (Some unit) h k other e =
    rw (other, sounded) (ap (λ (vs : List ℤ). Some (gives unit (result_of waves unit.joining
    unit.generator (input_of unit.joining vs) (is_fed vs)))) e)

apart_dac : (waves : List SoundFile) (o : Option UnitState) (h k : Channel → List ℤ)
    → h Left ≡ k Left → h Right ≡ k Right → sounded_where waves dac o h ≡ sounded_where waves dac o k
unfolding sounded
apart_dac waves None h k l r = refl
apart_dac waves (Some unit) h k l r = rw (l, r) refl

-- so the sources at hand do as all sources do
pub made_same : (s t : Channel → ℕ → List ℕ) (units : Units) (n : ℕ) → s Mean n ≡ t Mean n
    → s Left dac ≡ t Left dac → s Right dac ≡ t Right dac
    → made_from no_waves s units n ≡ made_from no_waves t units n
made_same s t units n m l r =
    let h : Channel → List ℤ = λ channel. numbers_of units channel (s channel n) in
    let k : Channel → List ℤ = λ channel. numbers_of units channel (t channel n) in
    ap (slice_set units n) (elim (either (nat_eq n dac)) [
      | inl is ↦
          let e = equal n dac is in
          rw e (apart_dac no_waves (unit_at units dac)
          (λ channel. numbers_of units channel (s channel dac))
          (λ channel. numbers_of units channel (t channel dac))
          (ap (numbers_of units Left) l) (ap (numbers_of units Right) r))
      | inr other ↦
          apart_other no_waves n (unit_at units n) h k other (ap (numbers_of units Mean) m)
    ])

pub hand_other : (sources : List (List ℕ)) (left right mine : List ℕ) (units : Units) (n : ℕ)
    → nat_eq n dac ≡ false → mine ≡ slice_index_or sources n []
    → made_from no_waves (λ _ _. mine) units n
    ≡ made_from no_waves (at_hand sources left right) units n
hand_other sources left right mine units n other e =
    ap (slice_set units n) (apart_other no_waves n (unit_at units n)
    (λ channel. numbers_of units channel mine)
    (λ channel. numbers_of units channel (at_hand sources left right channel n)) other
    (ap (numbers_of units Mean) e))

pub hand_dac : (sources : List (List ℕ)) (left right : List ℕ) (units : Units)
    → made_from no_waves (sides left right) units dac
    ≡ made_from no_waves (at_hand sources left right) units dac
hand_dac sources left right units =
    ap (slice_set units dac) (apart_dac no_waves (unit_at units dac)
    (λ channel. numbers_of units channel (sides left right channel dac))
    (λ channel. numbers_of units channel (at_hand sources left right channel dac)) refl refl)

-- the turn of a node
pub turn_sides : (sources : List (List ℕ)) (left right : List ℕ) (units new : Units) (n : ℕ)
    → n ≡ 0 → new ≡ made_from no_waves (sides left right) units dac
    → new ≡ made_from no_waves (at_hand sources left right) units n
turn_sides sources left right units new n is e = rw is (e ∙ hand_dac sources left right units)

-- `dac`, from all its sources on both sides
pub turn_whole : (sources : List (List ℕ)) (left right mine read : List ℕ) (units new : Units)
    (n : ℕ) → n ≡ 0 → n < length sources → mine ≡ slice_index_or sources n read
    → IsAllOf left (slice_index_or sources dac []) → IsAllOf right (slice_index_or sources dac [])
    → length left ≡ length mine → length right ≡ length mine
    → new ≡ made_from no_waves (λ _ _. mine) units dac
    → new ≡ made_from no_waves (at_hand sources left right) units n
turn_whole sources left right mine read units new n is within e all_left all_right l r made =
    let m : mine ≡ slice_index_or sources dac [] =
    e ∙ get_or_default sources n read [] within ∙ ap (λ (k : ℕ). slice_index_or sources k []) is in
    let on_left : mine ≡ left = m ∙ sym (all_left (l ∙ ap (λ (ms : List ℕ). length ms) m)) in
    let on_right : mine ≡ right = m ∙ sym (all_right (r ∙ ap (λ (ms : List ℕ). length ms) m)) in
    rw is (made ∙ ap (slice_set units dac) (apart_dac no_waves (unit_at units dac)
    (λ channel. numbers_of units channel mine)
    (λ channel. numbers_of units channel (at_hand sources left right channel dac))
    (ap (numbers_of units Left) on_left) (ap (numbers_of units Right) on_right)))

pub turn_other : (sources : List (List ℕ)) (left right mine read : List ℕ) (units new : Units)
    (n : ℕ) → nat_eq n dac ≡ false → n < length sources → mine ≡ slice_index_or sources n read
    → new ≡ made_from no_waves (λ _ _. mine) units n
    → new ≡ made_from no_waves (at_hand sources left right) units n
turn_other sources left right mine read units new n other within e made =
    made ∙ hand_other sources left right mine units n other
    (e ∙ get_or_default sources n read [] within)

-- the turn of one that has these sources
pub turn_own : (cs : List Connection) (ms : List ℕ) (units new : Units) (n : ℕ)
    → nat_eq n dac ≡ false → sources_of cs n ≡ ms
    → new ≡ made_from no_waves (λ _ _. ms) units n
    → new ≡ made_from no_waves (sources_on cs) units n
turn_own cs ms units new n other e made =
    made ∙ ap (slice_set units n) (apart_other no_waves n (unit_at units n)
    (λ channel. numbers_of units channel ms)
    (λ channel. numbers_of units channel (sources_on cs channel n)) other
    (ap (numbers_of units Mean) (sym e)))

-- by the connections, where these are at hand
pub turn_wired : (cs : List Connection) (sources : List (List ℕ)) (left right : List ℕ)
    (units new : Units) (n : ℕ) → ((m : ℕ) → slice_index_or sources m [] ≡ sources_of cs m)
    → left ≡ sources_on cs Left dac → right ≡ sources_on cs Right dac
    → new ≡ made_from no_waves (at_hand sources left right) units n
    → new ≡ made_from no_waves (sources_on cs) units n
turn_wired cs sources left right units new n wired l r made =
    made ∙ made_same (at_hand sources left right) (sources_on cs) units n (wired n) l r

-- what holds of the one there
pub if_there : (nodes : Units) (n : ℕ) (unit : UnitState) (P : UnitState → Type 0)
    → unit_at nodes n ≡ Some unit → P unit → IfSome (unit_at nodes n) P
if_there nodes n unit P is h = subst (λ (o : Option UnitState). IfSome o P) (sym is) h

-- where one has to be, the one that is read is there
pub there_is : (nodes : Units) (n : ℕ) (read : Option UnitState) (unit : UnitState)
    (Q : UnitState → Type 0) → IsSomeAnd (unit_at nodes n) Q → read ≡ slice_index_or nodes n read
    → read ≡ Some unit → unit_at nodes n ≡ Some unit
there_is nodes n read unit Q some e is =
    elim (either (nat_lt n (length nodes))) [
      | inl low ↦
          let within : n < length nodes = grind (arith, nat_tests) in
          read_is nodes n read unit within (sym e ∙ is)
      | inr high ↦
          let past : length nodes ≤ n = grind (arith, nat_tests) in
          let none : unit_at nodes n ≡ None = get_or_past nodes n None past in
          absurd (subst (λ (o : Option UnitState). IsSomeAnd o Q) none some)
    ]
