-- What the calls on envelopes take and do.
use Rattle.std.proofs.Common.{◌≡◌, ℕ, ℤ, pos, Bool, true, false, not, List, ◌∷◌, refl}
use Rattle.std.specs.Ordering.{int_eq}
use Rattle.ck_values.specs.declared.trap.Place.{Place}
use Rattle.ck_values.specs.Datum.{Datum, AnInt, AFloat, ADur}
use Rattle.ck_typed.specs.declared.native.Native.TheVariants.{SetAdsr}
use Rattle.ugen_kinds.specs.Generator.{keyed, staged}
use Rattle.ck_store.specs.Store.{Store, State, Try, Misfit, IsFitting}
use Rattle.ck_store.specs.Steps.{and_then}
use Rattle.ck_store.specs.Graph.{place_at, unit_keyed, unit_staged}
use Rattle.ck_store.specs.Operators.{int_in, float_in, dur_in}
use Rattle.ck_store.specs.Natives.{native, leaving}
use Rattle.ck_code.specs.Machine.{Frame, tried, pushes, calls_native}
use Rattle.machine_world.proofs.Located.{change_first}
use Rattle.rare_steps.specs.Keys.{key_call, key_where_call}

-- whether a key is pressed by a call with an int: where it isn't 0, or the other way round
abbrev pub is_on_at : (is_on : Bool) → ℤ → Bool
is_on_at true n = not (int_eq n (pos 0))
is_on_at false n = int_eq n (pos 0)

abbrev pub keyed_where : (is_on : Bool) → (unit number : Datum) → Store → Try Store
keyed_where is_on u n store = and_then (int_in n) (λ k. unit_keyed (is_on_at is_on k) u store)

-- an ADSR beneath four operands is given them as its stages
abbrev pub staged_by : (operands : List Datum) → Store → Try Store
staged_by (r ∷ level ∷ d ∷ a ∷ u ∷ beneath) store =
    and_then (dur_in a) (λ attack. and_then (dur_in d) (λ decay. and_then (float_in level)
    (λ sustain. and_then (dur_in r) (λ release.
    unit_staged attack decay sustain release u store))))
staged_by _ store = Misfit

pub keyed_first : (is_on : Bool) (store : Store) (u n : Datum)
    → IsFitting (keyed_where is_on u n store) → IsFitting (place_at store.objects u)
keyed_first is_on store u (AnInt k) fits = change_first (keyed (is_on_at is_on k)) store u fits
keyed_first is_on store u _ fits = absurd fits

pub keyed_int : (is_on : Bool) (store : Store) (u n : Datum)
    → IsFitting (keyed_where is_on u n store) → IsFitting (int_in n)
keyed_int is_on store u (AnInt k) fits = tt
keyed_int is_on store u _ fits = absurd fits

pub staged_first : (r level d a u : Datum) (beneath : List Datum) (store : Store)
    → IsFitting (staged_by (r ∷ level ∷ d ∷ a ∷ u ∷ beneath) store)
    → IsFitting (place_at store.objects u)
staged_first (ADur r) (AFloat level) (ADur d) (ADur a) u beneath store fits =
    change_first (staged a d level r) store u fits
staged_first _ (AFloat level) (ADur d) (ADur a) u beneath store fits = absurd fits
staged_first r _ (ADur d) (ADur a) u beneath store fits = absurd fits
staged_first r level _ (ADur a) u beneath store fits = absurd fits
staged_first r level d _ u beneath store fits = absurd fits

-- what a key that is pressed or let go gives
pub key_called : (is_on : Bool) (place : Place) (f p : ℕ) (l : List Datum) (u : Datum)
    (ops : List Datum) (rest : List Frame) (s : State)
    → calls_native place (key_call is_on) f p l (u ∷ ops) rest s
    ≡ tried (leaving s (unit_keyed is_on u s.store)) place s
    (λ given. pushes given.value f p l ops rest given.state)
unfolding native
key_called true place f p l u ops rest s = refl
key_called false place f p l u ops rest s = refl

pub key_where_called : (is_on : Bool) (place : Place) (f p : ℕ) (l : List Datum) (u : Datum) (n : ℤ)
    (ops : List Datum) (rest : List Frame) (s : State)
    → calls_native place (key_where_call is_on) f p l (AnInt n ∷ u ∷ ops) rest s
    ≡ tried (leaving s (unit_keyed (is_on_at is_on n) u s.store)) place s
    (λ given. pushes given.value f p l ops rest given.state)
unfolding native
key_where_called true place f p l u n ops rest s = refl
key_where_called false place f p l u n ops rest s = refl

pub stages_called : (place : Place) (f p : ℕ) (l : List Datum) (r level d a : ℤ) (u : Datum)
    (ops : List Datum) (rest : List Frame) (s : State)
    → calls_native place SetAdsr f p l (ADur r ∷ AFloat level ∷ ADur d ∷ ADur a ∷ u ∷ ops) rest s
    ≡ tried (leaving s (unit_staged a d level r u s.store)) place s
    (λ given. pushes given.value f p l ops rest given.state)
unfolding native
stages_called place f p l r level d a u ops rest s = refl
