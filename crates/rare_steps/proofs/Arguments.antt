-- The operands of built-in calls.
use Rattle.std.proofs.Common.{◌≡◌, ℕ, ℤ, zero, suc, pos, negsuc, Bool, true, false, ◌-◌, ◌%◌, ◌^◌, ◌<◌, ◌≤◌, List, []}
use Rattle.std.proofs.Common.{◌∷◌, unsigned_abs, refl, ap, ◌∙◌, arith, FitsSigned}
use Rattle.std.specs.Int.{w64, cast_signed, cast_unsigned}
use Rattle.ck_values.specs.declared.kind.Elem.{Elem}
use Rattle.ck_values.specs.declared.operator.Op2.{Op2}
use Rattle.ck_values.specs.declared.trap.Place.{Place}
use Rattle.ck_values.specs.Datum.{Datum, AnInt, AFloat, ADur}
use Rattle.ck_typed.specs.declared.native.Native.{Native}
use Rattle.ck_typed.specs.declared.native.Native.TheVariants.{Size, Clear, SetAdsr}
use Rattle.ck_store.specs.Store.{State, IsFitting}
use Rattle.ck_store.specs.Steps.{and_then}
use Rattle.ck_store.specs.Operators.{binary, wrapped}
use Rattle.ck_store.specs.Natives.{native, operand_count}
use Rattle.ck_store.specs.Arrays.{item_of, with_item, item_count, cleared, grid_made}
use Rattle.ck_store.specs.Graph.{unit_keyed, unit_staged}
use Rattle.ck_code.specs.Machine.{Frame, Taken, taken, calls_native, updates_item, makes_grid}
use Rattle.rare_steps.specs.Keys.{key_call, key_where_call}
use Rattle.rare_steps.proofs.Keyed.{is_on_at, keyed_where, staged_by}
use Rattle.machine_world.specs.Steps.{IsGood, of_top, of_two, updated}
use Rattle.machine_world.proofs.Changed.{of_three, called}
use Rattle.machine_world.proofs.Parts.{fits_first}
use Rattle.machine_world.proofs.Sends.{good_fits}
use Rattle.machine_world.proofs.Updates.{tried_fits}
use Rattle.value_ops.proofs.Wraps.{wrapped_negation, recast}

pub native_calls : (place : Place) (call : Native) (f p : ℕ) (l ops : List Datum)
    (rest : List Frame) (s : State) → IsGood (calls_native place call f p l ops rest s)
    → IsFitting (called call ops s)
native_calls place call f p l ops rest s good =
    tried_fits (taken (operand_count call) [] ops) place s _ (λ (t : Taken). native call t.arguments s)
    (λ t good. good_fits (native call t.arguments s) place s _ good) good

-- the operands of each call
pub size_takes : (ops : List Datum) (s : State) → IsFitting (called Size ops s)
    → IsFitting (of_top ops (item_count s.store.objects))
unfolding native
size_takes [] s fits = fits
size_takes (r ∷ ops) s fits = fits_first (item_count s.store.objects r) _ fits

pub clear_takes : (ops : List Datum) (s : State) → IsFitting (called Clear ops s)
    → IsFitting (of_top ops (cleared s.store))
unfolding native
clear_takes [] s fits = fits
clear_takes (r ∷ ops) s fits = fits_first (cleared s.store r) _ fits

pub key_takes : (is_on : Bool) (ops : List Datum) (s : State)
    → IsFitting (called (key_call is_on) ops s)
    → IsFitting (of_top ops (λ u. unit_keyed is_on u s.store))
unfolding native
key_takes true [] s fits = fits
key_takes true (u ∷ ops) s fits = fits_first (unit_keyed true u s.store) _ fits
key_takes false [] s fits = fits
key_takes false (u ∷ ops) s fits = fits_first (unit_keyed false u s.store) _ fits

pub key_where_takes : (is_on : Bool) (ops : List Datum) (s : State)
    → IsFitting (called (key_where_call is_on) ops s)
    → IsFitting (of_two ops (λ u n. keyed_where is_on u n s.store))
unfolding native
key_where_takes true [] s fits = fits
key_where_takes true (v ∷ []) s fits = fits
key_where_takes true (AnInt n ∷ u ∷ ops) s fits =
    fits_first (unit_keyed (is_on_at true n) u s.store) _ fits
key_where_takes true (v ∷ u ∷ ops) s fits = fits
key_where_takes false [] s fits = fits
key_where_takes false (v ∷ []) s fits = fits
key_where_takes false (AnInt n ∷ u ∷ ops) s fits =
    fits_first (unit_keyed (is_on_at false n) u s.store) _ fits
key_where_takes false (v ∷ u ∷ ops) s fits = fits

pub stages_takes : (ops : List Datum) (s : State) → IsFitting (called SetAdsr ops s)
    → IsFitting (staged_by ops s.store)
unfolding native
stages_takes [] s fits = fits
stages_takes (r ∷ []) s fits = fits
stages_takes (r ∷ l ∷ []) s fits = fits
stages_takes (r ∷ l ∷ d ∷ []) s fits = fits
stages_takes (r ∷ l ∷ d ∷ a ∷ []) s fits = fits
stages_takes (ADur r ∷ AFloat l ∷ ADur d ∷ ADur a ∷ u ∷ ops) s fits =
    fits_first (unit_staged a d l r u s.store) _ fits
stages_takes (r ∷ AFloat l ∷ ADur d ∷ ADur a ∷ u ∷ ops) s fits = fits
stages_takes (r ∷ l ∷ ADur d ∷ ADur a ∷ u ∷ ops) s fits = fits
stages_takes (r ∷ l ∷ d ∷ ADur a ∷ u ∷ ops) s fits = fits
stages_takes (r ∷ l ∷ d ∷ a ∷ u ∷ ops) s fits = fits

-- the operands of an update of an item, and of an array of arrays
pub item_updates : (place : Place) (o : Op2) (f p : ℕ) (l ops : List Datum) (rest : List Frame)
    (s : State) → IsGood (updates_item place o f p l ops rest s)
    → IsFitting (of_three ops (λ e r i.
    updated (item_of s.store.objects r i) o (with_item s.store r i) e))
item_updates place o f p l [] rest s good = absurd good
item_updates place o f p l (i ∷ []) rest s good = absurd good
item_updates place o f p l (i ∷ r ∷ []) rest s good = absurd good
item_updates place o f p l (i ∷ r ∷ e ∷ beneath) rest s good =
    tried_fits (item_of s.store.objects r i) place s _
    (λ v. and_then (binary o v e) (with_item s.store r i)) (λ v good.
    tried_fits (binary o v e) place s _ (with_item s.store r i) (λ w good.
    good_fits (with_item s.store r i w) place s _ good) good) good

pub grid_finds : (place : Place) (e : Elem) (f p : ℕ) (l ops : List Datum) (rest : List Frame)
    (s : State) → IsGood (makes_grid place e f p l ops rest s)
    → IsFitting (of_two ops (λ n m. (grid_made e n m s.store).end))
grid_finds place e f p l [] rest s good = absurd good
grid_finds place e f p l (m ∷ []) rest s good = absurd good
grid_finds place e f p l (m ∷ n ∷ beneath) rest s good =
    good_fits (grid_made e n m s.store).end place _ _ good

-- an int without its sign
magnitude_fits : (a : ℤ) → FitsSigned w64 a → unsigned_abs a ≤ 2 ^ 63
magnitude_fits (pos n) fits = omega (arith, fits.sfits)
magnitude_fits (negsuc n) fits = omega (arith, fits.sfits)

wrapped_magnitude : (n : ℕ) → n ≤ 2 ^ 63 → cast_signed w64 n ≡ wrapped (pos n)
wrapped_magnitude zero small = refl
wrapped_magnitude (suc k) small =
    let fits : FitsSigned w64 (negsuc k) = record { sfits = omega arith } in
    let same : suc k ≡ (2 ^ 64 - cast_unsigned w64 (negsuc k)) % 2 ^ 64 = omega arith in
    ap (cast_signed w64) same ∙ wrapped_negation (negsuc k) fits

pub wrapping_magnitude : (a : ℤ) → FitsSigned w64 a
    → cast_signed w64 (unsigned_abs a) ≡ wrapped (pos (unsigned_abs a))
wrapping_magnitude a fits = wrapped_magnitude (unsigned_abs a) (magnitude_fits a fits)

-- a number of a shred as an int
pub wrapped_number : (n : ℕ) → n < 2 ^ 64 → cast_signed w64 n ≡ wrapped (pos n)
wrapped_number n small = recast (pos n) small
