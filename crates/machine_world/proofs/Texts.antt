-- The strings of a code by their numbers.
use Rattle.std.proofs.Common.{◌≡◌, ℕ, ◌<◌, List, length, Some, slice_get, ap}
use Rattle.ck_values.specs.Datum.{AText}
use Rattle.ck_store.specs.Store.{Gives, IsFitting}
use Rattle.ck_store.specs.Steps.{and_then, found}
use Rattle.ck_code.specs.Machine.{text_at}
use Rattle.machine_world.proofs.Numbered.{replaced_within}

pub text_within : (texts : List (List ℕ)) (k : ℕ) → IsFitting (text_at texts k) → k < length texts
unfolding text_at
text_within texts k fits = replaced_within texts k _ fits

pub text_is : (texts : List (List ℕ)) (k : ℕ) (bytes : List ℕ) → slice_get texts k ≡ Some bytes
    → text_at texts k ≡ Gives (AText bytes)
unfolding text_at
text_is texts k bytes is = ap (λ o. and_then (found o) (λ bytes. Gives (AText bytes))) is

pub ruleset texts = (text_within, text_is)
