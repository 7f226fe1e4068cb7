-- What the built-in calls give.
use Rattle.std.specs.Prelude.{ℕ, ◌+◌, pos, unsigned_abs, true, false, not, List, [], ◌∷◌, length}
use Rattle.std.specs.Ordering.{int_eq}
use Rattle.fixed_point.specs.Fix.{magnitude_of}
use Rattle.ck_values.specs.Datum.{Datum, AnInt, AFloat, ADur, AText}
use Rattle.ck_typed.specs.Signatures.{On, nothing, built_in}
use Rattle.ck_typed.specs.declared.native.Native.{Native}
use Rattle.ck_typed.specs.declared.native.Native.TheVariants.{ShredId, Signal, Broadcast, Remove, Size, Clear, Length, CharAt, Substring, Abs, Fabs, Random2, Random2f, Srandom, KeyOn, KeyOff, KeyOnWhere, KeyOffWhere, SetAdsr}
use Rattle.rand_pcg.specs.Lcg.{Lcg}
use Rattle.ugen_kinds.specs.Words.{words_from}
use Rattle.ck_store.specs.Store.{Store, State, Act, WokeOne, WokeAll, Removed, Try, Gives, Misfit}
use Rattle.ck_store.specs.Steps.{and_then}
use Rattle.ck_store.specs.Operators.{wrapped}
use Rattle.ck_store.specs.Strings.{char_at, substring}
use Rattle.ck_store.specs.Arrays.{item_count, cleared}
use Rattle.ck_store.specs.Graph.{unit_keyed, unit_staged}
use Rattle.ck_store.specs.Random.{int_drawn, float_drawn, seed_of}
use Rattle.ck_store.specs.Shreds.{with_act, event_of, shred_of}

-- a value, and what it leaves
pub record Given : Type 0 where
  pub value : Datum
  pub state : State

-- a value, and nothing else
abbrev pub plain : State → Datum → Given
plain s v = record { value = v; state = s }

-- a value, and an act that is recorded
abbrev pub acting : State → Act → Datum → Given
acting s act v = plain (with_act act s) v

-- the int 0, and another store
abbrev pub leaving : State → Try Store → Try Given
leaving s step =
    and_then step (λ store. Gives (plain (record s { store = store }) (AnInt (pos 0))))

-- the generator of random words is another one
abbrev pub with_words : Lcg → State → State
with_words words s = record s { store = record s.store { words = words } }

-- what a call is made on is one operand, where there is something
abbrev pub count_on : On → ℕ
count_on nothing = 0
count_on _ = 1

-- how many operands a call takes
abbrev pub operand_count : Native → ℕ
operand_count call = count_on (built_in call).on + length (built_in call).params

-- a built-in call on its operands, of which the first is what it is made on, where there is
-- something
unfoldable pub native : Native → (operands : List Datum) → State → Try Given
native ShredId (v ∷ []) s = and_then (shred_of v) (λ n. Gives (plain s (AnInt (wrapped (pos n)))))
native Signal (r ∷ []) s =
    and_then (event_of r) (λ n. Gives (acting s (WokeOne n) (AnInt (pos 0))))
native Broadcast (r ∷ []) s =
    and_then (event_of r) (λ n. Gives (acting s (WokeAll n) (AnInt (pos 0))))
native Remove (AnInt n ∷ []) s = Gives (acting s (Removed n) (AnInt n))
native Abs (AnInt n ∷ []) s = Gives (plain s (AnInt (wrapped (pos (unsigned_abs n)))))
native Fabs (AFloat x ∷ []) s = Gives (plain s (AFloat (magnitude_of x)))
native Length (AText bytes ∷ []) s = Gives (plain s (AnInt (pos (length bytes))))
native CharAt (AText bytes ∷ AnInt i ∷ []) s =
    and_then (char_at bytes i) (λ byte. Gives (plain s (AnInt byte)))
native Substring (AText bytes ∷ AnInt start ∷ AnInt count ∷ []) s =
    and_then (substring bytes start count) (λ part. Gives (plain s (AText part)))
native Size (r ∷ []) s = and_then (item_count s.store.objects r) (λ n. Gives (plain s n))
native Clear (r ∷ []) s = leaving s (cleared s.store r)
native Random2 (AnInt a ∷ AnInt b ∷ []) s =
    let drawn = int_drawn a b s.store.words in
    Gives (plain (with_words drawn.words s) (AnInt drawn.number))
native Random2f (AFloat a ∷ AFloat b ∷ []) s =
    let drawn = float_drawn a b s.store.words in
    Gives (plain (with_words drawn.words s) (AFloat drawn.number))
native Srandom (AnInt n ∷ []) s =
    Gives (plain (with_words (words_from (seed_of n)) s) (AnInt (pos 0)))
native KeyOn (u ∷ []) s = leaving s (unit_keyed true u s.store)
native KeyOff (u ∷ []) s = leaving s (unit_keyed false u s.store)
native KeyOnWhere (u ∷ AnInt n ∷ []) s =
    leaving s (unit_keyed (not (int_eq n (pos 0))) u s.store)
native KeyOffWhere (u ∷ AnInt n ∷ []) s = leaving s (unit_keyed (int_eq n (pos 0)) u s.store)
native SetAdsr (u ∷ ADur a ∷ ADur d ∷ AFloat level ∷ ADur r ∷ []) s =
    leaving s (unit_staged a d level r u s.store)
native call operands s = Misfit
