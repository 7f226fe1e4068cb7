-- The steps that the source meaning and the machine share.
use Rattle.std.specs.Prelude.{ℕ, zero, suc, ℤ, pos, ◌+ℤ◌, ◌*ℤ◌, int_lt, Bool, true, false, List, [], Option, Some, None, slice_get, slice_set, nat_lt}
use Rattle.fixed_point.specs.Rounding.{floor_div}
use Rattle.fixed_point.specs.Fix.{nearest_in_range, scaled_of}
use Rattle.ck_base.specs.declared.limits.TheConstants.{FRESH_TURNS, MAX_CALLS}
use Rattle.ck_values.specs.declared.trap.Trap.TheVariants.{TimeBeforeNow, Turns, CallDepth}
use Rattle.ck_values.specs.Datum.{Datum, AnInt, AFloat, ADur, ATime}
use Rattle.ck_store.specs.Store.{Store, State, Request, At, On, End, Try, Gives, Fails, Misfit}

-- goes on with what a step gives
abbrev pub and_then : {A B : Type 0} → Try A → (A → Try B) → Try B
and_then (Gives a) go = go a
and_then (Fails trap) go = Fails trap
and_then Misfit go = Misfit

-- what was found, or a misfit
abbrev pub found : {A : Type 0} → Option A → Try A
found None = Misfit
found (Some a) = Gives a

-- one of two, by a test
abbrev pub pick : {A : Type 0} → Bool → A → A → A
pick true a b = a
pick false a b = b

-- so many times a unit of n / d samples, by an int and by a float
unfoldable pub int_units : (n d : ℤ) → Datum → Try Datum
int_units n d (AnInt x) = Gives (ADur (nearest_in_range (floor_div (x *ℤ n) d)))
int_units n d v = Misfit

unfoldable pub float_units : (n d : ℤ) → Datum → Try Datum
float_units n d (AFloat x) = Gives (ADur (scaled_of x n d))
float_units n d v = Misfit

-- whether an int is 0, as a condition asks
unfoldable pub is_zero : Datum → Try Bool
is_zero (AnInt (pos zero)) = Gives true
is_zero (AnInt n) = Gives false
is_zero v = Misfit

-- the local with this number
unfoldable pub local_of : List Datum → ℕ → Try Datum
local_of locals i = found (slice_get locals i)

-- the locals with one of them replaced
unfoldable pub with_local : List Datum → ℕ → Datum → Try (List Datum)
with_local locals i v = and_then (local_of locals i) (λ old. Gives (slice_set locals i v))

-- the static with this number
unfoldable pub static_of : Store → ℕ → Try Datum
static_of store i = found (slice_get store.statics i)

-- the store with one static replaced
unfoldable pub with_static : Store → ℕ → Datum → Try Store
with_static store i v =
    and_then (static_of store i)
    (λ old. Gives (record store { statics = slice_set store.statics i v }))

-- to go on at a time, which must not be past
abbrev pub until : ℤ → Store → Try Request
until time store = pick (int_lt time store.now) (Fails TimeBeforeNow) (Gives (At time))

-- a wait for a dur
unfoldable pub wait_dur : Datum → Store → Try Request
wait_dur (ADur d) store = until (nearest_in_range (store.now +ℤ d)) store
wait_dur v store = Misfit

-- a wait until a time
unfoldable pub wait_time : Datum → Store → Try Request
wait_time (ATime t) store = until t store
wait_time v store = Misfit

-- what comes after a request, where the shred goes on then; or how it ends
abbrev pub where_it_goes_on : {A : Type 0} → Request → (ended next : A) → A
where_it_goes_on (At time) ended next = next
where_it_goes_on (On event) ended next = next
where_it_goes_on End ended next = ended

-- the turns that a shred has afresh
unfoldable pub fresh : ℕ
fresh = FRESH_TURNS

-- one turn fewer, or the trap where none is left
abbrev pub spent_from : ℕ → State → Try State
spent_from zero s = Fails Turns
spent_from (suc turns) s = Gives (record s { turns = turns })

-- a turn is spent
abbrev pub turn_spent : State → Try State
turn_spent s = spent_from s.turns s

-- fewer than a thousand calls are active, so that there is room for one more
abbrev pub room_for_call : (active : ℕ) → Try (Unit {0})
room_for_call active = pick (nat_lt active MAX_CALLS) (Gives tt) (Fails CallDepth)

-- time goes on by one sample, at which no spork was made yet
abbrev pub ticked : Store → Store
ticked store = record store { now = store.now +ℤ pos 1; sporks = 0 }

-- a slice begins on the store that it finds: no acts yet, and turns afresh where time has gone on
-- since the shred's last slice
abbrev pub resumed : (last : ℤ) → (turns : ℕ) → Store → State
resumed last turns store =
    record { store = store; acts = []; turns = pick (int_lt last store.now) fresh turns }
