-- The run of all shreds: which one runs its next slice, what its acts and its request do, and when
-- a sample is made. It is the same for the source and for the code.
use Rattle.std.specs.Prelude.{ℕ, zero, suc, ◌+◌, ◌*◌, nat_eq, ℤ, pos, negsuc, int_lt, int_le, Bool, false, not, ◌||◌, List, [], ◌∷◌, ◌++◌, length, map, filter, find, fold, drop, Option, Some, None}
use Rattle.ck_values.specs.declared.trap.Place.{Place}
use Rattle.ck_values.specs.declared.trap.Trap.{Trap}
use Rattle.ck_values.specs.declared.kind.Kind.{Kind}
use Rattle.ck_values.specs.Datum.{Datum}
use Rattle.ugen_kinds.specs.declared.output.Output.{Output}
use Rattle.ugen_sample.specs.Connection.{Connection}
use Rattle.ugen_sample.specs.declared.unit.UnitState.{UnitState}
use Rattle.ugen_sample.specs.UnitState.{Units, unit_at}
use Rattle.ugen_sample.specs.Sample.{dac, last_of}
use Rattle.ck_store.specs.Store.{Store, first_store, Act, Printed, Sporked, WokeOne, WokeAll, Removed, Request, At, On, End}
use Rattle.ck_store.specs.Steps.{pick, fresh, ticked}

-- how a slice stopped; it never goes wrong in a well-formed program
pub data Stop : Type 0 where
  Asked : Request → Stop
  Trapped : Trap → Place → Stop
  WentWrong : Stop

-- a slice: how it stopped, the store and the acts that it left, how far its shred came, and how
-- many instructions it began
pub record Slice (P : Type 0) : Type 0 where
  pub stop : Stop
  pub store : Store
  pub acts : List Act
  pub progress : P
  pub begun : ℕ

-- how shreds run and sound: what one begins with, by its function and arguments, its next slice, and
-- what a sample makes of unit generators that are connected so
pub record Runner (P : Type 0) : Type 0 where
  pub begin : (fun : ℕ) → (arguments : List Datum) → P
  pub slice : (shred : ℕ) → P → Store → Slice P
  pub sound : List Connection → Units → Units

-- a live shred: its number, that of the shred that sporked it, and how far it came
pub record Shred (P : Type 0) : Type 0 where
  pub number : ℕ
  pub parent : ℕ
  pub progress : P

-- a shred that is due at a time
pub record Due : Type 0 where
  pub time : ℤ
  pub shred : ℕ

-- a shred that waits on an event
pub record Wait : Type 0 where
  pub event : ℕ
  pub shred : ℕ

-- a trap and its place
pub record TrapAt : Type 0 where
  pub trap : Trap
  pub place : Place

-- a slice that was run: when, by which shred, and with which trap
pub record Wake : Type 0 where
  pub time : ℤ
  pub shred : ℕ
  pub trap : Option TrapAt

-- a piece of the text: a line that was printed, or the report of a slice that trapped
pub data Piece : Type 0 where
  Line : List ℕ → Piece
  TrapOf : Wake → Piece

-- a run so far: the store, the live shreds by their numbers, the due and the waiting in order of
-- arrival, the samples, which are what `dac` gave, the text, the slices, and how many instructions
-- they began
pub record Run (P : Type 0) : Type 0 where
  pub store : Store
  pub shreds : List (Shred P)
  pub due : List Due
  pub waits : List Wait
  pub samples : List Output
  pub text : List Piece
  pub wakes : List Wake
  pub begun : ℕ

-- whether a number stands in a list
abbrev pub has : List ℕ → ℕ → Bool
has [] n = false
has (m ∷ rest) n = nat_eq m n || has rest n

module _ {P : Type 0} where
  -- the live shred with this number
  abbrev pub live : Run P → ℕ → Option (Shred P)
  live run n = find (λ shred. nat_eq shred.number n) run.shreds

  -- a shred is made due, after all that are due
  abbrev pub with_due : Run P → ℤ → ℕ → Run P
  with_due run time n = record run { due = run.due ++ record { time = time; shred = n } ∷ [] }

  -- one more shred ends, where its parent has ended or it is the one that ends
  abbrev pub one_more_ends : ℕ → List ℕ → Shred P → List ℕ
  one_more_ends n ended shred =
      pick (nat_eq shred.number n || has ended shred.parent) (ended ++ shred.number ∷ []) ended

  -- the shreds that end with the one of this number; a parent stands before its children
  abbrev pub end_with : ℕ → List (Shred P) → List ℕ
  end_with n shreds = fold (one_more_ends n) [] shreds

-- one of these shreds made the unit generator
abbrev pub is_made_by : List ℕ → Option UnitState → Bool
is_made_by shreds None = false
is_made_by shreds (Some unit) = has shreds unit.maker

-- the connection touches a unit generator that one of these shreds made
abbrev pub touches : Units → List ℕ → Connection → Bool
touches units shreds c =
    is_made_by shreds (unit_at units c.from) || is_made_by shreds (unit_at units c.to)

module _ {P : Type 0} where
  -- these shreds end: what they waited for is forgotten, and so are the connections of what they
  -- made
  abbrev pub without : Run P → List ℕ → Run P
  without run gone = record run {
    shreds = filter (λ shred. not (has gone shred.number)) run.shreds;
    due = filter (λ due. not (has gone due.shred)) run.due;
    waits = filter (λ wait. not (has gone wait.shred)) run.waits;
    store =
        record run.store {
          connections = filter (λ c. not (touches run.store.units gone c))
              run.store.connections;
        };
  }

  -- a shred ends, and its children with it, and theirs
  abbrev pub ended : Run P → ℕ → Run P
  ended run n = without run (end_with n run.shreds)

  -- a child of a shred that hasn't ended itself
  abbrev pub with_child : Run P → (parent number : ℕ) → P → Option (Shred P) → Run P
  with_child run parent number progress None = run
  with_child run parent number progress (Some shred) =
      with_due (record
      run {
        shreds = run.shreds
            ++ record { number = number; parent = parent; progress = progress } ∷ [];
      }) run.store.now
      number

  -- a waiting shred is due now
  abbrev pub woken : Run P → Option Wait → Run P
  woken run None = run
  woken run (Some wait) =
      with_due (record
      run { waits = filter (λ other. not (nat_eq other.shred wait.shred)) run.waits })
      run.store.now wait.shred

  -- the shred with this number ends, where there is one
  abbrev pub ended_where : Run P → Option (Shred P) → Run P
  ended_where run None = run
  ended_where run (Some shred) = ended run shred.number

  -- the shred that a number of the language means
  abbrev pub live_at : Run P → ℤ → Option (Shred P)
  live_at run (pos n) = live run n
  live_at run (negsuc n) = None

  -- an act of the shred with this number is applied
  abbrev pub applied : Runner P → (shred : ℕ) → Run P → Act → Run P
  applied runner n run (Printed line) = record run { text = run.text ++ Line line ∷ [] }
  applied runner n run (Sporked number f arguments) =
      with_child run n number (runner.begin f arguments) (live run n)
  applied runner n run (WokeOne event) =
      woken run (find (λ wait. nat_eq wait.event event) run.waits)
  applied runner n run (WokeAll event) =
      fold (λ now wait. woken now (Some wait)) run
      (filter (λ wait. nat_eq wait.event event) run.waits)
  applied runner n run (Removed number) = ended_where run (live_at run number)

  -- the request of a shred is carried out
  abbrev pub carried_out : Run P → (shred : ℕ) → Stop → Run P
  carried_out run n (Asked (At time)) = with_due run time n
  carried_out run n (Asked (On event)) =
      record run { waits = run.waits ++ record { event = event; shred = n } ∷ [] }
  carried_out run n (Asked End) = ended run n
  carried_out run n (Trapped trap place) = ended run n
  carried_out run n WentWrong = ended run n

  -- it is dropped where the shred has ended by then
  abbrev pub carried_out_where : Run P → Option (Shred P) → Stop → Run P
  carried_out_where run None stop = run
  carried_out_where run (Some shred) stop = carried_out run shred.number stop

-- the trap of a slice
abbrev pub trap_of : Stop → Option TrapAt
trap_of (Asked q) = None
trap_of (Trapped trap place) = Some (record { trap = trap; place = place })
trap_of WentWrong = None

-- the lines that acts print
abbrev pub written : List Act → List Piece
written [] = []
written (Printed line ∷ acts) = Line line ∷ written acts
written (_ ∷ acts) = written acts

-- the report of a slice that trapped
abbrev pub trap_piece : Wake → Option TrapAt → List Piece
trap_piece wake None = []
trap_piece wake (Some at) = TrapOf wake ∷ []

module _ {P : Type 0} where
  -- how far the shred with this number came
  abbrev pub came : ℕ → P → Shred P → Shred P
  came n progress shred = pick (nat_eq shred.number n) (record shred { progress = progress }) shred

  -- the slice is noted
  abbrev pub noted : Run P → Wake → Run P
  noted run wake =
      record run { wakes = run.wakes ++ wake ∷ []; text = run.text ++ trap_piece wake wake.trap }

  -- after a slice: its acts are applied, it is noted, and its shred's request is carried out
  abbrev pub after_slice : Runner P → Run P → (shred : ℕ) → Slice P → Run P
  after_slice runner run n slice =
      let left = record run {
        store = slice.store;
        shreds = map (came n slice.progress) run.shreds;
        begun = run.begun + slice.begun;
      } in
      let acted = noted (fold (applied runner n) left slice.acts)
      (record { time = slice.store.now; shred = n; trap = trap_of slice.stop }) in
      carried_out_where acted (live acted n) slice.stop

  -- the slice of a shred that is due, if it is live
  abbrev pub run_slice : Runner P → Run P → Option (Shred P) → Run P
  run_slice runner run None = run
  run_slice runner run (Some shred) =
      after_slice runner run shred.number (runner.slice shred.number shred.progress run.store)

-- the sooner of two, the first one where they are due together
abbrev pub sooner : Due → Option Due → Due
sooner d None = d
sooner d (Some e) = pick (int_lt e.time d.time) e d

-- the first one of least time, where that time has come
abbrev pub first_due : ℤ → List Due → Option Due
first_due now [] = None
first_due now (d ∷ rest) =
    pick (int_le d.time now) (Some (sooner d (first_due now rest))) (first_due now rest)

-- what `dac` gave last
abbrev pub output_of : Store → Output
output_of store = last_of store.units dac

module _ {P : Type 0} where
  -- the store after a sample: the unit generators have sounded, and time goes on
  abbrev pub after_sample : Runner P → Store → Store
  after_sample runner store =
      ticked (record store { units = runner.sound store.connections store.units })

  -- a sample is made: what `dac` gives at it
  abbrev pub sampled : Runner P → Run P → Run P
  sampled runner run =
      let after = after_sample runner run.store in
      record run { samples = run.samples ++ output_of after ∷ []; store = after }

  -- goes on after the slice of what is due
  abbrev pub after_due : Runner P → Run P → Option Due → (Run P → Run P) → Run P
  after_due runner run None go = run
  after_due runner run (Some d) go =
      go (run_slice runner
      (record run { due = filter (λ other. not (nat_eq other.shred d.shred)) run.due })
      (live run d.shred))

  -- all that are due run, at most so many
  abbrev pub settled : Runner P → (bound : ℕ) → Run P → Run P
  settled runner zero run = run
  settled runner (suc bound) run =
      after_due runner run (first_due run.store.now run.due) (settled runner bound)

  -- more slices than can come at one sample: each but a shred's last one spends a turn of its own
  abbrev pub most_slices : Run P → ℕ
  most_slices run = suc fresh * (length run.shreds + 4_096)

  -- the shreds of the files, numbered from this one on
  abbrev pub first_shreds : Runner P → (number : ℕ) → (mains : List ℕ) → List (Shred P)
  first_shreds runner number [] = []
  first_shreds runner number (f ∷ rest) =
      record { number = number; parent = 0; progress = runner.begin f [] }
      ∷ first_shreds runner (suc number) rest

  abbrev pub first_due_of : Shred P → Due
  first_due_of shred = record { time = pos 0; shred = shred.number }

  -- a run before its first slice
  abbrev pub first_run : Runner P → (mains : List ℕ) → (statics : List Kind) → Run P
  first_run runner mains statics =
      let shreds = first_shreds runner 1 mains in
      record {
        store = first_store (length mains) statics;
        shreds = shreds;
        due = map first_due_of shreds;
        waits = [];
        samples = [];
        text = [];
        wakes = [];
        begun = 0;
      }

  -- a run of so many samples: what is due before a sample runs before it
  abbrev pub run_of : Runner P → (mains : List ℕ) → (statics : List Kind) → (samples : ℕ) → Run P
  run_of runner mains statics zero = first_run runner mains statics
  run_of runner mains statics (suc n) =
      let before = run_of runner mains statics n in
      sampled runner (settled runner (most_slices before) before)

-- what comes behind the items that were there before
abbrev pub since : {A : Type 0} → (before after : List A) → List A
since before after = drop (length before) after

-- a block of a run: the samples, the text and the slices that the run up to its end has more than
-- the run up to its start
pub record Block : Type 0 where
  pub samples : List Output
  pub text : List Piece
  pub wakes : List Wake

abbrev pub block_between : {P : Type 0} → (start end : Run P) → Block
block_between start end = record {
  samples = since start.samples end.samples;
  text = since start.text end.text;
  wakes = since start.wakes end.wakes;
}
