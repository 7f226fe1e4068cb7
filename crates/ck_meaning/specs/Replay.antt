-- The slices of a shred: by the source, which is replayed, and by the code.
use Rattle.std.specs.Prelude.{ℕ, ℤ, negsuc, List, [], ◌∷◌, ◌++◌, Option, Some, None, slice_get}
use Rattle.ck_values.specs.declared.trap.Place.{Place}
use Rattle.ck_values.specs.Datum.{Datum, first_locals}
use Rattle.ck_store.specs.Store.{Store, State, End}
use Rattle.ck_store.specs.Steps.{fresh}
use Rattle.ck_store.specs.Graph.{units_sounded}
use Rattle.ck_typed.specs.Tree.{Program}
use Rattle.ck_code.specs.declared.code.CodeParts.{CodeParts}
use Rattle.ck_code.specs.declared.code.Fun.{Fun}
use Rattle.ck_code.specs.Machine.{Frame, frame, Halt, Ended, Waits, Broke, Unfinished, Stuck, stopped_at, slice_on, begun_on, enough}
use Rattle.ck_meaning.specs.Outcome.{Outcome, Done, Left, Asks, Wrong}
use Rattle.ck_meaning.specs.Outcome as outcome
use Rattle.ck_meaning.specs.Meaning.{with_fun, shred_from}
use Rattle.ck_run.specs.Run.{Stop, Asked, Trapped, WentWrong, Slice, Runner, Run, run_of}

-- a shred of the source: its function, its arguments, and the stores that its slices found
pub record Replay : Type 0 where
  pub fun : ℕ
  pub arguments : List Datum
  pub found : List Store

-- its function on all the stores that its slices found
abbrev pub replayed : Program → (shred : ℕ) → Replay → List Store → Outcome Datum
replayed program n r [] = Wrong
replayed program n r (w ∷ ws) =
    with_fun (slice_get program.funs r.fun) (λ fn. shred_from program n fn r.arguments w ws)

-- a slice that stopped so, which left this state
abbrev pub slice_left : {P : Type 0} → (begun : ℕ) → P → Stop → State → Slice P
slice_left begun progress stop s =
    record { stop = stop; store = s.store; acts = s.acts; progress = progress; begun = begun }

-- a slice that went wrong, which left all as it was
abbrev pub slice_wrong : {P : Type 0} → (begun : ℕ) → P → Store → Slice P
slice_wrong begun progress before =
    record { stop = WentWrong; store = before; acts = []; progress = progress; begun = begun }

-- the last of these slices, from how they end; a function that ends asks for the end of its shred.
-- A tree has no instructions.
abbrev pub slice_by : Replay → (before : Store) → Outcome Datum → Slice Replay
slice_by r before (Done v point) = slice_left 0 r (Asked End) point.state
slice_by r before (Left exit point) = slice_wrong 0 r before
slice_by r before (Asks q place s) = slice_left 0 r (Asked q) s
slice_by r before (outcome.Trapped trap place s) = slice_left 0 r (Trapped trap place) s
slice_by r before Wrong = slice_wrong 0 r before

-- shreds run by the source
abbrev pub by_source : Program → Runner Replay
by_source program = record {
  begin = λ f vs. record { fun = f; arguments = vs; found = [] };
  slice =
      λ n r w. slice_by (record r { found = r.found ++ w ∷ [] }) w
      (replayed program n r (r.found ++ w ∷ []));
  sound = units_sounded;
}

-- the run of a program, of so many samples
abbrev pub run : Program → (samples : ℕ) → Run Replay
run program samples = run_of (by_source program) program.mains program.statics samples

-- a shred of the code: its frames, its turns, the time of its last slice, and the place at which
-- that one stopped
pub record Stopped : Type 0 where
  pub frames : List Frame
  pub turns : ℕ
  pub last : ℤ
  pub place : Place

-- a shred that waits at a place, with these frames
abbrev pub waiting : Place → List Frame → State → Stopped
waiting place frames s =
    record { frames = frames; turns = s.turns; last = s.store.now; place = place }

-- a slice of the code, which began so many instructions, from how it ended
abbrev pub slice_with : (begun : ℕ) → Stopped → (before : Store) → Halt → Slice Stopped
slice_with begun r before (Ended v s) = slice_left begun r (Asked End) s
slice_with begun r before (Waits q place frames s) =
    slice_left begun (waiting place frames s) (Asked q) s
slice_with begun r before (Broke trap place s) = slice_left begun r (Trapped trap place) s
slice_with begun r before Unfinished = slice_wrong begun r before
slice_with begun r before Stuck = slice_wrong begun r before

-- the frames of a shred that has run no slice
abbrev pub first_frames : Option Fun → (f : ℕ) → List Datum → List Frame
first_frames None f vs = []
first_frames (Some fn) f vs = frame f 0 (first_locals fn.locals vs) [] ∷ []

-- a shred that has run no slice
abbrev pub beginning : CodeParts → (f : ℕ) → List Datum → Stopped
beginning code f vs =
    let frames = first_frames (slice_get code.funs f) f vs in
    record { frames = frames; turns = fresh; last = negsuc 0; place = stopped_at code frames }

-- shreds run by the code
abbrev pub by_code : CodeParts → Runner Stopped
by_code code = record {
  begin = beginning code;
  slice = λ n r w.
      slice_with (begun_on code n (enough code) r.last r.turns r.frames w) r w
      (slice_on code n (enough code) r.place r.last r.turns r.frames w);
  sound = units_sounded;
}

-- the run of a code, of so many samples
abbrev pub run_code : CodeParts → (samples : ℕ) → Run Stopped
run_code code samples = run_of (by_code code) code.mains code.statics samples
