-- When a code does what a program does.
use Rattle.std.specs.Prelude.{◌≡◌, ℕ, ◌≤◌, pred, List, [], ◌∷◌, Some, None, slice_get}
use Rattle.ck_values.specs.Datum.{Datum, first_locals}
use Rattle.ck_store.specs.Store.{Store, State, shapes_of}
use Rattle.ck_store.specs.Steps.{fresh}
use Rattle.ck_typed.specs.Tree.{Fun as TypedFun, Program}
use Rattle.ck_typed.specs.WellFormed.{params_of}
use Rattle.ck_code.specs.declared.code.CodeParts.{CodeParts}
use Rattle.ck_code.specs.Machine.{Frame, frame, Halt, Ended, Waits, Broke, Stuck, exec, code_run, enough}
use Rattle.ck_code.specs.Fitting.{Suit, IsFitStore, FollowOneAnother}
use Rattle.ck_meaning.specs.Outcome.{Outcome, Done, Left, Asks, Trapped, Wrong}
use Rattle.ck_meaning.specs.Meaning.{shred_from}
use Rattle.ck_run.specs.Run.{first_due, settled, most_slices}
use Rattle.ck_meaning.specs.Replay.{by_source, run, run_code}
use Rattle.ck_base.specs.declared.limits.TheConstants.{MAX_SAMPLES}

-- the machine ends as the tree does, with the same value or request, store, acts, turns and place,
-- and it is stuck where the tree is wrong
abbrev pub Agrees : Halt → Outcome Datum → Type 0
Agrees halt (Done v point) = halt ≡ Ended v point.state
Agrees halt (Left exit point) = ⊥
Agrees halt (Asks q place s) = (frames : List Frame) × (halt ≡ Waits q place frames s)
Agrees halt (Trapped trap place s) = halt ≡ Broke trap place s
Agrees halt Wrong = halt ≡ Stuck

-- the state in which a shred's first slice begins its function
abbrev pub first_state : Store → State
first_state store = record { store = store; acts = []; turns = pred fresh }

-- the frames of a function that begins, with none beneath it
abbrev pub fun_frames : (f : ℕ) → TypedFun → List Datum → List Frame
fun_frames f fn vs = frame f 0 (first_locals fn.locals vs) [] ∷ []

-- for each shred, function, arguments and stores that its slices find: with instructions enough,
-- the code ends as the tree does
pub record Follows (program : Program) (code : CodeParts) : Type 0 where
  pub agrees : (n f : ℕ) (fn : TypedFun) (vs : List Datum) (w : Store) (ws : List Store) →
      slice_get program.funs f ≡ Some fn →
      (k : ℕ) × ((m : ℕ) → k ≤ m → Agrees
      (code_run code n m (fun_frames f fn vs) (first_state w) ws)
      (shred_from program n fn vs w ws))

abbrev pub IsNotWrong : Outcome Datum → Type 0
IsNotWrong Wrong = ⊥
IsNotWrong _ = Unit {0}

-- for each shred, function, arguments that suit it, and stores that follow one another: the code
-- ends as the tree does with as many instructions a slice as the machine allows, and neither is
-- ever wrong
pub record MeansOnFitting (program : Program) (code : CodeParts) : Type 0 where
  pub agrees : (n f : ℕ) (fn : TypedFun) (vs : List Datum) (w : Store) (ws : List Store)
      → slice_get program.funs f ≡ Some fn → Suit code.classes (shapes_of w) (params_of fn) vs →
      IsFitStore code w
      → FollowOneAnother code n (enough code)
      (exec code n (enough code) (fun_frames f fn vs) (first_state w)) ws
      → Agrees (code_run code n (enough code) (fun_frames f fn vs) (first_state w) ws)
      (shred_from program n fn vs w ws)
  pub not_wrong : (n f : ℕ) (fn : TypedFun) (vs : List Datum) (w : Store) (ws : List Store)
      → slice_get program.funs f ≡ Some fn → Suit code.classes (shapes_of w) (params_of fn) vs →
      IsFitStore code w
      → FollowOneAnother code n (enough code)
      (exec code n (enough code) (fun_frames f fn vs) (first_state w)) ws
      → IsNotWrong (shred_from program n fn vs w ws)

-- the slices at this sample of a program's run leave none that is due then: the bound on them, by
-- which the run is defined, isn't met
abbrev pub IsSettled : Program → (sample : ℕ) → Type 0
IsSettled program sample =
    let before = run program sample in
    let after = settled (by_source program) (most_slices before) before in
    first_due after.store.now after.due ≡ None

-- the run of the code has the samples, the text, the slices and the store of the run of the program,
-- whose slices come to an end at each sample
pub record HasSameRuns (program : Program) (code : CodeParts) : Type 0 where
  pub samples : (count : ℕ) → count ≤ MAX_SAMPLES →
      (run program count).samples ≡ (run_code code count).samples
  pub text : (count : ℕ) → count ≤ MAX_SAMPLES →
      (run program count).text ≡ (run_code code count).text
  pub wakes : (count : ℕ) → count ≤ MAX_SAMPLES →
      (run program count).wakes ≡ (run_code code count).wakes
  pub store : (count : ℕ) → count ≤ MAX_SAMPLES →
      (run program count).store ≡ (run_code code count).store
  pub settled : (count : ℕ) → count ≤ MAX_SAMPLES → IsSettled program count
