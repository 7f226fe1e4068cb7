-- A run is the same by two sounds that agree whenever a sample is made.
use Rattle.std.proofs.Common.{◌≡◌, ℕ, zero, suc, ◌+◌, List, [], ◌∷◌, ◌++◌, All, fold, filter, map, not, nat_eq, length, Option, Some, None, refl, sym, ap, ◌∙◌, subst, arith}
use Rattle.std.proofs.lemmas.List.Elements.{All-nil, All-push}
use Rattle.ck_values.specs.declared.kind.Kind.{Kind}
use Rattle.ugen_kinds.specs.declared.output.Output.{Output}
use Rattle.ugen_kinds.specs.SoundFile.{SoundFile, no_waves}
use Rattle.ugen_sample.specs.Order.{roots}
use Rattle.ugen_sample.specs.declared.unit.UnitState.{UnitState}
use Rattle.ugen_sample.specs.UnitState.{Units, unit_at}
use Rattle.ugen_sample.specs.Sample.{dac, output_of as given_by, last_of}
use Rattle.ugen_sample.specs.Connection.{Connection}
use Rattle.ugen_sample.specs.Sample.{sampled as units_after}
use Rattle.ugen_sample.specs.OneChannel.{mono_sampled, IsMono, AreMono, HaveNoSides}
use Rattle.ck_store.specs.Store.{Store, first_store, Act, Printed, Sporked, WokeOne, WokeAll, Removed}
use Rattle.ck_store.specs.Steps.{ticked}
use Rattle.ck_store.specs.Graph.{units_sounded}
use Rattle.ck_run.specs.Run.{Slice, Runner, Shred, Due, Run, live, applied, carried_out_where, trap_of, came, noted, after_slice, run_slice, first_due, output_of, sampled, after_due, settled, most_slices, first_shreds, first_due_of, first_run, run_of}
use Rattle.ck_run.specs.Channels.{Sound, one_channel, HasOneChannel, by_sound, before_sample, AtEachSample}
use Rattle.ck_run.proofs.Silences.{settled_samples}

module _ {P : Type 0} (runner : Runner P) (sound : Sound) where
  abbrev other : Runner P
  other = by_sound sound runner

  -- the slices are the same
  applied_same : (n : ℕ) (run : Run P) (act : Act) → applied runner n run act ≡ applied other n run act
  applied_same n run (Printed line) = refl
  applied_same n run (Sporked number f arguments) = refl
  applied_same n run (WokeOne event) = refl
  applied_same n run (WokeAll event) = refl
  applied_same n run (Removed number) = refl

  acts_same : (n : ℕ) (acts : List Act) (run : Run P)
      → fold (applied runner n) run acts ≡ fold (applied other n) run acts
  acts_same n [] run = refl
  acts_same n (act ∷ acts) run =
      ap (λ r. fold (applied runner n) r acts) (applied_same n run act)
      ∙ acts_same n acts (applied other n run act)

  after_same : (run : Run P) (n : ℕ) (slice : Slice P)
      → after_slice runner run n slice ≡ after_slice other run n slice
  after_same run n slice =
      let left : Run P = record run {
        store = slice.store;
        shreds = map (came n slice.progress) run.shreds;
        begun = run.begun + slice.begun;
      } in
      let carried : Run P → Run P = λ r.
      let acted = noted r (record { time = slice.store.now; shred = n; trap = trap_of slice.stop }) in
      carried_out_where acted (live acted n) slice.stop in
      ap carried (acts_same n slice.acts left)

  slice_same : (run : Run P) (o : Option (Shred P)) → run_slice runner run o ≡ run_slice other run o
  slice_same run None = refl
  slice_same run (Some s) = after_same run s.number (runner.slice s.number s.progress run.store)

  due_same : (bound : ℕ) → ((run : Run P) → settled runner bound run ≡ settled other bound run)
      → (run : Run P) (o : Option Due)
      → after_due runner run o (settled runner bound) ≡ after_due other run o (settled other bound)
  due_same bound same run None = refl
  due_same bound same run (Some d) =
      let left : Run P = record run {
        due = filter (λ due. not (nat_eq due.shred d.shred)) run.due;
      } in
      ap (settled runner bound) (slice_same left (live run d.shred))
      ∙ same (run_slice other left (live run d.shred))

  settled_same : (bound : ℕ) (run : Run P) → settled runner bound run ≡ settled other bound run
  settled_same zero run = refl
  settled_same (suc bound) run =
      due_same bound (settled_same bound) run (first_due run.store.now run.due)

  -- and so is a sample where both sounds make the same of the unit generators
  abbrev Agree : Store → Type 0
  Agree store =
      runner.sound store.connections store.units ≡ sound store.connections store.units

  -- the run after a sample that made these of its unit generators
  abbrev sampled_as : Run P → Units → Run P
  sampled_as run units =
      let after = ticked (record run.store { units = units }) in
      record run { samples = run.samples ++ output_of after ∷ []; store = after }

  sampled_same : (run : Run P) → Agree run.store → sampled runner run ≡ sampled other run
  sampled_same run agree = ap (sampled_as run) agree

  module _ (mains : List ℕ) (statics : List Kind) where
    shreds_same : (number : ℕ) (rest : List ℕ)
        → first_shreds runner number rest ≡ first_shreds other number rest
    shreds_same number [] = refl
    shreds_same number (f ∷ rest) =
        let shred : Shred P =
        record { number = number; parent = 0; progress = runner.begin f [] } in
        ap (λ shreds. shred ∷ shreds) (shreds_same (suc number) rest)

    first_same : first_run runner mains statics ≡ first_run other mains statics
    first_same =
        let begun : List (Shred P) → Run P = λ shreds. record {
          store = first_store (length mains) statics;
          shreds = shreds;
          due = map first_due_of shreds;
          waits = [];
          samples = [];
          text = [];
          wakes = [];
          begun = 0;
        } in
        ap begun (shreds_same 1 mains)

    pub same_run : (n : ℕ) → AtEachSample Agree runner mains statics n
        → run_of runner mains statics n ≡ run_of other mains statics n
    same_run zero agree = first_same
    same_run (suc n) agree =
        let run = run_of runner mains statics n in
        sampled_same (before_sample runner mains statics n) (agree n (omega arith))
        ∙ ap (sampled other) (settled_same (most_slices run) run)
        ∙ ap (λ (r : Run P). sampled other (settled other (most_slices r) r))
        (same_run n (λ m lt. agree m (omega (arith, lt))))

-- one channel ------------------------------------------------------------------------------------

-- both sides are one number
abbrev IsBoth : Output → Type 0
IsBoth output = output.left ≡ output.right

given_both : (o : Option UnitState) → IsMono o → IsBoth (given_by o)
given_both None mono = refl
given_both (Some unit) mono = mono.1

-- by the law of a sample of one channel
module _ (same : (waves : List SoundFile) (roots : List ℕ) (connections : List Connection)
    (units : Units) → HaveNoSides connections → AreMono units
    → units_after waves roots connections units ≡ mono_sampled roots connections units)
    (stays : (roots : List ℕ) (connections : List Connection) (units : Units)
    → HaveNoSides connections → AreMono units → AreMono (mono_sampled roots connections units))
    {P : Type 0} (runner : Runner P) (mains : List ℕ) (statics : List Kind) where
  agree_where : (store : Store) → HasOneChannel store
      → units_sounded store.connections store.units ≡ one_channel store.connections store.units
  agree_where store one =
      same no_waves roots store.connections store.units one.connections one.units

  abbrev by_sides : Runner P
  by_sides = by_sound units_sounded runner

  pub mono_run : (n : ℕ) → AtEachSample HasOneChannel by_sides mains statics n
      → run_of by_sides mains statics n ≡ run_of (by_sound one_channel runner) mains statics n
  mono_run n one =
      same_run by_sides one_channel mains statics n
      (λ m lt. agree_where (before_sample by_sides mains statics m).store (one m lt))

  sample_both : (store : Store) → HasOneChannel store
      → IsBoth (last_of (units_sounded store.connections store.units) dac)
  sample_both store one =
      let mono = stays roots store.connections store.units one.connections one.units in
      subst (λ (units : Units). IsBoth (last_of units dac)) (sym (agree_where store one))
      (given_both (unit_at (one_channel store.connections store.units) dac) (mono.each dac))

  pub mono_both : (n : ℕ) → AtEachSample HasOneChannel by_sides mains statics n
      → All IsBoth (run_of by_sides mains statics n).samples
  mono_both zero one = All-nil IsBoth
  mono_both (suc n) one =
      let run = run_of by_sides mains statics n in
      let before = before_sample by_sides mains statics n in
      let made = last_of (units_sounded before.store.connections before.store.units) dac in
      subst (λ (samples : List Output). All IsBoth (samples ++ made ∷ []))
      (sym (settled_samples by_sides (most_slices run) run))
      (All-push IsBoth run.samples made (mono_both n (λ m lt. one m (omega (arith, lt))))
      (sample_both before.store (one n (omega arith))))
