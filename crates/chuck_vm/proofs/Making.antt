-- Samples are made, one after another.
use Rattle.std.proofs.Common.{◌≡◌, ℕ, suc, ◌+◌, ◌<◌, ◌≤◌, ℤ, pos, ◌<ℤ◌, List, [], ◌∷◌, ◌++◌, map, length, refl, sym, ap, ◌∙◌, subst, arith, append_assoc, append-nil}
use Rattle.std.proofs.lemmas.Int.{ints}
use Rattle.std.proofs.lemmas.List.{map-append}
use Rattle.ck_base.specs.declared.limits.TheConstants.{MAX_FILES, MAX_SAMPLES}
use Rattle.ugen_kinds.specs.declared.output.Output.{Output}
use Rattle.ck_store.specs.Store.{Store}
use Rattle.ck_code.specs.declared.code.CodeParts.{CodeParts}
use Rattle.ck_code.specs.Verified.{IsVerified}
use Rattle.ck_meaning.specs.Replay.{Stopped, by_code, run_code}
use Rattle.ck_run.specs.Run.{Runner, Piece, Wake, Block, Run, settled, most_slices, output_of, after_sample, sampled, since, block_between}
use Rattle.ck_run.specs.Report.{text_bytes, sheet_sample, sheet_samples}
use Rattle.ck_run.specs.Sound.{measure}
use Rattle.ck_run.specs.Told.{silent, told, AddsFront}
use Rattle.ck_run.proofs.Silences.{settled_samples}
use Rattle.ck_run.proofs.Growing.{Grows, grows_more, grows_same, quiet, next_run, next_grows, run_grows, since-front}
use Rattle.ck_run.proofs.Settling.{settles, enough_slices}
use Rattle.run_laws.specs.FitRuns.{turns_at, IsRunStore, IsFitShred}
use Rattle.run_laws.proofs.Lawful.{lawful, stands}
use Rattle.machine_world.specs.Worlds.{StandsFor}
use Rattle.chuck_vm.specs.declared.machine.Machine.{Machine}
use Rattle.chuck_vm.specs.declared.wake.Wake.{Wake as MachineWake}
use Rattle.chuck_vm.specs.Machine.{shreds_of, due_of, wait_of, Stands}
use Rattle.chuck_vm.specs.Running.{CanRun, OfSettled}
use Rattle.chuck_vm.specs.Telling.{Becomes, TellsFront, Adds, AddsFronts}
use Rattle.chuck_vm.specs.Tallies.{as_counted, Counts}
use Rattle.chuck_vm.specs.Wakes.{wakes_meant}
use Rattle.chuck_vm.proofs.Waits.{joined_waits, same_waits}
use Rattle.chuck_vm.proofs.Applying.{text-append}
use Rattle.chuck_vm.proofs.Counting.{counted_on}
use Rattle.chuck_vm.proofs.Dues.{same_due, joined_due}
use Rattle.chuck_vm.proofs.Reports.{all_added, none_added}
use Rattle.chuck_vm.proofs.Stands.{now_is, told_alike, quiet_sound}

-- some were added, and some front of the next ones
front_of : {A : Type 0} (items mine theirs later old mid new : List A) → items ≡ (mine ++ theirs) ++ later
    → mid ≡ old ++ mine → AddsFront theirs mid new → AddsFront items old new
front_of items mine theirs later old mid new are so_far f = (
  mine ++ f.0,
  f.1 ++ later,
  are ∙ ap (λ l. (mine ++ l) ++ later) f.2 ∙ ap (λ l. l ++ later) (sym (append_assoc mine f.0 f.1))
      ∙ append_assoc (mine ++ f.0) f.1 later,
  f.3 ∙ ap (λ l. l ++ f.0) so_far ∙ append_assoc old mine f.0,
)

pub tells_all : (names : List (List ℕ)) (run : Run Stopped) (machine : Machine) (text text2 : List ℕ)
    (wakes wakes2 : List MachineWake) → Becomes names run machine text text2 wakes wakes2
    → TellsFront names run text text2 wakes wakes2
tells_all names run machine text text2 wakes wakes2 becomes =
    record {
      text_front = all_added _ text text2 becomes.text_is;
      wakes_front =
          all_added _ (wakes_meant wakes) (wakes_meant wakes2) becomes.wakes_are;
    }

-- nothing was added
pub no_fronts : (names : List (List ℕ)) (block : Block) (samples samples2 : List ℤ) (text : List ℕ)
    (wakes : List MachineWake) → samples2 ≡ samples
    → AddsFronts names block samples samples2 text text wakes wakes
no_fronts names block samples samples2 text wakes same = record {
  samples_front = none_added (sheet_samples block.samples) samples samples2 same;
  text_front = none_added (text_bytes names block.text) text text refl;
  wakes_front = none_added block.wakes (wakes_meant wakes) (wakes_meant wakes) refl;
}

module _ (code : CodeParts) (names : List (List ℕ)) where
  abbrev cod : Runner Stopped
  cod = by_code code

  abbrev at : ℕ → Run Stopped
  at n = run_code code n

  abbrev bound : ℕ → ℕ
  bound n = most_slices (at n)

  -- what `dac` gives at the sample that a store makes
  abbrev pub gives : Store → Output
  gives store = output_of (after_sample cod store)

  -- what comes after so many samples, told from then on
  abbrev pub next : ℕ → Run Stopped
  next n = quiet cod code.mains code.statics n

  -- some samples were made
  pub record Making (from n : ℕ) (samples samples2 : List ℤ) (text text2 : List ℕ)
      (wakes wakes2 : List MachineWake) : Type 0 where
    pub xs : List Output
    pub ts : List Piece
    pub ws : List Wake
    pub begun : ℕ
    pub grows : Grows (at from) (at n) xs ts ws begun
    pub samples_are : samples2 ≡ samples ++ sheet_samples xs
    pub text_is : text2 ≡ text ++ text_bytes names ts
    pub wakes_are : wakes_meant wakes2 ≡ wakes_meant wakes ++ ws

  pub none_made : (from : ℕ) (samples : List ℤ) (text : List ℕ) (wakes : List MachineWake)
      → Making from from samples samples text text wakes wakes
  none_made from samples text wakes = record {
    xs = [];
    ts = [];
    ws = [];
    begun = 0;
    grows = grows_same (at from);
    samples_are = sym (append-nil samples);
    text_is = sym (append-nil text);
    wakes_are = sym (append-nil (wakes_meant wakes));
  }

  -- the run at a sample is sound, and the bound is enough
  pub record Ready (n : ℕ) : Type 0 where
    pub can : CanRun code (at n)
    pub enough : measure turns_at (at n) ≤ bound n
    pub now : (at n).store.now ≡ pos n

  pub ready_at : (verified : IsVerified code) (n : ℕ) → length code.mains ≤ MAX_FILES → n ≤ MAX_SAMPLES
      → Ready n
  ready_at verified n files le =
      let at_n = stands code verified files n le in
      record {
        can = record { verified = verified; sound = at_n.sound };
        enough = enough_slices cod turns_at (IsRunStore code) (IsFitShred code verified.typing)
            (lawful code verified) (at n) at_n.sound at_n.sporks;
        now = at_n.now;
      }

  pub can_at : (n : ℕ) (machine : Machine) → machine.code ≡ code → Ready n → CanRun machine.code (at n)
  can_at n machine same ready = subst (λ code2. CanRun code2 (at n)) (sym same) ready.can

  -- where a machine stands for the run at a sample, what comes next is what each settled run of it is
  pub settled_at : (n : ℕ) (machine : Machine) (such : Run Stopped → Type 0) → machine.code ≡ code → Ready n
      → Stands machine (at n) → OfSettled machine such → such (next n)
  settled_at n machine such same ready stands all =
      subst (λ code2. such (settled (by_code code2) (bound n) (silent (at n)))) same
      (all (at n) stands (can_at n machine same ready) (bound n) ready.enough)

  -- a machine that has made a sample more stands for the run that has
  pub sampled_stands : (n : ℕ) (old new : Machine) → new.code ≡ old.code → new.shreds ≡ old.shreds
      → new.due ≡ old.due → new.waits ≡ old.waits
      → ((store : Store) → StandsFor old.world store → StandsFor new.world (after_sample cod store))
      → Stands old (next n) → Stands new (at (suc n))
  sampled_stands n old new same shreds due waits world stands =
      let q = next n in
      let run = at n in
      let here : Stands new (sampled cod q) = record {
        store = world q.store stands.store;
        shreds = ap (shreds_of new.code) shreds ∙ ap (λ code. shreds_of code old.shreds) same ∙ stands.shreds;
        due = joined_due (map due_of new.due) (map due_of old.due) q.due
            (same_due (map due_of new.due) (map due_of old.due) (ap (map due_of) due)) stands.due;
        waits = joined_waits (map wait_of new.waits) (map wait_of old.waits) q.waits
            (same_waits (map wait_of new.waits) (map wait_of old.waits) (ap (map wait_of) waits)) stands.waits;
      } in
      subst (Stands new) (sym (next_run cod code.mains code.statics n))
      (told_alike new (sampled cod q) (told run.samples run.text run.wakes run.begun (sampled cod q)) refl here)

  -- its instructions are counted
  pub count_made : (n count count2 : ℕ) → count ≡ as_counted (at n).begun → Counts (next n).begun count count2
      → count2 ≡ as_counted (at (suc n)).begun
  count_made n count count2 is more =
      let q = next n in
      let grows : (at (suc n)).begun ≡ (at n).begun + q.begun =
      (next_grows cod code.mains code.statics n).begun_grows in
      counted_on (at n).begun q.begun count count2 is more ∙ ap as_counted (sym grows)

  module _ (from n : ℕ) (m2 : Machine) (samples samples2 : List ℤ) (text text2 text3 : List ℕ)
      (wakes wakes2 wakes3 : List MachineWake)
      (so_far : Making from n samples samples2 text text2 wakes wakes2) where
    -- one more
    pub one_made : (samples3 : List ℤ) (value : ℤ) → samples3 ≡ samples2 ++ value ∷ []
        → ((store : Store) → StandsFor m2.world store → value ≡ sheet_sample (gives store))
        → Becomes names (next n) m2 text2 text3 wakes2 wakes3
        → Making from (suc n) samples samples3 text text3 wakes wakes3
    one_made samples3 value pushed value_is b =
        let q = next n in
        let same : value ≡ sheet_sample (gives q.store) = value_is q.store b.stands.store in
        let one : sheet_samples (sampled cod q).samples ≡ value ∷ [] =
        ap (λ l. sheet_samples (l ++ gives q.store ∷ []))
        (settled_samples cod (bound n) (silent (at n)))
        ∙ ap (λ v. v ∷ []) (sym same) in
        record {
          xs = so_far.xs ++ (sampled cod q).samples;
          ts = so_far.ts ++ q.text;
          ws = so_far.ws ++ q.wakes;
          begun = so_far.begun + q.begun;
          grows = grows_more (at from) (at n) (at (suc n)) so_far.xs (sampled cod q).samples so_far.ts q.text
              so_far.ws q.wakes so_far.begun q.begun so_far.grows (next_grows cod code.mains code.statics n);
          samples_are = pushed ∙ ap (λ l. l ++ value ∷ []) so_far.samples_are
              ∙ append_assoc samples (sheet_samples so_far.xs) (value ∷ [])
              ∙ ap (λ l. samples ++ (sheet_samples so_far.xs ++ l)) (sym one)
              ∙ ap (λ l. samples ++ l)
              (sym (map-append sheet_sample so_far.xs (sampled cod q).samples));
          text_is = b.text_is ∙ ap (λ l. l ++ text_bytes names q.text) so_far.text_is
              ∙ append_assoc text (text_bytes names so_far.ts) (text_bytes names q.text)
              ∙ ap (λ l. text ++ l) (sym (text-append names so_far.ts q.text));
          wakes_are = b.wakes_are ∙ ap (λ l. l ++ q.wakes) so_far.wakes_are
              ∙ append_assoc (wakes_meant wakes) so_far.ws q.wakes;
        }

    -- a failure on the way
    pub front_made : (k : ℕ) (samples3 : List ℤ) → samples3 ≡ samples2
        → TellsFront names (next n) text2 text3 wakes2 wakes3
        → AddsFronts names (block_between (at from) (at (suc n + k))) samples samples3 text text3 wakes wakes3
    front_made k samples3 same f =
        let q = next n in
        let a = at from in
        let rest = run_grows cod code.mains code.statics k (suc n) in
        let g = grows_more a (at (suc n)) (at (suc n + k)) (so_far.xs ++ (sampled cod q).samples) rest.xs (so_far.ts
        ++ q.text) rest.ts (so_far.ws ++ q.wakes) rest.ws (so_far.begun + q.begun) rest.more
        (grows_more a (at n) (at (suc n)) so_far.xs (sampled cod q).samples so_far.ts q.text so_far.ws q.wakes
        so_far.begun q.begun so_far.grows (next_grows cod code.mains code.statics n)) rest.grows in
        let made = (sampled cod q).samples in
        let xs_are = ap (since a.samples) g.samples_grow
        ∙ since-front a.samples ((so_far.xs ++ made) ++ rest.xs) in
        let ts_are = ap (since a.text) g.text_grows ∙ since-front a.text ((so_far.ts ++ q.text) ++ rest.ts) in
        let ws_are = ap (since a.wakes) g.wakes_grow
        ∙ since-front a.wakes ((so_far.ws ++ q.wakes) ++ rest.ws) in
        record {
          samples_front =
              front_of _ (sheet_samples so_far.xs) (sheet_samples made) (sheet_samples rest.xs)
              samples samples2 samples3
              (ap sheet_samples xs_are ∙ map-append sheet_sample (so_far.xs ++ made) rest.xs
              ∙ ap (λ l. l ++ sheet_samples rest.xs) (map-append sheet_sample so_far.xs made))
              so_far.samples_are ([], sheet_samples made, refl, same ∙ sym (append-nil samples2));
          text_front =
              front_of _ (text_bytes names so_far.ts) (text_bytes names q.text) (text_bytes names rest.ts) text
              text2 text3
              (ap (text_bytes names) ts_are ∙ text-append names (so_far.ts ++ q.text) rest.ts
              ∙ ap (λ t. t ++ text_bytes names rest.ts) (text-append names so_far.ts q.text)) so_far.text_is
              f.text_front;
          wakes_front = front_of _ so_far.ws q.wakes rest.ws (wakes_meant wakes) (wakes_meant wakes2)
              (wakes_meant wakes3) ws_are so_far.wakes_are f.wakes_front;
        }

  pub all_made : (from n : ℕ) (samples samples2 : List ℤ) (text text2 : List ℕ)
      (wakes wakes2 : List MachineWake) → Making from n samples samples2 text text2 wakes wakes2
      → Adds names (block_between (at from) (at n)) samples samples2 text text2 wakes wakes2
  all_made from n samples samples2 text text2 wakes wakes2 made =
      let a = at from in
      record {
        samples_are = made.samples_are
            ∙ ap (λ l. samples ++ sheet_samples l)
            (sym (ap (since a.samples) made.grows.samples_grow ∙ since-front a.samples made.xs));
        text_is = made.text_is
            ∙ ap (λ l. text ++ text_bytes names l)
            (sym (ap (since a.text) made.grows.text_grows ∙ since-front a.text made.ts));
        wakes_are = made.wakes_are
            ∙ ap (λ l. wakes_meant wakes
            ++ l) (sym (ap (since a.wakes) made.grows.wakes_grow ∙ since-front a.wakes made.ws));
      }

  -- time goes on
  pub time_left : (n : ℕ) (m2 : Machine) → Ready n → n < MAX_SAMPLES → Stands m2 (next n)
      → m2.world.time <ℤ pos MAX_SAMPLES
  time_left n m2 ready lt becomes =
      let v = ready.can.verified in
      let fits = IsFitShred code v.typing in
      let s = settles cod turns_at (IsRunStore code) fits (lawful code v) (bound n) (silent (at n))
      (quiet_sound (IsRunStore code) fits (at n) ready.can.sound) ready.enough in
      omega (arith, ints, lt, now_is m2.world (next n).store becomes.store, s.now, ready.now)
