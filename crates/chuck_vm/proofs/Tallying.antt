-- The numbers that a machine keeps are those of the run.
use Rattle.std.proofs.Common.{◌≡◌, ℕ, zero, suc, pred, ◌+◌, ◌-◌, ◌<◌, ◌^◌, is_some, List, [], ◌∷◌, ◌++◌, length, take, drop, refl, sym, ap, ◌∙◌, arith}
use Rattle.std.proofs.lemmas.List.{length-append, length-map, length-drop, drop-map, take_all}
use Rattle.std.proofs.Math.Seq.{drop-append_seam}
use Rattle.std.proofs.lemmas.List.Sums.{sum_by-append}
use Rattle.std.specs.Prelude.{cond}
use Rattle.ugen_kinds.specs.declared.output.Output.{Output}
use Rattle.ck_code.specs.declared.code.CodeParts.{CodeParts}
use Rattle.ck_store.specs.Store.{Store}
use Rattle.ck_meaning.specs.Replay.{by_code, run_code}
use Rattle.ck_run.specs.Run.{Wake, output_of, after_sample, sampled, most_slices}
use Rattle.ck_run.specs.Told.{silent}
use Rattle.ck_run.proofs.Silences.{settled_samples}
use Rattle.ck_run.proofs.Growing.{next_grows, run_goes_on, quiet}
use Rattle.machine_world.specs.Worlds.{StandsFor as WorldStandsFor}
use Rattle.chuck_vm.specs.declared.machine.Machine.{Machine}
use Rattle.chuck_vm.specs.declared.tally.Tally.{Tally}
use Rattle.chuck_vm.specs.declared.wake.Wake.{Wake as MachineWake}
use Rattle.chuck_vm.specs.Tallies.{as_counted, trap_count, tally_of}
use Rattle.chuck_vm.specs.Vm.{StandsFor, block_of}
use Rattle.chuck_vm.specs.Wakes.{wake_meant, wakes_meant}

-- a run has made as many samples as it was asked for
pub samples_made : (code : CodeParts) (n : ℕ) → length (run_code code n).samples ≡ n
samples_made code zero = refl
samples_made code (suc n) =
    let cod = by_code code in
    let before = run_code code n in
    let q = quiet cod code.mains code.statics n in
    let output = output_of (after_sample cod q.store) in
    let none : q.samples ≡ [] = settled_samples cod (most_slices before) (silent before) in
    let one : length (sampled cod q).samples ≡ 1 =
    length-append q.samples (output ∷ [])
    ∙ omega (arith, ap (length {A = Output}) none) in
    let grown = (next_grows cod code.mains code.statics n).samples_grow in
    omega (
      arith,
      ap (length {A = Output}) grown,
      length-append before.samples (sampled cod q).samples,
      one,
      samples_made code n,
    )

-- the slices that trapped of two lists are those of both
pub traps-append : (one two : List Wake) → trap_count (one ++ two) ≡ trap_count one + trap_count two
traps-append one two = sum_by-append (λ (wake : Wake). cond (is_some wake.trap) 1 0) one two

-- what stands behind a place is the rest
pub rest_is : (here new old : List MachineWake) (n : ℕ) → here ≡ new → n ≡ length old
    → take (length here - n) (drop n here) ≡ drop (length old) new
rest_is here new old n same place =
    take_all (length here - n) (drop n here) (omega (arith, length-drop n here))
    ∙ ap (drop n) same ∙ ap (λ k. drop k new) place

-- the slices behind those that there were are those of the block
module _ (code : CodeParts) (made count : ℕ) (old new : List MachineWake)
    (are : wakes_meant new ≡ wakes_meant old ++ (block_of code made count).wakes) where
  pub block_wakes : wakes_meant (drop (length old) new) ≡ (block_of code made count).wakes
  block_wakes =
      sym (drop-map wake_meant (length old) new)
      ∙ ap (λ n. drop n (wakes_meant new)) (sym (length-map old wake_meant))
      ∙ ap (drop (length (wakes_meant old))) are
      ∙ drop-append_seam (wakes_meant old) (block_of code made count).wakes

  grown : (run_code code (made + count)).wakes
      ≡ (run_code code made).wakes ++ (block_of code made count).wakes
  grown = (run_goes_on (by_code code) code.mains code.statics made count).wakes

  -- so many slices more
  pub slices_on : (slices more slices2 : ℕ) → slices ≡ as_counted (length (run_code code made).wakes)
      → more ≡ length (drop (length old) new) → slices2 ≡ as_counted (slices + more)
      → slices2 ≡ as_counted (length (run_code code (made + count)).wakes)
  slices_on slices more slices2 before added counted =
      let new_ones : more ≡ length (block_of code made count).wakes =
      added ∙ sym (length-map (drop (length old) new) wake_meant) ∙ ap (length {A = Wake}) block_wakes in
      let all : length (run_code code (made + count)).wakes
      ≡ length (run_code code made).wakes + length (block_of code made count).wakes =
      ap (length {A = Wake}) grown
      ∙ length-append (run_code code made).wakes (block_of code made count).wakes in
      omega (arith, before, new_ones, counted, all)

  pub traps_on : (traps more traps2 : ℕ) → traps ≡ as_counted (trap_count (run_code code made).wakes)
      → more ≡ trap_count (wakes_meant (drop (length old) new)) → traps2 ≡ as_counted (traps + more)
      → traps2 ≡ as_counted (trap_count (run_code code (made + count)).wakes)
  traps_on traps more traps2 before added counted =
      let new_ones : more ≡ trap_count (block_of code made count).wakes =
      added ∙ ap trap_count block_wakes in
      let all : trap_count (run_code code (made + count)).wakes
      ≡ trap_count (run_code code made).wakes + trap_count (block_of code made count).wakes =
      ap trap_count grown
      ∙ traps-append (run_code code made).wakes (block_of code made count).wakes in
      omega (arith, before, new_ones, counted, all)

-- the numbers of a machine that stands for a run
pub tally_is : (made slices traps shreds objects ran : ℕ) (machine : Machine)
    → StandsFor made slices traps machine → shreds < 2 ^ 64 → objects < 2 ^ 64
    → ((store : Store) → WorldStandsFor machine.world store → shreds ≡ pred store.next_shred)
    → ((store : Store) → WorldStandsFor machine.world store → objects ≡ length store.objects)
    → ran ≡ machine.world.ran
    → record {
      samples = made;
      wakes = slices;
      traps = traps;
      shreds = shreds;
      made = objects;
      instructions = ran;
    } ≡ tally_of (run_code machine.code made) (run_code machine.code made).begun
tally_is made slices traps shreds objects ran machine stands few few2 shreds_are objects_are ran_is =
    let run = run_code machine.code made in
    let T : ℕ → ℕ → ℕ → ℕ → ℕ → ℕ → Tally =
    λ a b c d e f. record {
      samples = a;
      wakes = b;
      traps = c;
      shreds = d;
      made = e;
      instructions = f;
    } in
    let world = stands.stands.store in
    let samples : made ≡ as_counted (length run.samples) =
    omega (arith, samples_made machine.code made, stands.few) in
    let next : shreds ≡ pred run.store.next_shred = shreds_are run.store world in
    let all : objects ≡ length run.store.objects = objects_are run.store world in
    let shreds_counted : shreds ≡ as_counted (pred run.store.next_shred) = omega (arith, few, next) in
    let objects_counted : objects ≡ as_counted (length run.store.objects) =
    omega (arith, few2, all) in
    ap (λ a. T a slices traps shreds objects ran) samples
    ∙ ap (λ b. T (as_counted (length run.samples)) b traps shreds objects ran) stands.wakes_is
    ∙ ap (λ c. T (as_counted (length run.samples)) (as_counted (length run.wakes)) c shreds objects ran)
    stands.traps_is
    ∙ ap (λ d. T (as_counted (length run.samples)) (as_counted (length run.wakes))
    (as_counted (trap_count run.wakes)) d objects ran) shreds_counted
    ∙ ap (λ e. T (as_counted (length run.samples)) (as_counted (length run.wakes))
    (as_counted (trap_count run.wakes)) (as_counted (pred run.store.next_shred)) e ran) objects_counted
    ∙ ap (T (as_counted (length run.samples)) (as_counted (length run.wakes))
    (as_counted (trap_count run.wakes)) (as_counted (pred run.store.next_shred))
    (as_counted (length run.store.objects))) (ran_is ∙ stands.ran_is)
