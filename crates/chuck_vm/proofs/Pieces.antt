-- Samples may be made in any pieces.
use Rattle.std.proofs.Common.{◌≡◌, ℕ, ◌+◌, ℤ, List, ◌++◌, sym, ap, ◌∙◌, subst, arith, append_assoc}
use Rattle.std.proofs.lemmas.List.{map-append}
use Rattle.ck_code.specs.declared.code.CodeParts.{CodeParts}
use Rattle.ck_meaning.specs.Replay.{by_code, run_code}
use Rattle.ck_run.specs.Report.{text_bytes, sheet_sample, sheet_samples}
use Rattle.ck_run.specs.Run.{Block, block_between}
use Rattle.ck_run.specs.Told.{joined}
use Rattle.ck_run.proofs.Growing.{blocks_join}
use Rattle.chuck_vm.specs.declared.wake.Wake.{Wake as MachineWake}
use Rattle.chuck_vm.specs.Telling.{Adds}
use Rattle.chuck_vm.specs.Vm.{block_of}
use Rattle.chuck_vm.specs.Wakes.{wakes_meant}
use Rattle.chuck_vm.proofs.Applying.{text-append}

module _ (names : List (List ℕ)) (samples samples2 samples3 : List ℤ) (text text2 text3 : List ℕ)
    (wakes wakes2 wakes3 : List MachineWake) where
  -- two blocks that were added are their join
  adds_joined : (block next : Block) → Adds names block samples samples2 text text2 wakes wakes2
      → Adds names next samples2 samples3 text2 text3 wakes2 wakes3
      → Adds names (joined block next) samples samples3 text text3 wakes wakes3
  adds_joined block next one two = record {
    samples_are = two.samples_are ∙ ap (λ l. l ++ sheet_samples next.samples) one.samples_are
        ∙ append_assoc samples (sheet_samples block.samples) (sheet_samples next.samples)
        ∙ ap (λ l. samples ++ l) (sym (map-append sheet_sample block.samples next.samples));
    text_is = two.text_is ∙ ap (λ l. l ++ text_bytes names next.text) one.text_is
        ∙ append_assoc text (text_bytes names block.text) (text_bytes names next.text)
        ∙ ap (λ l. text ++ l) (sym (text-append names block.text next.text));
    wakes_are = two.wakes_are ∙ ap (λ l. l ++ next.wakes) one.wakes_are
        ∙ append_assoc (wakes_meant wakes) block.wakes next.wakes;
  }

-- some samples and then more add what all of them add
pub adds_both : (code : CodeParts) (names : List (List ℕ)) (made first next : ℕ)
    (samples samples2 samples3 : List ℤ) (text text2 text3 : List ℕ) (wakes wakes2 wakes3 : List MachineWake)
    → Adds names (block_of code made first) samples samples2 text text2 wakes wakes2
    → Adds names (block_of code (made + first) next) samples2 samples3 text2 text3 wakes2 wakes3
    → Adds names (block_of code made (first + next)) samples samples3 text text3 wakes wakes3
adds_both code names made first next samples samples2 samples3 text text2 text3 wakes wakes2 wakes3 one two =
    let A : Block → Type 0 = λ block. Adds names block samples samples3 text text3 wakes wakes3 in
    let join = blocks_join (by_code code) code.mains code.statics made first next in
    let end : (made + first) + next ≡ made + (first + next) = omega arith in
    subst (λ n. A (block_between (run_code code made) (run_code code n))) end
    (subst A (sym join) (adds_joined names samples samples2 samples3 text text2 text3 wakes wakes2 wakes3
    (block_of code made first) (block_of code (made + first) next) one two))
