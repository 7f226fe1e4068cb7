use Rattle.std.proofs.Common.{◌≡◌, ◌<◌, ◌^◌, rules, subst}
use Rattle.ck_meaning.specs.Replay.{run_code}
use Rattle.chuck_vm.specs.Tallies.{tally_of}
use Rattle.chuck_vm.specs.Vm.{Sight}
use Rattle.chuck_vm.proofs.Tallying.{tally_is}
use Rattle.chuck_vm.proofs.vm.Vm.tally.Goals as goal

pub returns : goal.returns
returns c =
    let vm = c.self.inside in
    let shreds : c.shreds.result < 2 ^ 64 = search rules in
    let objects : c.made.result < 2 ^ 64 = search rules in
    let S : Sight → Type 0 = λ s. record {
      samples = c.from.result;
      wakes = vm.slices;
      traps = vm.traps;
      shreds = c.shreds.result;
      made = c.made.result;
      instructions = c.ran.result;
    } ≡ tally_of (run_code s.code s.samples) (run_code s.code s.samples).begun in
    subst S c.self.view_is (rw c.from.ensures
    (tally_is vm.made vm.slices vm.traps c.shreds.result c.made.result c.ran.result vm.machine
    c.self.invariant shreds objects
    c.shreds.ensures c.made.ensures c.ran.ensures))
