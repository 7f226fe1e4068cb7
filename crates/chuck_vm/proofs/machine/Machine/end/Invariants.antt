use Rattle.std.proofs.Common.{◌≡◌, ℕ, length}
use Rattle.ck_run.specs.Family.{IsFamily}
use Rattle.chuck_vm.specs.Machine.{shreds_of}
use Rattle.chuck_vm.proofs.Ending.{EndsAt}
use Rattle.chuck_vm.proofs.machine.Machine.end.Given as goal

abbrev pub invariant-ending : goal.invariant-ending
invariant-ending l = record {
  code : l.self.code ≡ l.fn.self.code;
  ran : l.self.world.ran ≡ l.fn.self.world.ran;
  ending : (next : ℕ) (family : IsFamily next (shreds_of l.fn.self.code l.fn.self.shreds))
      → EndsAt l.fn.self l.number next family l.at l.self;
}

abbrev pub decreases-ending : goal.decreases-ending
decreases-ending l = length l.self.shreds
