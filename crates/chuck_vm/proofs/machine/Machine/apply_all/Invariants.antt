use Rattle.std.proofs.Common.{◌≡◌}
use Rattle.std.specs.Vec.Iter.{into_iter_items}
use Rattle.ck_meaning.specs.Replay.{by_code}
use Rattle.machine_world.specs.Acts.{all_acts_meant}
use Rattle.chuck_vm.proofs.Applying.{Applied}
use Rattle.chuck_vm.proofs.machine.Machine.apply_all.Given as goal

abbrev pub invariant-loop-act : goal.invariant-loop-act
invariant-loop-act l = record {
  can : (goal.iterator-loop-act).can_next l.act-iterator;
  finite : (goal.iterator-loop-act).is_finite l.act-iterator;
  code : l.self.code ≡ l.fn.self.code;
  ran : l.self.world.ran ≡ l.fn.self.world.ran;
  so_far : Applied l.fn.self.code (by_code l.fn.self.code) l.shred l.fn.self (all_acts_meant l.fn.acts)
      l.self (all_acts_meant (into_iter_items l.act-iterator)) l.fn.text.items l.text.items;
}
