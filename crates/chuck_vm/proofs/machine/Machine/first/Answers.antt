use Rattle.chuck_vm.proofs.Starting.{all_started}
use Rattle.chuck_vm.proofs.machine.Machine.first.Goals as goal

pub returns-clause-first : goal.returns-clause-first
returns-clause-first c =
    all_started
    (record {
      code = c.args.code;
      world = c.in_ok-world.world;
      shreds = c.add_mains.new.shreds;
      due = c.add_mains.new.due;
      waits = c.new-2.result;
    }) c.in_ok-world.ensures.store c.new-2.ensures c.in_ok-add_mains.ensures.shreds
    c.in_ok-add_mains.ensures.due
