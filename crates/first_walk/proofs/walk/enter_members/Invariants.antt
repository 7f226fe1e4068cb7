use Rattle.std.proofs.Common.{◌+◌, ◌≤◌, drop}
use Rattle.type_table.specs.Answer.{gives}
use Rattle.type_table.proofs.Walks.{Ran, on}
use Rattle.type_table.proofs.Weights as weights
use Rattle.type_table.proofs.Weights.{weight}
use Rattle.first_walk.specs.Room.{entries, declared}
use Rattle.first_walk.proofs.MemberWalks.{one_member}
use Rattle.first_walk.proofs.walk.enter_members.Given as goal

abbrev pub invariant-loop-member : goal.invariant-loop-member
invariant-loop-member l =
    record {
      so_far : Ran (on (one_member l.file l.class)) (gives l.fn.table) l.members l.member-index (gives l.table);
      left :
          entries l.table + weight weights.one_member (drop l.member-index l.members)
          ≤ entries l.fn.table + weight weights.one_member l.members;
      own :
          declared l.class l.table + weight weights.one_member (drop l.member-index l.members)
          ≤ declared l.class l.fn.table + weight weights.one_member l.members;
    }
