use Rattle.std.proofs.Common.{◌+◌, ◌≤◌, length, drop, Some, None}
use Rattle.type_table.specs.Answer.{gives}
use Rattle.type_table.proofs.Walks.{Ran, on}
use Rattle.type_table.proofs.Weights.{weight}
use Rattle.check_scope.specs.Scope.{new_scope}
use Rattle.program_laws.specs.Programs.{begun, with_this}
use Rattle.check_decls.specs.ProgramView.{view_walked}
use Rattle.check_decls.proofs.DeclWalks.{one_member}
use Rattle.type_table.proofs.Weights as weights
use Rattle.check_decls.proofs.walk.members_typed.Given as goal

abbrev pub invariant-loop-member : goal.invariant-loop-member
invariant-loop-member l =
    record {
      so_far :
          Ran (on (one_member l.table l.file l.class l.first))
          (gives (begun (with_this (new_scope l.file (Some l.class) None l.fn.settled) l.class))) l.members
          l.member-index (gives (view_walked l.walked));
      left :
          length l.walked.scope.value.locals
          + weight weights.one_member (drop l.member-index l.members)
          ≤ 1 + weight weights.one_member l.members;
      more :
          length l.walked.funs.items + weight weights.one_member (drop l.member-index l.members)
          ≤ weight weights.one_member l.members;
    }
