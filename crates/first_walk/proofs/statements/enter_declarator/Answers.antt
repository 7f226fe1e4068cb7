use Rattle.std.proofs.Common.{arith}
use Rattle.ck_syntax.specs.View.{view_declr}
use Rattle.first_walk.specs.Room.{entries, declared_by}
use Rattle.first_walk.proofs.Measures.{counts_entries, counts_declared}
use Rattle.first_walk.proofs.RoomFacts.{behind_grows}
use Rattle.first_walk.proofs.statements.enter_declarator.Goals as goal

pub enter_declared-requires : goal.enter_declared-requires
enter_declared-requires c =
    record {
      few =
          omega (
            arith,
            behind_grows entries counts_entries c.args.file c.args.owner c.args.table.now c.enter_behind.new.table
                (view_declr c.args.declarator.now) c.in_ok-enter_behind.ensures.entered,
          );
      own =
          omega (
            arith,
            behind_grows (declared_by c.args.owner) (counts_declared c.args.owner) c.args.file c.args.owner
                c.args.table.now c.enter_behind.new.table
                (view_declr c.args.declarator.now) c.in_ok-enter_behind.ensures.entered,
          );
    }
