use Rattle.std.proofs.Common.{◌+◌, ◌≤◌, drop}
use Rattle.type_table.specs.Answer.{gives}
use Rattle.type_table.proofs.Walks.{Ran, on}
use Rattle.type_table.proofs.Weights as weights
use Rattle.type_table.proofs.Weights.{weight}
use Rattle.first_walk.specs.Room.{entries, declared_by}
use Rattle.first_walk.proofs.ExprWalks.{one_declr}
use Rattle.first_walk.proofs.statements.enter_declarators.Given as goal

abbrev pub invariant-loop-declarator : goal.invariant-loop-declarator
invariant-loop-declarator l =
    record {
      so_far :
          Ran (on (one_declr l.file l.line l.owner l.head)) (gives l.fn.table) l.declarators l.declarator-index
          (gives l.table);
      left :
          entries l.table + weight weights.one_declr (drop l.declarator-index l.declarators)
          ≤ entries l.fn.table + weight weights.one_declr l.declarators;
      own :
          declared_by l.owner l.table + weight weights.one_declr (drop l.declarator-index l.declarators)
          ≤ declared_by l.owner l.fn.table + weight weights.one_declr l.declarators;
    }
