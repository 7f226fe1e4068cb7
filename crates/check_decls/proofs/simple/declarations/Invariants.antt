use Rattle.std.proofs.Common.{◌+◌, ◌≤◌, length, drop}
use Rattle.type_table.specs.Answer.{gives}
use Rattle.type_table.proofs.Walks.{Ran, on}
use Rattle.type_table.proofs.Weights.{weight}
use Rattle.program_laws.specs.Statements.{none_stated}
use Rattle.check_decls.specs.View.{all_stated}
use Rattle.check_decls.proofs.StatementWalks.{one_declaration}
use Rattle.type_table.proofs.Weights.{one_declr}
use Rattle.check_decls.proofs.simple.declarations.Given as goal

abbrev pub invariant-loop-declarator : goal.invariant-loop-declarator
invariant-loop-declarator l =
    record {
      so_far :
          Ran (on (one_declaration l.table l.line l.head))
          (gives (none_stated l.initial.scope)) l.declarators l.declarator-index
          (gives (all_stated l.statements.items l.scope));
      left :
          length l.scope.locals + weight one_declr (drop l.declarator-index l.declarators)
          ≤ length l.initial.scope.locals + weight one_declr l.declarators;
    }
