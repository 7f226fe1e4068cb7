use Rattle.std.proofs.Common.{length, ◌<◌}
use Rattle.parse_exprs.specs.Machine.{State, more_declrs}
use Rattle.parse_exprs.specs.Reads.{Leads}
use Rattle.ck_parser.specs.Statements.{other_declrs}
use Rattle.ck_syntax.specs.Tree.{Declrs, no_declrs}
use Rattle.ck_syntax.specs.View.{view_declr, declrs_of}
use Rattle.ck_parser.proofs.plain_stmt.declarators.Given as goal

abbrev pub invariant-loop-behind : goal.invariant-loop-behind
invariant-loop-behind l = (Leads (λ (k : Declrs → State).
    other_declrs l.depth (view_declr l.fn.first) k)
    (λ k. more_declrs l.depth (declrs_of no_declrs l.all.items) k) l.tokens l.rest)
    × (length l.rest < length l.tokens)

abbrev pub decreases-loop-behind : goal.decreases-loop-behind
decreases-loop-behind l = length l.rest
