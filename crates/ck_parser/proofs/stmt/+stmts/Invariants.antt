use Rattle.std.proofs.Common.{length, ◌*◌, ◌+◌, ◌≤◌}
use Rattle.parse_exprs.specs.Machine.{State, stmts}
use Rattle.parse_exprs.specs.Reads.{Leads}
use Rattle.ck_syntax.specs.Tree.{Stmts, no_stmts}
use Rattle.ck_syntax.specs.View.{stmts_of}
use Rattle.ck_parser.proofs.stmt.+stmts.Given as goal

abbrev pub decreases-stmt : goal.decreases-stmt
decreases-stmt l = length l.tokens.now * 8 + 3

abbrev pub decreases-inner_stmt : goal.decreases-inner_stmt
decreases-inner_stmt l = length l.tokens.now * 8 + 4

abbrev pub decreases-tested : goal.decreases-tested
decreases-tested l = length l.tokens.now * 8

abbrev pub decreases-if_stmt : goal.decreases-if_stmt
decreases-if_stmt l = length l.tokens.now * 8 + 1

abbrev pub decreases-loop_stmt : goal.decreases-loop_stmt
decreases-loop_stmt l = length l.tokens.now * 8 + 1

abbrev pub decreases-do_stmt : goal.decreases-do_stmt
decreases-do_stmt l = length l.tokens.now * 8 + 5

abbrev pub decreases-for_stmt : goal.decreases-for_stmt
decreases-for_stmt l = length l.tokens.now * 8

abbrev pub decreases-block : goal.decreases-block
decreases-block l = length l.tokens.now * 8 + 7

abbrev pub decreases-inner_stmts : goal.decreases-inner_stmts
decreases-inner_stmts l = length l.tokens.now * 8 + 6

abbrev pub decreases-stmts : goal.decreases-stmts
decreases-stmts l = length l.tokens.now * 8 + 5

abbrev pub invariant-stmts-loop-alloc : goal.invariant-stmts-loop-alloc
invariant-stmts-loop-alloc l = (Leads (λ (k : Stmts → State). stmts l.depth no_stmts k)
    (λ k. stmts l.depth (stmts_of no_stmts l.all.items) k) l.tokens l.rest)
    × (length l.rest ≤ length l.tokens)

abbrev pub decreases-stmts-loop-alloc : goal.decreases-stmts-loop-alloc
decreases-stmts-loop-alloc l = length l.rest
