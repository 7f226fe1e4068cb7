use Rattle.std.proofs.Common.{length, ◌<◌}
use Rattle.ck_parser.specs.Items.{some_params}
use Rattle.parse_exprs.specs.Machine.{more_params}
use Rattle.parse_exprs.specs.Reads.{Leads}
use Rattle.ck_syntax.specs.Tree.{no_params}
use Rattle.ck_syntax.specs.View.{params_of}
use Rattle.ck_parser.proofs.item.param_list.Given as goal

abbrev pub invariant-loop-behind : goal.invariant-loop-behind
invariant-loop-behind l = (Leads (λ k. some_params k)
    (λ k. more_params 1 (params_of no_params l.params.items) k) l.tokens l.rest)
    × (length l.rest < length l.tokens)

abbrev pub decreases-loop-behind : goal.decreases-loop-behind
decreases-loop-behind l = length l.rest
