use Rattle.std.proofs.Common.{length, ◌<◌}
use Rattle.ck_parser.specs.Items.{a_body, body_end}
use Rattle.parse_exprs.specs.Machine.{members}
use Rattle.parse_exprs.specs.Reads.{Leads}
use Rattle.ck_syntax.specs.Tree.{no_members}
use Rattle.ck_syntax.specs.View.{members_of}
use Rattle.ck_parser.proofs.item.members.Given as goal

abbrev pub invariant-loop-behind : goal.invariant-loop-behind
invariant-loop-behind l = (Leads (λ k. a_body k)
    (λ k. members (members_of no_members l.members.items) (body_end k)) l.tokens l.rest)
    × (length l.rest < length l.tokens)

abbrev pub decreases-loop-behind : goal.decreases-loop-behind
decreases-loop-behind l = length l.rest
