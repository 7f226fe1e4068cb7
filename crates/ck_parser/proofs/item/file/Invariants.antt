use Rattle.std.proofs.Common.{length}
use Rattle.parse_exprs.specs.Machine.{items, start}
use Rattle.parse_exprs.specs.Reads.{Leads}
use Rattle.ck_syntax.specs.Tree.{File, no_items}
use Rattle.ck_syntax.specs.View.{items_of}
use Rattle.ck_parser.proofs.item.file.Given as goal

abbrev pub invariant-loop-alloc : goal.invariant-loop-alloc
invariant-loop-alloc l =
    Leads (λ (k : File). start) (λ k. items (items_of no_items l.items.items)) l.tokens l.rest

abbrev pub decreases-loop-alloc : goal.decreases-loop-alloc
decreases-loop-alloc l = length l.rest
