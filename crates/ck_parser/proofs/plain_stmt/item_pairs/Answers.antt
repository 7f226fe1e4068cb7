use Rattle.std.proofs.Common.{◌∙◌, ap, sym}
use Rattle.ck_parser.proofs.EmptyPairs.{pairs_of_item}
use Rattle.parse_exprs.specs.Machine.{empty_pairs}
use Rattle.ck_syntax.specs.Tree.{no_brackets}
use Rattle.ck_syntax.specs.View.{brackets_of}
use Rattle.ck_parser.proofs.plain_stmt.item_pairs.Goals as goal

pub returns-in-Brackets : goal.returns-in-Brackets
returns-in-Brackets c = c.empty_pairs.ensures
    ∙ ap (λ l. empty_pairs (brackets_of no_brackets l)) c.items.ensures
    ∙ sym (pairs_of_item c.args.head.now c.args.declarator.now _ c.if-head.false c.in-Brackets.is)
