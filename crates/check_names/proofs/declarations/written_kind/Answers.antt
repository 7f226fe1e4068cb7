use Rattle.std.proofs.Common.{rules}
use Rattle.check_names.proofs.Tails.{written_brackets}
use Rattle.check_names.proofs.declarations.written_kind.Goals as goal

pub returns-in-Brackets : goal.returns-in-Brackets
returns-in-Brackets c =
    let x = c.args.declarator.now in
    let is = written_brackets c.args.head.now c.args.named x.name x.tail _ c.in-Brackets.is in
    search (rules, is)
