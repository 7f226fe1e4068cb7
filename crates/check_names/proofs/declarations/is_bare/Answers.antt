use Rattle.std.proofs.Common.{rules}
use Rattle.check_names.proofs.Tails.{bare_brackets}
use Rattle.check_names.proofs.declarations.is_bare.Goals as goal

pub returns-in-Brackets : goal.returns-in-Brackets
returns-in-Brackets c = λ name.
    let is = bare_brackets name c.args.tail.now _ c.in-Brackets.is in
    search (rules, is)
