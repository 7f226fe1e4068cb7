use Rattle.std.proofs.Common.{◌∙◌, sym}
use Rattle.parse_exprs.specs.Tokens.{a_mark}
use Rattle.parse_exprs.proofs.Steps.{then_of}
use Rattle.parse_exprs.proofs.tokens.eat_mark.Goals as goal

pub returns-then-is_mark-clause-token : goal.returns-then-is_mark-clause-token
returns-then-is_mark-clause-token c = then_of (a_mark c.args.mark) c.in_ok-token.ensures.token
    (sym c.is_mark.ensures ∙ c.if-is_mark.true)
