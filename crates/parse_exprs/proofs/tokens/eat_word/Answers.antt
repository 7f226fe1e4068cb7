use Rattle.std.proofs.Common.{◌∙◌, sym}
use Rattle.parse_exprs.specs.Tokens.{a_word}
use Rattle.parse_exprs.proofs.Steps.{then_of}
use Rattle.parse_exprs.proofs.tokens.eat_word.Goals as goal

pub returns-then-is_word-clause-token : goal.returns-then-is_word-clause-token
returns-then-is_word-clause-token c = then_of (a_word c.args.word) c.in_ok-token.ensures.token
    (sym c.is_word.ensures ∙ c.if-is_word.true)
