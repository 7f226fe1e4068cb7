use Rattle.std.proofs.Common.{◌∙◌, sym}
use Rattle.parse_exprs.specs.Tokens.{a_construct}
use Rattle.parse_exprs.proofs.Steps.{then_of}
use Rattle.parse_exprs.proofs.tokens.expect_construct.Goals as goal

pub returns-then-is_construct-clause-token : goal.returns-then-is_construct-clause-token
returns-then-is_construct-clause-token c = then_of a_construct c.in-Some.ensures.token
    (sym c.is_construct.ensures ∙ c.if-is_construct.true)
