use Rattle.std.proofs.Common.{◌∙◌, sym, ap}
use Rattle.ck_lexer.specs.declared.token.TokenKind.TheVariants.{Name}
use Rattle.parse_exprs.proofs.Steps.{then_name}
use Rattle.parse_exprs.proofs.tokens.expect_name.Goals as goal

pub returns-in_ok-try_clone-in-Name-clause-token : goal.returns-in_ok-try_clone-in-Name-clause-token
returns-in_ok-try_clone-in-Name-clause-token c = then_name c.in-Some.ensures.token
    (c.in-Name.is ∙ ap Name (sym c.in_ok-try_clone-in-Name.ensures))
