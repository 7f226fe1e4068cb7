use Rattle.std.proofs.Common.{◌∙◌}
use Rattle.ck_syntax.specs.Tree.{no_stmts}
use Rattle.ck_syntax.specs.View.{stmts_of}
use Rattle.check_decls.specs.View.{all_stated}
use Rattle.check_decls.proofs.Settling.{body_settles}
use Rattle.check_decls.proofs.functions.fun_with.Goals as goal

pub returns-clause-settled : goal.returns-clause-settled
returns-clause-settled c =
    c.lend_settled-settled.ensures.lent
    ∙ body_settles c.args.table.now _ c.args.scope c.enter.new.self
    (stmts_of no_stmts c.args.body.now) (all_stated c.in_ok-typed.typed c.statements.new.scope)
    c.in_ok-enter.ensures.entered c.in_ok-typed.ensures.stated
