use Rattle.std.proofs.Common.{◌≡◌, ◌∙◌, ap, subst, IfOk}
use Rattle.ck_syntax.specs.Tree.{no_params}
use Rattle.ck_syntax.specs.View.{params_of}
use Rattle.check_scope.specs.Scope.{Scope}
use Rattle.check_decls.proofs.Settling.{params_settle, scope_settles}
use Rattle.check_decls.proofs.functions.fun_typed.Goals as goal

pub returns-clause-settled : goal.returns-clause-settled
returns-clause-settled c =
    let same : c.declare_params.new.scope.settled ≡ c.args.settled =
    params_settle c.params-types.result.now c.in_ok-scope.scope c.declare_params.new.scope
    c.args.fun.now.line (params_of no_params c.items.result.now)
    c.in_ok-declare_params.ensures.declared
    ∙ ap (λ (s : Scope). s.settled) c.in_ok-scope.ensures.made
    ∙ scope_settles c.args.file c.args.class c.args.number c.is_static.result c.args.settled in
    subst (λ settled. IfOk c.fun_with.result (λ made. made.1 ≡ settled)) same
    c.fun_with.ensures.settled
