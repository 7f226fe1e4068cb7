use Rattle.std.proofs.Common.{◌∙◌, sym, ap, refl, true, false}
use Rattle.ck_syntax.specs.Tree.{no_params}
use Rattle.type_table.specs.Types.{is_unknown}
use Rattle.type_table.proofs.Walks.{ran_all, ran_stop}
use Rattle.first_walk.proofs.MemberWalks.{one_unknown, unknown_run}
use Rattle.first_walk.proofs.heads.names_unknown.Goals as goal

pub returns-then-is_unknown : goal.returns-then-is_unknown
returns-then-is_unknown c =
    sym (unknown_run c.args.table.now c.args.file no_params c.args.params.now ∙ ran_stop (one_unknown c.args.table.now c.args.file) false c.args.params.now c.loop-param.param-index false c.param-item.result true c.loop-param-test.true c.param-item.is (ap is_unknown (sym c.named.ensures) ∙ sym c.is_unknown.ensures ∙ c.if-is_unknown.true) (λ y. refl) c.loop-param.invariant)

pub returns : goal.returns
returns c =
    sym (unknown_run c.args.table.now c.args.file no_params c.args.params.now ∙ ran_all (one_unknown c.args.table.now c.args.file) false c.args.params.now c.loop-param.param-index false c.loop-param-test.false c.loop-param.invariant)
