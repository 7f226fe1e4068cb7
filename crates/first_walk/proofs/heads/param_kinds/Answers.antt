use Rattle.std.proofs.Common.{◌∙◌, sym, ap, refl, Some, None, []}
use Rattle.ck_syntax.specs.Tree.{no_params}
use Rattle.first_walk.specs.FirstWalk.{and_kind}
use Rattle.type_table.proofs.Walks.{ran_all, ran_stop}
use Rattle.first_walk.proofs.MemberWalks.{one_kind, kinds_run}
use Rattle.first_walk.proofs.heads.param_kinds.Goals as goal

pub returns-in-None-clause-made : goal.returns-in-None-clause-made
returns-in-None-clause-made c =
    kinds_run c.args.table.now c.args.file no_params c.args.params.now
    ∙ ran_stop (one_kind c.args.table.now c.args.file) (Some []) c.args.params.now c.loop-param.param-index (Some c.loop-param.kinds.items) c.param-item.result None c.loop-param-test.true c.param-item.is (ap (and_kind (Some c.loop-param.kinds.items)) (sym c.param_kind.ensures ∙ c.in-None.is)) (λ y. refl) c.loop-param.invariant

pub returns-clause-made : goal.returns-clause-made
returns-clause-made c =
    kinds_run c.args.table.now c.args.file no_params c.args.params.now
    ∙ ran_all (one_kind c.args.table.now c.args.file) (Some []) c.args.params.now c.loop-param.param-index (Some c.loop-param.kinds.items) c.loop-param-test.false c.loop-param.invariant
    ∙ ap Some (sym c.from_vec.ensures)
