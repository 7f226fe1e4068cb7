use Rattle.std.proofs.Common.{rules, ◌≡◌, ◌∙◌, true, false, refl, sym}
use Rattle.ck_syntax.specs.Tree.{no_declrs}
use Rattle.ck_syntax.specs.View.{view_declr}
use Rattle.type_table.proofs.Walks.{ran_stop, ran_all}
use Rattle.built_forms.specs.Built.{declr_built}
use Rattle.built_forms.proofs.Runs.{one_declr, declrs_run}
use Rattle.built_forms.proofs.stmts.are_declarators_built.Goals as goal

pub returns-then-not-is_declarator_built : goal.returns-then-not-is_declarator_built
returns-then-not-is_declarator_built c =
    let no : declr_built (view_declr c.declarator-item.result) ≡ false = search rules in
    sym (declrs_run no_declrs c.args.all.now ∙ ran_stop one_declr true c.args.all.now c.loop-declarator.declarator-index
    true c.declarator-item.result false
    c.loop-declarator-test.true c.declarator-item.is no (λ y. refl) c.loop-declarator.invariant)

pub returns : goal.returns
returns c =
    sym (declrs_run no_declrs c.args.all.now ∙ ran_all one_declr true c.args.all.now c.loop-declarator.declarator-index
    true
    c.loop-declarator-test.false c.loop-declarator.invariant)
