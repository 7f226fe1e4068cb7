use Rattle.std.proofs.Common.{rules, ◌≡◌, ◌<◌, ◌≤◌, ◌∙◌, true, false, length}
use Rattle.ck_syntax.specs.View.{view_file}
use Rattle.built_forms.specs.Built.{is_built}
use Rattle.chuck_driver.proofs.Unbuilt.{next_place, here_refused, none_past}
use Rattle.chuck_driver.proofs.driver.first_unbuilt.Goals as goal

pub returns-then-not-is_built : goal.returns-then-not-is_built
returns-then-not-is_built c =
    let within : c.loop-i.i < length c.args.trees.now = search rules in
    let unbuilt : is_built (view_file c.index-trees-i.result) ≡ false = search rules in (
      within,
      λ names name at. c.loop-i.invariant names
          ∙ here_refused c.loop-i.i names name c.args.trees.now c.index-trees-i.result within c.index-trees-i.is unbuilt
          at,
    )

pub loop-i-preserved : goal.loop-i-preserved
loop-i-preserved c =
    let within : c.loop-i.i < length c.args.trees.now = search rules in
    let built : is_built (view_file c.index-trees-i.result) ≡ true = search rules in
    λ names. c.loop-i.invariant names ∙ next_place c.loop-i.i names c.args.trees.now c.index-trees-i.result within
    c.index-trees-i.is built

pub returns : goal.returns
returns c =
    let past : length c.args.trees.now ≤ c.loop-i.i = search rules in
    λ names. c.loop-i.invariant names ∙ none_past c.loop-i.i names c.args.trees.now past
