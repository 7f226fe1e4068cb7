use Rattle.std.proofs.Common.{◌+◌, drop, map, sym, ap, ◌∙◌}
use Rattle.ck_typed.specs.View.{view_fun}
use Rattle.ck_scheme.specs.Texts.{default_texts, funs_texts, once_each}
use Rattle.code_texts.proofs.Trees.{strings_next}
use Rattle.code_texts.proofs.collect.collect_texts.Goals as goal

pub loop-fun-preserved : goal.loop-fun-preserved
loop-fun-preserved c =
    let rest = funs_texts (map view_fun (drop (c.loop-fun.fun-index + 1) c.args.funs.now)) in
    ap (λ texts. once_each texts rest) (c.in_ok-collect_default.ensures
    ∙ ap (λ texts. once_each texts (default_texts c.fun-item.result.result))
    c.in_ok-collect_stmt.ensures)
    ∙ sym (strings_next c.loop-fun.texts c.args.funs.now c.loop-fun.fun-index c.fun-item.result
    c.loop-fun-test.true c.fun-item.is) ∙ c.loop-fun.invariant
