use Rattle.std.proofs.Common.{◌≡◌, [], drop, map}
use Rattle.ck_scheme.specs.Texts.{funs_texts, once_each}
use Rattle.ck_typed.specs.View.{view_fun}
use Rattle.code_texts.proofs.collect.collect_texts.Given as goal

abbrev pub invariant-loop-fun : goal.invariant-loop-fun
invariant-loop-fun l =
    once_each l.texts (funs_texts (map view_fun (drop l.fun-index l.funs)))
    ≡ once_each [] (funs_texts (map view_fun l.funs))
