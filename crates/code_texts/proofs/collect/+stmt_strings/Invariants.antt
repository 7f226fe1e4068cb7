use Rattle.std.proofs.Common.{◌≡◌, drop}
use Rattle.ck_scheme.specs.Texts.{stmts_texts, once_each}
use Rattle.ck_typed.specs.View.{stmts_of}
use Rattle.code_texts.proofs.collect.+stmt_strings.Given as goal

abbrev pub invariant-collect_block-loop-t : goal.invariant-collect_block-loop-t
invariant-collect_block-loop-t l =
    once_each l.texts (stmts_texts (stmts_of (drop l.t-index l.all)))
    ≡ once_each l.initial.texts (stmts_texts (stmts_of l.all))
