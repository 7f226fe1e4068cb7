use Rattle.std.proofs.Common.{◌≡◌, ◌+◌, ◌&&◌, true, drop, sym, ap, ◌∙◌}
use Rattle.std.specs.List.{list_all}
use Rattle.std.specs.String.{string_bytes}
use Rattle.command_inputs.specs.Words.{words_of, can_name_file}
use Rattle.command_inputs.proofs.Names.{next_named, none_left}
use Rattle.command_inputs.proofs.words.all_name_files.Goals as goal

pub loop-word-preserved : goal.loop-word-preserved
loop-word-preserved c =
    let named : can_name_file (string_bytes c.word-item.result) ≡ true =
    ap can_name_file (sym c.as_str.ensures.value) ∙ sym c.names_file.ensures
    ∙ c.if-not-names_file.false in
    c.loop-word.invariant
    ∙ next_named c.args.words.now c.loop-word.word-index c.word-item.result
    c.loop-word-test.true c.word-item.is
    ∙ ap (λ b. b && list_all can_name_file
    (words_of (drop (c.loop-word.word-index + 1) c.args.words.now))) named

pub returns : goal.returns
returns c = sym
    (c.loop-word.invariant
    ∙ none_left c.args.words.now c.loop-word.word-index c.loop-word-test.false)
