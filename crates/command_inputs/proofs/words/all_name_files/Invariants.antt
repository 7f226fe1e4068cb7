use Rattle.std.proofs.Common.{◌≡◌, drop}
use Rattle.std.specs.List.{list_all}
use Rattle.command_inputs.specs.Words.{words_of, can_name_file}
use Rattle.command_inputs.proofs.words.all_name_files.Given as goal

abbrev pub invariant-loop-word : goal.invariant-loop-word
invariant-loop-word l =
    list_all can_name_file (words_of l.words) ≡ list_all can_name_file
    (words_of (drop l.word-index l.words))
