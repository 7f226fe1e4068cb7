use Rattle.std.proofs.Common.{◌∙◌}
use Rattle.type_table.proofs.BracketLists.{none}
use Rattle.type_table.proofs.types.are_none.Goals as goal

pub returns : goal.returns
returns c = c.is_empty.ensures ∙ none c.args.brackets.now
