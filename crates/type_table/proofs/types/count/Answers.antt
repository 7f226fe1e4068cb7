use Rattle.type_table.proofs.BracketLists.{counted}
use Rattle.type_table.proofs.types.count.Goals as goal

pub returns : goal.returns
returns c = counted c.args.brackets.now
