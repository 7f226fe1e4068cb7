use Rattle.std.proofs.Common.{refl}
use Rattle.type_table.proofs.WholeLine.{whole}
use Rattle.type_table.proofs.table.Table.whole_line.Goals as goal

pub returns-clause-whole : goal.returns-clause-whole
returns-clause-whole c = whole c.args.self.now.parents _ c.args.class refl refl
