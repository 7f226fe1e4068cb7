use Rattle.std.proofs.Common.{◌∙◌}
use Rattle.type_table.proofs.Entries.{found_name}
use Rattle.type_table.proofs.names.ByName.get.Goals as goal

pub returns : goal.returns
returns g c = c.get.ensures.value ∙ found_name c.args.name.now c.self.inside.all.entries c.args.self.now c.self.view_is
