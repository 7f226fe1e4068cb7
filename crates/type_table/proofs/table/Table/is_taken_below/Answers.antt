use Rattle.std.proofs.Common.{◌∙◌}
use Rattle.type_table.proofs.TakingFacts.{taken_in}
use Rattle.type_table.proofs.table.Table.is_taken_below.Goals as goal

pub returns : goal.returns
returns c =
    c.some_takes_below.ensures
    ∙ taken_in c.args.self.now c.args.name.now c.args.class c.args.beside_fun c.maybe_taken_by-classes.result.now c.maybe_taken_by-classes.ensures
