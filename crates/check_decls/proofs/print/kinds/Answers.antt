use Rattle.std.proofs.Common.{◌∙◌}
use Rattle.check_decls.proofs.Printed.{kinds_done}
use Rattle.check_decls.proofs.print.kinds.Goals as goal

pub returns-clause-made : goal.returns-clause-made
returns-clause-made c =
    c.from_vec.ensures
    ∙ kinds_done c.loop-value.kinds.items c.args.values.now c.loop-value.value-index
    c.loop-value-test.false c.loop-value.invariant
