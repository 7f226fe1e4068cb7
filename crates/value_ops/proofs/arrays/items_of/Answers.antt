use Rattle.std.proofs.Common.{refl, rules}
use Rattle.value_ops.proofs.Items.{held, null_is}
use Rattle.value_ops.specs.Heaps.{objects_of}
use Rattle.value_ops.proofs.arrays.items_of.Goals as goal

pub returns-then-at-eq0-clause-null : goal.returns-then-at-eq0-clause-null
returns-then-at-eq0-clause-null c =
    null_is (objects_of c.args.heap.now) c.args.at.serial (search rules)

pub body-requires : goal.body-requires
body-requires c =
    let h = held c.args.heap.now c.args.at c.requires.first (search rules) c.requires.array in
    rw h.is.is refl

pub unreachable-requires : goal.unreachable-requires
unreachable-requires c =
    let h = held c.args.heap.now c.args.at c.requires.first (search rules) c.requires.array in
    c.in_default.not-Array h.is.elem h.is.two h.items (cc)
