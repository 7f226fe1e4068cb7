use Rattle.std.proofs.Common.{refl, arith}
use Rattle.ck_values.specs.Datum.{meant}
use Rattle.value_ops.proofs.Changes.{append_null, append_given}
use Rattle.value_ops.proofs.edits.append.Goals as goal

pub returns-in-Err-clause-end : goal.returns-in-Err-clause-end
returns-in-Err-clause-end c = λ store. (
  append_null store c.args.heap.now c.args.at
      (meant c.args.v) c.in-Err.trap c.in-Err.ensures.null,
  refl,
)

pub returns-in-Err-grow-clause-end : goal.returns-in-Err-grow-clause-end
returns-in-Err-grow-clause-end c = λ store. (
  append_given store c.args.heap.now c.args.at c.in-Ok.items.now c.args.v c.requires.first
      c.in-Ok.ensures.found (omega arith),
  c.in-Err-grow.ensures.back,
)
