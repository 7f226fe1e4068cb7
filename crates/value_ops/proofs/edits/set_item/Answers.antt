use Rattle.std.proofs.Common.{refl, sym, ◌∙◌, w64}
use Rattle.std.proofs.lemmas.Int.{to_z-of_z}
use Rattle.ck_values.specs.Datum.{meant}
use Rattle.value_ops.proofs.Changes.{set_null, set_here}
use Rattle.value_ops.proofs.edits.set_item.Goals as goal

pub returns-in-Err-clause-trap : goal.returns-in-Err-clause-trap
returns-in-Err-clause-trap c = λ store. (
  set_null store c.args.heap.now c.args.at _
      (meant c.args.v) c.in-Err.trap c.in-Err.ensures.null,
  refl,
)

pub returns-in-Some-clause-set : goal.returns-in-Some-clause-set
returns-in-Some-clause-set c = λ store.
    set_here store c.args.heap.now c.set.new.self c.args.at c.in-Ok.items.now c.args.index
    c.in-Some.i c.set.result c.args.v c.requires.first c.in-Ok.ensures.found
    (sym (to_z-of_z w64 c.args.index c.ranges.index)
    ∙ c.in-Some.ensures.place.0) c.set.ensures.old c.set.ensures.set
