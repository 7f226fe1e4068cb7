use Rattle.std.proofs.Common.{subst}
use Rattle.ck_values.specs.Datum.{all_meant}
use Rattle.object_heap.specs.declared.body.Body.TheVariants.{Array}
use Rattle.object_heap.specs.Objects.{MakesNone}
use Rattle.value_ops.proofs.Makes.{array_so, array_not, array_given}
use Rattle.value_ops.proofs.rows.array.Goals as goal

pub returns-in-Ok-clause-made : goal.returns-in-Ok-clause-made
returns-in-Ok-clause-made c = λ store.
    array_so store c.args.heap.now c.make.new.self c.in-Ok.at c.args.elem c.args.two c.args.items
    c.requires.first c.in-Ok.ensures.made

pub returns-in-Err-Limit-clause-end : goal.returns-in-Err-Limit-clause-end
returns-in-Err-Limit-clause-end c = λ store.
    let none = subst (λ e. MakesNone e c.args.heap.now (Array c.args.elem c.args.two c.args.items))
    c.in-Err-Limit.field-0-is c.in-Err-Limit.ensures.refused in
    array_not store c.args.heap.now c.args.elem c.args.two (all_meant c.args.items)
    c.requires.first none.0

pub returns-clause-end : goal.returns-clause-end
returns-clause-end c = λ store.
    let none = subst (λ e. MakesNone e c.args.heap.now (Array c.args.elem c.args.two c.args.items))
    c.in-Err-Memory.field-0-is c.in-Err-Memory.ensures.refused in
    array_given store c.args.heap.now c.args.elem c.args.two (all_meant c.args.items)
    c.requires.first none.0
