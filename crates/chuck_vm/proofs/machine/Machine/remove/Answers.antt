use Rattle.std.proofs.Common.{◌∙◌, sym, subst, ap, nat_abs, arith}
use Rattle.std.proofs.lemmas.Int.{ints, to_z-of_z}
use mir.Syntax.{w64}
use Rattle.chuck_vm.specs.Machine.{Stands}
use Rattle.chuck_vm.proofs.Orders.{removed_is, abs_is}
use Rattle.chuck_vm.proofs.machine.Machine.remove.Goals as goal

pub returns-then-is_live-clause-ended : goal.returns-then-is_live-clause-ended
returns-then-is_live-clause-ended c = λ run stands.
    subst (Stands c.end.new.self)
    (removed_is run _ c.args.number
    (abs_is c.args.number c.unsigned_abs-number.result (omega (arith, ints))
    (c.unsigned_abs-number.ensures.value ∙ ap nat_abs (to_z-of_z w64 c.args.number c.ranges.number)))
    (sym (c.is_live.ensures run stands) ∙ c.if-is_live.true))
    (c.end.ensures.ended run stands)
