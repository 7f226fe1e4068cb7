use Rattle.std.proofs.Common.{◌∙◌, sym, map, refl}
use Rattle.ugen_names.specs.Table.{parameter_meant, is_called}
use Rattle.ugen_names.proofs.FirstRow.{found_here, found_later}
use Rattle.ugen_names.proofs.look_up.named_among.Goals as goal

pub returns-then-is_called : goal.returns-then-is_called
returns-then-is_called c =
    sym (c.loop-parameter.invariant ∙ found_here parameter_meant _ (map parameter_meant c.args.parameters.now) c.args.parameters.now refl (is_called c.args.name.now) c.loop-parameter.parameter-index c.loop-parameter-test.true (sym c.is_called.ensures ∙ c.if-is_called.true))

pub loop-parameter-preserved : goal.loop-parameter-preserved
loop-parameter-preserved c =
    c.loop-parameter.invariant ∙ found_later parameter_meant _ (map parameter_meant c.args.parameters.now) c.args.parameters.now refl (is_called c.args.name.now) c.loop-parameter.parameter-index c.loop-parameter-test.true (sym c.is_called.ensures ∙ c.if-is_called.false)
