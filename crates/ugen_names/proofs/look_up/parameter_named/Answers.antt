use Rattle.std.proofs.Common.{◌∙◌, sym, ap}
use Rattle.std.specs.Prelude.{find}
use Rattle.std.specs.Option.{option_map}
use Rattle.ugen_names.specs.Table.{common, own_parameters, parameter_meant, is_called}
use Rattle.ugen_names.proofs.Named.{found_first, found_then}
use Rattle.ugen_names.proofs.look_up.parameter_named.Goals as goal

pub returns-in-Some : goal.returns-in-Some
returns-in-Some c =
    let test = is_called c.args.name.now in
    sym (found_first test common (own_parameters c.args.kind) (parameter_meant c.in-Some.parameter)
    (ap (find test) (sym c.common.ensures) ∙ sym c.named_among.ensures ∙ ap (option_map parameter_meant) c.in-Some.is))

pub returns : goal.returns
returns c =
    let test = is_called c.args.name.now in
    c.named_among-2.ensures ∙ ap (find test) c.own_parameters.ensures
    ∙ sym (found_then test common (own_parameters c.args.kind)
    (ap (find test) (sym c.common.ensures) ∙ sym c.named_among.ensures ∙ ap (option_map parameter_meant) c.in_default.is))
