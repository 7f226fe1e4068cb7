use Rattle.std.proofs.Common.{◌≡◌, ◌+◌, ◌<◌, ◌≤◌, List, Err, sym, subst, ap, ◌∙◌, arith, length, string_bytes}
use Rattle.std.proofs.lemmas.List.{length-map}
use Rattle.std.specs.Prelude.{All}
use Rattle.ck_base.specs.declared.limits.TheConstants.{MAX_FILE_BYTES}
use Rattle.ck_syntax.specs.declared.file.File.{File}
use Rattle.ck_syntax.specs.Size.{file_size}
use Rattle.ck_syntax.specs.View.{view_file}
use Rattle.chuck_driver.specs.Answer.{answer_of_trees}
use Rattle.program_answers.specs.Ends.{moment_of, Ends, EndsAtSink, LeavesTally}
use Rattle.command_inputs.specs.Senses.{contents_of, said}
use Rattle.command_inputs.specs.Words.{words_of}
use Rattle.chuck_driver.proofs.Answering.{answered_trees, answered_source, answered_unstarted}
use Rattle.chuck_driver.proofs.Answering.{first_within}
use Rattle.command_inputs.proofs.Sizes.{small_trees}
use Rattle.program_answers.proofs.Steps.{press_stands, at_edges}
use Rattle.chuck_driver.proofs.driver.answer.Goals as goal

pub answer_trees-requires : goal.answer_trees-requires
answer_trees-requires g c =
    let P : List File → Type 0 = λ trees. length trees ≡ length c.args.names.now in
    let Q : List File → Type 0 = λ trees.
    All (λ it. file_size (view_file it) ≤ MAX_FILE_BYTES + 1) trees in
    record {
      takes = c.requires.takes;
      all = subst P (sym c.as_slice.ensures.value) (c.in-Ok.ensures.count ∙ c.requires.all);
      small = subst Q (sym c.as_slice.ensures.value)
          (small_trees c.args.files.now c.in-Ok.trees.items c.requires.short c.in-Ok.ensures.say);
      shut = c.requires.shut;
    }

pub returns-in-Ok-clause-answered : goal.returns-in-Ok-clause-answered
returns-in-Ok-clause-answered g c =
    let names = words_of c.args.names.now in
    let old = moment_of g.O.Sink g.P.Press c.args.out.now c.args.press.now in
    let new = moment_of g.O.Sink g.P.Press c.answer_trees.new.out c.answer_trees.new.press in
    let P : List File → Type 0 = λ trees.
    Ends (answer_of_trees c.args.command c.args.sheet.now names (said trees)) old new c.answer_trees.result in
    let L : List File → Type 0 = λ trees.
    LeavesTally c.answer_trees.result
    (answer_of_trees c.args.command c.args.sheet.now names (said trees)).tally c.args.tally.now
    c.answer_trees.new.tally in
    let named : length names ≡ length c.args.names.now = length-map c.args.names.now string_bytes in
    answered_trees c.args.command c.args.sheet.now names (contents_of c.args.files.now) old new
    c.args.tally.now c.answer_trees.new.tally c.in-Ok.trees.items
    c.in-Ok.ensures.say (c.in-Ok.ensures.count ∙ c.requires.all ∙ sym named)
    (subst P c.as_slice.ensures.value c.answer_trees.ensures.ends)
    (subst L c.as_slice.ensures.value c.answer_trees.ensures.numbers)

pub refuse_source-requires : goal.refuse_source-requires
refuse_source-requires g c =
    let first = c.in-Err-Refused.ensures.refused c.in-Err-Refused.place c.in-Err-Refused.line
    c.in-Err-Refused.wrong (ap Err c.in-Err-Refused.field-0-is) in
    omega (
      arith,
      first_within first,
      length-map c.args.files.now (λ file. file.items),
      c.requires.all,
      c.in-Err-Refused.place-is,
    )

pub returns-in-Err-Refused-clause-answered : goal.returns-in-Err-Refused-clause-answered
returns-in-Err-Refused-clause-answered g c =
    let stop = c.in-Err-Refused in
    let first = stop.ensures.refused stop.place stop.line stop.wrong (ap Err stop.field-0-is) in
    let within : stop.place < length c.args.names.now =
    omega (
      arith,
      first_within first,
      length-map c.args.files.now (λ file. file.items),
      c.requires.all,
    ) in
    let out = c.args.out.now in
    let out' = c.refuse_source.new.out in
    let press = c.args.press.now in
    let result = c.refuse_source.result in
    answered_source c.args.command c.args.sheet.now c.args.names.now (contents_of c.args.files.now)
    (moment_of g.O.Sink g.P.Press out press) (moment_of g.O.Sink g.P.Press out' press)
    c.args.tally.now result
    (λ answer. EndsAtSink g.O.Sink answer out out' result)
    (at_edges g.O.Sink g.P.Press out out' press result)
    stop.place _ stop.line _ stop.wrong _ stop.place-is stop.line-is stop.wrong-is within first
    c.refuse_source.ensures

pub returns-in-Err-Refused-clause-leaves : goal.returns-in-Err-Refused-clause-leaves
returns-in-Err-Refused-clause-leaves g c = press_stands g.P.Press c.args.press.now _

pub returns-in-Err-Memory-clause-answered : goal.returns-in-Err-Memory-clause-answered
returns-in-Err-Memory-clause-answered g c =
    answered_unstarted _ _ _ _ _ _ _ c.from.ensures

pub returns-in-Err-Memory-clause-leaves : goal.returns-in-Err-Memory-clause-leaves
returns-in-Err-Memory-clause-leaves g c = press_stands g.P.Press c.args.press.now _
