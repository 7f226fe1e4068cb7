use Rattle.std.proofs.Common.{refl}
use Rattle.ck_typed.specs.View.{view_program}
use Rattle.program_answers.specs.Answer.{program_answer}
use Rattle.program_answers.specs.Ends.{moment_of}
use Rattle.command_inputs.specs.Words.{words_of}
use Rattle.program_answers.proofs.Ran.{ran_whole, ran_left, ran_cut, cut_left}
use Rattle.program_answers.proofs.programs.run.Goals as goal

pub run_program-requires : goal.run_program-requires
run_program-requires g c = record {
  few = c.requires.few;
  files = c.requires.files;
  shut = c.requires.shut;
}

pub returns-in-Ok-clause-ends : goal.returns-in-Ok-clause-ends
returns-in-Ok-clause-ends g c =
    let names = words_of c.args.names.now in
    let old = moment_of g.O.Sink g.P.Press c.args.out.now c.args.press.now in
    let new = moment_of g.O.Sink g.P.Press c.run_program.new.out c.run_program.new.press in
    let answer = program_answer c.args.report c.args.samples c.args.sheet.now names
    (view_program c.args.program) in
    ran_whole answer c.run_program.result c.in-Ok.numbers c.of_run.result old new c.in-Ok.is
    c.run_program.ensures.ends c.of_run.ensures

pub returns-in-Ok-clause-numbers : goal.returns-in-Ok-clause-numbers
returns-in-Ok-clause-numbers g c =
    let names = words_of c.args.names.now in
    let old = moment_of g.O.Sink g.P.Press c.args.out.now c.args.press.now in
    let new = moment_of g.O.Sink g.P.Press c.run_program.new.out c.run_program.new.press in
    let answer = program_answer c.args.report c.args.samples c.args.sheet.now names
    (view_program c.args.program) in
    ran_left answer c.run_program.result c.in-Ok.numbers c.of_run.result old new c.args.tally.now _
    c.in-Ok.is c.run_program.ensures.ends c.of_run.ensures refl

pub returns-in-Err-clause-ends : goal.returns-in-Err-clause-ends
returns-in-Err-clause-ends g c =
    let names = words_of c.args.names.now in
    let old = moment_of g.O.Sink g.P.Press c.args.out.now c.args.press.now in
    let new = moment_of g.O.Sink g.P.Press c.run_program.new.out c.run_program.new.press in
    let answer = program_answer c.args.report c.args.samples c.args.sheet.now names
    (view_program c.args.program) in
    ran_cut answer c.run_program.result c.in-Err.cut c.status.result old new c.in-Err.is
    c.run_program.ensures.ends c.status.ensures

pub returns-in-Err-clause-numbers : goal.returns-in-Err-clause-numbers
returns-in-Err-clause-numbers g c = cut_left c.in-Err.cut c.status.result _ _ c.status.ensures
