use Rattle.std.proofs.Common.{sym, subst}
use Rattle.ck_typed.specs.View.{view_program}
use Rattle.program_answers.specs.Answer.{answer_of_program}
use Rattle.program_answers.specs.Ends.{moment_of, Ends, LeavesTally}
use Rattle.command_inputs.specs.Words.{words_of}
use Rattle.command_inputs.specs.declared.commands.Command.{Command}
use Rattle.program_answers.proofs.Steps.{press_stands, at_edges, none_left}
use Rattle.program_answers.proofs.programs.answer_program.Goals as goal

pub returns-in-Check-clause-ends : goal.returns-in-Check-clause-ends
returns-in-Check-clause-ends g c =
    let P : Command → Type 0 = λ command.
    Ends (answer_of_program command c.args.sheet.now (words_of c.args.names.now)
    (view_program c.args.program))
    (moment_of g.O.Sink g.P.Press c.args.out.now c.args.press.now)
    (moment_of g.O.Sink g.P.Press c.accept.new.out c.args.press.now) c.accept.result in
    subst P (sym c.in-Check.is) (at_edges g.O.Sink g.P.Press c.args.out.now c.accept.new.out
    c.args.press.now c.accept.result _ c.accept.ensures)

pub returns-in-Check-clause-leaves : goal.returns-in-Check-clause-leaves
returns-in-Check-clause-leaves g c = press_stands g.P.Press c.args.press.now _

pub returns-in-Check-clause-numbers : goal.returns-in-Check-clause-numbers
returns-in-Check-clause-numbers g c =
    let L : Command → Type 0 = λ command. LeavesTally c.accept.result
    (answer_of_program command c.args.sheet.now (words_of c.args.names.now)
    (view_program c.args.program)).tally c.args.tally.now c.args.tally.now in
    subst L (sym c.in-Check.is) (none_left c.accept.result c.args.tally.now)

pub returns-in-Code-clause-ends : goal.returns-in-Code-clause-ends
returns-in-Code-clause-ends g c =
    let P : Command → Type 0 = λ command.
    Ends (answer_of_program command c.args.sheet.now (words_of c.args.names.now)
    (view_program c.args.program))
    (moment_of g.O.Sink g.P.Press c.args.out.now c.args.press.now)
    (moment_of g.O.Sink g.P.Press c.list.new.out c.args.press.now) c.list.result in
    subst P (sym c.in-Code.is) (at_edges g.O.Sink g.P.Press c.args.out.now c.list.new.out
    c.args.press.now c.list.result _ c.list.ensures)

pub returns-in-Code-clause-leaves : goal.returns-in-Code-clause-leaves
returns-in-Code-clause-leaves g c = press_stands g.P.Press c.args.press.now _

pub returns-in-Code-clause-numbers : goal.returns-in-Code-clause-numbers
returns-in-Code-clause-numbers g c =
    let L : Command → Type 0 = λ command. LeavesTally c.list.result
    (answer_of_program command c.args.sheet.now (words_of c.args.names.now)
    (view_program c.args.program)).tally c.args.tally.now c.args.tally.now in
    subst L (sym c.in-Code.is) (none_left c.list.result c.args.tally.now)

pub returns-in-Wakes-clause-ends : goal.returns-in-Wakes-clause-ends
returns-in-Wakes-clause-ends g c =
    let P : Command → Type 0 = λ command.
    Ends (answer_of_program command c.args.sheet.now (words_of c.args.names.now)
    (view_program c.args.program))
    (moment_of g.O.Sink g.P.Press c.args.out.now c.args.press.now)
    (moment_of g.O.Sink g.P.Press c.run.new.out c.run.new.press)
    c.run.result in
    subst P (sym c.in-Wakes.is) c.run.ensures.ends

pub returns-in-Wakes-clause-numbers : goal.returns-in-Wakes-clause-numbers
returns-in-Wakes-clause-numbers g c =
    let L : Command → Type 0 = λ command. LeavesTally c.run.result
    (answer_of_program command c.args.sheet.now (words_of c.args.names.now)
    (view_program c.args.program)).tally c.args.tally.now c.run.new.tally in
    subst L (sym c.in-Wakes.is) c.run.ensures.numbers

pub returns-in-Render-clause-ends : goal.returns-in-Render-clause-ends
returns-in-Render-clause-ends g c =
    let P : Command → Type 0 = λ command.
    Ends (answer_of_program command c.args.sheet.now (words_of c.args.names.now)
    (view_program c.args.program))
    (moment_of g.O.Sink g.P.Press c.args.out.now c.args.press.now)
    (moment_of g.O.Sink g.P.Press c.run-in-Render.new.out c.run-in-Render.new.press)
    c.run-in-Render.result in
    subst P (sym c.in-Render.is) c.run-in-Render.ensures.ends

pub returns-in-Render-clause-numbers : goal.returns-in-Render-clause-numbers
returns-in-Render-clause-numbers g c =
    let L : Command → Type 0 = λ command. LeavesTally c.run-in-Render.result
    (answer_of_program command c.args.sheet.now (words_of c.args.names.now)
    (view_program c.args.program)).tally c.args.tally.now c.run-in-Render.new.tally in
    subst L (sym c.in-Render.is) c.run-in-Render.ensures.numbers

pub returns-in-Stats-clause-ends : goal.returns-in-Stats-clause-ends
returns-in-Stats-clause-ends g c =
    let P : Command → Type 0 = λ command.
    Ends (answer_of_program command c.args.sheet.now (words_of c.args.names.now)
    (view_program c.args.program))
    (moment_of g.O.Sink g.P.Press c.args.out.now c.args.press.now)
    (moment_of g.O.Sink g.P.Press c.run-in-Stats.new.out c.run-in-Stats.new.press)
    c.run-in-Stats.result in
    subst P (sym c.in-Stats.is) c.run-in-Stats.ensures.ends

pub returns-in-Stats-clause-numbers : goal.returns-in-Stats-clause-numbers
returns-in-Stats-clause-numbers g c =
    let L : Command → Type 0 = λ command. LeavesTally c.run-in-Stats.result
    (answer_of_program command c.args.sheet.now (words_of c.args.names.now)
    (view_program c.args.program)).tally c.args.tally.now c.run-in-Stats.new.tally in
    subst L (sym c.in-Stats.is) c.run-in-Stats.ensures.numbers

pub returns-in-Load-clause-ends : goal.returns-in-Load-clause-ends
returns-in-Load-clause-ends g c =
    let P : Command → Type 0 = λ command.
    Ends (answer_of_program command c.args.sheet.now (words_of c.args.names.now)
    (view_program c.args.program))
    (moment_of g.O.Sink g.P.Press c.args.out.now c.args.press.now)
    (moment_of g.O.Sink g.P.Press c.run-in-Load.new.out c.run-in-Load.new.press)
    c.run-in-Load.result in
    subst P (sym c.in-Load.is) c.run-in-Load.ensures.ends

pub returns-in-Load-clause-numbers : goal.returns-in-Load-clause-numbers
returns-in-Load-clause-numbers g c =
    let L : Command → Type 0 = λ command. LeavesTally c.run-in-Load.result
    (answer_of_program command c.args.sheet.now (words_of c.args.names.now)
    (view_program c.args.program)).tally c.args.tally.now c.run-in-Load.new.tally in
    subst L (sym c.in-Load.is) c.run-in-Load.ensures.numbers
