use Rattle.std.proofs.Common.{refl}
use Rattle.run_report.specs.declared.report.Report.TheVariants.{Text}
use Rattle.run_report.specs.Answer.{run_answer}
use Rattle.run_report.specs.Ends.{moment_of}
use Rattle.chuck_vm.specs.Wakes.{names_of}
use Rattle.ck_meaning.specs.Replay.{run_code}
use Rattle.run_report.proofs.Sheets.{run_keeps}
use Rattle.run_report.proofs.pressing.run_code.Goals as goal

pub returns-in-Text-clause-kept : goal.returns-in-Text-clause-kept
returns-in-Text-clause-kept g c =
    run_keeps c.run_on_sheet.result
    (run_answer Text c.args.samples c.args.sheet.now (names_of c.args.names.now)
    (run_code c.args.code) (run_code c.args.code c.args.samples).begun) c.args.sheet.now _
    (moment_of g.O.Sink g.P.Press c.args.out.now c.args.press.now)
    (moment_of g.O.Sink g.P.Press c.run_on_sheet.new.out c.run_on_sheet.new.press) refl
    c.run_on_sheet.ensures.ends
