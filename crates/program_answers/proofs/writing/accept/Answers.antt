use Rattle.std.proofs.Common.{List, [], ◌∷◌, subst, sym, ◌∙◌}
use Rattle.run_report.specs.declared.cut.Cut.TheVariants as cut
use Rattle.program_answers.specs.Answer.{ok_steps}
use Rattle.program_answers.specs.Ends.{moment, Ends, whole, halted, part}
use Rattle.run_report.specs.Step.{Step, Write}
use Rattle.command_inputs.specs.Words.{words_of}
use Rattle.program_answers.proofs.Named.{next_line, no_steps}
use Rattle.run_report.proofs.Steps.{Remains, remains_all, remains_none, remains_front}
use Rattle.run_report.proofs.Steps.{remains_then, remains_cut, write_done, write_cut}
use Rattle.program_answers.proofs.writing.accept.Goals as goal

pub loop-name-init : goal.loop-name-init
loop-name-init g c = λ sheets press_faults. remains_all _ _

pub loop-name-preserved : goal.loop-name-preserved
loop-name-preserved g c = λ sheets press_faults.
    remains_then _ (Write c.as_bytes.result.now ∷ []) _ _ _ _
    (next_line c.args.names.now c.loop-name.name-index c.name-item.result
    c.as_bytes.result.now _ _ c.loop-name-test.true c.name-item.is
    (c.as_bytes.ensures.value ∙ c.in-Ok.ensures.ok)
    (c.loop-name.invariant sheets press_faults))
    (write_done _ _ _ _ _ sheets press_faults c.in-Ok-write.ensures.whole
    c.in-Ok-write.ensures.no_fault)

pub returns-in-Err : goal.returns-in-Err
returns-in-Err g c = λ sheets press_faults.
    subst (Ends _ _ _) (sym c.from-in-Err.ensures)
    (halted (remains_front _ _ _ _ (c.loop-name.invariant sheets press_faults)))

pub returns-in-Err-write : goal.returns-in-Err-write
returns-in-Err-write g c = λ sheets press_faults.
    let short = remains_cut cut.WriteFault _ (Write c.as_bytes.result.now ∷ []) _ _ _ _
    (next_line c.args.names.now c.loop-name.name-index c.name-item.result
    c.as_bytes.result.now _ _ c.loop-name-test.true c.name-item.is
    (c.as_bytes.ensures.value ∙ c.in-Ok.ensures.ok)
    (c.loop-name.invariant sheets press_faults))
    (write_cut _ _ _ _ _ sheets press_faults c.in-Err-write.ensures.part c.in-Err-write.ensures.failed) in
    part short.0 short.1

pub returns : goal.returns
returns g c = λ sheets press_faults.
    let P : List Step → Type 0 = λ left.
    Remains (ok_steps (words_of c.args.names.now)) left
    (moment (g.O.Sink.written c.args.out.now) (g.O.Sink.write_faults c.args.out.now) sheets
    press_faults)
    (moment (g.O.Sink.written c.loop-name.out) (g.O.Sink.write_faults c.loop-name.out) sheets
    press_faults) in
    whole (remains_none _ _ _
    (subst P (no_steps c.args.names.now c.loop-name.name-index c.loop-name-test.false)
    (c.loop-name.invariant sheets press_faults))).does
