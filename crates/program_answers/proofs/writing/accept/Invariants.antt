use Rattle.std.proofs.Common.{ℕ, List, Option, drop}
use Rattle.ck_edges.specs.Press.{Sheet}
use Rattle.program_answers.specs.Answer.{ok_steps}
use Rattle.program_answers.specs.Ends.{moment}
use Rattle.command_inputs.specs.Words.{words_of}
use Rattle.run_report.proofs.Steps.{Remains}
use Rattle.program_answers.proofs.writing.accept.Given as goal

abbrev pub invariant-loop-name : goal.invariant-loop-name
invariant-loop-name g l = (sheets : Option (List Sheet)) (press_faults : ℕ)
    → Remains (ok_steps (words_of l.names)) (ok_steps (words_of (drop l.name-index l.names)))
    (moment (g.O.Sink.written l.fn.out) (g.O.Sink.write_faults l.fn.out) sheets press_faults)
    (moment (g.O.Sink.written l.out) (g.O.Sink.write_faults l.out) sheets press_faults)
