use Rattle.std.proofs.Common.{◌≡◌, List, ℕ, subst, ◌∙◌}
use Rattle.ck_edges.specs.Sink.{Appends, AppendsFront}
use Rattle.program_answers.specs.Answer.{refusal_line}
use Rattle.run_report.specs.declared.status.Status.TheVariants.{Refused}
use Rattle.program_answers.proofs.Steps.{write_whole, write_part, wanting}
use Rattle.program_answers.proofs.writing.refuse.Goals as goal

pub returns-in-Err : goal.returns-in-Err
returns-in-Err g c = λ sheets press_faults. wanting _ _ _ c.from-in-Err.ensures

pub returns-in-Ok-write : goal.returns-in-Ok-write
returns-in-Ok-write g c =
    let line : c.as_bytes.result.now ≡ refusal_line c.args.name.now c.args.wrong.now =
    c.as_bytes.ensures.value ∙ c.in-Ok.ensures.ok in
    let P : List ℕ → Type 0 =
    Appends (g.O.Sink.written c.args.out.now) (g.O.Sink.written c.write.new.self) in
    write_whole _ Refused _ _ _ _ (subst P line c.in-Ok-write.ensures.whole)

pub returns : goal.returns
returns g c =
    let line : c.as_bytes.result.now ≡ refusal_line c.args.name.now c.args.wrong.now =
    c.as_bytes.ensures.value ∙ c.in-Ok.ensures.ok in
    let P : List ℕ → Type 0 =
    AppendsFront (g.O.Sink.written c.args.out.now) (g.O.Sink.written c.write.new.self) in
    write_part _ Refused _ _ _ _ (subst P line c.in-Err-write.ensures.part) c.in-Err-write.ensures.failed
