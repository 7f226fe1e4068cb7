use Rattle.std.proofs.Common.{List, ℕ, subst}
use Rattle.program_answers.specs.Answer.{refusal_at, type_text}
use Rattle.program_answers.specs.Ends.{EndsAtSink}
use Rattle.program_answers.proofs.typing.refuse_types.Goals as goal

pub returns : goal.returns
returns g c =
    let P : List ℕ → List ℕ → Type 0 = λ name wrong.
    EndsAtSink g.O.Sink (refusal_at name c.args.line wrong)
    c.args.out.now c.refuse_at.new.out c.refuse_at.result in
    subst (λ name. P name (type_text c.args.kind)) c.file_name.ensures
    (subst (P c.file_name.result.now) c.text.ensures c.refuse_at.ensures)
