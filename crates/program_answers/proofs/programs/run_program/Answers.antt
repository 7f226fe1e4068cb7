use Rattle.std.proofs.Common.{ℕ, ap, sym, subst, length, arith}
use Rattle.ck_meaning.specs.Replay.{run, run_code}
use Rattle.ck_typed.specs.View.{view_program}
use Rattle.ck_code.specs.declared.code.CodeParts.{CodeParts}
use Rattle.program_answers.specs.Answer.{WholeAnswer, run_answer}
use Rattle.program_answers.specs.Ends.{moment_of, EndsRun}
use Rattle.command_inputs.specs.Words.{words_of}
use Rattle.program_answers.proofs.Codes.{scheme_is}
use Rattle.run_report.proofs.RunWritten.{AreSame, same_answer}
use Rattle.program_answers.proofs.programs.run_program.Goals as goal

pub run_code-requires-clause-files : goal.run_code-requires-clause-files
run_code-requires-clause-files g c =
    omega (arith, ap (length {A = ℕ}) c.in-Ok.ensures.scheme.mains, c.requires.files)

pub returns-in-Ok-clause-ends : goal.returns-in-Ok-clause-ends
returns-in-Ok-clause-ends g c =
    let program = view_program c.args.program in
    let names = words_of c.args.names.now in
    let runs = c.in-Ok.ensures.runs in
    let same : AreSame c.args.samples (run program) (run_code c.in-Ok.code) = record {
      same_samples = λ n le. runs.samples n (omega (arith, le, c.requires.few));
      same_text = λ n le. runs.text n (omega (arith, le, c.requires.few));
      same_wakes = λ n le. runs.wakes n (omega (arith, le, c.requires.few));
      same_store = runs.store c.args.samples c.requires.few;
    } in
    let P : WholeAnswer → Type 0 = λ answer. EndsRun c.run_code.result answer
    (moment_of g.O.Sink g.P.Press c.args.out.now c.args.press.now)
    (moment_of g.O.Sink g.P.Press c.run_code.new.out c.run_code.new.press) in
    let code = scheme_is program c.in-Ok.code c.in-Ok.ensures.scheme in
    let B : CodeParts → Type 0 = λ code. P (run_answer c.args.report c.args.samples
    c.args.sheet.now names (run program) (run_code code c.args.samples).begun) in
    subst B code
    (subst P (sym (same_answer names c.args.samples (run program) (run_code c.in-Ok.code) same
    c.args.report c.args.sheet.now (run_code c.in-Ok.code c.args.samples).begun))
    c.run_code.ensures.ends)
