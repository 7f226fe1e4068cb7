use Rattle.std.proofs.Common.{ℕ, List, [], ◌∷◌, ◌++◌, sym, ◌∙◌, subst}
use Rattle.run_report.specs.declared.cut.Cut.TheVariants as cut
use Rattle.run_report.specs.declared.report.Report.{Report}
use Rattle.run_report.specs.Answer.{samples_steps, lines_steps}
use Rattle.run_report.specs.Ends.{moment_of, IsCut}
use Rattle.run_report.specs.Step.{WriteSheet, writes_of}
use Rattle.run_report.proofs.Steps.{steps_cut, cut_then, cut_before, piece_done, piece_cut, sheet_cut}
use Rattle.run_report.proofs.pressing.write_block.Goals as goal

pub returns-in_err-write_piece-clause-ends : goal.returns-in_err-write_piece-clause-ends
returns-in_err-write_piece-clause-ends g c =
    steps_cut _ cut.WriteFault _ _ _ c.from_residual.ensures.1
    (cut_before cut.WriteFault (writes_of (c.args.lines.now ∷ []))
    (samples_steps c.args.report c.args.samples.now) _ _
    (piece_cut _ _ _ _ _ _ _ c.in_err-write_piece.ensures.some c.in_err-write_piece.ensures.part
    c.in_err-write_piece.ensures.failed))

pub returns-in_err-write-in-Text-clause-ends : goal.returns-in_err-write-in-Text-clause-ends
returns-in_err-write-in-Text-clause-ends g c =
    let lines = c.args.lines.now in
    let samples = c.args.samples.now in
    let old = moment_of g.O.Sink g.P.Press c.args.out.now c.args.press.now in
    let mid = moment_of g.O.Sink g.P.Press c.write_piece.new.out c.args.press.now in
    let new = moment_of g.O.Sink g.P.Press c.write_piece.new.out c.write.new.self in
    let P : List ℕ → Type 0 = λ bytes.
    IsCut cut.WriteFault (writes_of (lines ∷ []) ++ WriteSheet bytes ∷ []) old new in
    let Q : Report → Type 0 = λ report.
    IsCut cut.WriteFault (lines_steps report lines samples) old new in
    steps_cut _ cut.WriteFault _ old new c.from_residual-in_err-write-in-Text.ensures.1
    (subst Q (sym c.in-Text.is) (subst P (c.as_slice.ensures.value ∙ c.in_ok-bytes_of-in-Text.ensures)
    (cut_then cut.WriteFault (writes_of (lines ∷ [])) (WriteSheet _ ∷ []) old mid new
    (piece_done lines _ _ _ _ _ _ c.in_ok-write_piece.ensures.whole
    c.in_ok-write_piece.ensures.no_fault)
    (sheet_cut _ _ _ _ _ _ _ c.in_err-write-in-Text.ensures.part
    c.in_err-write-in-Text.ensures.failed))))
