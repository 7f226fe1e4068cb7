use Rattle.std.proofs.Common.{ℕ, List, [], ◌∷◌, ◌++◌, refl, subst}
use Rattle.ck_edges.specs.Press.{with_begun, with_written, with_ended}
use Rattle.ck_meaning.specs.Replay.{run_code}
use Rattle.run_report.specs.declared.cut.Cut.TheVariants as cut
use Rattle.run_report.specs.declared.report.Report.TheVariants.{Text}
use Rattle.run_report.specs.Answer.{blocks_answer}
use Rattle.run_report.specs.Ends.{moment_of, HasDone, IsCut}
use Rattle.run_report.specs.Step.{BeginSheet, WriteSheet, EndSheet}
use Rattle.chuck_vm.specs.Wakes.{names_of}
use Rattle.run_report.proofs.Sheets.{sheet_steps, begun, headed, filled}
use Rattle.run_report.proofs.Steps.{run_cut, remains_then, remains_none, remains_cut, sheet_done, sheet_cut, none_cut}
use Rattle.run_report.proofs.pressing.run_on_sheet.Goals as goal

pub returns-in_err-write-clause-ends : goal.returns-in_err-write-clause-ends
returns-in_err-write-clause-ends g c =
    let sheet = c.args.sheet.now in
    let blocks = (blocks_answer Text c.args.samples (names_of c.args.names.now)
    (run_code c.args.code) (run_code c.args.code c.args.samples).begun).steps in
    let old = moment_of g.O.Sink g.P.Press c.args.out.now c.args.press.now in
    let first = moment_of g.O.Sink g.P.Press c.args.out.now c.begin.new.self in
    let new = moment_of g.O.Sink g.P.Press c.args.out.now c.write.new.self in
    let header = c.header.result in
    let one : HasDone (BeginSheet sheet ∷ []) old first =
    sheet_done (BeginSheet sheet) (with_begun sheet) _ _ _ _ _ _ refl (λ s. refl)
    c.in_ok-begin.ensures.begun c.in_ok-begin.ensures.no_fault in
    let P : List ℕ → Type 0 = λ h. IsCut cut.WriteFault (sheet_steps sheet h blocks old) old new in
    run_cut _ cut.WriteFault _ old new c.from_residual-in_err-write.ensures.1
    (subst P c.header.ensures
    (remains_cut cut.WriteFault (sheet_steps sheet header blocks old) (WriteSheet header ∷ [])
    (blocks ++ EndSheet ∷ []) old first new (begun sheet header blocks old first one)
    (sheet_cut header _ _ _ _ _ _ c.in_err-write.ensures.part c.in_err-write.ensures.failed)))

pub returns-in_err-tally-clause-ends : goal.returns-in_err-tally-clause-ends
returns-in_err-tally-clause-ends g c =
    let sheet = c.args.sheet.now in
    let blocks = (blocks_answer Text c.args.samples (names_of c.args.names.now)
    (run_code c.args.code) (run_code c.args.code c.args.samples).begun).steps in
    let old = moment_of g.O.Sink g.P.Press c.args.out.now c.args.press.now in
    let first = moment_of g.O.Sink g.P.Press c.args.out.now c.begin.new.self in
    let second = moment_of g.O.Sink g.P.Press c.args.out.now c.write.new.self in
    let new = moment_of g.O.Sink g.P.Press c.run_blocks.new.out c.run_blocks.new.press in
    let header = c.header.result in
    let one : HasDone (BeginSheet sheet ∷ []) old first =
    sheet_done (BeginSheet sheet) (with_begun sheet) _ _ _ _ _ _ refl (λ s. refl)
    c.in_ok-begin.ensures.begun c.in_ok-begin.ensures.no_fault in
    let two : HasDone (WriteSheet header ∷ []) first second =
    sheet_done (WriteSheet header) (with_written header) _ _ _ _ _ _ refl (λ s. refl)
    c.in_ok-write.ensures.whole c.in_ok-write.ensures.no_fault in
    let short = c.in_err-tally.field-0.0 in
    let P : List ℕ → Type 0 = λ h. IsCut short (sheet_steps sheet h blocks old) old new in
    run_cut _ short _ old new c.from_residual-in_err-tally.ensures.1
    (subst P c.header.ensures
    (remains_cut short (sheet_steps sheet header blocks old) blocks
    (EndSheet ∷ []) old second new (headed sheet header blocks old first second one two)
    c.in_err-tally.ensures.ends))

pub returns-in_err-end-clause-ends : goal.returns-in_err-end-clause-ends
returns-in_err-end-clause-ends g c =
    let sheet = c.args.sheet.now in
    let blocks = (blocks_answer Text c.args.samples (names_of c.args.names.now)
    (run_code c.args.code) (run_code c.args.code c.args.samples).begun).steps in
    let old = moment_of g.O.Sink g.P.Press c.args.out.now c.args.press.now in
    let first = moment_of g.O.Sink g.P.Press c.args.out.now c.begin.new.self in
    let second = moment_of g.O.Sink g.P.Press c.args.out.now c.write.new.self in
    let third = moment_of g.O.Sink g.P.Press c.run_blocks.new.out c.run_blocks.new.press in
    let new = moment_of g.O.Sink g.P.Press c.run_blocks.new.out c.end.new.self in
    let header = c.header.result in
    let one : HasDone (BeginSheet sheet ∷ []) old first =
    sheet_done (BeginSheet sheet) (with_begun sheet) _ _ _ _ _ _ refl (λ s. refl)
    c.in_ok-begin.ensures.begun c.in_ok-begin.ensures.no_fault in
    let two : HasDone (WriteSheet header ∷ []) first second =
    sheet_done (WriteSheet header) (with_written header) _ _ _ _ _ _ refl (λ s. refl)
    c.in_ok-write.ensures.whole c.in_ok-write.ensures.no_fault in
    let P : List ℕ → Type 0 = λ h. IsCut cut.WriteFault (sheet_steps sheet h blocks old) old new in
    run_cut _ cut.WriteFault _ old new c.from_residual-in_err-end.ensures.1
    (subst P c.header.ensures
    (remains_cut cut.WriteFault (sheet_steps sheet header blocks old) (EndSheet ∷ []) [] old third
    new (filled sheet header blocks old first second third one two c.in_ok-tally.ensures.ends.0)
    (none_cut EndSheet _ _ _ _ _ _ refl c.in_err-end.ensures.none.0 c.in_err-end.ensures.failed)))

pub returns-clause-ends : goal.returns-clause-ends
returns-clause-ends g c =
    let sheet = c.args.sheet.now in
    let blocks = (blocks_answer Text c.args.samples (names_of c.args.names.now)
    (run_code c.args.code) (run_code c.args.code c.args.samples).begun).steps in
    let old = moment_of g.O.Sink g.P.Press c.args.out.now c.args.press.now in
    let first = moment_of g.O.Sink g.P.Press c.args.out.now c.begin.new.self in
    let second = moment_of g.O.Sink g.P.Press c.args.out.now c.write.new.self in
    let third = moment_of g.O.Sink g.P.Press c.run_blocks.new.out c.run_blocks.new.press in
    let new = moment_of g.O.Sink g.P.Press c.run_blocks.new.out c.end.new.self in
    let header = c.header.result in
    let one : HasDone (BeginSheet sheet ∷ []) old first =
    sheet_done (BeginSheet sheet) (with_begun sheet) _ _ _ _ _ _ refl (λ s. refl)
    c.in_ok-begin.ensures.begun c.in_ok-begin.ensures.no_fault in
    let two : HasDone (WriteSheet header ∷ []) first second =
    sheet_done (WriteSheet header) (with_written header) _ _ _ _ _ _ refl (λ s. refl)
    c.in_ok-write.ensures.whole c.in_ok-write.ensures.no_fault in
    let last : HasDone (EndSheet ∷ []) third new =
    sheet_done EndSheet with_ended _ _ _ _ _ _ refl (λ s. refl)
    c.in_ok-end.ensures.ended c.in_ok-end.ensures.no_fault in
    let P : List ℕ → Type 0 = λ h. HasDone (sheet_steps sheet h blocks old) old new in (
      subst P c.header.ensures
          (remains_none (sheet_steps sheet header blocks old) old new
          (remains_then (sheet_steps sheet header blocks old) (EndSheet ∷ []) [] old third new
          (filled sheet header blocks old first second third one two
          c.in_ok-tally.ensures.ends.0) last)),
      c.in_ok-tally.ensures.ends.1,
      c.in_ok-tally.ensures.ends.2,
    )
