use Rattle.std.proofs.Common.{◌≡◌, ℕ, List, [], ◌∷◌, Some, sym, ap, ◌∙◌, subst}
use Rattle.ck_meaning.specs.Replay.{run_code}
use Rattle.chuck_vm.specs.declared.tally.Tally.{Tally}
use Rattle.chuck_vm.specs.Tallies.{tally_of}
use Rattle.fixed_point.specs.Wanting.{out_of_memory}
use Rattle.run_report.specs.declared.cut.Cut.TheVariants as cut
use Rattle.run_report.specs.Blocks.{blocks_of, tally_lines}
use Rattle.run_report.specs.Ends.{moment_of, HasDone, IsCut}
use Rattle.run_report.specs.Step.{Step, Write}
use Rattle.chuck_vm.specs.Wakes.{names_of}
use Rattle.run_report.proofs.RunWritten.{no_block_steps}
use Rattle.run_report.proofs.Steps.{run_cut, cut_then, cut_before, cut_at_once, has_done_then, write_done, write_cut}
use Rattle.run_report.proofs.pressing.run_for_numbers.Goals as goal

some_is : {x y : Tally} → Some x ≡ Some y → x ≡ y
some_is e = cc e

pub returns-in_err-tally-clause-ends : goal.returns-in_err-tally-clause-ends
returns-in_err-tally-clause-ends g c =
    let run = run_code c.args.code in
    let lines = tally_lines (tally_of (run c.args.samples) (run c.args.samples).begun) in
    let old = moment_of g.O.Sink g.P.Press c.args.out.now c.args.press.now in
    let mid = moment_of g.O.Sink g.P.Press c.run_blocks.new.out c.run_blocks.new.press in
    let short = c.in_err-tally.field-0.0 in
    let C : List Step → Type 0 = λ steps. IsCut short steps old mid in
    run_cut _ short _ old mid c.from_residual.ensures.1
    (cut_before short [] (Write lines ∷ []) old mid
    (subst C (no_block_steps (names_of c.args.names.now) (blocks_of run c.args.samples))
    c.in_err-tally.ensures.ends))

pub returns-in_err-lines-clause-ends : goal.returns-in_err-lines-clause-ends
returns-in_err-lines-clause-ends g c =
    let run = run_code c.args.code in
    let lines = tally_lines (tally_of (run c.args.samples) (run c.args.samples).begun) in
    let old = moment_of g.O.Sink g.P.Press c.args.out.now c.args.press.now in
    let mid = moment_of g.O.Sink g.P.Press c.run_blocks.new.out c.run_blocks.new.press in
    let H : List Step → Type 0 = λ steps. HasDone steps old mid in
    let done = subst H (no_block_steps (names_of c.args.names.now) (blocks_of run c.args.samples))
    c.in_ok-tally.ensures.ends.0 in
    run_cut _ (cut.Memory out_of_memory) _ old mid c.from_residual-in_err-lines.ensures.1
    (cut_then (cut.Memory out_of_memory) [] (Write lines ∷ []) old mid mid done (cut_at_once (Write lines ∷ []) mid))

pub returns-in_err-write-clause-ends : goal.returns-in_err-write-clause-ends
returns-in_err-write-clause-ends g c =
    let run = run_code c.args.code in
    let old = moment_of g.O.Sink g.P.Press c.args.out.now c.args.press.now in
    let mid = moment_of g.O.Sink g.P.Press c.run_blocks.new.out c.run_blocks.new.press in
    let new = moment_of g.O.Sink g.P.Press c.write.new.self c.run_blocks.new.press in
    let H : List Step → Type 0 = λ steps. HasDone steps old mid in
    let done = subst H (no_block_steps (names_of c.args.names.now) (blocks_of run c.args.samples))
    c.in_ok-tally.ensures.ends.0 in
    let lines : c.as_slice.result.now
    ≡ tally_lines (tally_of (run c.args.samples) (run c.args.samples).begun) =
    c.as_slice.ensures.value ∙ c.in_ok-lines.ensures
    ∙ ap tally_lines (sym (some_is c.in_ok-tally.ensures.ends.1)) in
    let C : List ℕ → Type 0 = λ bytes. IsCut cut.WriteFault (Write bytes ∷ []) old new in
    run_cut _ cut.WriteFault _ old new c.from_residual-in_err-write.ensures.1
    (subst C lines (cut_then cut.WriteFault [] (Write c.as_slice.result.now ∷ []) old mid new done
    (write_cut _ _ _ _ _ _ _ c.in_err-write.ensures.part c.in_err-write.ensures.failed)))

pub returns-clause-ends : goal.returns-clause-ends
returns-clause-ends g c =
    let run = run_code c.args.code in
    let old = moment_of g.O.Sink g.P.Press c.args.out.now c.args.press.now in
    let mid = moment_of g.O.Sink g.P.Press c.run_blocks.new.out c.run_blocks.new.press in
    let new = moment_of g.O.Sink g.P.Press c.write.new.self c.run_blocks.new.press in
    let H : List Step → Type 0 = λ steps. HasDone steps old mid in
    let done = subst H (no_block_steps (names_of c.args.names.now) (blocks_of run c.args.samples))
    c.in_ok-tally.ensures.ends.0 in
    let lines : c.as_slice.result.now
    ≡ tally_lines (tally_of (run c.args.samples) (run c.args.samples).begun) =
    c.as_slice.ensures.value ∙ c.in_ok-lines.ensures
    ∙ ap tally_lines (sym (some_is c.in_ok-tally.ensures.ends.1)) in
    let D : List ℕ → Type 0 = λ bytes. HasDone (Write bytes ∷ []) old new in (
      subst D lines (has_done_then [] (Write c.as_slice.result.now ∷ []) old mid new done
          (write_done _ _ _ _ _ _ _ c.in_ok-write.ensures.whole c.in_ok-write.ensures.no_fault)),
      c.in_ok-tally.ensures.ends.1,
      c.in_ok-tally.ensures.ends.2,
    )
