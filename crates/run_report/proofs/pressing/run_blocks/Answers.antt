use Rattle.std.proofs.Common.{◌≡◌, ◌+◌, refl, ◌∙◌, subst, arith}
use Rattle.ck_meaning.specs.Replay.{run_code}
use Rattle.chuck_vm.specs.Tallies.{tally_of}
use Rattle.run_report.specs.Answer.{lines_steps}
use Rattle.run_report.specs.Blocks.{block_start}
use Rattle.run_report.specs.Ends.{moment_of, HasDone, IsCut}
use Rattle.chuck_vm.specs.Wakes.{names_of}
use Rattle.run_report.proofs.RunWritten.{at_start, after_block, block_cut, at_end, end_numbers, end_status, below_count, past_count}
use Rattle.run_report.proofs.Steps.{run_cut}
use Rattle.run_report.proofs.pressing.run_blocks.Goals as goal

pub loop-block-init : goal.loop-block-init
loop-block-init g c = record {
  at = at_start c.args.code c.args.report (names_of c.args.names.now) c.args.samples c.in_ok-vm.vm.value
      (moment_of g.O.Sink g.P.Press c.args.out.now c.args.press.now) c.in_ok-vm.ensures;
  same_open = refl;
  untouched = λ wakes. refl;
}

pub returns-in_err-write_block-clause-ends : goal.returns-in_err-write_block-clause-ends
returns-in_err-write_block-clause-ends g c =
    let report = c.args.report in
    let names = names_of c.args.names.now in
    let samples = c.args.samples in
    let block = c.loop-block.block in
    let made = c.in_ok-next.made in
    let more = below_count _ _ _ _ c.div_ceil-block-end.ensures refl c.loop-block-test.true in
    let is_count : block_start samples block + c.min-count.result ≡ block_start samples (block + 1) =
    omega (arith, c.min-count.ensures, more) in
    let old = moment_of g.O.Sink g.P.Press c.args.out.now c.args.press.now in
    let mid = moment_of g.O.Sink g.P.Press c.loop-block.out c.loop-block.press in
    let new = moment_of g.O.Sink g.P.Press c.write_block.new.out c.write_block.new.press in
    let cut = c.in_err-write_block.field-0.0 in
    let short : IsCut cut (lines_steps report made.lines.items made.samples.items) mid new =
    subst (λ made. IsCut cut (lines_steps report c.in_ok-next.made.lines.items made) mid new)
    c.as_slice-samples.ensures.value
    (subst (λ lines. IsCut cut (lines_steps report lines c.as_slice-samples.result.now) mid new)
    c.as_slice-lines.ensures.value c.in_err-write_block.ensures.ends) in
    run_cut _ cut _ old new c.from_residual-in_err-write_block.ensures.1
    (block_cut c.args.code report names samples block c.min-count.result c.loop-block.vm.value old mid
    c.loop-block.invariant.at more is_count made
    c.in_ok-next.ensures.block cut new short)

pub loop-block-preserved : goal.loop-block-preserved
loop-block-preserved g c =
    let code = c.args.code in
    let report = c.args.report in
    let names = names_of c.args.names.now in
    let samples = c.args.samples in
    let block = c.loop-block.block in
    let made = c.in_ok-next.made in
    let more = below_count _ _ _ _ c.div_ceil-block-end.ensures refl c.loop-block-test.true in
    let is_count : block_start samples block + c.min-count.result ≡ block_start samples (block + 1) =
    omega (arith, c.min-count.ensures, more) in
    let old = moment_of g.O.Sink g.P.Press c.args.out.now c.args.press.now in
    let mid = moment_of g.O.Sink g.P.Press c.loop-block.out c.loop-block.press in
    let new = moment_of g.O.Sink g.P.Press c.write_block.new.out c.write_block.new.press in
    let done : HasDone (lines_steps report made.lines.items made.samples.items) mid new =
    subst (λ made. HasDone (lines_steps report c.in_ok-next.made.lines.items made) mid new)
    c.as_slice-samples.ensures.value
    (subst (λ lines. HasDone (lines_steps report lines c.as_slice-samples.result.now) mid new)
    c.as_slice-lines.ensures.value c.in_ok-write_block.ensures.ends) in
    record {
      at = after_block code report names samples block c.min-count.result c.loop-block.vm.value old mid
          c.loop-block.invariant.at more is_count made c.in_ok-next.ensures.block c.in_ok-next.next.value
          new c.in_ok-next.ensures.vm done;
      same_open = c.in_ok-write_block.ensures.same_open ∙ c.loop-block.invariant.same_open;
      untouched = λ wakes.
          c.in_ok-write_block.ensures.untouched wakes ∙ c.loop-block.invariant.untouched wakes;
    }

pub returns-clause-ends : goal.returns-clause-ends
returns-clause-ends g c =
    let code = c.args.code in
    let names = names_of c.args.names.now in
    let old = moment_of g.O.Sink g.P.Press c.args.out.now c.args.press.now in
    let new = moment_of g.O.Sink g.P.Press c.loop-block.out c.loop-block.press in
    let past = past_count _ _ _ _ c.div_ceil-block-end.ensures refl c.loop-block-test.false in
    let tally = subst (λ vm. c.tally.result ≡ (let run = run_code vm.code vm.samples in tally_of run run.begun))
    c.deref.ensures c.tally.ensures in
    let at = c.loop-block.invariant.at in (
      at_end code c.args.report names c.args.samples c.loop-block.block c.loop-block.vm.value old new at
          past,
      end_numbers code c.args.report names c.args.samples c.loop-block.block c.loop-block.vm.value old
          new c.tally.result at past tally,
      end_status code c.args.report names c.args.samples c.loop-block.block c.loop-block.vm.value old
          new c.tally.result at past tally,
    )
