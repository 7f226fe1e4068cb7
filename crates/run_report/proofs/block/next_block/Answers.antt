use Rattle.std.proofs.Common.{◌≡◌, ◌++◌, ℕ, Vec, sym, ap, ◌∙◌, subst}
use Rattle.std.specs.declared.alloc.Global.{Global}
use Rattle.ck_run.specs.Report.{wake_lines, text_bytes, sheet_samples}
use Rattle.chuck_vm.specs.Vm.{block_of}
use Rattle.chuck_vm.specs.Wakes.{wakes_meant}
use Rattle.run_report.specs.declared.block.Block.{Block}
use Rattle.run_report.specs.declared.report.Report.{Report}
use Rattle.run_report.specs.Blocks.{IsReported, block_report}
use Rattle.chuck_vm.specs.Wakes.{names_of}
use Rattle.run_report.proofs.block.next_block.Goals.{in-Wakes+in_ok-lines-in-Wakes, in-Text, in-Numbers}
use Rattle.run_report.proofs.block.next_block.Goals as goal

pub returns-clause-block : goal.returns-clause-block
returns-clause-block c =
    let names = names_of c.args.names.now in
    let vm = c.into_inner.result in
    let block = block_of vm.code vm.samples c.args.count in
    let adds = c.in_ok-next.ensures.adds in
    let wakes : wakes_meant c.render.new.wakes.items ≡ block.wakes =
    adds.wakes_are ∙ ap (λ old. wakes_meant old ++ block.wakes) c.new-wakes.ensures.items in
    let made : Block = record { samples = c.render.new.samples; lines = c.match-report.lines } in
    let P : Report → Type 0 = λ report.
    c.match-report.lines.items ≡ block_report report names block in
    subst (λ it. IsReported c.args.report names (block_of it.code it.samples c.args.count) made)
    c.into_inner.ensures
    (record {
      samples = adds.samples_are ∙ ap (λ old. old ++ sheet_samples block.samples) c.new-samples.ensures.items;
      lines = elim c.match-report.branch [
        | in-Wakes+in_ok-lines-in-Wakes w ↦ subst P (sym w.in-Wakes.is)
            (ap (λ (v : Vec ℕ Global). v.items) w.lines-is ∙ w.in_ok-lines-in-Wakes.ensures
            ∙ ap (λ some. wake_lines names (wakes_meant some)) w.as_slice.ensures.value
            ∙ ap (wake_lines names) wakes)
        | in-Text w ↦ subst P (sym w.in-Text.is)
            (ap (λ (v : Vec ℕ Global). v.items) w.lines-is ∙ adds.text_is
            ∙ ap (λ old. old ++ text_bytes vm.names block.text) c.new-text.ensures.items
            ∙ ap (λ of. text_bytes of block.text)
            (ap (λ it. it.names) c.into_inner.ensures ∙ c.requires.names))
        | in-Numbers w ↦ subst P (sym w.in-Numbers.is)
            (ap (λ (v : Vec ℕ Global). v.items) w.lines-is ∙ w.new-lines.ensures.items)
      ];
    })
