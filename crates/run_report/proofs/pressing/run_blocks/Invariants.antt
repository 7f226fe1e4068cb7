use Rattle.std.proofs.Common.{◌≡◌}
use Rattle.std.specs.Prelude.{◌≢◌}
use Rattle.run_report.specs.declared.report.Report.TheVariants.{Text}
use Rattle.run_report.specs.Ends.{moment_of}
use Rattle.chuck_vm.specs.Wakes.{names_of}
use Rattle.run_report.proofs.RunWritten.{AtBlock}
use Rattle.run_report.proofs.pressing.run_blocks.Given as goal

abbrev pub invariant-loop-block : goal.invariant-loop-block
invariant-loop-block g l = record {
  at : AtBlock l.fn.code l.report (names_of l.names) l.fn.samples l.block l.vm.value
      (moment_of g.O.Sink g.P.Press l.fn.out l.fn.press) (moment_of g.O.Sink g.P.Press l.out l.press);
  same_open : g.P.Press.is_open l.press ≡ g.P.Press.is_open l.fn.press;
  untouched : l.report ≢ Text → l.press ≡ l.fn.press;
}
