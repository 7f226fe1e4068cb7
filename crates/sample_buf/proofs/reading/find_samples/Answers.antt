use Rattle.std.proofs.Common.{sym}
use Rattle.sample_buf.proofs.Names.{is_named, is_other}
use Rattle.sample_buf.proofs.Readings.{ends, nothing_said, runs_past, says_none, samples_found, goes_on_other, goes_on_format}
use Rattle.sample_buf.proofs.reading.find_samples.Goals as goal
use Rattle.sample_buf.proofs.reading.find_samples.Goals.{then-eq-2+in-Some-read-2, else-eq-2}

pub returns-in_default-format-clause-fault : goal.returns-in_default-format-clause-fault
returns-in_default-format-clause-fault c =
    nothing_said c.args.file.now c.loop-head.rest.now c.in-Some-read.head.name.now c.in-Some-read.head.behind.now c.in-Some-read.head.size c.loop-head.format c.loop-head.invariant c.in-Some-read.ensures
    (is_named _ _ _ c.as_slice.ensures (sym c.if-eq.ensures)) c.in_default-format.is

pub returns-then-eq-clause-found : goal.returns-then-eq-clause-found
returns-then-eq-clause-found c =
    samples_found c.args.file.now c.loop-head.rest.now c.in-Some-read.head.name.now c.in-Some-read.head.behind.now c.split_at.result.0.now c.in-Some-read.head.size c.min.result c.loop-head.format c.in-Some-format.format
    c.loop-head.invariant c.in-Some-read.ensures (is_named _ _ _ c.as_slice.ensures (sym c.if-eq.ensures)) c.in-Some-format.is c.min.ensures c.split_at.ensures.front

pub returns-in_default-split_at_checked-clause-fault : goal.returns-in_default-split_at_checked-clause-fault
returns-in_default-split_at_checked-clause-fault c =
    runs_past c.args.file.now c.loop-head.rest.now c.in-Some-read.head.name.now c.in-Some-read.head.behind.now c.in-Some-read.head.size c.loop-head.format c.loop-head.invariant c.in-Some-read.ensures
    (is_other _ _ _ c.as_slice.ensures (sym c.if-eq.ensures)) c.in_default-split_at_checked.ensures.cases

pub returns-in_default-read-2-clause-fault : goal.returns-in_default-read-2-clause-fault
returns-in_default-read-2-clause-fault c =
    let parts = c.in-Some-split_at_checked.ensures.cases in
    says_none c.args.file.now c.loop-head.rest.now c.in-Some-read.head.name.now c.in-Some-read.head.behind.now c.in-Some-split_at_checked.body.now c.in-Some-split_at_checked.behind.now c.in-Some-read.head.size c.loop-head.format
    c.loop-head.invariant c.in-Some-read.ensures (is_named _ _ _ c.as_slice-in-Some-read.ensures (sym c.if-eq-2.ensures)) parts.0 parts.1 parts.2 c.in_default-read-2.ensures

pub loop-head-preserved : goal.loop-head-preserved
loop-head-preserved c =
    let parts = c.in-Some-split_at_checked.ensures.cases in
    elim c.if-eq-2.branch [
      | then-eq-2+in-Some-read-2 w ↦
          goes_on_format c.args.file.now c.loop-head.rest.now c.in-Some-read.head.name.now c.in-Some-read.head.behind.now c.in-Some-split_at_checked.body.now c.in-Some-split_at_checked.behind.now c.behind_padding-rest.result.now
          c.in-Some-read.head.size c.loop-head.format c.if-eq-2.format w.in-Some-read-2.said c.loop-head.invariant c.in-Some-read.ensures (is_named _ _ _ c.as_slice-in-Some-read.ensures (sym w.if-eq-2.ensures)) w.in-Some-read-2.ensures
          parts.0 parts.1 parts.2 c.behind_padding-rest.ensures w.format-is
      | else-eq-2 w ↦
          goes_on_other c.args.file.now c.loop-head.rest.now c.in-Some-read.head.name.now c.in-Some-read.head.behind.now c.in-Some-split_at_checked.body.now c.in-Some-split_at_checked.behind.now c.behind_padding-rest.result.now
          c.in-Some-read.head.size c.loop-head.format c.if-eq-2.format c.loop-head.invariant c.in-Some-read.ensures (is_other _ _ _ c.as_slice.ensures (sym c.if-eq.ensures)) (is_other _ _ _ c.as_slice-in-Some-read.ensures (sym w.if-eq-2.ensures))
          parts.0 parts.1 parts.2 c.behind_padding-rest.ensures w.format-is
    ]

pub returns-clause-fault : goal.returns-clause-fault
returns-clause-fault c = ends c.args.file.now c.loop-head.rest.now c.loop-head.format c.loop-head.invariant c.in_default-read.ensures
