use Rattle.std.proofs.Common.{take, drop, sym, arith}
use Rattle.std.proofs.lemmas.Grind.{common_steps}
use Rattle.std.proofs.lemmas.List.{take-append-drop}
use Rattle.ck_edges.proofs.memory_sink.MemSinkSink.write.Goals as goal

-- what was taken is a front of the bytes
pub returns-then-is_some-clause-part : goal.returns-then-is_some-clause-part
returns-then-is_some-clause-part c =
    let taken = c.count_taken-taken.result in
    let bytes = c.args.bytes.now in (
      take taken bytes,
      drop taken bytes,
      sym (take-append-drop taken bytes),
      grind (arith, common_steps),
    )
