use Rattle.std.proofs.Common.{take, drop, sym, ap, Some, length}
use Rattle.std.proofs.lemmas.Result.{on_ok_weaker}
use Rattle.std.proofs.lemmas.List.{take-append-drop}
use Rattle.ck_edges.specs.MemPress.{next_taken}
use Rattle.ck_edges.proofs.Untold.{on_err, risen_on_err}
use Rattle.ck_edges.proofs.memory_press.MemPressPress.TheImpl.Goals as goal

-- what was taken is a front of the bytes, also where the call failed
pub write-tells : goal.write-tells
write-tells c =
    let bytes = c.args.bytes.now in
    let count = next_taken c.args.self.now (length bytes) in
    record {
      whole = on_ok_weaker c.result (λ whole. ap Some whole) c.ensures.whole;
      part = on_err _ c.result (
        take count bytes,
        drop count bytes,
        sym (take-append-drop count bytes),
        ap Some c.ensures.front,
      );
      «open» = c.ensures.«open»;
      failed = risen_on_err c.result _ _ c.ensures.fault;
      no_fault = c.ensures.no_fault;
      count = c.ensures.count;
    }
