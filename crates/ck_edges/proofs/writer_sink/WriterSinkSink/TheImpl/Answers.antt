use Rattle.std.proofs.Common.{refl}
use Rattle.ck_edges.proofs.Untold.{on_ok, on_err, risen_on_err, appends_untold}
use Rattle.ck_edges.proofs.writer_sink.WriterSinkSink.TheImpl.Goals as goal

-- what the other end got isn't told, so only the count is left to show
pub write-tells : goal.write-tells
write-tells g c =
    record {
      whole = on_ok _ c.result refl;
      part = on_err _ c.result (appends_untold _);
      failed = risen_on_err c.result _ _ c.ensures.fault;
      no_fault = c.ensures.no_fault;
      count = c.ensures.count;
    }
