use Rattle.std.proofs.Common.{refl}
use Rattle.std.proofs.lemmas.Result.{on_err_weaker}
use Rattle.ck_edges.proofs.Untold.{on_ok, on_err, risen_on_err, writes_untold}
use Rattle.ck_edges.proofs.disk_press.DiskPressPress.TheImpl.Goals as goal

-- the disk tells no sheets, so only the open one and the count are left to show
pub begin-tells : goal.begin-tells
begin-tells g c =
    record {
      begun = on_ok _ c.result refl;
      «open» = c.ensures.«open»;
      none = on_err_weaker c.result (λ closed. (refl, closed)) c.ensures.none;
      failed = risen_on_err c.result _ _ c.ensures.fault;
      no_fault = c.ensures.no_fault;
      count = c.ensures.count;
    }

pub write-tells : goal.write-tells
write-tells g c =
    record {
      whole = on_ok _ c.result refl;
      part = on_err _ c.result (writes_untold _);
      «open» = c.ensures.«open»;
      failed = risen_on_err c.result _ _ c.ensures.fault;
      no_fault = c.ensures.no_fault;
      count = c.ensures.count;
    }

pub end-tells : goal.end-tells
end-tells g c =
    record {
      ended = on_ok _ c.result refl;
      closed = c.ensures.closed;
      none = on_err_weaker c.result (λ unended. (refl, unended)) c.ensures.none;
      failed = risen_on_err c.result _ _ c.ensures.fault;
      no_fault = c.ensures.no_fault;
      count = c.ensures.count;
    }
