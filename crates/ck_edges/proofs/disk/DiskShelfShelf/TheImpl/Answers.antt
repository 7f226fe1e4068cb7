use Rattle.std.proofs.Common.{refl}
use Rattle.std.specs.Bool.{⊤}
use Rattle.ck_edges.proofs.Untold.{on_ok, risen}
use Rattle.ck_edges.proofs.disk.DiskShelfShelf.TheImpl.Goals as goal

-- the disk tells no files, so only the counts are left to show
pub read-tells : goal.read-tells
read-tells g c =
    record {
      same_files = refl;
      given = on_ok ⊤ c.result tt;
      within = c.ensures.within;
      absent = λ none. absurd none;
      failed = λ failed. risen _ _ (c.ensures.fault failed);
      no_fault = λ unfailed. c.ensures.no_fault unfailed;
      long = λ long. tt;
      counts = λ other. c.ensures.count;
    }
