use Rattle.std.specs.Prelude.{ℕ}
use Rattle.ck_edges.specs.declared.disk.DiskShelf.{DiskShelf}

-- how many reads failed
abbrev pub disk_faults : {R A B : Type 0} → DiskShelf R A B → ℕ
disk_faults shelf = shelf.faults
