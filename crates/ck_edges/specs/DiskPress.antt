use Rattle.std.specs.Prelude.{ℕ, Bool, is_some, List, Option, Some, None}
use Rattle.std.specs.Io.KnownBytes.{Appends}
use Rattle.ck_edges.specs.declared.disk_press.DiskPress.{DiskPress}

-- whether a sheet stands unended
abbrev pub has_sheet : {R A B : Type 0} → DiskPress R A B → Bool
has_sheet press = is_some press.sheet

-- how many calls failed
abbrev pub press_failures : {R A B : Type 0} → DiskPress R A B → ℕ
press_failures press = press.faults

-- the file of the open sheet took these bytes, as far as it tells what it holds
abbrev pub HasTaken : {F : Type 0} → (F → Option (List ℕ)) → Option F → Option F → List ℕ → Type 0
HasTaken contents (Some old) (Some new) bytes = Appends (contents old) (contents new) bytes
HasTaken contents (Some old) None bytes = ⊥
HasTaken contents None new bytes = ⊥
