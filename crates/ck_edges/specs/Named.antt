-- Files kept in a list of names with bytes.
use Rattle.std.specs.Prelude.{ℕ, List, [], ◌∷◌, Option, Some, None}
use Rattle.std.specs.Prelude.{Vec, String, if◌then◌else◌}
use Rattle.std.specs.Str.{bytes_eq}
use Rattle.std.specs.String.{string_bytes}
use Rattle.std.specs.declared.alloc.Global.{Global}

-- names with bytes
abbrev pub NamedFiles : Type 0
NamedFiles = List (String Global × Vec ℕ Global)

-- the bytes of the first file of this name
abbrev pub file_named : NamedFiles → List ℕ → Option (List ℕ)
file_named [] name = None
file_named (file ∷ files) name =
    if bytes_eq (string_bytes file.0) name then Some file.1.items else file_named files name
