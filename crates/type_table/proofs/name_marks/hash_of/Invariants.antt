use Rattle.std.proofs.Common.{◌≡◌, drop}
use Rattle.type_table.specs.NameMarks.{hash_of, hashed}
use Rattle.type_table.proofs.name_marks.hash_of.Given as goal

abbrev pub invariant-loop-byte : goal.invariant-loop-byte
invariant-loop-byte l = hash_of l.name ≡ hashed l.hash (drop l.byte-index l.name)
