use Rattle.std.proofs.Common.{◌≡◌, drop}
use Rattle.ck_edges.specs.Named.{file_named}
use Rattle.ck_edges.proofs.memory_shelf.find.Given as goal

abbrev pub invariant-loop-own : goal.invariant-loop-own
invariant-loop-own l = file_named (drop l.own-index l.files) l.name ≡ file_named l.files l.name
