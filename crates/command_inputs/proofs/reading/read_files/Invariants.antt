use Rattle.std.proofs.Common.{◌≡◌, ◌≤◌, All, ℕ, List, drop, length, map, IfSome}
use Rattle.ck_base.specs.declared.limits.TheConstants.{MAX_FILE_BYTES}
use Rattle.command_inputs.specs.Words.{words_of}
use Rattle.command_inputs.proofs.Found.{Read}
use Rattle.command_inputs.proofs.reading.read_files.Given as goal

abbrev pub invariant-loop-place : goal.invariant-loop-place
invariant-loop-place g l = record {
  same_files : g.S.Shelf.files l.shelf ≡ g.S.Shelf.files l.fn.shelf;
  short : All (λ file. length file.items ≤ MAX_FILE_BYTES) l.files.items;
  count : length l.files.items ≡ l.place;
  counts : (name : List ℕ)
      → g.S.Shelf.read_faults l.fn.shelf name ≤ g.S.Shelf.read_faults l.shelf name;
  read : IfSome (g.S.Shelf.files l.fn.shelf)
      (λ told. Read told (words_of l.names) (words_of (drop l.place l.names))
      (map (λ file. file.items) l.files.items));
}
