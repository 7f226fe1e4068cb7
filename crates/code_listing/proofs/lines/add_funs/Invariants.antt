use Rattle.std.proofs.Common.{◌≡◌, ◌++◌, drop}
use Rattle.code_listing.specs.Kept.{Keeps}
use Rattle.code_listing.specs.Listing.{fun_lines}
use Rattle.code_listing.proofs.lines.add_funs.Given as goal

-- what is there, and the functions that are left
abbrev pub invariant-loop-number : goal.invariant-loop-number
invariant-loop-number l = record {
  left : l.fn.into.items ++ fun_lines l.classes 0 l.funs
      ≡ l.into.items ++ fun_lines l.classes l.number (drop l.number l.funs);
  kept : Keeps l.fn.into.items l.into.items;
}
