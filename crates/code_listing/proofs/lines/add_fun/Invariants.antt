use Rattle.std.proofs.Common.{◌≡◌, ◌++◌, drop}
use Rattle.code_listing.specs.Kept.{Keeps}
use Rattle.code_listing.specs.Listing.{fun_line, step_lines}
use Rattle.code_listing.proofs.lines.add_fun.Given as goal

-- what is there, and the instructions that are left
abbrev pub invariant-loop-place : goal.invariant-loop-place
invariant-loop-place l = record {
  left : l.fn.into.items ++ (fun_line l.number l.fun ++ step_lines l.classes 0 l.fun.code)
      ≡ l.into.items ++ step_lines l.classes l.place (drop l.place l.fun.code);
  kept : Keeps l.fn.into.items l.into.items;
}
