use Rattle.std.proofs.Common.{◌≡◌, length, take}
use Rattle.command_inputs.specs.Sense.{AllSay}
use Rattle.command_inputs.specs.Senses.{contents_of, said}
use Rattle.command_inputs.proofs.sources.trees.Given as goal

abbrev pub invariant-loop-place : goal.invariant-loop-place
invariant-loop-place l = record {
  say : AllSay (contents_of (take l.place l.files)) (said l.trees.items);
  count : length l.trees.items ≡ l.place;
}
