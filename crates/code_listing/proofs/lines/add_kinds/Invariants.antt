use Rattle.std.proofs.Common.{◌≡◌, ◌++◌, map, drop}
use Rattle.ck_store.specs.Prints.{kind_name}
use Rattle.code_listing.specs.Kept.{Keeps}
use Rattle.code_listing.specs.Listing.{spaced}
use Rattle.code_listing.proofs.lines.add_kinds.Given as goal

-- what is there, and the kinds that are left
abbrev pub invariant-loop-kind : goal.invariant-loop-kind
invariant-loop-kind l = record {
  left : l.fn.into.items ++ spaced (map (kind_name l.classes) l.kinds)
      ≡ l.into.items ++ spaced (map (kind_name l.classes) (drop l.kind-index l.kinds));
  kept : Keeps l.fn.into.items l.into.items;
}
