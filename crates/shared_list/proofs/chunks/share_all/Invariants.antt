use Rattle.std.proofs.Common.{◌≡◌, take}
use Rattle.shared_list.proofs.chunks.share_all.Given as goal

abbrev pub invariant-loop-chunk : goal.invariant-loop-chunk
invariant-loop-chunk g l = l.copies.items ≡ take l.chunk-index l.chunks
