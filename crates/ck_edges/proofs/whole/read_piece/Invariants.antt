use Rattle.std.specs.Io.KnownBytes.{Keeps}
use Rattle.ck_edges.proofs.whole.read_piece.Given as goal

-- a read that was interrupted took nothing
abbrev pub invariant-loop : goal.invariant-loop
invariant-loop g l = Keeps (g.R.Read.remaining l.initial.reader) (g.R.Read.remaining l.reader)
