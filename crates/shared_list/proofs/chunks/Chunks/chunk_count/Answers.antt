use Rattle.std.proofs.Common.{length, ap, arith}
use Rattle.shared_list.proofs.Places.{enough, no_more}
use Rattle.shared_list.proofs.chunks.Chunks.chunk_count.Goals as goal

pub returns-clause-enough : goal.returns-clause-enough
returns-clause-enough g c =
    let cs = c.self.inside.chunks.items in
    omega (arith, enough cs c.self.invariant, ap length c.self.view_is, c.self.inside.chunks.ok.0)

pub returns-clause-no_more : goal.returns-clause-no_more
returns-clause-no_more g c =
    let cs = c.self.inside.chunks.items in
    omega (arith, no_more cs c.self.invariant, ap length c.self.view_is, c.self.inside.chunks.ok.0)
