use Rattle.std.proofs.Common.{arith}
use Rattle.sample_buf.proofs.Heads.{head_found}
use Rattle.sample_buf.proofs.chunk.Head.read.Goals as goal

pub returns : goal.returns
returns c =
    let a = c.in_ok-name.ensures.cases in
    let b = c.in_ok-size.ensures.cases in
    head_found c.args.bytes.now c.in_ok-name.name.now c.in_ok-name.rest.now c.in_ok-size.size.now c.in_ok-size.behind.now c.read_u32.result
    (λ i. omega (arith, c.type_inv.bytes i)) a.1 a.2 a.3 b.1 b.2 b.3 c.read_u32.ensures c.read_u32.type_inv
