use Rattle.std.proofs.Common.{◌++◌, ◌*◌, ◌<◌, length, take, drop, ap, sym, ◌∙◌, arith}
use Rattle.shared_list.specs.declared.chunk.TheConstants.{CHUNK}
use Rattle.shared_list.proofs.Places.{first_chunk, later_chunk}
use Rattle.shared_list.proofs.list.SharedList.chunk.Goals as goal

pub returns-then-number-eq0 : goal.returns-then-number-eq0
returns-then-number-eq0 g c =
    let first = c.self.inside.first.items in
    c.as_slice.ensures.value
    ∙ sym (first_chunk first c.self.inside.rest c.self.invariant.0 c.self.invariant.1)
    ∙ ap (λ n. take CHUNK (drop (CHUNK * n) (first ++ c.self.inside.rest))) (sym c.if-number-eq0.true)
    ∙ ap (λ xs. take CHUNK (drop (CHUNK * c.args.number) xs)) c.self.view_is

pub returns : goal.returns
returns g c =
    let first = c.self.inside.first.items in
    let rest = c.self.inside.rest in
    let within : CHUNK * c.args.number < length (first ++ rest) = omega (arith, ap length c.self.view_is, c.requires) in
    let some : 0 < c.args.number = omega arith in
    c.chunk.ensures
    ∙ later_chunk first rest c.args.number c.self.invariant.0 c.self.invariant.1 some within
    ∙ ap (λ xs. take CHUNK (drop (CHUNK * c.args.number) xs)) c.self.view_is
