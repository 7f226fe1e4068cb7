use Rattle.std.proofs.Common.{◌%◌, ◌<◌, length, slice_get, ap, sym, refl, ◌∙◌, arith}
use Rattle.std.proofs.lemmas.Option.{slice_get_read}
use Rattle.shared_list.specs.declared.chunk.TheConstants.{CHUNK}
use Rattle.shared_list.specs.Chunks.{joined}
use Rattle.shared_list.proofs.Places.{in_chunks, is_at}
use Rattle.shared_list.proofs.chunks.Chunks.item.Goals as goal

pub index-chunk-requires : goal.index-chunk-requires
index-chunk-requires g c =
    let cs = c.self.inside.chunks.items in
    let here : c.args.index < length (joined cs) = omega (arith, ap length c.self.view_is, c.requires) in
    omega (arith, in_chunks cs c.args.index c.self.invariant here, c.self.inside.chunks.ok.0)

pub offset_bounds-items-index : goal.offset_bounds-items-index
offset_bounds-items-index g c =
    let cs = c.self.inside.chunks.items in
    let here : c.args.index < length (joined cs) = omega (arith, ap length c.self.view_is, c.requires) in
    let at = is_at cs c.args.index c.index-chunk.result.now c.self.invariant here c.index-chunk.ensures in
    omega (arith, at.within, ap length c.items.ensures)

pub bounds-items-index : goal.bounds-items-index
bounds-items-index g c =
    let cs = c.self.inside.chunks.items in
    let here : c.args.index < length (joined cs) = omega (arith, ap length c.self.view_is, c.requires) in
    let at = is_at cs c.args.index c.index-chunk.result.now c.self.invariant here c.index-chunk.ensures in
    omega (arith, at.within, ap length c.items.ensures)

pub returns : goal.returns
returns g c =
    let cs = c.self.inside.chunks.items in
    let here : c.args.index < length (joined cs) = omega (arith, ap length c.self.view_is, c.requires) in
    let at = is_at cs c.args.index c.index-chunk.result.now c.self.invariant here c.index-chunk.ensures in
    let items = c.items.result.now in
    let within : c.args.index % CHUNK < length items = omega (arith, at.within, ap length c.items.ensures) in
    ap (λ xs. slice_get xs c.args.index) (sym c.self.view_is)
    ∙ at.same
    ∙ ap (λ xs. slice_get xs (c.args.index % CHUNK)) (sym c.items.ensures)
    ∙ slice_get_read items (length items) (c.args.index % CHUNK) c.index-items-index.result refl within c.index-items-index.is
