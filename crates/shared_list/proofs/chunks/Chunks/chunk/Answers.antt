use Rattle.std.proofs.Common.{◌*◌, ◌<◌, length, take, drop, ap, sym, refl, ◌∙◌, arith}
use Rattle.std.proofs.lemmas.Option.{slice_get_read}
use Rattle.shared_list.specs.declared.chunk.TheConstants.{CHUNK}
use Rattle.shared_list.proofs.Places.{enough, items_of}
use Rattle.shared_list.proofs.chunks.Chunks.chunk.Goals as goal

pub index-requires : goal.index-requires
index-requires g c =
    let cs = c.self.inside.chunks.items in
    omega (arith, enough cs c.self.invariant, ap length c.self.view_is, c.requires, c.self.inside.chunks.ok.0)

pub returns : goal.returns
returns g c =
    let cs = c.self.inside.chunks.items in
    let within : c.args.number < length cs = omega (arith, enough cs c.self.invariant, ap length c.self.view_is, c.requires) in
    let found = slice_get_read cs (length cs) c.args.number c.index.result.now refl within c.index.ensures in
    c.items.ensures
    ∙ sym (items_of cs c.args.number c.index.result.now c.self.invariant found)
    ∙ ap (λ xs. take CHUNK (drop (CHUNK * c.args.number) xs)) c.self.view_is
