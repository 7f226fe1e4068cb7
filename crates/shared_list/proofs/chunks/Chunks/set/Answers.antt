use Rattle.std.proofs.Common.{◌/◌, ◌%◌, ◌<◌, ◌≤◌, length, slice_set, ap, subst, sym, refl, ◌∙◌, arith}
use Rattle.std.proofs.lemmas.List.{set_past}
use Rattle.std.proofs.lemmas.Option.{slice_get_read}
use Rattle.shared_list.specs.declared.chunk.TheConstants.{CHUNK}
use Rattle.shared_list.specs.Chunks.{joined}
use Rattle.shared_list.proofs.Places.{enough, set_in}
use Rattle.shared_list.proofs.Changes.{on_ok, set_or_kept}
use Rattle.shared_list.proofs.chunks.Chunks.set.Goals as goal

pub invariant_of-self : goal.invariant_of-self
invariant_of-self g c =
    let cs = c.self.inside.chunks.items in
    let chunk = c.index_mut.result.now in
    let within : c.args.index / CHUNK < length cs = omega (arith, c.self.inside.chunks.ok.0) in
    let found = slice_get_read cs (length cs) (c.args.index / CHUNK) chunk refl within c.index_mut.ensures.value in
    set_or_kept c.set.result cs (c.args.index / CHUNK) (c.args.index % CHUNK) chunk c.set.new.self c.args.item c.self.invariant found c.set.ensures.set c.set.ensures.kept

pub returns-clause-set : goal.returns-clause-set
returns-clause-set g c =
    let cs = c.self.inside.chunks.items in
    let chunk = c.index_mut.result.now in
    let within : c.args.index / CHUNK < length cs = omega (arith, c.self.inside.chunks.ok.0) in
    let found = slice_get_read cs (length cs) (c.args.index / CHUNK) chunk refl within c.index_mut.ensures.value in
    on_ok c.set.result
    (λ is. ap (λ d. joined (slice_set cs (c.args.index / CHUNK) d)) is
    ∙ set_in cs (c.args.index / CHUNK) (c.args.index % CHUNK) c.args.index chunk c.args.item c.self.invariant found (omega arith) (omega arith)
    ∙ ap (λ xs. slice_set xs c.args.index c.args.item) c.self.view_is)
    c.set.ensures.set

pub returns-then-index-len-clause-set : goal.returns-then-index-len-clause-set
returns-then-index-len-clause-set g c =
    let cs = c.self.inside.chunks.items in
    let past : length (joined cs) ≤ c.args.index = omega (arith, enough cs c.self.invariant, c.self.inside.chunks.ok.0) in
    let past_self : length c.args.self.now ≤ c.args.index = subst (λ l. length l ≤ c.args.index) c.self.view_is past in
    sym (set_past c.args.self.now c.args.index c.args.item past_self)
