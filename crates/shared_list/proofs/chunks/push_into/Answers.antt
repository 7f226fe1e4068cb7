use Rattle.std.proofs.Common.{◌≡◌, ◌+◌, ◌*◌, ◌-◌, ◌<◌, ◌≤◌, [], ◌∷◌, ◌++◌, length, slice_set, ap, subst, sym, refl, ◌∙◌, arith}
use Rattle.std.proofs.lemmas.Option.{slice_get_read}
use Rattle.shared_list.specs.declared.chunk.TheConstants.{CHUNK}
use Rattle.shared_list.specs.Chunks.{joined, AreChunks}
use Rattle.shared_list.proofs.Places.{takes_more, no_more, begun_is, begun_are}
use Rattle.shared_list.proofs.Changes.{on_ok, pushed_or_kept}
use Rattle.shared_list.proofs.chunks.push_into.Goals as goal

pub push-requires : goal.push-requires
push-requires g c =
    let cs = c.args.chunks.now.items in
    let last = c.in-Some.last in
    let chunk = c.index_mut.result.now in
    let same = ap length c.deref.ensures.value in
    let long : length cs ≡ last + 1 = omega (arith, same, c.in-Some.ensures.last) in
    let room : length (joined cs) < CHUNK * length cs = subst (λ l. length (joined l) < CHUNK * length l) c.deref.ensures.value c.in-Some.ensures.room in
    let r = length (joined cs) - CHUNK * last in
    let many : length (joined cs) ≡ CHUNK * last + r = omega (arith, long, no_more cs c.requires.chunks) in
    let found = slice_get_read cs (length cs) last chunk refl (omega (arith, long)) c.index_mut.ensures.value in
    let more = takes_more cs last r chunk c.args.item c.requires.chunks many (omega (arith, long, room)) found in
    record { room = omega (arith, more.room, long, room) }

pub returns-in-Some-clause-chunks : goal.returns-in-Some-clause-chunks
returns-in-Some-clause-chunks g c =
    let cs = c.args.chunks.now.items in
    let last = c.in-Some.last in
    let chunk = c.index_mut.result.now in
    let same = ap length c.deref.ensures.value in
    let long : length cs ≡ last + 1 = omega (arith, same, c.in-Some.ensures.last) in
    let room : length (joined cs) < CHUNK * length cs = subst (λ l. length (joined l) < CHUNK * length l) c.deref.ensures.value c.in-Some.ensures.room in
    let r = length (joined cs) - CHUNK * last in
    let many : length (joined cs) ≡ CHUNK * last + r = omega (arith, long, no_more cs c.requires.chunks) in
    let found = slice_get_read cs (length cs) last chunk refl (omega (arith, long)) c.index_mut.ensures.value in
    let more = takes_more cs last r chunk c.args.item c.requires.chunks many (omega (arith, long, room)) found in
    pushed_or_kept c.push.result cs last r chunk c.push.new.self c.args.item c.requires.chunks found more c.push.ensures.pushed c.push.ensures.kept

pub returns-in-Some-clause-pushed : goal.returns-in-Some-clause-pushed
returns-in-Some-clause-pushed g c =
    let cs = c.args.chunks.now.items in
    let last = c.in-Some.last in
    let chunk = c.index_mut.result.now in
    let same = ap length c.deref.ensures.value in
    let long : length cs ≡ last + 1 = omega (arith, same, c.in-Some.ensures.last) in
    let room : length (joined cs) < CHUNK * length cs = subst (λ l. length (joined l) < CHUNK * length l) c.deref.ensures.value c.in-Some.ensures.room in
    let r = length (joined cs) - CHUNK * last in
    let many : length (joined cs) ≡ CHUNK * last + r = omega (arith, long, no_more cs c.requires.chunks) in
    let found = slice_get_read cs (length cs) last chunk refl (omega (arith, long)) c.index_mut.ensures.value in
    let more = takes_more cs last r chunk c.args.item c.requires.chunks many (omega (arith, long, room)) found in
    on_ok c.push.result (λ is. ap (λ d. joined (slice_set cs last d)) is ∙ more.is) c.push.ensures.pushed

pub returns-clause-chunks : goal.returns-clause-chunks
returns-clause-chunks g c =
    let cs = c.args.chunks.now.items in
    let full : CHUNK * length cs ≤ length (joined cs) = subst (λ l. CHUNK * length l ≤ length (joined l)) c.deref.ensures.value c.in_default.ensures.full in
    subst AreChunks (sym (c.in_ok-push.ensures.items ∙ ap (λ d. cs ++ d ∷ []) c.in_ok-one.ensures))
    (begun_are cs c.args.item c.requires.chunks full)

pub returns-clause-pushed : goal.returns-clause-pushed
returns-clause-pushed g c =
    let cs = c.args.chunks.now.items in
    ap joined (c.in_ok-push.ensures.items ∙ ap (λ d. cs ++ d ∷ []) c.in_ok-one.ensures) ∙ begun_is cs c.args.item
