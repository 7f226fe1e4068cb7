use Rattle.std.proofs.Common.{◌≡◌, ◌+◌, length, ap, refl, arith}
use Rattle.std.proofs.lemmas.Option.{slice_get_read}
use Rattle.shared_list.proofs.Places.{last_is, at_most_full}
use Rattle.shared_list.proofs.chunks.last_with_room.Goals as goal

pub returns-then-items-eq-CHUNK-clause-full : goal.returns-then-items-eq-CHUNK-clause-full
returns-then-items-eq-CHUNK-clause-full g c =
    let cs = c.args.chunks.now in
    let last = c.in_ok-last.last in
    let chunk = c.index-chunks-last.result in
    let long : length cs ≡ last + 1 = omega (arith, c.in_ok-last.ensures.0, c.in_ok-last.ensures.1) in
    let found = slice_get_read cs (length cs) last chunk refl (omega (arith, long)) c.index-chunks-last.is in
    omega (arith, long, last_is cs last chunk c.requires.chunks found long, ap length c.items.ensures, c.if-items-eq-CHUNK.true)

pub returns-clause-room : goal.returns-clause-room
returns-clause-room g c =
    let cs = c.args.chunks.now in
    let last = c.in_ok-last.last in
    let chunk = c.index-chunks-last.result in
    let long : length cs ≡ last + 1 = omega (arith, c.in_ok-last.ensures.0, c.in_ok-last.ensures.1) in
    let found = slice_get_read cs (length cs) last chunk refl (omega (arith, long)) c.index-chunks-last.is in
    let most = at_most_full cs last chunk c.requires.chunks found in
    omega (arith, long, most, last_is cs last chunk c.requires.chunks found long, ap length c.items.ensures, c.if-items-eq-CHUNK.false)
