use Rattle.ck_values.specs.Datum.{Datum, meant, AnInt, ARef}
use Rattle.machine_world.specs.Worlds.{store_of}
use Rattle.machine_world.proofs.Indexed.{fill_array, fill_nowhere, fill_indexed}
use Rattle.machine_world.proofs.Stores.{of_heap, array_there}
use Rattle.ck_store.specs.Store.{Gives, Fails}
use Rattle.ck_store.specs.Arrays.{filled}
use Rattle.std.proofs.Common.{rules, ◌≡◌, ◌+◌, ◌%◌, ◌^◌, pos, ◌+ℤ◌, ap, sym, subst, ◌∙◌, w64, to_z, of_z, FitsSigned, arith}
use Rattle.std.proofs.lemmas.Int.{to_z-of_z}
use Rattle.ck_store.specs.Operators.{wrapped}
use Rattle.value_ops.specs.Heaps.{with_heap}
use Rattle.value_ops.proofs.Wraps.{wrapped_sum}
use Rattle.machine_world.proofs.Stands.{of_some, to_each, does_so}
use Rattle.machine_world.proofs.world.World.fill.Goals as goal

pub returns-then-at-eq0-clause-null : goal.returns-then-at-eq0-clause-null
returns-then-at-eq0-clause-null c =
    to_each _ _
    (fill_nowhere (store_of c.args.self.now) c.args.at.serial (meant c.args.index.now) (meant c.args.v) c.if-at-eq0.true)

pub int-index-requires : goal.int-index-requires
int-index-requires c =
    fill_indexed (store_of c.args.self.now) c.args.at.serial (meant c.args.index.now) (meant c.args.v) c.if-at-eq0.false (of_some _ _ c.requires)

pub fill-requires-clause-array : goal.fill-requires-clause-array
fill-requires-clause-array c =
    array_there _ _ c.args.at.serial c.self.view_is
    (fill_array (store_of c.args.self.now) (ARef c.args.at.serial) (meant c.args.index.now) (meant c.args.v) (of_some _ _ c.requires))

pub returns-in-Ok-clause-filled : goal.returns-in-Ok-clause-filled
returns-in-Ok-clause-filled c =
    does_so _ _ _ _
    (let n = c.int-index.result in
    let fits : FitsSigned w64 n = search rules in
    let same = to_z-of_z w64 n fits in
    let index = ap AnInt same ∙ sym c.int-index.ensures in
    let next : wrapped (to_z w64 (of_z w64 n) +ℤ pos 1) ≡ to_z w64 ((of_z w64 n + 1) % 2 ^ 64) =
    ap (λ z. wrapped (z +ℤ pos 1)) same
    ∙ sym (wrapped_sum n (pos 1) fits (record { sfits = omega arith })) in
    of_heap
    (λ before after. filled before (ARef c.args.at.serial) (meant c.args.index.now) (meant c.args.v)
    ≡ Gives (record { next = AnInt (to_z w64 ((of_z w64 n + 1) % 2 ^ 64)); store = after }))
    _ _ c.fill.new.heap c.self.view_is
    (λ store. subst (λ (i : Datum). filled (with_heap store c.self.inside.heap) (ARef c.args.at.serial) i (meant c.args.v)
    ≡ Gives (record {
      next = AnInt (to_z w64 ((of_z w64 n + 1) % 2 ^ 64));
      store = with_heap store c.fill.new.heap;
    })) index
    (c.in-Ok.ensures.filled store
    ∙ ap (λ z. Gives (record { next = AnInt z; store = with_heap store c.fill.new.heap })) next)))

pub returns-clause-null : goal.returns-clause-null
returns-clause-null c =
    to_each _ _
    (let fits : FitsSigned w64 c.int-index.result = search rules in
    let index = ap AnInt (to_z-of_z w64 c.int-index.result fits) ∙ sym c.int-index.ensures in
    of_heap
    (λ before after. filled before (ARef c.args.at.serial) (meant c.args.index.now) (meant c.args.v) ≡ Fails c.in-Err.trap)
    _ _ c.fill.new.heap c.self.view_is
    (λ store. subst (λ (i : Datum).
    filled (with_heap store c.self.inside.heap) (ARef c.args.at.serial) i (meant c.args.v) ≡ Fails c.in-Err.trap)
    index (c.in-Err.ensures.trap store).0))
