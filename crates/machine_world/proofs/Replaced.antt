-- An object with one field replaced, from what its body stands for.
use Rattle.std.proofs.Common.{◌≡◌, ℕ, ℤ, suc, ◌-◌, List, map, Some, slice_get, slice_set, refl, ap, sym, ◌∙◌, arith}
use Rattle.std.proofs.lemmas.List.{map-set}
use Rattle.ck_values.specs.declared.reference.Ref.{Ref}
use Rattle.ck_values.specs.declared.value.Value.{Value}
use Rattle.ck_values.specs.Datum.{Datum, ARef, meant, all_meant}
use Rattle.ck_store.specs.Store.{Instance as AnInstance, Gives}
use Rattle.ck_store.specs.Objects.{Inside, with_object, with_field}
use Rattle.object_heap.specs.declared.body.Body.{Body}
use Rattle.object_heap.specs.declared.body.Body.TheVariants.{Instance}
use Rattle.object_heap.specs.Objects.{Objects}
use Rattle.value_ops.specs.Heaps.{shown_body}
use Rattle.ugen_graph.specs.Wiring.{Network}
use Rattle.rand_pcg.specs.Lcg.{Lcg}
use Rattle.machine_world.specs.Worlds.{plain_store}
use Rattle.machine_world.proofs.Held.{Taken, is_referred}
use Rattle.machine_world.proofs.Numbered.{get_meant, set_meant}
use Rattle.machine_world.proofs.Parts.{set_is}

-- another object in its place
placed : (now : ℤ) (bodies : List Body) (statics : List Datum) (graph : Network) (words : Lcg) (sporks next : ℕ) (s n : ℕ) (b : Body)
    → s ≡ suc n
    → with_object (plain_store now bodies statics graph words sporks next) (ARef s) (shown_body b)
    ≡ plain_store now (slice_set bodies n b) statics graph words sporks next
placed now bodies statics graph words sporks next s n b is =
    let store = plain_store now bodies statics graph words sporks next in
    ap (λ m. with_object store (ARef m) (shown_body b)) is
    ∙ ap (λ os. record store { objects = os }) (sym (map-set shown_body bodies n b))

pub replaced_so : (now : ℤ) (heap : Objects) (statics : List Datum) (graph : Network) (words : Lcg) (sporks next : ℕ) (r : Ref)
    (t : Taken heap.bodies r) (i : ℕ) (old v : Value) → heap.first ≡ 1 → slice_get t.fields i ≡ Some old
    → with_field (plain_store now heap.bodies statics graph words sporks next) (ARef r.serial) i (meant v)
    ≡ Gives (plain_store now (slice_set heap.bodies (r.serial - heap.first) (Instance t.class (slice_set t.fields i v))) statics graph words sporks next)
replaced_so now heap statics graph words sporks next r t i old v first here =
    let store = plain_store now heap.bodies statics graph words sporks next in
    let inside : Inside = record { class = t.class; fields = all_meant t.fields } in
    let number : t.is.number ≡ r.serial - heap.first = omega (arith, t.is.serial, first) in
    let set = Instance t.class (slice_set t.fields i v) in
    set_is store (ARef r.serial) i (meant v) (meant old) inside
    (is_referred heap (map shown_body heap.bodies) r refl t) (get_meant t.fields i old here)
    ∙ ap (λ fs. Gives (with_object store (ARef r.serial) (AnInstance t.class fs))) (sym (set_meant t.fields i v))
    ∙ ap Gives (placed now heap.bodies statics graph words sporks next r.serial t.is.number set t.is.serial)
    ∙ ap (λ n. Gives (plain_store now (slice_set heap.bodies n set) statics graph words sporks next)) number
