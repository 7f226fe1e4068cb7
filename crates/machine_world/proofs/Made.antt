-- A new object, from what its body stands for.
use Rattle.std.proofs.Common.{◌≡◌, ℕ, ℤ, suc, ◌+◌, ◌<◌, ◌≤◌, nat_lt, true, false, List, [], ◌∷◌, ◌++◌, length, map, Some, Result, Ok, Err, IfOk, slice_get, ap, sym, ◌∙◌, arith}
use Rattle.std.specs.Prelude.{OnErr}
use Rattle.std.proofs.lemmas.Bool.Decides.{nat_tests}
use Rattle.std.proofs.lemmas.List.{length-map, map-append}
use Rattle.ck_base.specs.declared.limits.TheConstants.{MAX_OBJECTS}
use Rattle.ck_values.specs.declared.trap.Trap.TheVariants.{ObjectLimit}
use Rattle.ck_values.specs.declared.reference.Ref.{Ref}
use Rattle.ck_values.specs.declared.value.Value.{Value}
use Rattle.ck_values.specs.Datum.{Datum, ARef, all_meant, first_value}
use Rattle.ck_typed.specs.declared.class.Class.{Class}
use Rattle.ck_store.specs.Store.{Instance as AnInstance, Object, Store, Try, Gives, Fails}
use Rattle.ck_store.specs.Steps.{and_then, found, pick}
use Rattle.ck_store.specs.Objects.{Made, added, object_made}
use Rattle.object_heap.specs.declared.body.Body.{Body}
use Rattle.object_heap.specs.declared.body.Body.TheVariants.{Instance}
use Rattle.object_heap.specs.Objects.{Objects, MakesObject}
use Rattle.ck_store.specs.Store.{IsFitting}
use Rattle.value_ops.specs.Ends.{IsGiven, IsEnd, OnTrap, OnWant}
use Rattle.value_ops.specs.Heaps.{shown_body}
use Rattle.value_ops.specs.declared.end.OpEnd.{OpEnd}
use Rattle.value_ops.specs.declared.end.OpEnd.TheVariants.{Trap, Memory}
use Rattle.value_ops.proofs.Wants.{is_given}
use Rattle.ugen_graph.specs.Wiring.{Network}
use Rattle.rand_pcg.specs.Lcg.{Lcg}
use Rattle.machine_world.specs.Worlds.{plain_store}
use Rattle.machine_world.proofs.Numbered.{replaced_within}

pub made_within : (classes : List Class) (c : ℕ) (store : Store)
    → IsFitting (object_made classes c store) → c < length classes
unfolding object_made
made_within classes c store fits = replaced_within classes c _ fits

made_as : (classes : List Class) (c : ℕ) (class : Class) (store : Store)
    → slice_get classes c ≡ Some class
    → object_made classes c store ≡ added (AnInstance c (map first_value class.fields)) store
unfolding object_made
made_as classes c class store is =
    ap (λ k. and_then (found k) (λ class. added (AnInstance c (map first_value class.fields)) store)) is

abbrev with_one : Store → Object → Made
with_one store o = record {
  reference = ARef (suc (length store.objects));
  store = record store { objects = store.objects ++ o ∷ [] };
}

added_where : (o : Object) (store : Store) → nat_lt (length store.objects) MAX_OBJECTS ≡ true
    → added o store ≡ Gives (with_one store o)
unfolding added
added_where o store room = ap (λ t. pick t (Gives (with_one store o)) (Fails ObjectLimit)) room

added_nowhere : (o : Object) (store : Store) → nat_lt (length store.objects) MAX_OBJECTS ≡ false
    → added o store ≡ Fails ObjectLimit
unfolding added
added_nowhere o store full = ap (λ t. pick t (Gives (with_one store o)) (Fails ObjectLimit)) full

-- where there is room, the object has the next number
pub made_so : (classes : List Class) (c : ℕ) (class : Class) (now : ℤ) (bodies : List Body)
    (statics : List Datum) (graph : Network) (words : Lcg) (sporks next : ℕ) (fields : List Value) (serial : ℕ)
    → slice_get classes c ≡ Some class → all_meant fields ≡ map first_value class.fields
    → serial ≡ 1 + length bodies → 1 + length bodies ≤ MAX_OBJECTS
    → object_made classes c (plain_store now bodies statics graph words sporks next)
    ≡ Gives (record {
      reference = ARef serial;
      store = plain_store now (bodies ++ Instance c fields ∷ []) statics graph words sporks next;
    })
made_so classes c class now bodies statics graph words sporks next fields serial is begin number few =
    let store = plain_store now bodies statics graph words sporks next in
    let o = AnInstance c (map first_value class.fields) in
    let size : length (map shown_body bodies) ≡ length bodies = length-map bodies shown_body in
    let room : nat_lt (length (map shown_body bodies)) MAX_OBJECTS ≡ true =
    grind (arith, nat_tests, size, few) in
    let same : ARef (suc (length (map shown_body bodies))) ≡ ARef serial =
    ap ARef (omega (arith, size, number)) in
    let longer : map shown_body bodies ++ o ∷ [] ≡ map shown_body (bodies ++ Instance c fields ∷ []) =
    ap (λ fs. map shown_body bodies ++ AnInstance c fs ∷ []) (sym begin)
    ∙ sym (map-append shown_body bodies (Instance c fields ∷ [])) in
    made_as classes c class store is
    ∙ added_where o store room
    ∙ ap (λ r. Gives (record { reference = r; store = record store { objects = map shown_body bodies ++ o ∷ [] } })) same
    ∙ ap (λ os. Gives (record { reference = ARef serial; store = record store { objects = os } })) longer

-- where there is none, it is a trap
pub made_not : (classes : List Class) (c : ℕ) (class : Class) (now : ℤ) (bodies : List Body)
    (statics : List Datum) (graph : Network) (words : Lcg) (sporks next : ℕ)
    → slice_get classes c ≡ Some class → MAX_OBJECTS < 1 + length bodies
    → object_made classes c (plain_store now bodies statics graph words sporks next) ≡ Fails ObjectLimit
made_not classes c class now bodies statics graph words sporks next is many =
    let store = plain_store now bodies statics graph words sporks next in
    let size : length (map shown_body bodies) ≡ length bodies = length-map bodies shown_body in
    let full : nat_lt (length (map shown_body bodies)) MAX_OBJECTS ≡ false =
    grind (arith, nat_tests, size, many) in
    made_as classes c class store is
    ∙ added_nowhere (AnInstance c (map first_value class.fields)) store full

-- where there is room, there is an object
pub made_given : (classes : List Class) (c : ℕ) (class : Class) (now : ℤ) (bodies : List Body)
    (statics : List Datum) (graph : Network) (words : Lcg) (sporks next : ℕ)
    → slice_get classes c ≡ Some class → 1 + length bodies ≤ MAX_OBJECTS
    → IsGiven (object_made classes c (plain_store now bodies statics graph words sporks next))
made_given classes c class now bodies statics graph words sporks next is few =
    let store = plain_store now bodies statics graph words sporks next in
    let o = AnInstance c (map first_value class.fields) in
    let size : length (map shown_body bodies) ≡ length bodies = length-map bodies shown_body in
    let room : nat_lt (length (map shown_body bodies)) MAX_OBJECTS ≡ true =
    grind (arith, nat_tests, size, few) in
    is_given _ _ (made_as classes c class store is ∙ added_where o store room)

-- how an object that isn't added ends a step that adds one
pub ends_so : {A : Type 0} (many few : Type 0) (t : Try A) (e : OpEnd)
    → (many → t ≡ Fails ObjectLimit) → (few → IsGiven t)
    → OnTrap e (λ trap. (trap ≡ ObjectLimit) × many) → OnWant e few → IsEnd true e t
ends_so many few t (Trap trap) fails gives so wants = fails so.1 ∙ ap Fails (sym so.0)
ends_so many few t (Memory _) fails gives so wants = gives wants

-- where there is room it ends by no trap
pub no_trap : (many P : Type 0) (e : OpEnd) → (many → ⊥)
    → OnTrap e (λ trap. (trap ≡ ObjectLimit) × many) → OnTrap e (λ trap. P)
no_trap many P (Trap trap) room so = absurd (room so.1)
no_trap many P (Memory _) room so = tt

-- the numbers begin where they did
pub made_first : {E : Type 0} (r : Result Ref E) (old new : Objects) (body : Body)
    → IfOk r (λ at. MakesObject old body at new) → OnErr r (new ≡ old) → old.first ≡ 1
    → new.first ≡ 1
made_first (Ok at) old new body made same first = ap (λ (h : Objects). h.first) made.objects ∙ first
made_first (Err e) old new body made same first = ap (λ (h : Objects). h.first) same ∙ first
