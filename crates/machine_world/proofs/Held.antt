-- Objects by what their bodies stand for.
use Rattle.std.proofs.Common.{◌≡◌, ℕ, zero, suc, ◌-◌, nat_lt, false, List, map, Option, Some, None, unwrap_or, refl, ap, sym, subst, ◌∙◌, arith, slice_get}
use Rattle.std.specs.Option.{option_map}
use Rattle.std.proofs.lemmas.Bool.Decides.{nat_tests}
use Rattle.std.proofs.lemmas.Option.{slice_get-map}
use Rattle.ck_values.specs.declared.reference.Ref.{Ref}
use Rattle.ck_values.specs.declared.value.Value.{Value}
use Rattle.ck_values.specs.Datum.{ARef, all_meant}
use Rattle.ck_values.specs.declared.trap.Trap.TheVariants.{NullPointer}
use Rattle.ck_store.specs.Store.{Object, Gives, Fails}
use Rattle.ck_store.specs.Objects.{inside_of, referred}
use Rattle.object_heap.specs.declared.body.Body.{Body}
use Rattle.object_heap.specs.declared.body.Body.TheVariants.{Instance, Array, Ugen}
use Rattle.object_heap.specs.Objects.{Objects, object}
use Rattle.ck_store.specs.Store.{IsFitting}
use Rattle.value_ops.specs.Heaps.{shown_body}
use Rattle.machine_world.specs.Worlds.{Parts, store_of}

-- the objects from number 1 on
abbrev pub from_one : List Body → Objects
from_one bodies = record { first = 1; bodies = bodies }

-- an instance that a reference refers to
pub record IsInstance (bodies : List Body) (r : Ref) (class : ℕ) (fields : List Value) : Type 0 where
  pub number : ℕ
  pub serial : r.serial ≡ suc number
  pub at : slice_get bodies number ≡ Some (Instance class fields)

-- what isn't null, and can be taken as an instance, is one
pub record Taken (bodies : List Body) (r : Ref) : Type 0 where
  pub class : ℕ
  pub fields : List Value
  pub is : IsInstance bodies r class fields

taken_so : (bodies : List Body) (r : Ref) (n : ℕ) (o : Option Body)
    → r.serial ≡ suc n → slice_get bodies n ≡ o
    → IsFitting (inside_of (option_map shown_body o)) → Taken bodies r
taken_so bodies r n None serial at fits = absurd fits
taken_so bodies r n (Some (Instance class fields)) serial at fits = record {
  class = class;
  fields = fields;
  is = record { number = n; serial = serial; at = at };
}
taken_so bodies r n (Some (Array elem two items)) serial at fits = absurd fits
taken_so bodies r n (Some (Ugen node)) serial at fits = absurd fits

referred_at : (bodies : List Body) (n : ℕ)
    → referred (map shown_body bodies) (ARef (suc n))
    ≡ inside_of (option_map shown_body (slice_get bodies n))
unfolding referred
referred_at bodies n = ap inside_of (slice_get-map shown_body bodies n)

taken_as : (bodies : List Body) (r : Ref) (s : ℕ) → r.serial ≡ s → (s ≡ 0 → ⊥)
    → IsFitting (referred (map shown_body bodies) (ARef s)) → Taken bodies r
taken_as bodies r zero serial some fits = absurd (some refl)
taken_as bodies r (suc n) serial some fits =
    taken_so bodies r n (slice_get bodies n) serial refl (subst IsFitting (referred_at bodies n) fits)

pub taken : (heap : Objects) (objects : List Object) (r : Ref) → map shown_body heap.bodies ≡ objects
    → (r.serial ≡ 0 → ⊥) → IsFitting (referred objects (ARef r.serial)) → Taken heap.bodies r
taken heap objects r shown some fits =
    taken_as heap.bodies r r.serial refl some
    (subst (λ os. IsFitting (referred os (ARef r.serial))) (sym shown) fits)

-- the objects of a world, by what it shows
pub shown_objects : (inside world : Parts) → inside ≡ world
    → map shown_body inside.heap.bodies ≡ (store_of world).objects
unfolding store_of
shown_objects inside world is = ap (λ (w : Parts). (store_of w).objects) is

-- it is the object that the heap has under its number, where the numbers begin with 1
held_at : (bodies : List Body) (r : Ref) (class : ℕ) (fields : List Value)
    → IsInstance bodies r class fields
    → object (from_one bodies) r ≡ Some (Instance class fields)
held_at bodies r class fields is =
    let here : slice_get bodies (r.serial - 1) ≡ Some (Instance class fields) =
    subst (λ n. slice_get bodies n ≡ Some (Instance class fields)) (omega (arith, is.serial)) is.at in
    let later : nat_lt r.serial 1 ≡ false = grind (arith, nat_tests, is.serial) in
    rw later here

pub held : (heap : Objects) (r : Ref) → heap.first ≡ 1 → (t : Taken heap.bodies r)
    → object heap r ≡ Some (Instance t.class t.fields)
held heap r first t =
    ap (λ n. object (record { first = n; bodies = heap.bodies }) r) first
    ∙ held_at heap.bodies r t.class t.fields t.is

pub is_body : (heap : Objects) (r : Ref) (b : Body) → heap.first ≡ 1 → (t : Taken heap.bodies r)
    → object heap r ≡ Some b → Instance t.class t.fields ≡ b
is_body heap r b first t found = ap (λ o. unwrap_or o b) (sym (held heap r first t) ∙ found)

-- and what a reference to it gives
pub is_referred : (heap : Objects) (objects : List Object) (r : Ref) → map shown_body heap.bodies ≡ objects
    → (t : Taken heap.bodies r)
    → referred objects (ARef r.serial)
    ≡ Gives (record { class = t.class; fields = all_meant t.fields })
is_referred heap objects r shown t =
    ap (λ os. referred os (ARef r.serial)) (sym shown)
    ∙ ap (λ n. referred (map shown_body heap.bodies) (ARef n)) t.is.serial
    ∙ referred_at heap.bodies t.is.number
    ∙ ap (λ o. inside_of (option_map shown_body o)) t.is.at

-- null refers to nothing
pub null_is : (objects : List Object) (s : ℕ) → s ≡ 0
    → referred objects (ARef s) ≡ Fails NullPointer
unfolding referred
null_is objects s is = ap (λ n. referred objects (ARef n)) is
