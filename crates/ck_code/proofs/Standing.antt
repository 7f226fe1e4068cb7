-- What may stand where something is wanted, and the values and acts that suit it.
use Rattle.std.proofs.Common.{◌≡◌, ◌⊎◌, inl, inr, ℕ, zero, suc, ◌<◌, length, arith, true, false, List, [], ◌∷◌, Option, Some, None, refl, sym, ◌∙◌, subst, slice_get}
use Rattle.ck_values.specs.declared.kind.Elem.{Elem}
use Rattle.ck_values.specs.declared.kind.Elem.TheVariants.{Class as ClassElem, Unit as UnitElem}
use Rattle.ck_values.specs.declared.kind.Kind.{Kind}
use Rattle.ck_values.specs.declared.kind.Kind.TheVariants.{Void, Null, One, Row, Grid}
use Rattle.ugen_names.specs.declared.table.UgenKind.{UgenKind}
use Rattle.ugen_names.specs.declared.table.UgenKind.TheVariants.{UGen}
use Rattle.ck_values.specs.Datum.{Datum, ARef}
use Rattle.ck_store.specs.Store.{Object, Instance, Items, UnitGenerator, Shape, OfClass, OfUnit, Keeps, Act, Printed, Sporked, WokeOne, WokeAll, Removed, Shapes}
use Rattle.ck_typed.specs.declared.class.Class.{Class}
use Rattle.ck_typed.specs.Standing.{IsBelow, itself, step, ElemStands, IsReference, Stands}
use Rattle.ck_typed.specs.WellFormed.{FoundWhere}
use Rattle.ck_code.specs.declared.code.CodeParts.{CodeParts}
use Rattle.ck_code.specs.Verified.{Places, operands_at, AllStand, AreAt, Finds, UnlessNull, params_of}
use Rattle.ck_code.specs.Fitting.{Refers, IsOfClass, IsOfUnit, IsNull, IsOf, Suits, Suit, AllSuit, IsFitObject, IsEvent, IsFitAct}

-- what was found, with the equation
pub found_is : {A : Type 0} (o : Option A) (P : A → Type 0) → FoundWhere o P
    → (a : A) × (o ≡ Some a) × P a
found_is None P h = absurd h
found_is (Some a) P h = (a, refl, h)

-- what is found fulfils what is said of it
pub where_found : {A : Type 0} (o : Option A) (P : A → Type 0) (a : A) → o ≡ Some a → P a
    → FoundWhere o P
where_found o P a e h = subst (λ o. FoundWhere o P) (sym e) h

-- two of the same kind are found
pub same_found : {A : Type 0} (o : Option A) (P : A → Type 0) (a : A) → o ≡ Some a → FoundWhere o P
    → P a
same_found o P a e h = subst (λ o. FoundWhere o P) e h

-- something else holds too of what was found
pub found_more : {A : Type 0} (o : Option A) (P Q : A → Type 0) → ((a : A) → P a → Q a)
    → FoundWhere o P → FoundWhere o Q
found_more None P Q more h = h
found_more (Some a) P Q more h = more a h

pub kept_same : (shapes : Shapes) → Keeps shapes shapes
kept_same shapes = record { each = λ n x e. e }

pub kept_trans : (a b c : Shapes) → Keeps a b → Keeps b c → Keeps a c
kept_trans a b c h g = record { each = λ n x e. g.each n x (h.each n x e) }

module _ (classes : List Class) where
  pub below_trans : {c d e : ℕ} → IsBelow classes c d → IsBelow classes d e → IsBelow classes c e
  below_trans itself h = h
  below_trans (step k at below) h = step k at (below_trans below h)

  class_stands : (c d : ℕ) (e : Elem) → IsBelow classes c d → ElemStands classes (ClassElem d) e
      → ElemStands classes (ClassElem c) e
  class_stands c d (ClassElem e) h g = below_trans h g
  class_stands c d e h g = absurd (cc)

  unit_stands : (a b : UgenKind) (e : Elem) → (b ≡ UGen) ⊎ (a ≡ b)
      → ElemStands classes (UnitElem b) e → ElemStands classes (UnitElem a) e
  unit_stands a b (UnitElem c) h g = elim g [
    | inl top ↦ inl top
    | inr same ↦ elim h [ inl top ↦ inl (sym same ∙ top) | inr is ↦ inr (is ∙ same) ]
  ]
  unit_stands a b e h g = absurd (cc)

  elem_trans : (a b c : Elem) → ElemStands classes a b → ElemStands classes b c
      → ElemStands classes a c
  elem_trans (ClassElem a) (ClassElem b) c h g = class_stands a b c h g
  elem_trans (UnitElem a) (UnitElem b) c h g = unit_stands a b c h g
  elem_trans a b c h g = subst (λ e. ElemStands classes e c) (sym h) g

  pub stands_refl : (k : Kind) → Stands classes k k
  stands_refl Null = tt
  stands_refl (One (ClassElem c)) = itself
  stands_refl (One (UnitElem u)) = inr refl
  stands_refl (One _) = refl
  stands_refl _ = refl

  reference_stands : (j k : Kind) → IsReference j → Stands classes j k → IsReference k
  reference_stands Null k r h = h
  reference_stands (One (ClassElem a)) (One (ClassElem b)) r h = tt
  reference_stands (One (UnitElem a)) (One (UnitElem b)) r h = tt
  reference_stands (One a) (One b) r h = subst (λ e. IsReference (One e)) h r
  reference_stands j k r h = subst IsReference h r

  one_stands : (a b : Elem) (k : Kind) → ElemStands classes a b → Stands classes (One b) k
      → Stands classes (One a) k
  one_stands a b (One c) h g = elem_trans a b c h g
  one_stands a b k h g = absurd (cc)

  pub stands_trans : (i j k : Kind) → Stands classes i j → Stands classes j k → Stands classes i k
  stands_trans Null j k h g = reference_stands j k h g
  stands_trans (One a) (One b) k h g = one_stands a b k h g
  stands_trans i j k h g = subst (λ x. Stands classes x k) (sym h) g

  pub all_stand_refl : (ks : List Kind) → AllStand classes ks ks
  all_stand_refl [] = tt
  all_stand_refl (k ∷ ks) = (stands_refl k, all_stand_refl ks)

  pub all_stand_trans : (is js ks : List Kind) → AllStand classes is js → AllStand classes js ks
      → AllStand classes is ks
  all_stand_trans [] [] ks h g = g
  all_stand_trans [] (j ∷ js) ks h g = absurd h
  all_stand_trans (i ∷ is) [] ks h g = absurd h
  all_stand_trans (i ∷ is) (j ∷ js) [] h g = g
  all_stand_trans (i ∷ is) (j ∷ js) (k ∷ ks) h g =
      (stands_trans i j k h.0 g.0, all_stand_trans is js ks h.1 g.1)

  -- a place that has operands is reached with them
  pub has_finds : (places : Places) (p : ℕ) (ks : List Kind) → AreAt places p ks
      → Finds classes places p ks
  has_finds places p ks h =
      where_found (operands_at places p) (AllStand classes ks) ks h (all_stand_refl ks)

  -- and with operands that may stand in theirs
  pub finds_less : (places : Places) (p : ℕ) (js ks : List Kind) → AllStand classes js ks
      → Finds classes places p ks → Finds classes places p js
  finds_less places p js ks h f =
      found_more (operands_at places p) (AllStand classes ks) (AllStand classes js) (λ wanted g.
      all_stand_trans js ks wanted h g) f

-- what holds anyway holds unless the kind is null's
pub unless : (k : Kind) (P : Type 0) → P → UnlessNull k P
unless Null P h = tt
unless Void P h = h
unless (One e) P h = h
unless (Row e) P h = h
unless (Grid e) P h = h

-- a place that is reached is one of the function's
pub at_within : (places : Places) (p : ℕ) (ks : List Kind) → AreAt places p ks → p < length places
at_within [] p ks h = absurd cc
at_within (at ∷ places) zero ks h = omega arith
at_within (at ∷ places) (suc p) ks h = omega (arith, at_within places p ks h)

module _ (classes : List Class) (shapes : Shapes) where
  pub refers_more : (P Q : Shape → Type 0) → ((x : Shape) → P x → Q x) → (v : Datum)
      → Refers shapes P v → Refers shapes Q v
  refers_more P Q more (ARef zero) h = tt
  refers_more P Q more (ARef (suc n)) h = found_more (shapes n) P Q more h
  refers_more P Q more _ h = absurd h

  null_refers : (P : Shape → Type 0) (v : Datum) → IsNull v → Refers shapes P v
  null_refers P (ARef zero) h = tt
  null_refers P (ARef (suc n)) h = absurd h
  null_refers P _ h = absurd h

  class_more : (c d : ℕ) → IsBelow classes c d → (x : Shape) → IsOfClass classes c x
      → IsOfClass classes d x
  class_more c d below (OfClass e) h = below_trans classes h below
  class_more c d below _ h = absurd h

  unit_more : (a b : UgenKind) → (b ≡ UGen) ⊎ (a ≡ b) → (x : Shape) → IsOfUnit a x → IsOfUnit b x
  unit_more a b is (OfUnit k) h = elim is [
    | inl top ↦ inl top
    | inr same ↦ elim h [ inl top ↦ inl (sym same ∙ top) | inr k_is ↦ inr (k_is ∙ same) ]
  ]
  unit_more a b is _ h = absurd h

  elem_suits : (a b : Elem) (v : Datum) → ElemStands classes a b → IsOf classes shapes a v
      → IsOf classes shapes b v
  elem_suits (ClassElem c) (ClassElem d) v below h =
      refers_more (IsOfClass classes c) (IsOfClass classes d) (class_more c d below) v h
  elem_suits (UnitElem a) (UnitElem b) v is h =
      refers_more (IsOfUnit a) (IsOfUnit b) (unit_more a b is) v h
  elem_suits a b v is h = subst (λ e. IsOf classes shapes e v) is h

  null_suits : (k : Kind) (v : Datum) → IsReference k → IsNull v → Suits classes shapes k v
  null_suits Void v is h = absurd is
  null_suits Null v is h = h
  null_suits (One (ClassElem c)) v is h = null_refers (IsOfClass classes c) v h
  null_suits (One (UnitElem u)) v is h = null_refers (IsOfUnit u) v h
  null_suits (One _) v is h = absurd is
  null_suits (Row e) v is h = null_refers _ v h
  null_suits (Grid e) v is h = null_refers _ v h

  -- a value suits whatever its kind may stand for
  pub stands_suits : (j k : Kind) (v : Datum) → Stands classes j k → Suits classes shapes j v
      → Suits classes shapes k v
  stands_suits Null k v is h = null_suits k v is h
  stands_suits (One a) (One b) v is h = elem_suits a b v is h
  stands_suits j k v is h = subst (λ x. Suits classes shapes x v) is h

  pub all_stand_suit : (js ks : List Kind) (vs : List Datum) → AllStand classes js ks
      → Suit classes shapes js vs → Suit classes shapes ks vs
  all_stand_suit [] [] vs is h = h
  all_stand_suit [] (k ∷ ks) vs is h = absurd is
  all_stand_suit (j ∷ js) [] vs is h = absurd is
  all_stand_suit (j ∷ js) (k ∷ ks) [] is h = h
  all_stand_suit (j ∷ js) (k ∷ ks) (v ∷ vs) is h =
      (stands_suits j k v is.0 h.0, all_stand_suit js ks vs is.1 h.1)

-- what suits goes on to suit as the store grows
module _ (classes : List Class) (before after : Shapes) (kept : Keeps before after) where
  refers_kept : (P : Shape → Type 0) (v : Datum) → Refers before P v → Refers after P v
  refers_kept P (ARef zero) h = tt
  refers_kept P (ARef (suc n)) h =
      let f = found_is (before n) P h in
      where_found (after n) P f.0 (kept.each n f.0 f.1) f.2
  refers_kept P _ h = absurd h

  is_of_kept : (e : Elem) (v : Datum) → IsOf classes before e v → IsOf classes after e v
  is_of_kept (ClassElem c) v h = refers_kept (IsOfClass classes c) v h
  is_of_kept (UnitElem u) v h = refers_kept (IsOfUnit u) v h
  is_of_kept _ v h = h

  pub suits_kept : (k : Kind) (v : Datum) → Suits classes before k v → Suits classes after k v
  suits_kept Void v h = h
  suits_kept Null v h = h
  suits_kept (One e) v h = is_of_kept e v h
  suits_kept (Row e) v h = refers_kept _ v h
  suits_kept (Grid e) v h = refers_kept _ v h

  pub suit_kept : (ks : List Kind) (vs : List Datum) → Suit classes before ks vs
      → Suit classes after ks vs
  suit_kept [] [] h = tt
  suit_kept [] (v ∷ vs) h = absurd h
  suit_kept (k ∷ ks) [] h = absurd h
  suit_kept (k ∷ ks) (v ∷ vs) h = (suits_kept k v h.0, suit_kept ks vs h.1)

  all_suit_kept : (k : Kind) (vs : List Datum) → AllSuit classes before k vs
      → AllSuit classes after k vs
  all_suit_kept k [] h = tt
  all_suit_kept k (v ∷ vs) h = (suits_kept k v h.0, all_suit_kept k vs h.1)

  pub object_kept : (o : Object) → IsFitObject classes before o → IsFitObject classes after o
  object_kept (Instance c fields) h =
      found_more (slice_get classes c) _ _ (λ class suit. suit_kept class.fields fields suit) h
  object_kept (Items e false items) h = all_suit_kept (One e) items h
  object_kept (Items e true items) h = all_suit_kept (Row e) items h
  object_kept (UnitGenerator place) h = tt

  pub event_kept : (event : ℕ) → IsEvent classes before event → IsEvent classes after event
  event_kept zero h = h
  event_kept (suc n) h = refers_kept (IsOfClass classes 1) (ARef (suc n)) h

-- an act that fits goes on to fit as the store grows
pub act_kept : (code : CodeParts) (before after : Shapes) → Keeps before after → (act : Act)
    → IsFitAct code before act → IsFitAct code after act
act_kept code before after kept (Printed line) h = tt
act_kept code before after kept (Sporked number f arguments) h =
    found_more (slice_get code.funs f) _ _ (λ fn suit.
    suit_kept code.classes before after kept (params_of fn) arguments suit) h
act_kept code before after kept (WokeOne event) h =
    event_kept code.classes before after kept event h
act_kept code before after kept (WokeAll event) h =
    event_kept code.classes before after kept event h
act_kept code before after kept (Removed number) h = tt
