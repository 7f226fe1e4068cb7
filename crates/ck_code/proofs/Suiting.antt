-- Values that suit kinds: found, replaced, taken from the operands, and the locals of a call.
use Rattle.std.proofs.Common.{◌≡◌, ℕ, zero, suc, ◌≤◌, List, [], ◌∷◌, ◌++◌, map, reverse, length, replicate, take, Some, refl, sym, ap, ◌∙◌, subst, arith, slice_get, slice_set, append-nil, All}
use Rattle.std.proofs.Common.{append_assoc}
use Rattle.std.proofs.lemmas.Grind.{reverse_onto}
use Rattle.std.proofs.lemmas.List.{reverse-reverse, length-reverse}
use Rattle.ck_values.specs.declared.kind.Elem.{Elem}
use Rattle.ck_values.specs.declared.kind.Elem.TheVariants.{Int, Float, Dur, Time, Text, Shred, Class, Unit as UnitElem}
use Rattle.ck_values.specs.declared.kind.Kind.{Kind}
use Rattle.ck_values.specs.declared.kind.Kind.TheVariants.{Void, Null, One, Row, Grid}
use Rattle.ck_values.specs.Datum.{Datum, default_of, first_value, first_locals}
use Rattle.ck_store.specs.Store.{Try, Gives, Fails, Misfit, Shapes}
use Rattle.ck_store.specs.Steps.{and_then, found, local_of, with_local}
use Rattle.ck_typed.specs.declared.class.Class.{Class as ClassTable}
use Rattle.ck_typed.specs.WellFormed.{IsValueKind}
use Rattle.ck_code.specs.Verified.{OnTop}
use Rattle.ck_code.specs.Machine.{taken}
use Rattle.ck_code.specs.Fitting.{IsOf, Suits, Suit, AllSuit}
use Rattle.ck_code.proofs.Standing.{stands_suits}

-- what a step gives is fine, and it is no misfit
abbrev pub Fine : {A : Type 0} → (A → Type 0) → Try A → Type 0
Fine P (Gives a) = P a
Fine P (Fails trap) = Unit {0}
Fine P Misfit = ⊥

-- a step after a step is fine
pub fine_then : {A B : Type 0} (P : A → Type 0) (Q : B → Type 0) (t : Try A) (go : A → Try B)
    → Fine P t → ((a : A) → P a → Fine Q (go a)) → Fine Q (and_then t go)
fine_then P Q (Gives a) go h next = next a h
fine_then P Q (Fails trap) go h next = tt
fine_then P Q Misfit go h next = h

-- what is fine in one way is fine in a way that follows from it
pub fine_map : {A : Type 0} (P Q : A → Type 0) (t : Try A) → Fine P t → ((a : A) → P a → Q a)
    → Fine Q t
fine_map P Q (Gives a) fine next = next a fine
fine_map P Q (Fails trap) fine next = tt
fine_map P Q Misfit fine next = fine

-- the kinds of what is taken, the deepest first, before those taken already
reversed_on : (k : Kind) (top done : List Kind)
    → reverse top ++ (k ∷ done) ≡ reverse (k ∷ top) ++ done
reversed_on k top done =
    sym (ap (λ kinds. kinds ++ done) (reverse_onto top k [])
    ∙ append_assoc (reverse top) (k ∷ []) done)

-- what holds of each holds of those after the first
pub all_after : {A : Type 0} (P : A → Type 0) (x : A) (xs : List A) → All P (x ∷ xs) → All P xs
all_after P x xs all = λ i d lt. all (suc i) d (omega arith)

module _ (classes : List ClassTable) (shapes : Shapes) where
  -- a value stands beside each kind
  pub suit_get : (kinds : List Kind) (vs : List Datum) (i : ℕ) (k : Kind)
      → Suit classes shapes kinds vs → slice_get kinds i ≡ Some k
      → Fine (Suits classes shapes k) (found (slice_get vs i))
  suit_get [] vs i k h e = cc
  suit_get (x ∷ kinds) [] i k h e = absurd h
  suit_get (x ∷ kinds) (v ∷ vs) zero k h e =
      let is : x ≡ k = cc in subst (λ k. Suits classes shapes k v) is h.0
  suit_get (x ∷ kinds) (v ∷ vs) (suc i) k h e = suit_get kinds vs i k h.1 e

  -- a value is replaced by one of its kind
  pub suit_set : (kinds : List Kind) (vs : List Datum) (i : ℕ) (k : Kind) (v : Datum)
      → Suit classes shapes kinds vs → slice_get kinds i ≡ Some k → Suits classes shapes k v
      → Suit classes shapes kinds (slice_set vs i v)
  suit_set [] vs i k v h e is = cc
  suit_set (x ∷ kinds) [] i k v h e is = absurd h
  suit_set (x ∷ kinds) (y ∷ vs) zero k v h e is =
      let same : k ≡ x = cc in (subst (λ k. Suits classes shapes k v) same is, h.1)
  suit_set (x ∷ kinds) (y ∷ vs) (suc i) k v h e is = (h.0, suit_set kinds vs i k v h.1 e is)

  -- as many operands as there are kinds are taken, the deepest first
  pub taken_suit : (top beneath done : List Kind) (before operands : List Datum)
      → Suit classes shapes done before → Suit classes shapes (top ++ beneath) operands
      → Fine (λ t. Suit classes shapes (reverse top ++ done) t.arguments
      × Suit classes shapes beneath t.beneath) (taken (length top) before operands)
  taken_suit [] beneath done before operands h is = (h, is)
  taken_suit (k ∷ top) beneath done before [] h is = absurd is
  taken_suit (k ∷ top) beneath done before (v ∷ operands) h is =
      subst (λ kinds. Fine (λ t. Suit classes shapes kinds t.arguments
      × Suit classes shapes beneath t.beneath) (taken (length top) (v ∷ before) operands))
      (reversed_on k top done)
      (taken_suit top beneath (k ∷ done) (v ∷ before) operands (is.0, h) is.1)

  -- the first value of a type is of it
  pub default_is : (e : Elem) → IsOf classes shapes e (default_of e)
  default_is Int = tt
  default_is Float = tt
  default_is Dur = tt
  default_is Time = tt
  default_is Text = tt
  default_is Shred = tt
  default_is (Class c) = tt
  default_is (UnitElem u) = tt

  -- a variable begins with a value that suits it
  pub first_suits : (k : Kind) → IsValueKind classes k → Suits classes shapes k (first_value k)
  first_suits Void h = absurd h
  first_suits Null h = absurd h
  first_suits (One e) h = default_is e
  first_suits (Row e) h = tt
  first_suits (Grid e) h = tt

  -- variables begin with values that suit them
  pub first_all : (kinds : List Kind) → All (IsValueKind classes) kinds
      → Suit classes shapes kinds (map first_value kinds)
  first_all [] all = tt
  first_all (k ∷ kinds) all =
      (first_suits k (all 0 k (omega arith)), first_all kinds (all_after (IsValueKind classes) k kinds all))

  -- a call begins with locals that suit its function
  pub first_locals_suit : (n : ℕ) (kinds : List Kind) (arguments : List Datum) → n ≤ length kinds
      → All (IsValueKind classes) kinds → Suit classes shapes (take n kinds) arguments
      → Suit classes shapes kinds (first_locals kinds arguments)
  first_locals_suit zero kinds [] lt all h = first_all kinds all
  first_locals_suit zero kinds (v ∷ arguments) lt all h = absurd h
  first_locals_suit (suc n) [] arguments lt all h = absurd (omega arith)
  first_locals_suit (suc n) (k ∷ kinds) [] lt all h = absurd h
  first_locals_suit (suc n) (k ∷ kinds) (v ∷ arguments) lt all h = (
    h.0,
    first_locals_suit n kinds arguments (omega arith)
        (all_after (IsValueKind classes) k kinds all) h.1,
  )

  -- a local suits its kind
  pub local_fine : (kinds : List Kind) (locals : List Datum) (i : ℕ) (k : Kind)
      → Suit classes shapes kinds locals → slice_get kinds i ≡ Some k
      → Fine (Suits classes shapes k) (local_of locals i)
  unfolding local_of
  local_fine kinds locals i k h e = suit_get kinds locals i k h e

  -- locals with one replaced suit their kinds
  pub with_local_fine : (kinds : List Kind) (locals : List Datum) (i : ℕ) (k : Kind) (v : Datum)
      → Suit classes shapes kinds locals → slice_get kinds i ≡ Some k → Suits classes shapes k v
      → Fine (Suit classes shapes kinds) (with_local locals i v)
  unfolding with_local
  with_local_fine kinds locals i k v h e is =
      fine_then (Suits classes shapes k) (Suit classes shapes kinds) (local_of locals i) _
      (local_fine kinds locals i k h e) (λ old was. suit_set kinds locals i k v h e is)

  -- as many operands as are wanted are on top of others
  on_top_suit : (wanted kinds : List Kind) (ops : List Datum) (P : List Kind → Type 0)
      → OnTop classes wanted kinds P → Suit classes shapes kinds ops
      → (beneath : List Kind) × P beneath × Suit classes shapes (wanted ++ beneath) ops
  on_top_suit [] kinds ops P top held = (kinds, top, held)
  on_top_suit (k ∷ wanted) [] ops P top held = absurd top
  on_top_suit (k ∷ wanted) (j ∷ kinds) [] P top held = absurd held
  on_top_suit (k ∷ wanted) (j ∷ kinds) (v ∷ ops) P top held =
      let more = on_top_suit wanted kinds ops P top.1 held.1 in
      (more.0, more.1, (stands_suits classes shapes j k v top.0 held.0, more.2))

  -- the arguments of a call, the deepest first
  pub arguments_fine : (params kinds : List Kind) (ops : List Datum) (n : ℕ)
      (P : List Kind → Type 0)
      → length params ≡ n → OnTop classes (reverse params) kinds P → Suit classes shapes kinds ops
      → Fine (λ t. Suit classes shapes params t.arguments × (beneath : List Kind) × P beneath
      × Suit classes shapes beneath t.beneath) (taken n [] ops)
  arguments_fine params kinds ops n P count top held =
      let t = on_top_suit (reverse params) kinds ops P top held in
      let long : length (reverse params) ≡ n = length-reverse params ∙ count in
      let same : reverse (reverse params) ++ [] ≡ params =
      append-nil (reverse (reverse params)) ∙ reverse-reverse params in
      let so = subst (λ m. Fine (λ t1. Suit classes shapes (reverse (reverse params)
      ++ []) t1.arguments × Suit classes shapes t.0 t1.beneath) (taken m [] ops)) long
      (taken_suit (reverse params) t.0 [] [] ops tt t.2) in
      fine_map _ _ (taken n [] ops) so (λ t1 suits. (
        subst (λ kinds. Suit classes shapes kinds t1.arguments) same suits.0,
        t.0,
        t.1,
        suits.1,
      ))

  -- so many operands are taken that all suit one kind
  taken_all : (n : ℕ) (k : Kind) (beneath : List Kind) (before operands : List Datum)
      → AllSuit classes shapes k before
      → Suit classes shapes (replicate n k ++ beneath) operands
      → Fine (λ t. AllSuit classes shapes k t.arguments
      × Suit classes shapes beneath t.beneath) (taken n before operands)
  taken_all zero k beneath before operands h is = (h, is)
  taken_all (suc n) k beneath before [] h is = absurd is
  taken_all (suc n) k beneath before (v ∷ operands) h is =
      taken_all n k beneath (v ∷ before) operands (is.0, h) is.1

  -- the items of an array
  pub items_fine : (n : ℕ) (k : Kind) (kinds : List Kind) (ops : List Datum)
      (P : List Kind → Type 0) → OnTop classes (replicate n k) kinds P
      → Suit classes shapes kinds ops
      → Fine (λ t. AllSuit classes shapes k t.arguments × (beneath : List Kind) × P beneath
      × Suit classes shapes beneath t.beneath) (taken n [] ops)
  items_fine n k kinds ops P top held =
      let t = on_top_suit (replicate n k) kinds ops P top held in
      fine_map _ _ (taken n [] ops) (taken_all n k t.0 [] ops tt t.2) (λ t1 suits. (
        suits.0,
        t.0,
        t.1,
        suits.1,
      ))

  -- there are as many values as kinds
  pub suit_length : (ks : List Kind) (vs : List Datum) → Suit classes shapes ks vs
      → length ks ≡ length vs
  suit_length [] [] h = refl
  suit_length [] (v ∷ vs) h = absurd h
  suit_length (k ∷ ks) [] h = absurd h
  suit_length (k ∷ ks) (v ∷ vs) h = ap suc (suit_length ks vs h.1)
