-- What the members of a class change in the slots of its parent: new ones come last, and none changes its types.
use Rattle.std.proofs.Common.{◌≡◌, ℕ, suc, ◌+◌, ◌<◌, ◌≤◌, Bool, true, false, List, [], ◌∷◌, ◌++◌, length, slice_get, slice_set, Option, Some, if◌then◌else◌, refl, sym, ap, ◌∙◌, subst, arith, add-zero, length-set}
use Rattle.std.proofs.lemmas.List.{length_push}
use Rattle.std.specs.Str.{bytes_eq}
use Rattle.ck_syntax.specs.Tree.{Name}
use Rattle.type_table.specs.declared.class.Own.{Own}
use Rattle.type_table.specs.declared.class.Own.TheVariants as own
use Rattle.type_table.specs.declared.class.Dispatch.TheVariants as by
use Rattle.type_table.specs.Finished.{with_own, with_all}
use Rattle.type_table.specs.Names.{lookup}
use Rattle.type_table.specs.declared.class.Head.{Head}
use Rattle.type_table.specs.Table.{Table, fun_of, slot_in}
use Rattle.first_walk.proofs.Places.{some_is, get_front, get_last, get_other, set_keeps, each_also}
use Rattle.type_table.proofs.Ranges.{Each}
use Rattle.first_walk.proofs.TableFacts.{SameTypes, new_slots}

-- what is found under a name is here, or further on
pick : {A X : Type 0} (is_here : Bool) (here wanted : A) (rest : Option A) → (if is_here then Some here else rest) ≡ Some wanted → (here ≡ wanted → X) → (rest ≡ Some wanted → X) → X
pick true here wanted rest at now later = now (some_is at)
pick false here wanted rest at now later = later at

-- types -----------------------------------------------------------------------------------------

pub types_same : (a : Head) → SameTypes a a
types_same a = (refl, refl)

pub types_back : (a b : Head) → SameTypes a b → SameTypes b a
types_back a b same = (sym same.0, sym same.1)

pub types_on : (a b c : Head) → SameTypes a b → SameTypes b c → SameTypes a c
types_on a b c same more = (same.0 ∙ more.0, same.1 ∙ more.1)

-- a slot has a function of these types
abbrev pub Holds : Table → (slots : List ℕ) → (slot : ℕ) → Head → Type 0
Holds t slots s h = (g : ℕ) × (slice_get slots s ≡ Some g) × SameTypes (fun_of t g) h

-- each slot stays, and the types of its function
abbrev pub KeepsTypes : Table → (old new : List ℕ) → Type 0
KeepsTypes t old new = (s g : ℕ) → slice_get old s ≡ Some g → Holds t new s (fun_of t g)

-- an override has the types of what it overrides
abbrev pub Fits : Table → (above slots : List ℕ) → Name × Own → Type 0
Fits t above slots (n, own.Fun f by.Override) = Holds t slots (slot_in t above n) (fun_of t f)
Fits t above slots _ = Unit {0}

-- numbers that go up by one from here
abbrev pub From : (first : ℕ) → List ℕ → Type 0
From i ks = (j k : ℕ) → slice_get ks j ≡ Some k → k ≡ i + j

module _ (t : Table) where
  pub holds_on : (slots : List ℕ) (s : ℕ) (a b : Head) → Holds t slots s a → SameTypes a b → Holds t slots s b
  holds_on slots s a b holds same = (holds.0, holds.1, types_on (fun_of t holds.0) a b holds.2 same)

  pub holds_still : (old more : List ℕ) (s : ℕ) (h : Head) → KeepsTypes t old more → Holds t old s h → Holds t more s h
  holds_still old more s h keeps holds = holds_on more s (fun_of t holds.0) h (keeps s holds.0 holds.1) holds.2

  pub keeps_all : (slots : List ℕ) → KeepsTypes t slots slots
  keeps_all slots s g at = (g, at, types_same (fun_of t g))

  pub keeps_on : (old more most : List ℕ) → KeepsTypes t old more → KeepsTypes t more most → KeepsTypes t old most
  keeps_on old more most keeps next s g at = holds_still more most s (fun_of t g) next (keeps s g at)

  keeps_end : (slots : List ℕ) (f : ℕ) → KeepsTypes t slots (slots ++ f ∷ [])
  keeps_end slots f s g at = (g, get_front slots (f ∷ []) s g at, types_same (fun_of t g))

  keeps_set : (slots : List ℕ) (i f : ℕ) → Holds t slots i (fun_of t f) → KeepsTypes t slots (slice_set slots i f)
  keeps_set slots i f holds = set_keeps (λ x y. SameTypes (fun_of t x) (fun_of t y)) (λ x. types_same (fun_of t x)) slots i f
      (λ x at. subst (λ y. SameTypes (fun_of t f) (fun_of t y)) (some_is (sym holds.1 ∙ at)) (types_back (fun_of t holds.0) (fun_of t f) holds.2))

  -- one member, and all ---------------------------------------------------------------------------

  module _ (above : List ℕ) where
    keeps_own : (slots : List ℕ) (m : Name × Own) → Fits t above slots m → KeepsTypes t slots (with_own t above slots m)
    keeps_own slots (n, own.Fun f (by.NewSlot k)) fits = keeps_end slots f
    keeps_own slots (n, own.Fun f by.Override) fits = keeps_set slots (slot_in t above n) f fits
    keeps_own slots _ fits = keeps_all slots

    fits_still : (old more : List ℕ) → KeepsTypes t old more → (m : Name × Own) → Fits t above old m → Fits t above more m
    fits_still old more keeps (n, own.Fun f by.Override) fits = holds_still old more (slot_in t above n) (fun_of t f) keeps fits
    fits_still old more keeps _ fits = tt

    fit_still : (slots : List ℕ) (m : Name × Own) (ms : List (Name × Own)) → Each (Fits t above slots) (m ∷ ms) → Each (Fits t above (with_own t above slots m)) ms
    fit_still slots m ms fit = each_also (Fits t above slots) (Fits t above (with_own t above slots m)) (fits_still slots (with_own t above slots m) (keeps_own slots m fit.0)) ms fit.1

    pub keeps_members : (slots : List ℕ) (ms : List (Name × Own)) → Each (Fits t above slots) ms → KeepsTypes t slots (with_all t above slots ms)
    keeps_members slots [] fit = keeps_all slots
    keeps_members slots (m ∷ ms) fit =
        keeps_on slots (with_own t above slots m) (with_all t above (with_own t above slots m) ms) (keeps_own slots m fit.0)
        (keeps_members (with_own t above slots m) ms (fit_still slots m ms fit))

    pub length-with_all : (slots : List ℕ) (ms : List (Name × Own)) → length (with_all t above slots ms) ≡ length slots + length (new_slots ms)
    length-with_all slots [] = sym (add-zero (length slots))
    length-with_all slots ((n, own.Fun f (by.NewSlot k)) ∷ ms) = omega (arith, length-with_all (slots ++ f ∷ []) ms, length_push slots f)
    length-with_all slots ((n, own.Fun f by.Override) ∷ ms) = length-with_all (slice_set slots (slot_in t above n) f) ms ∙ ap (λ k. k + length (new_slots ms)) (length-set slots (slot_in t above n) f)
    length-with_all slots (m ∷ ms) = length-with_all slots ms

    -- new slots ---------------------------------------------------------------------------------

    -- an override stands in one of the first slots
    abbrev pub AmongFirst : (first : ℕ) → Name × Own → Type 0
    AmongFirst first (n, own.Fun f by.Override) = slot_in t above n < first
    AmongFirst first _ = Unit {0}

    stays_own : (first : ℕ) (slots : List ℕ) (m : Name × Own) → AmongFirst first m → (s g : ℕ) → first ≤ s → slice_get slots s ≡ Some g
        → slice_get (with_own t above slots m) s ≡ Some g
    stays_own first slots (n, own.Fun f (by.NewSlot k)) among s g behind at = get_front slots (f ∷ []) s g at
    stays_own first slots (n, own.Fun f by.Override) among s g behind at = get_other slots (slot_in t above n) f s (λ same. absurd (omega (arith, same, among, behind))) ∙ at
    stays_own first slots _ among s g behind at = at

    stays : (first : ℕ) (slots : List ℕ) (ms : List (Name × Own)) → Each (AmongFirst first) ms → (s g : ℕ) → first ≤ s → slice_get slots s ≡ Some g
        → slice_get (with_all t above slots ms) s ≡ Some g
    stays first slots [] among s g behind at = at
    stays first slots (m ∷ ms) among s g behind at = stays first (with_own t above slots m) ms among.1 s g behind (stays_own first slots m among.0 s g behind at)

    -- a new slot stands as many places behind the first as its number says
    pub new_slot_at : (first i : ℕ) (slots : List ℕ) (ms : List (Name × Own)) → Each (AmongFirst first) ms → length slots ≡ first + i → From i (new_slots ms)
        → (n : Name) (f k : ℕ) → lookup n ms ≡ Some (own.Fun f (by.NewSlot k)) → slice_get (with_all t above slots ms) (first + k) ≡ Some f
    new_slot_at first i slots [] among long from n f k at = absurd (cc)
    new_slot_at first i slots ((m, own.Fun g (by.NewSlot j)) ∷ ms) among long from n f k at =
        pick (bytes_eq n m) (own.Fun g (by.NewSlot j)) (own.Fun f (by.NewSlot k)) (lookup n ms) at here
        (new_slot_at first (suc i) (slots ++ g ∷ []) ms among.1 (omega (arith, length_push slots g, long)) (λ e l got. omega (arith, from (suc e) l got)) n f k)
      where
        here : own.Fun g (by.NewSlot j) ≡ own.Fun f (by.NewSlot k) → slice_get (with_all t above (slots ++ g ∷ []) ms) (first + k) ≡ Some f
        here same =
            let fun : g ≡ f = cc in
            let number : j ≡ k = cc in
            stays first (slots ++ g ∷ []) ms among.1 (first + k) f (omega arith)
            (get_last slots g (first + k) (omega (arith, long, number, from 0 j refl)) ∙ ap Some fun)
    new_slot_at first i slots ((m, own.Fun g by.Override) ∷ ms) among long from n f k at =
        pick (bytes_eq n m) (own.Fun g by.Override) (own.Fun f (by.NewSlot k)) (lookup n ms) at (λ same. absurd (cc))
        (new_slot_at first i (slice_set slots (slot_in t above m) g) ms among.1 (length-set slots (slot_in t above m) g ∙ long) from n f k)
    new_slot_at first i slots ((m, o) ∷ ms) among long from n f k at =
        pick (bytes_eq n m) o (own.Fun f (by.NewSlot k)) (lookup n ms) at (λ same. absurd (cc)) (new_slot_at first i slots ms among.1 long from n f k)
