-- A call or a spork of a member function is that of the function that the object has in the slot.
use Rattle.std.proofs.Common.{◌≡◌, ℕ, zero, suc, ◌-◌, ◌≤◌, nat_eq, Bool, true, false, Option, Some, None, List, [], ◌∷◌, ◌++◌}
use Rattle.std.proofs.Common.{take, drop, length, reverse, slice_get, refl, ap, sym, subst, ◌∙◌, arith}
use Rattle.std.proofs.Math.Seq.{take-suc}
use Rattle.std.proofs.lemmas.Bool.{eqb-true}
use Rattle.std.proofs.lemmas.Option.{slice_get_within, get_or_from_slice_get}
use Rattle.std.proofs.lemmas.List.{reverse-append, length-reverse, length-take-le}
use Rattle.ck_values.specs.declared.trap.Place.{Place}
use Rattle.ck_values.specs.declared.trap.Trap.{Trap}
use Rattle.ck_values.specs.Datum.{Datum}
use Rattle.ck_typed.specs.WellFormed.{FoundWhere}
use Rattle.ck_store.specs.Store.{State, Try, Gives, Fails, Misfit}
use Rattle.ck_store.specs.Steps.{pick}
use Rattle.ck_store.specs.Objects.{method_of}
use Rattle.ck_code.specs.declared.code.CodeParts.{CodeParts}
use Rattle.ck_code.specs.declared.code.Fun.{Fun}
use Rattle.ck_code.specs.Machine.{Effect, Breaks, Bad, Taken, taken, tried, on_top, with_fun, entered, sporks_child}
use Rattle.machine_world.specs.Shown.{Shown}
use Rattle.machine_world.specs.Steps.{IsGood}
use Rattle.ck_store.specs.Store.{IsFitting}
use Rattle.machine_world.proofs.Taken.{taken_within, taken_gives}

pub good_fits : {A : Type 0} (t : Try A) (place : Place) (s : State) (go : A → Effect)
    → IsGood (tried t place s go) → IsFitting t
good_fits (Gives a) place s go good = tt
good_fits (Fails trap) place s go good = tt
good_fits Misfit place s go good = absurd good

-- the object is the deepest operand
pub take_last : {A : Type 0} (xs : List A) (m : ℕ) (x : A) → slice_get xs m ≡ Some x
    → take (suc m) xs ≡ take m xs ++ x ∷ []
take_last xs m x is =
    take-suc xs m x (slice_get_within xs m x is)
    ∙ ap (λ y. take m xs ++ y ∷ []) (get_or_from_slice_get xs m x x is)

abbrev from_there : Datum → List Datum → ℕ → Taken
from_there x ops m = record { arguments = x ∷ reverse (take m ops); beneath = drop (suc m) ops }

taken_last : (ops : List Datum) (m : ℕ) (x : Datum) → slice_get ops m ≡ Some x
    → IsFitting (taken (suc m) [] ops) → taken (suc m) [] ops ≡ Gives (from_there x ops m)
taken_last ops m x is fits =
    taken_gives (suc m) ops fits
    ∙ ap (λ vs. Gives (record { arguments = vs; beneath = drop (suc m) ops }))
    (ap reverse (take_last ops m x is) ∙ reverse-append (take m ops) (x ∷ []))

-- what is done with a function that was found: it is called on these arguments, or a child is
-- sporked that will run it on them
abbrev pub calling : Place → Shown → State → Fun → (g : ℕ) → (arguments beneath : List Datum) → Effect
calling place shred s fn g arguments beneath =
    entered fn g arguments place shred.top.fun shred.top.place shred.top.locals beneath shred.below s

abbrev pub sporking : Place → Shown → State → Fun → (g : ℕ) → (arguments beneath : List Datum) → Effect
sporking place shred s fn g arguments beneath =
    sporks_child place g arguments shred.top.fun shred.top.place shred.top.locals beneath shred.below s

module _ (code : CodeParts) (place : Place) (slot : ℕ) (ops : List Datum) (s : State)
    (begins : Fun → ℕ → List Datum → List Datum → Effect) where
  -- it is done where the function takes so many arguments
  abbrev counted : Option Fun → ℕ → Taken → Effect
  counted o g t =
      with_fun o (λ fn. pick (nat_eq (length t.arguments) fn.params)
      (begins fn g t.arguments t.beneath) Bad)

  -- on so many operands as it takes
  abbrev pub direct : Option Fun → ℕ → Effect
  direct o g =
      with_fun o (λ fn. tried (taken fn.params [] ops) place s (λ t.
      begins fn g t.arguments t.beneath))

  -- with the function that stands in the slot of the object
  abbrev finds : Taken → Effect
  finds t =
      on_top t.arguments (λ r others.
      tried (method_of code.classes s.store.objects r slot) place s (λ g.
      counted (slice_get code.funs g) g (record { arguments = r ∷ others; beneath = t.beneath })))

  abbrev pub sends_on : ℕ → Effect
  sends_on n = tried (taken n [] ops) place s finds

  -- it takes an object at least, and no more operands than there are
  pub sends_some : (n : ℕ) → IsGood (sends_on n) → 1 ≤ n
  sends_some zero good = absurd good
  sends_some (suc n) good = omega arith

  one_less : (n : ℕ) → IsGood (sends_on n) → n ≡ suc (n - 1)
  one_less n good = omega (arith, sends_some n good)

  pub sends_within : (n : ℕ) → IsGood (sends_on n) → n ≤ length ops
  sends_within n good = taken_within n [] ops (good_fits (taken n [] ops) place s _ good)

  -- and it goes to what stands in the slot
  takes : (n : ℕ) (x : Datum) → slice_get ops (n - 1) ≡ Some x → IsGood (sends_on n)
      → taken n [] ops ≡ Gives (from_there x ops (n - 1))
  takes n x is good =
      let fits = good_fits (taken n [] ops) place s _ good in
      let less = one_less n good in
      ap (λ k. taken k [] ops) less
      ∙ taken_last ops (n - 1) x is (subst (λ k. IsFitting (taken k [] ops)) less fits)

  sends_as : (n : ℕ) (x : Datum) → slice_get ops (n - 1) ≡ Some x → IsGood (sends_on n)
      → sends_on n ≡ finds (from_there x ops (n - 1))
  sends_as n x is good = ap (λ t. tried t place s finds) (takes n x is good)

  pub sends_fits : (n : ℕ) (x : Datum) → slice_get ops (n - 1) ≡ Some x → IsGood (sends_on n)
      → IsFitting (method_of code.classes s.store.objects x slot)
  sends_fits n x is good =
      good_fits (method_of code.classes s.store.objects x slot) place s _
      (subst IsGood (sends_as n x is good) good)

  abbrev found_there : ℕ → Datum → ℕ → Effect
  found_there n x g = counted (slice_get code.funs g) g (from_there x ops (n - 1))

  -- null is a trap
  pub sends_breaks : (n : ℕ) (x : Datum) (trap : Trap) → slice_get ops (n - 1) ≡ Some x
      → IsGood (sends_on n) → method_of code.classes s.store.objects x slot ≡ Fails trap
      → sends_on n ≡ Breaks trap place s
  sends_breaks n x trap is good null =
      sends_as n x is good ∙ ap (λ r. tried r place s (found_there n x)) null

  record IsCounted (o : Option Fun) (g : ℕ) (t : Taken) : Type 0 where
    pub same : counted o g t ≡ direct o g
    pub arguments : FoundWhere o (λ fn. IsFitting (taken fn.params [] ops))

  counts : (o : Option Fun) (g : ℕ) (t : Taken) → taken (length t.arguments) [] ops ≡ Gives t
      → IsGood (counted o g t) → IsCounted o g t
  counts None g t is good = absurd good
  counts (Some fn) g t is good = go (nat_eq (length t.arguments) fn.params) refl good
    where
      go : (b : Bool) → nat_eq (length t.arguments) fn.params ≡ b
          → IsGood (pick b (begins fn g t.arguments t.beneath) Bad) → IsCounted (Some fn) g t
      go true so good =
          let takes : taken fn.params [] ops ≡ Gives t =
          subst (λ n. taken n [] ops ≡ Gives t) (eqb-true (length t.arguments) fn.params so) is in
          record {
            same = ap (λ b. pick b (begins fn g t.arguments t.beneath) Bad) so
                ∙ ap (λ r. tried r place s (λ t. begins fn g t.arguments t.beneath)) (sym takes);
            arguments = subst IsFitting (sym takes) tt;
          }
      go false so good = absurd good

  -- a function that takes so many arguments begins on them
  pub record BeginsSo (g : ℕ) (e : Effect) : Type 0 where
    pub same : e ≡ direct (slice_get code.funs g) g
    pub arguments : FoundWhere (slice_get code.funs g) (λ fn. IsFitting (taken fn.params [] ops))

  pub sends_begin : (n : ℕ) (x : Datum) (g : ℕ) → slice_get ops (n - 1) ≡ Some x
      → IsGood (sends_on n) → method_of code.classes s.store.objects x slot ≡ Gives g
      → BeginsSo g (sends_on n)
  sends_begin n x g is good found =
      let t : Taken = from_there x ops (n - 1) in
      let some = sends_some n good in
      let few = sends_within n good in
      let others : length (reverse (take (n - 1) ops)) ≡ n - 1 =
      length-reverse (take (n - 1) ops) ∙ length-take-le (n - 1) ops (omega (arith, few)) in
      let size : n ≡ length t.arguments = omega (arith, some, others) in
      let takes : taken (length t.arguments) [] ops ≡ Gives t =
      subst (λ k. taken k [] ops ≡ Gives t) size (takes n x is good) in
      let goes : sends_on n ≡ counted (slice_get code.funs g) g t =
      sends_as n x is good ∙ ap (λ r. tried r place s (found_there n x)) found in
      let so = counts (slice_get code.funs g) g t takes (subst IsGood goes good) in
      record { same = goes ∙ so.same; arguments = so.arguments }
