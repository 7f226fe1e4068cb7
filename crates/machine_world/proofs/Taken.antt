-- Operands that are taken as arguments.
use Rattle.std.proofs.Common.{◌≡◌, ℕ, zero, suc, ◌≤◌, List, [], ◌∷◌, ◌++◌}
use Rattle.std.proofs.Common.{take, drop, length, reverse, refl, ap, sym, ◌∙◌, arith, append_assoc}
use Rattle.std.proofs.lemmas.List.{append-nil as append_nil, reverse-append, map-append}
use Rattle.std.proofs.lemmas.List.{length-take-le, take-append-drop}
use Rattle.ck_values.specs.declared.value.Value.{Value}
use Rattle.ck_values.specs.Datum.{Datum, meant, all_meant}
use Rattle.ck_store.specs.Store.{Gives}
use Rattle.ck_code.specs.Machine.{taken}
use Rattle.ck_store.specs.Store.{IsFitting}

-- the topmost operands are taken, the last one pushed at the end
taken_front : (front before beneath : List Datum)
    → taken (length front) before (front ++ beneath)
    ≡ Gives (record { arguments = reverse front ++ before; beneath = beneath })
taken_front [] before beneath = refl
taken_front (v ∷ front) before beneath =
    taken_front front (v ∷ before) beneath
    ∙ ap (λ vs. Gives (record { arguments = vs; beneath = beneath }))
    (sym (ap (λ vs. vs ++ before) (reverse-append (v ∷ []) front)
    ∙ append_assoc (reverse front) (v ∷ []) before))

-- taking, in one equation
taken_is : (n : ℕ) (operands : List Datum) → n ≤ length operands
    → taken n [] operands
    ≡ Gives (record { arguments = reverse (take n operands); beneath = drop n operands })
taken_is n operands few =
    let front = take n operands in
    let beneath = drop n operands in
    let size : length (take n operands) ≡ n = length-take-le n operands few in
    ap (taken n []) (sym (take-append-drop n operands))
    ∙ ap (λ m. taken m [] (front ++ beneath)) (sym size)
    ∙ taken_front front [] beneath
    ∙ ap (λ vs. Gives (record { arguments = vs; beneath = beneath })) (append_nil (reverse front))

-- where operands can be taken, there are as many
pub taken_within : (n : ℕ) (before operands : List Datum) → IsFitting (taken n before operands)
    → n ≤ length operands
taken_within zero before operands fits = omega arith
taken_within (suc n) before [] fits = absurd fits
taken_within (suc n) before (v ∷ operands) fits =
    omega (arith, taken_within n (v ∷ before) operands fits)

-- and they are taken
pub taken_gives : (n : ℕ) (operands : List Datum) → IsFitting (taken n [] operands)
    → taken n [] operands
    ≡ Gives (record { arguments = reverse (take n operands); beneath = drop n operands })
taken_gives n operands fits = taken_is n operands (taken_within n [] operands fits)

-- values in the other order
pub reverse_meant : (values : List Value) → all_meant (reverse values) ≡ reverse (all_meant values)
reverse_meant [] = refl
reverse_meant (v ∷ values) =
    ap all_meant (reverse-append (v ∷ []) values)
    ∙ map-append meant (reverse values) (v ∷ [])
    ∙ ap (λ ds. ds ++ meant v ∷ []) (reverse_meant values)
    ∙ sym (reverse-append (meant v ∷ []) (all_meant values))

-- all were taken
pub taken_all : (values back : List Value) (left : ℕ) (ops all : List Datum) → left ≡ 0
    → back ≡ reverse values → all_meant values ++ take left ops ≡ all
    → all_meant back ≡ reverse all
taken_all values back left ops all none is so =
    ap all_meant is
    ∙ reverse_meant values
    ∙ ap reverse (sym (append_nil (all_meant values))
    ∙ ap (λ n. all_meant values ++ take n ops) (sym none)
    ∙ so)
