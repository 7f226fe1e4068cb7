-- Lines of prints, and the operands that they take.
use Rattle.std.proofs.Common.{◌≡◌, ℕ, suc, false, ◌-◌, ◌<◌, ◌≤◌, List, [], ◌∷◌, ◌++◌, length, take, reverse, Some}
use Rattle.std.proofs.Common.{slice_get, refl, ap, sym, subst, ◌∙◌, arith, append_assoc}
use Rattle.std.proofs.lemmas.List.{append-nil as append_nil, reverse-append, length-reverse, length-take-le}
use Rattle.std.proofs.lemmas.Option.{slice_get_within}
use Rattle.ck_values.specs.Datum.{Datum}
use Rattle.ck_store.specs.Prints.{spaced}
use Rattle.ck_store.specs.Strings.{printed}
use Rattle.machine_world.proofs.Sends.{take_last}

-- the items up to a depth, the deepest first
abbrev pub items_of : ℕ → List Datum → List Datum
items_of n ops = reverse (take n ops)

pub items_suc : (n : ℕ) (ops : List Datum) (v : Datum) → slice_get ops n ≡ Some v
    → items_of (suc n) ops ≡ v ∷ items_of n ops
items_suc n ops v is = ap reverse (take_last ops n v is) ∙ reverse-append (take n ops) (v ∷ [])

-- an item in front of others, and one alone
spaced_before : (v : Datum) (values : List Datum) → 0 < length values
    → spaced (v ∷ values) ≡ printed false v ++ 32 ∷ spaced values
spaced_before v [] some = absurd (omega arith)
spaced_before v (w ∷ values) some = refl

pub spaced_more : (n : ℕ) (ops : List Datum) (v : Datum) → slice_get ops n ≡ Some v → 0 < n
    → spaced (items_of (suc n) ops) ≡ printed false v ++ 32 ∷ spaced (items_of n ops)
spaced_more n ops v is some =
    let few = slice_get_within ops n v is in
    let size : length (items_of n ops) ≡ n =
    length-reverse (take n ops) ∙ length-take-le n ops (omega (arith, few)) in
    ap spaced (items_suc n ops v is) ∙ spaced_before v (items_of n ops) (omega (arith, size))

-- an item with a space behind it is added
pub items_step : (whole before shown1 after : List ℕ) (ops : List Datum) (left : ℕ) (v : Datum)
    → 0 < left → 0 < left - 1 → slice_get ops (left - 1) ≡ Some v
    → whole ≡ before ++ spaced (items_of left ops) → shown1 ≡ before ++ printed false v
    → after ≡ shown1 ++ 32 ∷ [] → whole ≡ after ++ spaced (items_of (left - 1) ops)
items_step whole before shown1 after ops left v some more is so is_shown is_after =
    let rest = spaced (items_of (left - 1) ops) in
    let one : left ≡ suc (left - 1) = omega arith in
    so
    ∙ ap (λ n. before ++ spaced (items_of n ops)) one
    ∙ ap (λ xs. before ++ xs) (spaced_more (left - 1) ops v is more)
    ∙ sym (append_assoc before (printed false v) (32 ∷ rest))
    ∙ ap (λ xs. xs ++ 32 ∷ rest) (sym is_shown)
    ∙ sym (append_assoc shown1 (32 ∷ []) rest)
    ∙ ap (λ xs. xs ++ rest) (sym is_after)

-- the last item is added
pub items_end : (whole before after : List ℕ) (ops : List Datum) (left : ℕ) (v : Datum)
    → 0 < left → left - 1 ≤ 0 → slice_get ops (left - 1) ≡ Some v
    → whole ≡ before ++ spaced (items_of left ops) → after ≡ before ++ printed false v
    → whole ≡ after ++ spaced (items_of (left - 1) ops)
items_end whole before after ops left v some last is so is_after =
    let one : left ≡ 1 = omega arith in
    let none : left - 1 ≡ 0 = omega arith in
    so
    ∙ ap (λ n. before ++ spaced (items_of n ops)) one
    ∙ ap (λ vs. before ++ spaced vs)
    (items_suc 0 ops v (subst (λ n. slice_get ops n ≡ Some v) none is))
    ∙ sym is_after
    ∙ sym (append_nil after)
    ∙ ap (λ n. after ++ spaced (items_of n ops)) (sym none)
