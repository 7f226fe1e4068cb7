-- Parts of lists.
use Rattle.std.proofs.Common.{◌≡◌, ℕ, zero, suc, ◌<◌, ◌≤◌, List, [], ◌∷◌, ◌++◌, map, take, drop, get_or, length, Option, Some, IfSome, slice_get, subst, sym, ap, refl, ◌∙◌, arith}
use Rattle.std.proofs.Math.Seq.{drop-cons}

pub map-push : {A B : Type 0} (f : A → B) (xs : List A) (x : A) → map f (xs ++ x ∷ []) ≡ map f xs ++ f x ∷ []
map-push f [] x = refl
map-push f (y ∷ xs) x = ap (λ r. f y ∷ r) (map-push f xs x)

-- what an index reads
pub got : {A : Type 0} (xs : List A) (i : ℕ) (x : A) → i < length xs → x ≡ get_or xs i x
    → slice_get xs i ≡ Some x
got [] i x lt is = absurd (omega (arith, lt))
got (y ∷ ys) zero x lt is = ap (λ z. Some z) (sym is)
got (y ∷ ys) (suc i) x lt is = got ys i x (omega (arith, lt)) is

pub split_at : {A : Type 0} (xs : List A) (i : ℕ) (x : A) → i < length xs → x ≡ get_or xs i x
    → drop i xs ≡ x ∷ drop (suc i) xs
split_at xs i x lt is = drop-cons xs i x lt ∙ ap (λ y. y ∷ drop (suc i) xs) (sym is)

pub take_one : {A : Type 0} (xs : List A) (i : ℕ) (x : A) → i < length xs → x ≡ get_or xs i x
    → take (suc i) xs ≡ take i xs ++ x ∷ []
take_one [] i x lt is = absurd (omega (arith, lt))
take_one (y ∷ ys) zero x lt is = ap (λ z. z ∷ []) (sym is)
take_one (y ∷ ys) (suc i) x lt is = ap (λ r. y ∷ r) (take_one ys i x (omega (arith, lt)) is)

pub take_removed : {A : Type 0} (xs : List A) (i : ℕ) (ys : List A) → i ≤ length xs → take i (take i xs ++ ys)
    ≡ take i xs
take_removed [] zero ys le = refl
take_removed [] (suc i) ys le = absurd (omega (arith, le))
take_removed (x ∷ xs) zero ys le = refl
take_removed (x ∷ xs) (suc i) ys le = ap (λ r. x ∷ r) (take_removed xs i ys (omega (arith, le)))

pub drop_removed : {A : Type 0} (xs : List A) (i : ℕ) (ys : List A) → i ≤ length xs → drop i (take i xs ++ ys)
    ≡ ys
drop_removed [] zero ys le = refl
drop_removed [] (suc i) ys le = absurd (omega (arith, le))
drop_removed (x ∷ xs) zero ys le = refl
drop_removed (x ∷ xs) (suc i) ys le = drop_removed xs i ys (omega (arith, le))

pub take_all : {A : Type 0} (xs : List A) (i : ℕ) → length xs ≤ i → take i xs ≡ xs
take_all [] zero le = refl
take_all [] (suc i) le = refl
take_all (x ∷ xs) zero le = absurd (omega (arith, le))
take_all (x ∷ xs) (suc i) le = ap (λ r. x ∷ r) (take_all xs i (omega (arith, le)))

pub drop_all : {A : Type 0} (xs : List A) (i : ℕ) → length xs ≤ i → drop i xs ≡ []
drop_all [] zero le = refl
drop_all [] (suc i) le = refl
drop_all (x ∷ xs) zero le = absurd (omega (arith, le))
drop_all (x ∷ xs) (suc i) le = drop_all xs i (omega (arith, le))

pub empty_by : {A : Type 0} (xs : List A) → length xs ≡ 0 → xs ≡ []
empty_by [] e = refl
empty_by (x ∷ xs) e = absurd (omega (arith, e))

pub at_some : {A : Type 0} (P : A → Type 0) (o : Option A) (x : A) → o ≡ Some x → P x → IfSome o P
at_some P o x e h = subst (λ o. IfSome o P) (sym e) h

pub of_some : {A : Type 0} (P : A → Type 0) (o : Option A) (x : A) → o ≡ Some x → IfSome o P → P x
of_some P o x e h = subst (λ o. IfSome o P) e h
