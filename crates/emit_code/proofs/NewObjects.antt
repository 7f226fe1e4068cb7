-- The classes that do something with a new object, and how long their code is.
use Rattle.std.proofs.Common.{◌≡◌, ℕ, zero, suc, ◌+◌, ◌-◌, ◌*◌, ◌<◌, ◌≤◌, List, [], ◌∷◌, ◌++◌, length, Some, refl, sym, ap, ◌∙◌, arith, slice_get}
use Rattle.std.proofs.lemmas.Option.{slice_get_past}
use Rattle.ck_store.specs.Objects.{own_body, with_class, bodies_within, bodies_of}
use Rattle.ck_typed.specs.declared.class.Class.{Class}
use Rattle.ck_scheme.specs.Scheme.{bodies_end}

-- three instructions for each
pub bodies-end : (p : ℕ) (bodies : List ℕ) → bodies_end p bodies ≡ p + 3 * length bodies
bodies-end p [] = omega arith
bodies-end p (f ∷ bodies) = omega (arith, bodies-end (p + 1 + 1 + 1) bodies)

pub bodies-all : (classes : List Class) (c : ℕ)
    → bodies_of classes c ≡ bodies_within classes (length classes) c
unfolding bodies_of
bodies-all classes c = refl

-- none where none are looked at, at Object, and where there is no class
pub bodies-none : (classes : List Class) (n c : ℕ) → n ≡ 0 → bodies_within classes n c ≡ []
bodies-none classes zero c is = refl
bodies-none classes (suc n) c is = absurd (cc is)

pub bodies-object : (classes : List Class) (n c : ℕ) → c ≡ 0 → bodies_within classes n c ≡ []
bodies-object classes zero zero is = refl
bodies-object classes (suc n) zero is = refl
bodies-object classes n (suc c) is = absurd (cc is)

pub bodies-past : (classes : List Class) (n c : ℕ) → length classes ≤ c
    → bodies_within classes n c ≡ []
bodies-past classes zero c past = refl
bodies-past classes (suc n) zero past = refl
bodies-past classes (suc n) (suc c) past =
    ap (λ o. with_class o [] (λ class.
    bodies_within classes n class.parent ++ own_body class.body))
    (slice_get_past classes (suc c) past)

-- those of the parent, and then the class's own
pub bodies-more : (classes : List Class) (n c : ℕ) (class : Class) → 0 < n → 0 < c
    → slice_get classes c ≡ Some class
    → bodies_within classes n c ≡ bodies_within classes (n - 1) class.parent ++ own_body class.body
bodies-more classes zero c class some more at = absurd (omega (arith, some))
bodies-more classes (suc n) zero class some more at = absurd (omega (arith, more))
bodies-more classes (suc n) (suc c) class some more at =
    let less : suc n - 1 ≡ n = omega arith in
    ap (λ o. with_class o [] (λ class.
    bodies_within classes n class.parent ++ own_body class.body)) at
    ∙ ap (λ m. bodies_within classes m class.parent ++ own_body class.body) (sym less)

pub ruleset making = (bodies-end, bodies-all)
