-- Families of shreds grow: the first shreds are one, and so are those after one more child.
use Rattle.std.proofs.Common.{◌≡◌, ℕ, suc, ◌+◌, ◌≤◌, Bool, true, false, cond, ◌||◌, nat_eq, List, [], ◌∷◌, ◌++◌, length, map, find, Some, inl, inr, refl, sym, subst, arith, append-nil, append_assoc}
use Rattle.ck_run.specs.Run.{Shred, Runner, has, first_shreds}
use Rattle.ck_run.specs.Family.{AreInOrder, AreParented, IsFamily}

module _ {P : Type 0} where
  -- one more shred in a family
  order-push : (shreds : List (Shred P)) (s : Shred P) (from k : ℕ) → AreInOrder from k shreds
      → from ≤ k → s.number ≡ k → AreInOrder from (suc k) (shreds ++ s ∷ [])
  order-push [] s from k order le e = (omega (arith, le, e), omega (arith, e), tt)
  order-push (t ∷ rest) s from k order le e = (
    order.0,
    omega (arith, order.1),
    order-push rest s (suc t.number) k order.2 (omega (
      arith,
      order.1,
    )) e,
  )

  pub order-higher : (shreds : List (Shred P)) (from k : ℕ) → AreInOrder from k shreds
      → AreInOrder from (suc k) shreds
  order-higher [] from k order = tt
  order-higher (t ∷ rest) from k order =
      (order.0, omega (arith, order.1), order-higher rest (suc t.number) k order.2)

  abbrev numbers : List (Shred P) → List ℕ
  numbers shreds = map (λ (s : Shred P). s.number) shreds

  parents-push : (before : List ℕ) (shreds : List (Shred P)) (s : Shred P)
      → AreParented before shreds → has (before ++ numbers shreds) s.parent ≡ true
      → AreParented before (shreds ++ s ∷ [])
  parents-push before [] s parents is =
      (inr (subst (λ ns. has ns s.parent ≡ true) (append-nil before) is), tt)
  parents-push before (t ∷ rest) s parents is = (
    parents.0,
    parents-push (before ++ t.number
        ∷ []) rest s parents.1 (subst (λ ns. has ns s.parent
        ≡ true) (sym (append_assoc before (t.number ∷ []) (numbers rest))) is),
  )

  has-found : (n : ℕ) (shreds : List (Shred P)) (s : Shred P)
      → find (λ s. nat_eq s.number n) shreds ≡ Some s → has (numbers shreds) n ≡ true
  has-found n [] s is = absurd (cc is)
  has-found n (t ∷ rest) s is = by (nat_eq t.number n) is (has-found n rest s)
    where
      by : (b : Bool) → cond b (Some t) (find (λ s. nat_eq s.number n) rest) ≡ Some s
          → (find (λ s. nat_eq s.number n) rest ≡ Some s → has (numbers rest) n ≡ true)
          → (b || has (numbers rest) n) ≡ true
      by true found ih = refl
      by false found ih = ih found

  -- a child of a live shred, with the next number
  pub family-push : (k : ℕ) (shreds : List (Shred P)) (s t : Shred P) → IsFamily k shreds → 1 ≤ k
      → s.number ≡ k → find (λ r. nat_eq r.number s.parent) shreds ≡ Some t
      → IsFamily (suc k) (shreds ++ s ∷ [])
  family-push k shreds s t family le e found = record {
    order = order-push shreds s 1 k family.order le e;
    parents = parents-push [] shreds s family.parents (has-found s.parent shreds t found);
  }

module _ {P : Type 0} (runner : Runner P) where
  first_order : (rest : List ℕ) (number : ℕ)
      → AreInOrder number (number + length rest) (first_shreds runner number rest)
  first_order [] number = tt
  first_order (f ∷ rest) number = (
    omega arith,
    omega arith,
    subst (λ below.
        AreInOrder (suc number) below (first_shreds runner (suc number) rest)) (omega arith)
        (first_order rest (suc number)),
  )

  first_parented : (rest : List ℕ) (number : ℕ) (before : List ℕ)
      → AreParented before (first_shreds runner number rest)
  first_parented [] number before = tt
  first_parented (f ∷ rest) number before =
      (inl refl, first_parented rest (suc number) (before ++ number ∷ []))

  -- the shreds of the files
  pub first_family : (mains : List ℕ) → IsFamily (suc (length mains)) (first_shreds runner 1 mains)
  first_family mains = record {
    order = subst (λ below. AreInOrder 1 below (first_shreds runner 1 mains)) (omega arith)
        (first_order mains 1);
    parents = first_parented mains 1 [];
  }
