-- Runs by the source and by the code that stand alike.
use Rattle.std.proofs.Common.{◌≡◌, ℕ, suc, ◌⊎◌, inl, inr, List, [], ◌∷◌, ◌++◌, length, map, filter, find, fold, Option, Some, None, Bool, true, false, not, cond, ◌||◌, refl, sym, ap, ◌∙◌, subst, nat_eq, T, eq-eqb, eqb→eq}
use Rattle.ck_store.specs.Steps.{pick}
use Rattle.ck_run.specs.Run.{Shred, has, one_more_ends, came}

pub same_number : (m n : ℕ) → nat_eq m n ≡ true → m ≡ n
same_number m n e = eqb→eq m n (subst T (sym e) tt)

module _ {A B : Type 0} (Alike : ℕ → A → B → Type 0) where
  -- the shreds have the same numbers and parents, and came to the same, but for some
  abbrev pub AllAlike : (ℕ → Type 0) → List (Shred A) → List (Shred B) → Type 0
  AllAlike P [] [] = Unit {0}
  AllAlike P [] (b ∷ ys) = ⊥
  AllAlike P (a ∷ xs) [] = ⊥
  AllAlike P (a ∷ xs) (b ∷ ys) =
      (a.number ≡ b.number) × (a.parent ≡ b.parent)
      × ((Alike a.number a.progress b.progress) ⊎ (P a.number)) × AllAlike P xs ys

  pub alike_weaker : (P Q : ℕ → Type 0) → ((m : ℕ) → P m → Q m)
      → (xs : List (Shred A)) (ys : List (Shred B)) → AllAlike P xs ys → AllAlike Q xs ys
  alike_weaker P Q more [] [] h = tt
  alike_weaker P Q more [] (b ∷ ys) h = absurd h
  alike_weaker P Q more (a ∷ xs) [] h = absurd h
  alike_weaker P Q more (a ∷ xs) (b ∷ ys) h = (
    h.0,
    h.1,
    elim h.2 [ inl x ↦ inl x | inr y ↦ inr (more a.number y) ],
    alike_weaker P Q more xs ys h.3,
  )

  -- so they do with one more
  pub alike_more : (P : ℕ → Type 0) (c : Shred A) (d : Shred B) → c.number ≡ d.number
      → c.parent ≡ d.parent → Alike c.number c.progress d.progress
      → (xs : List (Shred A)) (ys : List (Shred B)) → AllAlike P xs ys
      → AllAlike P (xs ++ c ∷ []) (ys ++ d ∷ [])
  alike_more P c d number parent alike [] [] h = (number, parent, inl alike, tt)
  alike_more P c d number parent alike [] (b ∷ ys) h = absurd h
  alike_more P c d number parent alike (a ∷ xs) [] h = absurd h
  alike_more P c d number parent alike (a ∷ xs) (b ∷ ys) h =
      (h.0, h.1, h.2, alike_more P c d number parent alike xs ys h.3)

  pub same_count : (P : ℕ → Type 0) (xs : List (Shred A)) (ys : List (Shred B)) → AllAlike P xs ys
      → length xs ≡ length ys
  same_count P [] [] h = refl
  same_count P [] (b ∷ ys) h = absurd h
  same_count P (a ∷ xs) [] h = absurd h
  same_count P (a ∷ xs) (b ∷ ys) h = ap suc (same_count P xs ys h.3)

  -- the live shreds of one number: there are none, or both are alike
  pub data LiveAlike (P : ℕ → Type 0) (n : ℕ) (xs : List (Shred A))
      (ys : List (Shred B)) : Option (Shred A) → Option (Shred B) → Type 0 where
    both_none : AllAlike (λ m. P m × (m ≡ n → ⊥)) xs ys → LiveAlike P n xs ys None None
    both_some : (a : Shred A) (b : Shred B) → a.number ≡ n → b.number ≡ n
        → (Alike a.number a.progress b.progress) ⊎ (P a.number)
        → LiveAlike P n xs ys (Some a) (Some b)

  live_more : (P : ℕ → Type 0) (n : ℕ) (a : Shred A) (b : Shred B) (xs : List (Shred A))
      (ys : List (Shred B)) → (a.number ≡ b.number) → (a.parent ≡ b.parent)
      → (Alike a.number a.progress b.progress) ⊎ (P a.number) → (a.number ≡ n → ⊥)
      → (oa : Option (Shred A)) (ob : Option (Shred B)) → LiveAlike P n xs ys oa ob
      → LiveAlike P n (a ∷ xs) (b ∷ ys) oa ob
  live_more P n a b xs ys e1 e2 h other _ _ (both_none rest) =
      both_none (e1, e2, elim h [ inl x ↦ inl x | inr y ↦ inr (y, other) ], rest)
  live_more P n a b xs ys e1 e2 h other _ _ (both_some c d n1 n2 k) = both_some c d n1 n2 k

  live_step : (P : ℕ → Type 0) (n : ℕ) (a : Shred A) (b : Shred B) (xs : List (Shred A))
      (ys : List (Shred B)) (x y : Bool) → nat_eq a.number n ≡ x → nat_eq b.number n ≡ y
      → a.number ≡ b.number → a.parent ≡ b.parent
      → (Alike a.number a.progress b.progress) ⊎ (P a.number)
      → LiveAlike P n xs ys (find (λ s. nat_eq s.number n) xs) (find (λ s. nat_eq s.number n) ys)
      → LiveAlike P n (a ∷ xs) (b ∷ ys) (cond x (Some a) (find (λ s. nat_eq s.number n) xs))
      (cond y (Some b) (find (λ s. nat_eq s.number n) ys))
  live_step P n a b xs ys true true ex ey e1 e2 h rest =
      both_some a b (same_number a.number n ex) (same_number b.number n ey) h
  live_step P n a b xs ys true false ex ey e1 e2 h rest =
      absurd (cc (ex, ey, ap (λ m. nat_eq m n) e1))
  live_step P n a b xs ys false true ex ey e1 e2 h rest =
      absurd (cc (ex, ey, ap (λ m. nat_eq m n) e1))
  live_step P n a b xs ys false false ex ey e1 e2 h rest =
      live_more P n a b xs ys e1 e2 h (λ is. cc (ex, eq-eqb a.number n is)) _ _ rest

  pub live_alike : (P : ℕ → Type 0) (n : ℕ) (xs : List (Shred A)) (ys : List (Shred B))
      → AllAlike P xs ys → LiveAlike P n xs ys (find (λ s. nat_eq s.number n) xs)
      (find (λ s. nat_eq s.number n) ys)
  live_alike P n [] [] h = both_none tt
  live_alike P n [] (b ∷ ys) h = absurd h
  live_alike P n (a ∷ xs) [] h = absurd h
  live_alike P n (a ∷ xs) (b ∷ ys) h =
      live_step P n a b xs ys (nat_eq a.number n) (nat_eq b.number n) refl refl h.0 h.1 h.2
      (live_alike P n xs ys h.3)

  -- one shred came to where both stand alike, or is one of the others
  came_step : (P Q : ℕ → Type 0) (n : ℕ) (pa : A) (pb : B) (a : Shred A) (b : Shred B) (x y : Bool)
      → nat_eq a.number n ≡ x → nat_eq b.number n ≡ y → ((m : ℕ) → P m → Q m)
      → (Alike n pa pb) ⊎ (Q n) → a.number ≡ b.number → a.parent ≡ b.parent
      → (Alike a.number a.progress b.progress) ⊎ (P a.number)
      → (a2 : Shred A) (b2 : Shred B) → a2 ≡ pick x (record a { progress = pa }) a
      → b2 ≡ pick y (record b { progress = pb }) b
      → (a2.number ≡ b2.number) × (a2.parent ≡ b2.parent)
      × ((Alike a2.number a2.progress b2.progress) ⊎ (Q a2.number))
  came_step P Q n pa pb a b true true ex ey more both e1 e2 h a2 b2 ia ib =
      let is : n ≡ a.number = sym (same_number a.number n ex) in
      subst (λ s. (s.number ≡ b2.number) × (s.parent ≡ b2.parent)
      × ((Alike s.number s.progress b2.progress) ⊎ (Q s.number))) (sym ia)
      (subst (λ s. (a.number ≡ s.number) × (a.parent ≡ s.parent)
      × ((Alike a.number pa s.progress) ⊎ (Q a.number))) (sym ib) (
        e1,
        e2,
        subst (λ m. (Alike m pa pb) ⊎ (Q m)) is both,
      ))
  came_step P Q n pa pb a b true false ex ey more both e1 e2 h a2 b2 ia ib =
      absurd (cc (ex, ey, ap (λ m. nat_eq m n) e1))
  came_step P Q n pa pb a b false true ex ey more both e1 e2 h a2 b2 ia ib =
      absurd (cc (ex, ey, ap (λ m. nat_eq m n) e1))
  came_step P Q n pa pb a b false false ex ey more both e1 e2 h a2 b2 ia ib =
      subst (λ s. (s.number ≡ b2.number) × (s.parent ≡ b2.parent)
      × ((Alike s.number s.progress b2.progress) ⊎ (Q s.number))) (sym ia)
      (subst (λ s. (a.number ≡ s.number) × (a.parent ≡ s.parent)
      × ((Alike a.number a.progress s.progress) ⊎ (Q a.number))) (sym ib) (
        e1,
        e2,
        elim h [ inl k ↦ inl k | inr k ↦ inr (more a.number k) ],
      ))

  pub came_alike : (P Q : ℕ → Type 0) (n : ℕ) (pa : A) (pb : B) → ((m : ℕ) → P m → Q m)
      → (Alike n pa pb) ⊎ (Q n) → (xs : List (Shred A)) (ys : List (Shred B)) → AllAlike P xs ys
      → AllAlike Q (map (came n pa) xs) (map (came n pb) ys)
  came_alike P Q n pa pb more both [] [] h = tt
  came_alike P Q n pa pb more both [] (b ∷ ys) h = absurd h
  came_alike P Q n pa pb more both (a ∷ xs) [] h = absurd h
  came_alike P Q n pa pb more both (a ∷ xs) (b ∷ ys) h =
      let one =
      came_step P Q n pa pb a b (nat_eq a.number n)
      (nat_eq b.number n) refl refl more both h.0 h.1 h.2 (came n pa a)
      (came n pb b) refl refl in
      (one.0, one.1, one.2, came_alike P Q n pa pb more both xs ys h.3)

  -- the same shreds end
  pub ends_alike : (P : ℕ → Type 0) (n : ℕ) (xs : List (Shred A)) (ys : List (Shred B))
      (done : List ℕ) → AllAlike P xs ys → fold (one_more_ends n) done xs
      ≡ fold (one_more_ends n) done ys
  ends_alike P n [] [] done h = refl
  ends_alike P n [] (b ∷ ys) done h = absurd h
  ends_alike P n (a ∷ xs) [] done h = absurd h
  ends_alike P n (a ∷ xs) (b ∷ ys) done h =
      let one : one_more_ends n done a ≡ one_more_ends n done b =
      ap (λ m. pick (nat_eq m n || has done a.parent) (done ++ m ∷ []) done) h.0
      ∙ ap (λ m. pick (nat_eq b.number n || has done m) (done ++ b.number ∷ []) done) h.1 in
      ap (λ d. fold (one_more_ends n) d xs) one ∙ ends_alike P n xs ys (one_more_ends n done b) h.3

  kept_step : (P Q : ℕ → Type 0) (gone : List ℕ) (a : Shred A) (b : Shred B) (xs : List (Shred A))
      (ys : List (Shred B)) (x y : Bool) → has gone a.number ≡ x → has gone b.number ≡ y
      → (P a.number → (has gone a.number ≡ true) ⊎ (Q a.number)) → a.number ≡ b.number
      → a.parent ≡ b.parent → (Alike a.number a.progress b.progress) ⊎ (P a.number)
      → AllAlike Q xs ys → AllAlike Q (cond (not x) (a ∷ xs) xs) (cond (not y) (b ∷ ys) ys)
  kept_step P Q gone a b xs ys true true ex ey ends e1 e2 h rest = rest
  kept_step P Q gone a b xs ys true false ex ey ends e1 e2 h rest =
      absurd (cc (ex, ey, ap (has gone) e1))
  kept_step P Q gone a b xs ys false true ex ey ends e1 e2 h rest =
      absurd (cc (ex, ey, ap (has gone) e1))
  kept_step P Q gone a b xs ys false false ex ey ends e1 e2 h rest = (
    e1,
    e2,
    elim h [
      | inl k ↦ inl k
      | inr k ↦ elim
          (ends k) [ inl is ↦ absurd (cc (ex, is)) | inr q ↦ inr q ]
    ],
    rest,
  )

  -- what is left when some have ended
  pub kept_alike : (P Q : ℕ → Type 0) (gone : List ℕ) (xs : List (Shred A)) (ys : List (Shred B))
      → ((m : ℕ) → P m → (has gone m ≡ true) ⊎ (Q m)) → AllAlike P xs ys
      → AllAlike Q (filter (λ s. not (has gone s.number)) xs)
      (filter (λ s. not (has gone s.number)) ys)
  kept_alike P Q gone [] [] ends h = tt
  kept_alike P Q gone [] (b ∷ ys) ends h = absurd h
  kept_alike P Q gone (a ∷ xs) [] ends h = absurd h
  kept_alike P Q gone (a ∷ xs) (b ∷ ys) ends h =
      kept_step P Q gone a b _ _ (has gone a.number) (has gone b.number) refl refl
      (ends a.number) h.0 h.1 h.2 (kept_alike P Q gone xs ys ends h.3)

has_or : (b c d : Bool) → (c ≡ true → d ≡ true) → b || c ≡ true → b || d ≡ true
has_or true c d more h = refl
has_or false c d more h = more h

or_last : (b c : Bool) → c ≡ true → b || c ≡ true
or_last true c h = refl
or_last false c h = h

has_before : (done : List ℕ) (m n : ℕ) → has done n ≡ true → has (done ++ m ∷ []) n ≡ true
has_before [] m n h = absurd (cc h)
has_before (x ∷ done) m n h =
    has_or (nat_eq x n) (has done n) (has (done ++ m ∷ []) n) (has_before done m n) h

has_last : (done : List ℕ) (m n : ℕ) → m ≡ n → has (done ++ m ∷ []) n ≡ true
has_last [] m n e = ap (λ b. b || false) (eq-eqb m n e)
has_last (x ∷ done) m n e = or_last (nat_eq x n) (has (done ++ m ∷ []) n) (has_last done m n e)

-- shreds that stand alike in one way stand alike in a way that follows from it
pub alike_map : {A B : Type 0} (S T : ℕ → A → B → Type 0) (P : ℕ → Type 0)
    → ((n : ℕ) (a : A) (b : B) → S n a b → T n a b)
    → (xs : List (Shred A)) (ys : List (Shred B)) → AllAlike S P xs ys → AllAlike T P xs ys
alike_map S T P follows [] [] h = tt
alike_map S T P follows [] (b ∷ ys) h = absurd h
alike_map S T P follows (a ∷ xs) [] h = absurd h
alike_map S T P follows (a ∷ xs) (b ∷ ys) h = (
  h.0,
  h.1,
  elim h.2 [ inl x ↦ inl (follows a.number a.progress b.progress x) | inr y ↦ inr y ],
  alike_map S T P follows xs ys h.3,
)

module _ {A : Type 0} (n : ℕ) where
  one_keeps : (done : List ℕ) (a : Shred A) (m : ℕ) (b : Bool) → has done m ≡ true
      → has (pick b (done ++ a.number ∷ []) done) m ≡ true
  one_keeps done a m true h = has_before done a.number m h
  one_keeps done a m false h = h

  ends_keep : (xs : List (Shred A)) (done : List ℕ) (m : ℕ) → has done m ≡ true
      → has (fold (one_more_ends n) done xs) m ≡ true
  ends_keep [] done m h = h
  ends_keep (a ∷ xs) done m h =
      ends_keep xs (one_more_ends n done a) m
      (one_keeps done a m (nat_eq a.number n || has done a.parent) h)

  one_ends : (done : List ℕ) (a : Shred A) (b : Bool) → nat_eq a.number n ≡ true → a.number ≡ n
      → has (pick (nat_eq a.number n || b) (done ++ a.number ∷ []) done) n ≡ true
  one_ends done a b e is =
      subst (λ t. has (pick (t || b) (done ++ a.number ∷ []) done) n
      ≡ true) (sym e) (has_last done a.number n is)

  -- some shred of these has this number
  abbrev pub Among : List (Shred A) → Type 0
  Among [] = ⊥
  Among (a ∷ xs) = (a.number ≡ n) ⊎ Among xs

  -- a shred that is to end is one of those that end
  pub itself_ends : (xs : List (Shred A)) (done : List ℕ) → Among xs
      → has (fold (one_more_ends n) done xs) n ≡ true
  itself_ends [] done h = absurd h
  itself_ends (a ∷ xs) done (inl is) =
      ends_keep xs (one_more_ends n done a) n
      (one_ends done a (has done a.parent) (eq-eqb a.number n is) is)
  itself_ends (a ∷ xs) done (inr h) = itself_ends xs (one_more_ends n done a) h

  found_step : (a : Shred A) (xs : List (Shred A)) (b : Bool) (x : Shred A) → nat_eq a.number n ≡ b
      → (find (λ s. nat_eq s.number n) xs ≡ Some x → Among xs)
      → cond b (Some a) (find (λ s. nat_eq s.number n) xs) ≡ Some x → (a.number ≡ n) ⊎ Among xs
  found_step a xs true x e rest h = inl (same_number a.number n e)
  found_step a xs false x e rest h = inr (rest h)

  pub found_among : (xs : List (Shred A)) (x : Shred A) → find (λ s. nat_eq s.number n) xs ≡ Some x
      → Among xs
  found_among [] x h = absurd (cc h)
  found_among (a ∷ xs) x h = found_step a xs (nat_eq a.number n) x refl (found_among xs x) h
