-- The end of a comment.
use Rattle.std.proofs.Common.{◌≡◌, ℕ, suc, zero, ◌+◌, ◌<◌, ◌≤◌, List, [], ◌∷◌, length, drop, true, false, codes, refl, sym, ◌∙◌, ap, subst, arith, add-one, length-append}
use Rattle.std.specs.List.{prefix_len}
use Rattle.std.proofs.lemmas.List.{length-drop}
use Rattle.std.proofs.lemmas.List.Sums.{prefix_len-le-length}
use Rattle.ck_lexer.specs.Bytes.{is_space, is_in_line}
use Rattle.ck_lexer.specs.Gaps.{begins, Closes, here, later, Gap, a_space, a_line_comment, a_block_comment}
use Rattle.ck_lexer.proofs.MarkLemmas.{begins-so}

pub drop_at : (n : ℕ) (bs : List ℕ) → n < length bs → (b : ℕ) × (drop n bs ≡ b ∷ drop (suc n) bs)
drop_at n [] h = absurd (omega arith)
drop_at zero (b ∷ bs) h = (b, refl)
drop_at (suc n) (b ∷ bs) h = drop_at n bs (omega arith)

-- what a search for the end keeps, having come to n
pub record Sought (bs : List ℕ) (n : ℕ) : Type 0 where
  pub within : n ≤ length bs
  pub onward : (m : ℕ) → Closes (drop n bs) m → Closes bs (n + m)
  pub only : (m : ℕ) → Closes bs m → (k : ℕ) × (m ≡ n + k) × Closes (drop n bs) k

pub sought_none : (bs : List ℕ) → Sought bs 0
sought_none bs = record { within = omega arith; onward = λ m d. let e : m ≡ 0 + m = omega arith in subst (λ x. Closes bs x) e d; only = λ m d. (m, omega arith, d) }

behind : {b m : ℕ} {bs : List ℕ} → begins (codes "*/") (b ∷ bs) ≡ false → Closes (b ∷ bs) m → (k : ℕ) × (m ≡ suc k) × Closes bs k
behind h here = cc
behind h (later g d) = (_, refl, d)

pub sought_more : (bs : List ℕ) (n : ℕ) → n < length bs → begins (codes "*/") (drop n bs) ≡ false → Sought bs n → Sought bs (n + 1)
sought_more bs n l h s =
    let p = drop_at n bs l in
    let g : begins (codes "*/") (p.0 ∷ drop (suc n) bs) ≡ false = ap (begins (codes "*/")) (sym p.1) ∙ h in
    record {
      within = omega arith;
      onward = λ m d. let e : n + suc m ≡ n + 1 + m = omega arith in
          let d' = subst (λ x. Closes (drop x bs) m) (add-one n) d in
          subst (λ x. Closes bs x) e (s.onward (suc m) (subst (λ x. Closes x (suc m)) (sym p.1) (later g d')));
      only = λ m d. let q = s.only m d in let r = behind g (subst (λ x. Closes x q.0) p.1 q.2) in (r.0, omega arith, subst (λ x. Closes (drop x bs) r.0) (sym (add-one n)) r.2);
    }

nothing_closes : {m : ℕ} → Closes [] m → ⊥
nothing_closes d = elim d [ ]

drop_past : (n : ℕ) (bs : List ℕ) → length bs ≤ n → drop n bs ≡ []
drop_past zero [] h = refl
drop_past (suc n) [] h = refl
drop_past zero (b ∷ bs) h = absurd (omega arith)
drop_past (suc n) (b ∷ bs) h = drop_past n bs (omega arith)

pub never_closes : (bs : List ℕ) (n : ℕ) → length bs ≤ n → Sought bs n → (m : ℕ) → Closes bs m → ⊥
never_closes bs n l s m d = let q = s.only m d in nothing_closes (subst (λ x. Closes x q.0) (drop_past n bs l) q.2)

pub found_end : (bs : List ℕ) (n : ℕ) → begins (codes "*/") (drop n bs) ≡ true → Sought bs n → Closes bs (n + 2) × (n + 2 ≤ length bs)
found_end bs n h s =
    let e = begins-so (drop n bs) (codes "*/") h in
    let l = ap length e in
    let j = length-drop n bs in
    let i = length-append (codes "*/") (drop 2 (drop n bs)) in
    (s.onward 2 (subst (λ x. Closes x 2) (sym e) here), omega (arith, l, j, i))

-- the gaps
pub space_gap : (bytes rest : List ℕ) (b : ℕ) → bytes ≡ b ∷ rest → is_space b ≡ true → Gap bytes 1 × (0 < 1) × (1 ≤ length bytes)
space_gap bytes rest b e h = (subst (λ x. Gap x 1) (sym e) (a_space h), omega arith, omega (arith, ap length e))

pub line_gap : (bytes : List ℕ) (n : ℕ) → begins (codes "//") bytes ≡ true → n ≡ prefix_len is_in_line (drop 2 bytes) → Gap bytes (2 + n) × (0 < 2 + n) × (2 + n ≤ length bytes)
line_gap bytes n h e =
    let z : bytes ≡ 47 ∷ 47 ∷ drop 2 bytes = begins-so bytes (codes "//") h in
    let l = prefix_len-le-length is_in_line (drop 2 bytes) in
    (subst (λ x. Gap x (2 + n)) (sym z) (subst (λ m. Gap (47 ∷ 47 ∷ drop 2 bytes) (2 + m)) (sym e) a_line_comment), omega arith, omega (arith, ap length z, l, e))

pub block_gap : (bytes : List ℕ) (n : ℕ) → begins (codes "/*") bytes ≡ true → Closes (drop 2 bytes) n → n ≤ length (drop 2 bytes) → Gap bytes (2 + n) × (0 < 2 + n) × (2 + n ≤ length bytes)
block_gap bytes n h d m =
    let z : bytes ≡ 47 ∷ 42 ∷ drop 2 bytes = begins-so bytes (codes "/*") h in
    (subst (λ x. Gap x (2 + n)) (sym z) (a_block_comment d), omega arith, omega (arith, ap length z, m))

-- where there is none
pub no_gap : (bytes rest : List ℕ) (b : ℕ) → bytes ≡ b ∷ rest → is_space b ≡ false → begins (codes "//") bytes ≡ false → begins (codes "/*") bytes ≡ false → (n : ℕ) → Gap bytes n → ⊥
no_gap bytes rest b e s l c n g = go bytes e l c g
  where
    go : {n : ℕ} (bs : List ℕ) → bs ≡ b ∷ rest → begins (codes "//") bs ≡ false → begins (codes "/*") bs ≡ false → Gap bs n → ⊥
    go bs e l c (a_space {b = d} h) = let i : d ≡ b = cc in let j = ap is_space i in cc
    go bs e l c a_line_comment = cc
    go bs e l c (a_block_comment d) = cc

pub unclosed : (bytes : List ℕ) → begins (codes "/*") bytes ≡ true → ((n : ℕ) → Closes (drop 2 bytes) n → ⊥) → (n : ℕ) → Gap bytes n → ⊥
unclosed bytes h d n g = go bytes h d g
  where
    go : {n : ℕ} (bs : List ℕ) → begins (codes "/*") bs ≡ true → ((n : ℕ) → Closes (drop 2 bs) n → ⊥) → Gap bs n → ⊥
    go bs h d (a_space {b} {bs = r} s) = let z = begins-so (b ∷ r) (codes "/*") h in let i : b ≡ 47 = cc in let j = ap is_space i in cc
    go bs h d (a_line_comment {bs = r}) = cc
    go bs h d (a_block_comment c) = d _ c
