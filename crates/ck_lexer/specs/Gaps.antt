-- Spaces and comments.
use Rattle.std.specs.Prelude.{◌≡◌, ℕ, suc, ◌+◌, List, ◌∷◌, Bool, true, false, ◌||◌, nat_eq, codes}
use Rattle.std.specs.List.{prefix_len, starts_with}
use Rattle.ck_lexer.specs.Bytes.{is_space, is_in_line}

-- whether the bytes begin so
abbrev pub begins : List ℕ → List ℕ → Bool
begins p bs = starts_with nat_eq bs p

-- whether `//` or `/*` stands at the front, where always a comment begins
abbrev pub opens_comment : List ℕ → Bool
opens_comment bs = begins (codes "//") bs || begins (codes "/*") bs

-- The first n bytes end with the first `*/`.
pub data Closes : List ℕ → ℕ → Type 0 where
  here : {bs : List ℕ} → Closes (42 ∷ 47 ∷ bs) 2
  later : {b n : ℕ} {bs : List ℕ} → begins (codes "*/") (b ∷ bs) ≡ false → Closes bs n →
      Closes (b ∷ bs) (suc n)

-- The first n bytes are a space, a comment from `//` to the end of its line, or one from `/*` to
-- the next `*/`.
pub data Gap : List ℕ → ℕ → Type 0 where
  a_space : {b : ℕ} {bs : List ℕ} → is_space b ≡ true → Gap (b ∷ bs) 1
  a_line_comment : {bs : List ℕ} → Gap (47 ∷ 47 ∷ bs) (2 + prefix_len is_in_line bs)
  a_block_comment : {n : ℕ} {bs : List ℕ} → Closes bs n → Gap (47 ∷ 42 ∷ bs) (2 + n)
