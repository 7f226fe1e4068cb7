-- What stands between the quotes of a text.
use Rattle.std.specs.Prelude.{◌≡◌, ℕ, suc, List, [], ◌∷◌, ◌++◌, length, true, ◌==◌, Option, Some, None, if◌then◌else◌}
use Rattle.ck_lexer.specs.Bytes.{is_plain}

-- the byte that an escape stands for, by the byte behind its backslash: `n`, `t`, `"` or a
-- backslash
abbrev pub escaped : ℕ → Option ℕ
escaped b =
    if b == 110 then Some 10 else if b == 116 then Some 9 else if b == 34 then Some 34
    else if b == 92 then Some 92 else None

-- These bytes, between quotes, are a text of this value.
pub data Quoted : List ℕ → List ℕ → Type 0 where
  nothing : Quoted [] []
  a_byte : {b : ℕ} {w value : List ℕ} → is_plain b ≡ true → Quoted w value →
      Quoted (b ∷ w) (b ∷ value)
  an_escape : {e b : ℕ} {w value : List ℕ} → escaped e ≡ Some b → Quoted w value →
      Quoted (92 ∷ e ∷ w) (b ∷ value)

-- Behind an opening quote stands a text of this value, of n bytes with its closing quote.
pub record TextStands (bytes value : List ℕ) (n : ℕ) : Type 0 where
  pub inner : List ℕ
  pub rest : List ℕ
  pub quoted : Quoted inner value
  pub stands : bytes ≡ inner ++ 34 ∷ rest
  pub long : n ≡ suc (length inner)
