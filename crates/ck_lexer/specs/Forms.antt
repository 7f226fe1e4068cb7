-- The forms of tokens.
use Rattle.std.specs.Prelude.{◌≡◌, ℕ, ◌<◌, ◌+◌, List, [], ◌∷◌, ◌++◌, length, Bool, true, nat_le, Some, None, pos}
use Rattle.std.specs.List.{list_all}
use Rattle.ck_base.specs.declared.limits.TheConstants.{MAX_TEXT_BYTES}
use Rattle.ck_lexer.specs.declared.mark.Mark.{Mark}
use Rattle.ck_lexer.specs.declared.token.TokenKind.{TokenKind}
use Rattle.ck_lexer.specs.declared.token.TokenKind.TheVariants as token
use Rattle.ck_lexer.specs.declared.word.Word.{Word}
use Rattle.ck_lexer.specs.Bytes.{is_digit, is_hexadecimal, begins_name, continues_name}
use Rattle.ck_lexer.specs.Numbers.{number_in, max_int, max_whole, raw_of}
use Rattle.ck_lexer.specs.Texts.{Quoted}
use Rattle.ck_lexer.specs.Tables.{look_up, words, marks}

-- The bytes have the form of a token, and say this one; the test is whether it is within its limit.
pub data Form : List ℕ → TokenKind → Bool → Type 0 where
  -- a word
  a_word : {w : List ℕ} {word : Word}
      → look_up words w ≡ Some word
      → Form w (token.Word word) true
  -- a letter or `_`, then letters, digits and `_`, that is no word
  a_name : {b : ℕ} {bs : List ℕ}
      → begins_name b ≡ true → list_all continues_name bs ≡ true
      → look_up words (b ∷ bs) ≡ None
      → Form (b ∷ bs) (token.Name (b ∷ bs)) (nat_le (length (b ∷ bs)) MAX_TEXT_BYTES)
  -- digits
  a_decimal : {b : ℕ} {bs : List ℕ}
      → list_all is_digit (b ∷ bs) ≡ true
      → Form (b ∷ bs) (token.Int (pos (number_in 10 (b ∷ bs))))
      (nat_le (number_in 10 (b ∷ bs)) max_int)
  -- `0x` and hexadecimal digits
  a_hexadecimal : {b : ℕ} {bs : List ℕ}
      → list_all is_hexadecimal (b ∷ bs) ≡ true
      → Form (48 ∷ 120 ∷ b ∷ bs) (token.Int (pos (number_in 16 (b ∷ bs))))
      (nat_le (number_in 16 (b ∷ bs)) max_int)
  -- digits, a point, digits; one of the two may be missing
  a_float : (whole decimals : List ℕ)
      → list_all is_digit whole ≡ true → list_all is_digit decimals ≡ true
      → 0 < length whole + length decimals
      → Form (whole ++ 46 ∷ decimals) (token.Float (pos (raw_of whole decimals)))
      (nat_le (number_in 10 whole) max_whole)
  -- a text in quotes
  a_text : (w value : List ℕ)
      → Quoted w value
      → Form (34 ∷ w ++ 34 ∷ []) (token.Text value) (nat_le (length value) MAX_TEXT_BYTES)
  -- a mark
  a_mark : {w : List ℕ} {mark : Mark}
      → look_up marks w ≡ Some mark
      → Form w (token.Mark mark) true
