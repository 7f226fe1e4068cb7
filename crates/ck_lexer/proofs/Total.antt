-- Every file has tokens or a fault.
use Rattle.std.proofs.Common.{◌≡◌, ◌⊎◌, ℕ, zero, suc, ◌+◌, ◌<◌, ◌≤◌, List, [], ◌∷◌, length, take, drop, Bool, true, false, ◌==◌, nat_lt, codes, Option, Some, None, refl, sym, ◌∙◌, ap, subst, arith, length-drop, inl, inr}
use Rattle.std.specs.List.{prefix_len}
use Rattle.std.proofs.lemmas.Bool.{cases_Bool}
use Rattle.std.proofs.lemmas.Bool.Decides.{nat_tests}
use Rattle.std.proofs.lemmas.List.{length-take-le}
use Rattle.std.proofs.lemmas.List.Sums.{prefix_len-le-length}
use Rattle.ck_lexer.specs.declared.mark.Mark.{Mark}
use Rattle.ck_lexer.specs.declared.token.Token.{Token}
use Rattle.ck_lexer.specs.declared.token.TokenKind.{TokenKind}
use Rattle.ck_lexer.specs.declared.word.Word.{Word}
use Rattle.ck_lexer.specs.Bytes.{is_digit, is_hexadecimal, begins_name, continues_name, begins_with, begins_number, is_space}
use Rattle.ck_lexer.specs.Tables.{look_up, first_front, words, marks}
use Rattle.ck_lexer.specs.Gaps.{begins, opens_comment, Closes, Gap}
use Rattle.ck_lexer.specs.Tokens.{IsLongest, IsToken, BeginsNoToken, IsRead, with_tokens, with_fault, nothing}
use Rattle.ck_lexer.proofs.Comments.{Sought, sought_none, sought_more, never_closes, found_end, space_gap, line_gap, block_gap, no_gap, unclosed}
use Rattle.ck_lexer.proofs.Fronts.{NotHexadecimal}
use Rattle.ck_lexer.proofs.Readings.{ReadTo, past_gap, past_token, fault_at, all_tokens, token_some}
use Rattle.ck_lexer.proofs.Stands.{past_limit, within_limit, word_longest, name_longest, float_longest, whole_longest, hexadecimal_longest, text_longest, no_text, mark_longest, no_mark, no_bytes, IsOther}
use Rattle.ck_lexer.proofs.TextLemmas.{text_in}

-- a token begins here, or none does
pub data Front (bytes : List ℕ) : Type 0 where
  a_front : (n : ℕ) (kind : TokenKind) → IsToken bytes n kind → Front bytes
  no_front : BeginsNoToken bytes → Front bytes

limited : (bytes : List ℕ) (n : ℕ) (kind : TokenKind) (f : Bool) → opens_comment bytes ≡ false → IsLongest bytes n kind f → Front bytes
limited bytes n kind true c l = a_front n kind (within_limit c refl l)
limited bytes n kind false c l = no_front (past_limit l refl)

front_of_name : (bytes : List ℕ) → opens_comment bytes ≡ false → begins_with begins_name bytes ≡ true → Front bytes
front_of_name bytes c h = go (look_up words (take (prefix_len continues_name bytes) bytes)) refl
  where
    go : (w : Option Word) → look_up words (take (prefix_len continues_name bytes) bytes) ≡ w → Front bytes
    go (Some word) e = limited bytes _ _ _ c (word_longest bytes word h e)
    go None e = limited bytes _ _ _ c (name_longest bytes h e)

front_of_text : (bs : List ℕ) → opens_comment (34 ∷ bs) ≡ false → Front (34 ∷ bs)
front_of_text bs c = go (text_in bs) refl
  where
    go : (t : Option (List ℕ × ℕ)) → text_in bs ≡ t → Front (34 ∷ bs)
    go (Some (value, n)) e = limited (34 ∷ bs) _ _ _ c (text_longest bs value n e)
    go None e = no_front (no_text bs e)

front_of_decimal : (bytes : List ℕ) → opens_comment bytes ≡ false → begins_number bytes ≡ true → NotHexadecimal bytes → Front bytes
front_of_decimal bytes c h x = go (drop (prefix_len is_digit bytes) bytes) refl
  where
    go : (behind : List ℕ) → drop (prefix_len is_digit bytes) bytes ≡ behind → Front bytes
    go [] e = limited bytes _ _ _ c (whole_longest bytes _ h x refl (λ r i. let j : [] ≡ 46 ∷ r = sym e ∙ i in cc))
    go (b ∷ r) e = elim (cases_Bool (b == 46)) [
      | inl is ↦
          let point : b ≡ 46 = grind (arith, nat_tests) in
          limited bytes _ _ _ c (float_longest bytes _ r _ h x refl (e ∙ ap (λ z. z ∷ r) point) refl)
      | inr other ↦ limited bytes _ _ _ c (whole_longest bytes _ h x refl (λ q i. let j : b ∷ r ≡ 46 ∷ q = sym e ∙ i in let k : b ≡ 46 = cc in absurd (grind (arith, nat_tests))))
    ]

front_of_number : (bytes : List ℕ) → opens_comment bytes ≡ false → begins_number bytes ≡ true → Front bytes
front_of_number bytes c h = elim (cases_Bool (begins (codes "0x") bytes)) [
  | inl is ↦ go is (prefix_len is_hexadecimal (drop 2 bytes)) refl
  | inr other ↦ front_of_decimal bytes c h (λ is. absurd (cc))
]
  where
    go : begins (codes "0x") bytes ≡ true → (m : ℕ) → prefix_len is_hexadecimal (drop 2 bytes) ≡ m → Front bytes
    go is zero e = front_of_decimal bytes c h (λ same. e)
    go is (suc m) e = limited bytes _ _ _ c (hexadecimal_longest bytes _ is refl (some (drop 2 bytes) e))
      where
        some : (ds : List ℕ) → prefix_len is_hexadecimal ds ≡ suc m → 0 < length (take (prefix_len is_hexadecimal ds) ds)
        some ds e = omega (arith, e, length-take-le (prefix_len is_hexadecimal ds) ds (prefix_len-le-length is_hexadecimal ds))

front_of_mark : (bytes : List ℕ) → opens_comment bytes ≡ false → IsOther bytes → Front bytes
front_of_mark bytes c o = go (first_front marks bytes) refl
  where
    go : (m : Option (Mark × ℕ)) → first_front marks bytes ≡ m → Front bytes
    go (Some (mark, n)) e = limited bytes _ _ _ c (mark_longest bytes mark n o e)
    go None e = no_front (no_mark bytes o e)

front : (bytes : List ℕ) → opens_comment bytes ≡ false → Front bytes
front [] c = no_front (no_bytes [] refl)
front (b ∷ bs) c = elim (cases_Bool (begins_name b)) [
  | inl name ↦ front_of_name (b ∷ bs) c name
  | inr no_name ↦
      elim (cases_Bool (b == 34)) [
        | inl quote ↦
            let is : b ≡ 34 = grind (arith, nat_tests) in
            subst (λ x. Front (x ∷ bs)) (sym is) (front_of_text bs (ap (λ x. opens_comment (x ∷ bs)) (sym is) ∙ c))
        | inr no_quote ↦
            elim (cases_Bool (begins_number (b ∷ bs))) [
              | inl number ↦ front_of_number (b ∷ bs) c number
              | inr no_number ↦ front_of_mark (b ∷ bs) c (record { no_name = no_name; no_quote = no_quote; no_number = no_number })
            ]
      ]
]

-- the end of a comment, or there is none
closed : (bs : List ℕ) (fuel n : ℕ) → length bs ≤ n + fuel → Sought bs n → ((m : ℕ) × Closes bs m × (m ≤ length bs)) ⊎ ((m : ℕ) → Closes bs m → ⊥)
closed bs zero n l s = inr (never_closes bs n (omega (arith, l)) s)
closed bs (suc fuel) n l s = elim (cases_Bool (begins (codes "*/") (drop n bs))) [
  | inl is ↦ let end = found_end bs n is s in inl (n + 2, end.0, end.1)
  | inr other ↦
      elim (cases_Bool (nat_lt n (length bs))) [
        | inl more ↦ closed bs fuel (n + 1) (omega (arith, l)) (sought_more bs n (grind (arith, nat_tests)) other s)
        | inr past ↦ inr (never_closes bs n (grind (arith, nat_tests)) s)
      ]
]

-- a gap, or none and perhaps a token
data Ahead (bytes : List ℕ) : Type 0 where
  gap : (n : ℕ) → Gap bytes n → 0 < n → n ≤ length bytes → Ahead bytes
  no_gap_but : ((n : ℕ) → Gap bytes n → ⊥) → Front bytes → Ahead bytes

-- where a comment opens no token begins
commented : (bytes : List ℕ) → opens_comment bytes ≡ true → BeginsNoToken bytes
commented bytes h n kind t = let c = t.no_comment in cc

ahead : (b : ℕ) (bs : List ℕ) → Ahead (b ∷ bs)
ahead b bs = elim (cases_Bool (is_space b)) [
  | inl space ↦ let g = space_gap bytes bs b refl space in gap _ g.0 g.1 g.2
  | inr no_space ↦
      elim (cases_Bool (begins (codes "//") bytes)) [
        | inl line ↦ let g = line_gap bytes _ line refl in gap _ g.0 g.1 g.2
        | inr no_line ↦
            elim (cases_Bool (begins (codes "/*") bytes)) [
              | inl block ↦ in_block block (closed (drop 2 bytes) (length (drop 2 bytes)) 0 (omega arith) (sought_none (drop 2 bytes)))
              | inr no_block ↦ no_gap_but (no_gap bytes bs b refl no_space no_line no_block) (front bytes (rw (no_line, no_block) refl))
            ]
      ]
]
  where
    bytes : List ℕ
    bytes = b ∷ bs

    in_block : begins (codes "/*") bytes ≡ true → (((m : ℕ) × Closes (drop 2 bytes) m × (m ≤ length (drop 2 bytes))) ⊎ ((m : ℕ) → Closes (drop 2 bytes) m → ⊥)) → Ahead bytes
    in_block block (inl (m, closes, within)) = let g = block_gap bytes m block closes within in gap _ g.0 g.1 g.2
    in_block block (inr never) = no_gap_but (unclosed bytes block never) (no_front (commented bytes (opens block)))
      where
        opens : begins (codes "/*") bytes ≡ true → opens_comment bytes ≡ true
        opens is = elim (cases_Bool (begins (codes "//") bytes)) [
          | inl line ↦ rw line refl
          | inr no_line ↦ rw (no_line, is) refl
        ]

-- the tokens or the fault, from a place on
module _ (bytes : List ℕ) where
  onward : (ts : List Token) (at line : ℕ) → ReadTo bytes ts at line → (again : (us : List Token) (to on : ℕ) → at < to → ReadTo bytes us to on → IsRead bytes)
      → (rest : List ℕ) → drop at bytes ≡ rest → at < length bytes → Ahead rest → IsRead bytes
  onward ts at line r again rest e w (gap n g some within) =
      again ts (at + n) _ (omega (arith, some)) (past_gap bytes rest (take n rest) ts at line n _ r (sym e) g within refl refl)
  onward ts at line r again rest e w (no_gap_but none (a_front n kind t)) =
      again _ (at + n) line (omega (arith, token_some rest n kind t)) (past_token bytes rest ts at line n kind r (sym e) t)
  onward ts at line r again rest e w (no_gap_but none (no_front never)) = with_fault at line (fault_at bytes rest ts at line r w (sym e) none never)

  behind : (ts : List Token) (at line : ℕ) → ReadTo bytes ts at line → (again : (us : List Token) (to on : ℕ) → at < to → ReadTo bytes us to on → IsRead bytes)
      → (rest : List ℕ) → drop at bytes ≡ rest → IsRead bytes
  behind ts at line r again [] e = with_tokens _ (all_tokens bytes ts at line r (omega (arith, length-drop at bytes, ap length e)))
  behind ts at line r again (b ∷ bs) e = onward ts at line r again (b ∷ bs) e (omega (arith, length-drop at bytes, ap length e)) (ahead b bs)

  from : (fuel : ℕ) (ts : List Token) (at line : ℕ) → length bytes ≤ at + fuel → ReadTo bytes ts at line → IsRead bytes
  from zero ts at line l r = with_tokens _ (all_tokens bytes ts at line r (omega (arith, l)))
  from (suc fuel) ts at line l r = behind ts at line r (λ us to on more q. from fuel us to on (omega (arith, l, more)) q) (drop at bytes) refl

pub read : (bytes : List ℕ) → IsRead bytes
read bytes = from bytes (length bytes) [] 0 1 (omega arith) (record { within = omega arith; reads = nothing; on_line = refl })
