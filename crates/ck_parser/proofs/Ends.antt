-- The tokens of a file end in its one End.
use Rattle.std.proofs.Common.{◌≡◌, ℕ, List, [], ◌∷◌, ◌++◌, length, Bool, true, false, refl, ◌∙◌, ap}
use Rattle.ck_lexer.specs.declared.token.Token.{Token}
use Rattle.ck_lexer.specs.declared.token.TokenKind.{TokenKind}
use Rattle.ck_lexer.specs.declared.token.TokenKind.TheVariants.{End}
use Rattle.ck_lexer.specs.Forms.{Form, a_word, a_name, a_decimal, a_hexadecimal, a_float, a_text}
use Rattle.ck_lexer.specs.Forms.{a_mark}
use Rattle.ck_lexer.specs.Tokens.{AreTokens, Reads, nothing, a_gap, a_token, token_at}
use Rattle.ck_parser.specs.Parse.{is_end, ends_here, ends_once}

no_end_form : {w : List ℕ} {k : TokenKind} {b : Bool} → Form w k b → is_end k ≡ false
no_end_form (a_word h) = refl
no_end_form (a_name h i j) = refl
no_end_form (a_decimal h) = refl
no_end_form (a_hexadecimal h) = refl
no_end_form (a_float whole decimals h i j) = refl
no_end_form (a_text w value h) = refl
no_end_form (a_mark h) = refl

ends_behind : {bytes : List ℕ} {n m : ℕ} {ts : List Token} (x : Token) → is_end x.kind ≡ true
    → Reads bytes n ts m → ends_once (ts ++ x ∷ []) ≡ true
ends_behind x h nothing = ap (λ b. ends_here b [] false) h
ends_behind x h (a_gap g r) = ends_behind x h r
ends_behind x h (a_token {ts = ts} i r) = ap
    (λ b. ends_here b (ts ++ x ∷ []) (ends_once (ts ++ x ∷ []))) (no_end_form i.form.form)
    ∙ ends_behind x h r

pub ends_of_tokens : (bytes : List ℕ) (ts : List Token) → AreTokens bytes ts → ends_once ts ≡ true
ends_of_tokens bytes ts p =
    ap ends_once p.all ∙ ends_behind (token_at bytes (length bytes) End) refl p.reads
