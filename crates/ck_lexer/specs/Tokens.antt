-- The tokens of a file, and its fault.
use Rattle.std.specs.Prelude.{◌≡◌, ℕ, ◌+◌, ◌<◌, ◌≤◌, List, [], ◌∷◌, ◌++◌, length, take, drop, count_by, Bool, true, false, Option, MatchOption}
use Rattle.ck_lexer.specs.declared.token.Token.{Token}
use Rattle.ck_lexer.specs.declared.token.TokenKind.{TokenKind}
use Rattle.ck_lexer.specs.declared.token.TokenKind.TheVariants.{End}
use Rattle.ck_lexer.specs.Bytes.{is_line_end}
use Rattle.ck_lexer.specs.Forms.{Form}
use Rattle.ck_lexer.specs.Gaps.{Gap, opens_comment}

-- Of all fronts of these bytes that have the form of a token the longest has n bytes, and says this
-- one.
pub record IsLongest (bytes : List ℕ) (n : ℕ) (kind : TokenKind) (fits : Bool) : Type 0 where
  pub within : n ≤ length bytes
  pub form : Form (take n bytes) kind fits
  pub longest : (w rest : List ℕ) (other : TokenKind) (f : Bool) → bytes ≡ w ++ rest →
      Form w other f → length w ≤ n

-- These bytes begin with this token, of n bytes: no comment begins there, and the longest form is
-- within its limit.
pub record IsToken (bytes : List ℕ) (n : ℕ) (kind : TokenKind) : Type 0 where
  pub no_comment : opens_comment bytes ≡ false
  pub form : IsLongest bytes n kind true

-- No token begins here.
abbrev pub BeginsNoToken : List ℕ → Type 0
BeginsNoToken bytes = (n : ℕ) (kind : TokenKind) → IsToken bytes n kind → ⊥

-- the token that these bytes begin with and how many bytes it has, or none where none begins
abbrev pub TokenStands : List ℕ → Option (TokenKind × ℕ) → Type 0
TokenStands bytes found = MatchOption found (BeginsNoToken bytes) (λ x. IsToken bytes x.1 x.0)

-- the line of a place: lines count from 1, and each byte 10 before it ends one
abbrev pub line_at : List ℕ → ℕ → ℕ
line_at bytes n = 1 + count_by is_line_end (take n bytes)

-- a token with its line and its place
abbrev pub token_at : List ℕ → ℕ → TokenKind → Token
token_at bytes n k = record { kind = k; line = line_at bytes n; at = n }

-- From the place n to the place m stand these tokens, with spaces and comments before, between and
-- behind them.
pub data Reads (bytes : List ℕ) : ℕ → List Token → ℕ → Type 0 where
  nothing : {n : ℕ} → Reads bytes n [] n
  a_gap : {n k m : ℕ} {ts : List Token} → Gap (drop n bytes) k → Reads bytes (n + k) ts m →
      Reads bytes n ts m
  a_token : {n k m : ℕ} {kind : TokenKind} {ts : List Token} → IsToken (drop n bytes) k kind →
      Reads bytes (n + k) ts m → Reads bytes n (token_at bytes n kind ∷ ts) m

-- These are the tokens of the bytes, with one End behind them.
pub record AreTokens (bytes : List ℕ) (ts : List Token) : Type 0 where
  pub before_end : List Token
  pub reads : Reads bytes 0 before_end (length bytes)
  pub all : ts ≡ before_end ++ token_at bytes (length bytes) End ∷ []

-- Here neither a space nor a comment nor a token begins.
pub record BeginsNothing (bytes : List ℕ) : Type 0 where
  pub no_gap : (n : ℕ) → Gap bytes n → ⊥
  pub no_token : BeginsNoToken bytes

-- At this place, behind tokens, spaces and comments, stands a byte at which nothing begins; this is
-- its line.
pub record IsFault (bytes : List ℕ) (at line : ℕ) : Type 0 where
  pub before : List Token
  pub reads : Reads bytes 0 before at
  pub within : at < length bytes
  pub nothing_begins : BeginsNothing (drop at bytes)
  pub on_line : line ≡ line_at bytes at

-- A file has tokens, or a fault.
pub data IsRead (bytes : List ℕ) : Type 0 where
  with_tokens : (ts : List Token) → AreTokens bytes ts → IsRead bytes
  with_fault : (at line : ℕ) → IsFault bytes at line → IsRead bytes
