-- What the parser says.
use Rattle.std.specs.Prelude.{◌≡◌, ℕ, suc, ◌<◌, ◌≤◌, List, [], ◌∷◌, ◌++◌, take, Bool, true, false}
use Rattle.std.specs.Prelude.{Some, slice_get}
use Rattle.ck_base.specs.declared.limits.TheConstants.{MAX_NESTING}
use Rattle.ck_lexer.specs.declared.token.Token.{Token}
use Rattle.ck_lexer.specs.declared.token.TokenKind.{TokenKind}
use Rattle.ck_lexer.specs.declared.token.TokenKind.TheVariants.{End}
use Rattle.ck_parser.specs.Depth.{file_depths}
use Rattle.ck_parser.specs.Grammar.{IsFile, IsViable}
use Rattle.ck_syntax.specs.Tree.{File}

abbrev pub is_end : TokenKind → Bool
is_end End = true
is_end _ = false

abbrev pub is_empty : List Token → Bool
is_empty [] = true
is_empty (x ∷ ts) = false

abbrev pub ends_here : Bool → List Token → Bool → Bool
ends_here true ts b = is_empty ts
ends_here false ts b = b

-- one End, at the end
abbrev pub ends_once : List Token → Bool
ends_once [] = false
ends_once (x ∷ ts) = ends_here (is_end x.kind) ts (ends_once ts)

-- none of these is too deep
abbrev pub AreShallow : List ℕ → Type 0
AreShallow [] = Unit {0}
AreShallow (d ∷ ds) = (d ≤ MAX_NESTING) × AreShallow ds

-- Some file, x, begins with these tokens, and of its first n tokens none stands too deep.
pub record BeginsFile (ts : List Token) (n : ℕ) (x : File) : Type 0 where
  pub more : List Token
  pub file : IsFile (ts ++ more) x
  pub shallow : AreShallow (take n (file_depths x))

-- the token at k stands in that line
pub record StandsAt (ts : List Token) (k line : ℕ) : Type 0 where
  pub token : Token
  pub at : slice_get ts k ≡ Some token
  pub in_line : token.line ≡ line

-- The token at k is the first one such that no file begins with the tokens up to it, and none
-- before it stands too deep.
pub record IsFaulty (ts : List Token) (k : ℕ) : Type 0 where
  pub tree : File
  pub before : BeginsFile (take k ts) k tree
  pub not_with : IsViable (take (suc k) ts) → ⊥

-- Some file begins with the tokens up to the one at k, which is the first of them that stands
-- too deep.
pub record IsTooDeep (ts : List Token) (k : ℕ) : Type 0 where
  pub tree : File
  pub with : BeginsFile (take (suc k) ts) k tree
  pub depth : ℕ
  pub stands : slice_get (file_depths tree) k ≡ Some depth
  pub over : MAX_NESTING < depth

-- The first fault is a token in that line with which no file goes on.
pub record IsSyntaxFault (ts : List Token) (line : ℕ) : Type 0 where
  pub place : ℕ
  pub faulty : IsFaulty ts place
  pub stands : StandsAt ts place line

-- The first fault is a token in that line that stands too deep.
pub record IsDepthFault (ts : List Token) (line : ℕ) : Type 0 where
  pub place : ℕ
  pub too_deep : IsTooDeep ts place
  pub stands : StandsAt ts place line

-- What there is to say of a list of tokens: its tree, which is nowhere too deep, or the line of
-- its first fault.
pub data Verdict (ts : List Token) : Type 0 where
  reads : (x : File) → IsFile ts x → AreShallow (file_depths x) → Verdict ts
  syntax : (line : ℕ) → IsSyntaxFault ts line → Verdict ts
  too_deep : (line : ℕ) → IsDepthFault ts line → Verdict ts
