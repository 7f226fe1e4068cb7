-- What reading a file says of it: its tree, or the line of its first fault and what is wrong there.
use Rattle.std.specs.Prelude.{ℕ, List, [], ◌∷◌, codes}
use Rattle.ck_lexer.specs.declared.token.Token.{Token}
use Rattle.ck_lexer.specs.Tokens.{AreTokens, IsFault}
use Rattle.ck_parser.specs.Depth.{file_depths}
use Rattle.ck_parser.specs.Grammar.{IsFile}
use Rattle.ck_parser.specs.Parse.{AreShallow, IsSyntaxFault, IsDepthFault}
use Rattle.ck_syntax.specs.Tree.{File}

pub data Sense : Type 0 where
  HasTree : File → Sense
  HasFault : (line : ℕ) → (wrong : List ℕ) → Sense

-- a file says this: its tokens are those of a tree that is nowhere too deep; or somewhere no token
-- begins; or its tokens have a first one with which no file goes on, or which stands too deep
pub data Says (bytes : List ℕ) : Sense → Type 0 where
  a_tree : {ts : List Token} {x : File} → AreTokens bytes ts → IsFile ts x
      → AreShallow (file_depths x) → Says bytes (HasTree x)
  no_token_begins : {at line : ℕ} → IsFault bytes at line
      → Says bytes (HasFault line (codes "lex"))
  no_grammar : {ts : List Token} {line : ℕ} → AreTokens bytes ts → IsSyntaxFault ts line
      → Says bytes (HasFault line (codes "syntax"))
  stands_too_deep : {ts : List Token} {line : ℕ} → AreTokens bytes ts → IsDepthFault ts line
      → Says bytes (HasFault line (codes "too deep"))

-- each of the files says its own
pub data AllSay : List (List ℕ) → List Sense → Type 0 where
  none_says : AllSay [] []
  and_says : {bytes : List ℕ} {files : List (List ℕ)} {sense : Sense} {senses : List Sense}
      → Says bytes sense → AllSay files senses → AllSay (bytes ∷ files) (sense ∷ senses)
