-- How large the trees of files are: a file has at most one token a byte, and its end.
use Rattle.std.proofs.Common.{ℕ, ◌+◌, ◌≤◌, List, [], ◌∷◌, length, ap, arith, length-append}
use Rattle.std.proofs.Common.{Vec}
use Rattle.std.proofs.lemmas.List.Elements.{All-nil, All-cons, All-head, All-tail}
use Rattle.std.specs.Prelude.{All}
use Rattle.std.specs.declared.alloc.Global.{Global}
use Rattle.ck_base.specs.declared.limits.TheConstants.{MAX_FILE_BYTES}
use Rattle.ck_lexer.specs.declared.token.Token.{Token}
use Rattle.ck_lexer.specs.declared.token.TokenKind.TheVariants.{End}
use Rattle.ck_lexer.specs.Tokens.{Reads, nothing, a_gap, a_token, token_at, AreTokens}
use Rattle.ck_lexer.proofs.Readings.{token_some}
use Rattle.ck_parser.proofs.Size.{size-file}
use Rattle.ck_syntax.specs.declared.file.File.{File}
use Rattle.ck_syntax.specs.Size.{file_size}
use Rattle.ck_syntax.specs.Tree as tree
use Rattle.ck_syntax.specs.View.{view_file}
use Rattle.command_inputs.specs.Sense.{HasTree, Says, a_tree, AllSay, none_says, and_says}
use Rattle.command_inputs.specs.Senses.{contents_of, said}

-- a token has a byte at least
few_read : {bytes : List ℕ} {n m : ℕ} {ts : List Token} → Reads bytes n ts m → n + length ts ≤ m
few_read nothing = omega arith
few_read (a_gap gap read) = omega (arith, few_read read)
few_read (a_token token read) = omega (arith, few_read read, token_some _ _ _ token)

few_tokens : (bytes : List ℕ) (ts : List Token) → AreTokens bytes ts
    → length ts ≤ length bytes + 1
few_tokens bytes ts are = omega (
  arith,
  ap length are.all,
  length-append are.before_end (token_at bytes (length bytes) End ∷ []),
  few_read are.reads,
)

small_tree : (bytes : List ℕ) (x : tree.File) → length bytes ≤ MAX_FILE_BYTES
    → Says bytes (HasTree x) → file_size x ≤ MAX_FILE_BYTES + 1
small_tree bytes x short (a_tree {ts} tokens is shallow) =
    omega (arith, size-file ts x is, few_tokens bytes ts tokens, short)

-- those of files that aren't too long
pub small_trees : (files : List (Vec ℕ Global)) (trees : List File)
    → All (λ file. length file.items ≤ MAX_FILE_BYTES) files
    → AllSay (contents_of files) (said trees)
    → All (λ it. file_size (view_file it) ≤ MAX_FILE_BYTES + 1) trees
small_trees [] [] short none_says = All-nil (λ it. file_size (view_file it) ≤ MAX_FILE_BYTES + 1)
small_trees (file ∷ files) (it ∷ trees) short (and_says says more) =
    All-cons (λ it. file_size (view_file it) ≤ MAX_FILE_BYTES + 1) it trees
    (small_tree file.items (view_file it)
    (All-head (λ f. length f.items ≤ MAX_FILE_BYTES) file files short) says)
    (small_trees files trees
    (All-tail (λ f. length f.items ≤ MAX_FILE_BYTES) file files short) more)
small_trees [] (it ∷ trees) short say = elim say [ ]
small_trees (file ∷ files) [] short say = elim say [ ]
