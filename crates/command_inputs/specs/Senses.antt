-- What the readings of files stand for.
use Rattle.std.specs.Prelude.{ℕ, suc, List, ◌∷◌, map, codes, Vec}
use Rattle.std.specs.declared.alloc.Global.{Global}
use Rattle.ck_syntax.specs.declared.file.File.{File}
use Rattle.ck_syntax.specs.Tree as tree
use Rattle.ck_syntax.specs.View.{view_file}
use Rattle.command_inputs.specs.Sense.{Sense, HasTree, HasFault, Says}
use Rattle.command_inputs.specs.declared.sense.Sense.{Sense as Read}
use Rattle.command_inputs.specs.declared.sense.Sense.TheVariants as found
use Rattle.command_inputs.specs.declared.sense.Wrong.{Wrong}
use Rattle.command_inputs.specs.declared.sense.Wrong.TheVariants as wrong

abbrev pub wrong_text : Wrong → List ℕ
wrong_text wrong.Lex = codes "lex"
wrong_text wrong.Syntax = codes "syntax"
wrong_text wrong.TooDeep = codes "too deep"

abbrev pub sense_of : Read → Sense
sense_of (found.Tree file) = HasTree (view_file file)
sense_of (found.Refused line w) = HasFault line (wrong_text w)

-- what the trees of files say
abbrev pub said : List File → List Sense
said files = map (λ file. HasTree (view_file file)) files

-- the bytes of files
abbrev pub contents_of : List (Vec ℕ Global) → List (List ℕ)
contents_of files = map (λ file. file.items) files

-- the first of these files that is refused stands at this place, for this fault
pub data FirstRefused : List (List ℕ) → (place line : ℕ) → (wrong : List ℕ) → Type 0 where
  is_first : {bytes : List ℕ} {files : List (List ℕ)} {line : ℕ} {w : List ℕ}
      → Says bytes (HasFault line w) → FirstRefused (bytes ∷ files) 0 line w
  is_later : {bytes : List ℕ} {files : List (List ℕ)} {place line : ℕ} {w : List ℕ} {x : tree.File}
      → Says bytes (HasTree x) → FirstRefused files place line w
      → FirstRefused (bytes ∷ files) (suc place) line w
