-- The code of a checked program.
use Rattle.std.specs.Prelude.{◌≡◌, ℕ, ◌≤◌, All, List}
use Rattle.ck_code.specs.declared.code.CodeParts.{CodeParts}
use Rattle.ck_scheme.specs.Scheme.{IsScheme}
use Rattle.ck_syntax.specs.Size.{file_size}
use Rattle.ck_syntax.specs.Tree.{File}
use Rattle.ck_typed.specs.Tree.{Program}
use Rattle.program_laws.specs.Programs.{checked}
use Rattle.type_table.specs.Answer.{gives}

-- the code is that of the scheme, for the program of these files, which have at most so many tokens
-- each
pub record IsCheckedCode (files : List File) (most : ℕ) (code : CodeParts) : Type 0 where
  pub program : Program
  pub short : All (λ (file : File). file_size file ≤ most) files
  pub checks : checked files ≡ gives program
  pub scheme : IsScheme program code
