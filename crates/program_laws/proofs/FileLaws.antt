-- What both walks of a file give: the table with the file entered, and the functions of its text.
use Rattle.std.specs.Prelude.{◌≡◌, ℕ, ◌+◌, List, [], ◌++◌, length, Option}
use Rattle.ck_syntax.specs.Tree as tree
use Rattle.ck_typed.specs.Tree.{Program}
use Rattle.type_table.specs.Answer.{gives}
use Rattle.first_walk.specs.FirstWalk.{entered}
use Rattle.type_table.specs.Table.{Table, file_of, new_table}
use Rattle.type_table.proofs.Ranges.{Each, Within}
use Rattle.first_walk.proofs.TableFacts.{file_entries, heads_of, owners_of, IsTable, IsLater}
use Rattle.program_laws.specs.Programs.{Walked, items_typed, file_funs, settled_by}
use Rattle.ck_typed.specs.WellFormed.{IsFineFun}
use Rattle.program_laws.proofs.Parallel.{Zip, Matches}
use Rattle.expr_laws.proofs.Premises.{Has, HasSettled, IsSettled}
use Rattle.expr_laws.proofs.Settling.{Settles}
use Rattle.program_laws.proofs.TableLaws.{ClassLaws, LaterLaws}

-- a table, once one file more was entered
pub record IsEnteredFile (t : Table) (owners : List (Option ℕ)) (file : ℕ) (raw : tree.File)
    (u : Table) : Type 0 where
  pub table : IsTable u (owners ++ owners_of (file_entries u file raw))
  pub funs : u.funs ≡ t.funs ++ heads_of (file_entries u file raw)
  pub main : (file_of u file).main ≡ length t.funs
  pub later : IsLater t u
  pub files : length u.files ≡ length t.files + 1

-- the functions of a file have the types of the table; what was settled in it had no kind before; and
-- in each program that has what the table names and what was settled in the file they are well formed,
-- and that is of kinds that values have
pub record IsTypedFile (u : Table) (file : ℕ) (raw : tree.File) (w : Walked) : Type 0 where
  pub functions : Zip Matches (file_funs w) (file_entries u file raw)
  pub settles : Settles u [] (settled_by w)
  pub fine : (p : Program) → Has p u → Each (IsSettled p) (settled_by w)
      → Each (IsFineFun p) (file_funs w) × Each (HasSettled p u) (settled_by w)

-- all that the law of whole programs rests on
pub record FileLaws : Type 0 where
  pub first : IsTable new_table []
  pub classes : (t : Table) (owners : List (Option ℕ)) → IsTable t owners → ClassLaws t owners
  pub later : (t u : Table) (owners more : List (Option ℕ))
      → IsTable t owners → IsTable u more → Within owners more → IsLater t u → LaterLaws t u
  pub enters : (t u : Table) (owners : List (Option ℕ)) (file : ℕ) (raw : tree.File)
      → IsTable t owners → length t.files ≡ file → entered t file raw ≡ gives u
      → IsEnteredFile t owners file raw u
  pub types : (t u : Table) (owners : List (Option ℕ)) (file : ℕ) (raw : tree.File) (w : Walked)
      → IsTable t owners → length t.files ≡ file → entered t file raw ≡ gives u
      → IsEnteredFile t owners file raw u
      → items_typed u file raw ≡ gives w → IsTypedFile u file raw w
