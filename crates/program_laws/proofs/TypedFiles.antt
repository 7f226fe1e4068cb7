-- The functions of a file that was entered are typed as its table says, and are well formed.
use Rattle.std.proofs.Common.{◌≡◌, ℕ, List, [], ◌++◌, length, Option, false, true, refl, subst}
use Rattle.ck_syntax.specs.Tree as tree
use Rattle.ck_syntax.specs.Tree.{Stmt, Stmts}
use Rattle.ck_typed.specs.Tree.{Program}
use Rattle.type_table.specs.Answer.{Answer, gives}
use Rattle.type_table.specs.Table.{Table}
use Rattle.first_walk.proofs.DeclaredFiles.{StmtDeclared, FileDeclared}
use Rattle.type_table.proofs.Ranges.{Each}
use Rattle.first_walk.proofs.TableFacts.{file_entries, owners_of}
use Rattle.program_laws.specs.declared.surroundings.Surroundings.{Surroundings}
use Rattle.program_laws.specs.Programs.{Walked, items_typed, file_funs, settled_by}
use Rattle.check_scope.specs.Scope.{Scope, declares_globals}
use Rattle.program_laws.specs.Statements.{statement, statements}
use Rattle.ck_typed.specs.WellFormed.{IsFineFun}
use Rattle.program_laws.proofs.FileLaws.{IsEnteredFile, IsTypedFile}
use Rattle.program_laws.proofs.FineFunctions.{items_are_fine}
use Rattle.expr_laws.proofs.Settling.{Settles}
use Rattle.program_laws.proofs.FileSettles.{items_settle}
use Rattle.program_laws.proofs.Matching.{FileHasHeads, items_match}
use Rattle.expr_laws.proofs.Oks.{ok_map}
use Rattle.program_laws.proofs.Parallel.{Zip, Matches}
use Rattle.expr_laws.proofs.Premises.{Ok, Has, HasSettled, IsSettled, IsScope}
use Rattle.program_laws.proofs.StatedResults.{IsStated, AreStated}
use Rattle.program_laws.proofs.StatementsGrow.{statement_grows, statements_grow, statement_keeps}
use Rattle.program_laws.proofs.StatementsGrow.{statements_keep}
use Rattle.program_laws.proofs.FineStatements.{S, Ss, statement_is, statements_are}

module _ (p : Program) (t : Table) (has : Has p t) where
  stated : (o : Surroundings) (s : Scope) (x : Stmt) → IsScope t s
      → (declares_globals s ≡ true → StmtDeclared t s.file s.class x)
      → Ok (IsStated p t o s) (statement t o s x)
  stated o s x scope known =
      ok_map (S p t o s) (IsStated p t o s) (statement t o s x) (λ y is. ((is.0.0, is.0.1.0.0, is.0.1.1), is.1))
      (statement_is p t has o s x scope known)

  all_stated : (o : Surroundings) (s : Scope) (xs : Stmts) → IsScope t s → declares_globals s ≡ false
      → Ok (AreStated p t o s) (statements t o s xs)
  all_stated o s xs scope local =
      ok_map (Ss p t o s) (AreStated p t o s) (statements t o s xs)
      (λ ys are. ((are.0.0, are.0.1.0.0, are.0.1.1), are.1)) (statements_are p t has o s xs scope local)

-- what is found is so
found : {A : Type 0} (P : A → Type 0) (a : Answer A) (x : A) → a ≡ gives x → Ok P a → P x
found P a x is ok = subst (Ok P) is ok

pub typed_file : (t u : Table) (owners : List (Option ℕ)) (file : ℕ) (raw : tree.File) (w : Walked)
    → IsEnteredFile t owners file raw u → FileHasHeads u file raw → FileDeclared u file raw
    → items_typed u file raw ≡ gives w → IsTypedFile u file raw w
typed_file t u owners file raw w is heads declared typed =
    record {
      functions =
          found (λ v. Zip Matches (file_funs v) (file_entries u file raw))
          (items_typed u file raw) w typed
          (items_match u (statement_grows u) (statements_grow u) file raw t.funs
          (length t.funs) refl is.funs is.main heads);
      settles =
          found (λ v. Settles u [] (settled_by v)) (items_typed u file raw) w typed
          (items_settle u file raw);
      fine = λ p has. found (λ v. Each (IsSettled p) (settled_by v)
          → Each (IsFineFun p) (file_funs v) × Each (HasSettled p u) (settled_by v))
          (items_typed u file raw) w typed
          (items_are_fine p u (owners ++ owners_of (file_entries u file raw)) has is.table
          (statement_keeps u) (statements_keep u) (stated p u has) (all_stated p u has) file
          raw t.funs (length t.funs) refl is.funs is.main heads declared);
    }
