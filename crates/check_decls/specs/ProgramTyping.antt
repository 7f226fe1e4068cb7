-- What the definition says of functions, classes and files that stand in memory.
use Rattle.std.specs.Prelude.{ℕ, List, map, Option}
use Rattle.ck_values.specs.declared.kind.Kind.{Kind}
use Rattle.ck_syntax.specs.declared.file.ClassDef.{ClassDef}
use Rattle.ck_syntax.specs.declared.file.File.{File}
use Rattle.ck_syntax.specs.declared.file.FunDef.{FunDef}
use Rattle.ck_syntax.specs.declared.file.Item.{Item}
use Rattle.ck_syntax.specs.declared.file.Member.{Member}
use Rattle.ck_syntax.specs.declared.file.Param.{Param}
use Rattle.ck_syntax.specs.declared.stmt.Stmt.{Stmt}
use Rattle.ck_syntax.specs.Tree.{no_items, no_members, no_params, no_stmts}
use Rattle.ck_syntax.specs.View.{view_stmt, stmts_of, params_of, view_fun, view_member, members_of}
use Rattle.ck_syntax.specs.View.{view_class, view_item, items_of, view_file}
use Rattle.ck_typed.specs.Tree.{Fun}
use Rattle.type_table.specs.Answer.{Answer}
use Rattle.type_table.specs.Table.{Table}
use Rattle.check_scope.specs.Scope.{Scope}
use Rattle.check_decls.specs.declared.programs.Checked.{Checked as CheckedFiles}
use Rattle.check_decls.specs.declared.walk.Walked.{Walked as WalkedItems}
use Rattle.program_laws.specs.Programs as of
use Rattle.program_laws.specs.Programs.{Walked, Checked}
use Rattle.check_decls.specs.ProgramView.{view_walked, view_checked}

-- functions -------------------------------------------------------------------------------------

abbrev pub params : (types : List Kind) → Scope → (line : ℕ) → List Param → Answer Scope
params types s l ps = of.with_params types s l (params_of no_params ps)

abbrev pub fun_with : Table → (number line : ℕ) → List Stmt → Scope → Answer Fun
fun_with t f l body s = of.fun_with t f l (stmts_of no_stmts body) s

abbrev pub fun_typed : Table → (file : ℕ) → (class : Option ℕ) → (number : ℕ)
    → (settled : List (ℕ × Kind)) → FunDef → Answer Fun
fun_typed t file class f settled x = of.fun_typed t file class f settled (view_fun x)

-- classes and files -----------------------------------------------------------------------------

abbrev pub and_statement : Table → WalkedItems → Stmt → Answer Walked
and_statement t w x = of.and_statement t (view_walked w) (view_stmt x)

abbrev pub and_member : Table → (file class first : ℕ) → WalkedItems → Member → Answer Walked
and_member t file c first w m = of.and_member_typed t file c first (view_walked w) (view_member m)

abbrev pub members : Table → (file class first : ℕ) → (settled : List (ℕ × Kind)) → List Member
    → Answer Walked
members t file c first settled ms = of.members_typed t file c first settled (members_of no_members ms)

abbrev pub class_typed : Table → (file first : ℕ) → (settled : List (ℕ × Kind)) → ClassDef
    → Answer (List Fun)
class_typed t file first settled c = of.class_typed t file first settled (view_class c)

abbrev pub and_item : Table → (file : ℕ) → WalkedItems → Item → Answer Walked
and_item t file w x = of.and_item_typed t file (view_walked w) (view_item x)

abbrev pub items : Table → (file : ℕ) → List Item → Answer Walked
items t file xs = of.items_typed t file (items_of no_items xs)

-- programs --------------------------------------------------------------------------------------

abbrev pub and_file : CheckedFiles → (file : ℕ) → File → Answer Checked
and_file c file x = of.file_checked (view_checked c) file (view_file x)

abbrev pub and_files : CheckedFiles → List File → Answer Checked
and_files c xs = of.files_from (view_checked c) 0 (map view_file xs)
