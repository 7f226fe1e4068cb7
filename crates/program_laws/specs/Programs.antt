-- Whole programs: the second walk of each file types its statements, the bodies of its functions
-- and the members of its classes in text order.
use Rattle.std.specs.Prelude.{ℕ, ◌+◌, Bool, true, false, List, [], ◌∷◌, ◌++◌, length, map, codes, Option}
use Rattle.std.specs.Prelude.{Some, None, slice_get, if◌then◌else◌}
use Rattle.ck_values.specs.declared.kind.Elem.TheVariants as elem
use Rattle.ck_values.specs.declared.kind.Kind.{Kind}
use Rattle.ck_values.specs.declared.kind.Kind.TheVariants.{Void, One}
use Rattle.ck_syntax.specs.Tree as tree
use Rattle.ck_syntax.specs.Tree.{Name, Params, no_params, and_param, Members, no_members}
use Rattle.ck_syntax.specs.Tree.{and_member, fun_member, stmt_member, no_items, and_item}
use Rattle.ck_syntax.specs.Tree.{class_item, fun_item, stmt_item}
use Rattle.ck_typed.specs.Standing.{given}
use Rattle.ck_typed.specs.Tree as typed
use Rattle.type_table.specs.Answer.{Answer, gives, and_then, wrong}
use Rattle.type_table.specs.declared.fault.FaultKind.TheVariants.{Duplicate}
use Rattle.type_table.specs.Table.{Table, file_of, fun_of, new_table, with_settled}
use Rattle.first_walk.specs.FirstWalk.{entered, own_class, has_statement}
use Rattle.type_table.specs.Finished.{finished_classes}
use Rattle.check_scope.specs.Scope.{Scope, new_scope, or_void, place, is_declared, with_local}
use Rattle.check_scope.specs.Scope.{with_block}
use Rattle.program_laws.specs.declared.surroundings.Surroundings.{Surroundings}
use Rattle.program_laws.specs.Statements.{AllStated, none_stated, and_stated, block_of, statement}
use Rattle.program_laws.specs.Statements.{statements}

-- functions -------------------------------------------------------------------------------------

-- the scope of a class's statements, and of its functions that aren't static: `this` is their first
-- local
abbrev pub with_this : Scope → (class : ℕ) → Scope
with_this s c = with_local s (codes "this") (One (elem.Class c))

-- what declarations with `auto` settled before is known in it
abbrev pub fun_scope : (file : ℕ) → (class : Option ℕ) → (fun : ℕ) → (is_static : Bool)
    → (settled : List (ℕ × Kind)) → Scope
fun_scope file (Some c) f false settled = with_this (new_scope file (Some c) (Some f) settled) c
fun_scope file class f is_static settled = new_scope file class (Some f) settled

-- parameters are declared in their order, with the types of their function's head; two of one name
-- are a fault of the function
abbrev pub with_param : Scope → (line : ℕ) → Name → Kind → Answer Scope
with_param s l n k = if is_declared s n then wrong s.file l Duplicate else gives (with_local s n k)

abbrev pub count : Params → ℕ
count no_params = 0
count (and_param ps p) = count ps + 1

abbrev pub with_params : (types : List Kind) → Scope → (line : ℕ) → Params → Answer Scope
with_params types s l no_params = gives s
with_params types s l (and_param ps p) =
    and_then (with_params types s l ps) (λ u.
    with_param u l p.name (or_void (slice_get types (count ps))))

-- a function of these statements, of whose locals so many are parameters
abbrev pub fun_made : (params : ℕ) → (result : Kind) → (line : ℕ) → AllStated → typed.Fun
fun_made params result l all =
    record {
      params = params;
      locals = all.scope.locals;
      result = given result;
      body =
          block_of all.stmts;
      place = place all.scope l;
    }

-- what the statements of a function stand in, and the others
abbrev pub in_fun : (result : Kind) → Surroundings
in_fun k = record { result = Some k; in_loop = false }

abbrev pub in_no_fun : Surroundings
in_no_fun = record { result = None; in_loop = false }

-- the parameters are a level of their own around the body
abbrev pub fun_with : Table → (number line : ℕ) → tree.Stmts → Scope → Answer typed.Fun
fun_with t f l body s =
    and_then (statements t (in_fun (fun_of t f).result) (with_block s) body) (λ all.
    gives (fun_made (length s.locals) (fun_of t f).result l all))

-- a constructor isn't static
abbrev pub is_static : tree.Fun → Bool
is_static (tree.fun l static result n ps body) = static
is_static (tree.constructor l ps body) = false

abbrev pub fun_typed : Table → (file : ℕ) → (class : Option ℕ) → (number : ℕ)
    → (settled : List (ℕ × Kind)) → tree.Fun → Answer typed.Fun
fun_typed t file class f settled (tree.fun l static result n ps body) =
    and_then (with_params (fun_of t f).params (fun_scope file class f static settled) l ps) (λ s.
    fun_with t f l body s)
fun_typed t file class f settled (tree.constructor l ps body) =
    and_then (with_params (fun_of t f).params (fun_scope file class f false settled) l ps) (λ s.
    fun_with t f l body s)

-- classes and files -----------------------------------------------------------------------------

-- the statements that stand in a class's braces, or in no class and no function; and the functions
-- beside them
pub record Walked : Type 0 where
  pub stated : AllStated
  pub funs : List typed.Fun

abbrev pub begun : Scope → Walked
begun s = record { stated = none_stated s; funs = [] }

abbrev pub and_statement : Table → Walked → tree.Stmt → Answer Walked
and_statement t w s =
    and_then (statement t in_no_fun w.stated.scope s) (λ x.
    gives (record w { stated = and_stated w.stated x }))

abbrev pub and_fun : Walked → typed.Fun → Walked
and_fun w f = record w { funs = w.funs ++ f ∷ [] }

-- what was settled so far
abbrev pub settled_by : Walked → List (ℕ × Kind)
settled_by w = w.stated.scope.settled

-- functions are numbered in text order, from the first on
abbrev pub and_member_typed : Table → (file class first : ℕ) → Walked → tree.Member → Answer Walked
and_member_typed t file c first w (stmt_member s) = and_statement t w s
and_member_typed t file c first w (fun_member f) =
    and_then (fun_typed t file (Some c) (first + length w.funs) (settled_by w) f) (λ g. gives (and_fun w g))

abbrev pub members_typed : Table → (file class first : ℕ) → (settled : List (ℕ × Kind)) → Members
    → Answer Walked
members_typed t file c first settled no_members =
    gives (begun (with_this (new_scope file (Some c) None settled) c))
members_typed t file c first settled (and_member ms m) =
    and_then (members_typed t file c first settled ms) (λ w.
    and_member_typed t file c first w m)

-- the function of the statements in the braces comes first, where there are any; its one parameter
-- is `this`
abbrev pub class_funs : (has_body : Bool) → (line : ℕ) → Walked → List typed.Fun
class_funs true l w = fun_made 1 Void l w.stated ∷ w.funs
class_funs false l w = w.funs

abbrev pub first_method : (has_body : Bool) → (first : ℕ) → ℕ
first_method true first = first + 1
first_method false first = first

abbrev pub class_typed : Table → (file first : ℕ) → (settled : List (ℕ × Kind)) → tree.Class
    → Answer (List typed.Fun)
class_typed t file first settled (tree.class l is_public n parent ms) =
    and_then
    (members_typed t file (own_class t file n) (first_method (has_statement ms) first) settled ms)
    (λ w.
    gives (class_funs (has_statement ms) l w))

abbrev pub and_funs : Walked → List typed.Fun → Walked
and_funs w fs = record w { funs = w.funs ++ fs }

-- the number of the next function of a file: that of its statements comes first
abbrev pub next_fun : Table → (file : ℕ) → Walked → ℕ
next_fun t file w = (file_of t file).main + 1 + length w.funs

abbrev pub and_item_typed : Table → (file : ℕ) → Walked → tree.Item → Answer Walked
and_item_typed t file w (stmt_item s) = and_statement t w s
and_item_typed t file w (fun_item f) =
    and_then (fun_typed t file None (next_fun t file w) (settled_by w) f) (λ g. gives (and_fun w g))
and_item_typed t file w (class_item c) =
    and_then (class_typed t file (next_fun t file w) (settled_by w) c) (λ fs. gives (and_funs w fs))

abbrev pub items_typed : Table → (file : ℕ) → tree.File → Answer Walked
items_typed t file no_items = gives (begun (new_scope file None None []))
items_typed t file (and_item xs x) =
    and_then (items_typed t file xs) (λ w.
    and_item_typed t file w x)

-- the functions of a file
abbrev pub file_funs : Walked → List typed.Fun
file_funs w = fun_made 0 Void 1 w.stated ∷ w.funs

-- programs --------------------------------------------------------------------------------------

-- what the files so far declare, their functions, and of each the function of its statements; what
-- was settled in a file stands in the table behind it
pub record Checked : Type 0 where
  pub table : Table
  pub funs : List typed.Fun
  pub mains : List ℕ

abbrev pub none_checked : Checked
none_checked = record { table = new_table; funs = []; mains = [] }

abbrev pub with_file_funs : Checked → (file : ℕ) → Table → Walked → Checked
with_file_funs c file t w =
    record {
      table = with_settled t (settled_by w);
      funs = c.funs ++ file_funs w;
      mains =
          c.mains ++ (file_of t file).main ∷ [];
    }

-- both walks of one file
abbrev pub file_checked : Checked → (file : ℕ) → tree.File → Answer Checked
file_checked c file raw =
    and_then (entered c.table file raw) (λ t.
    and_then (items_typed t file raw) (λ w.
    gives (with_file_funs c file t w)))

-- file by file
abbrev pub files_from : Checked → (file : ℕ) → List tree.File → Answer Checked
files_from c file [] = gives c
files_from c file (raw ∷ rest) =
    and_then (file_checked c file raw) (λ d. files_from d (file + 1) rest)

abbrev pub program_of : Checked → typed.Program
program_of c =
    record {
      files = length c.mains;
      classes = finished_classes c.table;
      funs = c.funs;
      statics =
          map given c.table.statics;
      mains = c.mains;
    }

-- the typed program of these files, or the first fault of the walk
abbrev pub checked : List tree.File → Answer typed.Program
checked files = and_then (files_from none_checked 0 files) (λ c. gives (program_of c))
