-- A program lies in its files, and what is wrong with it stands in one of them.
use Rattle.std.proofs.Common.{◌≡◌, ℕ, ◌+◌, ◌<◌, Bool, true, false, List, [], ◌∷◌, length}
use Rattle.std.proofs.Common.{Option, Some, None, slice_get, refl, sym, subst, arith}
use Rattle.ck_values.specs.declared.kind.Kind.{Kind}
use Rattle.ck_values.specs.declared.kind.Kind.TheVariants.{Void}
use Rattle.ck_syntax.specs.Tree as tree
use Rattle.ck_syntax.specs.Tree.{Name, Params, no_params, and_param, Members, no_members}
use Rattle.ck_syntax.specs.Tree.{and_member, fun_member, stmt_member, no_items, and_item}
use Rattle.ck_syntax.specs.Tree.{class_item, fun_item, stmt_item}
use Rattle.ck_typed.specs.Tree as typed
use Rattle.ck_typed.specs.WellFormed.{FunLies}
use Rattle.type_table.specs.Answer.{Answer, Fault, gives, refused, and_then}
use Rattle.first_walk.specs.FirstWalk.{entered, own_class, has_statement}
use Rattle.type_table.specs.Table.{Table, fun_of}
use Rattle.type_table.proofs.FaultFiles.{Placed, placed_then, placed_if}
use Rattle.type_table.proofs.Ranges.{Each}
use Rattle.first_walk.proofs.WalkFaults.{entered_in}
use Rattle.check_scope.specs.Scope.{Scope, or_void, is_declared, with_block}
use Rattle.program_laws.specs.Statements.{AllStated, statement, statements}
use Rattle.program_laws.specs.Programs.{fun_scope, with_param, count, with_params, fun_made, in_fun}
use Rattle.program_laws.specs.Programs.{in_no_fun, fun_with, fun_typed, Walked, and_statement, and_fun}
use Rattle.program_laws.specs.Programs.{and_member_typed, members_typed, class_funs, first_method}
use Rattle.program_laws.specs.Programs.{class_typed, next_fun, and_item_typed, items_typed}
use Rattle.program_laws.specs.Programs.{file_funs, settled_by, Checked, none_checked, file_checked}
use Rattle.program_laws.specs.Programs.{files_from}
use Rattle.expr_laws.proofs.ExprFiles.{inside}
use Rattle.expr_laws.proofs.ScopeLaws.{each_and}
use Rattle.program_laws.proofs.Found.{each_append}
use Rattle.program_laws.proofs.StatementFiles.{StatedIn, AllStatedIn, more_lie, statement_in}
use Rattle.program_laws.proofs.StatementFiles.{statements_in}

abbrev ScopeIn : (file : ℕ) → Scope → Type 0
ScopeIn f s = s.file ≡ f

-- each of these functions lies in one of so many files
abbrev pub FunsLie : (files : ℕ) → List typed.Fun → Type 0
FunsLie files funs = Each (FunLies files) funs

abbrev WalkedIn : (files file : ℕ) → Walked → Type 0
WalkedIn files f w = AllStatedIn files f w.stated × FunsLie files w.funs

-- a file of the program
module _ (files f : ℕ) (known : f < files) (t : Table) where
  -- functions -------------------------------------------------------------------------------------

  scope_in : (class : Option ℕ) (g : ℕ) (is_static : Bool) (settled : List (ℕ × Kind))
      → (fun_scope f class g is_static settled).file ≡ f
  scope_in (Some c) g false settled = refl
  scope_in (Some c) g true settled = refl
  scope_in None g false settled = refl
  scope_in None g true settled = refl

  param_in : (s : Scope) → s.file ≡ f → (l : ℕ) (n : Name) (k : Kind)
      → Placed (ScopeIn f) f (with_param s l n k)
  param_in s here l n k = placed_if (ScopeIn f) f (is_declared s n) _ _ here here

  params_in : (types : List Kind) (s : Scope) → s.file ≡ f → (l : ℕ) (ps : Params)
      → Placed (ScopeIn f) f (with_params types s l ps)
  params_in types s here l no_params = here
  params_in types s here l (and_param ps p) =
      placed_then (ScopeIn f) (ScopeIn f) f (with_params types s l ps) _
      (params_in types s here l ps)
      (λ u so. param_in u so l p.name (or_void (slice_get types (count ps))))

  made_lies : (params : ℕ) (result : Kind) (l : ℕ) (all : AllStated) → AllStatedIn files f all
      → FunLies files (fun_made params result l all)
  made_lies params result l all so = (so.1, inside files f known all.scope so.0)

  fun_with_in : (g l : ℕ) (body : tree.Stmts) (s : Scope) → s.file ≡ f
      → Placed (FunLies files) f (fun_with t g l body s)
  fun_with_in g l body s here =
      placed_then (AllStatedIn files f) (FunLies files) f
      (statements t (in_fun (fun_of t g).result) (with_block s) body) _
      (statements_in files f known t (in_fun (fun_of t g).result) (with_block s) here body)
      (λ all so. made_lies (length s.locals) (fun_of t g).result l all so)

  -- a function whose scope begins so
  begun_in : (g l : ℕ) (ps : Params) (body : tree.Stmts) (s : Scope) → s.file ≡ f
      → Placed (FunLies files) f
      (and_then (with_params (fun_of t g).params s l ps) (λ u. fun_with t g l body u))
  begun_in g l ps body s here =
      placed_then (ScopeIn f) (FunLies files) f (with_params (fun_of t g).params s l ps) _
      (params_in (fun_of t g).params s here l ps) (λ u so. fun_with_in g l body u so)

  fun_in : (class : Option ℕ) (g : ℕ) (settled : List (ℕ × Kind)) (x : tree.Fun)
      → Placed (FunLies files) f (fun_typed t f class g settled x)
  fun_in class g settled (tree.fun l is_static result n ps body) =
      begun_in g l ps body (fun_scope f class g is_static settled)
      (scope_in class g is_static settled)
  fun_in class g settled (tree.constructor l ps body) =
      begun_in g l ps body (fun_scope f class g false settled) (scope_in class g false settled)

  -- classes and files -----------------------------------------------------------------------------

  and_statement_in : (w : Walked) → WalkedIn files f w → (x : tree.Stmt)
      → Placed (WalkedIn files f) f (and_statement t w x)
  and_statement_in w here x =
      placed_then (StatedIn files f) (WalkedIn files f) f
      (statement t in_no_fun w.stated.scope x) _
      (statement_in files f known t in_no_fun w.stated.scope here.0.0 x)
      (λ y so. ((so.0, more_lie files w.stated.stmts y.stmt here.0.1 so.1), here.1))

  and_fun_in : (w : Walked) → WalkedIn files f w → (class : Option ℕ) (g : ℕ) (x : tree.Fun)
      → Placed (WalkedIn files f) f
      (and_then (fun_typed t f class g (settled_by w) x) (λ y. gives (and_fun w y)))
  and_fun_in w here class g x =
      placed_then (FunLies files) (WalkedIn files f) f (fun_typed t f class g (settled_by w) x) _
      (fun_in class g (settled_by w) x) (λ y so. (here.0, each_and (FunLies files) w.funs y here.1 so))

  and_member_in : (c first : ℕ) (w : Walked) → WalkedIn files f w → (m : tree.Member)
      → Placed (WalkedIn files f) f (and_member_typed t f c first w m)
  and_member_in c first w here (stmt_member s) = and_statement_in w here s
  and_member_in c first w here (fun_member x) =
      and_fun_in w here (Some c) (first + length w.funs) x

  members_in : (c first : ℕ) (settled : List (ℕ × Kind)) (ms : Members)
      → Placed (WalkedIn files f) f (members_typed t f c first settled ms)
  members_in c first settled no_members = ((refl, tt), tt)
  members_in c first settled (and_member ms m) =
      placed_then (WalkedIn files f) (WalkedIn files f) f (members_typed t f c first settled ms) _
      (members_in c first settled ms) (λ w so. and_member_in c first w so m)

  class_funs_lie : (has_body : Bool) (l : ℕ) (w : Walked) → WalkedIn files f w
      → FunsLie files (class_funs has_body l w)
  class_funs_lie true l w here = (made_lies 1 Void l w.stated here.0, here.1)
  class_funs_lie false l w here = here.1

  class_in : (first : ℕ) (settled : List (ℕ × Kind)) (c : tree.Class)
      → Placed (FunsLie files) f (class_typed t f first settled c)
  class_in first settled (tree.class l is_public n parent ms) =
      placed_then (WalkedIn files f) (FunsLie files) f
      (members_typed t f (own_class t f n) (first_method (has_statement ms) first) settled ms) _
      (members_in (own_class t f n) (first_method (has_statement ms) first) settled ms)
      (λ w so. class_funs_lie (has_statement ms) l w so)

  and_item_in : (w : Walked) → WalkedIn files f w → (x : tree.Item)
      → Placed (WalkedIn files f) f (and_item_typed t f w x)
  and_item_in w here (stmt_item s) = and_statement_in w here s
  and_item_in w here (fun_item x) = and_fun_in w here None (next_fun t f w) x
  and_item_in w here (class_item c) =
      placed_then (FunsLie files) (WalkedIn files f) f
      (class_typed t f (next_fun t f w) (settled_by w) c) _
      (class_in (next_fun t f w) (settled_by w) c)
      (λ fs so. (here.0, each_append (FunLies files) w.funs fs here.1 so))

  items_in : (xs : tree.File) → Placed (WalkedIn files f) f (items_typed t f xs)
  items_in no_items = ((refl, tt), tt)
  items_in (and_item xs x) =
      placed_then (WalkedIn files f) (WalkedIn files f) f (items_typed t f xs) _ (items_in xs)
      (λ w so. and_item_in w so x)

abbrev CheckedIn : (files : ℕ) → Checked → Type 0
CheckedIn files c = FunsLie files c.funs

file_in : (files : ℕ) (c : Checked) (f : ℕ) (raw : tree.File) → f < files → CheckedIn files c
    → Placed (CheckedIn files) f (file_checked c f raw)
file_in files c f raw known lie =
    placed_then (λ _. Unit {0}) (CheckedIn files) f (entered c.table f raw) _
    (entered_in f c.table raw) (λ t any.
    placed_then (WalkedIn files f) (CheckedIn files) f (items_typed t f raw) _
    (items_in files f known t raw) (λ w so.
    each_append (FunLies files) c.funs (file_funs w) lie
    (made_lies files f known t 0 Void 1 w.stated so.0, so.1)))

-- programs ----------------------------------------------------------------------------------------

-- what is found lies in so many files, and what is wrong stands in one of them
abbrev Below : (files : ℕ) → Answer Checked → Type 0
Below n (gives c) = CheckedIn n c
Below n (refused why) = why.file < n

then_below : (f n : ℕ) (a : Answer Checked) (next : Checked → Answer Checked) → f < n
    → Placed (CheckedIn n) f a → ((c : Checked) → CheckedIn n c → Below n (next c))
    → Below n (and_then a next)
then_below f n (gives c) next lt is goes = goes c is
then_below f n (refused why) next lt is goes = subst (λ k. k < n) (sym is) lt

files_below : (files : List tree.File) (n : ℕ) (c : Checked) (f : ℕ) → f + length files ≡ n
    → CheckedIn n c → Below n (files_from c f files)
files_below [] n c f all lie = lie
files_below (raw ∷ rest) n c f all lie =
    then_below f n (file_checked c f raw) _ (omega (arith, all))
    (file_in n c f raw (omega (arith, all)) lie)
    (λ d so. files_below rest n d (f + 1) (omega (arith, all)) so)

all_below : (files : List tree.File) → Below (length files) (files_from none_checked 0 files)
all_below files = files_below files (length files) none_checked 0 (omega arith) tt

-- the first fault of the walk over files stands in one of them
pub fault_placed : (files : List tree.File) (why : Fault)
    → files_from none_checked 0 files ≡ refused why → why.file < length files
fault_placed files why is = subst (λ found. Below (length files) found) is (all_below files)

-- and what it finds lies in them
pub found_lies : (files : List tree.File) (c : Checked)
    → files_from none_checked 0 files ≡ gives c → FunsLie (length files) c.funs
found_lies files c is = subst (λ found. Below (length files) found) is (all_below files)
