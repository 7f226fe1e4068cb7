-- Each function of a checked program makes at most 512 steps for each token of the longest file.
use Rattle.std.proofs.Common.{ℕ, ◌+◌, ◌*◌, ◌≤◌, Bool, true, false, List, [], ◌∷◌, ◌++◌, length, Option, Some, None}
use Rattle.std.proofs.Common.{arith}
use Rattle.ck_values.specs.declared.kind.Kind.{Kind}
use Rattle.ck_syntax.specs.Size.{stmt_size, stmts_size, fun_size, members_size, class_size, item_size}
use Rattle.ck_syntax.specs.Size.{items_size, file_size}
use Rattle.ck_syntax.specs.Tree as tree
use Rattle.ck_syntax.specs.Tree.{Members, no_members, and_member, fun_member, stmt_member, no_items, and_item}
use Rattle.ck_syntax.specs.Tree.{class_item, fun_item, stmt_item}
use Rattle.ck_typed.specs.Tree.{Fun, Program}
use Rattle.first_walk.specs.FirstWalk.{entered, own_class, has_statement}
use Rattle.type_table.specs.Table.{Table, fun_of}
use Rattle.type_table.proofs.Ranges.{Each}
use Rattle.check_scope.specs.Scope.{with_block}
use Rattle.program_laws.specs.Statements.{statement, statements}
use Rattle.program_laws.specs.Programs.{fun_scope, with_params, in_fun, in_no_fun, fun_typed, Walked}
use Rattle.program_laws.specs.Programs.{and_statement, members_typed, class_funs, first_method}
use Rattle.program_laws.specs.Programs.{class_typed, next_fun, and_item_typed, items_typed, file_funs, settled_by, Checked}
use Rattle.program_laws.specs.Programs.{file_checked, files_from, none_checked, checked}
use Rattle.program_laws.proofs.Found.{each_append}
use Rattle.expr_laws.proofs.Oks.{ok_then}
use Rattle.expr_laws.proofs.Premises.{Ok}
use Rattle.expr_steps.specs.Tokens.{token_steps}
use Rattle.expr_steps.proofs.Costs.{then_any}
use Rattle.expr_steps.proofs.Most.{stmt_most}
use Rattle.step_counts.proofs.Statements.{StatedWithin, AllStatedWithin, in_order_more, statement_costs}
use Rattle.step_counts.proofs.Statements.{statements_cost}

-- a function makes the steps of its body, and two more
abbrev pub FunWithin : (tokens : ℕ) → Fun → Type 0
FunWithin tokens fn = stmt_most fn.body + 2 ≤ token_steps * tokens

-- a walk over text of so many tokens, in a file of `most`
abbrev WalkWithin : (most tokens : ℕ) → Walked → Type 0
WalkWithin most tokens w = AllStatedWithin tokens w.stated × Each (FunWithin most) w.funs

-- in a file of at most so many tokens
module _ (most : ℕ) (t : Table) (file : ℕ) where
  fun_costs : (class : Option ℕ) (f : ℕ) (settled : List (ℕ × Kind)) (x : tree.Fun) → fun_size x ≤ most
      → Ok (FunWithin most) (fun_typed t file class f settled x)
  fun_costs class f settled (tree.fun l is_static result n ps body) few =
      then_any (FunWithin most)
      (with_params (fun_of t f).params (fun_scope file class f is_static settled) l ps) _ (λ s.
      ok_then (AllStatedWithin (stmts_size body)) (FunWithin most)
      (statements t (in_fun (fun_of t f).result) (with_block s) body) _
      (statements_cost t (in_fun (fun_of t f).result) (with_block s) body) (λ all less. omega arith))
  fun_costs class f settled (tree.constructor l ps body) few =
      then_any (FunWithin most)
      (with_params (fun_of t f).params (fun_scope file class f false settled) l ps) _ (λ s.
      ok_then (AllStatedWithin (stmts_size body)) (FunWithin most)
      (statements t (in_fun (fun_of t f).result) (with_block s) body) _
      (statements_cost t (in_fun (fun_of t f).result) (with_block s) body) (λ all less. omega arith))

  -- a statement more, and a function more
  and_statement_costs : (k : ℕ) (w : Walked) (x : tree.Stmt) → WalkWithin most k w
      → Ok (WalkWithin most (k + stmt_size x)) (and_statement t w x)
  and_statement_costs k w x few = ok_then (StatedWithin (stmt_size x)) (WalkWithin most (k + stmt_size x))
      (statement t in_no_fun w.stated.scope x) _ (statement_costs t in_no_fun w.stated.scope x)
      (λ y less. (omega (arith, few.0, in_order_more w.stated.stmts y.stmt), few.1))

  and_funs_cost : (k more : ℕ) (w : Walked) (fs : List Fun) → WalkWithin most k w → Each (FunWithin most) fs
      → AllStatedWithin (k + more) w.stated × Each (FunWithin most) (w.funs ++ fs)
  and_funs_cost k more w fs few are = (omega (arith, few.0), each_append (FunWithin most) w.funs fs few.1 are)

  members_cost : (c first : ℕ) (settled : List (ℕ × Kind)) (ms : Members) → members_size ms ≤ most
      → Ok (WalkWithin most (members_size ms)) (members_typed t file c first settled ms)
  members_cost c first settled no_members few = (omega arith, tt)
  members_cost c first settled (and_member ms (stmt_member x)) few =
      ok_then (WalkWithin most (members_size ms)) (WalkWithin most (members_size ms + stmt_size x))
      (members_typed t file c first settled ms) _ (members_cost c first settled ms (omega arith))
      (λ w less. and_statement_costs (members_size ms) w x less)
  members_cost c first settled (and_member ms (fun_member f)) few =
      let all = members_size ms + fun_size f in
      ok_then (WalkWithin most (members_size ms)) (WalkWithin most all)
      (members_typed t file c first settled ms) _ (members_cost c first settled ms (omega arith)) (λ w less.
      ok_then (FunWithin most) (WalkWithin most all)
      (fun_typed t file (Some c) (first + length w.funs) (settled_by w) f) _
      (fun_costs (Some c) (first + length w.funs) (settled_by w) f (omega arith))
      (λ g small. and_funs_cost (members_size ms) (fun_size f) w (g ∷ []) less (small, tt)))

  class_funs_cost : (b : Bool) (l k : ℕ) (w : Walked) → WalkWithin most k w → k + 1 ≤ most
      → Each (FunWithin most) (class_funs b l w)
  class_funs_cost true l k w few less = (omega (arith, few.0), few.1)
  class_funs_cost false l k w few less = few.1

  class_costs : (first : ℕ) (settled : List (ℕ × Kind)) (c : tree.Class) → class_size c ≤ most
      → Ok (Each (FunWithin most)) (class_typed t file first settled c)
  class_costs first settled (tree.class l is_public n parent ms) few =
      let c = own_class t file n in
      let b = has_statement ms in
      ok_then (WalkWithin most (members_size ms)) (Each (FunWithin most))
      (members_typed t file c (first_method b first) settled ms) _
      (members_cost c (first_method b first) settled ms (omega arith))
      (λ w less. class_funs_cost b l (members_size ms) w less (omega arith))

  items_cost : (xs : tree.File) → items_size xs ≤ most → Ok (WalkWithin most (items_size xs)) (items_typed t file xs)
  items_cost no_items few = (omega arith, tt)
  items_cost (and_item xs x) few =
      ok_then (WalkWithin most (items_size xs)) (WalkWithin most (items_size xs + item_size x))
      (items_typed t file xs) _
      (items_cost xs (omega arith)) (λ w less. item_costs (items_size xs) w x less (omega arith))
    where
      item_costs : (k : ℕ) (w : Walked) (x : tree.Item) → WalkWithin most k w → item_size x ≤ most
          → Ok (WalkWithin most (k + item_size x)) (and_item_typed t file w x)
      item_costs k w (stmt_item s) less small = and_statement_costs k w s less
      item_costs k w (fun_item f) less small =
          ok_then (FunWithin most) (WalkWithin most (k + fun_size f))
          (fun_typed t file None (next_fun t file w) (settled_by w) f) _
          (fun_costs None (next_fun t file w) (settled_by w) f small)
          (λ g one. and_funs_cost k (fun_size f) w (g ∷ []) less (one, tt))
      item_costs k w (class_item c) less small =
          ok_then (Each (FunWithin most)) (WalkWithin most (k + class_size c))
          (class_typed t file (next_fun t file w) (settled_by w) c) _
          (class_costs (next_fun t file w) (settled_by w) c small)
          (λ fs all. and_funs_cost k (class_size c) w fs less all)

-- files, and programs -----------------------------------------------------------------------------

module _ (most : ℕ) where
  -- what was checked so far
  abbrev CheckedWithin : Checked → Type 0
  CheckedWithin c = Each (FunWithin most) c.funs

  file_costs : (c : Checked) (file : ℕ) (raw : tree.File) → file_size raw ≤ most → CheckedWithin c
      → Ok CheckedWithin (file_checked c file raw)
  file_costs c file raw few before = then_any CheckedWithin (entered c.table file raw) _ (λ t.
      ok_then (WalkWithin most (items_size raw)) CheckedWithin (items_typed t file raw) _
      (items_cost most t file raw (omega arith)) (λ w less.
      each_append (FunWithin most) c.funs (file_funs w) before (omega (arith, less.0), less.1)))

  files_cost : (files : List tree.File) (c : Checked) (file : ℕ)
      → Each (λ (raw : tree.File). file_size raw ≤ most) files → CheckedWithin c
      → Ok CheckedWithin (files_from c file files)
  files_cost [] c file few before = before
  files_cost (raw ∷ rest) c file few before =
      ok_then CheckedWithin CheckedWithin (file_checked c file raw) _ (file_costs c file raw few.0 before)
      (λ d after. files_cost rest d (file + 1) few.1 after)

  pub program_costs : (files : List tree.File) → Each (λ (raw : tree.File). file_size raw ≤ most) files
      → Ok (λ (p : Program). Each (FunWithin most) p.funs) (checked files)
  program_costs files few =
      ok_then CheckedWithin (λ (p : Program). Each (FunWithin most) p.funs) (files_from none_checked 0 files) _
      (files_cost files none_checked 0 few tt) (λ c after. after)
