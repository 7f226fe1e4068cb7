-- Statements, and the rest of a file, in which no token stands too deep are low.
use Rattle.std.proofs.Common.{ℕ, suc, ◌≤◌, List, ◌∷◌, Option, Some, None, arith}
use Rattle.ck_base.specs.declared.limits.TheConstants.{MAX_NESTING}
use Rattle.ck_parser.specs.Depth.{pairs_depths, declrs_depths, declrs_before_comma, test_depths}
use Rattle.ck_parser.specs.Depth.{option_depths, stmt_depths, stmts_depths, param_depths}
use Rattle.ck_parser.specs.Depth.{params_depths, params_before_comma, fun_depths, member_depths}
use Rattle.ck_parser.specs.Depth.{members_depths, parent_depths, class_depths, item_depths}
use Rattle.ck_parser.specs.Depth.{items_depths, file_depths}
use Rattle.ck_parser.specs.Parse.{AreShallow}
use Rattle.ck_syntax.specs.Tree.{for_each, constructor}
use Rattle.ck_syntax.specs.Tree.{Name, Expr, Declrs, no_declrs, and_declr, Stmt, block, empty}
use Rattle.ck_syntax.specs.Tree.{simple, declares, print, if_then, if_else, while_do, until_do}
use Rattle.ck_syntax.specs.Tree.{do_while, do_until, for_do, repeat, break, continue, return, Stmts}
use Rattle.ck_syntax.specs.Tree.{no_stmts, and_stmt, Params, no_params, and_param, Fun, fun}
use Rattle.ck_syntax.specs.Tree.{Members, no_members, and_member, Member, fun_member, stmt_member}
use Rattle.ck_syntax.specs.Tree.{Class, class, Item, class_item, fun_item, stmt_item, File}
use Rattle.ck_syntax.specs.Tree.{no_items, and_item}
use Rattle.ck_syntax.specs.declared.file.Param.{Param}
use Rattle.ck_syntax.specs.Height.{expr_height, declrs_height, option_height, stmt_height}
use Rattle.ck_syntax.specs.Height.{stmts_height, fun_height, member_height, members_height}
use Rattle.ck_syntax.specs.Height.{class_height, item_height, file_height, MAX_HEIGHT}
use Rattle.ck_parser.proofs.Heights.{most, most-next, both, whole}
use Rattle.ck_parser.proofs.LowExprs.{behind_one_if, behind_pairs, behind_head, expr_low, exprs_low}
use Rattle.ck_parser.proofs.LowExprs.{declr_low}

mutual
  declrs_low : (d : ℕ) (xs : Declrs) (ds : List ℕ) → AreShallow (declrs_depths d xs ds)
      → (declrs_height xs ≤ most (suc d)) × AreShallow ds
  declrs_low d no_declrs ds s = (omega arith, s)
  declrs_low d (and_declr xs x) ds s =
      let p = declrs_comma_low d xs _ s in let q = declr_low d x ds p.1 in (both p.0 q.0, q.1)

  declrs_comma_low : (d : ℕ) (xs : Declrs) (ds : List ℕ) → AreShallow
      (declrs_before_comma d xs ds) → (declrs_height xs ≤ most (suc d)) × AreShallow ds
  declrs_comma_low d no_declrs ds s = (omega arith, s)
  declrs_comma_low d (and_declr xs x) ds s =
      let p = declrs_comma_low d xs _ s in let q = declr_low d x _ p.1 in (both p.0 q.0, q.1.1)

-- what stands one deeper, as part of a statement, is no higher than an expression may be that
-- begins at the statement's depth
deeper : {d h : ℕ} → d ≤ MAX_NESTING → h ≤ suc (most (suc d)) → h ≤ most d
deeper {d = d} t le = let next = most-next d t in omega (arith, next, t, le)

test_low : (d : ℕ) (e : Expr) (ds : List ℕ) → d ≤ MAX_NESTING → AreShallow (test_depths d e ds)
    → (expr_height e ≤ most d) × AreShallow ds
test_low d e ds t s = let p = expr_low (suc d) e _ s.1 in
    (let h = whole p.0 in deeper t (omega (arith, h)), p.1.1)

option_low : (d : ℕ) (e : Option Expr) (ds : List ℕ) → AreShallow (option_depths d e ds)
    → (option_height e ≤ most d) × AreShallow ds
option_low d None ds s = (omega arith, s)
option_low d (Some e) ds s = let p = expr_low d e ds s in (whole p.0, p.1)

-- one more
more : {h c : ℕ} → h ≤ c → suc h ≤ suc c
more le = omega (arith, le)

mutual
  -- A statement that begins at depth d is at most one higher than an expression may be that does.
  pub stmt_low : (d : ℕ) (x : Stmt) (ds : List ℕ) → AreShallow (stmt_depths d x ds)
      → (stmt_height x ≤ suc (most d)) × AreShallow ds
  stmt_low d (block l ss) ds s =
      let p = stmts_low (suc d) ss _ s.1 in (more (deeper s.0 p.0), p.1.1)
  stmt_low d (empty l) ds s = (omega arith, s.1)
  stmt_low d (simple l e) ds s = let p = expr_low d e _ s in (more (whole p.0), p.1.1)
  stmt_low d (declares l h xs) ds s =
      let p = behind_head d h _ s in
      let q = declrs_low d xs _ p.1 in
      (let le = q.0 in more (deeper p.0 (omega (arith, le))), q.1.1)
  stmt_low d (print l es) ds s = let p = exprs_low d es _ s.1 in (more p.0, p.1.1.1)
  stmt_low d (if_then l e x) ds s = let p = test_low d e _ s.0 s.1 in
      let q = stmt_low (suc d) x ds p.1 in (more (both p.0 (deeper s.0 q.0)), q.1)
  stmt_low d (if_else l e x y) ds s =
      let p = test_low d e _ s.0 s.1 in
      let q = stmt_low (suc d) x _ p.1 in
      let r = stmt_low (suc d) y ds q.1.1 in
      (more (both p.0 (both (deeper s.0 q.0) (deeper s.0 r.0))), r.1)
  stmt_low d (while_do l e x) ds s = let p = test_low d e _ s.0 s.1 in
      let q = stmt_low (suc d) x ds p.1 in (more (both p.0 (deeper s.0 q.0)), q.1)
  stmt_low d (until_do l e x) ds s = let p = test_low d e _ s.0 s.1 in
      let q = stmt_low (suc d) x ds p.1 in (more (both p.0 (deeper s.0 q.0)), q.1)
  stmt_low d (do_while l x e) ds s = let p = stmt_low (suc d) x _ s.1 in
      let q = test_low d e _ s.0 p.1.1 in (more (both (deeper s.0 p.0) q.0), q.1.1)
  stmt_low d (do_until l x e) ds s = let p = stmt_low (suc d) x _ s.1 in
      let q = test_low d e _ s.0 p.1.1 in (more (both (deeper s.0 p.0) q.0), q.1.1)
  stmt_low d (for_do l x y e z) ds s =
      let p = stmt_low (suc d) x _ s.1.1 in
      let q = stmt_low (suc d) y _ p.1 in
      let o = option_low (suc d) e _ q.1 in
      let r = stmt_low (suc d) z ds o.1.1 in
      let test : option_height e ≤ suc (most (suc d)) = (let le = o.0 in omega (arith, le)) in (
        more (both (both (deeper s.0 p.0) (deeper s.0 q.0))
            (both (deeper s.0 test) (deeper s.0 r.0))),
        r.1,
      )
  stmt_low d (for_each l h n q e x) ds s =
      let a = behind_head (suc d) h _ s.1.1 in
      let b = behind_pairs (suc d) q _ a.1.1 in
      let p = expr_low (suc d) e _ b.1 in
      let r = stmt_low (suc d) x ds p.1.1 in
      let array : expr_height e ≤ suc (most (suc d)) = (let le = whole p.0 in omega (arith, le)) in
      (more (both (deeper s.0 array) (deeper s.0 r.0)), r.1)
  stmt_low d (repeat l e x) ds s = let p = test_low d e _ s.0 s.1 in
      let q = stmt_low (suc d) x ds p.1 in (more (both p.0 (deeper s.0 q.0)), q.1)
  stmt_low d (break l) ds s = (omega arith, s.1.1)
  stmt_low d (continue l) ds s = (omega arith, s.1.1)
  stmt_low d (return l e) ds s = let p = option_low d e _ s.1 in (more p.0, p.1.1)

  pub stmts_low : (d : ℕ) (ss : Stmts) (ds : List ℕ) → AreShallow (stmts_depths d ss ds)
      → (stmts_height ss ≤ suc (most d)) × AreShallow ds
  stmts_low d no_stmts ds s = (omega arith, s)
  stmts_low d (and_stmt ss x) ds s =
      let p = stmts_low d ss _ s in let q = stmt_low d x ds p.1 in (both p.0 q.0, q.1)

behind_type : (d n : ℕ) (ds : List ℕ) → AreShallow (d ∷ pairs_depths d n ds) → AreShallow ds
behind_type d n ds s = behind_pairs d n ds s.1

behind_param : (d : ℕ) (x : Param) (ds : List ℕ) → AreShallow (param_depths d x ds) → AreShallow ds
behind_param d x ds s =
    let p = behind_type d x.kind.brackets _ s in behind_pairs d x.brackets ds p.1

mutual
  behind_params : (d : ℕ) (ps : Params) (ds : List ℕ) → AreShallow (params_depths d ps ds)
      → AreShallow ds
  behind_params d no_params ds s = s
  behind_params d (and_param ps x) ds s = behind_param d x ds (behind_params_comma d ps _ s)

  behind_params_comma : (d : ℕ) (ps : Params) (ds : List ℕ)
      → AreShallow (params_before_comma d ps ds) → AreShallow ds
  behind_params_comma d no_params ds s = s
  behind_params_comma d (and_param ps x) ds s =
      let p = behind_param d x _ (behind_params_comma d ps _ s) in p.1

fun_low : (x : Fun) (ds : List ℕ) → AreShallow (fun_depths x ds)
    → (fun_height x ≤ suc (suc (most 1))) × AreShallow ds
fun_low (fun l st k n ps ss) ds s =
    let p = behind_type 0 k.brackets _ (behind_one_if st 0 _ s.1) in
    let q = behind_params 1 ps _ p.1.1 in
    let r = stmts_low 1 ss _ q.1.1 in
    (more r.0, r.1.1)
fun_low (constructor l ps ss) ds s =
    let q = behind_params 1 ps _ s.1.1.1.1 in
    let r = stmts_low 1 ss _ q.1.1 in
    (more r.0, r.1.1)

member_low : (x : Member) (ds : List ℕ) → AreShallow (member_depths x ds)
    → (member_height x ≤ suc (suc (most 1))) × AreShallow ds
member_low (fun_member x) ds s = fun_low x ds s
member_low (stmt_member x) ds s =
    let p = stmt_low 1 x ds s in (let h = p.0 in omega (arith, h), p.1)

members_low : (xs : Members) (ds : List ℕ) → AreShallow (members_depths xs ds)
    → (members_height xs ≤ suc (suc (most 1))) × AreShallow ds
members_low no_members ds s = (omega arith, s)
members_low (and_member xs x) ds s =
    let p = members_low xs _ s in let q = member_low x ds p.1 in (both p.0 q.0, q.1)

behind_parent : (n : Option Name) (ds : List ℕ) → AreShallow (parent_depths n ds) → AreShallow ds
behind_parent None ds s = s
behind_parent (Some n) ds s = s.1.1

class_low : (x : Class) (ds : List ℕ) → AreShallow (class_depths x ds)
    → (class_height x ≤ suc (suc (suc (most 1)))) × AreShallow ds
class_low (class l p n parent xs) ds s =
    let h = behind_one_if p 0 _ s in
    let b = behind_parent parent _ h.1.1 in
    let q = members_low xs _ b.1 in
    (more q.0, q.1.1)

item_low : (x : Item) (ds : List ℕ) → AreShallow (item_depths x ds)
    → (item_height x ≤ MAX_HEIGHT) × AreShallow ds
item_low (class_item x) ds s = let p = class_low x ds s in (let h = p.0 in omega (arith, h), p.1)
item_low (fun_item x) ds s = let p = fun_low x ds s in (let h = p.0 in omega (arith, h), p.1)
item_low (stmt_item x) ds s = stmt_low 0 x ds s

items_low : (xs : File) (ds : List ℕ) → AreShallow (items_depths xs ds)
    → (file_height xs ≤ MAX_HEIGHT) × AreShallow ds
items_low no_items ds s = (omega arith, s)
items_low (and_item xs x) ds s =
    let p = items_low xs _ s in let q = item_low x ds p.1 in (both p.0 q.0, q.1)

-- A file in which no token stands too deep is low.
pub file_low : (x : File) → AreShallow (file_depths x) → file_height x ≤ MAX_HEIGHT
file_low x s = let p = items_low x _ s in p.0
