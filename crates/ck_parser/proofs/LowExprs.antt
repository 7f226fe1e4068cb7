-- Expressions in which no token stands too deep are low.
use Rattle.std.proofs.Common.{ℕ, zero, suc, ◌≤◌, List, ◌∷◌, Bool, true, false, arith}
use Rattle.ck_base.specs.declared.limits.TheConstants.{MAX_NESTING}
use Rattle.ck_parser.specs.Depth.{one_if, pairs_depths, head_depths, behind, expr_depths}
use Rattle.ck_parser.specs.Depth.{exprs_depths, before_comma, sizes_depths, brackets_depths}
use Rattle.ck_parser.specs.Depth.{declr_depths}
use Rattle.ck_parser.specs.Parse.{AreShallow}
use Rattle.ck_syntax.specs.Tree.{new_with, declr_with}
use Rattle.ck_syntax.specs.Tree.{Expr, int, float, text, name, constant, time_unit, paren, array}
use Rattle.ck_syntax.specs.Tree.{call, index, member, postfix, dur, prefix, new, spork, cast}
use Rattle.ck_syntax.specs.Tree.{binary, choice, declare, chuck, Exprs, no_exprs, and_expr}
use Rattle.ck_syntax.specs.Tree.{Brackets, no_brackets, and_empty, and_size, Declr, declr}
use Rattle.ck_syntax.specs.declared.declaration.DeclHead.{DeclHead}
use Rattle.ck_syntax.specs.Height.{expr_height, exprs_height, brackets_height, declr_height}
use Rattle.ck_parser.proofs.Heights.{most, most-falls, both, Low, whole, front, and_part, over}
use Rattle.ck_parser.proofs.Heights.{joined}

-- what follows tokens that stand shallow does so too
pub behind_one_if : (b : Bool) (d : ℕ) (ds : List ℕ) → AreShallow (one_if b d ds) → AreShallow ds
behind_one_if false d ds s = s
behind_one_if true d ds s = s.1

pub behind_pairs : (d n : ℕ) (ds : List ℕ) → AreShallow (pairs_depths d n ds) → AreShallow ds
behind_pairs d zero ds s = s
behind_pairs d (suc n) ds s = let p = behind_pairs d n (suc d ∷ suc d ∷ ds) s in p.1.1

pub behind_head : (d : ℕ) (h : DeclHead) (ds : List ℕ) → AreShallow (head_depths d h ds)
    → (d ≤ MAX_NESTING) × AreShallow ds
behind_head d h ds s = let p = behind_one_if h.is_static d (d ∷ one_if h.is_reference d ds) s in
    (p.0, behind_one_if h.is_reference d ds p.1)

-- an expression of one token
leaf : {d : ℕ} → d ≤ MAX_NESTING → Low d 1 d
leaf le = front (omega arith) le (omega arith)

mutual
  -- An expression in which no token stands too deep is low, and what follows it is as shallow.
  pub expr_low : (d : ℕ) (e : Expr) (ds : List ℕ) → AreShallow (expr_depths d e ds)
      → Low d (expr_height e) (behind d e) × AreShallow ds
  expr_low d (int l v) ds s = (leaf s.0, s.1)
  expr_low d (float l v) ds s = (leaf s.0, s.1)
  expr_low d (text l v) ds s = (leaf s.0, s.1)
  expr_low d (name l n) ds s = (leaf s.0, s.1)
  expr_low d (constant l c) ds s = (leaf s.0, s.1)
  expr_low d (time_unit l u) ds s = (leaf s.0, s.1)
  expr_low d (paren l e) ds s = let p = expr_low (suc d) e _ s.1 in let t = s.0 in
      (front (omega arith) (omega (arith, t)) (whole p.0), p.1.1)
  expr_low d (array l es) ds s = let p = exprs_low (suc d) es _ s.1 in let t = s.0 in
      (front (omega arith) (omega (arith, t)) p.0, p.1.1)
  expr_low d (call l e es) ds s =
      let p = expr_low d e _ s in
      let q = exprs_low (suc (behind d e)) es _ p.1.1 in
      (over (and_part p.0 q.0) (omega arith) p.1.0, q.1.1)
  expr_low d (index l e i) ds s =
      let p = expr_low d e _ s in
      let q = expr_low (suc (behind d e)) i _ p.1.1 in
      (over (and_part p.0 (whole q.0)) (omega arith) p.1.0, q.1.1)
  expr_low d (member l e n) ds s =
      let p = expr_low d e _ s in (over p.0 (omega arith) p.1.0, p.1.1.1)
  expr_low d (postfix l e o) ds s =
      let p = expr_low d e _ s in (over p.0 (omega arith) p.1.0, p.1.1)
  expr_low d (dur l e u) ds s = let p = expr_low d e _ s in
      let q = expr_low (suc (behind d e)) u ds p.1.1 in (joined p.0 q.0, q.1)
  expr_low d (prefix l o e) ds s = let p = expr_low (suc d) e _ s.1 in let f = p.0.from in
      (front (omega (arith, f)) p.0.to (whole p.0), p.1)
  expr_low d (new l b es) ds s =
      let p = sizes_low (suc d) es _ s.1.1 in
      let le = p.0 in
      let falls : most (suc (suc d)) ≤ most (suc d) = most-falls (omega arith) in
      (front (omega arith) s.0 (omega (arith, le, falls)), p.1)
  expr_low d (new_with l b es) ds s =
      let p = exprs_low (suc (suc d)) es _ s.1.1.1 in
      let le = p.0 in
      let falls : most (suc (suc d)) ≤ most (suc d) = most-falls (omega arith) in
      (front (omega arith) s.0 (omega (arith, le, falls)), p.1.1)
  expr_low d (spork l e) ds s = let p = expr_low (suc d) e _ s.1.1 in let f = p.0.from in
      (front (omega (arith, f)) p.0.to (whole p.0), p.1)
  expr_low d (cast l e k) ds s = let p = expr_low d e _ s in
      (over p.0 (omega arith) p.1.0, behind_pairs (suc (behind d e)) k.brackets ds p.1.1.1)
  expr_low d (binary l e o g) ds s = let p = expr_low d e _ s in
      let q = expr_low (suc (behind d e)) g ds p.1.1 in (joined p.0 q.0, q.1)
  expr_low d (choice l c e g) ds s =
      let p = expr_low d c _ s in
      let q = expr_low (suc (behind d c)) e _ p.1.1 in
      let r = expr_low (suc (behind d c)) g _ q.1.1 in
      (over (and_part p.0 (both (whole q.0) (whole r.0))) r.0.from r.0.to, r.1)
  expr_low d (declare l h x) ds s =
      let p = behind_head d h _ s in
      let q = declr_low d x _ p.1 in
      (front (omega arith) p.0 q.0, q.1)
  expr_low d (chuck l e o g) ds s = let p = expr_low d e _ s in
      let q = expr_low (suc (behind d e)) g ds p.1.1 in (joined p.0 q.0, q.1)

  -- whole expressions, with a comma between each two
  pub exprs_low : (d : ℕ) (es : Exprs) (ds : List ℕ) → AreShallow (exprs_depths d es ds)
      → (exprs_height es ≤ most d) × AreShallow ds
  exprs_low d no_exprs ds s = (omega arith, s)
  exprs_low d (and_expr es e) ds s =
      let p = comma_low d es _ s in let q = expr_low d e ds p.1 in (both p.0 (whole q.0), q.1)

  comma_low : (d : ℕ) (es : Exprs) (ds : List ℕ) → AreShallow (before_comma d es ds)
      → (exprs_height es ≤ most d) × AreShallow ds
  comma_low d no_exprs ds s = (omega arith, s)
  comma_low d (and_expr es e) ds s =
      let p = comma_low d es _ s in let q = expr_low d e _ p.1 in (both p.0 (whole q.0), q.1.1)

  -- whole expressions in brackets each
  sizes_low : (d : ℕ) (es : Exprs) (ds : List ℕ) → AreShallow (sizes_depths d es ds)
      → (exprs_height es ≤ most (suc d)) × AreShallow ds
  sizes_low d no_exprs ds s = (omega arith, s)
  sizes_low d (and_expr es e) ds s = let p = sizes_low d es _ s in
      let q = expr_low (suc d) e _ p.1.1 in (both p.0 (whole q.0), q.1.1)

  brackets_low : (d : ℕ) (bs : Brackets) (ds : List ℕ) → AreShallow (brackets_depths d bs ds)
      → (brackets_height bs ≤ most (suc d)) × AreShallow ds
  brackets_low d no_brackets ds s = (omega arith, s)
  brackets_low d (and_empty bs) ds s = let p = brackets_low d bs _ s in (p.0, p.1.1.1)
  brackets_low d (and_size bs e) ds s = let p = brackets_low d bs _ s in
      let q = expr_low (suc d) e _ p.1.1 in (both p.0 (whole q.0), q.1.1)

  pub declr_low : (d : ℕ) (x : Declr) (ds : List ℕ) → AreShallow (declr_depths d x ds)
      → (declr_height x ≤ most (suc d)) × AreShallow ds
  declr_low d (declr n bs) ds s = brackets_low d bs ds s.1
  declr_low d (declr_with n es) ds s = let p = exprs_low (suc d) es _ s.1.1 in (p.0, p.1.1)
