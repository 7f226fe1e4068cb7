-- A tree in which no token stands too deep, and which is as high as one may be.
use Rattle.std.proofs.Common.{◌≡◌, ℕ, zero, suc, ◌+◌, ◌≤◌, List, [], ◌∷◌, arith}
use Rattle.std.specs.Prelude.{pos}
use Rattle.ck_base.specs.declared.limits.TheConstants.{MAX_NESTING}
use Rattle.ck_parser.specs.Depth.{behind, expr_depths, file_depths}
use Rattle.ck_parser.specs.Parse.{AreShallow}
use Rattle.ck_syntax.specs.Tree.{Expr, int, paren, member, simple, stmt_item, File, no_items}
use Rattle.ck_syntax.specs.Tree.{and_item}
use Rattle.ck_syntax.specs.Height.{MAX_HEIGHT, expr_height, file_height}
use Rattle.ck_parser.proofs.Heights.{triangle}

-- n operators behind an operand
abbrev chain : ℕ → Expr → Expr
chain zero e = e
chain (suc n) e = member 0 (chain n e) (97 ∷ [])

-- n pairs of parentheses in one another, each with as many operators behind it as there are
-- pairs from it on
abbrev tower : ℕ → Expr
tower zero = int 0 (pos 0)
tower (suc n) = chain (suc n) (paren 0 (tower n))

behind-chain : (d n : ℕ) (e : Expr) → behind d (chain n e) ≡ n + behind d e
behind-chain d zero e = omega arith
behind-chain d (suc n) e = let rest = behind-chain d n e in omega (arith, rest)

shallow-chain : (d n : ℕ) (e : Expr) → n + behind d e ≤ MAX_NESTING
    → ((ds : List ℕ) → AreShallow ds → AreShallow (expr_depths d e ds)) →
    (ds : List ℕ) → AreShallow ds → AreShallow (expr_depths d (chain n e) ds)
shallow-chain d zero e le first ds s = first ds s
shallow-chain d (suc n) e le first ds s =
    let deep = behind-chain d n e in
    let t : suc (behind d (chain n e)) ≤ MAX_NESTING = omega (arith, deep, le) in
    shallow-chain d n e (omega (arith, le)) first _ (t, (t, s))

shallow-tower : (n d : ℕ) → d + n ≤ MAX_NESTING → (ds : List ℕ) → AreShallow ds
    → AreShallow (expr_depths d (tower n) ds)
shallow-tower zero d le ds s = (omega (arith, le), s)
shallow-tower (suc n) d le ds s =
    let t : suc d ≤ MAX_NESTING = omega (arith, le) in
    shallow-chain d (suc n) (paren 0 (tower n)) (omega (arith, le))
    (λ more r. (t, shallow-tower n (suc d) (omega (arith, le)) _ (t, r))) ds s

high-chain : (n : ℕ) (e : Expr) → expr_height (chain n e) ≡ n + expr_height e
high-chain zero e = omega arith
high-chain (suc n) e = let rest = high-chain n e in omega (arith, rest)

high-tower : (n : ℕ) → expr_height (tower n) ≡ triangle (suc n)
high-tower zero = omega arith
high-tower (suc n) = let rest = high-tower n in
    let more = high-chain (suc n) (paren 0 (tower n)) in omega (arith, rest, more)

pub highest : (x : File) × AreShallow (file_depths x) × (file_height x ≡ MAX_HEIGHT)
highest =
    let high = high-tower MAX_NESTING in
    let none : 0 ≤ MAX_NESTING = omega arith in
    let shallow = shallow-tower MAX_NESTING 0 (omega arith) (0 ∷ 0 ∷ []) (none, (none, tt)) in
    (and_item no_items (stmt_item (simple 0 (tower MAX_NESTING))), shallow, omega (arith, high))
