-- A tree has as many depths as its size says, and they are of as many tokens as its file has.
use Rattle.std.proofs.Common.{◌≡◌, ℕ, zero, suc, ◌+◌, ◌*◌, List, [], ◌∷◌, ◌++◌, length, take, Bool}
use Rattle.std.proofs.Common.{true, false, Option, Some, None, refl, sym, ◌∙◌, ap, arith}
use Rattle.ck_lexer.specs.declared.token.Token.{Token}
use Rattle.ck_parser.specs.Depth.{one_if, pairs_depths, type_depths, head_depths, behind}
use Rattle.ck_parser.specs.Depth.{expr_depths, exprs_depths, before_comma, sizes_depths}
use Rattle.ck_parser.specs.Depth.{brackets_depths, declr_depths, declrs_depths, declrs_before_comma}
use Rattle.ck_parser.specs.Depth.{test_depths, option_depths, stmt_depths, stmts_depths}
use Rattle.ck_parser.specs.Depth.{param_depths, params_depths, params_before_comma, fun_depths}
use Rattle.ck_parser.specs.Depth.{member_depths, members_depths, parent_depths, class_depths}
use Rattle.ck_parser.specs.Depth.{item_depths, items_depths, file_depths}
use Rattle.ck_parser.specs.Grammar.{IsFile}
use Rattle.parse_exprs.specs.Machine.{State, Next, accepted, step, run, resume, heights, depths_on}
use Rattle.parse_exprs.specs.Machine.{start}
use Rattle.ck_parser.proofs.Passes.{any}
use Rattle.ck_parser.proofs.PassesFile.{heights-file, run-file}
use Rattle.ck_syntax.specs.Size as size
use Rattle.ck_syntax.specs.Size.{type_size, head_size, expr_size, exprs_size, bracketed_size}
use Rattle.ck_syntax.specs.Size.{brackets_size, declr_size, declrs_size}
use Rattle.ck_syntax.specs.Size.{declrs_before_comma as declrs_comma_size}
use Rattle.ck_syntax.specs.Size.{before_comma as comma_size, option_size, stmt_size, stmts_size}
use Rattle.ck_syntax.specs.Size.{param_size, params_size, params_before_comma as params_comma_size}
use Rattle.ck_syntax.specs.Size.{fun_size, member_size, members_size, parent_size, class_size}
use Rattle.ck_syntax.specs.Size.{item_size, items_size, file_size}
use Rattle.ck_syntax.specs.Tree.{new_with, declr_with, for_each, constructor}
use Rattle.ck_syntax.specs.Tree.{Name, Expr, int, float, text, name, constant, time_unit, paren}
use Rattle.ck_syntax.specs.Tree.{array, call, index, member, postfix, dur, prefix, new, spork, cast}
use Rattle.ck_syntax.specs.Tree.{binary, choice, declare, chuck, Exprs, no_exprs, and_expr}
use Rattle.ck_syntax.specs.Tree.{Brackets, no_brackets, and_empty, and_size, Declr, declr, Declrs}
use Rattle.ck_syntax.specs.Tree.{no_declrs, and_declr, Stmt, block, empty, simple, declares, print}
use Rattle.ck_syntax.specs.Tree.{if_then, if_else, while_do, until_do, do_while, do_until, for_do}
use Rattle.ck_syntax.specs.Tree.{repeat, break, continue, return, Stmts, no_stmts, and_stmt, Params}
use Rattle.ck_syntax.specs.Tree.{no_params, and_param, Fun, fun, Members, no_members, and_member}
use Rattle.ck_syntax.specs.Tree.{Member, fun_member, stmt_member, Class, class, Item, class_item}
use Rattle.ck_syntax.specs.Tree.{fun_item, stmt_item, File, no_items, and_item}
use Rattle.ck_syntax.specs.declared.declaration.DeclHead.{DeclHead}
use Rattle.ck_syntax.specs.declared.declaration.TypeName.{TypeName}
use Rattle.ck_syntax.specs.declared.file.Param.{Param}

-- ---- as many depths as the size says

one_if-length : (b : Bool) (d : ℕ) (ds : List ℕ)
    → length (one_if b d ds) ≡ size.one_if b + length ds
one_if-length false d ds = omega arith
one_if-length true d ds = omega arith

pairs-length : (d n : ℕ) (ds : List ℕ) → length (pairs_depths d n ds) ≡ 2 * n + length ds
pairs-length d zero ds = omega arith
pairs-length d (suc n) ds = let first = pairs-length d n (suc d ∷ suc d ∷ ds) in omega arith

type-length : (d : ℕ) (k : TypeName) (ds : List ℕ)
    → length (type_depths d k ds) ≡ type_size k + length ds
type-length d k ds = let first = pairs-length d k.brackets ds in omega arith

head-length : (d : ℕ) (h : DeclHead) (ds : List ℕ)
    → length (head_depths d h ds) ≡ head_size h + length ds
head-length d h ds = let first = one_if-length h.is_static d (d ∷ one_if h.is_reference d ds) in
    let second = one_if-length h.is_reference d ds in omega arith

mutual
  expr-length : (d : ℕ) (x : Expr) (ds : List ℕ)
      → length (expr_depths d x ds) ≡ expr_size x + length ds
  expr-length d (int l v) ds = omega arith
  expr-length d (float l v) ds = omega arith
  expr-length d (text l v) ds = omega arith
  expr-length d (name l n) ds = omega arith
  expr-length d (constant l c) ds = omega arith
  expr-length d (time_unit l u) ds = omega arith
  expr-length d (paren l e) ds = let first = expr-length (suc d) e (suc d ∷ ds) in omega arith
  expr-length d (array l es) ds = let first = exprs-length (suc d) es (suc d ∷ ds) in omega arith
  expr-length d (call l e es) ds = let first = expr-length d e
      (suc (behind d e) ∷ exprs_depths (suc (behind d e)) es (suc (behind d e) ∷ ds)) in
      let second = exprs-length (suc (behind d e)) es (suc (behind d e) ∷ ds) in omega arith
  expr-length d (index l e i) ds = let first = expr-length d e
      (suc (behind d e) ∷ expr_depths (suc (behind d e)) i (suc (behind d e) ∷ ds)) in
      let second = expr-length (suc (behind d e)) i (suc (behind d e) ∷ ds) in omega arith
  expr-length d (member l e n) ds =
      let first = expr-length d e (suc (behind d e) ∷ suc (behind d e) ∷ ds) in omega arith
  expr-length d (postfix l e o) ds =
      let first = expr-length d e (suc (behind d e) ∷ ds) in omega arith
  expr-length d (dur l e u) ds = let first = expr-length d e
      (suc (behind d e) ∷ expr_depths (suc (behind d e)) u ds) in
      let second = expr-length (suc (behind d e)) u ds in omega arith
  expr-length d (prefix l o e) ds = let first = expr-length (suc d) e ds in omega arith
  expr-length d (new l b es) ds = let first = sizes-length (suc d) es ds in omega arith
  expr-length d (new_with l b es) ds =
      let first = exprs-length (suc (suc d)) es (suc (suc d) ∷ ds) in omega arith
  expr-length d (spork l e) ds = let first = expr-length (suc d) e ds in omega arith
  expr-length d (cast l e k) ds = let first = expr-length d e
      (suc (behind d e) ∷ type_depths (suc (behind d e)) k ds) in
      let second = type-length (suc (behind d e)) k ds in omega arith
  expr-length d (binary l e o g) ds = let first = expr-length d e
      (suc (behind d e) ∷ expr_depths (suc (behind d e)) g ds) in
      let second = expr-length (suc (behind d e)) g ds in omega arith
  expr-length d (choice l c e g) ds = let first = expr-length d c
      (suc (behind d c) ∷ expr_depths (suc (behind d c)) e
      (suc (behind d c) ∷ expr_depths (suc (behind d c)) g ds)) in
      let second = expr-length (suc (behind d c)) e
      (suc (behind d c) ∷ expr_depths (suc (behind d c)) g ds) in
      let third = expr-length (suc (behind d c)) g ds in omega arith
  expr-length d (declare l h x) ds = let first = head-length d h (declr_depths d x ds) in
      let second = declr-length d x ds in omega arith
  expr-length d (chuck l e o g) ds = let first = expr-length d e
      (suc (behind d e) ∷ expr_depths (suc (behind d e)) g ds) in
      let second = expr-length (suc (behind d e)) g ds in omega arith

  exprs-length : (d : ℕ) (x : Exprs) (ds : List ℕ)
      → length (exprs_depths d x ds) ≡ exprs_size x + length ds
  exprs-length d no_exprs ds = omega arith
  exprs-length d (and_expr es e) ds = let first = comma-length d es (expr_depths d e ds) in
      let second = expr-length d e ds in omega arith

  comma-length : (d : ℕ) (x : Exprs) (ds : List ℕ)
      → length (before_comma d x ds) ≡ comma_size x + length ds
  comma-length d no_exprs ds = omega arith
  comma-length d (and_expr es e) ds = let first = comma-length d es
      (expr_depths d e (d ∷ ds)) in let second = expr-length d e (d ∷ ds) in omega arith

  sizes-length : (d : ℕ) (x : Exprs) (ds : List ℕ)
      → length (sizes_depths d x ds) ≡ bracketed_size x + length ds
  sizes-length d no_exprs ds = omega arith
  sizes-length d (and_expr es e) ds = let first = sizes-length d es
      (suc d ∷ expr_depths (suc d) e (suc d ∷ ds)) in
      let second = expr-length (suc d) e (suc d ∷ ds) in omega arith

  brackets-length : (d : ℕ) (x : Brackets) (ds : List ℕ)
      → length (brackets_depths d x ds) ≡ brackets_size x + length ds
  brackets-length d no_brackets ds = omega arith
  brackets-length d (and_empty bs) ds =
      let first = brackets-length d bs (suc d ∷ suc d ∷ ds) in omega arith
  brackets-length d (and_size bs e) ds = let first = brackets-length d bs
      (suc d ∷ expr_depths (suc d) e (suc d ∷ ds)) in
      let second = expr-length (suc d) e (suc d ∷ ds) in omega arith

  declr-length : (d : ℕ) (x : Declr) (ds : List ℕ)
      → length (declr_depths d x ds) ≡ declr_size x + length ds
  declr-length d (declr n bs) ds = let first = brackets-length d bs ds in omega arith
  declr-length d (declr_with n es) ds =
      let first = exprs-length (suc d) es (suc d ∷ ds) in omega arith

mutual
  declrs-length : (d : ℕ) (x : Declrs) (ds : List ℕ)
      → length (declrs_depths d x ds) ≡ declrs_size x + length ds
  declrs-length d no_declrs ds = omega arith
  declrs-length d (and_declr xs x) ds = let first = declrs_comma-length d xs
      (declr_depths d x ds) in let second = declr-length d x ds in omega arith

  declrs_comma-length : (d : ℕ) (x : Declrs) (ds : List ℕ)
      → length (declrs_before_comma d x ds) ≡ declrs_comma_size x + length ds
  declrs_comma-length d no_declrs ds = omega arith
  declrs_comma-length d (and_declr xs x) ds = let first = declrs_comma-length d xs
      (declr_depths d x (d ∷ ds)) in let second = declr-length d x (d ∷ ds) in omega arith

test-length : (d : ℕ) (e : Expr) (ds : List ℕ)
    → length (test_depths d e ds) ≡ expr_size e + 2 + length ds
test-length d e ds = let first = expr-length (suc d) e (suc d ∷ ds) in omega arith

option-length : (d : ℕ) (x : Option Expr) (ds : List ℕ)
    → length (option_depths d x ds) ≡ option_size x + length ds
option-length d None ds = omega arith
option-length d (Some e) ds = let first = expr-length d e ds in omega arith

mutual
  stmt-length : (d : ℕ) (x : Stmt) (ds : List ℕ)
      → length (stmt_depths d x ds) ≡ stmt_size x + length ds
  stmt-length d (block l ss) ds = let first = stmts-length (suc d) ss (d ∷ ds) in omega arith
  stmt-length d (empty l) ds = omega arith
  stmt-length d (simple l e) ds = let first = expr-length d e (d ∷ ds) in omega arith
  stmt-length d (declares l h xs) ds = let first = head-length d h
      (declrs_depths d xs (d ∷ ds)) in let second = declrs-length d xs (d ∷ ds) in omega arith
  stmt-length d (print l es) ds = let first = exprs-length d es (d ∷ d ∷ ds) in omega arith
  stmt-length d (if_then l e s) ds = let first = test-length d e (stmt_depths (suc d) s ds) in
      let second = stmt-length (suc d) s ds in omega arith
  stmt-length d (if_else l e s r) ds = let first = test-length d e
      (stmt_depths (suc d) s (d ∷ stmt_depths (suc d) r ds)) in let second = stmt-length (suc d)
      s (d ∷ stmt_depths (suc d) r ds) in let third = stmt-length (suc d) r ds in omega arith
  stmt-length d (while_do l e s) ds = let first = test-length d e (stmt_depths (suc d) s ds) in
      let second = stmt-length (suc d) s ds in omega arith
  stmt-length d (until_do l e s) ds = let first = test-length d e (stmt_depths (suc d) s ds) in
      let second = stmt-length (suc d) s ds in omega arith
  stmt-length d (do_while l s e) ds = let first = stmt-length (suc d) s
      (d ∷ test_depths d e (d ∷ ds)) in let second = test-length d e (d ∷ ds) in omega arith
  stmt-length d (do_until l s e) ds = let first = stmt-length (suc d) s
      (d ∷ test_depths d e (d ∷ ds)) in let second = test-length d e (d ∷ ds) in omega arith
  stmt-length d (for_do l x y e s) ds = let first = stmt-length (suc d) x
      (stmt_depths (suc d) y (option_depths (suc d) e (suc d ∷ stmt_depths (suc d) s ds))) in
      let second = stmt-length (suc d) y (option_depths (suc d) e
      (suc d ∷ stmt_depths (suc d) s ds)) in let third = option-length (suc d) e
      (suc d ∷ stmt_depths (suc d) s ds) in let fourth = stmt-length (suc d) s ds in omega arith
  stmt-length d (for_each l h n q e s) ds = let first = head-length (suc d) h
      (suc d ∷ pairs_depths (suc d) q (suc d ∷ expr_depths (suc d) e
      (suc d ∷ stmt_depths (suc d) s ds))) in let second = pairs-length (suc d) q
      (suc d ∷ expr_depths (suc d) e (suc d ∷ stmt_depths (suc d) s ds)) in
      let third = expr-length (suc d) e (suc d ∷ stmt_depths (suc d) s ds) in
      let fourth = stmt-length (suc d) s ds in omega arith
  stmt-length d (repeat l e s) ds = let first = test-length d e (stmt_depths (suc d) s ds) in
      let second = stmt-length (suc d) s ds in omega arith
  stmt-length d (break l) ds = omega arith
  stmt-length d (continue l) ds = omega arith
  stmt-length d (return l e) ds = let first = option-length d e (d ∷ ds) in omega arith

  stmts-length : (d : ℕ) (x : Stmts) (ds : List ℕ)
      → length (stmts_depths d x ds) ≡ stmts_size x + length ds
  stmts-length d no_stmts ds = omega arith
  stmts-length d (and_stmt ss s) ds = let first = stmts-length d ss (stmt_depths d s ds) in
      let second = stmt-length d s ds in omega arith

param-length : (d : ℕ) (x : Param) (ds : List ℕ)
    → length (param_depths d x ds) ≡ param_size x + length ds
param-length d p ds = let first = type-length d p.kind (d ∷ pairs_depths d p.brackets ds) in
    let second = pairs-length d p.brackets ds in omega arith

mutual
  params-length : (d : ℕ) (x : Params) (ds : List ℕ)
      → length (params_depths d x ds) ≡ params_size x + length ds
  params-length d no_params ds = omega arith
  params-length d (and_param ps p) ds = let first = params_comma-length d ps
      (param_depths d p ds) in let second = param-length d p ds in omega arith

  params_comma-length : (d : ℕ) (x : Params) (ds : List ℕ)
      → length (params_before_comma d x ds) ≡ params_comma_size x + length ds
  params_comma-length d no_params ds = omega arith
  params_comma-length d (and_param ps p) ds = let first = params_comma-length d ps
      (param_depths d p (d ∷ ds)) in let second = param-length d p (d ∷ ds) in omega arith

fun-length : (x : Fun) (ds : List ℕ) → length (fun_depths x ds) ≡ fun_size x + length ds
fun-length (fun l s k n ps ss) ds = let first = one_if-length s 0
    (type_depths 0 k (0 ∷ 1 ∷ params_depths 1 ps (1 ∷ 0 ∷ stmts_depths 1 ss (0 ∷ ds)))) in
    let second = type-length 0 k (0 ∷ 1 ∷ params_depths 1 ps
    (1 ∷ 0 ∷ stmts_depths 1 ss (0 ∷ ds))) in
    let third = params-length 1 ps (1 ∷ 0 ∷ stmts_depths 1 ss (0 ∷ ds)) in
    let fourth = stmts-length 1 ss (0 ∷ ds) in omega arith
fun-length (constructor l ps ss) ds =
    let first = params-length 1 ps (1 ∷ 0 ∷ stmts_depths 1 ss (0 ∷ ds)) in
    let second = stmts-length 1 ss (0 ∷ ds) in omega arith

member-length : (x : Member) (ds : List ℕ) → length (member_depths x ds) ≡ member_size x + length ds
member-length (fun_member x) ds = let first = fun-length x ds in omega arith
member-length (stmt_member s) ds = let first = stmt-length 1 s ds in omega arith

members-length : (x : Members) (ds : List ℕ)
    → length (members_depths x ds) ≡ members_size x + length ds
members-length no_members ds = omega arith
members-length (and_member xs x) ds = let first = members-length xs (member_depths x ds) in
    let second = member-length x ds in omega arith

parent-length : (x : Option Name) (ds : List ℕ)
    → length (parent_depths x ds) ≡ parent_size x + length ds
parent-length None ds = omega arith
parent-length (Some n) ds = omega arith

class-length : (x : Class) (ds : List ℕ) → length (class_depths x ds) ≡ class_size x + length ds
class-length (class l p n parent xs) ds = let first = one_if-length p 0
    (0 ∷ 0 ∷ parent_depths parent (0 ∷ members_depths xs (0 ∷ ds))) in
    let second = parent-length parent (0 ∷ members_depths xs (0 ∷ ds)) in
    let third = members-length xs (0 ∷ ds) in omega arith

item-length : (x : Item) (ds : List ℕ) → length (item_depths x ds) ≡ item_size x + length ds
item-length (class_item x) ds = let first = class-length x ds in omega arith
item-length (fun_item x) ds = let first = fun-length x ds in omega arith
item-length (stmt_item s) ds = let first = stmt-length 0 s ds in omega arith

items-length : (x : File) (ds : List ℕ) → length (items_depths x ds) ≡ items_size x + length ds
items-length no_items ds = omega arith
items-length (and_item xs x) ds = let first = items-length xs (item_depths x ds) in
    let second = item-length x ds in omega arith

file-length : (x : File) → length (file_depths x) ≡ file_size x
file-length x = let first = items-length x (0 ∷ []) in omega arith

-- ---- as many depths as tokens

-- what is accepted is passed whole
accepted-length : (ts : List Token) (s : State) (x : File) → run any ts s ≡ accepted x
    → length (heights ts s) ≡ length ts
accepted-length [] s x h = refl
accepted-length (y ∷ ts) s x h = go (step s y) h (λ r g. accepted-length ts r x g)
  where
    go : (o : Next) → resume any (suc (length ts)) (λ r. run any ts r) o ≡ accepted x
        → ((r : State) → run any ts r ≡ accepted x → length (heights ts r) ≡ length ts)
        → length (depths_on (λ r. heights ts r) o) ≡ length (y ∷ ts)
    go None h i = cc
    go (Some (d, r)) h i = let j = i r h in omega arith

pub depths-length : (ts : List Token) (x : File) → IsFile ts x → length (file_depths x) ≡ length ts
depths-length ts x p = ap length (sym (heights-file p)) ∙ accepted-length ts start x (run-file p)

-- The size of a file's tree is the number of its tokens.
pub size-file : (ts : List Token) (x : File) → IsFile ts x → file_size x ≡ length ts
size-file ts x p = sym (file-length x) ∙ depths-length ts x p

-- ---- the depths of a front

-- over a front, what stands behind it does not matter
pub heights-front : (w a b : List Token) (s : State)
    → take (length w) (heights (w ++ a) s) ≡ take (length w) (heights (w ++ b) s)
heights-front [] a b s = refl
heights-front (x ∷ w) a b s = go (λ r. heights-front w a b r) (step s x)
  where
    go : ((r : State) → take (length w) (heights (w ++ a) r)
        ≡ take (length w) (heights (w ++ b) r)) → (o : Next)
        → take (length (x ∷ w)) (depths_on (λ r. heights (w ++ a) r) o)
        ≡ take (length (x ∷ w)) (depths_on (λ r. heights (w ++ b) r) o)
    go i None = refl
    go i (Some (d, r)) = ap (λ ds. d ∷ ds) (i r)

-- A token stands equally deep in each file that begins with the tokens up to it.
pub same_depths : (w a b : List Token) (x y : File) → IsFile (w ++ a) x → IsFile (w ++ b) y
    → take (length w) (file_depths x) ≡ take (length w) (file_depths y)
same_depths w a b x y p q = ap (take (length w)) (sym (heights-file p))
    ∙ heights-front w a b start ∙ ap (take (length w)) (heights-file q)
