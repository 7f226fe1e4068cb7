-- The walks over lists: each item is asked, from the front on.
use Rattle.std.proofs.Common.{◌≡◌, Bool, true, false, ◌&&◌, List, [], ◌∷◌, refl, ap, ◌∙◌}
use Rattle.ck_syntax.specs.declared.expr.Bracket.{Bracket, Empty, Size'}
use Rattle.ck_syntax.specs.declared.expr.Declarator.{Declarator}
use Rattle.ck_syntax.specs.declared.expr.Expr.{Expr}
use Rattle.ck_syntax.specs.declared.file.Item.{Item}
use Rattle.ck_syntax.specs.declared.file.Member.{Member}
use Rattle.ck_syntax.specs.declared.stmt.Stmt.{Stmt}
use Rattle.ck_syntax.specs.Tree.{Exprs, and_expr, Brackets, and_empty, and_size, Declrs, and_declr, Stmts, and_stmt, Members, and_member, File, and_item}
use Rattle.ck_syntax.specs.View.{view_expr, view_kind, exprs_of, brackets_of, view_declr, declrs_of, view_stmt, stmts_of, view_member, members_of, view_item, items_of}
use Rattle.type_table.proofs.Walks.{run}
use Rattle.built_forms.specs.Built.{expr_built, exprs_built, bracket_built, brackets_built, declr_built, declrs_built, stmt_built, stmts_built, member_built, members_built, item_built, is_built}

abbrev pub one_expr : Bool → Expr → Bool
one_expr b e = b && expr_built (view_expr e)

pub exprs_run : (before : Exprs) (es : List Expr)
    → exprs_built (exprs_of before es) ≡ run one_expr (exprs_built before) es
exprs_run before [] = refl
exprs_run before (e ∷ es) = exprs_run (and_expr before (view_expr e)) es

and_true : (b : Bool) → b ≡ b && true
and_true true = refl
and_true false = refl

abbrev pub one_bracket : Bool → Bracket → Bool
one_bracket b x = b && bracket_built x

pub brackets_run : (before : Brackets) (bs : List Bracket)
    → brackets_built (brackets_of before bs) ≡ run one_bracket (brackets_built before) bs
brackets_run before [] = refl
brackets_run before (Empty ∷ bs) =
    brackets_run (and_empty before) bs ∙ ap (λ b. run one_bracket b bs) (and_true (brackets_built before))
brackets_run before (Size' l k ∷ bs) = brackets_run (and_size before (view_kind l k)) bs

abbrev pub one_declr : Bool → Declarator → Bool
one_declr b x = b && declr_built (view_declr x)

pub declrs_run : (before : Declrs) (xs : List Declarator)
    → declrs_built (declrs_of before xs) ≡ run one_declr (declrs_built before) xs
declrs_run before [] = refl
declrs_run before (x ∷ xs) = declrs_run (and_declr before (view_declr x)) xs

abbrev pub one_stmt : Bool → Stmt → Bool
one_stmt b s = b && stmt_built (view_stmt s)

pub stmts_run : (before : Stmts) (ss : List Stmt)
    → stmts_built (stmts_of before ss) ≡ run one_stmt (stmts_built before) ss
stmts_run before [] = refl
stmts_run before (s ∷ ss) = stmts_run (and_stmt before (view_stmt s)) ss

abbrev pub one_member : Bool → Member → Bool
one_member b m = b && member_built (view_member m)

pub members_run : (before : Members) (ms : List Member)
    → members_built (members_of before ms) ≡ run one_member (members_built before) ms
members_run before [] = refl
members_run before (m ∷ ms) = members_run (and_member before (view_member m)) ms

abbrev pub one_item : Bool → Item → Bool
one_item b x = b && item_built (view_item x)

pub items_run : (before : File) (xs : List Item)
    → is_built (items_of before xs) ≡ run one_item (is_built before) xs
items_run before [] = refl
items_run before (x ∷ xs) = items_run (and_item before (view_item x)) xs
