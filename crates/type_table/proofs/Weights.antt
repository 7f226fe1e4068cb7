-- The sizes of all items of a list together are at most that of the list of the grammar.
use Rattle.std.proofs.Common.{◌≡◌, ℕ, ◌+◌, ◌<◌, ◌≤◌, List, [], ◌∷◌, length, drop, get_or, Box, Global, sym, ap, ◌∙◌, arith}
use Rattle.std.proofs.lemmas.List.{drop_more}
use Rattle.ck_syntax.specs.declared.declaration.Base.{Base}
use Rattle.ck_syntax.specs.declared.declaration.DeclHead.{DeclHead}
use Rattle.ck_syntax.specs.declared.expr.Bracket.{Bracket, Empty, Size'}
use Rattle.ck_syntax.specs.declared.expr.Declarator.{Declarator}
use Rattle.ck_syntax.specs.declared.expr.Expr.{Expr}
use Rattle.ck_syntax.specs.declared.expr.ExprKind.TheVariants as raw
use Rattle.ck_syntax.specs.declared.file.Item.{Item}
use Rattle.ck_syntax.specs.declared.file.Member.{Member}
use Rattle.ck_syntax.specs.Size.{head_size, expr_size, exprs_size, before_comma, bracketed_size, brackets_size, declr_size, declrs_size, declrs_before_comma, member_size, members_size, item_size, items_size}
use Rattle.ck_syntax.specs.Tree.{Exprs, no_exprs, and_expr, Brackets, no_brackets, and_empty, and_size, Declrs, no_declrs, and_declr, Members, no_members, and_member, File, no_items, and_item}
use Rattle.ck_syntax.specs.View.{view_expr, view_kind, exprs_of, with_bracket, brackets_of, view_declr, declrs_of, view_member, members_of, view_item, items_of}
use Rattle.ck_syntax.proofs.Views.{view-Array, view-Call, view-New, view-NewWith, view-Declare}

-- the sizes of all items together
abbrev pub weight : {X : Type 0} → (X → ℕ) → List X → ℕ
weight size [] = 0
weight size (x ∷ xs) = size x + weight size xs

-- the next item is one of those that are left
pub weight_next : {X : Type 0} (size : X → ℕ) (xs : List X) (i : ℕ) (x : X) → i < length xs
    → x ≡ get_or xs i x → weight size (drop i xs) ≡ size x + weight size (drop (i + 1) xs)
weight_next size xs i x lt is =
    ap (weight size) (drop_more xs i x lt ∙ ap (λ y. y ∷ drop (i + 1) xs) (sym is))

-- expressions -----------------------------------------------------------------------------------

abbrev pub one_expr : Expr → ℕ
one_expr e = expr_size (view_expr e)

-- the commas beside them are tokens too
pub comma_more : (es : Exprs) → exprs_size es ≤ before_comma es
comma_more no_exprs = omega arith
comma_more (and_expr es e) = omega arith

exprs_behind : (before : Exprs) (es : List Expr)
    → exprs_size before + weight one_expr es ≤ exprs_size (exprs_of before es)
exprs_behind before [] = omega arith
exprs_behind before (e ∷ es) =
    omega (arith, comma_more before, exprs_behind (and_expr before (view_expr e)) es)

pub exprs_weigh : (es : List Expr) → weight one_expr es ≤ exprs_size (exprs_of no_exprs es)
exprs_weigh es = omega (arith, exprs_behind no_exprs es)

before_brackets : (es : Exprs) → before_comma es ≤ bracketed_size es
before_brackets no_exprs = omega arith
before_brackets (and_expr es e) = omega (arith, before_brackets es)

-- brackets around each are no fewer tokens than commas
pub bracketed_more : (es : Exprs) → exprs_size es ≤ bracketed_size es
bracketed_more es = omega (arith, comma_more es, before_brackets es)

-- brackets and declarators ----------------------------------------------------------------------

abbrev pub one_bracket : Bracket → ℕ
one_bracket b = brackets_size (with_bracket no_brackets b)

brackets_behind : (before : Brackets) (bs : List Bracket)
    → brackets_size before + weight one_bracket bs ≤ brackets_size (brackets_of before bs)
brackets_behind before [] = omega arith
brackets_behind before (Empty ∷ bs) = omega (arith, brackets_behind (and_empty before) bs)
brackets_behind before (Size' l k ∷ bs) =
    omega (arith, brackets_behind (and_size before (view_kind l k)) bs)

pub brackets_weigh : (bs : List Bracket)
    → weight one_bracket bs ≤ brackets_size (brackets_of no_brackets bs)
brackets_weigh bs = omega (arith, brackets_behind no_brackets bs)

abbrev pub one_declr : Declarator → ℕ
one_declr d = declr_size (view_declr d)

pub declrs_comma : (ds : Declrs) → declrs_size ds ≤ declrs_before_comma ds
declrs_comma no_declrs = omega arith
declrs_comma (and_declr ds d) = omega arith

declrs_behind : (before : Declrs) (ds : List Declarator)
    → declrs_size before + weight one_declr ds ≤ declrs_size (declrs_of before ds)
declrs_behind before [] = omega arith
declrs_behind before (d ∷ ds) =
    omega (arith, declrs_comma before, declrs_behind (and_declr before (view_declr d)) ds)

pub declrs_weigh : (ds : List Declarator)
    → weight one_declr ds ≤ declrs_size (declrs_of no_declrs ds)
declrs_weigh ds = omega (arith, declrs_behind no_declrs ds)

-- an expression that holds a list has that list's size and its own tokens
module _ (e : Expr) where
  pub array_size : (es : List Expr) → e.kind ≡ raw.Array es
      → expr_size (view_expr e) ≡ exprs_size (exprs_of no_exprs es) + 2
  array_size es is =
      ap (λ k. expr_size (view_kind e.line k)) is ∙ ap expr_size (view-Array e.line es)

  pub call_size : (callee : Box Expr Global) (es : List Expr) → e.kind ≡ raw.Call callee es
      → expr_size (view_expr e) ≡ expr_size (view_expr callee.value) + exprs_size (exprs_of no_exprs es) + 2
  call_size callee es is =
      ap (λ k. expr_size (view_kind e.line k)) is ∙ ap expr_size (view-Call e.line callee es)

  pub new_size : (b : Base) (es : List Expr) → e.kind ≡ raw.New b es
      → expr_size (view_expr e) ≡ bracketed_size (exprs_of no_exprs es) + 2
  new_size b es is =
      ap (λ k. expr_size (view_kind e.line k)) is ∙ ap expr_size (view-New e.line b es)

  pub new_with_size : (b : Base) (es : List Expr) → e.kind ≡ raw.NewWith b es
      → expr_size (view_expr e) ≡ exprs_size (exprs_of no_exprs es) + 4
  new_with_size b es is =
      ap (λ k. expr_size (view_kind e.line k)) is ∙ ap expr_size (view-NewWith e.line b es)

  pub declare_size : (h : DeclHead) (x : Box Declarator Global) → e.kind ≡ raw.Declare h x
      → expr_size (view_expr e) ≡ head_size h + declr_size (view_declr x.value)
  declare_size h x is =
      ap (λ k. expr_size (view_kind e.line k)) is ∙ ap expr_size (view-Declare e.line h x)

-- members and items -----------------------------------------------------------------------------

abbrev pub one_member : Member → ℕ
one_member m = member_size (view_member m)

members_behind : (before : Members) (ms : List Member)
    → members_size before + weight one_member ms ≤ members_size (members_of before ms)
members_behind before [] = omega arith
members_behind before (m ∷ ms) =
    omega (arith, members_behind (and_member before (view_member m)) ms)

pub members_weigh : (ms : List Member)
    → weight one_member ms ≤ members_size (members_of no_members ms)
members_weigh ms = omega (arith, members_behind no_members ms)

abbrev pub one_item : Item → ℕ
one_item i = item_size (view_item i)

items_behind : (before : File) (is : List Item)
    → items_size before + weight one_item is ≤ items_size (items_of before is)
items_behind before [] = omega arith
items_behind before (i ∷ is) = omega (arith, items_behind (and_item before (view_item i)) is)

pub items_weigh : (is : List Item) → weight one_item is ≤ items_size (items_of no_items is)
items_weigh is = omega (arith, items_behind no_items is)
