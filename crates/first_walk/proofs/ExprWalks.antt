-- The walks over expressions and brackets.
use Rattle.std.proofs.Common.{◌≡◌, ℕ, ◌+◌, List, [], ◌∷◌, Option, Box, Global, refl, ap, ◌∙◌}
use Rattle.ck_syntax.specs.declared.expr.Bracket.{Bracket, Empty, Size'}
use Rattle.ck_syntax.specs.declared.declaration.Base.{Base}
use Rattle.ck_syntax.specs.declared.declaration.DeclHead.{DeclHead}
use Rattle.ck_syntax.specs.declared.expr.Declarator.{Declarator}
use Rattle.ck_syntax.specs.declared.expr.DeclaratorTail as shaped
use Rattle.ck_syntax.specs.declared.expr.DeclaratorTail.{DeclaratorTail}
use Rattle.ck_syntax.specs.declared.expr.DeclaratorTail.TheVariants as tail
use Rattle.ck_syntax.specs.declared.expr.Expr.{Expr}
use Rattle.ck_syntax.specs.declared.expr.ExprKind.TheVariants as raw
use Rattle.ck_syntax.specs.Size.{exprs_size, brackets_size, declr_size}
use Rattle.ck_syntax.specs.Tree.{Name, declr_name, Exprs, no_exprs, and_expr, Brackets, no_brackets, and_empty, and_size, Declrs, and_declr}
use Rattle.ck_syntax.specs.View.{view_expr, view_kind, view_tail, exprs_of, brackets_of, view_declr, declrs_of}
use Rattle.ck_syntax.proofs.Views.{view-Array, view-Call, view-New, view-NewWith, view-Brackets, view-Arguments, view-Declare}
use Rattle.type_table.specs.Answer.{Answer, gives, and_then, refused}
use Rattle.type_table.specs.Table.{Table}
use Rattle.first_walk.specs.Steps.{bracket_entered, declr_entered}
use Rattle.first_walk.specs.FirstWalk.{enter_expr, enter_exprs, enter_behind, enter_brackets, enter_declared, enter_declrs}
use Rattle.type_table.proofs.Walks.{run, on}

module _ (f : ℕ) (o : Option ℕ) (t : Table) (e : Expr) where
  pub array_is : (es : List Expr) → e.kind ≡ raw.Array es
      → enter_expr f o t (view_expr e) ≡ enter_exprs f o t (exprs_of no_exprs es)
  array_is es is = ap (λ k. enter_expr f o t (view_kind e.line k)) is ∙ ap (enter_expr f o t) (view-Array e.line es)

  pub new_is : (b : Base) (es : List Expr) → e.kind ≡ raw.New b es
      → enter_expr f o t (view_expr e) ≡ enter_exprs f o t (exprs_of no_exprs es)
  new_is b es is = ap (λ k. enter_expr f o t (view_kind e.line k)) is ∙ ap (enter_expr f o t) (view-New e.line b es)

  pub new_with_is : (b : Base) (es : List Expr) → e.kind ≡ raw.NewWith b es
      → enter_expr f o t (view_expr e) ≡ enter_exprs f o t (exprs_of no_exprs es)
  new_with_is b es is = ap (λ k. enter_expr f o t (view_kind e.line k)) is
      ∙ ap (enter_expr f o t) (view-NewWith e.line b es)

  pub call_is : (callee : Box Expr Global) (es : List Expr) → e.kind ≡ raw.Call callee es
      → enter_expr f o t (view_expr e)
      ≡ and_then (enter_expr f o t (view_expr callee.value)) (λ u. enter_exprs f o u (exprs_of no_exprs es))
  call_is callee es is =
      ap (λ k. enter_expr f o t (view_kind e.line k)) is ∙ ap (enter_expr f o t) (view-Call e.line callee es)

  pub declare_is : (h : DeclHead) (x : Box Declarator Global) → e.kind ≡ raw.Declare h x
      → enter_expr f o t (view_expr e)
      ≡ and_then (enter_behind f o t (view_declr x.value))
      (λ u. enter_declared u f e.line o h (view_declr x.value))
  declare_is h x is =
      ap (λ k. enter_expr f o t (view_kind e.line k)) is ∙ ap (enter_expr f o t) (view-Declare e.line h x)

-- what stands behind a declared name
module _ (f : ℕ) (o : Option ℕ) (t : Table) (x : Declarator) where
  pub brackets_are : (bs : List Bracket) → x.tail ≡ tail.Brackets bs
      → enter_behind f o t (view_declr x) ≡ enter_brackets f o t (brackets_of no_brackets bs)
  brackets_are bs is = ap (λ y. enter_behind f o t (view_tail x.name y)) is
      ∙ ap (enter_behind f o t) (view-Brackets x.name bs)

  pub arguments_are : (es : List Expr) → x.tail ≡ tail.Arguments es
      → enter_behind f o t (view_declr x) ≡ enter_exprs f o t (exprs_of no_exprs es)
  arguments_are es is = ap (λ y. enter_behind f o t (view_tail x.name y)) is
      ∙ ap (enter_behind f o t) (view-Arguments x.name es)

-- a declaration's name
tail_name : (n : Name) (y : DeclaratorTail) → declr_name (view_tail n y) ≡ n
tail_name n (shaped.Brackets' shape bs) = refl
tail_name n (shaped.Arguments' shape es) = refl

pub name_is : (x : Declarator) → declr_name (view_declr x) ≡ x.name
name_is x = tail_name x.name x.tail

-- and how many tokens it has beside the name
module _ (x : Declarator) where
  pub brackets_measure : (bs : List Bracket) → x.tail ≡ tail.Brackets bs
      → declr_size (view_declr x) ≡ brackets_size (brackets_of no_brackets bs) + 1
  brackets_measure bs is = ap (λ y. declr_size (view_tail x.name y)) is ∙ ap declr_size (view-Brackets x.name bs)

  pub arguments_measure : (es : List Expr) → x.tail ≡ tail.Arguments es
      → declr_size (view_declr x) ≡ exprs_size (exprs_of no_exprs es) + 3
  arguments_measure es is = ap (λ y. declr_size (view_tail x.name y)) is ∙ ap declr_size (view-Arguments x.name es)

same : {A : Type 0} (a : Answer A) → a ≡ and_then a gives
same (gives a) = refl
same (refused why) = refl

module _ (f : ℕ) (o : Option ℕ) where
  abbrev pub one_expr : Table → Expr → Answer Table
  one_expr u e = enter_expr f o u (view_expr e)

  pub exprs_run : (t : Table) (before : Exprs) (es : List Expr)
      → enter_exprs f o t (exprs_of before es) ≡ run (on one_expr) (enter_exprs f o t before) es
  exprs_run t before [] = refl
  exprs_run t before (e ∷ es) = exprs_run t (and_expr before (view_expr e)) es

  pub brackets_run : (t : Table) (before : Brackets) (bs : List Bracket)
      → enter_brackets f o t (brackets_of before bs)
      ≡ run (on (bracket_entered f o)) (enter_brackets f o t before) bs
  brackets_run t before [] = refl
  brackets_run t before (Empty ∷ bs) =
      brackets_run t (and_empty before) bs
      ∙ ap (λ a. run (on (bracket_entered f o)) a bs) (same (enter_brackets f o t before))
  brackets_run t before (Size' l k ∷ bs) = brackets_run t (and_size before (view_kind l k)) bs

module _ (f l : ℕ) (o : Option ℕ) (h : DeclHead) where
  abbrev pub one_declr : Table → Declarator → Answer Table
  one_declr u x = declr_entered f l o h u (view_declr x)

  pub declrs_run : (t : Table) (before : Declrs) (xs : List Declarator)
      → enter_declrs f l o h t (declrs_of before xs)
      ≡ run (on one_declr) (enter_declrs f l o h t before) xs
  declrs_run t before [] = refl
  declrs_run t before (x ∷ xs) = declrs_run t (and_declr before (view_declr x)) xs
