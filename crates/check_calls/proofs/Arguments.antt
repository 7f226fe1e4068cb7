-- Arguments, one after another.
use Rattle.std.proofs.Common.{◌≡◌, ℕ, Bool, ◌<◌, List, [], ◌∷◌, ◌++◌, length, Option, Some, None, true, false, refl, ap, ◌∙◌, arith}
use Rattle.ck_values.specs.declared.kind.Kind.{Kind}
use Rattle.ck_typed.specs.declared.expr.TypedExpr.{TypedExpr}
use Rattle.ck_typed.specs.Tree.{Expr, Exprs, no_exprs}
use Rattle.ck_typed.specs.View.{view_expr, exprs_of}
use Rattle.check_scope.specs.declared.typed.Typed.{Typed}
use Rattle.ck_values.specs.declared.kind.Kind.TheVariants.{Void}
use Rattle.type_table.specs.Answer.{wrong}
use Rattle.type_table.specs.declared.fault.FaultKind.TheVariants.{Arguments}
use Rattle.check_scope.specs.Scope.{Scope}
use Rattle.check_scope.specs.Expressions.{fitted, and_fitting, value_at, plain_call, param_call}
use Rattle.type_rules.specs.Parameters.{Settable}
use Rattle.check_scope.specs.View.{all_typed}
use Rattle.check_scope.proofs.Lengths.{length-all_typed}

-- these, and what follows them
abbrev pub then_all : List TypedExpr → Option Exprs → Option Exprs
then_all [] rest = rest
then_all (e ∷ es) rest = and_fitting true (view_expr e) (then_all es rest)

pub then_all-none : (es : List TypedExpr) → then_all es None ≡ None
then_all-none [] = refl
then_all-none (e ∷ es) = ap (and_fitting true (view_expr e)) (then_all-none es)

pub then_all-end : (es : List TypedExpr) → then_all es (Some no_exprs) ≡ Some (exprs_of es)
then_all-end [] = refl
then_all-end (e ∷ es) = ap (and_fitting true (view_expr e)) (then_all-end es)

pub then_all-more : (es : List TypedExpr) (e : TypedExpr) (rest : Option Exprs) → then_all (es ++ e ∷ []) rest ≡ then_all es (and_fitting true (view_expr e) rest)
then_all-more [] e rest = refl
then_all-more (d ∷ es) e rest = ap (and_fitting true (view_expr d)) (then_all-more es e rest)

-- the first arguments were taken, and so many kinds and arguments are left
pub record SoFar (parents : List ℕ) (all : List Typed) (kinds : List Kind) (taken : List TypedExpr) (rest : List Typed) (others : List Kind) : Type 0 where
  pub are : fitted parents (all_typed all) kinds ≡ then_all taken (fitted parents (all_typed rest) others)

-- as many arguments as parameters were taken
pub all_taken : (parents : List ℕ) (all : List Typed) (kinds : List Kind) (taken : List TypedExpr) (rest : List Typed) (others : List Kind) → SoFar parents all kinds taken rest others → length rest ≡ 0 → length others ≡ 0
    → fitted parents (all_typed all) kinds ≡ Some (exprs_of taken)
all_taken parents all kinds taken [] [] so none no_more = so.are ∙ then_all-end taken
all_taken parents all kinds taken [] (k ∷ others) so none no_more = absurd (omega (arith, no_more))
all_taken parents all kinds taken (x ∷ rest) others so none no_more = absurd (omega (arith, none))

-- there are parameters left
pub too_few : (parents : List ℕ) (all : List Typed) (kinds : List Kind) (taken : List TypedExpr) (rest : List Typed) (others : List Kind) → SoFar parents all kinds taken rest others → length rest ≡ 0 → 0 < length others
    → fitted parents (all_typed all) kinds ≡ None
too_few parents all kinds taken [] [] so none more = absurd (omega (arith, more))
too_few parents all kinds taken [] (k ∷ others) so none more = so.are ∙ then_all-none taken
too_few parents all kinds taken (x ∷ rest) others so none more = absurd (omega (arith, none))

-- one argument fits no longer list of parameters
pub and_fitting-none : (b : Bool) (e : Expr) → and_fitting b e None ≡ None
and_fitting-none true e = refl
and_fitting-none false e = refl

-- the same by the lists that the code has
pub plain-none : (s : Scope) (l : ℕ) (xs : List Typed) (e : Expr) → length xs ≡ 0 → plain_call s l (all_typed xs) e ≡ value_at s l e Void
plain-none s l [] e none = refl
plain-none s l (x ∷ xs) e none = absurd (omega (arith, none))

pub plain-some : (s : Scope) (l : ℕ) (xs : List Typed) (e : Expr) → 0 < length xs → plain_call s l (all_typed xs) e ≡ wrong s.file l Arguments
plain-some s l [] e some = absurd (omega (arith, some))
plain-some s l (x ∷ xs) e some = refl

-- a parameter of a unit generator takes no two values
pub param-many : (parents : List ℕ) (s : Scope) (l : ℕ) (u : Expr) (p : Settable) (xs : List Typed) (x : Typed) (all : List Typed) → all ≡ xs ++ x ∷ [] → 0 < length xs → param_call parents s l u p (all_typed all) ≡ wrong s.file l Arguments
param-many parents s l u p [] x all are some = absurd (omega (arith, some))
param-many parents s l u p (y ∷ []) x all are some = ap (λ (given : List Typed). param_call parents s l u p (all_typed given)) are
param-many parents s l u p (y ∷ z ∷ xs) x all are some = ap (λ (given : List Typed). param_call parents s l u p (all_typed given)) are

pub ruleset arguments = (then_all-none, then_all-end, then_all-more, and_fitting-none, length-all_typed)
