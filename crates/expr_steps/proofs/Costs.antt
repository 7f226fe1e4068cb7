-- How many steps what an expression stands for makes at most, whatever is done with it.
use Rattle.std.proofs.Common.{◌≡◌, ℕ, ◌+◌, ◌≤◌, Bool, true, false, ◌&&◌, if◌then◌else◌, List, [], ◌∷◌, ◌++◌, Option}
use Rattle.std.proofs.Common.{Some, arith}
use Rattle.std.specs.Prelude.{IfSome}
use Rattle.ck_values.specs.declared.kind.Elem.TheVariants as elem
use Rattle.ck_values.specs.declared.kind.Kind.{Kind}
use Rattle.ck_values.specs.declared.kind.Kind.TheVariants.{One}
use Rattle.ck_typed.specs.declared.operation.Leaf.TheVariants as leaf
use Rattle.ck_typed.specs.Tree as typed
use Rattle.type_table.specs.Answer.{Answer, gives, refused, and_then}
use Rattle.check_scope.specs.Denotations as m
use Rattle.check_scope.specs.Denotations.{Typed, typed_as, Callee, Denotation, as_value}
use Rattle.check_scope.specs.Operations as e
use Rattle.check_scope.specs.Scope.{Scope}
use Rattle.expr_laws.proofs.Premises.{Ok}
use Rattle.expr_steps.proofs.Most.{most, all_most}

-- the value that a call is made on
abbrev pub receiver_most : Callee → ℕ
receiver_most (m.through o f) = most o
receiver_most (m.method o f k) = most o
receiver_most (m.native_on o h n) = most o
receiver_most (m.param u p) = most u
receiver_most _ = 0

-- a value has two steps more, for it may be taken as one of another type
abbrev pub cost : Denotation → ℕ
cost (m.value x) = most x.expr + 2
cost (m.at spot address k) = all_most address + 4
cost (m.callable c) = receiver_most c
cost (m.a_type b) = 0
cost (m.declared d) = most d.alone + all_most d.address + 4
cost (m.an_auto n has_form) = 0

-- values, each of which may be taken as one of another type
abbrev pub total : List Typed → ℕ
total [] = 0
total (x ∷ xs) = most x.expr + 2 + total xs

-- what is found makes at most so many steps
abbrev pub Costs : ℕ → Answer Denotation → Type 0
Costs n a = Ok (λ (x : Denotation). cost x ≤ n) a

-- answers -----------------------------------------------------------------------------------------

-- both ways of a test
pub costs_if : (n : ℕ) (c : Bool) (a b : Answer Denotation) → Costs n a → Costs n b → Costs n (if c then a else b)
costs_if n true a b first second = first
costs_if n false a b first second = second

-- what comes next costs no more, whatever is found
pub then_any : {A B : Type 0} (Q : B → Type 0) (a : Answer A) (f : A → Answer B)
    → ((x : A) → Ok Q (f x)) → Ok Q (and_then a f)
then_any Q (gives x) f goes = goes x
then_any Q (refused why) f goes = tt

-- the value of what an expression stands for
pub value_costs : (s : Scope) (l : ℕ) (x : Denotation) → Ok (λ (y : Typed). most y.expr + 2 ≤ cost x) (as_value s l x)
value_costs s l (m.value x) = omega arith
value_costs s l (m.at spot address k) = omega arith
value_costs s l (m.callable c) = tt
value_costs s l (m.a_type b) = tt
value_costs s l (m.declared d) = omega arith
value_costs s l (m.an_auto n has_form) = tt

-- values ------------------------------------------------------------------------------------------

pub most_if : (n : ℕ) (b : Bool) (x y : typed.Expr) → most x ≤ n → most y ≤ n → most (if b then x else y) ≤ n
most_if n true x y first second = first
most_if n false x y first second = second

pub taken_most : (x : Typed) (k : Kind) → most (e.taken_as x k) ≤ most x.expr + 2
taken_most x (One elem.Float) =
    most_if (most x.expr + 2) (e.is_int x.kind) (e.widened x) x.expr (omega arith) (omega arith)
taken_most x (One elem.Shred) =
    most_if (most x.expr + 2) x.is_null (typed.Leaf leaf.NoShred x.place) x.expr (omega arith) (omega arith)
taken_most x _ = omega arith

pub widened_most : (b : Bool) (x : Typed) → most (e.widened_if b x) ≤ most x.expr + 2
widened_most true x = omega arith
widened_most false x = omega arith

pub beside_most : (x : Typed) (k : Kind) → most (e.beside x k).expr ≤ most x.expr + 2
beside_most x k = go (x.is_null && e.is_shred k)
  where
    go : (b : Bool) → most (if b then typed_as (typed.Leaf leaf.NoShred x.place) (One elem.Shred) x.place else x).expr
        ≤ most x.expr + 2
    go true = omega arith
    go false = omega arith

pub total_more : (xs : List Typed) (x : Typed) → total (xs ++ x ∷ []) ≡ total xs + most x.expr + 2
total_more [] x = omega arith
total_more (y ∷ xs) x = omega (arith, total_more xs x)

pub taken_total : (xs : List Typed) (k : Kind) → all_most (e.all_taken_as xs k) ≤ total xs
taken_total [] k = omega arith
taken_total (x ∷ xs) k = omega (arith, taken_most x k, taken_total xs k)

pub fitted_total : (parents : List ℕ) (xs : List Typed) (ks : List Kind)
    → IfSome (e.fitted parents xs ks) (λ es. all_most es ≤ total xs)
fitted_total parents [] [] = omega arith
fitted_total parents (x ∷ xs) (k ∷ ks) = go (e.fits parents x k) (e.fitted parents xs ks) (fitted_total parents xs ks)
  where
    go : (b : Bool) (o : Option typed.Exprs) → IfSome o (λ es. all_most es ≤ total xs)
        → IfSome (e.and_fitting b (e.taken_as x k) o) (λ es. all_most es ≤ total (x ∷ xs))
    go true (Some es) few = omega (arith, taken_most x k)
    go _ _ few = tt
fitted_total parents _ _ = tt
