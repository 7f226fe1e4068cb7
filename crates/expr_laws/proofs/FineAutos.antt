-- A value that is assigned to a declaration with `auto`: what is declared has the value's kind, in the program too.
use Rattle.std.proofs.Common.{◌≡◌, ℕ, ◌+◌, Bool, true, false, not, ◌&&◌, List, [], ◌∷◌, ◌++◌, length, Option, Some, None, refl, subst}
use Rattle.ck_values.specs.declared.kind.Kind.{Kind}
use Rattle.ck_values.specs.declared.kind.Kind.TheVariants.{Void, Null, One, Row, Grid}
use Rattle.ck_syntax.specs.declared.operator.ChuckOp.{ChuckOp}
use Rattle.ck_syntax.specs.declared.operator.ChuckOp.TheVariants as chuck_op
use Rattle.ck_syntax.specs.Tree.{Name}
use Rattle.ck_typed.specs.declared.expr.Spot.{Spot}
use Rattle.ck_typed.specs.declared.expr.Spot.TheVariants as spot
use Rattle.ck_typed.specs.Tree as typed
use Rattle.ck_typed.specs.Tree.{Program}
use Rattle.type_rules.specs.Operators.{are_references}
use Rattle.type_table.specs.declared.table.Variable.{Variable}
use Rattle.type_table.specs.Table.{Table, variable_named}
use Rattle.type_table.proofs.Ranges.{Each, KindIn, ValueIn, many}
use Rattle.check_scope.specs.Expressions.{assigned_to, auto_variable, auto_global, auto_declared, is_no_type, auto_assigned, auto_chucked}
use Rattle.check_scope.specs.Denotations.{Typed, is_void}
use Rattle.check_scope.specs.Scope.{Scope, settle, kind_now, place, is_declared, with_local, declares_globals}
use Rattle.expr_laws.proofs.Oks.{ok_if}
use Rattle.expr_laws.proofs.Premises.{HasSettled, Leads, Ends, Ok, Has, IsScope, Grows, Valued, IsValue}
use Rattle.expr_laws.proofs.Results.{IsMeant}
use Rattle.ck_typed.specs.WellFormed.{IsAt}
use Rattle.expr_laws.proofs.ScopeLaws.{settle_is, settle_grows, with_local_is, with_local_grows, new_local, each_last, local_ends, settle_ends, leads_of, ends_before}
use Rattle.expr_laws.proofs.FineChuck.{value_is}
use Rattle.expr_laws.proofs.FineValues.{given_value}

module _ (p : Program) (t : Table) (has : Has p t) where
  -- a value to a declaration with `auto` ------------------------------------------------------

  -- a value that may be assigned has a kind that a variable may have
  value_kind_is : (k : Kind) → KindIn (many t) k → is_no_type k ≡ false → ValueIn (many t) k
  value_kind_is (One e) within some = within
  value_kind_is (Row e) within some = within
  value_kind_is (Grid e) within some = within
  value_kind_is Void within some = absurd (cc)
  value_kind_is Null within some = absurd (cc)

  -- the value is assigned to what was declared with its kind
  assigned_to_is : (s u : Scope) (to : Spot) (x : Typed) (l : ℕ) → is_no_type x.kind ≡ false
      → ((all : List Kind) → Ends p t s all → IsValue p t all x)
      → IsScope t u → Grows s u → ((all : List Kind) → ValueIn (many t) x.kind → Leads p u all → Ends p t s all
      → Ends p t u all)
      → ((all : List Kind) → Ends p t u all → IsAt p all to typed.no_exprs x.kind)
      → Ok (IsMeant p t s) (assigned_to to x l u)
  assigned_to_is s u to x l some is scope grows carries at_place =
      let value : (all : List Kind) → Ends p t s all
      → ValueIn (many t) x.kind = λ all ends. value_kind_is x.kind (is all ends).1 some in (
        (scope, grows, λ all leads ends. carries all (value all ends) leads ends),
        λ all ends.
            let before = ends_before p t s u all grows ends in
            let valued : Valued p t all x.expr x.kind = subst (Valued p t all x.expr)
            (given_value (many t) x.kind (value all before)) (is all before).0 in
            value_is p t has all (typed.Assign x.expr to typed.no_exprs (place u l)) x.kind (place u l)
            (at_place all ends, valued) (value all before),
      )

  module _ (s : Scope) (l k : ℕ) (x : Typed) (scope : IsScope t s)
      (is : (all : List Kind) → Ends p t s all → IsValue p t all x) where
    variable_settled : (v : Option Variable) → is_no_type x.kind ≡ false → Ok (IsMeant p t s) (auto_variable s l k x v)
    variable_settled None some = tt
    variable_settled (Some v) some =
        ok_if (IsMeant p t s) (is_void (kind_now s v)) _ _ (λ _.
        assigned_to_is s (settle s v.index x.kind) (spot.Static v.index) x l some is
        (settle_is t s v.index x.kind scope) (settle_grows t s v.index x.kind)
        (λ all value leads ends. settle_ends p t s v.index x.kind all value leads ends)
        (λ all ends. (each_last (HasSettled p t) s.settled (v.index, x.kind) ends.settled).0))
        (λ _. tt)

    auto_global_is : (n : Name) (class : Option ℕ) → is_no_type x.kind ≡ false
        → Ok (IsMeant p t s) (auto_global t s l k x n class)
    auto_global_is n None some = variable_settled (variable_named t s.file n) some
    auto_global_is n (Some c) some = tt

    auto_declared_is : (n : Name) → is_no_type x.kind ≡ false → Ok (IsMeant p t s) (auto_declared t s l k x n)
    auto_declared_is n some =
        ok_if (IsMeant p t s) (declares_globals s) _ _ (λ _. auto_global_is n s.class some) (λ _.
        ok_if (IsMeant p t s) (is_declared s n) _ _ (λ _. tt) (λ _.
        assigned_to_is s (with_local s n x.kind) (spot.Local (length s.locals)) x l some is
        (with_local_is t s n x.kind scope) (with_local_grows t s n x.kind)
        (λ all value leads ends. local_ends p t s n x.kind all value leads ends)
        (λ all ends. new_local t s n x.kind all (leads_of p t (with_local s n x.kind) all ends))))

    auto_assigned_is : (references : Bool) (n : Name) (has_form : Bool)
        → Ok (IsMeant p t s) (auto_assigned t s l k references x n has_form)
    auto_assigned_is references n has_form =
        ok_if (IsMeant p t s) (is_no_type x.kind) _ _ (λ _. tt) (λ some.
        ok_if (IsMeant p t s) (not has_form) _ _ (λ _. tt) (λ _.
        ok_if (IsMeant p t s) (not references && are_references x.kind) _ _ (λ _. tt) (λ _. auto_declared_is n some)))

    pub auto_chucked_is : (o : ChuckOp) (n : Name) (has_form : Bool)
        → Ok (IsMeant p t s) (auto_chucked t s l k o x n has_form)
    auto_chucked_is chuck_op.Chuck n has_form = auto_assigned_is false n has_form
    auto_chucked_is chuck_op.Assign n has_form = auto_assigned_is true n has_form
    auto_chucked_is _ n has_form = tt
