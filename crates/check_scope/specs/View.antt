-- What the code's values stand for.
use Rattle.std.specs.Prelude.{List, [], ◌∷◌, ◌≡◌, Option, None, MatchOption, IsSomeAnd, Result, MatchResult}
use Rattle.ck_typed.specs.View.{view_expr, exprs_of}
use Rattle.type_rules.specs.ParameterRows.{settable}
use Rattle.type_table.specs.Answer.{Answer, gives, fault, IsFault}
use Rattle.type_table.specs.declared.fault.TypeFault.{TypeFault}
use Rattle.check_scope.specs.declared.denoted.Callee.{Callee as Callable}
use Rattle.check_scope.specs.declared.denoted.Callee.TheVariants as callee
use Rattle.check_scope.specs.declared.denoted.Declaration.{Declaration as Declared}
use Rattle.check_scope.specs.declared.denoted.Denoted.{Denoted}
use Rattle.check_scope.specs.declared.denoted.Denoted.TheVariants as denoted
use Rattle.check_scope.specs.declared.denoted.Making.{Making as Makes}
use Rattle.check_scope.specs.declared.denoted.Making.TheVariants as makes
use Rattle.check_scope.specs.declared.typed.Typed.{Typed as TypedValue}
use Rattle.check_scope.specs.Expressions.{Making, with_sizes, with_arguments, Meant, Valued, AllValued}
use Rattle.check_scope.specs.Denotations as m
use Rattle.check_scope.specs.Denotations.{Typed, Callee, Declaration, Denotation}
use Rattle.check_scope.specs.Scope.{Scope}

abbrev pub view_typed : TypedValue → Typed
view_typed x =
    record { expr = view_expr x.expr.value; kind = x.kind; place = x.place; is_null = x.is_null }

abbrev pub view_value : TypedValue → Denotation
view_value x = m.value (view_typed x)

abbrev pub all_typed : List TypedValue → List Typed
all_typed [] = []
all_typed (x ∷ xs) = view_typed x ∷ all_typed xs

-- what a first value is made of
abbrev pub view_making : Makes → Making
view_making (makes.Sizes xs) = with_sizes (all_typed xs)
view_making (makes.Arguments xs) = with_arguments (all_typed xs)

abbrev pub view_callee : Callable → Callee
view_callee (callee.Numbered f) = m.numbered f
view_callee (callee.Through o f) = m.through (view_expr o.value) f
view_callee (callee.Method o f k) = m.method (view_expr o.value) f k
view_callee (callee.Native h n) = m.native h n
view_callee (callee.NativeOn o h n) = m.native_on (view_expr o.value) h n
view_callee (callee.Param u p) = m.param (view_expr u.value) (settable p)
view_callee callee.Yield = m.yields
view_callee callee.Exit = m.exits

abbrev pub view_declaration : Declared → Declaration
view_declaration d =
    record {
      spot = d.target.spot;
      address = exprs_of d.target.address;
      kind = d.target.kind;
      alone = view_expr d.alone.value;
      makes = d.makes;
    }

abbrev pub view_denoted : Denoted → Denotation
view_denoted (denoted.Value x) = m.value (view_typed x)
view_denoted (denoted.Target x) = m.at x.spot (exprs_of x.address) x.kind
view_denoted (denoted.Callable c) = m.callable (view_callee c)
view_denoted (denoted.Named b) = m.a_type b
view_denoted (denoted.Declared d) = m.declared (view_declaration d)
view_denoted (denoted.Auto n has_form) = m.an_auto n has_form

abbrev pub meant : Denoted → Scope → Meant
meant m s = record { means = view_denoted m; scope = s }

-- a value, and the scope behind it
abbrev pub value_meant : TypedValue → Scope → Meant
value_meant x s = record { means = view_value x; scope = s }

abbrev pub valued : TypedValue → Scope → Valued
valued x s = record { typed = view_typed x; scope = s }

abbrev pub all_valued : List TypedValue → Scope → AllValued
all_valued xs s = record { typed = all_typed xs; scope = s }

-- a call answers with what was meant, or with the first fault; want of memory is free
abbrev pub Answers : {A B : Type 0} → (A → B) → Result A TypeFault → Answer B → Type 0
Answers view r a = MatchResult r (λ x. a ≡ gives (view x)) (λ why. IsFault why → a ≡ fault why)

-- a place where a name is sought has nothing of it, or answers with what it has
abbrev pub Finds : {A B : Type 0} → (A → B) → Option (Result A TypeFault) → Option (Answer B) →
    Type 0
Finds view found is =
    MatchOption found (is ≡ None) (λ answer. IsSomeAnd is (Answers view answer))
