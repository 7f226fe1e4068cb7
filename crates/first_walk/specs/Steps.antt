-- The steps of the first walk that stand for one item of a list.
use Rattle.std.specs.Prelude.{ℕ, Bool, false, Option, Some}
use Rattle.ck_values.specs.declared.kind.Kind.{Kind}
use Rattle.ck_values.specs.declared.kind.Kind.TheVariants.{Void}
use Rattle.ck_syntax.specs.declared.file.FunHead.{FunHead}
use Rattle.ck_syntax.specs.declared.file.FunHead.TheVariants as head
use Rattle.type_table.specs.Types.{named_by, is_unknown, result_kind}
use Rattle.ck_syntax.specs.declared.expr.Bracket.{Bracket, Empty, Size'}
use Rattle.ck_syntax.specs.declared.declaration.DeclHead.{DeclHead}
use Rattle.ck_syntax.specs.Tree.{Declr}
use Rattle.ck_syntax.specs.View.{view_kind}
use Rattle.type_table.specs.Answer.{Answer, gives, and_then}
use Rattle.type_table.specs.Table.{Table}
use Rattle.first_walk.specs.FirstWalk.{enter_expr, enter_behind, enter_declared}

-- what a function's head says of its result, and whether it is static
abbrev pub result_of : Table → (file : ℕ) → FunHead → Option Kind
result_of t f (head.Named is_static result name) =
    result_kind (named_by t f result.base) result.brackets
result_of t f head.Construct = Some Void

abbrev pub says_static : FunHead → Bool
says_static (head.Named is_static result name) = is_static
says_static head.Construct = false

-- whether its result has an unknown name
abbrev pub has_unknown_result : Table → (file : ℕ) → FunHead → Bool
has_unknown_result t f (head.Named is_static result name) = is_unknown (named_by t f result.base)
has_unknown_result t f head.Construct = false

-- one pair of brackets
abbrev pub bracket_entered : (file : ℕ) → (class : Option ℕ) → Table → Bracket → Answer Table
bracket_entered f o t Empty = gives t
bracket_entered f o t (Size' l k) = enter_expr f o t (view_kind l k)

-- one of several declarations with one head
abbrev pub declr_entered : (file at : ℕ) → (class : Option ℕ) → DeclHead → Table → Declr →
    Answer Table
declr_entered f l o h t x =
    and_then (enter_behind f o t x) (λ v. enter_declared v f l o h x)
