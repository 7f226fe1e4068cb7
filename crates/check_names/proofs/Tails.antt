-- What stands behind a declared name, by the lists that the code has.
use Rattle.std.proofs.Common.{◌≡◌, ◌==◌, List, length, refl, ap, sym, ◌∙◌}
use Rattle.ck_syntax.specs.declared.declaration.DeclHead.{DeclHead}
use Rattle.ck_syntax.specs.declared.expr.Bracket.{Bracket}
use Rattle.ck_syntax.specs.declared.expr.DeclaratorTail as tail
use Rattle.ck_syntax.specs.declared.expr.DeclaratorTail.{DeclaratorTail}
use Rattle.ck_syntax.specs.Tree.{Name, no_brackets, declr_name}
use Rattle.ck_syntax.specs.View.{view_tail, brackets_of}
use Rattle.ck_syntax.proofs.Views.{view-Brackets}
use Rattle.type_table.specs.declared.types.Named.{Named}
use Rattle.type_table.specs.Types.{declared_kind, written_kind}
use Rattle.type_table.proofs.BracketLists.{none}
use Rattle.check_scope.specs.Expressions.{is_bare}

-- the kind that brackets give
pub written_brackets : (h : DeclHead) (w : Named) (n : Name) (x : DeclaratorTail)
    (bs : List Bracket) → x ≡ tail.Brackets bs
    → declared_kind h w (brackets_of no_brackets bs) ≡ written_kind h w (view_tail n x)
written_brackets h w n x bs is =
    sym (ap (λ y. written_kind h w (view_tail n y)) is ∙ ap (written_kind h w) (view-Brackets n bs))

-- no brackets stand behind a bare name
pub bare_brackets : (n : Name) (x : DeclaratorTail) (bs : List Bracket) → x ≡ tail.Brackets bs
    → (length bs == 0) ≡ is_bare (view_tail n x)
bare_brackets n x bs is =
    none bs ∙ sym (ap (λ y. is_bare (view_tail n y)) is ∙ ap is_bare (view-Brackets n bs))

-- the name that is declared
pub tail_name : (n : Name) (x : DeclaratorTail) → declr_name (view_tail n x) ≡ n
tail_name n (tail.Brackets' shape bs) = refl
tail_name n (tail.Arguments' shape es) = refl

pub ruleset names = (tail_name)
