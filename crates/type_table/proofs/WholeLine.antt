-- The whole line of a class.
use Rattle.std.proofs.Common.{◌≡◌, ℕ, ◌+◌, List, Option, Some, None, ap, ◌∙◌}
use Rattle.ck_base.specs.declared.limits.TheConstants.{MAX_ANCESTORS}
use Rattle.type_table.specs.declared.line.Line.{Line}
use Rattle.type_table.specs.Table.{line_by, line_within}
use Rattle.type_table.specs.Lines.{classes_by}

pub whole : (parents : List ℕ) (l : Line) (c : ℕ) → l.class ≡ c → l.steps ≡ MAX_ANCESTORS →
    classes_by parents l ≡ line_by parents c
unfolding line_by classes_by
whole parents l c is steps = ap (line_within parents l.steps) is ∙ ap (λ n. line_within parents n c) steps

-- how many steps are left
abbrev pub left : Option Line → ℕ
left None = 0
left (Some l) = l.steps + 1
