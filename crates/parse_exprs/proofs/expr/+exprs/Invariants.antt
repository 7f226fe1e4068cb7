use Rattle.std.proofs.Common.{length, ◌*◌, ◌+◌, ◌≤◌, ◌<◌}
use Rattle.ck_base.specs.declared.limits.TheConstants.{MAX_NESTING}
use Rattle.parse_exprs.specs.Machine.{brackets, calls, casts, chucks, durs, joins, more_exprs}
use Rattle.parse_exprs.specs.Machine.{postfix, sizes, some_exprs}
use Rattle.parse_exprs.specs.Operands.{a_dur, a_level}
use Rattle.parse_exprs.specs.Reads.{Leads}
use Rattle.ck_syntax.specs.Tree.{no_brackets, no_exprs}
use Rattle.ck_syntax.specs.View.{brackets_of, exprs_of, view_expr}
use Rattle.parse_exprs.proofs.expr.+exprs.Given as goal

abbrev pub decreases-primary : goal.decreases-primary
decreases-primary l = length l.tokens.now * 32

abbrev pub decreases-postfix : goal.decreases-postfix
decreases-postfix l = length l.tokens.now * 32 + 1

abbrev pub decreases-dur : goal.decreases-dur
decreases-dur l = length l.tokens.now * 32 + 2

abbrev pub decreases-unary : goal.decreases-unary
decreases-unary l = length l.tokens.now * 32 + 3

abbrev pub decreases-cast : goal.decreases-cast
decreases-cast l = length l.tokens.now * 32 + 4

abbrev pub decreases-level : goal.decreases-level
decreases-level l = length l.tokens.now * 32 + (5 + l.number)

abbrev pub decreases-cond : goal.decreases-cond
decreases-cond l = length l.tokens.now * 32 + 16

abbrev pub decreases-operand : goal.decreases-operand
decreases-operand l = length l.tokens.now * 32 + 17

abbrev pub decreases-expr : goal.decreases-expr
decreases-expr l = length l.tokens.now * 32 + 18

abbrev pub decreases-closed_expr : goal.decreases-closed_expr
decreases-closed_expr l = length l.tokens.now * 32 + 19

abbrev pub decreases-optional_expr : goal.decreases-optional_expr
decreases-optional_expr l = length l.tokens.now * 32 + 20

abbrev pub decreases-exprs : goal.decreases-exprs
decreases-exprs l = length l.tokens.now * 32 + 19

abbrev pub decreases-closed_exprs : goal.decreases-closed_exprs
decreases-closed_exprs l = length l.tokens.now * 32 + 20

abbrev pub decreases-arguments : goal.decreases-arguments
decreases-arguments l = length l.tokens.now * 32 + 21

abbrev pub decreases-with_suffix : goal.decreases-with_suffix
decreases-with_suffix l = length l.tokens.now * 32 + 22

abbrev pub decreases-led : goal.decreases-led
decreases-led l = length l.tokens.now * 32 + 22

abbrev pub decreases-chuck_rest : goal.decreases-chuck_rest
decreases-chuck_rest l = length l.tokens.now * 32

abbrev pub decreases-brackets : goal.decreases-brackets
decreases-brackets l = length l.tokens.now * 32

abbrev pub decreases-sizes : goal.decreases-sizes
decreases-sizes l = length l.tokens.now * 32

abbrev pub decreases-declarator_tail : goal.decreases-declarator_tail
decreases-declarator_tail l = length l.tokens.now * 32 + 1

abbrev pub decreases-object : goal.decreases-object
decreases-object l = length l.tokens.now * 32 + 1

abbrev pub invariant-exprs-loop-behind : goal.invariant-exprs-loop-behind
invariant-exprs-loop-behind l = Leads (λ k. some_exprs l.depth k)
    (λ k. more_exprs l.depth (exprs_of no_exprs l.items.items) k) l.tokens l.rest
    × (length l.rest < length l.tokens)

abbrev pub decreases-exprs-loop-behind : goal.decreases-exprs-loop-behind
decreases-exprs-loop-behind l = length l.rest

abbrev pub invariant-brackets-loop-all : goal.invariant-brackets-loop-all
invariant-brackets-loop-all l = Leads (λ k. brackets l.depth no_brackets k)
    (λ k. brackets l.depth (brackets_of no_brackets l.all.items) k) l.tokens l.rest
    × (length l.rest ≤ length l.tokens)

abbrev pub decreases-brackets-loop-all : goal.decreases-brackets-loop-all
decreases-brackets-loop-all l = length l.rest

abbrev pub invariant-sizes-loop-all : goal.invariant-sizes-loop-all
invariant-sizes-loop-all l = Leads (λ k. sizes l.depth no_exprs k)
    (λ k. sizes l.depth (exprs_of no_exprs l.all.items) k) l.tokens l.rest
    × (length l.rest ≤ length l.tokens)

abbrev pub decreases-sizes-loop-all : goal.decreases-sizes-loop-all
decreases-sizes-loop-all l = length l.rest

abbrev pub invariant-chuck_rest-loop-operator : goal.invariant-chuck_rest-loop-operator
invariant-chuck_rest-loop-operator l = Leads
    (λ k. chucks l.depth (view_expr l.initial.whole.value) k)
    (λ k. chucks l.reached (view_expr l.whole.value) k) l.tokens l.rest
    × (length l.rest ≤ length l.tokens) × (l.reached ≤ MAX_NESTING)

abbrev pub decreases-chuck_rest-loop-operator : goal.decreases-chuck_rest-loop-operator
decreases-chuck_rest-loop-operator l = length l.rest

abbrev pub invariant-postfix-loop-next : goal.invariant-postfix-loop-next
invariant-postfix-loop-next l = Leads (λ k. postfix l.depth k)
    (λ k. calls l.reached (view_expr l.whole.value) k) l.tokens l.rest
    × (length l.rest < length l.tokens) × (l.reached ≤ MAX_NESTING)

abbrev pub decreases-postfix-loop-next : goal.decreases-postfix-loop-next
decreases-postfix-loop-next l = length l.rest

abbrev pub invariant-dur-loop-inside : goal.invariant-dur-loop-inside
invariant-dur-loop-inside l = Leads (λ k. a_dur l.depth k)
    (λ k. durs l.reached (view_expr l.whole.value) k) l.tokens l.rest
    × (length l.rest < length l.tokens) × (l.reached ≤ MAX_NESTING)

abbrev pub decreases-dur-loop-inside : goal.decreases-dur-loop-inside
decreases-dur-loop-inside l = length l.rest

abbrev pub invariant-cast-loop-inside : goal.invariant-cast-loop-inside
invariant-cast-loop-inside l = Leads (λ k. a_level 0 l.depth k)
    (λ k. casts l.reached (view_expr l.whole.value) k) l.tokens l.rest
    × (length l.rest < length l.tokens) × (l.reached ≤ MAX_NESTING)

abbrev pub decreases-cast-loop-inside : goal.decreases-cast-loop-inside
decreases-cast-loop-inside l = length l.rest

abbrev pub invariant-level-loop-next : goal.invariant-level-loop-next
invariant-level-loop-next l = Leads (λ k. a_level l.number l.depth k)
    (λ k. joins l.tighter l.reached (view_expr l.whole.value) k) l.tokens l.rest
    × (length l.rest < length l.tokens) × (l.reached ≤ MAX_NESTING)

abbrev pub decreases-level-loop-next : goal.decreases-level-loop-next
decreases-level-loop-next l = length l.rest
