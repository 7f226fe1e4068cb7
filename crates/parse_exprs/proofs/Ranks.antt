-- How loosely a token binds what stands before it, and what it then does not go on with.
use Rattle.std.proofs.Common.{◌≡◌, ℕ, suc, ◌+◌, ◌<◌, ◌≤◌, false, None, refl, ap, arith, ◌==◌}
use Rattle.std.proofs.lemmas.Bool.Decides.{nat_tests}
use Rattle.parse_exprs.specs.declared.follow.Follow.{Follow}
use Rattle.parse_exprs.specs.declared.follow.Follow.TheVariants as f
use Rattle.parse_exprs.specs.Machine.{State, unary, joins, given, joined}
use Rattle.parse_exprs.specs.Machine.{next_call, next_dur, next_cast, next_join, next_ask}
use Rattle.parse_exprs.specs.Machine.{next_chuck}
use Rattle.parse_exprs.specs.Tokens.{level}
use Rattle.ck_syntax.specs.Tree as t
use Rattle.ck_syntax.specs.Tree.{Expr, expr_line}

abbrev pub rank : Follow → ℕ
rank f.Call = 0
rank f.Index = 0
rank f.Member = 0
rank (f.Postfix o) = 0
rank f.Dur = 1
rank f.Cast = 2
rank (f.Binary o) = 3 + level o
rank f.Cond = 13
rank (f.Chuck o) = 14
rank f.Nothing = 15

pub none_call : (d : ℕ) (e : Expr) (k : Expr → ℕ → State) (x : Follow) → 1 ≤ rank x
    → next_call d e k x ≡ None
none_call d e k f.Call h = absurd (omega arith)
none_call d e k f.Index h = absurd (omega arith)
none_call d e k f.Member h = absurd (omega arith)
none_call d e k (f.Postfix o) h = absurd (omega arith)
none_call d e k _ h = refl

pub none_dur : (d : ℕ) (e : Expr) (k : Expr → ℕ → State) (x : Follow) → 2 ≤ rank x
    → next_dur d e k x ≡ None
none_dur d e k f.Dur h = absurd (omega arith)
none_dur d e k _ h = refl

pub none_cast : (d : ℕ) (e : Expr) (k : Expr → ℕ → State) (x : Follow) → 3 ≤ rank x
    → next_cast d e k x ≡ None
none_cast d e k f.Cast h = absurd (omega arith)
none_cast d e k _ h = refl

pub none_ask : (d : ℕ) (e : Expr) (k : Expr → ℕ → State) (x : Follow) → 14 ≤ rank x
    → next_ask d e k x ≡ None
none_ask d e k f.Cond h = absurd (omega arith)
none_ask d e k _ h = refl

pub none_chuck : (d : ℕ) (e : Expr) (k : Expr → State) (x : Follow) → 15 ≤ rank x
    → next_chuck d e k x ≡ None
none_chuck d e k (f.Chuck o) h = absurd (omega arith)
none_chuck d e k _ h = refl

not_level : (a n : ℕ) → n < a → (a == n) ≡ false
not_level a n h = grind (arith, nat_tests)

pub none_join : (n d : ℕ) (e : Expr) (k : Expr → ℕ → State) (x : Follow) → 4 + n ≤ rank x
    → next_join n d e k x ≡ None
none_join n d e k (f.Binary o) h = ap (λ b.
    given b (suc d) (unary (suc d) (λ g c. joined n c g
    (λ h b. joins n b (t.binary (expr_line e) e o h) k)))) (not_level (level o) n (omega arith))
none_join n d e k _ h = refl
