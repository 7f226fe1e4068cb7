-- What the machine makes of a token that goes on with a Postfix.
use Rattle.std.proofs.Common.{◌≡◌, ℕ, suc, ◌≤◌, List, Some, refl, sym, ◌∙◌, ap}
use Rattle.ck_base.specs.declared.limits.TheConstants.{MAX_NESTING}
use Rattle.ck_lexer.specs.declared.token.Token.{Token}
use Rattle.parse_exprs.specs.declared.follow.Follow.{Follow}
use Rattle.parse_exprs.specs.declared.follow.Follow.TheVariants as f
use Rattle.parse_exprs.specs.declared.follow.Suffix.{Suffix}
use Rattle.parse_exprs.specs.declared.follow.Suffix.TheVariants as suffix
use Rattle.parse_exprs.specs.Machine.{step, calls, next_call}
use Rattle.parse_exprs.specs.Operands.{suffix_of, suffixed}
use Rattle.parse_exprs.specs.Reads.{Leads, after, next_follow}
use Rattle.parse_exprs.proofs.Made.{K2, goes_on}
use Rattle.ck_syntax.specs.Tree.{Expr}

suffix_step : (s : Suffix) (x : Follow) (c : ℕ) (y : Expr) (k : K2) → suffix_of x ≡ Some s
    → next_call c y k x ≡ Some (suc c, suffixed s (suc c) y k)
suffix_step s f.Call c y k h = ap (λ z. Some (suc c, suffixed z (suc c) y k)) (inj h)
  where
    inj : Some suffix.Call ≡ Some s → suffix.Call ≡ s
    inj e = cc
suffix_step s f.Index c y k h = ap (λ z. Some (suc c, suffixed z (suc c) y k)) (inj h)
  where
    inj : Some suffix.Index ≡ Some s → suffix.Index ≡ s
    inj e = cc
suffix_step s f.Member c y k h = ap (λ z. Some (suc c, suffixed z (suc c) y k)) (inj h)
  where
    inj : Some suffix.Member ≡ Some s → suffix.Member ≡ s
    inj e = cc
suffix_step s (f.Postfix o) c y k h = ap (λ z. Some (suc c, suffixed z (suc c) y k)) (inj h)
  where
    inj : Some (suffix.Postfix o) ≡ Some s → suffix.Postfix o ≡ s
    inj e = cc
suffix_step s _ c y k h = cc

pub into_suffix : {a b : List Token} (s : Suffix) (c e : ℕ) (y : Expr)
    → suffix_of (next_follow a) ≡ Some s → b ≡ after a → e ≡ suc c → e ≤ MAX_NESTING
    → Leads (λ (k : K2). calls c y k) (λ (k : K2). suffixed s e y k) a b
into_suffix {a = a} s c e y h q p i = goes_on (next_follow a) (λ (k : K2). calls c y k)
    (λ (k : K2). suffixed s e y k) e (λ k. next_call c y k) (λ k. step (k y c)) refl q i
    (λ k x. refl)
    (λ k. suffix_step s (next_follow a) c y k h ∙ ap (λ z. Some (z, suffixed s z y k)) (sym p))
    (λ k. refl)
