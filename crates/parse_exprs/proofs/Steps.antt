-- How the functions of the parser and the machine go on together.
use Rattle.std.proofs.Common.{◌≡◌, ℕ, suc, ◌<◌, ◌≤◌, List, [], ◌∷◌, length, true, false, cond, Some}
use Rattle.std.proofs.Common.{None, Err, refl, sym, ◌∙◌, ap, subst, arith, eq-eqb}
use Rattle.std.proofs.lemmas.Bool.Decides.{nat_tests}
use Rattle.ck_base.specs.declared.limits.TheConstants.{MAX_NESTING}
use Rattle.ck_lexer.specs.declared.mark.Mark.TheVariants as m
use Rattle.ck_lexer.specs.declared.token.Token.{Token}
use Rattle.ck_lexer.specs.declared.token.TokenKind.{TokenKind}
use Rattle.ck_lexer.specs.declared.token.TokenKind.TheVariants.{Mark, Name}
use Rattle.parse_exprs.specs.declared.fault.Fault.{Fault}
use Rattle.parse_exprs.specs.declared.fault.Fault.TheVariants.{Syntax, TooDeep, Memory}
use Rattle.parse_exprs.specs.Machine.{State, Next, faulty, deep, ended, at_end, left, resume, step}
use Rattle.parse_exprs.specs.Machine.{or_else, is_shallow, sign, pairs, a_name, a_base, next_name}
use Rattle.parse_exprs.specs.Machine.{next_base, given}
use Rattle.parse_exprs.specs.Reads.{Leads, StopsAt, Missing, Deepens, NoName, NoBase, IsBaseAt}
use Rattle.parse_exprs.specs.Reads.{is_name, base_of}
use Rattle.parse_exprs.specs.Tokens.{Then, then, Opening, opening, Sign, a_word, a_mark, a_construct}
use Rattle.parse_exprs.specs.Tokens.{kind_of}
use Rattle.parse_exprs.specs.Tokens.{is_sign, word_number, mark_number, named, based}
use Rattle.parse_exprs.proofs.TokenKinds.{is_that, then_at}
use Rattle.ck_syntax.specs.declared.declaration.Base.{Base}

-- ---- tokens

pub then_of : (j : Sign) {x : Token} {ts rest : List Token} → ts ≡ x ∷ rest
    → is_sign x.kind j ≡ true → Then (kind_of j) ts rest
then_of j {x} {ts} {rest} e h = subst (λ y. Then (kind_of j) y rest) (sym e)
    (then_at x rest (kind_of j) (is_that x.kind j h))

pub then_name : {k : TokenKind} {x : Token} {ts rest : List Token} → ts ≡ x ∷ rest → x.kind ≡ k
    → Then k ts rest
then_name {k} {x} {ts} {rest} e h = subst (λ y. Then k y rest) (sym e) (then_at x rest k h)

within_limit : (d : ℕ) → d ≤ MAX_NESTING → is_shallow d ≡ true
within_limit d h = grind (arith, nat_tests)

past_limit : (d : ℕ) → MAX_NESTING < d → is_shallow d ≡ false
past_limit d h = grind (arith, nat_tests)

-- one token that may come, and one that stands too deep, and one that cannot come
pub one_token : (x : Token) (ts : List Token) (s r : State) (d : ℕ) → step s x ≡ Some (d, r)
    → d ≤ MAX_NESTING → left (x ∷ ts) s ≡ left ts r
one_token x ts s r d h i = ap (resume is_shallow (suc (length ts)) (λ q. left ts q)) h
    ∙ ap (λ b. cond b (left ts r) (deep (suc (length ts)))) (within_limit d i)

pub one_deep : (x : Token) (ts : List Token) (s r : State) (d : ℕ) → step s x ≡ Some (d, r)
    → MAX_NESTING < d → left (x ∷ ts) s ≡ deep (suc (length ts))
one_deep x ts s r d h i = ap (resume is_shallow (suc (length ts)) (λ q. left ts q)) h
    ∙ ap (λ b. cond b (left ts r) (deep (suc (length ts)))) (past_limit d i)

pub one_faulty : (x : Token) (ts : List Token) (s : State) → step s x ≡ None
    → left (x ∷ ts) s ≡ faulty (suc (length ts))
one_faulty x ts s h = ap (resume is_shallow (suc (length ts)) (λ q. left ts q)) h

-- ---- parts

pub onward : {K : Type 0} {S T U : K → State} {a b c : List Token} → Leads S T a b
    → Leads T U b c → Leads S U a c
onward p q = record { by = λ k. p.by k ∙ q.by k }

-- a part in a larger one
pub inside : {K J : Type 0} {A B : J → State} {a b : List Token} (f : K → J) → Leads A B a b
    → Leads (λ k. A (f k)) (λ k. B (f k)) a b
inside f p = record { by = λ k. p.by (f k) }

pub stops_onward : {K : Type 0} {S T : K → State} {a b : List Token} (e : Fault) → Leads S T a b
    → StopsAt T b e → StopsAt S a e
stops_onward (Syntax n) p q = record { at = λ k. p.by k ∙ q.at k }
stops_onward (TooDeep n) p q = record { at = λ k. p.by k ∙ q.at k }
stops_onward (Memory _) p q = tt

pub stops_inside : {K J : Type 0} (A : J → State) (a : List Token) (f : K → J) (e : Fault)
    → StopsAt A a e → StopsAt (λ k. A (f k)) a e
stops_inside A a f (Syntax n) q = record { at = λ k. q.at (f k) }
stops_inside A a f (TooDeep n) q = record { at = λ k. q.at (f k) }
stops_inside A a f (Memory _) q = tt

-- a token of this kind leads from S to T
pub token : {K : Type 0} {j : TokenKind} {ts rest : List Token} (S T : K → State) (d : ℕ)
    → Then j ts rest → d ≤ MAX_NESTING → ((l a : ℕ) (k : K)
    → step (S k) (record { kind = j; line = l; at = a }) ≡ Some (d, T k)) → Leads S T ts rest
token {rest = rest} S T d (then {l = l} {a = a}) h i =
    record { by = λ k. one_token _ rest (S k) (T k) d (i l a k) h }

-- it stands too deep
pub deepened : {K : Type 0} {j : TokenKind} {ts rest : List Token} (S T : K → State) (d : ℕ)
    (e : Fault) → Then j ts rest → Deepens d ts (Err e)
    → ((l a : ℕ) (k : K) → step (S k) (record { kind = j; line = l; at = a })
    ≡ Some (suc d, T k)) → StopsAt S ts e
deepened {rest = rest} S T d (TooDeep n) (then {l = l} {a = a}) (q, h) i = record {
  at = λ k.
      one_deep _ rest (S k) (T k) (suc d) (i l a k) (omega arith) ∙ ap deep (sym q);
}
deepened S T d (Syntax n) p h i = absurd h
deepened S T d (Memory _) p h i = absurd h

pub sign-self : (j : Sign) → is_sign (kind_of j) j ≡ true
sign-self (a_word x) = eq-eqb (word_number x) (word_number x) refl
sign-self (a_mark x) = eq-eqb (mark_number x) (mark_number x) refl
sign-self a_construct = refl

-- that word or mark
pub past_sign : {K : Type 0} {ts rest : List Token} (j : Sign) (d : ℕ) (T : K → State)
    → Then (kind_of j) ts rest → d ≤ MAX_NESTING → Leads (λ k. sign d j (T k)) T ts rest
past_sign j d T p h =
    token (λ k. sign d j (T k)) T d p h (λ l a k. ap (λ b. given b d (T k)) (sign-self j))

pub no_sign : {K : Type 0} (ts : List Token) (j : Sign) (d : ℕ) (T : K → State) (e : Fault)
    → Missing j ts e → StopsAt (λ k. sign d j (T k)) ts e
no_sign [] j d T (Syntax n) (q, h) = record { at = λ k. ap faulty (sym q) }
no_sign (x ∷ ts) j d T (Syntax n) (q, h) = record {
  at = λ k.
      one_faulty x ts (sign d j (T k)) (ap (λ b. given b d (T k)) h) ∙ ap faulty (sym q);
}
no_sign ts j d T (TooDeep n) h = absurd h
no_sign ts j d T (Memory _) h = absurd h

-- a name
pub past_name : {K : Type 0} {n : List ℕ} {ts rest : List Token} (d : ℕ)
    (T : K → List ℕ → State) → Then (Name n) ts rest → d ≤ MAX_NESTING
    → Leads (λ k. a_name d (T k)) (λ k. T k n) ts rest
past_name {n = n} d T p h = token (λ k. a_name d (T k)) (λ k. T k n) d p h (λ l a k. refl)

not_name : (d : ℕ) (s : List ℕ → State) (k : TokenKind) → is_name k ≡ false → next_name d s k ≡ None
not_name d s (Name n) h = cc
not_name d s _ h = refl

pub no_name : {K : Type 0} (ts : List Token) (d : ℕ) (T : K → List ℕ → State) (e : Fault)
    → NoName ts e → StopsAt (λ k. a_name d (T k)) ts e
no_name [] d T (Syntax n) (q, h) = record { at = λ k. ap faulty (sym q) }
no_name (x ∷ ts) d T (Syntax n) (q, h) = record {
  at = λ k.
      one_faulty x ts (a_name d (T k)) (not_name d (T k) x.kind h) ∙ ap faulty (sym q);
}
no_name ts d T (TooDeep n) h = absurd h
no_name ts d T (Memory _) h = tt

-- a base
base_step : (d : ℕ) (s : Base → State) (o : Opening) (b : Base) → base_of o ≡ Some b
    → next_base d s o ≡ Some (d, s b)
base_step d s (based c) b h = ap (λ y. Some (d, s y)) (inj h)
  where
    inj : Some c ≡ Some b → c ≡ b
    inj e = cc
base_step d s (named n) b h = ap (λ y. Some (d, s y)) (inj h)
  where
    inj : {c : Base} → Some c ≡ Some b → c ≡ b
    inj e = cc
base_step d s _ b h = cc

no_base_step : (d : ℕ) (s : Base → State) (o : Opening) → base_of o ≡ None → next_base d s o ≡ None
no_base_step d s (based c) h = cc
no_base_step d s (named n) h = cc
no_base_step d s _ h = refl

pub past_base : {K : Type 0} {b : Base} {ts rest : List Token} (d : ℕ) (T : K → Base → State)
    → IsBaseAt ts b rest → d ≤ MAX_NESTING → Leads (λ k. a_base d (T k)) (λ k. T k b) ts rest
past_base {b = b} {ts = []} {rest = rest} d T (h, e) i = absurd (none_some h)
  where
    none_some : None ≡ Some b → ⊥
    none_some h = cc
past_base {K = K} {b = b} {ts = x ∷ ts} {rest = rest} d T (h, e) i = subst
    (λ y. Leads (λ k. a_base d (T k)) (λ k. T k b) (x ∷ ts) y) (sym e)
    (record {
      by = λ k. one_token x ts (a_base d (T k)) (T k b) d
          (base_step d (T k) (opening x.line x.kind) b h) i;
    })

pub no_base : {K : Type 0} (ts : List Token) (d : ℕ) (T : K → Base → State) (e : Fault)
    → NoBase ts e → StopsAt (λ k. a_base d (T k)) ts e
no_base [] d T (Syntax n) (q, h) = record { at = λ k. ap faulty (sym q) }
no_base (x ∷ ts) d T (Syntax n) (q, h) = record {
  at = λ k.
      one_faulty x ts (a_base d (T k)) (no_base_step d (T k) (opening x.line x.kind) h)
      ∙ ap faulty (sym q);
}
no_base ts d T (TooDeep n) h = absurd h
no_base ts d T (Memory _) h = tt

-- ---- tails that are over

abbrev pub NoneNext : List Token → (Token → Next) → Type 0
NoneNext [] o = Unit {0}
NoneNext (x ∷ ts) o = o x ≡ None

pub over : {K : Type 0} (S T : K → State) (ts : List Token) (o : K → Token → Next)
    → ((k : K) → at_end (S k) ≡ at_end (T k))
    → ((k : K) (x : Token) → step (S k) x ≡ or_else (o k x) (step (T k) x))
    → ((k : K) → NoneNext ts (o k)) → Leads S T ts ts
over S T [] o e h n = record { by = λ k. ap ended (e k) }
over S T (x ∷ ts) o e h n = record {
  by = λ k.
      ap (resume is_shallow (suc (length ts)) (λ q. left ts q))
      (h k x ∙ ap (λ y. or_else y (step (T k) x)) (n k));
}

-- ---- pairs of brackets

-- behind an opening bracket
pub in_pair : {n : ℕ} {ts a b : List Token} (d : ℕ)
    → Leads (λ k. pairs d 0 k) (λ k. pairs d n k) ts a → Then (Mark m.LeftBracket) a b
    → suc d ≤ MAX_NESTING → Leads (λ k. pairs d 0 k)
    (λ k. sign (suc d) (a_mark m.RightBracket) (pairs d (suc n) k)) ts b
in_pair {n = n} d p q h = onward p (token (λ k. pairs d n k)
    (λ k. sign (suc d) (a_mark m.RightBracket) (pairs d (suc n) k)) (suc d) q h (λ l a k. refl))

pub no_pair : {n : ℕ} {ts a b : List Token} (d : ℕ) (e : Fault)
    → Leads (λ k. pairs d 0 k) (λ k. pairs d n k) ts a → Then (Mark m.LeftBracket) a b → suc d
    ≤ MAX_NESTING → Missing (a_mark m.RightBracket) b e → StopsAt (λ k. pairs d 0 k) ts e
no_pair {n = n} {b = b} d e p q h i = stops_onward e (in_pair d p q h)
    (no_sign b (a_mark m.RightBracket) (suc d) (λ k. pairs d (suc n) k) e i)
