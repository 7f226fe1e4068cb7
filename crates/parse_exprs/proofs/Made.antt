-- What the machine makes of the parts of an expression.
use Rattle.std.proofs.Common.{◌≡◌, ℕ, suc, ◌≤◌, List, [], ◌∷◌, length, false, Some, None, Err, refl}
use Rattle.std.proofs.Common.{sym, ◌∙◌, ap, subst, arith, eq-eqb}
use Rattle.ck_base.specs.declared.limits.TheConstants.{MAX_NESTING}
use Rattle.ck_lexer.specs.declared.mark.Mark.TheVariants as m
use Rattle.ck_lexer.specs.declared.token.Token.{Token}
use Rattle.ck_lexer.specs.declared.token.TokenKind.{TokenKind}
use Rattle.ck_lexer.specs.declared.token.TokenKind.TheVariants.{Mark, Name}
use Rattle.parse_exprs.specs.declared.fault.Fault.{Fault}
use Rattle.parse_exprs.specs.declared.fault.Fault.TheVariants.{Syntax, TooDeep, Memory}
use Rattle.parse_exprs.specs.declared.follow.Follow.{Follow}
use Rattle.parse_exprs.specs.declared.follow.Follow.TheVariants as f
use Rattle.parse_exprs.specs.Machine.{State, Next, deep, left, step, or_else, given, sign, may}
use Rattle.parse_exprs.specs.Machine.{a_name, a_base, postfix, unary, operand, calls, durs, casts}
use Rattle.parse_exprs.specs.Machine.{joins, asks, chucks, brackets, sizes, more_exprs, joined}
use Rattle.parse_exprs.specs.Machine.{a_cond, an_expr, some_exprs, a_type, first_postfix}
use Rattle.parse_exprs.specs.Machine.{first_unary, next_call, next_dur, next_cast, next_join}
use Rattle.parse_exprs.specs.Machine.{next_ask, next_chuck, after_sign, arguments, new_rest}
use Rattle.parse_exprs.specs.Reads.{Leads, StopsAt, Missing, Deepens, after, next_follow, joins_at}
use Rattle.parse_exprs.specs.Reads.{is_chuck, atom_of}
use Rattle.parse_exprs.specs.Tokens.{Then, Opening, atom, named, prefixed, opens_paren, opens_array}
use Rattle.parse_exprs.specs.Tokens.{opens_new, opens_spork, opening, follow, level, Sign, a_mark}
use Rattle.parse_exprs.specs.Tokens.{kind_of, is_sign, has}
use Rattle.parse_exprs.proofs.Ranks.{rank, none_call}
use Rattle.parse_exprs.proofs.Steps.{one_token, one_deep, onward, inside, stops_onward}
use Rattle.parse_exprs.proofs.Steps.{stops_inside, token, past_sign, no_sign, past_name, over}
use Rattle.parse_exprs.proofs.Steps.{NoneNext, sign-self}
use Rattle.ck_syntax.specs.Tree as t
use Rattle.ck_syntax.specs.Tree.{Expr, Exprs, Brackets, Declr, expr_line, no_exprs, and_expr}
use Rattle.ck_syntax.specs.Tree.{no_brackets, and_empty, and_size, declr}
use Rattle.ck_syntax.specs.declared.operator.BinaryOp.{BinaryOp}
use Rattle.ck_syntax.specs.declared.operator.ChuckOp.{ChuckOp}
use Rattle.ck_syntax.specs.declared.operator.PostfixOp.{PostfixOp}
use Rattle.ck_syntax.specs.declared.operator.PrefixOp.{PrefixOp}

abbrev pub K1 : Type 0
K1 = Expr → State

abbrev pub K2 : Type 0
K2 = Expr → ℕ → State

-- a state of which the first token goes by its opening
pub first_step : {K : Type 0} {x : Token} {ts rest : List Token} (S T : K → State) (d : ℕ) → ts
    ≡ x ∷ rest → d ≤ MAX_NESTING → ((k : K) → step (S k) x ≡ Some (d, T k)) → Leads S T ts rest
first_step {x = x} {rest = rest} S T d e h i = subst (λ y. Leads S T y rest) (sym e)
    (record { by = λ k. one_token x rest (S k) (T k) d (i k) h })

pub first_deep : {K : Type 0} {x : Token} {ts rest : List Token} (S T : K → State) (d : ℕ)
    (e : Fault) → ts ≡ x ∷ rest → Deepens d ts (Err e)
    → ((k : K) → step (S k) x ≡ Some (suc d, T k)) → StopsAt S ts e
first_deep {x = x} {ts = ts} {rest = rest} S T d (TooDeep n) q (r, h) i = record {
  at = λ k.
      ap (λ y. left y (S k)) q ∙ one_deep x rest (S k) (T k) (suc d) (i k) (omega arith)
      ∙ ap deep (ap length (sym q) ∙ sym r);
}
first_deep S T d (Syntax n) q h i = absurd h
first_deep S T d (Memory _) q h i = absurd h

pub absent : (ts : List Token) (j : Sign) (d : ℕ) (s : State) → has j ts ≡ false
    → NoneNext ts (λ x. after_sign x.kind j d s)
absent [] j d s h = tt
absent (x ∷ ts) j d s h = ap (λ b. given b d s) h

-- ---- a Primary

atom_step : (d l : ℕ) (o : Opening) (e : Expr) (k : K2) → atom_of o l ≡ Some e
    → first_postfix d l o k ≡ Some (d, calls d e k)
atom_step d l (atom c) e k h = ap (λ y. Some (d, calls d y k)) (inj h)
  where
    inj : Some c ≡ Some e → c ≡ e
    inj e = cc
atom_step d l (named n) e k h = ap (λ y. Some (d, calls d y k)) (inj h)
  where
    inj : {c : Expr} → Some c ≡ Some e → c ≡ e
    inj e = cc
atom_step d l _ e k h = cc

pub made_atom : {x : Token} {ts rest : List Token} {e : Expr} (d : ℕ) → ts ≡ x ∷ rest
    → atom_of (opening x.line x.kind) x.line ≡ Some e → d ≤ MAX_NESTING
    → Leads (λ k. postfix d k) (λ k. calls d e k) ts rest
made_atom {x = x} {e = e} d q h i = first_step (λ k. postfix d k) (λ k. calls d e k) d q i
    (λ k. atom_step d x.line (opening x.line x.kind) e k h)

-- in parentheses
abbrev pub closing : ℕ → ℕ → ℕ → K2 → Expr → State
closing d e l k y = sign e (a_mark m.RightParen) (calls d (t.paren l y) k)

pub in_paren : {x : Token} {ts a : List Token} (d e : ℕ) → ts ≡ x ∷ a
    → opening x.line x.kind ≡ opens_paren → e ≡ suc d → e ≤ MAX_NESTING
    → Leads (λ (k : K2). postfix d k) (λ (k : K2). an_expr e (closing d e x.line k)) ts a
in_paren {x = x} d e q h p i = first_step (λ k. postfix d k)
    (λ k. an_expr e (closing d e x.line k)) e q i
    (λ k. ap (λ o. first_postfix d x.line o k) h
    ∙ ap (λ c. Some (c, an_expr c (closing d c x.line k))) (sym p))

pub deep_paren : {x : Token} {ts a : List Token} (d : ℕ) (f : Fault) → ts ≡ x ∷ a → opening
    x.line x.kind ≡ opens_paren → Deepens d ts (Err f) → StopsAt (λ (k : K2). postfix d k) ts f
deep_paren {x = x} d f q h i = first_deep (λ k. postfix d k)
    (λ k. an_expr (suc d) (closing d (suc d) x.line k)) d f q i
    (λ k. ap (λ o. first_postfix d x.line o k) h)

pub inner_paren : {x : Token} {ts a : List Token} (d e : ℕ) (f : Fault) → ts ≡ x ∷ a
    → opening x.line x.kind ≡ opens_paren → e ≡ suc d → e ≤ MAX_NESTING
    → StopsAt (λ (k : K1). an_expr e k) a f → StopsAt (λ (k : K2). postfix d k) ts f
inner_paren {x = x} {a = a} d e f q h p i r = stops_onward f (in_paren d e q h p i)
    (stops_inside (λ k. an_expr e k) a (λ k. closing d e x.line k) f r)

pub behind_paren : {x : Token} {ts a b : List Token} {y : Expr} (d e : ℕ) → ts ≡ x ∷ a
    → opening x.line x.kind ≡ opens_paren → e ≡ suc d → e ≤ MAX_NESTING
    → Leads (λ (k : K1). an_expr e k) (λ k. k y) a b
    → Leads (λ (k : K2). postfix d k) (λ (k : K2). closing d e x.line k y) ts b
behind_paren {x = x} d e q h p i r =
    onward (in_paren d e q h p i) (inside (λ k. closing d e x.line k) r)

pub open_paren : {x : Token} {ts a b : List Token} {y : Expr} (d e : ℕ) (f : Fault) → ts ≡ x ∷ a
    → opening x.line x.kind ≡ opens_paren → e ≡ suc d → e ≤ MAX_NESTING
    → Leads (λ (k : K1). an_expr e k) (λ k. k y) a b → Missing (a_mark m.RightParen) b f
    → StopsAt (λ (k : K2). postfix d k) ts f
open_paren {x = x} {b = b} {y = y} d e f q h p i r g = stops_onward f
    (behind_paren d e q h p i r)
    (no_sign b (a_mark m.RightParen) e (λ k. calls d (t.paren x.line y) k) f g)

pub made_paren : {x : Token} {ts a b c : List Token} {y : Expr} (d e : ℕ) → ts ≡ x ∷ a
    → opening x.line x.kind ≡ opens_paren → e ≡ suc d → e ≤ MAX_NESTING
    → Leads (λ (k : K1). an_expr e k) (λ k. k y) a b → Then (Mark m.RightParen) b c
    → Leads (λ (k : K2). postfix d k) (λ k. calls d (t.paren x.line y) k) ts c
made_paren {x = x} {y = y} d e q h p i r g = onward (behind_paren d e q h p i r)
    (past_sign (a_mark m.RightParen) e (λ k. calls d (t.paren x.line y) k) g i)

-- an array
abbrev pub array_end : ℕ → ℕ → ℕ → K2 → Exprs → State
array_end d e l k y = sign e (a_mark m.RightBracket) (calls d (t.array l y) k)

pub in_array : {x : Token} {ts a : List Token} (d e : ℕ) → ts ≡ x ∷ a
    → opening x.line x.kind ≡ opens_array → e ≡ suc d → e ≤ MAX_NESTING
    → Leads (λ (k : K2). postfix d k) (λ (k : K2). some_exprs e (array_end d e x.line k)) ts a
in_array {x = x} d e q h p i = first_step (λ k. postfix d k)
    (λ k. some_exprs e (array_end d e x.line k)) e q i
    (λ k. ap (λ o. first_postfix d x.line o k) h
    ∙ ap (λ c. Some (c, some_exprs c (array_end d c x.line k))) (sym p))

pub deep_array : {x : Token} {ts a : List Token} (d : ℕ) (f : Fault) → ts ≡ x ∷ a → opening
    x.line x.kind ≡ opens_array → Deepens d ts (Err f) → StopsAt (λ (k : K2). postfix d k) ts f
deep_array {x = x} d f q h i = first_deep (λ k. postfix d k)
    (λ k. some_exprs (suc d) (array_end d (suc d) x.line k)) d f q i
    (λ k. ap (λ o. first_postfix d x.line o k) h)

pub inner_array : {x : Token} {ts a : List Token} (d e : ℕ) (f : Fault) → ts ≡ x ∷ a
    → opening x.line x.kind ≡ opens_array → e ≡ suc d → e ≤ MAX_NESTING → StopsAt
    (λ (k : Exprs → State). some_exprs e k) a f → StopsAt (λ (k : K2). postfix d k) ts f
inner_array {x = x} {a = a} d e f q h p i r = stops_onward f (in_array d e q h p i)
    (stops_inside (λ k. some_exprs e k) a (λ k. array_end d e x.line k) f r)

pub behind_array : {x : Token} {ts a b : List Token} {y : Exprs} (d e : ℕ) → ts ≡ x ∷ a
    → opening x.line x.kind ≡ opens_array → e ≡ suc d → e ≤ MAX_NESTING
    → Leads (λ (k : Exprs → State). some_exprs e k) (λ k. k y) a b
    → Leads (λ (k : K2). postfix d k) (λ (k : K2). array_end d e x.line k y) ts b
behind_array {x = x} d e q h p i r =
    onward (in_array d e q h p i) (inside (λ k. array_end d e x.line k) r)

pub open_array : {x : Token} {ts a b : List Token} {y : Exprs} (d e : ℕ) (f : Fault)
    → ts ≡ x ∷ a → opening x.line x.kind ≡ opens_array → e ≡ suc d → e ≤ MAX_NESTING
    → Leads (λ (k : Exprs → State). some_exprs e k) (λ k. k y) a b
    → Missing (a_mark m.RightBracket) b f → StopsAt (λ (k : K2). postfix d k) ts f
open_array {x = x} {b = b} {y = y} d e f q h p i r g = stops_onward f
    (behind_array d e q h p i r)
    (no_sign b (a_mark m.RightBracket) e (λ k. calls d (t.array x.line y) k) f g)

pub made_array : {x : Token} {ts a b c : List Token} {y : Exprs} (d e : ℕ) → ts ≡ x ∷ a
    → opening x.line x.kind ≡ opens_array → e ≡ suc d → e ≤ MAX_NESTING
    → Leads (λ (k : Exprs → State). some_exprs e k) (λ k. k y) a b → Then (Mark m.RightBracket)
    b c → Leads (λ (k : K2). postfix d k) (λ k. calls d (t.array x.line y) k) ts c
made_array {x = x} {y = y} d e q h p i r g = onward (behind_array d e q h p i r)
    (past_sign (a_mark m.RightBracket) e (λ k. calls d (t.array x.line y) k) g i)

-- ---- a list of expressions

-- an expression of the list
abbrev pub listed : ℕ → Exprs → (Exprs → State) → Expr → State
listed d es k e = more_exprs d (and_expr es e) k

pub exprs_first : {ts a : List Token} {e : Expr} (d : ℕ)
    → Leads (λ (k : K1). an_expr d k) (λ k. k e) ts a → Leads
    (λ (k : Exprs → State). some_exprs d k) (λ k. more_exprs d (and_expr no_exprs e) k) ts a
exprs_first d r = inside (λ k. listed d no_exprs k) r

pub exprs_none : (ts : List Token) (d : ℕ) (f : Fault) → StopsAt (λ (k : K1). an_expr d k) ts f
    → StopsAt (λ (k : Exprs → State). some_exprs d k) ts f
exprs_none ts d f r = stops_inside (λ k. an_expr d k) ts (λ k. listed d no_exprs k) f r

pub behind_comma : {ts a b : List Token} {es : Exprs} (d : ℕ)
    → Leads (λ (k : Exprs → State). some_exprs d k) (λ k. more_exprs d es k) ts a
    → Then (Mark m.Comma) a b → d ≤ MAX_NESTING
    → Leads (λ (k : Exprs → State). some_exprs d k) (λ k. an_expr d (listed d es k)) ts b
behind_comma {es = es} d p q h = onward p
    (token (λ k. more_exprs d es k) (λ k. an_expr d (listed d es k)) d q h (λ l a k. refl))

pub exprs_next : {ts a b c : List Token} {es : Exprs} {e : Expr} (d : ℕ)
    → Leads (λ (k : Exprs → State). some_exprs d k) (λ k. more_exprs d es k) ts a
    → Then (Mark m.Comma) a b → d ≤ MAX_NESTING → Leads (λ (k : K1). an_expr d k) (λ k. k e) b c
    → Leads (λ (k : Exprs → State). some_exprs d k) (λ k. more_exprs d (and_expr es e) k) ts c
exprs_next {es = es} d p q h r = onward (behind_comma d p q h) (inside (λ k. listed d es k) r)

pub exprs_fault : {ts a b : List Token} {es : Exprs} (d : ℕ) (f : Fault)
    → Leads (λ (k : Exprs → State). some_exprs d k) (λ k. more_exprs d es k) ts a
    → Then (Mark m.Comma) a b → d ≤ MAX_NESTING → StopsAt (λ (k : K1). an_expr d k) b f
    → StopsAt (λ (k : Exprs → State). some_exprs d k) ts f
exprs_fault {b = b} {es = es} d f p q h r = stops_onward f (behind_comma d p q h)
    (stops_inside (λ k. an_expr d k) b (λ k. listed d es k) f r)

pub exprs_end : {ts a : List Token} {es : Exprs} (d : ℕ)
    → Leads (λ (k : Exprs → State). some_exprs d k) (λ k. more_exprs d es k) ts a → has
    (a_mark m.Comma) a ≡ false → Leads (λ (k : Exprs → State). some_exprs d k) (λ k. k es) ts a
exprs_end {a = a} {es = es} d p h = onward p
    (over (λ k. more_exprs d es k) (λ k. k es) a
    (λ k x. after_sign x.kind (a_mark m.Comma) d (an_expr d (listed d es k))) (λ k. refl)
    (λ k x. refl) (λ k. absent a (a_mark m.Comma) d (an_expr d (listed d es k)) h))

-- ---- a Postfix

pub postfix_first : {ts a : List Token} {e : Expr} (d : ℕ) → Leads (λ (k : K2). postfix d k)
    (λ k. calls d e k) ts a → Leads (λ (k : K2). postfix d k) (λ k. calls d e k) ts a
postfix_first d r = r

-- the next token goes on so
pub goes_on : {K : Type 0} {ts rest : List Token} (x : Follow) (S T : K → State) (d : ℕ)
    (o : K → Follow → Next) (q : K → Token → Next) → next_follow ts ≡ x → rest ≡ after ts
    → d ≤ MAX_NESTING
    → ((k : K) (y : Token) → step (S k) y ≡ or_else (o k (follow y.kind)) (q k y))
    → ((k : K) → o k x ≡ Some (d, T k)) → ((k : K) → o k f.Nothing ≡ None) → Leads S T ts rest
goes_on {K = K} {ts = []} {rest = rest} x S T d o q h e i j l n =
    record { by = λ k. absurd (none_some (sym (n k) ∙ ap (o k) h ∙ l k)) }
  where
    none_some : {y : ℕ × State} → None ≡ Some y → ⊥
    none_some h = cc
goes_on {K = K} {ts = y ∷ ts} {rest = rest} x S T d o q h e i j l n =
    subst (λ z. Leads S T (y ∷ ts) z) (sym e)
    (record {
      by = λ k. one_token y ts (S k) (T k) d
          (j k y ∙ ap (λ z. or_else (o k z) (q k y)) h ∙ ap (λ z. or_else z (q k y)) (l k)) i;
    })

pub goes_deep : {K : Type 0} (ts : List Token) (x : Follow) (S T : K → State) (d : ℕ)
    (e : Fault) (o : K → Follow → Next) (q : K → Token → Next) → next_follow ts ≡ x
    → Deepens d ts (Err e)
    → ((k : K) (y : Token) → step (S k) y ≡ or_else (o k (follow y.kind)) (q k y))
    → ((k : K) → o k x ≡ Some (suc d, T k)) → ((k : K) → o k f.Nothing ≡ None) → StopsAt S ts e
goes_deep {K = K} [] x S T d (TooDeep m) o q h i j l n =
    record { at = λ k. absurd (none_some (sym (n k) ∙ ap (o k) h ∙ l k)) }
  where
    none_some : {y : ℕ × State} → None ≡ Some y → ⊥
    none_some h = cc
goes_deep {K = K} (y ∷ ts) x S T d (TooDeep m) o q h (r, i) j l n = record {
  at = λ k.
      one_deep y ts (S k) (T k) (suc d) (j k y ∙ ap (λ z. or_else (o k z) (q k y)) h
      ∙ ap (λ z. or_else z (q k y)) (l k)) (omega arith) ∙ ap deep (sym r);
}
goes_deep ts x S T d (Syntax m) o q h i j l n = absurd i
goes_deep ts x S T d (Memory _) o q h i j l n = absurd i

-- ---- the tails of a Postfix

abbrev pub index_end : ℕ → Expr → K2 → Expr → State
index_end e y k i = sign e (a_mark m.RightBracket) (calls e (t.index (expr_line y) y i) k)

-- behind an operator at depth e, one deeper than c
pub in_call : {a b : List Token} {y : Expr} (c e : ℕ) → next_follow a ≡ f.Call → b ≡ after a
    → e ≡ suc c → e ≤ MAX_NESTING → Leads (λ (k : K2). calls c y k)
    (λ (k : K2). arguments e (λ es. calls e (t.call (expr_line y) y es) k)) a b
in_call {y = y} c e h q p i = goes_on f.Call (λ (k : K2). calls c y k)
    (λ (k : K2). arguments e (λ es. calls e (t.call (expr_line y) y es) k)) e
    (λ k. next_call c y k) (λ k. step (k y c)) h q i (λ k x. refl)
    (λ k. ap (λ z. Some (z, arguments z (λ es. calls z (t.call (expr_line y) y es) k)))
    (sym p)) (λ k. refl)

pub in_index : {a b : List Token} {y : Expr} (c e : ℕ) → next_follow a ≡ f.Index → b ≡ after a
    → e ≡ suc c → e ≤ MAX_NESTING
    → Leads (λ (k : K2). calls c y k) (λ (k : K2). an_expr e (index_end e y k)) a b
in_index {y = y} c e h q p i = goes_on f.Index (λ (k : K2). calls c y k)
    (λ (k : K2). an_expr e (index_end e y k)) e (λ k. next_call c y k) (λ k. step (k y c)) h q i
    (λ k x. refl) (λ k. ap (λ z. Some (z, an_expr z (index_end z y k))) (sym p)) (λ k. refl)

pub in_member : {a b : List Token} {y : Expr} (c e : ℕ) → next_follow a ≡ f.Member → b ≡ after a
    → e ≡ suc c → e ≤ MAX_NESTING → Leads (λ (k : K2). calls c y k)
    (λ (k : K2). a_name e (λ n. calls e (t.member (expr_line y) y n) k)) a b
in_member {y = y} c e h q p i = goes_on f.Member (λ (k : K2). calls c y k)
    (λ (k : K2). a_name e (λ n. calls e (t.member (expr_line y) y n) k)) e
    (λ k. next_call c y k) (λ k. step (k y c)) h q i (λ k x. refl)
    (λ k. ap (λ z. Some (z, a_name z (λ n. calls z (t.member (expr_line y) y n) k))) (sym p))
    (λ k. refl)

pub in_postfix : {a b : List Token} {y : Expr} {o : PostfixOp} (c e : ℕ)
    → next_follow a ≡ f.Postfix o → b ≡ after a → e ≡ suc c → e ≤ MAX_NESTING
    → Leads (λ (k : K2). calls c y k) (λ (k : K2). calls e (t.postfix (expr_line y) y o) k) a b
in_postfix {y = y} {o = o} c e h q p i = goes_on (f.Postfix o) (λ (k : K2). calls c y k)
    (λ (k : K2). calls e (t.postfix (expr_line y) y o) k) e (λ k. next_call c y k)
    (λ k. step (k y c)) h q i (λ k x. refl)
    (λ k. ap (λ z. Some (z, calls z (t.postfix (expr_line y) y o) k)) (sym p)) (λ k. refl)

-- nothing of a Postfix goes on
pub calls_over : (a : List Token) (c : ℕ) (y : Expr) → 1 ≤ rank (next_follow a)
    → Leads (λ (k : K2). calls c y k) (λ k. k y c) a a
calls_over [] c y h = record { by = λ k. refl }
calls_over (x ∷ ts) c y h = over (λ (k : K2). calls c y k) (λ k. k y c) (x ∷ ts)
    (λ k z. next_call c y k (follow z.kind)) (λ k. refl) (λ k z. refl)
    (λ k. none_call c y k (follow x.kind) h)

-- what is made of the rest of a Postfix
pub made_call : {ts a b r : List Token} {y : Expr} {es : Exprs} (d c e : ℕ)
    → Leads (λ (k : K2). postfix d k) (λ k. calls c y k) ts a → next_follow a ≡ f.Call
    → b ≡ after a → e ≡ suc c → e ≤ MAX_NESTING
    → Leads (λ (k : Exprs → State). arguments e k) (λ k. k es) b r
    → Leads (λ (k : K2). postfix d k) (λ k. calls e (t.call (expr_line y) y es) k) ts r
made_call {y = y} d c e l h q p i r = onward l
    (onward (in_call c e h q p i) (inside (λ k es. calls e (t.call (expr_line y) y es) k) r))

pub made_index : {ts a b g r : List Token} {y z : Expr} (d c e : ℕ)
    → Leads (λ (k : K2). postfix d k) (λ k. calls c y k) ts a → next_follow a ≡ f.Index
    → b ≡ after a → e ≡ suc c → e ≤ MAX_NESTING → Leads (λ (k : K1). an_expr e k) (λ k. k z) b g
    → Then (Mark m.RightBracket) g r
    → Leads (λ (k : K2). postfix d k) (λ k. calls e (t.index (expr_line y) y z) k) ts r
made_index {y = y} {z = z} d c e l h q p i r j = onward l
    (onward (in_index c e h q p i) (onward (inside (λ k. index_end e y k) r)
    (past_sign (a_mark m.RightBracket) e (λ k. calls e (t.index (expr_line y) y z) k) j i)))

pub made_member : {ts a b r : List Token} {y : Expr} {n : List ℕ} (d c e : ℕ)
    → Leads (λ (k : K2). postfix d k) (λ k. calls c y k) ts a → next_follow a ≡ f.Member
    → b ≡ after a → e ≡ suc c → e ≤ MAX_NESTING → Then (Name n) b r
    → Leads (λ (k : K2). postfix d k) (λ k. calls e (t.member (expr_line y) y n) k) ts r
made_member {y = y} d c e l h q p i j = onward l
    (onward (in_member c e h q p i) (past_name e (λ k n. calls e (t.member (expr_line y) y n) k)
    j i))

pub made_postfix : {ts a b : List Token} {y : Expr} {o : PostfixOp} (d c e : ℕ)
    → Leads (λ (k : K2). postfix d k) (λ k. calls c y k) ts a → next_follow a ≡ f.Postfix o
    → b ≡ after a → e ≡ suc c → e ≤ MAX_NESTING
    → Leads (λ (k : K2). postfix d k) (λ k. calls e (t.postfix (expr_line y) y o) k) ts b
made_postfix d c e l h q p i = onward l (in_postfix c e h q p i)

-- ---- operators with one operand behind them

pub in_dur : {a b : List Token} {y : Expr} (c e : ℕ) → Then (Mark m.ColonColon) a b → e ≡ suc c
    → e ≤ MAX_NESTING → Leads (λ (k : K2). durs c y k)
    (λ (k : K2). postfix e (λ u g. durs g (t.dur (expr_line y) y u) k)) a b
in_dur {y = y} c e q p i = token (λ (k : K2). durs c y k)
    (λ (k : K2). postfix e (λ u g. durs g (t.dur (expr_line y) y u) k)) e q i
    (λ l a k. ap (λ z. Some (z, postfix z (λ u g. durs g (t.dur (expr_line y) y u) k))) (sym p))

pub in_cast : {a b : List Token} {y : Expr} (c e : ℕ) → Then (Mark m.Dollar) a b → e ≡ suc c
    → e ≤ MAX_NESTING → Leads (λ (k : K2). casts c y k)
    (λ (k : K2). a_type e (λ u. casts e (t.cast (expr_line y) y u) k)) a b
in_cast {y = y} c e q p i = token (λ (k : K2). casts c y k)
    (λ (k : K2). a_type e (λ u. casts e (t.cast (expr_line y) y u) k)) e q i
    (λ l a k. ap (λ z. Some (z, a_type z (λ u. casts z (t.cast (expr_line y) y u) k))) (sym p))

pub in_choice : {a b : List Token} {y : Expr} (c e : ℕ) → Then (Mark m.Question) a b → e ≡ suc c
    → e ≤ MAX_NESTING → Leads (λ (k : K2). asks c y k)
    (λ (k : K2). an_expr e (λ x. sign e (a_mark m.Colon)
    (a_cond e (λ z g. k (t.choice (expr_line y) y x z) g)))) a b
in_choice {y = y} c e q p i = token (λ (k : K2). asks c y k)
    (λ (k : K2). an_expr e (λ x. sign e (a_mark m.Colon)
    (a_cond e (λ z g. k (t.choice (expr_line y) y x z) g)))) e q i
    (λ l a k. ap (λ n. Some (
      n,
      an_expr n (λ x.
          sign n (a_mark m.Colon) (a_cond n (λ z g. k (t.choice (expr_line y) y x z) g))),
    )) (sym p))

-- tails of one mark that are over
not_mark : (a : List Token) (j : Sign) → has j a ≡ false → (o : Follow → Next)
    → ((k : TokenKind) → is_sign k j ≡ false → o (follow k) ≡ None)
    → NoneNext a (λ z. o (follow z.kind))
not_mark [] j h o i = tt
not_mark (x ∷ ts) j h o i = i x.kind h

not_dur : (c : ℕ) (y : Expr) (k : K2) (j : TokenKind) → is_sign j (a_mark m.ColonColon) ≡ false
    → next_dur c y k (follow j) ≡ None
not_dur c y k (Mark m.ColonColon) h = cc
not_dur c y k _ h = refl

not_cast : (c : ℕ) (y : Expr) (k : K2) (j : TokenKind) → is_sign j (a_mark m.Dollar) ≡ false
    → next_cast c y k (follow j) ≡ None
not_cast c y k (Mark m.Dollar) h = cc
not_cast c y k _ h = refl

not_ask : (c : ℕ) (y : Expr) (k : K2) (j : TokenKind) → is_sign j (a_mark m.Question) ≡ false
    → next_ask c y k (follow j) ≡ None
not_ask c y k (Mark m.Question) h = cc
not_ask c y k _ h = refl

pub durs_over : (a : List Token) (c : ℕ) (y : Expr) → has (a_mark m.ColonColon) a ≡ false
    → Leads (λ (k : K2). durs c y k) (λ k. k y c) a a
durs_over a c y h = over (λ (k : K2). durs c y k) (λ k. k y c) a
    (λ k z. next_dur c y k (follow z.kind)) (λ k. refl) (λ k z. refl)
    (λ k. not_mark a (a_mark m.ColonColon) h (next_dur c y k) (not_dur c y k))

pub casts_over : (a : List Token) (c : ℕ) (y : Expr) → has (a_mark m.Dollar) a ≡ false
    → Leads (λ (k : K2). casts c y k) (λ k. k y c) a a
casts_over a c y h = over (λ (k : K2). casts c y k) (λ k. k y c) a
    (λ k z. next_cast c y k (follow z.kind)) (λ k. refl) (λ k z. refl)
    (λ k. not_mark a (a_mark m.Dollar) h (next_cast c y k) (not_cast c y k))

pub asks_over : (a : List Token) (c : ℕ) (y : Expr) → has (a_mark m.Question) a ≡ false
    → Leads (λ (k : K2). asks c y k) (λ k. k y c) a a
asks_over a c y h = over (λ (k : K2). asks c y k) (λ k. k y c) a
    (λ k z. next_ask c y k (follow z.kind)) (λ k. refl) (λ k z. refl)
    (λ k. not_mark a (a_mark m.Question) h (next_ask c y k) (not_ask c y k))

-- ---- a binary level

join_step : (n c : ℕ) (y : Expr) (o : BinaryOp) (k : K2) → level o ≡ n
    → next_join n c y k (f.Binary o) ≡ Some (
      suc c,
      unary (suc c) (λ g b. joined n b g
          (λ h a. joins n a (t.binary (expr_line y) y o h) k)),
    )
join_step n c y o k q = ap (λ b. given b (suc c)
    (unary (suc c) (λ g b. joined n b g (λ h a. joins n a (t.binary (expr_line y) y o h) k))))
    (eq-eqb (level o) n q)

pub in_binary : {a b : List Token} {y : Expr} (n c e : ℕ) (o : BinaryOp)
    → next_follow a ≡ f.Binary o → level o ≡ n → b ≡ after a → e ≡ suc c → e ≤ MAX_NESTING
    → Leads (λ (k : K2). joins n c y k) (λ (k : K2).
    unary e (λ g b. joined n b g (λ h a. joins n a (t.binary (expr_line y) y o h) k))) a b
in_binary {y = y} n c e o h r q p i = goes_on (f.Binary o) (λ (k : K2). joins n c y k)
    (λ (k : K2). unary e (λ g b. joined n b g
    (λ h a. joins n a (t.binary (expr_line y) y o h) k))) e (λ k. next_join n c y k)
    (λ k. step (k y c)) h q i (λ k x. refl)
    (λ k. join_step n c y o k r ∙ ap (λ z. Some
    (z, unary z (λ g b. joined n b g (λ h a. joins n a (t.binary (expr_line y) y o h) k))))
    (sym p)) (λ k. refl)

no_join : (n c : ℕ) (y : Expr) (k : K2) (x : Follow) → joins_at x n ≡ false
    → next_join n c y k x ≡ None
no_join n c y k (f.Binary o) h = ap (λ b. given b (suc c)
    (unary (suc c) (λ g b. joined n b g (λ h a. joins n a (t.binary (expr_line y) y o h) k)))) h
no_join n c y k _ h = refl

pub joins_over : (a : List Token) (n c : ℕ) (y : Expr) → joins_at (next_follow a) n ≡ false
    → Leads (λ (k : K2). joins n c y k) (λ k. k y c) a a
joins_over [] n c y h = record { by = λ k. refl }
joins_over (x ∷ ts) n c y h = over (λ (k : K2). joins n c y k) (λ k. k y c) (x ∷ ts)
    (λ k z. next_join n c y k (follow z.kind)) (λ k. refl) (λ k z. refl)
    (λ k. no_join n c y k (follow x.kind) h)

-- ---- chuck operators

pub in_chuck : {a b : List Token} {y : Expr} (c e : ℕ) (o : ChuckOp) → next_follow a ≡ f.Chuck o
    → b ≡ after a → e ≡ suc c → e ≤ MAX_NESTING
    → Leads (λ (k : K1). chucks c y k) (λ (k : K1).
    operand e (λ l h x. chucks e (t.chuck (expr_line y) y o (t.declare l h x)) k)
    (λ g b. chucks b (t.chuck (expr_line y) y o g) k)) a b
in_chuck {y = y} c e o h q p i = goes_on (f.Chuck o) (λ (k : K1). chucks c y k)
    (λ (k : K1). operand e (λ l h x. chucks e (t.chuck (expr_line y) y o (t.declare l h x)) k)
    (λ g b. chucks b (t.chuck (expr_line y) y o g) k)) e (λ k. next_chuck c y k)
    (λ k. step (k y)) h q i (λ k x. refl)
    (λ k. ap (λ z. Some (
      z,
      operand z (λ l h x.
          chucks z (t.chuck (expr_line y) y o (t.declare l h x)) k)
          (λ g b. chucks b (t.chuck (expr_line y) y o g) k),
    )) (sym p)) (λ k. refl)

no_chuck : (c : ℕ) (y : Expr) (k : K1) (x : Follow) → is_chuck x ≡ false → next_chuck c y k x ≡ None
no_chuck c y k (f.Chuck o) h = cc
no_chuck c y k _ h = refl

pub chucks_over : (a : List Token) (c : ℕ) (y : Expr) → is_chuck (next_follow a) ≡ false
    → Leads (λ (k : K1). chucks c y k) (λ k. k y) a a
chucks_over [] c y h = record { by = λ k. refl }
chucks_over (x ∷ ts) c y h = over (λ (k : K1). chucks c y k) (λ k. k y) (x ∷ ts)
    (λ k z. next_chuck c y k (follow z.kind)) (λ k. refl) (λ k z. refl)
    (λ k. no_chuck c y k (follow x.kind) h)

-- ---- a Unary

pub in_prefix : {x : Token} {ts a : List Token} {o : PrefixOp} (d e : ℕ) → ts ≡ x ∷ a
    → opening x.line x.kind ≡ prefixed o → e ≡ suc d → e ≤ MAX_NESTING → Leads
    (λ (k : K2). unary d k) (λ (k : K2). unary e (λ y c. k (t.prefix x.line o y) c)) ts a
in_prefix {x = x} {o = o} d e q h p i = first_step (λ (k : K2). unary d k)
    (λ (k : K2). unary e (λ y c. k (t.prefix x.line o y) c)) e q i
    (λ k. ap (λ z. first_unary d x.line z k) h
    ∙ ap (λ z. Some (z, unary z (λ y c. k (t.prefix x.line o y) c))) (sym p))

pub in_new : {x : Token} {ts a : List Token} (d e : ℕ) → ts ≡ x ∷ a
    → opening x.line x.kind ≡ opens_new → e ≡ suc d → e ≤ MAX_NESTING
    → Leads (λ (k : K2). unary d k)
    (λ (k : K2). a_base e (λ b. new_rest e x.line b (λ y. k y e))) ts a
in_new {x = x} d e q h p i = first_step (λ (k : K2). unary d k)
    (λ (k : K2). a_base e (λ b. new_rest e x.line b (λ y. k y e))) e q i
    (λ k. ap (λ z. first_unary d x.line z k) h
    ∙ ap (λ z. Some (z, a_base z (λ b. new_rest z x.line b (λ y. k y z)))) (sym p))

pub in_spork : {x : Token} {ts a : List Token} (d e : ℕ) → ts ≡ x ∷ a
    → opening x.line x.kind ≡ opens_spork → e ≡ suc d → e ≤ MAX_NESTING
    → Leads (λ (k : K2). unary d k)
    (λ (k : K2). sign e (a_mark m.Tilde) (postfix e (λ y c. k (t.spork x.line y) c))) ts a
in_spork {x = x} d e q h p i = first_step (λ (k : K2). unary d k)
    (λ (k : K2). sign e (a_mark m.Tilde) (postfix e (λ y c. k (t.spork x.line y) c))) e q i
    (λ k. ap (λ z. first_unary d x.line z k) h
    ∙ ap (λ z. Some (z, sign z (a_mark m.Tilde) (postfix z (λ y c. k (t.spork x.line y) c))))
    (sym p))

-- ---- sizes, brackets, arguments

pub in_size : {a b : List Token} {es : Exprs} (d e : ℕ) → Then (Mark m.LeftBracket) a b
    → e ≡ suc d → e ≤ MAX_NESTING → Leads (λ (k : Exprs → State). sizes d es k)
    (λ (k : Exprs → State). an_expr e (λ y.
    sign e (a_mark m.RightBracket) (sizes d (and_expr es y) k))) a b
in_size {es = es} d e q p i = token (λ (k : Exprs → State). sizes d es k)
    (λ (k : Exprs → State). an_expr e (λ y.
    sign e (a_mark m.RightBracket) (sizes d (and_expr es y) k))) e q i
    (λ l a k. ap (λ z. Some (
      z,
      an_expr z (λ y.
          sign z (a_mark m.RightBracket) (sizes d (and_expr es y) k)),
    )) (sym p))

pub sizes_over : (a : List Token) (d : ℕ) (es : Exprs) → has (a_mark m.LeftBracket) a ≡ false
    → Leads (λ (k : Exprs → State). sizes d es k) (λ k. k es) a a
sizes_over a d es h = over (λ (k : Exprs → State). sizes d es k) (λ k. k es) a
    (λ k x. after_sign x.kind (a_mark m.LeftBracket) (suc d)
    (an_expr (suc d) (λ y. sign (suc d) (a_mark m.RightBracket) (sizes d (and_expr es y) k))))
    (λ k. refl) (λ k x. refl) (λ k. absent a (a_mark m.LeftBracket) (suc d) _ h)

-- behind the opening bracket of a declarator
abbrev pub bracket_rest : ℕ → ℕ → Brackets → (Brackets → State) → State
bracket_rest d e bs k = may e (a_mark m.RightBracket) (brackets d (and_empty bs) k)
    (an_expr e (λ y. sign e (a_mark m.RightBracket) (brackets d (and_size bs y) k)))

pub in_bracket : {a b : List Token} {bs : Brackets} (d e : ℕ) → Then (Mark m.LeftBracket) a b
    → e ≡ suc d → e ≤ MAX_NESTING → Leads (λ (k : Brackets → State). brackets d bs k)
    (λ (k : Brackets → State). bracket_rest d e bs k) a b
in_bracket {bs = bs} d e q p i = token (λ (k : Brackets → State). brackets d bs k)
    (λ (k : Brackets → State). bracket_rest d e bs k) e q i
    (λ l a k. ap (λ z. Some (z, bracket_rest d z bs k)) (sym p))

pub brackets_over : (a : List Token) (d : ℕ) (bs : Brackets) → has (a_mark m.LeftBracket) a
    ≡ false → Leads (λ (k : Brackets → State). brackets d bs k) (λ k. k bs) a a
brackets_over a d bs h = over (λ (k : Brackets → State). brackets d bs k) (λ k. k bs) a
    (λ k x. after_sign x.kind (a_mark m.LeftBracket) (suc d) (bracket_rest d (suc d) bs k))
    (λ k. refl) (λ k x. refl)
    (λ k. absent a (a_mark m.LeftBracket) (suc d) (bracket_rest d (suc d) bs k) h)

-- a mark that may come, comes, and does not
pub may_come : {K : Type 0} {a b : List Token} (j : Sign) (d : ℕ) (S T : K → State)
    → Then (kind_of j) a b → d ≤ MAX_NESTING → Leads (λ k. may d j (S k) (T k)) S a b
may_come j d S T q i = token (λ k. may d j (S k) (T k)) S d q i
    (λ l a k. ap (λ z. or_else (given z d (S k))
    (step (T k) (record { kind = kind_of j; line = l; at = a }))) (sign-self j))

pub may_not : {K : Type 0} (a : List Token) (j : Sign) (d : ℕ) (S T : K → State)
    → has j a ≡ false → Leads (λ k. may d j (S k) (T k)) T a a
may_not a j d S T h = over (λ k. may d j (S k) (T k)) T a (λ k x. after_sign x.kind j d (S k))
    (λ k. refl) (λ k x. refl) (λ k. absent a j d (S k) h)
