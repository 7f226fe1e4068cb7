-- What the machine makes of the levels of an expression, from a Primary to a Cond, where their
-- parts were read.
use Rattle.std.proofs.Common.{◌≡◌, ℕ, suc, ◌≤◌, List, false, Err, refl, sym, subst}
use Rattle.ck_base.specs.declared.limits.TheConstants.{MAX_NESTING}
use Rattle.ck_lexer.specs.declared.mark.Mark.TheVariants as m
use Rattle.ck_lexer.specs.declared.token.Token.{Token}
use Rattle.ck_lexer.specs.declared.token.TokenKind.TheVariants.{Mark, Name}
use Rattle.parse_exprs.specs.declared.fault.Fault.{Fault}
use Rattle.parse_exprs.specs.declared.follow.Suffix.{Suffix}
use Rattle.parse_exprs.specs.declared.follow.Suffix.TheVariants as suffix
use Rattle.parse_exprs.specs.declared.opening.Lead.{Lead}
use Rattle.parse_exprs.specs.declared.opening.Lead.TheVariants as lead
use Rattle.parse_exprs.specs.declared.opening.Start.{Start}
use Rattle.parse_exprs.specs.declared.opening.Start.TheVariants as start
use Rattle.parse_exprs.specs.Machine.{State, a_type, postfix, unary, calls, durs, casts, joins}
use Rattle.parse_exprs.specs.Machine.{asks, a_cond, arguments, new_rest}
use Rattle.parse_exprs.specs.Operands.{a_dur, a_level, all_closed, closed, led}
use Rattle.parse_exprs.specs.Operands.{started, suffixed}
use Rattle.parse_exprs.specs.Reads.{Leads, StopsAt, Missing, Deepens, IsBaseAt, NoBase, NoName}
use Rattle.parse_exprs.specs.Tokens.{Then, a_mark, has}
use Rattle.parse_exprs.proofs.Made.{K1, K2, asks_over, casts_over, durs_over, in_cast, in_choice}
use Rattle.parse_exprs.proofs.Made.{in_dur}
use Rattle.parse_exprs.proofs.MadeExpr.{KS, made, stopped}
use Rattle.parse_exprs.proofs.Steps.{deepened, inside, no_base, no_name, no_sign, onward, past_base}
use Rattle.parse_exprs.proofs.Steps.{past_name, past_sign, stops_inside, stops_onward}
use Rattle.ck_syntax.specs.Tree as t
use Rattle.ck_syntax.specs.Tree.{Expr, Exprs, expr_line, no_exprs}
use Rattle.ck_syntax.specs.declared.declaration.Base.{Base}
use Rattle.ck_syntax.specs.declared.declaration.TypeName.{TypeName}
use Rattle.ck_syntax.specs.declared.operator.BinaryOp.{BinaryOp}
use Rattle.ck_syntax.specs.declared.operator.PostfixOp.{PostfixOp}
use Rattle.ck_syntax.specs.declared.operator.PrefixOp.{PrefixOp}

-- ---- a Primary

abbrev paren_rest : ℕ → ℕ → K2 → Expr → State
paren_rest d l k y = calls d (t.paren l y) k

abbrev array_rest : ℕ → ℕ → K2 → Exprs → State
array_rest d l k y = calls d (t.array l y) k

pub paren_fault : {ts a : List Token} {s : Start} (d l c : ℕ) (e : Fault)
    → Leads (λ (k : K2). postfix d k) (λ k. started d l s k) ts a → s ≡ start.Paren c → StopsAt
    (λ (k : K1). closed c (a_mark m.RightParen) k) a e → StopsAt (λ (k : K2). postfix d k) ts e
paren_fault {ts = ts} {a = a} d l c e p h r = stopped
    (λ (k : K1). closed c (a_mark m.RightParen) k) (paren_rest d l) e
    (subst (λ s. Leads (λ (k : K2). postfix d k) (λ k. started d l s k) ts a) h p) r

pub paren_made : {ts a b : List Token} {s : Start} {y z : Expr} (d l c : ℕ)
    → Leads (λ (k : K2). postfix d k) (λ k. started d l s k) ts a → s ≡ start.Paren c
    → Leads (λ (k : K1). closed c (a_mark m.RightParen) k) (λ k. k y) a b → z ≡ t.paren l y
    → Leads (λ (k : K2). postfix d k) (λ k. calls d z k) ts b
paren_made {ts = ts} {a = a} {b = b} {y = y} d l c p h r e =
    subst (λ z. Leads (λ (k : K2). postfix d k) (λ k. calls d z k) ts b) (sym e)
    (made (λ (k : K1). closed c (a_mark m.RightParen) k) (λ k. k y) (paren_rest d l)
    (subst (λ s. Leads (λ (k : K2). postfix d k) (λ k. started d l s k) ts a) h p) r)

pub array_fault : {ts a : List Token} {s : Start} (d l c : ℕ) (e : Fault)
    → Leads (λ (k : K2). postfix d k) (λ k. started d l s k) ts a → s ≡ start.Array c
    → StopsAt (λ (k : KS). all_closed c (a_mark m.RightBracket) k) a e
    → StopsAt (λ (k : K2). postfix d k) ts e
array_fault {ts = ts} {a = a} d l c e p h r = stopped
    (λ (k : KS). all_closed c (a_mark m.RightBracket) k) (array_rest d l) e
    (subst (λ s. Leads (λ (k : K2). postfix d k) (λ k. started d l s k) ts a) h p) r

pub array_made : {ts a b : List Token} {s : Start} {y : Exprs} {z : Expr} (d l c : ℕ)
    → Leads (λ (k : K2). postfix d k) (λ k. started d l s k) ts a → s ≡ start.Array c
    → Leads (λ (k : KS). all_closed c (a_mark m.RightBracket) k) (λ k. k y) a b
    → z ≡ t.array l y → Leads (λ (k : K2). postfix d k) (λ k. calls d z k) ts b
array_made {ts = ts} {a = a} {b = b} {y = y} d l c p h r e =
    subst (λ z. Leads (λ (k : K2). postfix d k) (λ k. calls d z k) ts b) (sym e)
    (made (λ (k : KS). all_closed c (a_mark m.RightBracket) k) (λ k. k y) (array_rest d l)
    (subst (λ s. Leads (λ (k : K2). postfix d k) (λ k. started d l s k) ts a) h p) r)

pub atom_made : {ts a : List Token} {s : Start} (d l : ℕ) (e : _)
    → Leads (λ (k : K2). postfix d k) (λ k. started d l s k) ts a → s ≡ start.Atom e
    → Leads (λ (k : K2). postfix d k) (λ k. started d l (start.Atom e) k) ts a
atom_made {ts = ts} {a = a} d l e p h =
    subst (λ s. Leads (λ (k : K2). postfix d k) (λ k. started d l s k) ts a) h p

-- ---- what goes on with a Postfix

abbrev call_rest : ℕ → Expr → K2 → Exprs → State
call_rest d y k es = calls d (t.call (expr_line y) y es) k

abbrev index_rest : ℕ → Expr → K2 → Expr → State
index_rest d y k i = calls d (t.index (expr_line y) y i) k

abbrev member_rest : ℕ → Expr → K2 → t.Name → State
member_rest d y k n = calls d (t.member (expr_line y) y n) k

-- the same for a suffix that is known by an equation
stops_as : {s q : Suffix} (ts : List Token) (d : ℕ) (y : Expr) (e : Fault) → s ≡ q
    → StopsAt (λ (k : K2). suffixed q d y k) ts e → StopsAt (λ (k : K2). suffixed s d y k) ts e
stops_as ts d y e h r = subst (λ s. StopsAt (λ (k : K2). suffixed s d y k) ts e) (sym h) r

leads_as : {s q : Suffix} {ts a : List Token} {x z : Expr} (d : ℕ) (y : Expr) → s ≡ q → z ≡ x
    → Leads (λ (k : K2). suffixed q d y k) (λ k. calls d x k) ts a
    → Leads (λ (k : K2). suffixed s d y k) (λ k. calls d z k) ts a
leads_as {s = s} {ts = ts} {a = a} {x = x} d y h e r = subst
    (λ z. Leads (λ (k : K2). suffixed s d y k) (λ k. calls d z k) ts a) (sym e)
    (subst (λ s. Leads (λ (k : K2). suffixed s d y k) (λ k. calls d x k) ts a) (sym h) r)

pub call_fault : {s : Suffix} (ts : List Token) (d : ℕ) (y : Expr) (e : Fault) → s ≡ suffix.Call
    → StopsAt (λ (k : KS). arguments d k) ts e → StopsAt (λ (k : K2). suffixed s d y k) ts e
call_fault ts d y e h r =
    stops_as ts d y e h (stops_inside (λ (k : KS). arguments d k) ts (call_rest d y) e r)

pub call_made : {s : Suffix} {ts a : List Token} {es : Exprs} {z : Expr} (d : ℕ) (y : Expr)
    → s ≡ suffix.Call → Leads (λ (k : KS). arguments d k) (λ k. k es) ts a → z
    ≡ t.call (expr_line y) y es → Leads (λ (k : K2). suffixed s d y k) (λ k. calls d z k) ts a
call_made d y h r e = leads_as d y h e (inside (call_rest d y) r)

pub index_fault : {s : Suffix} (ts : List Token) (d : ℕ) (y : Expr) (e : Fault)
    → s ≡ suffix.Index → StopsAt (λ (k : K1). closed d (a_mark m.RightBracket) k) ts e
    → StopsAt (λ (k : K2). suffixed s d y k) ts e
index_fault ts d y e h r = stops_as ts d y e h
    (stops_inside (λ (k : K1). closed d (a_mark m.RightBracket) k) ts (index_rest d y) e r)

pub index_made : {s : Suffix} {ts a : List Token} {i z : Expr} (d : ℕ) (y : Expr)
    → s ≡ suffix.Index → Leads (λ (k : K1). closed d (a_mark m.RightBracket) k) (λ k. k i) ts a
    → z ≡ t.index (expr_line y) y i
    → Leads (λ (k : K2). suffixed s d y k) (λ k. calls d z k) ts a
index_made d y h r e = leads_as d y h e (inside (index_rest d y) r)

pub member_fault : {s : Suffix} (ts : List Token) (d : ℕ) (y : Expr) (e : Fault)
    → s ≡ suffix.Member → NoName ts e → StopsAt (λ (k : K2). suffixed s d y k) ts e
member_fault ts d y e h r = stops_as ts d y e h (no_name ts d (member_rest d y) e r)

pub member_made : {s : Suffix} {ts a : List Token} {n : t.Name} {z : Expr} (d : ℕ) (y : Expr)
    → s ≡ suffix.Member → Then (Name n) ts a → d ≤ MAX_NESTING → z ≡ t.member (expr_line y) y n
    → Leads (λ (k : K2). suffixed s d y k) (λ k. calls d z k) ts a
member_made d y h r i e = leads_as d y h e (past_name d (member_rest d y) r i)

pub postfix_made : {s : Suffix} {ts : List Token} {o : PostfixOp} {z : Expr} (d : ℕ) (y : Expr)
    → s ≡ suffix.Postfix o → z ≡ t.postfix (expr_line y) y o
    → Leads (λ (k : K2). suffixed s d y k) (λ k. calls d z k) ts ts
postfix_made d y h e = leads_as d y h e (record { by = λ k. refl })

pub suffix_fault : {ts a b : List Token} {y : Expr} (d c e : ℕ) (s : Suffix) (f : Fault)
    → Leads (λ (k : K2). postfix d k) (λ k. calls c y k) ts a
    → Leads (λ (k : K2). calls c y k) (λ k. suffixed s e y k) a b
    → StopsAt (λ (k : K2). suffixed s e y k) b f → StopsAt (λ (k : K2). postfix d k) ts f
suffix_fault d c e s f l p r = stops_onward f (onward l p) r

-- ---- a Dur

abbrev durs_of : K2 → K2
durs_of k e c = durs c e k

abbrev dur_rest : Expr → K2 → K2
dur_rest y k u c = durs c (t.dur (expr_line y) y u) k

pub dur_none : (ts : List Token) (d : ℕ) (e : Fault) → StopsAt (λ (k : K2). postfix d k) ts e
    → StopsAt (λ (k : K2). a_dur d k) ts e
dur_none ts d e r = stops_inside (λ (k : K2). postfix d k) ts durs_of e r

pub dur_first : {ts a : List Token} {y : Expr} (d c : ℕ) → Leads (λ (k : K2). postfix d k)
    (λ k. k y c) ts a → Leads (λ (k : K2). a_dur d k) (λ k. durs c y k) ts a
dur_first d c r = inside durs_of r

pub dur_deep : {ts a : List Token} {y : Expr} (d c : ℕ) (e : Fault)
    → Leads (λ (k : K2). a_dur d k) (λ k. durs c y k) ts a → (rest : List Token) × Then
    (Mark m.ColonColon) a rest × Deepens c a (Err e) → StopsAt (λ (k : K2). a_dur d k) ts e
dur_deep {y = y} d c e l (b, q, i) = stops_onward e l
    (deepened (λ (k : K2). durs c y k) (λ k. postfix (suc c) (dur_rest y k)) c e q i
    (λ l a k. refl))

pub unit_fault : {ts a b : List Token} {y : Expr} (d c g : ℕ) (e : Fault)
    → Leads (λ (k : K2). a_dur d k) (λ k. durs c y k) ts a → Then (Mark m.ColonColon) a b
    → g ≡ suc c → g ≤ MAX_NESTING → StopsAt (λ (k : K2). postfix g k) b e
    → StopsAt (λ (k : K2). a_dur d k) ts e
unit_fault {y = y} d c g e l q p i r =
    stopped (λ (k : K2). postfix g k) (dur_rest y) e (onward l (in_dur c g q p i)) r

pub dur_made : {ts a b r : List Token} {y u z : Expr} (d c g h : ℕ)
    → Leads (λ (k : K2). a_dur d k) (λ k. durs c y k) ts a → Then (Mark m.ColonColon) a b
    → g ≡ suc c → g ≤ MAX_NESTING → Leads (λ (k : K2). postfix g k) (λ k. k u h) b r
    → z ≡ t.dur (expr_line y) y u → Leads (λ (k : K2). a_dur d k) (λ k. durs h z k) ts r
dur_made {ts = ts} {r = r} {y = y} {u = u} d c g h l q p i j e = subst
    (λ z. Leads (λ (k : K2). a_dur d k) (λ k. durs h z k) ts r) (sym e)
    (made (λ (k : K2). postfix g k) (λ k. k u h) (dur_rest y) (onward l (in_dur c g q p i)) j)

pub dur_end : {ts a : List Token} {y : Expr} (d c : ℕ)
    → Leads (λ (k : K2). a_dur d k) (λ k. durs c y k) ts a → has (a_mark m.ColonColon) a ≡ false
    → Leads (λ (k : K2). a_dur d k) (λ k. k y c) ts a
dur_end {a = a} {y = y} d c l h = onward l (durs_over a c y h)

-- ---- a Unary

abbrev prefix_rest : ℕ → PrefixOp → K2 → K2
prefix_rest l o k e c = k (t.prefix l o e) c

abbrev new_end : ℕ → K2 → K1
new_end d k e = k e d

abbrev spork_rest : ℕ → K2 → K2
spork_rest l k e c = k (t.spork l e) c

lead_stops_as : {s q : Lead} (ts : List Token) (d l : ℕ) (e : Fault) → s ≡ q
    → StopsAt (λ (k : K2). led q d l k) ts e → StopsAt (λ (k : K2). led s d l k) ts e
lead_stops_as ts d l e h r = subst (λ s. StopsAt (λ (k : K2). led s d l k) ts e) (sym h) r

lead_leads_as : {s q : Lead} {ts a : List Token} {x z : Expr} (d l c : ℕ) → s ≡ q → z ≡ x
    → Leads (λ (k : K2). led q d l k) (λ k. k x c) ts a
    → Leads (λ (k : K2). led s d l k) (λ k. k z c) ts a
lead_leads_as {s = s} {ts = ts} {a = a} {x = x} d l c h e r = subst
    (λ z. Leads (λ (k : K2). led s d l k) (λ k. k z c) ts a) (sym e)
    (subst (λ s. Leads (λ (k : K2). led s d l k) (λ k. k x c) ts a) (sym h) r)

pub prefix_fault : {s : Lead} (ts : List Token) (d l : ℕ) (o : PrefixOp) (e : Fault)
    → s ≡ lead.Prefix o → StopsAt (λ (k : K2). unary d k) ts e
    → StopsAt (λ (k : K2). led s d l k) ts e
prefix_fault ts d l o e h r =
    lead_stops_as ts d l e h (stops_inside (λ (k : K2). unary d k) ts (prefix_rest l o) e r)

pub prefix_made : {s : Lead} {ts a : List Token} {y z : Expr} (d l c : ℕ) (o : PrefixOp)
    → s ≡ lead.Prefix o → Leads (λ (k : K2). unary d k) (λ k. k y c) ts a → z ≡ t.prefix l o y
    → Leads (λ (k : K2). led s d l k) (λ k. k z c) ts a
prefix_made d l c o h r e = lead_leads_as d l c h e (inside (prefix_rest l o) r)

pub new_base_fault : {s : Lead} (ts : List Token) (d l : ℕ) (e : Fault) → s ≡ lead.New
    → NoBase ts e → StopsAt (λ (k : K2). led s d l k) ts e
new_base_fault ts d l e h r = lead_stops_as ts d l e h
    (no_base ts d (λ (k : K2) b. new_rest d l b (new_end d k)) e r)

in_new : {b : Base} (ts a : List Token) (d l : ℕ) → IsBaseAt ts b a → d ≤ MAX_NESTING
    → Leads (λ (k : K2). led lead.New d l k) (λ k. new_rest d l b (new_end d k)) ts a
in_new ts a d l r i = past_base d (λ (k : K2) b. new_rest d l b (new_end d k)) r i

pub object_fault : {s : Lead} {b : Base} (ts a : List Token) (d l : ℕ) (e : Fault)
    → s ≡ lead.New → IsBaseAt ts b a → d ≤ MAX_NESTING
    → StopsAt (λ (k : K1). new_rest d l b k) a e → StopsAt (λ (k : K2). led s d l k) ts e
object_fault {b = b} ts a d l e h q i r = lead_stops_as ts d l e h
    (stopped (λ (k : K1). new_rest d l b k) (new_end d) e (in_new ts a d l q i) r)

pub new_made : {s : Lead} {ts a c : List Token} {b : Base} {z : Expr} (d l : ℕ)
    → s ≡ lead.New → IsBaseAt ts b a → d ≤ MAX_NESTING
    → Leads (λ (k : K1). new_rest d l b k) (λ k. k z) a c
    → Leads (λ (k : K2). led s d l k) (λ k. k z d) ts c
new_made {ts = ts} {a = a} {b = b} {z = z} d l h q i r = lead_leads_as d l d h refl
    (made (λ (k : K1). new_rest d l b k) (λ k. k z) (new_end d) (in_new ts a d l q i) r)

pub no_tilde : {s : Lead} (ts : List Token) (d l : ℕ) (e : Fault) → s ≡ lead.Spork
    → Missing (a_mark m.Tilde) ts e → StopsAt (λ (k : K2). led s d l k) ts e
no_tilde ts d l e h r = lead_stops_as ts d l e h
    (no_sign ts (a_mark m.Tilde) d (λ (k : K2). postfix d (spork_rest l k)) e r)

in_spork : {ts a : List Token} (d l : ℕ) → Then (Mark m.Tilde) ts a → d ≤ MAX_NESTING
    → Leads (λ (k : K2). led lead.Spork d l k) (λ k. postfix d (spork_rest l k)) ts a
in_spork d l q i = past_sign (a_mark m.Tilde) d (λ (k : K2). postfix d (spork_rest l k)) q i

pub spork_fault : {s : Lead} {ts a : List Token} (d l : ℕ) (e : Fault) → s ≡ lead.Spork
    → Then (Mark m.Tilde) ts a → d ≤ MAX_NESTING → StopsAt (λ (k : K2). postfix d k) a e
    → StopsAt (λ (k : K2). led s d l k) ts e
spork_fault {ts = ts} d l e h q i r = lead_stops_as ts d l e h
    (stopped (λ (k : K2). postfix d k) (spork_rest l) e (in_spork d l q i) r)

pub spork_made : {s : Lead} {ts a b : List Token} {y z : Expr} (d l c : ℕ) → s ≡ lead.Spork
    → Then (Mark m.Tilde) ts a → d ≤ MAX_NESTING → Leads (λ (k : K2). postfix d k) (λ k. k y c)
    a b → z ≡ t.spork l y → Leads (λ (k : K2). led s d l k) (λ k. k z c) ts b
spork_made {y = y} d l c h q i r e = lead_leads_as d l c h e
    (made (λ (k : K2). postfix d k) (λ k. k y c) (spork_rest l) (in_spork d l q i) r)

-- ---- a Cast

abbrev casts_of : K2 → K2
casts_of k e c = casts c e k

abbrev cast_rest : ℕ → Expr → K2 → TypeName → State
cast_rest d y k u = casts d (t.cast (expr_line y) y u) k

abbrev KT : Type 0
KT = TypeName → State

pub cast_none : (ts : List Token) (d : ℕ) (e : Fault) → StopsAt (λ (k : K2). unary d k) ts e
    → StopsAt (λ (k : K2). a_level 0 d k) ts e
cast_none ts d e r = stops_inside (λ (k : K2). unary d k) ts casts_of e r

pub cast_first : {ts a : List Token} {y : Expr} (d c : ℕ) → Leads (λ (k : K2). unary d k)
    (λ k. k y c) ts a → Leads (λ (k : K2). a_level 0 d k) (λ k. casts c y k) ts a
cast_first d c r = inside casts_of r

pub cast_deep : {ts a : List Token} {y : Expr} (d c : ℕ) (e : Fault)
    → Leads (λ (k : K2). a_level 0 d k) (λ k. casts c y k) ts a → (rest : List Token) × Then
    (Mark m.Dollar) a rest × Deepens c a (Err e) → StopsAt (λ (k : K2). a_level 0 d k) ts e
cast_deep {y = y} d c e l (b, q, i) = stops_onward e l
    (deepened (λ (k : K2). casts c y k) (λ k. a_type (suc c) (cast_rest (suc c) y k)) c e q i
    (λ l a k. refl))

pub target_fault : {ts a b : List Token} {y : Expr} (d c g : ℕ) (e : Fault)
    → Leads (λ (k : K2). a_level 0 d k) (λ k. casts c y k) ts a → Then (Mark m.Dollar) a b
    → g ≡ suc c → g ≤ MAX_NESTING → StopsAt (λ (k : KT). a_type g k) b e
    → StopsAt (λ (k : K2). a_level 0 d k) ts e
target_fault {y = y} d c g e l q p i r =
    stopped (λ (k : KT). a_type g k) (cast_rest g y) e (onward l (in_cast c g q p i)) r

pub cast_made : {ts a b r : List Token} {y z : Expr} {u : TypeName} (d c g : ℕ)
    → Leads (λ (k : K2). a_level 0 d k) (λ k. casts c y k) ts a → Then (Mark m.Dollar) a b
    → g ≡ suc c → g ≤ MAX_NESTING → Leads (λ (k : KT). a_type g k) (λ k. k u) b r
    → z ≡ t.cast (expr_line y) y u → Leads (λ (k : K2). a_level 0 d k) (λ k. casts g z k) ts r
cast_made {ts = ts} {r = r} {y = y} {u = u} d c g l q p i j e = subst
    (λ z. Leads (λ (k : K2). a_level 0 d k) (λ k. casts g z k) ts r) (sym e)
    (made (λ (k : KT). a_type g k) (λ k. k u) (cast_rest g y) (onward l (in_cast c g q p i)) j)

pub cast_end : {ts a : List Token} {y : Expr} (d c : ℕ)
    → Leads (λ (k : K2). a_level 0 d k) (λ k. casts c y k) ts a
    → has (a_mark m.Dollar) a ≡ false → Leads (λ (k : K2). a_level 0 d k) (λ k. k y c) ts a
cast_end {a = a} {y = y} d c l h = onward l (casts_over a c y h)

-- ---- a binary level

abbrev joins_of : ℕ → K2 → K2
joins_of n k e c = joins n c e k

abbrev binary_rest : ℕ → Expr → BinaryOp → K2 → K2
binary_rest n y o k g c = joins n c (t.binary (expr_line y) y o g) k

pub level_first : {ts a : List Token} {y : Expr} (n q d c : ℕ) → n ≡ suc q
    → Leads (λ (k : K2). a_level q d k) (λ k. k y c) ts a
    → Leads (λ (k : K2). a_level n d k) (λ k. joins q c y k) ts a
level_first {ts = ts} {a = a} {y = y} n q d c h r = subst
    (λ n. Leads (λ (k : K2). a_level n d k) (λ k. joins q c y k) ts a) (sym h)
    (inside (joins_of q) r)

pub level_none : (ts : List Token) (n q d : ℕ) (e : Fault) → n ≡ suc q
    → StopsAt (λ (k : K2). a_level q d k) ts e → StopsAt (λ (k : K2). a_level n d k) ts e
level_none ts n q d e h r = subst (λ n. StopsAt (λ (k : K2). a_level n d k) ts e) (sym h)
    (stops_inside (λ (k : K2). a_level q d k) ts (joins_of q) e r)

pub right_fault : {ts a b : List Token} {y : Expr} (n q d c g : ℕ) (o : BinaryOp) (e : Fault)
    → Leads (λ (k : K2). a_level n d k) (λ k. joins q c y k) ts a
    → Leads (λ (k : K2). joins q c y k) (λ k. a_level q g (binary_rest q y o k)) a b
    → StopsAt (λ (k : K2). a_level q g k) b e → StopsAt (λ (k : K2). a_level n d k) ts e
right_fault {y = y} n q d c g o e l p r =
    stopped (λ (k : K2). a_level q g k) (binary_rest q y o) e (onward l p) r

pub binary_made : {ts a b r : List Token} {y x z : Expr} (n q d c g h : ℕ) (o : BinaryOp)
    → Leads (λ (k : K2). a_level n d k) (λ k. joins q c y k) ts a
    → Leads (λ (k : K2). joins q c y k) (λ k. a_level q g (binary_rest q y o k)) a b
    → Leads (λ (k : K2). a_level q g k) (λ k. k x h) b r → z ≡ t.binary (expr_line y) y o x
    → Leads (λ (k : K2). a_level n d k) (λ k. joins q h z k) ts r
binary_made {ts = ts} {r = r} {y = y} {x = x} n q d c g h o l p j e = subst
    (λ z. Leads (λ (k : K2). a_level n d k) (λ k. joins q h z k) ts r) (sym e)
    (made (λ (k : K2). a_level q g k) (λ k. k x h) (binary_rest q y o) (onward l p) j)

-- ---- a Cond

abbrev asks_of : K2 → K2
asks_of k e c = asks c e k

abbrev choice_of : Expr → Expr → K2 → K2
choice_of y x k z c = k (t.choice (expr_line y) y x z) c

abbrev then_rest : ℕ → Expr → K2 → Expr → State
then_rest d y k x = a_cond d (choice_of y x k)

pub cond_none : (ts : List Token) (d : ℕ) (e : Fault)
    → StopsAt (λ (k : K2). a_level 10 d k) ts e → StopsAt (λ (k : K2). a_cond d k) ts e
cond_none ts d e r = stops_inside (λ (k : K2). a_level 10 d k) ts asks_of e r

cond_first : {ts a : List Token} {y : Expr} (d c : ℕ) → Leads (λ (k : K2). a_level 10 d k)
    (λ k. k y c) ts a → Leads (λ (k : K2). a_cond d k) (λ k. asks c y k) ts a
cond_first d c r = inside asks_of r

pub cond_deep : {ts a : List Token} {y : Expr} (d c : ℕ) (e : Fault)
    → Leads (λ (k : K2). a_level 10 d k) (λ k. k y c) ts a → (rest : List Token) × Then
    (Mark m.Question) a rest × Deepens c a (Err e) → StopsAt (λ (k : K2). a_cond d k) ts e
cond_deep {y = y} d c e l (b, q, i) = stops_onward e (cond_first d c l)
    (deepened (λ (k : K2). asks c y k) (λ k.
    closed (suc c) (a_mark m.Colon) (then_rest (suc c) y k)) c e q i (λ l a k. refl))

in_then : {ts a b : List Token} {y : Expr} (d c g : ℕ)
    → Leads (λ (k : K2). a_level 10 d k) (λ k. k y c) ts a → Then (Mark m.Question) a b
    → g ≡ suc c → g ≤ MAX_NESTING
    → Leads (λ (k : K2). a_cond d k) (λ k. closed g (a_mark m.Colon) (then_rest g y k)) ts b
in_then d c g l q p i = onward (cond_first d c l) (in_choice c g q p i)

pub then_fault : {ts a b : List Token} {y : Expr} (d c g : ℕ) (e : Fault)
    → Leads (λ (k : K2). a_level 10 d k) (λ k. k y c) ts a → Then (Mark m.Question) a b
    → g ≡ suc c → g ≤ MAX_NESTING → StopsAt (λ (k : K1). closed g (a_mark m.Colon) k) b e
    → StopsAt (λ (k : K2). a_cond d k) ts e
then_fault {y = y} d c g e l q p i r = stopped (λ (k : K1). closed g (a_mark m.Colon) k)
    (then_rest g y) e (in_then d c g l q p i) r

in_otherwise : {ts a b u : List Token} {y x : Expr} (d c g : ℕ)
    → Leads (λ (k : K2). a_level 10 d k) (λ k. k y c) ts a → Then (Mark m.Question) a b
    → g ≡ suc c → g ≤ MAX_NESTING → Leads (λ (k : K1). closed g (a_mark m.Colon) k) (λ k. k x) b
    u → Leads (λ (k : K2). a_cond d k) (λ k. a_cond g (choice_of y x k)) ts u
in_otherwise {y = y} {x = x} d c g l q p i r = made (λ (k : K1). closed g (a_mark m.Colon) k)
    (λ k. k x) (then_rest g y) (in_then d c g l q p i) r

pub otherwise_fault : {ts a b u : List Token} {y x : Expr} (d c g : ℕ) (e : Fault)
    → Leads (λ (k : K2). a_level 10 d k) (λ k. k y c) ts a → Then (Mark m.Question) a b
    → g ≡ suc c → g ≤ MAX_NESTING → Leads (λ (k : K1). closed g (a_mark m.Colon) k) (λ k. k x) b
    u → StopsAt (λ (k : K2). a_cond g k) u e → StopsAt (λ (k : K2). a_cond d k) ts e
otherwise_fault {y = y} {x = x} d c g e l q p i r j =
    stopped (λ (k : K2). a_cond g k) (choice_of y x) e (in_otherwise d c g l q p i r) j

pub choice_made : {ts a b u v : List Token} {y x w z : Expr} (d c g h : ℕ)
    → Leads (λ (k : K2). a_level 10 d k) (λ k. k y c) ts a → Then (Mark m.Question) a b
    → g ≡ suc c → g ≤ MAX_NESTING → Leads (λ (k : K1). closed g (a_mark m.Colon) k) (λ k. k x) b
    u → Leads (λ (k : K2). a_cond g k) (λ k. k w h) u v → z ≡ t.choice (expr_line y) y x w
    → Leads (λ (k : K2). a_cond d k) (λ k. k z h) ts v
choice_made {ts = ts} {v = v} {y = y} {x = x} {w = w} d c g h l q p i r j e = subst
    (λ z. Leads (λ (k : K2). a_cond d k) (λ k. k z h) ts v) (sym e)
    (made (λ (k : K2). a_cond g k) (λ k. k w h) (choice_of y x) (in_otherwise d c g l q p i r)
    j)

pub cond_end : {ts a : List Token} {y : Expr} (d c : ℕ)
    → Leads (λ (k : K2). a_level 10 d k) (λ k. k y c) ts a → has (a_mark m.Question) a ≡ false
    → Leads (λ (k : K2). a_cond d k) (λ k. k y c) ts a
cond_end {a = a} {y = y} d c l h = onward (cond_first d c l) (asks_over a c y h)
