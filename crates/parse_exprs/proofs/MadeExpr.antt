-- What the machine makes of an expression where its parts were read.
use Rattle.std.proofs.Common.{◌≡◌, ℕ, suc, ◌≤◌, List, false, Option, Some, None, Result, Ok, Err}
use Rattle.std.proofs.Common.{refl, sym, ◌∙◌, ap, subst}
use Rattle.ck_base.specs.declared.limits.TheConstants.{MAX_NESTING}
use Rattle.ck_lexer.specs.declared.mark.Mark.TheVariants as m
use Rattle.ck_lexer.specs.declared.token.Token.{Token}
use Rattle.ck_lexer.specs.declared.token.TokenKind.TheVariants.{Mark, Name}
use Rattle.parse_exprs.specs.declared.fault.Fault.{Fault}
use Rattle.parse_exprs.specs.declared.operand.Operand.{Operand}
use Rattle.parse_exprs.specs.Machine.{State, left, sign, may, chucks, brackets, sizes, a_cond, a_declr}
use Rattle.parse_exprs.specs.Machine.{an_expr, some_exprs, arguments, declr_rest, new_rest}
use Rattle.parse_exprs.specs.Operands.{Behind, all_closed, bracketed, closed}
use Rattle.parse_exprs.specs.Operands.{either_way, named_from, operand_from, operand_next, optional}
use Rattle.parse_exprs.specs.Reads.{Leads, Reads, StopsAt, Missing, Deepens, NoName}
use Rattle.parse_exprs.specs.Tokens.{Then, Sign, a_mark, kind_of, has}
use Rattle.parse_exprs.proofs.Made.{K1, K2, brackets_over, in_bracket, in_size, may_come, may_not}
use Rattle.parse_exprs.proofs.Made.{sizes_over}
use Rattle.parse_exprs.proofs.Steps.{deepened, inside, no_name, no_sign, onward, past_name}
use Rattle.parse_exprs.proofs.Steps.{past_sign, stops_inside, stops_onward, token}
use Rattle.ck_syntax.specs.Tree as t
use Rattle.ck_syntax.specs.Tree.{Expr, Exprs, Brackets, Declr, declr, expr_line, no_brackets}
use Rattle.ck_syntax.specs.Tree.{no_exprs, and_expr}
use Rattle.ck_syntax.specs.declared.declaration.Base.{Base}
use Rattle.ck_syntax.specs.declared.declaration.DeclHead.{DeclHead}
use Rattle.ck_syntax.specs.declared.operator.ChuckOp.{ChuckOp}

abbrev pub KS : Type 0
KS = Exprs → State

pub here : {K : Type 0} (S : K → State) (ts : List Token) → Leads S S ts ts
here S ts = record { by = λ k. refl }

-- a part in a larger one stopped
pub stopped : {K J : Type 0} {S : K → State} {a b : List Token} (A : J → State) (f : K → J)
    (e : Fault) → Leads S (λ k. A (f k)) a b → StopsAt A b e → StopsAt S a e
stopped {b = b} A f e p q = stops_onward e p (stops_inside A b f e q)

-- it was read
pub made : {K J : Type 0} {S : K → State} {a b c : List Token} (A B : J → State) (f : K → J)
    → Leads S (λ k. A (f k)) a b → Leads A B b c → Leads S (λ k. B (f k)) a c
made A B f p q = onward p (inside f q)

-- what was read behind where S leads
pub then_reads : {K X : Type 0} (S U : K → State) (T : X → K → State) (rest : X → List Token)
    (a b : List Token) (r : Result X Fault) → Leads S U a b → Reads U T rest b r
    → Reads S T rest a r
then_reads S U T rest a b (Ok x) l h = onward l h
then_reads S U T rest a b (Err e) l h = stops_onward e l h

-- ---- an operand that serves as an expression

as_expr : {K : Type 0} {S : K → State} {ts a b : List Token} (o : Operand) (d c : ℕ) (y : Expr)
    (f : K → K2) → Leads S (λ k. operand_from d (either_way d (f k))) ts a
    → Leads (λ (h : Behind). operand_from d h) (λ (h : Behind). operand_next o h) a b
    → ((g : K2) → operand_next o (either_way d g) ≡ g y c) → Leads S (λ k. f k y c) ts b
as_expr {b = b} o d c y f p r q =
    record { by = λ k. p.by k ∙ r.by (either_way d (f k)) ∙ ap (left b) (q (f k)) }

abbrev whole : K1 → K2
whole k e c = chucks c e k

pub expr_none : (ts : List Token) (d : ℕ) (e : Fault)
    → StopsAt (λ (h : Behind). operand_from d h) ts e → StopsAt (λ (k : K1). an_expr d k) ts e
expr_none ts d e r =
    stops_inside (λ (h : Behind). operand_from d h) ts (λ (k : K1). either_way d (whole k)) e r

pub expr_first : (ts b : List Token) (o : Operand) (d c : ℕ) (y : Expr)
    → Leads (λ (h : Behind). operand_from d h) (λ (h : Behind). operand_next o h) ts b
    → ((g : K2) → operand_next o (either_way d g) ≡ g y c)
    → Leads (λ (k : K1). an_expr d k) (λ k. chucks c y k) ts b
expr_first ts b o d c y r q = as_expr o d c y whole (here (λ (k : K1). an_expr d k) ts) r q

-- ---- chuck operators

abbrev chucked : Expr → ChuckOp → K1 → K2
chucked y o k g c = chucks c (t.chuck (expr_line y) y o g) k

pub chuck_none : {ts a b : List Token} {x y : Expr} (d c e : ℕ) (o : ChuckOp) (f : Fault)
    → Leads (λ (k : K1). chucks d x k) (λ k. chucks c y k) ts a
    → Leads (λ (k : K1). chucks c y k) (λ k. operand_from e (either_way e (chucked y o k))) a b
    → StopsAt (λ (h : Behind). operand_from e h) b f → StopsAt (λ (k : K1). chucks d x k) ts f
chuck_none {y = y} d c e o f l p r = stopped (λ (h : Behind). operand_from e h)
    (λ (k : K1). either_way e (chucked y o k)) f (onward l p) r

pub made_chuck : {ts a b r : List Token} {x y z w : Expr} (d c e g : ℕ) (o : ChuckOp)
    (n : Operand) → Leads (λ (k : K1). chucks d x k) (λ k. chucks c y k) ts a
    → Leads (λ (k : K1). chucks c y k) (λ k. operand_from e (either_way e (chucked y o k))) a b
    → Leads (λ (h : Behind). operand_from e h) (λ (h : Behind). operand_next n h) b r
    → ((j : K2) → operand_next n (either_way e j) ≡ j z g) → w ≡ t.chuck (expr_line y) y o z
    → Leads (λ (k : K1). chucks d x k) (λ k. chucks g w k) ts r
made_chuck {ts = ts} {r = b} {x = x} {y = y} {z = z} d c e g o n l p r q h = subst
    (λ w. Leads (λ (k : K1). chucks d x k) (λ k. chucks g w k) ts b) (sym h)
    (as_expr n e g z (chucked y o) (onward l p) r q)

-- ---- declarators

abbrev pub KD : Type 0
KD = Declr → State

abbrev declared_rest : ℕ → DeclHead → Behind → KD
declared_rest l head h x = h.declaration l head x

pub tail_fault : {ts a : List Token} (d l : ℕ) (head : DeclHead) (n : t.Name) (e : Fault)
    → Leads (λ (h : Behind). operand_from d h) (λ h. named_from d l head n h) ts a
    → StopsAt (λ (k : KD). declr_rest d n k) a e → StopsAt (λ (h : Behind). operand_from d h) ts e
tail_fault d l head n e p r =
    stopped (λ (k : KD). declr_rest d n k) (declared_rest l head) e p r

pub made_declaration : {ts a b : List Token} {x : Declr} (d l : ℕ) (head : DeclHead)
    (n : t.Name) → Leads (λ (h : Behind). operand_from d h) (λ h. named_from d l head n h) ts a
    → Leads (λ (k : KD). declr_rest d n k) (λ k. k x) a b
    → Leads (λ (h : Behind). operand_from d h) (λ h. h.declaration l head x) ts b
made_declaration {x = x} d l head n p r =
    made (λ (k : KD). declr_rest d n k) (λ k. k x) (declared_rest l head) p r

pub value_fault : {ts : List Token} (d : ℕ) (e : Fault)
    → Leads (λ (h : Behind). operand_from d h) (λ h. a_cond d h.value) ts ts
    → StopsAt (λ (k : K2). a_cond d k) ts e → StopsAt (λ (h : Behind). operand_from d h) ts e
value_fault d e p r = stopped (λ (k : K2). a_cond d k) (λ h. h.value) e p r

pub made_value : {ts a : List Token} {y : Expr} (d c : ℕ)
    → Leads (λ (h : Behind). operand_from d h) (λ h. a_cond d h.value) ts ts
    → Leads (λ (k : K2). a_cond d k) (λ k. k y c) ts a
    → Leads (λ (h : Behind). operand_from d h) (λ h. h.value y c) ts a
made_value {y = y} d c p r = made (λ (k : K2). a_cond d k) (λ k. k y c) (λ h. h.value) p r

pub no_declr_name : (ts : List Token) (d : ℕ) (e : Fault) → NoName ts e
    → StopsAt (λ (k : KD). a_declr d k) ts e
no_declr_name ts d e h = no_name ts d (λ (k : KD) n. declr_rest d n k) e h

in_declr : {ts a : List Token} {n : t.Name} (d : ℕ) → Then (Name n) ts a → d ≤ MAX_NESTING
    → Leads (λ (k : KD). a_declr d k) (λ k. declr_rest d n k) ts a
in_declr d h i = past_name d (λ (k : KD) n. declr_rest d n k) h i

pub declr_fault : {ts a : List Token} {n : t.Name} (d : ℕ) (e : Fault) → Then (Name n) ts a
    → d ≤ MAX_NESTING → StopsAt (λ (k : KD). declr_rest d n k) a e
    → StopsAt (λ (k : KD). a_declr d k) ts e
declr_fault d e h i r = stops_onward e (in_declr d h i) r

pub made_declr : {ts a b : List Token} {n : t.Name} {x : Declr} (d : ℕ) → Then (Name n) ts a
    → d ≤ MAX_NESTING → Leads (λ (k : KD). declr_rest d n k) (λ k. k x) a b
    → Leads (λ (k : KD). a_declr d k) (λ k. k x) ts b
made_declr d h i r = onward (in_declr d h i) r

-- ---- pairs of brackets

abbrev pub KB : Type 0
KB = Brackets → State

abbrev one_bracket : ℕ → Brackets → KB → Option Expr → State
one_bracket d bs k o = brackets d (bracketed bs o) k

pub bracket_deep : {ts a : List Token} {bs : Brackets} (d : ℕ) (e : Fault)
    → Leads (λ (k : KB). brackets d no_brackets k) (λ k. brackets d bs k) ts a
    → (rest : List Token) × Then (Mark m.LeftBracket) a rest × Deepens d a (Err e)
    → StopsAt (λ (k : KB). brackets d no_brackets k) ts e
bracket_deep {bs = bs} d e l (b, q, i) = stops_onward e l
    (deepened (λ (k : KB). brackets d bs k)
    (λ k. optional (suc d) (a_mark m.RightBracket) (one_bracket d bs k)) d e q i
    (λ l a k. refl))

pub bracket_fault : {ts a b : List Token} {bs : Brackets} (d c : ℕ) (e : Fault)
    → Leads (λ (k : KB). brackets d no_brackets k) (λ k. brackets d bs k) ts a
    → Then (Mark m.LeftBracket) a b → c ≡ suc d → c ≤ MAX_NESTING
    → StopsAt (λ (k : Option Expr → State). optional c (a_mark m.RightBracket) k) b e
    → StopsAt (λ (k : KB). brackets d no_brackets k) ts e
bracket_fault {bs = bs} d c e l q p i r = stopped
    (λ (k : Option Expr → State). optional c (a_mark m.RightBracket) k) (one_bracket d bs) e
    (onward l (in_bracket d c q p i)) r

pub made_bracket : {ts a b r : List Token} {bs z : Brackets} {o : Option Expr} (d c : ℕ)
    → Leads (λ (k : KB). brackets d no_brackets k) (λ k. brackets d bs k) ts a
    → Then (Mark m.LeftBracket) a b → c ≡ suc d → c ≤ MAX_NESTING
    → Leads (λ (k : Option Expr → State). optional c (a_mark m.RightBracket) k) (λ k. k o) b r
    → z ≡ bracketed bs o
    → Leads (λ (k : KB). brackets d no_brackets k) (λ k. brackets d z k) ts r
made_bracket {ts = ts} {r = r} {bs = bs} {o = o} d c l q p i h e = subst
    (λ z. Leads (λ (k : KB). brackets d no_brackets k) (λ k. brackets d z k) ts r) (sym e)
    (made (λ (k : Option Expr → State). optional c (a_mark m.RightBracket) k) (λ k. k o)
    (one_bracket d bs) (onward l (in_bracket d c q p i)) h)

pub brackets_end : {ts a : List Token} {bs : Brackets} (d : ℕ)
    → Leads (λ (k : KB). brackets d no_brackets k) (λ k. brackets d bs k) ts a
    → has (a_mark m.LeftBracket) a ≡ false
    → Leads (λ (k : KB). brackets d no_brackets k) (λ k. k bs) ts a
brackets_end {a = a} {bs = bs} d l h = onward l (brackets_over a d bs h)

-- ---- sizes

abbrev one_size : ℕ → Exprs → KS → Expr → State
one_size d es k e = sizes d (and_expr es e) k

pub size_deep : {ts a : List Token} {es : Exprs} (d : ℕ) (e : Fault)
    → Leads (λ (k : KS). sizes d no_exprs k) (λ k. sizes d es k) ts a
    → (rest : List Token) × Then (Mark m.LeftBracket) a rest × Deepens d a (Err e)
    → StopsAt (λ (k : KS). sizes d no_exprs k) ts e
size_deep {es = es} d e l (b, q, i) = stops_onward e l
    (deepened (λ (k : KS). sizes d es k) (λ k.
    closed (suc d) (a_mark m.RightBracket) (one_size d es k)) d e q i (λ l a k. refl))

pub size_fault : {ts a b : List Token} {es : Exprs} (d c : ℕ) (e : Fault)
    → Leads (λ (k : KS). sizes d no_exprs k) (λ k. sizes d es k) ts a
    → Then (Mark m.LeftBracket) a b → c ≡ suc d → c ≤ MAX_NESTING
    → StopsAt (λ (k : K1). closed c (a_mark m.RightBracket) k) b e
    → StopsAt (λ (k : KS). sizes d no_exprs k) ts e
size_fault {es = es} d c e l q p i r = stopped (λ (k : K1). closed c (a_mark m.RightBracket) k)
    (one_size d es) e (onward l (in_size d c q p i)) r

pub made_size : {ts a b r : List Token} {es z : Exprs} {y : Expr} (d c : ℕ)
    → Leads (λ (k : KS). sizes d no_exprs k) (λ k. sizes d es k) ts a
    → Then (Mark m.LeftBracket) a b → c ≡ suc d → c ≤ MAX_NESTING
    → Leads (λ (k : K1). closed c (a_mark m.RightBracket) k) (λ k. k y) b r → z ≡ and_expr es y
    → Leads (λ (k : KS). sizes d no_exprs k) (λ k. sizes d z k) ts r
made_size {ts = ts} {r = r} {es = es} {y = y} d c l q p i h e = subst
    (λ z. Leads (λ (k : KS). sizes d no_exprs k) (λ k. sizes d z k) ts r) (sym e)
    (made (λ (k : K1). closed c (a_mark m.RightBracket) k) (λ k. k y) (one_size d es)
    (onward l (in_size d c q p i)) h)

pub sizes_end : {ts a : List Token} {es : Exprs} (d : ℕ)
    → Leads (λ (k : KS). sizes d no_exprs k) (λ k. sizes d es k) ts a → has
    (a_mark m.LeftBracket) a ≡ false → Leads (λ (k : KS). sizes d no_exprs k) (λ k. k es) ts a
sizes_end {a = a} {es = es} d l h = onward l (sizes_over a d es h)

-- ---- an expression, or some, and a mark

abbrev then_sign : Sign → ℕ → K1 → K1
then_sign j d k y = sign d j (k y)

abbrev then_sign_all : Sign → ℕ → KS → KS
then_sign_all j d k y = sign d j (k y)

pub closed_none : (ts : List Token) (j : Sign) (d : ℕ) (e : Fault)
    → StopsAt (λ (k : K1). an_expr d k) ts e → StopsAt (λ (k : K1). closed d j k) ts e
closed_none ts j d e r = stops_inside (λ (k : K1). an_expr d k) ts (then_sign j d) e r

pub unclosed : {ts a : List Token} {y : Expr} (j : Sign) (d : ℕ) (e : Fault)
    → Leads (λ (k : K1). an_expr d k) (λ k. k y) ts a → Missing j a e
    → StopsAt (λ (k : K1). closed d j k) ts e
unclosed {a = a} {y = y} j d e r h =
    stops_onward e (inside (then_sign j d) r) (no_sign a j d (λ (k : K1). k y) e h)

pub made_closed : {ts a b : List Token} {y : Expr} (j : Sign) (d : ℕ)
    → Leads (λ (k : K1). an_expr d k) (λ k. k y) ts a → Then (kind_of j) a b → d ≤ MAX_NESTING
    → Leads (λ (k : K1). closed d j k) (λ k. k y) ts b
made_closed {y = y} j d r h i =
    onward (inside (then_sign j d) r) (past_sign j d (λ (k : K1). k y) h i)

pub all_closed_none : (ts : List Token) (j : Sign) (d : ℕ) (e : Fault)
    → StopsAt (λ (k : KS). some_exprs d k) ts e → StopsAt (λ (k : KS). all_closed d j k) ts e
all_closed_none ts j d e r = stops_inside (λ (k : KS). some_exprs d k) ts (then_sign_all j d) e r

pub all_unclosed : {ts a : List Token} {y : Exprs} (j : Sign) (d : ℕ) (e : Fault)
    → Leads (λ (k : KS). some_exprs d k) (λ k. k y) ts a → Missing j a e
    → StopsAt (λ (k : KS). all_closed d j k) ts e
all_unclosed {a = a} {y = y} j d e r h =
    stops_onward e (inside (then_sign_all j d) r) (no_sign a j d (λ (k : KS). k y) e h)

pub made_all_closed : {ts a b : List Token} {y : Exprs} (j : Sign) (d : ℕ)
    → Leads (λ (k : KS). some_exprs d k) (λ k. k y) ts a → Then (kind_of j) a b
    → d ≤ MAX_NESTING → Leads (λ (k : KS). all_closed d j k) (λ k. k y) ts b
made_all_closed {y = y} j d r h i =
    onward (inside (then_sign_all j d) r) (past_sign j d (λ (k : KS). k y) h i)

abbrev KO : Type 0
KO = Option Expr → State

abbrev some_of : KO → Expr → State
some_of k y = k (Some y)

pub made_none : {ts a : List Token} (j : Sign) (d : ℕ) → Then (kind_of j) ts a → d ≤ MAX_NESTING
    → Leads (λ (k : KO). optional d j k) (λ k. k None) ts a
made_none j d h i = may_come j d (λ (k : KO). k None) (λ k. closed d j (some_of k)) h i

pub optional_fault : (ts : List Token) (j : Sign) (d : ℕ) (e : Fault) → has j ts ≡ false
    → StopsAt (λ (k : K1). closed d j k) ts e → StopsAt (λ (k : KO). optional d j k) ts e
optional_fault ts j d e h r = stopped (λ (k : K1). closed d j k) some_of e
    (may_not ts j d (λ (k : KO). k None) (λ k. closed d j (some_of k)) h) r

pub made_some : {ts a : List Token} {y : Expr} (j : Sign) (d : ℕ) → has j ts ≡ false
    → Leads (λ (k : K1). closed d j k) (λ k. k y) ts a
    → Leads (λ (k : KO). optional d j k) (λ k. k (Some y)) ts a
made_some {ts = ts} {y = y} j d h r = made (λ (k : K1). closed d j k) (λ k. k y) some_of
    (may_not ts j d (λ (k : KO). k None) (λ k. closed d j (some_of k)) h) r

pub no_arguments : {ts a : List Token} (d : ℕ) → Then (Mark m.RightParen) ts a → d ≤ MAX_NESTING
    → Leads (λ (k : KS). arguments d k) (λ k. k no_exprs) ts a
no_arguments d h i = may_come (a_mark m.RightParen) d (λ (k : KS). k no_exprs)
    (λ k. all_closed d (a_mark m.RightParen) k) h i

pub arguments_come : (ts : List Token) (d : ℕ) → has (a_mark m.RightParen) ts ≡ false
    → Leads (λ (k : KS). arguments d k) (λ k. all_closed d (a_mark m.RightParen) k) ts ts
arguments_come ts d h = may_not ts (a_mark m.RightParen) d (λ (k : KS). k no_exprs)
    (λ k. all_closed d (a_mark m.RightParen) k) h

-- ---- arguments in parentheses, or else what may stand in their place

abbrev given_or : ℕ → KS → State → State
given_or d k r = may (suc d) (a_mark m.LeftParen) (arguments (suc d) k) r

pub given_deep : {K : Type 0} {ts : List Token} (d : ℕ) (A : K → KS) (B : K → State) (e : Fault)
    → (rest : List Token) × Then (Mark m.LeftParen) ts rest × Deepens d ts (Err e)
    → StopsAt (λ k. given_or d (A k) (B k)) ts e
given_deep d A B e (b, q, i) = deepened (λ k. given_or d (A k) (B k))
    (λ k. arguments (suc d) (A k)) d e q i (λ l a k. refl)

in_given : {K : Type 0} {ts a : List Token} (d c : ℕ) (A : K → KS) (B : K → State)
    → Then (Mark m.LeftParen) ts a → c ≡ suc d → c ≤ MAX_NESTING
    → Leads (λ k. given_or d (A k) (B k)) (λ k. arguments c (A k)) ts a
in_given d c A B q h i = token (λ k. given_or d (A k) (B k)) (λ k. arguments c (A k)) c q i
    (λ l a k. ap (λ c. Some (c, arguments c (A k))) (sym h))

pub given_fault : {K : Type 0} {ts a : List Token} (d c : ℕ) (A : K → KS) (B : K → State)
    (e : Fault) → Then (Mark m.LeftParen) ts a → c ≡ suc d → c ≤ MAX_NESTING
    → StopsAt (λ (k : KS). arguments c k) a e → StopsAt (λ k. given_or d (A k) (B k)) ts e
given_fault d c A B e q h i r =
    stopped (λ (k : KS). arguments c k) A e (in_given d c A B q h i) r

pub given_made : {K : Type 0} {ts a b : List Token} {es : Exprs} (d c : ℕ) (A : K → KS)
    (B : K → State) → Then (Mark m.LeftParen) ts a → c ≡ suc d → c ≤ MAX_NESTING
    → Leads (λ (k : KS). arguments c k) (λ k. k es) a b
    → Leads (λ k. given_or d (A k) (B k)) (λ k. A k es) ts b
given_made {es = es} d c A B q h i r =
    made (λ (k : KS). arguments c k) (λ k. k es) A (in_given d c A B q h i) r

pub not_given : {K : Type 0} (ts : List Token) (d : ℕ) (A : K → KS) (B : K → State)
    → has (a_mark m.LeftParen) ts ≡ false → Leads (λ k. given_or d (A k) (B k)) B ts ts
not_given ts d A B h = may_not ts (a_mark m.LeftParen) (suc d) (λ k. arguments (suc d) (A k)) B h

-- behind the name of a declarator

abbrev pub with_arguments : t.Name → KD → KS
with_arguments n k es = k (t.declr_with n es)

abbrev pub with_brackets : t.Name → KD → Brackets → State
with_brackets n k bs = k (declr n bs)

abbrev pub plain_tail : ℕ → t.Name → KD → State
plain_tail d n k = brackets d no_brackets (with_brackets n k)

pub brackets_fault : (ts : List Token) (d : ℕ) (n : t.Name) (e : Fault)
    → has (a_mark m.LeftParen) ts ≡ false
    → StopsAt (λ (k : Brackets → State). brackets d no_brackets k) ts e
    → StopsAt (λ (k : KD). declr_rest d n k) ts e
brackets_fault ts d n e h r = stopped
    (λ (k : Brackets → State). brackets d no_brackets k) (with_brackets n) e
    (not_given ts d (with_arguments n) (plain_tail d n) h) r

pub brackets_made : {ts a : List Token} {bs : Brackets} (d : ℕ) (n : t.Name)
    → has (a_mark m.LeftParen) ts ≡ false
    → Leads (λ (k : Brackets → State). brackets d no_brackets k) (λ k. k bs) ts a
    → Leads (λ (k : KD). declr_rest d n k) (λ k. k (declr n bs)) ts a
brackets_made {ts = ts} {bs = bs} d n h r = made
    (λ (k : Brackets → State). brackets d no_brackets k) (λ k. k bs) (with_brackets n)
    (not_given ts d (with_arguments n) (plain_tail d n) h) r

-- behind the base of a `new`

abbrev pub object_with : ℕ → Base → K1 → KS
object_with l b k es = k (t.new_with l b es)

abbrev pub object_of : ℕ → Base → K1 → KS
object_of l b k es = k (t.new l b es)

abbrev pub sized : ℕ → ℕ → Base → K1 → State
sized d l b k = sizes d no_exprs (object_of l b k)

pub sizes_fault : (ts : List Token) (d l : ℕ) (b : Base) (e : Fault)
    → has (a_mark m.LeftParen) ts ≡ false → StopsAt (λ (k : KS). sizes d no_exprs k) ts e
    → StopsAt (λ (k : K1). new_rest d l b k) ts e
sizes_fault ts d l b e h r = stopped (λ (k : KS). sizes d no_exprs k) (object_of l b) e
    (not_given ts d (object_with l b) (sized d l b) h) r

pub sizes_made : {ts a : List Token} {es : Exprs} {z : Expr} (d l : ℕ) (b : Base)
    → has (a_mark m.LeftParen) ts ≡ false
    → Leads (λ (k : KS). sizes d no_exprs k) (λ k. k es) ts a → z ≡ t.new l b es
    → Leads (λ (k : K1). new_rest d l b k) (λ k. k z) ts a
sizes_made {ts = ts} {a = a} {es = es} d l b h r e = subst
    (λ z. Leads (λ (k : K1). new_rest d l b k) (λ k. k z) ts a) (sym e)
    (made (λ (k : KS). sizes d no_exprs k) (λ k. k es) (object_of l b)
    (not_given ts d (object_with l b) (sized d l b) h) r)

pub object_made : {ts a c : List Token} {es : Exprs} {z : Expr} (d e l : ℕ) (b : Base)
    → Then (Mark m.LeftParen) ts a → e ≡ suc d → e ≤ MAX_NESTING
    → Leads (λ (k : KS). arguments e k) (λ k. k es) a c → z ≡ t.new_with l b es
    → Leads (λ (k : K1). new_rest d l b k) (λ k. k z) ts c
object_made {ts = ts} {c = c} {es = es} d e l b q h i r g = subst
    (λ z. Leads (λ (k : K1). new_rest d l b k) (λ k. k z) ts c) (sym g)
    (given_made d e (object_with l b) (sized d l b) q h i r)
