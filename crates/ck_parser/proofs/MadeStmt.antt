-- What the machine makes of the parts of a statement.
use Rattle.std.proofs.Common.{◌≡◌, ℕ, suc, ◌≤◌, List, [], ◌∷◌, length, Bool, true, false}
use Rattle.std.proofs.Common.{Some, None, Result, Ok, Err, refl, sym, ◌∙◌, ap, subst, arith}
use Rattle.ck_base.specs.declared.limits.TheConstants.{MAX_NESTING}
use Rattle.ck_lexer.specs.declared.mark.Mark.TheVariants as m
use Rattle.ck_lexer.specs.declared.token.Token.{Token}
use Rattle.ck_lexer.specs.declared.token.TokenKind.{TokenKind}
use Rattle.ck_lexer.specs.declared.token.TokenKind.TheVariants.{Mark, Word}
use Rattle.ck_lexer.specs.declared.mark.Mark.{Mark as AMark}
use Rattle.ck_lexer.specs.declared.word.Word.{Word as AWord}
use Rattle.ck_lexer.specs.declared.word.Word.TheVariants as w
use Rattle.parse_exprs.specs.declared.fault.Fault.{Fault}
use Rattle.parse_exprs.specs.declared.fault.Fault.TheVariants.{Syntax, TooDeep, Memory}
use Rattle.parse_exprs.specs.declared.opening.Opening.{Opening as Seen}
use Rattle.parse_exprs.specs.declared.opening.Opening.TheVariants as seen
use Rattle.parse_exprs.specs.Machine.{State, Next, faulty, deep, ended, at_end, left, resume, step}
use Rattle.parse_exprs.specs.Machine.{or_else, is_shallow, sign, may, a_stmt, an_expr_stmt, stmts}
use Rattle.parse_exprs.specs.Machine.{chucks, more_declrs, a_declr, an_expr, a_test, declares_or}
use Rattle.parse_exprs.specs.Machine.{simple_end, first_stmt, first_expr_stmt, first_operand}
use Rattle.parse_exprs.specs.Machine.{after_sign, given}
use Rattle.parse_exprs.specs.Operands.{operand_from}
use Rattle.parse_exprs.specs.Reads.{Leads, StopsAt, Reads, Deepens, Missing, Agrees, is_value}
use Rattle.parse_exprs.specs.Reads.{is_named, is_based}
use Rattle.ck_parser.specs.Statements.{begins_stmt, has_stmt, is_plain, has_plain, next_line}
use Rattle.ck_parser.specs.Statements.{behind_first, other_declrs, ends, do_end, tested}
use Rattle.ck_parser.specs.Statements.{after_if}
use Rattle.parse_exprs.specs.Tokens.{opens_auto}
use Rattle.parse_exprs.specs.Tokens.{Then, then, Opening, atom, named, prefixed, based, opens_paren}
use Rattle.parse_exprs.specs.Tokens.{opens_array, opens_new, opens_spork, opens_static, opens_block}
use Rattle.parse_exprs.specs.Tokens.{opens_empty, opens_print, opens_if, opens_while, opens_until}
use Rattle.parse_exprs.specs.Tokens.{opens_do, opens_for, opens_repeat, opens_break, opens_continue}
use Rattle.parse_exprs.specs.Tokens.{opens_return, opens_fun, opens_class, opens_public}
use Rattle.parse_exprs.specs.Tokens.{opens_nothing, opening, Sign, a_word, a_mark, is_sign, has}
use Rattle.parse_exprs.proofs.Steps.{past_sign, no_sign, one_token, one_deep, one_faulty, onward}
use Rattle.parse_exprs.proofs.Steps.{inside, stops_onward, stops_inside, token, deepened, over}
use Rattle.parse_exprs.proofs.Steps.{NoneNext}
use Rattle.parse_exprs.proofs.Made.{first_step, may_come, may_not}
use Rattle.ck_syntax.specs.Tree as t
use Rattle.ck_syntax.specs.Tree.{Expr, Declr, Declrs, Stmt, Stmts, and_stmt, and_declr, no_declrs}
use Rattle.ck_syntax.specs.declared.declaration.DeclHead.{DeclHead}

abbrev pub KS : Type 0
KS = Stmt → State

-- ---- parts of a larger one

-- what was read behind where S leads
pub then_reads : {K X : Type 0} (S U : K → State) (T : X → K → State) (rest : X → List Token)
    (a b : List Token) (r : Result X Fault) → Leads S U a b → Reads U T rest b r
    → Reads S T rest a r
then_reads S U T rest a b (Ok x) l h = onward l h
then_reads S U T rest a b (Err e) l h = stops_onward e l h

-- a stop in a part that S leads to
pub stops_in : {K J : Type 0} (S : K → State) (A : J → State) (f : K → J) (a b : List Token)
    (e : Fault) → Leads S (λ k. A (f k)) a b → StopsAt A b e → StopsAt S a e
stops_in S A f a b e l h = stops_onward e l (stops_inside A b f e h)

-- what was read of a part that S leads to
pub then_inside : {K J : Type 0} (S : K → State) (A B : J → State) (f : K → J)
    (a b c : List Token) → Leads S (λ k. A (f k)) a b → Leads A B b c
    → Leads S (λ k. B (f k)) a c
then_inside S A B f a b c l h = onward l (inside f h)

pub here : {K : Type 0} (S : K → State) (a : List Token) → Leads S S a a
here S a = record { by = λ k. refl }

-- two states that go on alike at the next token
pub alike : {K : Type 0} (S T : K → State) (ts : List Token)
    → ((k : K) → at_end (S k) ≡ at_end (T k))
    → ((k : K) (x : Token) (rest : List Token) → ts ≡ x ∷ rest → step (S k) x ≡ step (T k) x)
    → Leads S T ts ts
alike S T [] e h = record { by = λ k. ap ended (e k) }
alike S T (x ∷ ts) e h = record {
  by = λ k.
      ap (resume is_shallow (suc (length ts)) (λ q. left ts q)) (h k x ts refl);
}

-- a mark that does not come next
not_next : (ts : List Token) (j : Sign) (d : ℕ) (s : State) → has j ts ≡ false
    → NoneNext ts (λ x. after_sign x.kind j d s)
not_next [] j d s h = tt
not_next (x ∷ ts) j d s h = ap (λ b. given b d s) h

-- ---- the first token of a statement

-- A token that begins a statement stands at least as deep as the statement.
record Beginning (d : ℕ) (o : Next) : Type 0 where
  depth : ℕ
  state : State
  is : o ≡ Some (depth, state)
  over : d ≤ depth

at_depth : {o : Next} (d : ℕ) (s : State) → o ≡ Some (d, s) → Beginning d o
at_depth d s e = record { depth = d; state = s; is = e; over = omega arith }

one_deeper : {o : Next} (d : ℕ) (s : State) → o ≡ Some (suc d, s) → Beginning d o
one_deeper d s e = record { depth = suc d; state = s; is = e; over = omega arith }

beginning : (d l : ℕ) (o : Opening) (k : KS) → begins_stmt o ≡ true
    → Beginning d (first_stmt d l o k)
beginning d l (atom e) k h = at_depth d _ refl
beginning d l (named n) k h = at_depth d _ refl
beginning d l (prefixed p) k h = one_deeper d _ refl
beginning d l (based b) k h = at_depth d _ refl
beginning d l opens_paren k h = one_deeper d _ refl
beginning d l opens_array k h = one_deeper d _ refl
beginning d l opens_new k h = one_deeper d _ refl
beginning d l opens_spork k h = one_deeper d _ refl
beginning d l opens_static k h = at_depth d _ refl
beginning d l opens_auto k h = at_depth d _ refl
beginning d l opens_block k h = at_depth d _ refl
beginning d l opens_empty k h = at_depth d _ refl
beginning d l opens_print k h = at_depth d _ refl
beginning d l opens_if k h = at_depth d _ refl
beginning d l opens_while k h = at_depth d _ refl
beginning d l opens_until k h = at_depth d _ refl
beginning d l opens_do k h = at_depth d _ refl
beginning d l opens_for k h = at_depth d _ refl
beginning d l opens_repeat k h = at_depth d _ refl
beginning d l opens_break k h = at_depth d _ refl
beginning d l opens_continue k h = at_depth d _ refl
beginning d l opens_return k h = at_depth d _ refl
beginning d l opens_fun k h = cc
beginning d l opens_class k h = cc
beginning d l opens_public k h = cc
beginning d l opens_nothing k h = cc

not_beginning : (d l : ℕ) (o : Opening) (k : KS) → begins_stmt o ≡ false → first_stmt d l o k ≡ None
not_beginning d l opens_fun k h = refl
not_beginning d l opens_class k h = refl
not_beginning d l opens_public k h = refl
not_beginning d l opens_nothing k h = refl
not_beginning d l _ k h = cc

first_of : {d : ℕ} {o : Next} (r : Next) → Beginning d o → or_else o r ≡ o
first_of r b = ap (λ y. or_else y r) b.is ∙ sym b.is

-- no statement begins here
pub no_stmt_next : (ts : List Token) (d : ℕ) (k : KS) → has_stmt ts ≡ false
    → NoneNext ts (λ x. first_stmt d x.line (opening x.line x.kind) k)
no_stmt_next [] d k h = tt
no_stmt_next (x ∷ ts) d k h = not_beginning d x.line (opening x.line x.kind) k h

pub no_stmt : (ts : List Token) (d : ℕ) (n : ℕ) → n ≡ length ts → has_stmt ts ≡ false
    → StopsAt (λ (k : KS). a_stmt d k) ts (Syntax n)
no_stmt [] d n q h = record { at = λ k. ap faulty (sym q) }
no_stmt (x ∷ ts) d n q h = record {
  at = λ k.
      one_faulty x ts (a_stmt d k) (not_beginning d x.line (opening x.line x.kind) k h)
      ∙ ap faulty (sym q);
}

-- one begins here, but too deep
pub deep_stmt : (ts : List Token) (d : ℕ) (e : Fault) → has_stmt ts ≡ true
    → Deepens d ts (Err e) → StopsAt (λ (k : KS). a_stmt (suc d) k) ts e
deep_stmt [] d e h i = cc
deep_stmt (x ∷ ts) d (TooDeep n) h (q, i) = record {
  at = λ k.
      let b = beginning (suc d) x.line (opening x.line x.kind) k h in
      let p = b.over in
      one_deep x ts (a_stmt (suc d) k) b.state b.depth b.is (omega arith) ∙ ap deep (sym q);
}
deep_stmt ts d (Syntax n) h i = absurd i
deep_stmt ts d (Memory _) h i = absurd i

-- ---- a list of statements

-- the statement that comes next in it
abbrev pub listed : ℕ → Stmts → (Stmts → State) → Stmt → State
listed d ss k s = stmts d (and_stmt ss s) k

pub in_stmts : (ts : List Token) (d : ℕ) (ss : Stmts) → has_stmt ts ≡ true
    → Leads (λ (k : Stmts → State). stmts d ss k)
    (λ (k : Stmts → State). a_stmt d (listed d ss k)) ts ts
in_stmts [] d ss h = cc
in_stmts (x ∷ ts) d ss h = record {
  by = λ k.
      ap (resume is_shallow (suc (length ts)) (λ q. left ts q))
      (first_of (step (k ss) x) (beginning d x.line (opening x.line x.kind) (listed d ss k) h));
}

pub stmts_over : (ts : List Token) (d : ℕ) (ss : Stmts) → has_stmt ts ≡ false
    → Leads (λ (k : Stmts → State). stmts d ss k) (λ k. k ss) ts ts
stmts_over ts d ss h = over (λ (k : Stmts → State). stmts d ss k) (λ k. k ss) ts
    (λ k x. first_stmt d x.line (opening x.line x.kind) (listed d ss k)) (λ k. refl)
    (λ k x. refl) (λ k. no_stmt_next ts d (listed d ss k) h)

pub deep_stmts : (ts : List Token) (d : ℕ) (ss : Stmts) (e : Fault) → has_stmt ts ≡ true
    → Deepens d ts (Err e) → StopsAt (λ (k : Stmts → State). stmts (suc d) ss k) ts e
deep_stmts ts d ss e h i = stops_in (λ (k : Stmts → State). stmts (suc d) ss k)
    (λ (k : KS). a_stmt (suc d) k) (λ k. listed (suc d) ss k) ts ts e (in_stmts ts (suc d) ss h)
    (deep_stmt ts d e h i)

pub next_stmt : {s : Stmt} {ss : Stmts} (ts a b : List Token) (d : ℕ)
    → Leads (λ (k : Stmts → State). stmts d t.no_stmts k) (λ k. stmts d ss k) ts a
    → has_stmt a ≡ true → Leads (λ (k : KS). a_stmt d k) (λ k. k s) a b
    → Leads (λ (k : Stmts → State). stmts d t.no_stmts k) (λ k. stmts d (and_stmt ss s) k) ts b
next_stmt {ss = ss} ts a b d l h r =
    onward l (onward (in_stmts a d ss h) (inside (λ k. listed d ss k) r))

pub next_fault : {ss : Stmts} (ts a : List Token) (d : ℕ) (e : Fault)
    → Leads (λ (k : Stmts → State). stmts d t.no_stmts k) (λ k. stmts d ss k) ts a
    → has_stmt a ≡ true → StopsAt (λ (k : KS). a_stmt d k) a e
    → StopsAt (λ (k : Stmts → State). stmts d t.no_stmts k) ts e
next_fault {ss = ss} ts a d e l h r = stops_in (λ k. stmts d t.no_stmts k) (λ k. a_stmt d k)
    (λ k. listed d ss k) ts a e (onward l (in_stmts a d ss h)) r

-- ---- statements that begin with an expression

-- the statement of a semicolon alone
pub made_empty : {ts rest : List Token} (d l : ℕ) → Then (Mark m.Semicolon) ts rest
    → l ≡ next_line ts → d ≤ MAX_NESTING
    → Leads (λ (k : KS). an_expr_stmt d k) (λ k. k (t.empty l)) ts rest
made_empty {rest = rest} d l (then {l = i} {a = a}) e h = record {
  by = λ k.
      one_token (record { kind = Mark m.Semicolon; line = i; at = a }) rest (an_expr_stmt d k)
      (k (t.empty l)) d (ap (λ z. Some (d, k (t.empty z))) (sym e)) h;
}

abbrev pub is_empty : Opening → Bool
is_empty opens_empty = true
is_empty _ = false

not_empty_word : (l : ℕ) (x : AWord) → is_empty (opening l (Word x)) ≡ false
not_empty_word l w.Int = refl
not_empty_word l _ = refl

not_empty_mark : (l : ℕ) (x : AMark) → is_sign (Mark x) (a_mark m.Semicolon) ≡ false
    → is_empty (opening l (Mark x)) ≡ false
not_empty_mark l m.Semicolon h = cc
not_empty_mark l _ h = refl

pub not_empty : (l : ℕ) (j : TokenKind) → is_sign j (a_mark m.Semicolon) ≡ false
    → is_empty (opening l j) ≡ false
not_empty l (Word x) h = not_empty_word l x
not_empty l (Mark x) h = not_empty_mark l x h
not_empty l _ h = refl

no_empty : (d l : ℕ) (k : KS) (o : Opening) → is_empty o ≡ false → first_expr_stmt d l o k
    ≡ first_operand d l o (declares_or d k) (λ e c. chucks c e (simple_end d k))
no_empty d l k opens_empty h = cc
no_empty d l k _ h = refl

pub has_at : (j : Sign) {x : Token} {ts rest : List Token} → ts ≡ x ∷ rest → has j ts ≡ false
    → is_sign x.kind j ≡ false
has_at j e h = ap (has j) (sym e) ∙ h

pub first_operand_of : (ts : List Token) (d : ℕ) → has (a_mark m.Semicolon) ts ≡ false
    → Leads (λ (k : KS). an_expr_stmt d k) (λ k. operand_from d (behind_first d k)) ts ts
first_operand_of ts d h = alike (λ (k : KS). an_expr_stmt d k)
    (λ k. operand_from d (behind_first d k)) ts (λ k. refl)
    (λ k x rest e. no_empty d x.line k (opening x.line x.kind)
    (not_empty x.line x.kind (has_at (a_mark m.Semicolon) e h)))

pub declr_comma : {ts rest : List Token} (d l : ℕ) (h : DeclHead) (x : Declr)
    → Then (Mark m.Comma) ts rest → d ≤ MAX_NESTING → Leads (λ (k : KS). declares_or d k l h x)
    (λ k. other_declrs d x (λ xs. ends d (k (t.declares l h xs)))) ts rest
declr_comma d l h x q i = may_come (a_mark m.Comma) d
    (λ k. other_declrs d x (λ xs. ends d (k (t.declares l h xs))))
    (λ k. chucks d (t.declare l h x) (simple_end d k)) q i

pub declr_alone : (ts : List Token) (d l : ℕ) (h : DeclHead) (x : Declr)
    → has (a_mark m.Comma) ts ≡ false → Leads (λ (k : KS). declares_or d k l h x)
    (λ k. chucks d (t.declare l h x) (simple_end d k)) ts ts
declr_alone ts d l h x q = may_not ts (a_mark m.Comma) d
    (λ k. other_declrs d x (λ xs. ends d (k (t.declares l h xs))))
    (λ k. chucks d (t.declare l h x) (simple_end d k)) q

-- ---- more declarators

abbrev pub KD : Type 0
KD = Declrs → State

abbrev pub with_declr : ℕ → Declrs → KD → Declr → State
with_declr d xs k y = more_declrs d (and_declr xs y) k

pub second_declr : {x y : Declr} {a b : List Token} (d : ℕ)
    → Leads (λ (k : Declr → State). a_declr d k) (λ k. k y) a b
    → Leads (λ (k : KD). other_declrs d x k)
    (λ k. more_declrs d (and_declr (and_declr no_declrs x) y) k) a b
second_declr {x = x} d h = inside (λ k. with_declr d (and_declr no_declrs x) k) h

pub declr_fault : (x : Declr) (a : List Token) (d : ℕ) (e : Fault) → StopsAt
    (λ (k : Declr → State). a_declr d k) a e → StopsAt (λ (k : KD). other_declrs d x k) a e
declr_fault x a d e h =
    stops_inside (λ k. a_declr d k) a (λ k. with_declr d (and_declr no_declrs x) k) e h

behind_comma : {xs : Declrs} {a b : List Token} (d : ℕ) → Then (Mark m.Comma) a b
    → d ≤ MAX_NESTING
    → Leads (λ (k : KD). more_declrs d xs k) (λ k. a_declr d (with_declr d xs k)) a b
behind_comma {xs = xs} d q h =
    token (λ k. more_declrs d xs k) (λ k. a_declr d (with_declr d xs k)) d q h (λ l a k. refl)

pub next_declr : {x y : Declr} {xs : Declrs} {ts a b c : List Token} (d : ℕ)
    → Leads (λ (k : KD). other_declrs d x k) (λ k. more_declrs d xs k) ts a
    → Then (Mark m.Comma) a b → d ≤ MAX_NESTING
    → Leads (λ (k : Declr → State). a_declr d k) (λ k. k y) b c
    → Leads (λ (k : KD). other_declrs d x k) (λ k. more_declrs d (and_declr xs y) k) ts c
next_declr {xs = xs} d l q h r =
    onward l (onward (behind_comma d q h) (inside (λ k. with_declr d xs k) r))

pub next_declr_fault : {x : Declr} {xs : Declrs} (ts a b : List Token) (d : ℕ) (e : Fault)
    → Leads (λ (k : KD). other_declrs d x k) (λ k. more_declrs d xs k) ts a
    → Then (Mark m.Comma) a b → d ≤ MAX_NESTING → StopsAt (λ (k : Declr → State). a_declr d k) b
    e → StopsAt (λ (k : KD). other_declrs d x k) ts e
next_declr_fault {x = x} {xs = xs} ts a b d e l q h r = stops_in (λ k. other_declrs d x k)
    (λ k. a_declr d k) (λ k. with_declr d xs k) ts b e (onward l (behind_comma d q h)) r

pub declrs_end : {x : Declr} {xs : Declrs} {ts a : List Token} (d : ℕ)
    → Leads (λ (k : KD). other_declrs d x k) (λ k. more_declrs d xs k) ts a
    → has (a_mark m.Comma) a ≡ false → Leads (λ (k : KD). other_declrs d x k) (λ k. k xs) ts a
declrs_end {xs = xs} {a = a} d l h = onward l
    (over (λ k. more_declrs d xs k) (λ k. k xs) a
    (λ k z. after_sign z.kind (a_mark m.Comma) d (a_declr d (with_declr d xs k))) (λ k. refl)
    (λ k z. refl) (λ k. not_next a (a_mark m.Comma) d (a_declr d (with_declr d xs k)) h))

-- ---- parentheses

abbrev pub K1 : Type 0
K1 = Expr → State

-- Expr ')'
abbrev pub closed : ℕ → K1 → State
closed e k = an_expr e (λ x. sign e (a_mark m.RightParen) (k x))

pub in_parens : {a b : List Token} (d e : ℕ) → Then (Mark m.LeftParen) a b → e ≡ suc d
    → e ≤ MAX_NESTING → Leads (λ (k : K1). a_test d k) (λ k. closed e k) a b
in_parens d e q p h = token (λ k. a_test d k) (λ k. closed e k) e q h
    (λ l a k. ap (λ z. Some (z, closed z k)) (sym p))

pub deep_parens : {a b : List Token} (d : ℕ) (e : Fault) → Then (Mark m.LeftParen) a b
    → Deepens d a (Err e) → StopsAt (λ (k : K1). a_test d k) a e
deep_parens d e q h = deepened (λ k. a_test d k) (λ k. closed (suc d) k) d e q h (λ l a k. refl)

-- ---- behind the first token

pub stmt_first : {x : Token} {ts rest : List Token} (o : Opening) (T : KS → State) (d : ℕ)
    → ts ≡ x ∷ rest → opening x.line x.kind ≡ o → d ≤ MAX_NESTING
    → ((k : KS) → first_stmt d x.line o k ≡ Some (d, T k))
    → Leads (λ (k : KS). a_stmt d k) T ts rest
stmt_first {x = x} o T d e q h i =
    first_step (λ (k : KS). a_stmt d k) T d e h (λ k. ap (λ z. first_stmt d x.line z k) q ∙ i k)

-- ---- what was seen of the first token

-- what stands for itself, or begins with an expression
abbrev pub is_simple : Opening → Bool
is_simple opens_block = false
is_simple opens_if = false
is_simple opens_while = false
is_simple opens_until = false
is_simple opens_repeat = false
is_simple opens_do = false
is_simple opens_for = false
is_simple opens_print = false
is_simple opens_return = false
is_simple opens_break = false
is_simple opens_continue = false
is_simple _ = true

simple_step : (d l : ℕ) (o : Opening) (k : KS) → is_simple o ≡ true
    → first_stmt d l o k ≡ first_expr_stmt d l o k
simple_step d l opens_block k h = cc
simple_step d l opens_if k h = cc
simple_step d l opens_while k h = cc
simple_step d l opens_until k h = cc
simple_step d l opens_repeat k h = cc
simple_step d l opens_do k h = cc
simple_step d l opens_for k h = cc
simple_step d l opens_print k h = cc
simple_step d l opens_return k h = cc
simple_step d l opens_break k h = cc
simple_step d l opens_continue k h = cc
simple_step d l _ k h = refl

abbrev pub sees_plain : Seen → Bool
sees_plain seen.Block = false
sees_plain seen.If = false
sees_plain seen.While = false
sees_plain seen.Until = false
sees_plain seen.Repeat = false
sees_plain seen.Do = false
sees_plain seen.For = false
sees_plain _ = true

abbrev pub sees_simple : Seen → Bool
sees_simple seen.Print = false
sees_simple seen.Return = false
sees_simple seen.Break = false
sees_simple seen.Continue = false
sees_simple _ = true

value_plain : (o : Opening) → is_value o ≡ true → is_plain o ≡ true
value_plain (atom e) h = refl
value_plain _ h = cc

value_simple : (o : Opening) → is_value o ≡ true → is_simple o ≡ true
value_simple (atom e) h = refl
value_simple _ h = cc

named_plain : (o : Opening) → is_named o ≡ true → is_plain o ≡ true
named_plain (named n) h = refl
named_plain _ h = cc

named_simple : (o : Opening) → is_named o ≡ true → is_simple o ≡ true
named_simple (named n) h = refl
named_simple _ h = cc

based_plain : (o : Opening) → is_based o ≡ true → is_plain o ≡ true
based_plain (based b) h = refl
based_plain _ h = cc

based_simple : (o : Opening) → is_based o ≡ true → is_simple o ≡ true
based_simple (based b) h = refl
based_simple _ h = cc

false_true : false ≡ true → ⊥
false_true h = cc

pub agrees_plain : (o : Opening) (s : Seen) → Agrees o s → sees_plain s ≡ true → is_plain o ≡ true
agrees_plain o seen.Atom h i = value_plain o h
agrees_plain o seen.Name h i = named_plain o h
agrees_plain o (seen.Prefix q) h i = ap is_plain h
agrees_plain o seen.Base h i = based_plain o h
agrees_plain o seen.Paren h i = ap is_plain h
agrees_plain o seen.Array h i = ap is_plain h
agrees_plain o seen.New h i = ap is_plain h
agrees_plain o seen.Spork h i = ap is_plain h
agrees_plain o seen.Static h i = ap is_plain h
agrees_plain o seen.Auto h i = ap is_plain h
agrees_plain o seen.Block h i = cc
agrees_plain o seen.Empty h i = ap is_plain h
agrees_plain o seen.Print h i = ap is_plain h
agrees_plain o seen.If h i = cc
agrees_plain o seen.While h i = cc
agrees_plain o seen.Until h i = cc
agrees_plain o seen.Do h i = cc
agrees_plain o seen.For h i = cc
agrees_plain o seen.Repeat h i = cc
agrees_plain o seen.Break h i = ap is_plain h
agrees_plain o seen.Continue h i = ap is_plain h
agrees_plain o seen.Return h i = ap is_plain h
agrees_plain o seen.Fun h i = ap is_plain h
agrees_plain o seen.Class h i = ap is_plain h
agrees_plain o seen.Public h i = ap is_plain h
agrees_plain o seen.Nothing h i = ap is_plain h

pub agrees_simple : (o : Opening) (s : Seen) → Agrees o s → is_plain o ≡ true
    → sees_simple s ≡ true → is_simple o ≡ true
agrees_simple o seen.Atom h p i = value_simple o h
agrees_simple o seen.Name h p i = named_simple o h
agrees_simple o (seen.Prefix q) h p i = ap is_simple h
agrees_simple o seen.Base h p i = based_simple o h
agrees_simple o seen.Paren h p i = ap is_simple h
agrees_simple o seen.Array h p i = ap is_simple h
agrees_simple o seen.New h p i = ap is_simple h
agrees_simple o seen.Spork h p i = ap is_simple h
agrees_simple o seen.Static h p i = ap is_simple h
agrees_simple o seen.Auto h p i = ap is_simple h
agrees_simple o seen.Block h p i = absurd (false_true (sym (ap is_plain h) ∙ p))
agrees_simple o seen.Empty h p i = ap is_simple h
agrees_simple o seen.Print h p i = cc
agrees_simple o seen.If h p i = absurd (false_true (sym (ap is_plain h) ∙ p))
agrees_simple o seen.While h p i = absurd (false_true (sym (ap is_plain h) ∙ p))
agrees_simple o seen.Until h p i = absurd (false_true (sym (ap is_plain h) ∙ p))
agrees_simple o seen.Do h p i = absurd (false_true (sym (ap is_plain h) ∙ p))
agrees_simple o seen.For h p i = absurd (false_true (sym (ap is_plain h) ∙ p))
agrees_simple o seen.Repeat h p i = absurd (false_true (sym (ap is_plain h) ∙ p))
agrees_simple o seen.Break h p i = cc
agrees_simple o seen.Continue h p i = cc
agrees_simple o seen.Return h p i = cc
agrees_simple o seen.Fun h p i = ap is_simple h
agrees_simple o seen.Class h p i = ap is_simple h
agrees_simple o seen.Public h p i = ap is_simple h
agrees_simple o seen.Nothing h p i = ap is_simple h

pub sees_plain_else : (s : Seen) → (s ≡ seen.Block → ⊥) → (s ≡ seen.If → ⊥)
    → (s ≡ seen.While → ⊥) → (s ≡ seen.Until → ⊥) → (s ≡ seen.Repeat → ⊥) → (s ≡ seen.Do → ⊥)
    → (s ≡ seen.For → ⊥) → sees_plain s ≡ true
sees_plain_else seen.Block h0 h1 h2 h3 h4 h5 h6 = absurd (h0 refl)
sees_plain_else seen.If h0 h1 h2 h3 h4 h5 h6 = absurd (h1 refl)
sees_plain_else seen.While h0 h1 h2 h3 h4 h5 h6 = absurd (h2 refl)
sees_plain_else seen.Until h0 h1 h2 h3 h4 h5 h6 = absurd (h3 refl)
sees_plain_else seen.Repeat h0 h1 h2 h3 h4 h5 h6 = absurd (h4 refl)
sees_plain_else seen.Do h0 h1 h2 h3 h4 h5 h6 = absurd (h5 refl)
sees_plain_else seen.For h0 h1 h2 h3 h4 h5 h6 = absurd (h6 refl)
sees_plain_else _ h0 h1 h2 h3 h4 h5 h6 = refl

pub sees_simple_else : (s : Seen) → (s ≡ seen.Print → ⊥) → (s ≡ seen.Return → ⊥)
    → (s ≡ seen.Break → ⊥) → (s ≡ seen.Continue → ⊥) → sees_simple s ≡ true
sees_simple_else seen.Print h0 h1 h2 h3 = absurd (h0 refl)
sees_simple_else seen.Return h0 h1 h2 h3 = absurd (h1 refl)
sees_simple_else seen.Break h0 h1 h2 h3 = absurd (h2 refl)
sees_simple_else seen.Continue h0 h1 h2 h3 = absurd (h3 refl)
sees_simple_else _ h0 h1 h2 h3 = refl

-- the statement goes on as one of an expression
pub expr_of_stmt : (ts : List Token) (d : ℕ) → {x : Token} {rest : List Token} → ts ≡ x ∷ rest
    → is_simple (opening x.line x.kind) ≡ true
    → Leads (λ (k : KS). a_stmt d k) (λ k. an_expr_stmt d k) ts ts
expr_of_stmt ts d {x} {rest} e h = subst (λ y.
    Leads (λ (k : KS). a_stmt d k) (λ k. an_expr_stmt d k) y y) (sym e)
    (record {
      by = λ k. ap (resume is_shallow (suc (length rest)) (λ q. left rest q))
          (simple_step d x.line (opening x.line x.kind) k h);
    })

pub plain_here : (ts : List Token) {x : Token} {rest : List Token} → ts ≡ x ∷ rest
    → is_plain (opening x.line x.kind) ≡ true → has_plain ts ≡ true
plain_here ts e h = ap has_plain e ∙ h

pub plain_at : (ts : List Token) {x : Token} {rest : List Token} → ts ≡ x ∷ rest
    → has_plain ts ≡ true → is_plain (opening x.line x.kind) ≡ true
plain_at ts e h = ap has_plain (sym e) ∙ h

-- ---- the end of a `do`

-- behind the test
abbrev pub with_test : (d l : ℕ) → (Expr → Stmt) → KS → Expr → State
with_test d l f k e = ends d (k (f e))

pub in_do_while : {s : Stmt} {a b : List Token} (d l : ℕ) → Then (Word w.While) a b
    → d ≤ MAX_NESTING
    → Leads (λ (k : KS). do_end d l s k) (λ k. a_test d (with_test d l (t.do_while l s) k)) a b
in_do_while {s = s} d l q h = may_come (a_word w.While) d
    (λ k. a_test d (with_test d l (t.do_while l s) k))
    (λ k. sign d (a_word w.Until) (a_test d (with_test d l (t.do_until l s) k))) q h

not_while : {s : Stmt} (a : List Token) (d l : ℕ) → has (a_word w.While) a ≡ false
    → Leads (λ (k : KS). do_end d l s k)
    (λ k. sign d (a_word w.Until) (a_test d (with_test d l (t.do_until l s) k))) a a
not_while {s = s} a d l h = may_not a (a_word w.While) d
    (λ k. a_test d (with_test d l (t.do_while l s) k))
    (λ k. sign d (a_word w.Until) (a_test d (with_test d l (t.do_until l s) k))) h

pub no_until : (s : Stmt) (a : List Token) (d l : ℕ) (e : Fault) → has (a_word w.While) a
    ≡ false → Missing (a_word w.Until) a e → StopsAt (λ (k : KS). do_end d l s k) a e
no_until s a d l e h q = stops_onward e (not_while {s = s} a d l h)
    (no_sign a (a_word w.Until) d (λ k. a_test d (with_test d l (t.do_until l s) k)) e q)

pub in_do_until : {s : Stmt} {a b : List Token} (d l : ℕ) → has (a_word w.While) a ≡ false
    → Then (Word w.Until) a b → d ≤ MAX_NESTING
    → Leads (λ (k : KS). do_end d l s k) (λ k. a_test d (with_test d l (t.do_until l s) k)) a b
in_do_until {s = s} {a = a} d l n q h = onward (not_while {s = s} a d l n)
    (past_sign (a_word w.Until) d (λ k. a_test d (with_test d l (t.do_until l s) k)) q h)

-- ---- statements with others inside

-- one deeper
pub stmt_deeper : {s : Stmt} {a b : List Token} (d e : ℕ) → e ≡ suc d
    → Leads (λ (k : KS). a_stmt e k) (λ k. k s) a b
    → Leads (λ (k : KS). a_stmt (suc d) k) (λ k. k s) a b
stmt_deeper {s = s} {a = a} {b = b} d e p h =
    subst (λ z. Leads (λ (k : KS). a_stmt z k) (λ k. k s) a b) p h

pub fault_deeper : (a : List Token) (d e : ℕ) (f : Fault) → e ≡ suc d
    → StopsAt (λ (k : KS). a_stmt e k) a f → StopsAt (λ (k : KS). a_stmt (suc d) k) a f
fault_deeper a d e f p h = subst (λ z. StopsAt (λ (k : KS). a_stmt z k) a f) p h

pub stmts_deeper : {X : Type 0} (T : X → (Stmts → State) → State) (rest : X → List Token)
    (a : List Token) (d e : ℕ) (r : Result X Fault) → e ≡ suc d
    → Reads (λ (k : Stmts → State). stmts e t.no_stmts k) T rest a r
    → Reads (λ (k : Stmts → State). stmts (suc d) t.no_stmts k) T rest a r
stmts_deeper T rest a d e r p h =
    subst (λ z. Reads (λ (k : Stmts → State). stmts z t.no_stmts k) T rest a r) p h

-- behind the body of an `if`
abbrev pub if_rest : ℕ → ℕ → KS → Expr → Stmt → State
if_rest d l k e s =
    may d (a_word w.Else) (a_stmt (suc d) (λ r. k (t.if_else l e s r))) (k (t.if_then l e s))

abbrev pub with_else : ℕ → Expr → Stmt → KS → Stmt → State
with_else l e s k r = k (t.if_else l e s r)

pub in_else : {x : Expr} {s : Stmt} {a b c : List Token} (d l : ℕ)
    → Leads (λ (k : Expr → Stmt → State). tested d k) (λ k. k x s) a b → Then (Word w.Else) b c
    → d ≤ MAX_NESTING
    → Leads (λ (k : KS). after_if d l k) (λ k. a_stmt (suc d) (with_else l x s k)) a c
in_else {x = x} {s = s} d l h q i = onward (inside (λ k. if_rest d l k) h)
    (may_come (a_word w.Else) d (λ k. a_stmt (suc d) (with_else l x s k))
    (λ k. k (t.if_then l x s)) q i)

pub no_else : {x : Expr} {s : Stmt} {a b : List Token} (d l : ℕ)
    → Leads (λ (k : Expr → Stmt → State). tested d k) (λ k. k x s) a b → has (a_word w.Else) b
    ≡ false → Leads (λ (k : KS). after_if d l k) (λ k. k (t.if_then l x s)) a b
no_else {x = x} {s = s} {b = b} d l h q = onward (inside (λ k. if_rest d l k) h)
    (may_not b (a_word w.Else) d (λ k. a_stmt (suc d) (with_else l x s k))
    (λ k. k (t.if_then l x s)) q)
