-- What the machine makes of the parentheses of a `for`, and of what stands behind them.
use Rattle.std.proofs.Common.{◌≡◌, ℕ, suc, ◌≤◌, List, false, Option, Some, None, Err, refl, sym}
use Rattle.std.proofs.Common.{ap, subst}
use Rattle.std.specs.Global.{Box}
use Rattle.ck_base.specs.declared.limits.TheConstants.{MAX_NESTING}
use Rattle.ck_lexer.specs.declared.mark.Mark.TheVariants as m
use Rattle.ck_lexer.specs.declared.token.Token.{Token}
use Rattle.ck_lexer.specs.declared.token.TokenKind.TheVariants.{Mark}
use Rattle.ck_parser.specs.declared.stmt_node.ForStart.{ForStart}
use Rattle.ck_parser.specs.declared.stmt_node.ForStart.TheVariants as start
use Rattle.ck_parser.specs.Statements.{BehindStart, a_for_rest, a_for_start, after_for}
use Rattle.ck_parser.specs.Statements.{behind_start, each_of, has_colon, next_line, start_next, stmt_of}
use Rattle.parse_exprs.specs.declared.fault.Fault.{Fault}
use Rattle.parse_exprs.specs.Machine.{State, a_stmt, chucks, colon_or, declares_or, each_or}
use Rattle.parse_exprs.specs.Machine.{each_pairs, first_operand, first_start, simple_end}
use Rattle.parse_exprs.specs.Operands.{Behind, closed, operand_from}
use Rattle.parse_exprs.specs.Reads.{Deepens, Leads, StopsAt}
use Rattle.parse_exprs.specs.Tokens.{Opening, Then, then, a_mark, has, opening, opens_empty}
use Rattle.parse_exprs.proofs.Made.{may_come, may_not}
use Rattle.parse_exprs.proofs.Steps.{deepened, inside, one_token, onward}
use Rattle.parse_exprs.proofs.Steps.{token}
use Rattle.ck_parser.proofs.MadeStmt.{K1, KS, alike, has_at, here, is_empty, not_empty, stops_in}
use Rattle.ck_parser.proofs.MadeStmt.{then_inside}
use Rattle.ck_syntax.specs.Tree as t
use Rattle.ck_syntax.specs.Tree.{Declr, Expr, Stmt, declr_name}
use Rattle.ck_syntax.specs.View.{view_declr, view_tail}
use Rattle.ck_syntax.specs.declared.declaration.DeclHead.{DeclHead}
use Rattle.ck_syntax.specs.declared.expr.Declarator.{Declarator}
use Rattle.ck_syntax.specs.declared.expr.DeclaratorTail as tail
use Rattle.ck_syntax.specs.declared.stmt.LoopItem.{LoopItem}
use Rattle.ck_syntax.specs.declared.stmt.Stmt.{Stmt as StmtNode}

-- ---- the beginning of the parentheses

abbrev pub KH : Type 0
KH = BehindStart → State

-- a semicolon alone
pub empty_start : {ts rest : List Token} (d l : ℕ) → Then (Mark m.Semicolon) ts rest
    → l ≡ next_line ts → d ≤ MAX_NESTING
    → Leads (λ (h : BehindStart). a_for_start d h) (λ h. h.stmt (t.empty l)) ts rest
empty_start {rest = rest} d l (then {l = i} {a = a}) e h = record {
  by = λ k.
      one_token (record { kind = Mark m.Semicolon; line = i; at = a }) rest (a_for_start d k)
      (k.stmt (t.empty l)) d (ap (λ z. Some (d, k.stmt (t.empty z))) (sym e)) h;
}

-- what is to come behind a first operand
abbrev pub behind_operand : ℕ → BehindStart → Behind
behind_operand d h = record {
  declaration = each_or d h.item h.stmt;
  value = λ e c. chucks c e (simple_end d h.stmt);
}

not_empty_start : (d l : ℕ) (h : BehindStart) (o : Opening) → is_empty o ≡ false
    → first_start d l o h.item h.stmt
    ≡ first_operand d l o (each_or d h.item h.stmt) (λ e c. chucks c e (simple_end d h.stmt))
not_empty_start d l h opens_empty e = cc
not_empty_start d l h _ e = refl

pub operand_of_start : (ts : List Token) (d : ℕ) → has (a_mark m.Semicolon) ts ≡ false
    → Leads (λ (h : BehindStart). a_for_start d h) (λ h. operand_from d (behind_operand d h)) ts ts
operand_of_start ts d h = alike (λ (h : BehindStart). a_for_start d h)
    (λ h. operand_from d (behind_operand d h)) ts (λ h. refl)
    (λ k x rest e. not_empty_start d x.line k (opening x.line x.kind)
    (not_empty x.line x.kind (has_at (a_mark m.Semicolon) e h)))

pub name_of : (x : Declarator) → declr_name (view_declr x) ≡ x.name
name_of x = go x.tail
  where
    go : (y : tail.DeclaratorTail) → declr_name (view_tail x.name y) ≡ x.name
    go (tail.Brackets' shape bs) = refl
    go (tail.Arguments' shape es) = refl

-- a ':' behind what may be an item
pub an_item : {ts rest : List Token} {q : ℕ} {n : t.Name} (d l : ℕ) (h : DeclHead) (x : Declr)
    → each_pairs h x ≡ Some q → declr_name x ≡ n → Then (Mark m.Colon) ts rest → d ≤ MAX_NESTING
    → Leads (λ (k : BehindStart). each_or d k.item k.stmt l h x) (λ k. k.item h n q) ts rest
an_item {ts = ts} {rest = rest} {q = q} d l h x e name colon i = subst
    (λ n. Leads (λ (k : BehindStart). each_or d k.item k.stmt l h x) (λ k. k.item h n q) ts rest)
    name
    (subst (λ o. Leads (λ (k : BehindStart). colon_or d k.item h x o (declares_or d k.stmt l h x))
    (λ k. k.item h (declr_name x) q) ts rest) (sym e)
    (may_come (a_mark m.Colon) d (λ (k : BehindStart). k.item h (declr_name x) q)
    (λ k. declares_or d k.stmt l h x) colon i))

no_item_of : (ts : List Token) (d l : ℕ) (h : DeclHead) (x : Declr) (o : Option ℕ)
    → has_colon o ts ≡ false
    → Leads (λ (k : BehindStart). colon_or d k.item h x o (declares_or d k.stmt l h x))
    (λ k. declares_or d k.stmt l h x) ts ts
no_item_of ts d l h x None e = here (λ (k : BehindStart). declares_or d k.stmt l h x) ts
no_item_of ts d l h x (Some q) e = may_not ts (a_mark m.Colon) d
    (λ (k : BehindStart). k.item h (declr_name x) q) (λ k. declares_or d k.stmt l h x) e

pub no_item : (ts : List Token) (d l : ℕ) (h : DeclHead) (x : Declr)
    → has_colon (each_pairs h x) ts ≡ false
    → Leads (λ (k : BehindStart). each_or d k.item k.stmt l h x)
    (λ k. declares_or d k.stmt l h x) ts ts
no_item ts d l h x e = no_item_of ts d l h x (each_pairs h x) e

-- ---- the parentheses

abbrev for_inside : ℕ → ℕ → ℕ → KS → State
for_inside d l e k = a_for_start e (behind_start d l k)

in_for : {a b : List Token} (d l e : ℕ) → Then (Mark m.LeftParen) a b → e ≡ suc d
    → e ≤ MAX_NESTING → Leads (λ (k : KS). after_for d l k) (λ k. for_inside d l e k) a b
in_for d l e q p h = token (λ (k : KS). after_for d l k) (λ k. for_inside d l e k) e q h
    (λ i a k. ap (λ z. Some (z, for_inside d l z k)) (sym p))

pub deep_for : {a b : List Token} (d l : ℕ) (e : Fault) → Then (Mark m.LeftParen) a b
    → Deepens d a (Err e) → StopsAt (λ (k : KS). after_for d l k) a e
deep_for d l e q h = deepened (λ (k : KS). after_for d l k) (λ k. for_inside d l (suc d) k) d e q h
    (λ i a k. refl)

pub start_fault : {ts a : List Token} (d l e : ℕ) (f : Fault) → Then (Mark m.LeftParen) ts a
    → e ≡ suc d → e ≤ MAX_NESTING → StopsAt (λ (h : BehindStart). a_for_start e h) a f
    → StopsAt (λ (k : KS). after_for d l k) ts f
start_fault {ts = ts} {a = a} d l e f q p h r = stops_in (λ (k : KS). after_for d l k)
    (λ (h : BehindStart). a_for_start e h) (λ k. behind_start d l k) ts a f (in_for d l e q p h) r

-- where the beginning was read
abbrev Started : ℕ → ℕ → ForStart → List Token → List Token → Type 0
Started d l s ts b =
    Leads (λ (k : KS). after_for d l k) (λ k. start_next s (behind_start d l k)) ts b

pub made_start : {ts a b : List Token} (s : ForStart) (d l e : ℕ) → Then (Mark m.LeftParen) ts a
    → e ≡ suc d → e ≤ MAX_NESTING
    → Leads (λ (h : BehindStart). a_for_start e h) (λ h. start_next s h) a b
    → Started d l s ts b
made_start s d l e q p h r = onward (in_for d l e q p h) (inside (λ k. behind_start d l k) r)

started_as : {s q : ForStart} {ts b : List Token} (d l : ℕ) → s ≡ q → Started d l s ts b
    → Started d l q ts b
started_as {ts = ts} {b = b} d l h r = subst (λ s. Started d l s ts b) h r

-- ---- three parts

-- behind the parentheses
abbrev three_body : ℕ → ℕ → Stmt → KS → Stmt → Option Expr → State
three_body d l x k y e = a_stmt (suc d) (λ s. k (t.for_do l x y e s))

rest_deeper : {ts a : List Token} {y : Stmt} {o : Option Expr} (d e : ℕ) → e ≡ suc d
    → Leads (λ (k : Stmt → Option Expr → State). a_for_rest e k) (λ k. k y o) ts a
    → Leads (λ (k : Stmt → Option Expr → State). a_for_rest (suc d) k) (λ k. k y o) ts a
rest_deeper {ts = ts} {a = a} {y = y} {o = o} d e p h = subst (λ z.
    Leads (λ (k : Stmt → Option Expr → State). a_for_rest z k) (λ k. k y o) ts a) p h

pub rest_fault : {s : ForStart} {x : Box StmtNode} (ts b : List Token) (d l e : ℕ) (f : Fault)
    → s ≡ start.Stmt x → Started d l s ts b → e ≡ suc d
    → StopsAt (λ (k : Stmt → Option Expr → State). a_for_rest e k) b f
    → StopsAt (λ (k : KS). after_for d l k) ts f
rest_fault {x = x} ts b d l e f is r p h = stops_in (λ (k : KS). after_for d l k)
    (λ (k : Stmt → Option Expr → State). a_for_rest (suc d) k) (three_body d l (stmt_of x)) ts b f
    (started_as d l is r)
    (subst (λ z. StopsAt (λ (k : Stmt → Option Expr → State). a_for_rest z k) b f) p h)

-- where the parentheses were read: the statement, by its body
abbrev pub Headed : ℕ → ℕ → (Stmt → Stmt) → List Token → List Token → Type 0
Headed d l f ts b =
    Leads (λ (k : KS). after_for d l k) (λ k. a_stmt (suc d) (λ s. k (f s))) ts b

pub made_rest : {s : ForStart} {x : Box StmtNode} {y : Stmt} {o : Option Expr}
    (ts b c : List Token) (d l e : ℕ) → s ≡ start.Stmt x → Started d l s ts b → e ≡ suc d
    → Leads (λ (k : Stmt → Option Expr → State). a_for_rest e k) (λ k. k y o) b c
    → Headed d l (t.for_do l (stmt_of x) y o) ts c
made_rest {x = x} {y = y} {o = o} ts b c d l e is r p h = then_inside (λ (k : KS). after_for d l k)
    (λ (k : Stmt → Option Expr → State). a_for_rest (suc d) k) (λ k. k y o)
    (three_body d l (stmt_of x)) ts b c (started_as d l is r) (rest_deeper d e p h)

-- ---- the items of an array

abbrev each_body : ℕ → ℕ → LoopItem → KS → Expr → State
each_body d l x k e = a_stmt (suc d) (λ s. k (each_of l x e s))

pub array_fault : {s : ForStart} {x : LoopItem} (ts b : List Token) (d l e : ℕ) (f : Fault)
    → s ≡ start.Item x → Started d l s ts b → e ≡ suc d
    → StopsAt (λ (k : K1). closed e (a_mark m.RightParen) k) b f
    → StopsAt (λ (k : KS). after_for d l k) ts f
array_fault {x = x} ts b d l e f is r p h = stops_in (λ (k : KS). after_for d l k)
    (λ (k : K1). closed (suc d) (a_mark m.RightParen) k) (each_body d l x) ts b f
    (started_as d l is r)
    (subst (λ z. StopsAt (λ (k : K1). closed z (a_mark m.RightParen) k) b f) p h)

pub made_array : {s : ForStart} {x : LoopItem} {y : Expr} (ts b c : List Token) (d l e : ℕ)
    → s ≡ start.Item x → Started d l s ts b → e ≡ suc d
    → Leads (λ (k : K1). closed e (a_mark m.RightParen) k) (λ k. k y) b c
    → Headed d l (each_of l x y) ts c
made_array {x = x} {y = y} ts b c d l e is r p h = then_inside (λ (k : KS). after_for d l k)
    (λ (k : K1). closed (suc d) (a_mark m.RightParen) k) (λ k. k y) (each_body d l x) ts b c
    (started_as d l is r)
    (subst (λ z. Leads (λ (k : K1). closed z (a_mark m.RightParen) k) (λ k. k y) b c) p h)

-- ---- the body

abbrev with_body : (Stmt → Stmt) → KS → KS
with_body f k s = k (f s)

pub body_fault : (f : Stmt → Stmt) (ts b : List Token) (d l : ℕ) (e : Fault) → Headed d l f ts b
    → StopsAt (λ (k : KS). a_stmt (suc d) k) b e → StopsAt (λ (k : KS). after_for d l k) ts e
body_fault f ts b d l e r h = stops_in (λ (k : KS). after_for d l k)
    (λ (k : KS). a_stmt (suc d) k) (with_body f) ts b e r h

pub made_body : {s z : Stmt} (f : Stmt → Stmt) (ts b c : List Token) (d l : ℕ) → Headed d l f ts b
    → Leads (λ (k : KS). a_stmt (suc d) k) (λ k. k s) b c → z ≡ f s
    → Leads (λ (k : KS). after_for d l k) (λ k. k z) ts c
made_body {s = s} f ts b c d l r h e = subst
    (λ z. Leads (λ (k : KS). after_for d l k) (λ k. k z) ts c) (sym e)
    (then_inside (λ (k : KS). after_for d l k) (λ (k : KS). a_stmt (suc d) k) (λ k. k s)
    (with_body f) ts b c r h)
