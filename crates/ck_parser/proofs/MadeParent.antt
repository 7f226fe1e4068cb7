-- What the machine makes of the class that a class extends, and of a block.
use Rattle.std.proofs.Common.{◌≡◌, List, false, Option, Some, None, arith}
use Rattle.ck_lexer.specs.declared.mark.Mark.TheVariants as m
use Rattle.ck_lexer.specs.declared.token.Token.{Token}
use Rattle.ck_lexer.specs.declared.token.TokenKind.TheVariants.{Mark, Name, Word}
use Rattle.ck_lexer.specs.declared.word.Word.TheVariants as w
use Rattle.parse_exprs.specs.declared.fault.Fault.{Fault}
use Rattle.parse_exprs.specs.Machine.{State, a_block, a_name, sign, stmts}
use Rattle.ck_parser.specs.Items.{a_parent}
use Rattle.parse_exprs.specs.Reads.{Leads, Missing, NoName, StopsAt}
use Rattle.parse_exprs.specs.Tokens.{Then, a_mark, a_word, has}
use Rattle.parse_exprs.proofs.Made.{may_come, may_not}
use Rattle.parse_exprs.proofs.Steps.{inside, no_name, no_sign, onward, past_name, past_sign}
use Rattle.parse_exprs.proofs.Steps.{stops_inside, stops_onward}
use Rattle.ck_syntax.specs.Tree as t
use Rattle.ck_syntax.specs.Tree.{Stmts, no_stmts}

-- ---- the class that a class extends

abbrev KO : Type 0
KO = Option t.Name → State

abbrev some_of : KO → t.Name → State
some_of k n = k (Some n)

extends : {ts a : List Token} → Then (Word w.Extends) ts a
    → Leads (λ (k : KO). a_parent k) (λ k. a_name 0 (some_of k)) ts a
extends h = may_come (a_word w.Extends) 0 (λ (k : KO). a_name 0 (some_of k)) (λ k. k None) h
    (omega arith)

pub no_parent_name : {ts a : List Token} (e : Fault) → Then (Word w.Extends) ts a → NoName a e
    → StopsAt (λ (k : KO). a_parent k) ts e
no_parent_name {a = a} e h r = stops_onward e (extends h) (no_name a 0 (λ (k : KO). some_of k) e r)

pub made_parent : {n : t.Name} {ts a b : List Token} → Then (Word w.Extends) ts a
    → Then (Name n) a b → Leads (λ (k : KO). a_parent k) (λ k. k (Some n)) ts b
made_parent h r = onward (extends h) (past_name 0 (λ (k : KO). some_of k) r (omega arith))

pub no_parent : (ts : List Token) → has (a_word w.Extends) ts ≡ false
    → Leads (λ (k : KO). a_parent k) (λ k. k None) ts ts
no_parent ts h =
    may_not ts (a_word w.Extends) 0 (λ (k : KO). a_name 0 (some_of k)) (λ k. k None) h

-- ---- a block

abbrev KB : Type 0
KB = Stmts → State

abbrev closing : KB → Stmts → State
closing k ss = sign 0 (a_mark m.RightBrace) (k ss)

opened : {ts a : List Token} → Then (Mark m.LeftBrace) ts a
    → Leads (λ (k : KB). a_block k) (λ k. stmts 1 no_stmts (closing k)) ts a
opened h = past_sign (a_mark m.LeftBrace) 0 (λ (k : KB). stmts 1 no_stmts (closing k)) h
    (omega arith)

pub no_open : (ts : List Token) (e : Fault) → Missing (a_mark m.LeftBrace) ts e
    → StopsAt (λ (k : KB). a_block k) ts e
no_open ts e h =
    no_sign ts (a_mark m.LeftBrace) 0 (λ (k : KB). stmts 1 no_stmts (closing k)) e h

pub body_fault : {ts : List Token} (a : List Token) (e : Fault) → Then (Mark m.LeftBrace) ts a
    → StopsAt (λ (k : KB). stmts 1 no_stmts k) a e → StopsAt (λ (k : KB). a_block k) ts e
body_fault a e h r = stops_onward e (opened h)
    (stops_inside (λ (k : KB). stmts 1 no_stmts k) a (λ (k : KB). closing k) e r)

body_read : {ts a b : List Token} {ss : Stmts} → Then (Mark m.LeftBrace) ts a
    → Leads (λ (k : KB). stmts 1 no_stmts k) (λ k. k ss) a b
    → Leads (λ (k : KB). a_block k) (λ k. closing k ss) ts b
body_read h r = onward (opened h) (inside (λ (k : KB). closing k) r)

pub no_close : {ts a b : List Token} {ss : Stmts} (e : Fault) → Then (Mark m.LeftBrace) ts a
    → Leads (λ (k : KB). stmts 1 no_stmts k) (λ k. k ss) a b → Missing (a_mark m.RightBrace) b e
    → StopsAt (λ (k : KB). a_block k) ts e
no_close {b = b} {ss = ss} e h r g = stops_onward e (body_read h r)
    (no_sign b (a_mark m.RightBrace) 0 (λ (k : KB). k ss) e g)

pub made_block : {ts a b c : List Token} {ss : Stmts} → Then (Mark m.LeftBrace) ts a
    → Leads (λ (k : KB). stmts 1 no_stmts k) (λ k. k ss) a b → Then (Mark m.RightBrace) b c
    → Leads (λ (k : KB). a_block k) (λ k. k ss) ts c
made_block {ss = ss} h r g = onward (body_read h r)
    (past_sign (a_mark m.RightBrace) 0 (λ (k : KB). k ss) g (omega arith))
