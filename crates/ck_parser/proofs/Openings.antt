-- What a form of the grammar begins with.
use Rattle.std.proofs.Common.{Option}
use Rattle.std.proofs.Common.{ℕ, ◌≤◌, List, [], ◌∷◌}
use Rattle.std.proofs.Common.{sym, subst, arith}
use Rattle.ck_lexer.specs.declared.token.Token.{Token}
use Rattle.ck_parser.specs.Grammar.{IsHeadBase, of_typed, of_auto}
use Rattle.ck_parser.specs.Grammar.{IsBase, of_word, of_class}
use Rattle.ck_parser.specs.Grammar.{IsHead, of_head}
use Rattle.ck_parser.specs.Grammar.{of_static, IsPrimary, of_atom, of_name, of_paren, of_array}
use Rattle.ck_parser.specs.Grammar.{IsPostfix, of_primary}
use Rattle.ck_parser.specs.Grammar.{of_call_empty, of_call, of_index, of_member, of_postfix, IsDur}
use Rattle.ck_parser.specs.Grammar.{of_one, of_dur, IsUnary}
use Rattle.ck_parser.specs.Grammar.{of_plain, of_prefix, of_new, of_new_with, of_spork, IsCast, of_unary}
use Rattle.ck_parser.specs.Grammar.{of_cast, IsLevel, of_operand, of_tighter, of_binary, IsCond}
use Rattle.ck_parser.specs.Grammar.{of_or, of_choice}
use Rattle.ck_parser.specs.Grammar.{IsOperand, of_declare, of_cond, IsExpr}
use Rattle.ck_parser.specs.Grammar.{of_single, of_chuck}
use Rattle.parse_exprs.specs.Tokens.{opens_auto}
use Rattle.parse_exprs.specs.Tokens.{begins, Opening, atom, named, prefixed, based}
use Rattle.parse_exprs.specs.Tokens.{opens_paren, opens_array, opens_new, opens_spork, opens_static}
use Rattle.parse_exprs.specs.Tokens.{opens_fun, opens_class, opens_public, opens_nothing, opening}
use Rattle.ck_syntax.specs.Tree.{Expr}
use Rattle.ck_syntax.specs.declared.declaration.Base.{Base}
use Rattle.ck_syntax.specs.declared.declaration.DeclHead.{DeclHead}

-- 0 a Postfix, 1 a Unary, 2 an Expr, 3 a Stmt, 4 something else
abbrev pub sort : Opening → ℕ
sort (atom e) = 0
sort (named n) = 0
sort opens_paren = 0
sort opens_array = 0
sort (prefixed o) = 1
sort opens_new = 1
sort opens_spork = 1
sort (based b) = 2
sort opens_static = 2
sort opens_auto = 2
sort opens_fun = 4
sort opens_class = 4
sort opens_public = 4
sort opens_nothing = 4
sort _ = 3

-- the first token begins a form of this sort, or of a lower one
abbrev pub Head : ℕ → List Token → Type 0
Head n [] = ⊥
Head n (x ∷ ts) = sort (opening x.line x.kind) ≤ n

pub higher : (m n : ℕ) (ts : List Token) → m ≤ n → Head m ts → Head n ts
higher m n [] h i = i
higher m n (x ∷ ts) h i = omega arith

opens-base : {l : ℕ} {b : Base} {ts rest : List Token} → IsBase ts l b rest → Head 2 ts
opens-base (of_word begins h) = subst (λ o. sort o ≤ 2) (sym h) (omega arith)
opens-base (of_class begins) = omega arith

opens-head_base : {l : ℕ} {b : Option Base} {ts rest : List Token} → IsHeadBase ts l b rest
    → Head 2 ts
opens-head_base (of_typed b) = opens-base b
opens-head_base (of_auto begins) = omega arith

pub opens-head : {l : ℕ} {h : DeclHead} {ts rest : List Token} → IsHead ts l h rest → Head 2 ts
opens-head (of_head b r) = opens-head_base b
opens-head (of_static begins b r) = omega arith

opens-primary : {ts rest : List Token} {e : Expr} → IsPrimary ts e rest → Head 0 ts
opens-primary (of_atom begins h) = subst (λ o. sort o ≤ 0) (sym h) (omega arith)
opens-primary (of_name begins) = omega arith
opens-primary (of_paren begins i r) = omega arith
opens-primary (of_array begins i r) = omega arith

pub opens-postfix : {ts rest : List Token} {e : Expr} → IsPostfix ts e rest → Head 0 ts
opens-postfix (of_primary i) = opens-primary i
opens-postfix (of_call_empty i p r) = opens-postfix i
opens-postfix (of_call i p j r) = opens-postfix i
opens-postfix (of_index i p j r) = opens-postfix i
opens-postfix (of_member i p n) = opens-postfix i
opens-postfix (of_postfix i p h) = opens-postfix i

opens-dur : {ts rest : List Token} {e : Expr} → IsDur ts e rest → Head 0 ts
opens-dur (of_one i) = opens-postfix i
opens-dur (of_dur i p j) = opens-dur i

opens-unary : {ts rest : List Token} {e : Expr} → IsUnary ts e rest → Head 1 ts
opens-unary {ts} (of_plain i) = higher 0 1 ts (omega arith) (opens-dur i)
opens-unary (of_prefix begins h i) = subst (λ o. sort o ≤ 1) (sym h) (omega arith)
opens-unary (of_new begins b i) = omega arith
opens-unary (of_new_with begins b i) = omega arith
opens-unary (of_spork begins p i) = omega arith

opens-cast : {ts rest : List Token} {e : Expr} → IsCast ts e rest → Head 1 ts
opens-cast (of_unary i) = opens-unary i
opens-cast (of_cast i p k) = opens-cast i

opens-level : {n : ℕ} {ts rest : List Token} {e : Expr} → IsLevel n ts e rest → Head 1 ts
opens-level (of_operand i) = opens-cast i
opens-level (of_tighter i) = opens-level i
opens-level (of_binary i p h e j) = opens-level i

pub opens-cond : {ts rest : List Token} {e : Expr} → IsCond ts e rest → Head 1 ts
opens-cond (of_or i) = opens-level i
opens-cond (of_choice i p j q l) = opens-level i

opens-operand : {ts rest : List Token} {e : Expr} → IsOperand ts e rest → Head 2 ts
opens-operand (of_declare h x) = opens-head h
opens-operand {ts} (of_cond i) = higher 1 2 ts (omega arith) (opens-cond i)

pub opens-expr : {ts rest : List Token} {e : Expr} → IsExpr ts e rest → Head 2 ts
opens-expr (of_single i) = opens-operand i
opens-expr (of_chuck i p h j) = opens-expr i
