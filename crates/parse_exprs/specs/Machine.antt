-- A machine that passes over tokens by what is still to come, and stops at the first token that
-- cannot come.
use Rattle.std.specs.Prelude.{ℕ, zero, suc, nat_le, cond, List, [], ◌∷◌, ◌==◌, length, Bool, true}
use Rattle.std.specs.Prelude.{false, if◌then◌else◌, Option, Some, None}
use Rattle.std.specs.Option.{option_map}
use Rattle.ck_base.specs.declared.limits.TheConstants.{MAX_NESTING}
use Rattle.ck_lexer.specs.declared.mark.Mark.TheVariants as m
use Rattle.ck_lexer.specs.declared.token.Token.{Token}
use Rattle.ck_lexer.specs.declared.token.TokenKind.{TokenKind}
use Rattle.ck_lexer.specs.declared.token.TokenKind.TheVariants.{Mark, Name, End}
use Rattle.ck_lexer.specs.declared.word.Word.TheVariants as w
use Rattle.parse_exprs.specs.declared.follow.Follow.{Follow}
use Rattle.parse_exprs.specs.declared.follow.Follow.TheVariants as f
use Rattle.parse_exprs.specs.Tokens.{Opening, atom, named, prefixed, based, opens_paren}
use Rattle.parse_exprs.specs.Tokens.{opens_array, opens_new, opens_spork, opens_static, opens_auto}
use Rattle.parse_exprs.specs.Tokens.{opens_block}
use Rattle.parse_exprs.specs.Tokens.{opens_empty, opens_print, opens_if, opens_while, opens_until}
use Rattle.parse_exprs.specs.Tokens.{opens_do, opens_for, opens_repeat, opens_break, opens_continue}
use Rattle.parse_exprs.specs.Tokens.{opens_return, opens_fun, opens_class, opens_public, opening}
use Rattle.parse_exprs.specs.Tokens.{follow, level, Sign, a_word, a_mark, a_construct, is_sign}
use Rattle.ck_syntax.specs.Tree as t
use Rattle.ck_syntax.specs.Tree.{Expr, Exprs, Brackets, Declr, Declrs, Stmt, Stmts, Fun, Params}
use Rattle.ck_syntax.specs.Tree.{Member, Members, Class, Item, File, expr_line, no_exprs, and_expr}
use Rattle.ck_syntax.specs.Tree.{no_brackets, and_empty, and_size, declr, declr_with, declr_name}
use Rattle.ck_syntax.specs.Tree.{no_declrs, and_declr}
use Rattle.ck_syntax.specs.Tree.{no_stmts, and_stmt, no_params, and_param, no_members, and_member}
use Rattle.ck_syntax.specs.Tree.{no_items, and_item}
use Rattle.ck_syntax.specs.declared.declaration.Base.{Base}
use Rattle.ck_syntax.specs.declared.declaration.Base.TheVariants.{Class as a_class}
use Rattle.ck_syntax.specs.declared.declaration.DeclHead.{DeclHead}
use Rattle.ck_syntax.specs.declared.declaration.TypeName.{TypeName}
use Rattle.ck_syntax.specs.declared.file.Param.{Param}

-- What is to come next, at which depth, and what then: each is given the tree that came. A
-- tail, as `calls`, has the tree so far and may be over.
pub data State : Type 0 where
  done : File → State
  -- this word, mark or name
  sign : ℕ → Sign → State → State
  -- this word, mark or name and then the first, or else the second
  may : ℕ → Sign → State → State → State
  a_name : ℕ → (t.Name → State) → State
  a_base : ℕ → (Base → State) → State
  -- ('[' ']')*
  pairs : ℕ → ℕ → (ℕ → State) → State
  -- a Postfix, or Unary; to each is given the depth behind it too
  postfix : ℕ → (Expr → ℕ → State) → State
  unary : ℕ → (Expr → ℕ → State) → State
  -- a declaration, or a Cond
  operand : ℕ → (ℕ → DeclHead → Declr → State) → (Expr → ℕ → State) → State
  -- '@'? Name
  declared : ℕ → (Bool → t.Name → State) → State
  -- the same, or else what goes on with a name
  declared_or : ℕ → (Bool → t.Name → State) → State → State
  -- what goes on with a Postfix, Dur, Cast, level, Or, Expr
  calls : ℕ → Expr → (Expr → ℕ → State) → State
  durs : ℕ → Expr → (Expr → ℕ → State) → State
  casts : ℕ → Expr → (Expr → ℕ → State) → State
  joins : ℕ → ℕ → Expr → (Expr → ℕ → State) → State
  asks : ℕ → Expr → (Expr → ℕ → State) → State
  chucks : ℕ → Expr → (Expr → State) → State
  -- ('[' Expr? ']')*, ('[' Expr ']')*, (',' Expr)*, (',' Declr)*
  brackets : ℕ → Brackets → (Brackets → State) → State
  sizes : ℕ → Exprs → (Exprs → State) → State
  more_exprs : ℕ → Exprs → (Exprs → State) → State
  more_declrs : ℕ → Declrs → (Declrs → State) → State
  an_expr_stmt : ℕ → (Stmt → State) → State
  -- the same, or what stands before the ':' in the parentheses of a `for`, and the ':'
  for_start : ℕ → (DeclHead → t.Name → ℕ → State) → (Stmt → State) → State
  a_stmt : ℕ → (Stmt → State) → State
  -- Stmt*, (',' Par)*, (FunDef | Stmt)*, Item* End
  stmts : ℕ → Stmts → (Stmts → State) → State
  more_params : ℕ → Params → (Params → State) → State
  members : Members → (Members → State) → State
  items : File → State

-- the depth of the token, and what is to come after it; None: it cannot come
abbrev pub Next : Type 0
Next = Option (ℕ × State)

abbrev pub or_else : Next → Next → Next
or_else None r = r
or_else (Some x) r = Some x

abbrev pub given : Bool → ℕ → State → Next
given false d s = None
given true d s = Some (d, s)

-- ---- what is to come, made of the states

-- what goes on with a Cast and the levels below n
abbrev pub joined : ℕ → ℕ → Expr → (Expr → ℕ → State) → State
joined zero d e k = casts d e k
joined (suc n) d e k = joined n d e (λ g c. joins n c g k)

-- the same of the whole Cond
abbrev pub cond_rest : ℕ → Expr → (Expr → ℕ → State) → State
cond_rest d e k = joined 10 d e (λ g c. asks c g k)

abbrev pub a_cond : ℕ → (Expr → ℕ → State) → State
a_cond d k = unary d (λ e c. cond_rest c e k)

abbrev pub an_expr : ℕ → (Expr → State) → State
an_expr d k = operand d (λ l h x. chucks d (t.declare l h x) k) (λ e c. chucks c e k)

abbrev pub some_exprs : ℕ → (Exprs → State) → State
some_exprs d k = an_expr d (λ e. more_exprs d (and_expr no_exprs e) k)

abbrev pub a_type : ℕ → (TypeName → State) → State
a_type d k = a_base d (λ b. pairs d 0 (λ n. k (record { base = b; brackets = n })))

-- Base | 'auto'
abbrev pub a_head_base : ℕ → (Option Base → State) → State
a_head_base d k = may d (a_word w.Auto) (k None) (a_base d (λ b. k (Some b)))

-- (Expr (',' Expr)*)? ')'
abbrev pub arguments : ℕ → (Exprs → State) → State
arguments d k = may d (a_mark m.RightParen) (k no_exprs)
    (some_exprs d (λ es. sign d (a_mark m.RightParen) (k es)))

-- '(' (Expr (',' Expr)*)? ')' or ('[' Expr? ']')*, behind a declared name
abbrev pub declr_rest : ℕ → t.Name → (Declr → State) → State
declr_rest d n k = may (suc d) (a_mark m.LeftParen) (arguments (suc d) (λ es. k (declr_with n es)))
    (brackets d no_brackets (λ bs. k (declr n bs)))

abbrev pub a_declr : ℕ → (Declr → State) → State
a_declr d k = a_name d (λ n. declr_rest d n k)

-- '(' Expr ')'
abbrev pub a_test : ℕ → (Expr → State) → State
a_test d k = sign (suc d) (a_mark m.LeftParen)
    (an_expr (suc d) (λ e. sign (suc d) (a_mark m.RightParen) (k e)))

-- '@'? Declr, behind a base or `auto`
abbrev pub a_declared : ℕ → ℕ → Bool → Option Base → (ℕ → DeclHead → Declr → State) → Bool → t.Name
    → State
a_declared d l s b k r n =
    declr_rest d n (λ x. k l (record { is_static = s; base = b; is_reference = r }) x)

-- '(' (Expr (',' Expr)*)? ')' or ('[' Expr ']')*, behind the base of a `new` of this line
abbrev pub new_rest : ℕ → ℕ → Base → (Expr → State) → State
new_rest d l b k = may (suc d) (a_mark m.LeftParen)
    (arguments (suc d) (λ es. k (t.new_with l b es))) (sizes d no_exprs (λ es. k (t.new l b es)))

-- ---- what is to come after a first token

abbrev pub first_postfix : ℕ → ℕ → Opening → (Expr → ℕ → State) → Next
first_postfix d l (atom e) k = Some (d, calls d e k)
first_postfix d l (named n) k = Some (d, calls d (t.name l n) k)
first_postfix d l opens_paren k = Some
    (suc d, an_expr (suc d) (λ e. sign (suc d) (a_mark m.RightParen) (calls d (t.paren l e) k)))
first_postfix d l opens_array k = Some (
  suc d,
  some_exprs (suc d) (λ es. sign (suc d) (a_mark m.RightBracket) (calls d (t.array l es) k)),
)
first_postfix d l _ k = None

abbrev pub first_unary : ℕ → ℕ → Opening → (Expr → ℕ → State) → Next
first_unary d l (prefixed o) k = Some (suc d, unary (suc d) (λ e c. k (t.prefix l o e) c))
first_unary d l opens_new k =
    Some (suc d, a_base (suc d) (λ b. new_rest (suc d) l b (λ e. k e (suc d))))
first_unary d l opens_spork k =
    Some (suc d, sign (suc d) (a_mark m.Tilde) (postfix (suc d) (λ e c. k (t.spork l e) c)))
first_unary d l o k = first_postfix d l o (λ e c. durs c e k)

abbrev pub first_operand : ℕ → ℕ → Opening → (ℕ → DeclHead → Declr → State) → (Expr → ℕ → State)
    → Next
first_operand d l (based b) h k = Some (d, declared d (a_declared d l false (Some b) h))
first_operand d l opens_auto h k = Some (d, declared d (a_declared d l false None h))
first_operand d l opens_static h k =
    Some (d, a_head_base d (λ b. declared d (a_declared d l true b h)))
first_operand d l (named n) h k = Some (
  d,
  declared_or d (a_declared d l false (Some (a_class n)) h)
      (calls d (t.name l n) (λ e c. durs c e (λ g b. cond_rest b g k))),
)
first_operand d l o h k = first_unary d l o (λ e c. cond_rest c e k)

-- the whole statement of an expression
abbrev pub simple_end : ℕ → (Stmt → State) → Expr → State
simple_end d k e = sign d (a_mark m.Semicolon) (k (t.simple (expr_line e) e))

-- behind the first declarator of a statement: more of them, or what goes on with a declaration
abbrev pub declares_or : ℕ → (Stmt → State) → ℕ → DeclHead → Declr → State
declares_or d k l h x = may d (a_mark m.Comma)
    (a_declr d (λ y. more_declrs d (and_declr (and_declr no_declrs x) y)
    (λ xs. sign d (a_mark m.Semicolon) (k (t.declares l h xs)))))
    (chucks d (t.declare l h x) (simple_end d k))

abbrev pub first_expr_stmt : ℕ → ℕ → Opening → (Stmt → State) → Next
first_expr_stmt d l opens_empty k = Some (d, k (t.empty l))
first_expr_stmt d l o k = first_operand d l o (declares_or d k) (λ e c. chucks c e (simple_end d k))

-- how many pairs of brackets, where none has a size
abbrev pub empty_pairs : Brackets → Option ℕ
empty_pairs no_brackets = Some 0
empty_pairs (and_empty bs) = option_map suc (empty_pairs bs)
empty_pairs (and_size bs e) = None

-- how many the head of a `for` over items has, if it is one
abbrev pub each_pairs : DeclHead → Declr → Option ℕ
each_pairs h (declr n bs) = if h.is_static then None else empty_pairs bs
each_pairs h (declr_with n es) = None

abbrev pub colon_or : ℕ → (DeclHead → t.Name → ℕ → State) → DeclHead → Declr → Option ℕ → State
    → State
colon_or d f h x None s = s
colon_or d f h x (Some q) s = may d (a_mark m.Colon) (f h (declr_name x) q) s

-- behind the first declarator in the parentheses of a `for`: ':' where it may stand, or else what
-- goes on with a statement
abbrev pub each_or : ℕ → (DeclHead → t.Name → ℕ → State) → (Stmt → State) → ℕ → DeclHead → Declr
    → State
each_or d f k l h x = colon_or d f h x (each_pairs h x) (declares_or d k l h x)

abbrev pub first_start : ℕ → ℕ → Opening → (DeclHead → t.Name → ℕ → State) → (Stmt → State)
    → Next
first_start d l opens_empty f k = Some (d, k (t.empty l))
first_start d l o f k = first_operand d l o (each_or d f k) (λ e c. chucks c e (simple_end d k))

-- behind the ':' of a `for`
abbrev pub after_colon : ℕ → ℕ → (Stmt → State) → DeclHead → t.Name → ℕ → State
after_colon d l k h n q = an_expr (suc d) (λ e. sign (suc d) (a_mark m.RightParen)
    (a_stmt (suc d) (λ s. k (t.for_each l h n q e s))))

abbrev pub first_stmt : ℕ → ℕ → Opening → (Stmt → State) → Next
first_stmt d l opens_block k =
    Some (d, stmts (suc d) no_stmts (λ ss. sign d (a_mark m.RightBrace) (k (t.block l ss))))
first_stmt d l opens_print k = Some (
  d,
  some_exprs d
      (λ es. sign d (a_mark m.PrintClose) (sign d (a_mark m.Semicolon) (k (t.print l es)))),
)
first_stmt d l opens_if k = Some (
  d,
  a_test d
      (λ e. a_stmt (suc d) (λ s. may d (a_word w.Else)
      (a_stmt (suc d) (λ r. k (t.if_else l e s r))) (k (t.if_then l e s)))),
)
first_stmt d l opens_while k = Some (d, a_test d (λ e. a_stmt (suc d) (λ s. k (t.while_do l e s))))
first_stmt d l opens_until k = Some (d, a_test d (λ e. a_stmt (suc d) (λ s. k (t.until_do l e s))))
first_stmt d l opens_do k = Some (
  d,
  a_stmt (suc d) (λ s. may d (a_word w.While)
      (a_test d (λ e. sign d (a_mark m.Semicolon) (k (t.do_while l s e))))
      (sign d (a_word w.Until) (a_test d (λ e.
      sign d (a_mark m.Semicolon) (k (t.do_until l s e)))))),
)
first_stmt d l opens_for k = Some (
  d,
  sign (suc d) (a_mark m.LeftParen)
      (for_start (suc d) (after_colon d l k) (λ x. an_expr_stmt (suc d)
      (λ y. may (suc d) (a_mark m.RightParen)
      (a_stmt (suc d) (λ s. k (t.for_do l x y None s)))
      (an_expr (suc d) (λ e. sign (suc d) (a_mark m.RightParen)
      (a_stmt (suc d) (λ s. k (t.for_do l x y (Some e) s)))))))),
)
first_stmt d l opens_repeat k = Some (d, a_test d (λ e. a_stmt (suc d) (λ s. k (t.repeat l e s))))
first_stmt d l opens_break k = Some (d, sign d (a_mark m.Semicolon) (k (t.break l)))
first_stmt d l opens_continue k = Some (d, sign d (a_mark m.Semicolon) (k (t.continue l)))
first_stmt d l opens_return k = Some (
  d,
  may d (a_mark m.Semicolon) (k (t.return l None))
      (an_expr d (λ e. sign d (a_mark m.Semicolon) (k (t.return l (Some e))))),
)
first_stmt d l o k = first_expr_stmt d l o k

-- Block
abbrev pub a_block : (Stmts → State) → State
a_block k =
    sign 0 (a_mark m.LeftBrace) (stmts 1 no_stmts (λ ss. sign 0 (a_mark m.RightBrace) (k ss)))

abbrev pub a_param : (Param → State) → State
a_param k = a_type 1
    (λ b. a_name 1 (λ n. pairs 1 0 (λ q. k (record { kind = b; name = n; brackets = q }))))

-- '(' (Par (',' Par)*)? ')' Block
abbrev pub with_params : (Params → Stmts → State) → State
with_params k = sign 1 (a_mark m.LeftParen) (may 1 (a_mark m.RightParen) (a_block (k no_params))
    (a_param (λ p. more_params 1 (and_param no_params p)
    (λ ps. sign 1 (a_mark m.RightParen) (a_block (k ps))))))

-- a function behind its word and `static`
abbrev pub signature : ℕ → Bool → (Fun → State) → State
signature l s k =
    a_type 0 (λ b. a_name 0 (λ n. with_params (λ ps ss. k (t.fun l s b n ps ss))))

-- a constructor behind its '@'
abbrev pub after_at : ℕ → (Fun → State) → State
after_at l k = sign 0 a_construct (with_params (λ ps ss. k (t.constructor l ps ss)))

abbrev pub after_fun : ℕ → (Fun → State) → State
after_fun l k = may 0 (a_mark m.At) (after_at l k)
    (may 0 (a_word w.Static) (signature l true k) (signature l false k))

-- the braces of a class
abbrev pub class_body : ℕ → Bool → t.Name → Option t.Name → (Class → State) → State
class_body l p n parent k = sign 0 (a_mark m.LeftBrace)
    (members no_members (λ xs. sign 0 (a_mark m.RightBrace) (k (t.class l p n parent xs))))

-- a class behind its word
abbrev pub after_class : ℕ → Bool → (Class → State) → State
after_class l p k = a_name 0 (λ n. may 0 (a_word w.Extends)
    (a_name 0 (λ parent. class_body l p n (Some parent) k)) (class_body l p n None k))

abbrev pub first_member : ℕ → Opening → (Member → State) → Next
first_member l opens_fun k = Some (0, after_fun l (λ x. k (t.fun_member x)))
first_member l o k = first_stmt 1 l o (λ s. k (t.stmt_member s))

abbrev pub first_item : ℕ → Opening → (Item → State) → Next
first_item l opens_fun k = Some (0, after_fun l (λ x. k (t.fun_item x)))
first_item l opens_class k = Some (0, after_class l false (λ x. k (t.class_item x)))
first_item l opens_public k =
    Some (0, sign 0 (a_word w.Class) (after_class l true (λ x. k (t.class_item x))))
first_item l o k = first_stmt 0 l o (λ s. k (t.stmt_item s))

-- ---- what is to come after a token that goes on

abbrev pub next_call : ℕ → Expr → (Expr → ℕ → State) → Follow → Next
next_call d e k f.Call =
    Some (suc d, arguments (suc d) (λ es. calls (suc d) (t.call (expr_line e) e es) k))
next_call d e k f.Index = Some (
  suc d,
  an_expr (suc d)
      (λ i. sign (suc d) (a_mark m.RightBracket) (calls (suc d) (t.index (expr_line e) e i) k)),
)
next_call d e k f.Member =
    Some (suc d, a_name (suc d) (λ n. calls (suc d) (t.member (expr_line e) e n) k))
next_call d e k (f.Postfix o) = Some (suc d, calls (suc d) (t.postfix (expr_line e) e o) k)
next_call d e k _ = None

abbrev pub next_dur : ℕ → Expr → (Expr → ℕ → State) → Follow → Next
next_dur d e k f.Dur = Some (suc d, postfix (suc d) (λ u c. durs c (t.dur (expr_line e) e u) k))
next_dur d e k _ = None

abbrev pub next_cast : ℕ → Expr → (Expr → ℕ → State) → Follow → Next
next_cast d e k f.Cast =
    Some (suc d, a_type (suc d) (λ b. casts (suc d) (t.cast (expr_line e) e b) k))
next_cast d e k _ = None

abbrev pub next_join : ℕ → ℕ → Expr → (Expr → ℕ → State) → Follow → Next
next_join n d e k (f.Binary o) = given (level o == n) (suc d)
    (unary (suc d) (λ g c. joined n c g (λ h b. joins n b (t.binary (expr_line e) e o h) k)))
next_join n d e k _ = None

abbrev pub next_ask : ℕ → Expr → (Expr → ℕ → State) → Follow → Next
next_ask d e k f.Cond = Some (
  suc d,
  an_expr (suc d)
      (λ x. sign (suc d) (a_mark m.Colon) (a_cond (suc d)
      (λ y c. k (t.choice (expr_line e) e x y) c))),
)
next_ask d e k _ = None

abbrev pub next_chuck : ℕ → Expr → (Expr → State) → Follow → Next
next_chuck d e k (f.Chuck o) = Some (
  suc d,
  operand (suc d) (λ l h x. chucks (suc d) (t.chuck (expr_line e) e o (t.declare l h x)) k)
      (λ g c. chucks c (t.chuck (expr_line e) e o g) k),
)
next_chuck d e k _ = None

abbrev pub next_base : ℕ → (Base → State) → Opening → Next
next_base d k (based b) = Some (d, k b)
next_base d k (named n) = Some (d, k (a_class n))
next_base d k _ = None

abbrev pub next_name : ℕ → (t.Name → State) → TokenKind → Next
next_name d k (Name n) = Some (d, k n)
next_name d k _ = None

abbrev pub next_declared : ℕ → (Bool → t.Name → State) → TokenKind → Next
next_declared d k (Name n) = Some (d, k false n)
next_declared d k (Mark m.At) = Some (d, a_name d (k true))
next_declared d k _ = None

abbrev pub next_end : TokenKind → File → Next
next_end End x = Some (0, done x)
next_end _ x = None

-- after a comma, or an opening bracket
abbrev pub after_sign : TokenKind → Sign → ℕ → State → Next
after_sign k j d s = given (is_sign k j) d s

abbrev pub step : State → Token → Next
step (done x) t = None
step (sign d j s) t = after_sign t.kind j d s
step (may d j s r) t = or_else (after_sign t.kind j d s) (step r t)
step (a_name d k) t = next_name d k t.kind
step (a_base d k) t = next_base d k (opening t.line t.kind)
step (pairs d n k) t = or_else (after_sign t.kind (a_mark m.LeftBracket) (suc d)
    (sign (suc d) (a_mark m.RightBracket) (pairs d (suc n) k))) (step (k n) t)
step (postfix d k) t = first_postfix d t.line (opening t.line t.kind) k
step (unary d k) t = first_unary d t.line (opening t.line t.kind) k
step (operand d h k) t = first_operand d t.line (opening t.line t.kind) h k
step (declared d k) t = next_declared d k t.kind
step (declared_or d k r) t = or_else (next_declared d k t.kind) (step r t)
step (calls d e k) t = or_else (next_call d e k (follow t.kind)) (step (k e d) t)
step (durs d e k) t = or_else (next_dur d e k (follow t.kind)) (step (k e d) t)
step (casts d e k) t = or_else (next_cast d e k (follow t.kind)) (step (k e d) t)
step (joins n d e k) t = or_else (next_join n d e k (follow t.kind)) (step (k e d) t)
step (asks d e k) t = or_else (next_ask d e k (follow t.kind)) (step (k e d) t)
step (chucks d e k) t = or_else (next_chuck d e k (follow t.kind)) (step (k e) t)
step (brackets d bs k) t = or_else
    (after_sign t.kind (a_mark m.LeftBracket) (suc d)
    (may (suc d) (a_mark m.RightBracket) (brackets d (and_empty bs) k)
    (an_expr (suc d) (λ e. sign (suc d) (a_mark m.RightBracket)
    (brackets d (and_size bs e) k)))))
    (step (k bs) t)
step (sizes d es k) t = or_else (after_sign t.kind (a_mark m.LeftBracket) (suc d)
    (an_expr (suc d) (λ e. sign (suc d) (a_mark m.RightBracket) (sizes d (and_expr es e) k))))
    (step (k es) t)
step (more_exprs d es k) t = or_else (after_sign t.kind (a_mark m.Comma) d
    (an_expr d (λ e. more_exprs d (and_expr es e) k))) (step (k es) t)
step (more_declrs d xs k) t = or_else (after_sign t.kind (a_mark m.Comma) d
    (a_declr d (λ x. more_declrs d (and_declr xs x) k))) (step (k xs) t)
step (an_expr_stmt d k) t = first_expr_stmt d t.line (opening t.line t.kind) k
step (for_start d f k) t = first_start d t.line (opening t.line t.kind) f k
step (a_stmt d k) t = first_stmt d t.line (opening t.line t.kind) k
step (stmts d ss k) t = or_else (first_stmt d t.line (opening t.line t.kind)
    (λ s. stmts d (and_stmt ss s) k)) (step (k ss) t)
step (more_params d ps k) t = or_else (after_sign t.kind (a_mark m.Comma) d
    (a_param (λ p. more_params d (and_param ps p) k))) (step (k ps) t)
step (members xs k) t = or_else (first_member t.line (opening t.line t.kind)
    (λ x. members (and_member xs x) k)) (step (k xs) t)
step (items xs) t = or_else (first_item t.line (opening t.line t.kind)
    (λ x. items (and_item xs x))) (next_end t.kind xs)

-- ---- the way over the tokens

abbrev pub start : State
start = items no_items

-- Where the machine stops: it accepted a file, or so many tokens are left from one that cannot
-- come, or that stands too deep.
pub data Stop : Type 0 where
  accepted : File → Stop
  faulty : ℕ → Stop
  deep : ℕ → Stop

-- the file where no token is left, if that may be its end
abbrev pub at_end : State → Option File
at_end (done x) = Some x
at_end (may d j s r) = at_end r
at_end (pairs d n k) = at_end (k n)
at_end (declared_or d k r) = at_end r
at_end (calls d e k) = at_end (k e d)
at_end (durs d e k) = at_end (k e d)
at_end (casts d e k) = at_end (k e d)
at_end (joins n d e k) = at_end (k e d)
at_end (asks d e k) = at_end (k e d)
at_end (chucks d e k) = at_end (k e)
at_end (brackets d bs k) = at_end (k bs)
at_end (sizes d es k) = at_end (k es)
at_end (more_exprs d es k) = at_end (k es)
at_end (more_declrs d xs k) = at_end (k xs)
at_end (stmts d ss k) = at_end (k ss)
at_end (more_params d ps k) = at_end (k ps)
at_end (members xs k) = at_end (k xs)
at_end _ = None

abbrev pub ended : Option File → Stop
ended None = faulty 0
ended (Some x) = accepted x

abbrev pub resume : (ℕ → Bool) → ℕ → (State → Stop) → Next → Stop
resume fits n f None = faulty n
resume fits n f (Some (d, s)) = cond (fits d) (f s) (deep n)

-- the machine's stop, where each token's depth has to fit
abbrev pub run : (ℕ → Bool) → List Token → State → Stop
run fits [] s = ended (at_end s)
run fits (x ∷ ts) s = resume fits (suc (length ts)) (λ r. run fits ts r) (step s x)

abbrev pub is_shallow : ℕ → Bool
is_shallow d = nat_le d MAX_NESTING

abbrev pub left : List Token → State → Stop
left = run is_shallow

-- the depths of the tokens that can come
abbrev pub depths_on : (State → List ℕ) → Next → List ℕ
depths_on f None = []
depths_on f (Some (d, s)) = d ∷ f s

abbrev pub heights : List Token → State → List ℕ
heights [] s = []
heights (x ∷ ts) s = depths_on (λ r. heights ts r) (step s x)
