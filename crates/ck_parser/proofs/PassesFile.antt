-- The same for statements and all that is made of them.
use Rattle.std.proofs.Common.{◌≡◌, ℕ, zero, suc, ◌≤◌, List, [], ◌∷◌, Bool, true, false, Option, Some}
use Rattle.std.proofs.Common.{None, refl, sym, ◌∙◌, ap, subst, arith}
use Rattle.std.specs.Option.{option_map}
use Rattle.std.proofs.lemmas.Option.{same_Some}
use Rattle.ck_lexer.specs.declared.mark.Mark.TheVariants as m
use Rattle.ck_lexer.specs.declared.token.Token.{Token}
use Rattle.ck_lexer.specs.declared.token.TokenKind.{TokenKind}
use Rattle.ck_lexer.specs.declared.token.TokenKind.TheVariants.{Word, Mark, Name}
use Rattle.ck_lexer.specs.declared.word.Word.TheVariants as w
use Rattle.parse_exprs.specs.declared.follow.Follow.TheVariants as f
use Rattle.ck_parser.specs.Depth.{brackets_depths, pairs_depths}
use Rattle.ck_parser.specs.Depth.{type_depths, head_depths, behind, expr_depths, declr_depths}
use Rattle.ck_parser.specs.Depth.{declrs_depths, declrs_before_comma, test_depths, option_depths}
use Rattle.ck_parser.specs.Depth.{stmt_depths, stmts_depths, param_depths, params_depths}
use Rattle.ck_parser.specs.Depth.{params_before_comma, fun_depths, member_depths, members_depths}
use Rattle.ck_parser.specs.Depth.{parent_depths, item_depths, items_depths, file_depths}
use Rattle.ck_parser.specs.Grammar.{IsHeadBase, of_constructor}
use Rattle.ck_parser.specs.Grammar.{of_word, of_class, IsType, of_base, IsHead, of_head, IsDeclr, of_declr}
use Rattle.ck_parser.specs.Grammar.{of_declr_with, IsAt, IsPairs, of_no_pairs, of_pair}
use Rattle.ck_parser.specs.Grammar.{IsBrackets, of_no_brackets, of_empty_bracket, of_for_each}
use Rattle.ck_parser.specs.Grammar.{IsExpr, of_single, of_chuck, IsDeclrs, of_two, of_another}
use Rattle.ck_parser.specs.Grammar.{IsExprStmt, of_empty, of_expr, of_declares, IsTest, of_test}
use Rattle.ck_parser.specs.Grammar.{IsMaybe, of_none, of_some, IsStmt, of_block, of_expr_stmt}
use Rattle.ck_parser.specs.Grammar.{of_print, of_if, of_if_else, of_while, of_until, of_do_while}
use Rattle.ck_parser.specs.Grammar.{of_do_until, of_for, of_repeat, of_break, of_continue}
use Rattle.ck_parser.specs.Grammar.{of_return, IsStmts, of_no_stmts, of_more_stmts, IsBlock}
use Rattle.ck_parser.specs.Grammar.{of_braces, IsParam, of_param, IsSomeParams, of_first_param}
use Rattle.ck_parser.specs.Grammar.{of_next_param, IsParams, of_no_params, of_params, of_not_static}
use Rattle.ck_parser.specs.Grammar.{of_static_word, IsFun, of_fun, IsMember, of_fun_member}
use Rattle.ck_parser.specs.Grammar.{of_stmt_member, IsMembers, of_no_members, of_more_members}
use Rattle.ck_parser.specs.Grammar.{of_class_word, of_public_class, IsParent, of_no_parent}
use Rattle.ck_parser.specs.Grammar.{of_extends, of_class_def, IsItem, of_class_item, of_fun_item}
use Rattle.ck_parser.specs.Grammar.{of_stmt_item, IsItems, of_no_items, of_more_items, IsFile}
use Rattle.ck_parser.specs.Grammar.{of_file}
use Rattle.parse_exprs.specs.Machine.{with_params}
use Rattle.parse_exprs.specs.Machine.{State, done, sign, may, a_name, pairs, operand, chucks}
use Rattle.parse_exprs.specs.Machine.{more_declrs, an_expr_stmt, a_stmt, stmts, more_params}
use Rattle.parse_exprs.specs.Machine.{members, items, Next, or_else, an_expr, a_declr, a_test}
use Rattle.parse_exprs.specs.Machine.{first_operand, after_sign, step, run, heights, simple_end}
use Rattle.parse_exprs.specs.Machine.{declares_or, first_expr_stmt, first_stmt, a_block, a_param}
use Rattle.parse_exprs.specs.Machine.{after_fun, after_class, signature, first_member}
use Rattle.parse_exprs.specs.Machine.{first_item, start, accepted, Stop}
use Rattle.parse_exprs.specs.Machine.{brackets, for_start, first_start, each_or, after_colon, each_pairs, colon_or}
use Rattle.parse_exprs.specs.Machine.{empty_pairs}
use Rattle.parse_exprs.specs.Tokens.{begins, Then, then, Opening, based, opens_empty, opens_block}
use Rattle.parse_exprs.specs.Tokens.{opens_print, opens_if, opens_while, opens_until, opens_do}
use Rattle.parse_exprs.specs.Tokens.{opens_for, opens_repeat, opens_break, opens_continue}
use Rattle.parse_exprs.specs.Tokens.{opens_return, opens_fun, opens_class, opens_public}
use Rattle.parse_exprs.specs.Tokens.{opens_nothing, opening, a_word, a_mark, is_sign, has}
use Rattle.ck_syntax.specs.Tree as t
use Rattle.ck_syntax.specs.Tree.{Expr, Exprs, Brackets, Declr, Declrs, Stmt, Stmts, Fun, Params}
use Rattle.ck_syntax.specs.Tree.{Member, Members, Class, Item, File, no_stmts, and_stmt, no_params}
use Rattle.ck_syntax.specs.Tree.{and_param, no_members, and_member, no_items, and_item, expr_line}
use Rattle.ck_syntax.specs.Tree.{no_exprs, and_expr, no_brackets, and_empty, and_size, declr}
use Rattle.ck_syntax.specs.Tree.{no_declrs, and_declr, declr_with, declr_name}
use Rattle.ck_syntax.specs.declared.declaration.Base.{Base}
use Rattle.ck_syntax.specs.declared.declaration.DeclHead.{DeclHead}
use Rattle.ck_syntax.specs.declared.declaration.TypeName.{TypeName}
use Rattle.ck_syntax.specs.declared.file.Param.{Param}
use Rattle.ck_parser.proofs.Passes.{any, Passes, stay, past, onward, same_head, skip, missing}
use Rattle.ck_parser.proofs.Passes.{skip_may, skip_pairs, Loose}
use Rattle.ck_parser.proofs.Openings.{sort, Head, higher}
use Rattle.ck_parser.proofs.Passes.{no_comma_at, no_colon_at, no_paren, no_semicolon}
use Rattle.ck_parser.proofs.Openings.{opens-head, opens-expr}
use Rattle.ck_parser.proofs.Passes.{pass-pairs, pass-type, pass-head, shut, reshape, whole}
use Rattle.ck_parser.proofs.Passes.{whole_exprs, after_operator, past_chuck, pass-more}
use Rattle.ck_parser.proofs.Passes.{pass-operand, pass-expr, pass-rest, pass-arguments}

skip_more_declrs : (ts : List Token) (d : ℕ) (xs : Declrs) (k : Declrs → State)
    → has (a_mark m.Comma) ts ≡ false → Passes ts (more_declrs d xs k) (λ ds. ds) ts (k xs)
skip_more_declrs ts d xs k h = skip ts _ _ (λ x. after_sign x.kind (a_mark m.Comma) _ _) refl
    (λ x. refl) (missing ts _ _ _ h)

-- ---- the statement of an expression

-- neither '(' nor '[' comes next
pub record Bare (ts : List Token) : Type 0 where
  pub paren : has (a_mark m.LeftParen) ts ≡ false
  pub bracket : has (a_mark m.LeftBracket) ts ≡ false

pass-declr : {x : Declr} {ts rest : List Token} → IsDeclr ts x rest → Bare rest
    → (d : ℕ) (k : Declr → State)
    → Passes ts (a_declr d k) (declr_depths d x) rest (k x)
pass-declr (of_declr then i) h d k =
    onward (past refl) (pass-rest i h.paren h.bracket d k)
pass-declr (of_declr_with {n = n} then i) h d k = onward (past refl)
    (pass-arguments i d (λ es. k (declr_with n es)) (brackets d no_brackets (λ bs. k (declr n bs))))

bare : {x : Token} {ts : List Token} → is_sign x.kind (a_mark m.LeftParen) ≡ false
    → is_sign x.kind (a_mark m.LeftBracket) ≡ false → Bare (x ∷ ts)
bare p b = record { paren = p; bracket = b }

-- a declarator behind its head
pass-declared : {l : ℕ} {h : DeclHead} {x : Declr} {ts a rest : List Token} → IsHead ts l h a
    → IsDeclr a x rest → Bare rest → (d : ℕ) (g : ℕ → DeclHead → Declr → State)
    (k : Expr → ℕ → State)
    → Passes ts (operand d g k) (λ ds. head_depths d h (declr_depths d x ds)) rest (g l h x)
pass-declared {l = l} {h = head} i (of_declr {n = n} p j) h d g k =
    onward (pass-head i p d g k) (pass-rest {n = n} j h.paren h.bracket d (λ x. g l head x))
pass-declared {l = l} {h = head} i (of_declr_with {n = n} p j) h d g k =
    onward (pass-head i p d g k) (pass-arguments j d (λ es. g l head (declr_with n es))
    (brackets d no_brackets (λ bs. g l head (declr n bs))))

as_operand : (ts : List Token) (d : ℕ) (k : Stmt → State) → Head 2 ts
    → Passes ts (an_expr_stmt d k) (λ ds. ds) ts
    (operand d (declares_or d k) (λ e c. chucks c e (simple_end d k)))
as_operand [] d k h = absurd h
as_operand (x ∷ ts) d k h = same_head (go (opening x.line x.kind) h)
  where
    go : (o : Opening) → sort o ≤ 2 → first_expr_stmt d x.line o k
        ≡ first_operand d x.line o (declares_or d k) (λ e c. chucks c e (simple_end d k))
    go opens_empty h = absurd (omega arith)
    go _ h = refl

-- Where the statement of an expression may begin. Behind a declarator it goes on as it does in a
-- statement, but for a ':'.
record Starts (d : ℕ) (k : Stmt → State) (s : State) : Type 0 where
  declared : ℕ → DeclHead → Declr → State
  empty : {l a : ℕ} {ts : List Token}
      → Passes (record { kind = Mark m.Semicolon; line = l; at = a } ∷ ts) s (λ ds. d ∷ ds) ts (k (t.empty l))
  operand : (ts : List Token) → Head 2 ts
      → Passes ts s (λ ds. ds) ts (operand d declared (λ e c. chucks c e (simple_end d k)))
  over : (ts : List Token) (l : ℕ) (h : DeclHead) (x : Declr) → has (a_mark m.Colon) ts ≡ false
      → Passes ts (declared l h x) (λ ds. ds) ts (declares_or d k l h x)

statement : (d : ℕ) (k : Stmt → State) → Starts d k (an_expr_stmt d k)
statement d k = record {
  declared = declares_or d k;
  empty = past refl;
  operand = λ ts h. as_operand ts d k h;
  over = λ ts l h x g. stay;
}

colon_over : (ts : List Token) (d : ℕ) (f : DeclHead → t.Name → ℕ → State) (h : DeclHead)
    (x : Declr) (pairs : Option ℕ) (s : State) → has (a_mark m.Colon) ts ≡ false
    → Passes ts (colon_or d f h x pairs s) (λ ds. ds) ts s
colon_over ts d f h x None s g = stay
colon_over ts d f h x (Some q) s g = skip_may ts d _ _ _ g

as_start : (ts : List Token) (d : ℕ) (f : DeclHead → t.Name → ℕ → State) (k : Stmt → State)
    → Head 2 ts → Passes ts (for_start d f k) (λ ds. ds) ts
    (operand d (each_or d f k) (λ e c. chucks c e (simple_end d k)))
as_start [] d f k h = absurd h
as_start (x ∷ ts) d f k h = same_head (go (opening x.line x.kind) h)
  where
    go : (o : Opening) → sort o ≤ 2 → first_start d x.line o f k
        ≡ first_operand d x.line o (each_or d f k) (λ e c. chucks c e (simple_end d k))
    go opens_empty h = absurd (omega arith)
    go _ h = refl

beginning : (d : ℕ) (f : DeclHead → t.Name → ℕ → State) (k : Stmt → State)
    → Starts d k (for_start d f k)
beginning d f k = record {
  declared = each_or d f k;
  empty = past refl;
  operand = λ ts h. as_start ts d f k h;
  over = λ ts l h x g. colon_over ts d f h x (each_pairs h x) (declares_or d k l h x) g;
}

declrs_comma : {ts rest : List Token} {xs : Declrs} → IsDeclrs ts xs rest
    → (d : ℕ) (ds : List ℕ) → declrs_before_comma d xs ds ≡ declrs_depths d xs (d ∷ ds)
declrs_comma (of_two x p y) d ds = refl
declrs_comma (of_another i p x) d ds = refl

module _ (d : ℕ) (k : Stmt → State) (s : State) (starts : Starts d k s) where
  pass-declares : {l : ℕ} {h : DeclHead} {xs : Declrs} {ts a rest : List Token} → IsHead ts l h a
      → IsDeclrs a xs rest → Bare rest
      → Passes ts s (λ ds. head_depths d h (declrs_depths d xs ds)) rest
      (more_declrs d xs (λ xs. sign d (a_mark m.Semicolon) (k (t.declares l h xs))))
  pass-declares {l = l} {h = head} {ts = ts} i (of_two {x = x} {a = b} p then y) h =
      onward (starts.operand ts (opens-head i))
      (onward (pass-declared i p (bare refl refl) d starts.declared _)
      (onward (starts.over b l head x refl)
      (onward (past refl) (pass-declr y h d (λ z.
      more_declrs d (and_declr (and_declr no_declrs x) z)
      (λ xs. sign d (a_mark m.Semicolon) (k (t.declares l head xs))))))))
  pass-declares {l = l} {h = head} i (of_another {x = x} {xs = zs} xs then y) h =
      reshape (λ ds. ap (head_depths d head) (sym (declrs_comma xs d (declr_depths d x ds))))
      (onward (pass-declares i xs (bare refl refl)) (onward (past refl)
      (pass-declr y h d (λ z. more_declrs d (and_declr zs z)
      (λ xs. sign d (a_mark m.Semicolon) (k (t.declares l head xs)))))))

  stmt-expr : {ts rest : List Token} {e : Expr} → IsExpr ts e rest → Loose 14 rest
      → has (a_mark m.Comma) rest ≡ false → has (a_mark m.Colon) rest ≡ false
      → Passes ts s (expr_depths d e) rest (chucks (behind d e) e (simple_end d k))
  stmt-expr {ts} {rest} (of_single i) h g c = onward
      (starts.operand ts (opens-expr (of_single i)))
      (pass-operand i h d starts.declared (λ e c. chucks c e (simple_end d k))
      (λ l h x. onward (starts.over rest l h x c) (skip_may rest d _ _ _ g)))
  stmt-expr (of_chuck {o = o} {e = e} i p q j) h g c = onward
      (stmt-expr i (after_operator (f.Chuck o) (omega arith) (omega arith) p q)
      (no_comma_at (f.Chuck o) (omega arith) p q) (no_colon_at (f.Chuck o) (omega arith) p q))
      (onward (past_chuck p q _ _ (simple_end d k))
      (pass-operand j h _ _ (λ g c. chucks c (t.chuck (expr_line e) e o g) (simple_end d k))
      (λ l h x. stay)))

  pass-started : {ts rest : List Token} {x : Stmt} → IsExprStmt ts x rest
      → Passes ts s (stmt_depths d x) rest (k x)
  pass-started (of_empty begins) = starts.empty
  pass-started (of_expr i then) =
      onward (whole (shut refl refl) (λ r. stmt-expr i r refl refl)) (past refl)
  pass-started (of_declares h xs then) =
      onward (pass-declares h xs (bare refl refl)) (past refl)

pass-expr_stmt : {ts rest : List Token} {s : Stmt} → IsExprStmt ts s rest
    → (d : ℕ) (k : Stmt → State) → Passes ts (an_expr_stmt d k) (stmt_depths d s) rest (k s)
pass-expr_stmt i d k = pass-started d k (an_expr_stmt d k) (statement d k) i

-- ---- the head of a `for` over items

-- so many pairs of brackets, none with a size
abbrev empties : ℕ → Brackets
empties zero = no_brackets
empties (suc q) = and_empty (empties q)

as_brackets : {ts rest : List Token} {q : ℕ} → IsPairs ts q rest → IsBrackets ts (empties q) rest
as_brackets of_no_pairs = of_no_brackets
as_brackets (of_pair i p r) = of_empty_bracket (as_brackets i) p r

counted : (q : ℕ) → empty_pairs (empties q) ≡ Some q
counted zero = refl
counted (suc q) = ap (option_map suc) (counted q)

same_depths : (d q : ℕ) (ds : List ℕ) → brackets_depths d (empties q) ds ≡ pairs_depths d q ds
same_depths d zero ds = refl
same_depths d (suc q) ds = same_depths d q (suc d ∷ suc d ∷ ds)

pass-colon : {ts rest : List Token} (d : ℕ) (f : DeclHead → t.Name → ℕ → State) (h : DeclHead)
    (x : Declr) (pairs : Option ℕ) (s : State) (q : ℕ) → pairs ≡ Some q → Then (Mark m.Colon) ts rest
    → Passes ts (colon_or d f h x pairs s) (λ ds. d ∷ ds) rest (f h (declr_name x) q)
pass-colon d f h x None s q is p = absurd (cc)
pass-colon {ts = ts} {rest = rest} d f h x (Some r) s q is then =
    subst (λ z. Passes ts (colon_or d f h x (Some r) s) (λ ds. d ∷ ds) rest (f h (declr_name x) z))
    (same_Some r q is) (past refl)

pass-each : {l q : ℕ} {b : Option Base} {r : Bool} {n : t.Name} {ts a c g i rest : List Token}
    → IsHeadBase ts l b a → IsAt a r c → Then (Name n) c g → IsPairs g q i
    → Then (Mark m.Colon) i rest → (d : ℕ) (f : DeclHead → t.Name → ℕ → State) (k : Stmt → State)
    → let h : DeclHead = record { is_static = false; base = b; is_reference = r } in
    Passes ts (for_start d f k) (λ ds. head_depths d h (d ∷ pairs_depths d q (d ∷ ds))) rest (f h n q)
pass-each {l = l} {q = q} {b = b} {r = r} {n = n} {ts = ts} i at p j colon d f k =
    let h : DeclHead = record { is_static = false; base = b; is_reference = r } in
    reshape (λ ds. ap (λ rest. head_depths d h (d ∷ rest)) (same_depths d q (d ∷ ds)))
    (onward (as_start ts d f k (opens-head (of_head i at)))
    (onward (pass-head (of_head i at) p d (each_or d f k) _)
    (onward (pass-rest {n = n} (as_brackets j) (no_paren_colon colon) (no_bracket_colon colon) d
    (λ x. each_or d f k l h x))
    (pass-colon d f h (declr n (empties q)) (empty_pairs (empties q)) (declares_or d k l h (declr n (empties q))) q
    (counted q) colon))))
  where
    no_paren_colon : {a b : List Token} → Then (Mark m.Colon) a b → has (a_mark m.LeftParen) a ≡ false
    no_paren_colon then = refl

    no_bracket_colon : {a b : List Token} → Then (Mark m.Colon) a b → has (a_mark m.LeftBracket) a ≡ false
    no_bracket_colon then = refl

opens-expr_stmt : {ts rest : List Token} {s : Stmt} → IsExprStmt ts s rest → Head 3 ts
opens-expr_stmt (of_empty begins) = omega arith
opens-expr_stmt {ts} (of_expr i p) = higher 2 3 ts (omega arith) (opens-expr i)
opens-expr_stmt {ts} (of_declares h xs p) = higher 2 3 ts (omega arith) (opens-head h)

-- ---- statements

opens-stmt : {ts rest : List Token} {s : Stmt} → IsStmt ts s rest → Head 3 ts
opens-stmt (of_block begins i p) = omega arith
opens-stmt (of_expr_stmt i) = opens-expr_stmt i
opens-stmt (of_print begins i p q) = omega arith
opens-stmt (of_if begins e s h) = omega arith
opens-stmt (of_if_else begins e s p r) = omega arith
opens-stmt (of_while begins e s) = omega arith
opens-stmt (of_until begins e s) = omega arith
opens-stmt (of_do_while begins s p e q) = omega arith
opens-stmt (of_do_until begins s p e q) = omega arith
opens-stmt (of_for begins p x y e q s) = omega arith
opens-stmt (of_for_each begins p b at n q c e o s) = omega arith
opens-stmt (of_repeat begins e s) = omega arith
opens-stmt (of_break begins p) = omega arith
opens-stmt (of_continue begins p) = omega arith
opens-stmt (of_return begins e p) = omega arith

as_expr_stmt : (ts : List Token) (d : ℕ) (k : Stmt → State) → Head 2 ts
    → Passes ts (a_stmt d k) (λ ds. ds) ts (an_expr_stmt d k)
as_expr_stmt [] d k h = absurd h
as_expr_stmt (x ∷ ts) d k h = same_head (go (opening x.line x.kind) h)
  where
    go : (o : Opening) → sort o ≤ 2 → first_stmt d x.line o k ≡ first_expr_stmt d x.line o k
    go opens_block h = absurd (omega arith)
    go opens_print h = absurd (omega arith)
    go opens_if h = absurd (omega arith)
    go opens_while h = absurd (omega arith)
    go opens_until h = absurd (omega arith)
    go opens_do h = absurd (omega arith)
    go opens_for h = absurd (omega arith)
    go opens_repeat h = absurd (omega arith)
    go opens_break h = absurd (omega arith)
    go opens_continue h = absurd (omega arith)
    go opens_return h = absurd (omega arith)
    go _ h = refl

some_stmt : (o : Opening) (d l : ℕ) (k : Stmt → State) (r : Next) → sort o ≤ 3
    → or_else (first_stmt d l o k) r ≡ first_stmt d l o k
some_stmt opens_fun d l k r h = absurd (omega arith)
some_stmt opens_class d l k r h = absurd (omega arith)
some_stmt opens_public d l k r h = absurd (omega arith)
some_stmt opens_nothing d l k r h = absurd (omega arith)
some_stmt _ d l k r h = refl

as_stmt : (ts : List Token) (d : ℕ) (ss : Stmts) (k : Stmts → State) → Head 3 ts
    → Passes ts (stmts d ss k) (λ ds. ds) ts (a_stmt d (λ s. stmts d (and_stmt ss s) k))
as_stmt [] d ss k h = absurd h
as_stmt (x ∷ ts) d ss k h = same_head (some_stmt (opening x.line x.kind) d x.line _ _ h)

pass-test : {ts rest : List Token} {e : Expr} → IsTest ts e rest → (d : ℕ) (k : Expr → State)
    → Passes ts (a_test d k) (test_depths d e) rest (k e)
pass-test (of_test then i then) d k = onward (past refl)
    (onward (whole (shut refl refl) (λ r. pass-expr i r (suc d) _)) (past refl))

-- an expression that may be missing, and what closes it
pass-maybe : {ts a rest : List Token} {e : Option Expr} → IsMaybe ts e a
    → Then (Mark m.RightParen) a rest → (d : ℕ) (k : Option Expr → State)
    → Passes ts (may d (a_mark m.RightParen) (k None)
    (an_expr d (λ e. sign d (a_mark m.RightParen) (k (Some e)))))
    (λ ds. option_depths d e (d ∷ ds)) rest (k e)
pass-maybe of_none then d k = past refl
pass-maybe {ts} (of_some i) then d k = onward (skip_may ts d _ _ _ (no_paren ts (opens-expr i)))
    (onward (whole (shut refl refl) (λ r. pass-expr i r d _)) (past refl))

pass-value : {ts a rest : List Token} {e : Option Expr} → IsMaybe ts e a
    → Then (Mark m.Semicolon) a rest → (d : ℕ) (k : Option Expr → State)
    → Passes ts (may d (a_mark m.Semicolon) (k None)
    (an_expr d (λ e. sign d (a_mark m.Semicolon) (k (Some e)))))
    (λ ds. option_depths d e (d ∷ ds)) rest (k e)
pass-value of_none then d k = past refl
pass-value {ts} (of_some i) then d k = onward
    (skip_may ts d _ _ _ (no_semicolon ts (opens-expr i)))
    (onward (whole (shut refl refl) (λ r. pass-expr i r d _)) (past refl))

mutual
  pass-stmt : {ts rest : List Token} {s : Stmt} → IsStmt ts s rest → (d : ℕ) (k : Stmt → State)
      → Passes ts (a_stmt d k) (stmt_depths d s) rest (k s)
  pass-stmt (of_block begins i then) d k =
      onward (past refl) (onward (pass-stmts i (suc d) _) (past refl))
  pass-stmt (of_expr_stmt (of_empty begins)) d k = past refl
  pass-stmt {ts} (of_expr_stmt (of_expr i p)) d k =
      onward (as_expr_stmt ts d k (opens-expr i)) (pass-expr_stmt (of_expr i p) d k)
  pass-stmt {ts} (of_expr_stmt (of_declares h xs p)) d k =
      onward (as_expr_stmt ts d k (opens-head h)) (pass-expr_stmt (of_declares h xs p) d k)
  pass-stmt (of_print begins i then then) d k = onward (past refl)
      (onward (whole_exprs refl (pass-more i (shut refl refl) d _))
      (onward (past refl) (past refl)))
  pass-stmt {rest = rest} (of_if begins e s h) d k = onward (past refl)
      (onward (pass-test e d _) (onward (pass-stmt s (suc d) _) (skip_may rest d _ _ _ h)))
  pass-stmt (of_if_else begins e s then r) d k = onward (past refl)
      (onward (pass-test e d _) (onward (pass-stmt s (suc d) _)
      (onward (past refl) (pass-stmt r (suc d) _))))
  pass-stmt (of_while begins e s) d k =
      onward (past refl) (onward (pass-test e d _) (pass-stmt s (suc d) _))
  pass-stmt (of_until begins e s) d k =
      onward (past refl) (onward (pass-test e d _) (pass-stmt s (suc d) _))
  pass-stmt (of_do_while begins s then e then) d k = onward (past refl)
      (onward (pass-stmt s (suc d) _) (onward (past refl)
      (onward (pass-test e d _) (past refl))))
  pass-stmt (of_do_until begins s then e then) d k = onward (past refl)
      (onward (pass-stmt s (suc d) _) (onward (past refl)
      (onward (pass-test e d _) (past refl))))
  pass-stmt (of_for {l = l} {x = x} {y = y} begins then i j e p s) d k =
      onward (past refl) (onward (past refl)
      (onward (pass-started (suc d) _ _ (beginning (suc d) (after_colon d l k) _) i)
      (onward (pass-expr_stmt j (suc d) _)
      (onward (pass-maybe e p (suc d) (λ e. a_stmt (suc d) (λ s. k (t.for_do l x y e s))))
      (pass-stmt s (suc d) _)))))
  pass-stmt (of_for_each {l = l} begins then b at n q c e then s) d k =
      onward (past refl) (onward (past refl)
      (onward (pass-each b at n q c (suc d) (after_colon d l k) _)
      (onward (whole (shut refl refl) (λ r. pass-expr e r (suc d) _)) (onward (past refl)
      (pass-stmt s (suc d) _)))))
  pass-stmt (of_repeat begins e s) d k =
      onward (past refl) (onward (pass-test e d _) (pass-stmt s (suc d) _))
  pass-stmt (of_break begins then) d k = onward (past refl) (past refl)
  pass-stmt (of_continue begins then) d k = onward (past refl) (past refl)
  pass-stmt (of_return {l = l} begins e p) d k =
      onward (past refl) (pass-value e p d (λ e. k (t.return l e)))

  pass-stmts : {ts rest : List Token} {ss : Stmts} → IsStmts ts ss rest
      → (d : ℕ) (k : Stmts → State)
      → Passes ts (stmts d no_stmts k) (stmts_depths d ss) rest (stmts d ss k)
  pass-stmts of_no_stmts d k = stay
  pass-stmts (of_more_stmts {a = a} i s) d k =
      onward (pass-stmts i d k) (onward (as_stmt a d _ k (opens-stmt s)) (pass-stmt s d _))

-- ---- functions and classes

pass-block : {ts rest : List Token} {ss : Stmts} → IsBlock ts ss rest → (k : Stmts → State)
    → Passes ts (a_block k) (λ ds. 0 ∷ stmts_depths 1 ss (0 ∷ ds)) rest (k ss)
pass-block (of_braces then i then) k = onward (past refl) (onward (pass-stmts i 1 _) (past refl))

pass-param : {ts rest : List Token} {p : Param} → IsParam ts p rest → has (a_mark m.LeftBracket)
    rest ≡ false → (k : Param → State) → Passes ts (a_param k) (param_depths 1 p) rest (k p)
pass-param {rest = rest} (of_param {k = b} {n = n} i then q) h k = onward
    (pass-type i refl 1 (λ b. a_name 1 (λ n.
    pairs 1 0 (λ q. k (record { kind = b; name = n; brackets = q })))))
    (onward (past refl) (onward (pass-pairs q 1
    (λ q. k (record { kind = b; name = n; brackets = q }))) (skip_pairs rest 1 _ _ h)))

params_comma : {ts rest : List Token} {ps : Params} → IsSomeParams ts ps rest
    → (d : ℕ) (ds : List ℕ) → params_before_comma d ps ds ≡ params_depths d ps (d ∷ ds)
params_comma (of_first_param i) d ds = refl
params_comma (of_next_param i p j) d ds = refl

pass-params : {ts rest : List Token} {ps : Params} → IsSomeParams ts ps rest
    → has (a_mark m.LeftBracket) rest ≡ false → (k : Params → State)
    → Passes ts (a_param (λ p. more_params 1 (and_param no_params p) k)) (params_depths 1 ps)
    rest (more_params 1 ps k)
pass-params (of_first_param i) h k = pass-param i h (λ p. more_params 1 (and_param no_params p) k)
pass-params (of_next_param {p = p} {ps = ps} i then j) h k = reshape
    (λ ds. sym (params_comma i 1 (param_depths 1 p ds)))
    (onward (pass-params i refl k) (onward (past refl)
    (pass-param j h (λ p. more_params 1 (and_param ps p) k))))

opens-param : {ts rest : List Token} {ps : Params} → IsSomeParams ts ps rest → Head 2 ts
opens-param (of_first_param (of_param (of_base (of_word begins h) n) p q)) =
    subst (λ o. sort o ≤ 2) (sym h) (omega arith)
opens-param (of_first_param (of_param (of_base (of_class begins) n) p q)) = omega arith
opens-param (of_next_param i p j) = opens-param i

no_static : {ts rest : List Token} {k : TypeName} → IsType ts k rest
    → has (a_word w.Static) ts ≡ false
no_static (of_base (of_word {k = k} {l = l} begins h) n) = go k h
  where
    go : {b : Base} (k : TokenKind) → opening l k ≡ based b → is_sign k (a_word w.Static) ≡ false
    go (Word w.Static) h = cc
    go (Mark x) h = refl
    go _ h = refl
no_static (of_base (of_class begins) n) = refl

no_at : {ts rest : List Token} {k : TypeName} → IsType ts k rest → has (a_mark m.At) ts ≡ false
no_at (of_base (of_word {k = k} {l = l} begins h) n) = go k h
  where
    go : {b : Base} (k : TokenKind) → opening l k ≡ based b → is_sign k (a_mark m.At) ≡ false
    go (Word x) h = refl
    go (Mark m.At) h = cc
    go _ h = refl
no_at (of_base (of_class begins) n) = refl

pass-with_params : {ps : Params} {ss : Stmts} {ts g h i rest : List Token}
    → Then (Mark m.LeftParen) ts g → IsParams g ps h → Then (Mark m.RightParen) h i
    → IsBlock i ss rest → (k : Params → Stmts → State)
    → Passes ts (with_params k) (λ ds.
    1 ∷ params_depths 1 ps (1 ∷ 0 ∷ stmts_depths 1 ss (0 ∷ ds))) rest (k ps ss)
pass-with_params then of_no_params then y k =
    onward (past refl) (onward (past refl) (pass-block y (k no_params)))
pass-with_params {g = g} then (of_params z) then y k = onward (past refl)
    (onward (skip_may g 1 _ _ _ (no_paren g (opens-param z)))
    (onward (pass-params z refl (λ ps. sign 1 (a_mark m.RightParen) (a_block (k ps))))
    (onward (past refl) (pass-block y _))))

pass-signature : {b : TypeName} {n : t.Name} {ps : Params} {ss : Stmts}
    {ts a c g h i rest : List Token} → IsType ts b a → Then (Name n) a c
    → Then (Mark m.LeftParen) c g → IsParams g ps h → Then (Mark m.RightParen) h i
    → IsBlock i ss rest → (l : ℕ) (s : Bool) (k : Fun → State)
    → Passes ts (signature l s k) (λ ds. type_depths 0 b
    (0 ∷ 1 ∷ params_depths 1 ps (1 ∷ 0 ∷ stmts_depths 1 ss (0 ∷ ds)))) rest
    (k (t.fun l s b n ps ss))
pass-signature {b = b} {n = n} x then p q r y l s k = onward
    (pass-type x refl 0 (λ b. a_name 0 (λ n. with_params (λ ps ss. k (t.fun l s b n ps ss)))))
    (onward (past refl) (pass-with_params p q r y (λ ps ss. k (t.fun l s b n ps ss))))

-- where a function may come
pass-fun : {ts rest : List Token} {x : Fun} → IsFun ts x rest → (s : State) (k : Fun → State)
    → ((l a : ℕ) → step s (record { kind = Word w.Fun; line = l; at = a })
    ≡ Some (0, after_fun l k)) → Passes ts s (fun_depths x) rest (k x)
pass-fun (of_fun {b = b} (begins {l = l} {a = a}) of_not_static i p q ps r j) s k h = onward
    (past (h l a)) (onward (skip_may b 0 _ _ _ (no_at i))
    (onward (skip_may b 0 _ _ _ (no_static i)) (pass-signature i p q ps r j l false k)))
pass-fun (of_fun (begins {l = l} {a = a}) (of_static_word then) i p q ps r j) s k h =
    onward (past (h l a)) (onward (past refl) (pass-signature i p q ps r j l true k))
pass-fun (of_constructor (begins {l = l} {a = a}) then then p q r j) s k h =
    onward (past (h l a)) (onward (past refl) (onward (past refl)
    (pass-with_params p q r j (λ ps ss. k (t.constructor l ps ss)))))

pass-member : {ts rest : List Token} {x : Member} → IsMember ts x rest
    → (xs : Members) (k : Members → State)
    → Passes ts (members xs k) (member_depths x) rest (members (and_member xs x) k)
pass-member (of_fun_member i) xs k =
    pass-fun i (members xs k) (λ x. members (and_member xs (t.fun_member x)) k) (λ l a. refl)
pass-member {ts} (of_stmt_member i) xs k = onward (go ts (opens-stmt i)) (pass-stmt i 1 _)
  where
    other : (o : Opening) (l : ℕ) (r : Next) → sort o ≤ 3
        → or_else (first_member l o (λ x. members (and_member xs x) k)) r
        ≡ first_stmt 1 l o (λ s. members (and_member xs (t.stmt_member s)) k)
    other opens_fun l r h = absurd (omega arith)
    other opens_class l r h = absurd (omega arith)
    other opens_public l r h = absurd (omega arith)
    other opens_nothing l r h = absurd (omega arith)
    other _ l r h = refl

    go : (ts : List Token) → Head 3 ts → Passes ts (members xs k) (λ ds. ds) ts
        (a_stmt 1 (λ s. members (and_member xs (t.stmt_member s)) k))
    go [] h = absurd h
    go (x ∷ ts) h = same_head (other (opening x.line x.kind) x.line _ h)

pass-members : {ts rest : List Token} {xs : Members} → IsMembers ts xs rest
    → (k : Members → State)
    → Passes ts (members no_members k) (members_depths xs) rest (members xs k)
pass-members of_no_members k = stay
pass-members (of_more_members i x) k = onward (pass-members i k) (pass-member x _ k)

pass-body : {n : t.Name} {parent : Option t.Name} {xs : Members} {ts a b c d rest : List Token}
    → Then (Name n) ts a → IsParent a parent b → Then (Mark m.LeftBrace) b c → IsMembers c xs d
    → Then (Mark m.RightBrace) d rest → (l : ℕ) (p : Bool) (k : Class → State)
    → Passes ts (after_class l p k) (λ ds. 0
    ∷ parent_depths parent (0 ∷ members_depths xs (0 ∷ ds))) rest (k (t.class l p n parent xs))
pass-body then of_no_parent then i then l p k = onward (past refl)
    (onward (past refl) (onward (pass-members i
    (λ xs. sign 0 (a_mark m.RightBrace) (k (t.class l p _ _ xs)))) (past refl)))
pass-body then (of_extends then then) then i then l p k = onward (past refl)
    (onward (past refl) (onward (past refl)
    (onward (past refl) (onward (pass-members i
    (λ xs. sign 0 (a_mark m.RightBrace) (k (t.class l p _ _ xs)))) (past refl)))))

pass-item : {ts rest : List Token} {x : Item} → IsItem ts x rest → (xs : File)
    → Passes ts (items xs) (item_depths x) rest (items (and_item xs x))
pass-item (of_class_item (of_class_def (of_class_word (begins {l = l})) n e b i r)) xs =
    onward (past refl) (pass-body n e b i r l false (λ x. items (and_item xs (t.class_item x))))
pass-item (of_class_item (of_class_def (of_public_class (begins {l = l}) then) n e b i r)) xs =
    onward (past refl) (onward (past refl)
    (pass-body n e b i r l true (λ x. items (and_item xs (t.class_item x)))))
pass-item (of_fun_item i) xs =
    pass-fun i (items xs) (λ x. items (and_item xs (t.fun_item x))) (λ l a. refl)
pass-item {ts} (of_stmt_item i) xs = onward (go ts (opens-stmt i)) (pass-stmt i 0 _)
  where
    other : (o : Opening) (l : ℕ) (r : Next) → sort o ≤ 3
        → or_else (first_item l o (λ x. items (and_item xs x))) r
        ≡ first_stmt 0 l o (λ s. items (and_item xs (t.stmt_item s)))
    other opens_fun l r h = absurd (omega arith)
    other opens_class l r h = absurd (omega arith)
    other opens_public l r h = absurd (omega arith)
    other opens_nothing l r h = absurd (omega arith)
    other _ l r h = refl

    go : (ts : List Token) → Head 3 ts → Passes ts (items xs) (λ ds. ds) ts
        (a_stmt 0 (λ s. items (and_item xs (t.stmt_item s))))
    go [] h = absurd h
    go (x ∷ ts) h = same_head (other (opening x.line x.kind) x.line _ h)

pass-items : {ts rest : List Token} {xs : File} → IsItems ts xs rest
    → Passes ts start (items_depths xs) rest (items xs)
pass-items of_no_items = stay
pass-items (of_more_items i x) = onward (pass-items i) (pass-item x _)

-- ---- files

pass-file : {ts : List Token} {x : File} → IsFile ts x
    → Passes ts start (λ ds. items_depths x (0 ∷ ds)) [] (done x)
pass-file (of_file i then) = onward (pass-items i) (past refl)

-- The machine gives the depths of a file, and accepts it.
pub heights-file : {ts : List Token} {x : File} → IsFile ts x → heights ts start ≡ file_depths x
heights-file i = let p = pass-file i in p.depths

pub run-file : {ts : List Token} {x : File} → IsFile ts x → run any ts start ≡ accepted x
run-file i = let p = pass-file i in p.stop

accepted_one : {x y : File} → accepted x ≡ accepted y → x ≡ y
accepted_one {x} e = ap file_of e
  where
    file_of : Stop → File
    file_of (accepted x) = x
    file_of _ = x

-- A list of tokens has at most one tree.
pub one_tree : (ts : List Token) (x y : File) → IsFile ts x → IsFile ts y → x ≡ y
one_tree ts x y p q = accepted_one (sym (run-file p) ∙ run-file q)
