-- What has a form in the grammar is passed by the machine, which then holds its tree, and gives
-- its depths.
use Rattle.std.proofs.Common.{Option}
use Rattle.std.proofs.Common.{◌≡◌, ℕ, suc, ◌+◌, ◌≤◌, List, [], ◌∷◌, length, Bool, true, false}
use Rattle.std.proofs.Common.{Some, None, refl, sym, ◌∙◌, ap, subst, arith, eq-eqb}
use Rattle.ck_lexer.specs.declared.mark.Mark.{Mark as AMark}
use Rattle.ck_lexer.specs.declared.mark.Mark.TheVariants as m
use Rattle.ck_lexer.specs.declared.token.Token.{Token}
use Rattle.ck_lexer.specs.declared.token.TokenKind.{TokenKind}
use Rattle.ck_lexer.specs.declared.token.TokenKind.TheVariants.{Word, Mark, Name, Int, Float, Text}
use Rattle.ck_lexer.specs.declared.word.Word.TheVariants as w
use Rattle.parse_exprs.specs.declared.follow.Follow.{Follow}
use Rattle.parse_exprs.specs.declared.follow.Follow.TheVariants as f
use Rattle.ck_parser.specs.Depth.{one_if, pairs_depths, type_depths, head_depths, behind}
use Rattle.ck_parser.specs.Depth.{expr_depths, exprs_depths, before_comma, sizes_depths}
use Rattle.ck_parser.specs.Depth.{brackets_depths}
use Rattle.ck_parser.specs.Grammar.{IsHeadBase, of_typed, of_auto}
use Rattle.ck_parser.specs.Grammar.{IsBase, of_word, of_class, IsPairs, of_no_pairs, of_pair}
use Rattle.ck_parser.specs.Grammar.{IsType, of_base, IsAt, of_no_at, of_at, IsHead, of_head}
use Rattle.ck_parser.specs.Grammar.{of_static, IsPrimary, of_atom, of_name, of_paren, of_array}
use Rattle.ck_parser.specs.Grammar.{IsExprs, of_first, of_next, IsPostfix, of_primary}
use Rattle.ck_parser.specs.Grammar.{of_call_empty, of_call, of_index, of_member, of_postfix, IsDur}
use Rattle.ck_parser.specs.Grammar.{of_one, of_dur, IsSizes, of_no_sizes, of_size, IsUnary}
use Rattle.ck_parser.specs.Grammar.{of_plain, of_prefix, of_new, of_new_with, of_spork, IsCast, of_unary}
use Rattle.ck_parser.specs.Grammar.{of_cast, IsLevel, of_operand, of_tighter, of_binary, IsCond}
use Rattle.ck_parser.specs.Grammar.{of_or, of_choice, IsBrackets, of_no_brackets, of_empty_bracket}
use Rattle.ck_parser.specs.Grammar.{IsArguments, of_none_given, of_arguments}
use Rattle.ck_parser.specs.Grammar.{of_bracket, of_declr, of_declr_with, IsOperand, of_declare, of_cond, IsExpr}
use Rattle.ck_parser.specs.Grammar.{of_single, of_chuck}
use Rattle.parse_exprs.specs.Machine.{a_declared}
use Rattle.parse_exprs.specs.Machine.{a_head_base}
use Rattle.parse_exprs.specs.Machine.{State, may, a_base, pairs, postfix, unary, operand, declared}
use Rattle.parse_exprs.specs.Machine.{declared_or, calls, durs, casts, joins, asks, chucks}
use Rattle.parse_exprs.specs.Machine.{arguments, declr_rest}
use Rattle.parse_exprs.specs.Machine.{brackets, sizes, more_exprs, Next, or_else, given, joined}
use Rattle.parse_exprs.specs.Machine.{cond_rest, a_cond, an_expr, some_exprs, a_type, first_postfix}
use Rattle.parse_exprs.specs.Machine.{first_unary, first_operand, next_call, next_dur, next_cast}
use Rattle.parse_exprs.specs.Machine.{next_join, next_ask, next_chuck, next_base, next_declared}
use Rattle.parse_exprs.specs.Machine.{after_sign, step, at_end, ended, resume, run, depths_on}
use Rattle.parse_exprs.specs.Machine.{heights}
use Rattle.parse_exprs.specs.Reads.{is_declared, begins_declared}
use Rattle.parse_exprs.proofs.Ranks.{rank, none_call, none_dur, none_cast, none_join, none_ask}
use Rattle.parse_exprs.proofs.Ranks.{none_chuck}
use Rattle.parse_exprs.specs.Tokens.{opens_auto, a_word}
use Rattle.parse_exprs.specs.Tokens.{begins, Then, then, Opening, atom, named, prefixed, based}
use Rattle.parse_exprs.specs.Tokens.{opens_new, opens_spork, opens_static}
use Rattle.parse_exprs.specs.Tokens.{opening}
use Rattle.parse_exprs.specs.Tokens.{follow, level, Sign, a_mark, is_sign, has}
use Rattle.ck_parser.proofs.Openings.{Head, opens-cond, opens-expr, opens-postfix, sort}
use Rattle.ck_syntax.specs.Tree as t
use Rattle.ck_syntax.specs.Tree.{Expr, Exprs, Brackets, Declr, Declrs, expr_line, no_exprs}
use Rattle.ck_syntax.specs.Tree.{and_expr, no_brackets, and_empty, and_size, declr, no_declrs}
use Rattle.ck_syntax.specs.Tree.{and_declr}
use Rattle.ck_syntax.specs.declared.declaration.Base.{Base}
use Rattle.ck_syntax.specs.declared.declaration.DeclHead.{DeclHead}
use Rattle.ck_syntax.specs.declared.declaration.TypeName.{TypeName}
use Rattle.ck_syntax.specs.declared.operator.BinaryOp.{BinaryOp}
use Rattle.ck_syntax.specs.declared.operator.BinaryOp.TheVariants as b
use Rattle.ck_syntax.specs.declared.operator.ChuckOp.{ChuckOp}
use Rattle.ck_syntax.specs.declared.operator.PostfixOp.{PostfixOp}

-- any depth
abbrev pub any : ℕ → Bool
any d = true

-- From s at ts the machine comes to r at rest, and f puts the depths of the tokens between
-- before those that follow.
pub record Passes (ts : List Token) (s : State) (f : List ℕ → List ℕ) (rest : List Token)
    (r : State) : Type 0 where
  pub depths : heights ts s ≡ f (heights rest r)
  pub stop : run any ts s ≡ run any rest r

pub stay : {ts : List Token} {s : State} → Passes ts s (λ ds. ds) ts s
stay = record { depths = refl; stop = refl }

-- one token
pub past : {x : Token} {ts : List Token} {s r : State} {d : ℕ} → step s x ≡ Some (d, r)
    → Passes (x ∷ ts) s (λ ds. d ∷ ds) ts r
past {x} {ts} h = record {
  depths = ap (depths_on (λ r. heights ts r)) h;
  stop = ap (resume any (suc (length ts)) (λ r. run any ts r)) h;
}

-- one after another
pub onward : {ts a b : List Token} {s r q : State} {f g : List ℕ → List ℕ} → Passes ts s f a r
    → Passes a r g b q → Passes ts s (λ ds. f (g ds)) b q
onward {f = f} p q = record { depths = p.depths ∙ ap f q.depths; stop = p.stop ∙ q.stop }

pub same_head : {x : Token} {ts : List Token} {s r : State} → step s x ≡ step r x
    → Passes (x ∷ ts) s (λ ds. ds) (x ∷ ts) r
same_head {x} {ts} h = record {
  depths = ap (depths_on (λ r. heights ts r)) h;
  stop = ap (resume any (suc (length ts)) (λ r. run any ts r)) h;
}

-- ---- tails that do not go on

abbrev NoneAt : List Token → (Token → Next) → Type 0
NoneAt [] o = Unit {0}
NoneAt (x ∷ ts) o = o x ≡ None

pub skip : (ts : List Token) (s r : State) (o : Token → Next) → at_end s ≡ at_end r
    → ((x : Token) → step s x ≡ or_else (o x) (step r x)) → NoneAt ts o
    → Passes ts s (λ ds. ds) ts r
skip [] s r o e h n = record { depths = refl; stop = ap ended e }
skip (x ∷ ts) s r o e h n = same_head (h x ∙ ap (λ y. or_else y (step r x)) n)

abbrev pub next_rank : List Token → ℕ
next_rank [] = 15
next_rank (x ∷ ts) = rank (follow x.kind)

-- What comes next does not belong to what stands before it and binds as tightly as n or more
-- tightly.
pub record Loose (n : ℕ) (ts : List Token) : Type 0 where
  pub rank : n ≤ next_rank ts
  pub no_name : begins_declared ts ≡ false

at_head : (ts : List Token) (n : ℕ) (o : Follow → Next) → n ≤ next_rank ts
    → ((x : Follow) → n ≤ rank x → o x ≡ None) → NoneAt ts (λ x. o (follow x.kind))
at_head [] n o h i = tt
at_head (x ∷ ts) n o h i = i (follow x.kind) h

pub skip_calls : (ts : List Token) (d : ℕ) (e : Expr) (k : Expr → ℕ → State) → 1 ≤ next_rank ts
    → Passes ts (calls d e k) (λ ds. ds) ts (k e d)
skip_calls ts d e k h = skip ts _ _ (λ x. next_call d e k (follow x.kind)) refl (λ x. refl)
    (at_head ts 1 _ h (none_call d e k))

pub skip_durs : (ts : List Token) (d : ℕ) (e : Expr) (k : Expr → ℕ → State) → 2 ≤ next_rank ts
    → Passes ts (durs d e k) (λ ds. ds) ts (k e d)
skip_durs ts d e k h = skip ts _ _ (λ x. next_dur d e k (follow x.kind)) refl (λ x. refl)
    (at_head ts 2 _ h (none_dur d e k))

pub skip_casts : (ts : List Token) (d : ℕ) (e : Expr) (k : Expr → ℕ → State) → 3 ≤ next_rank ts
    → Passes ts (casts d e k) (λ ds. ds) ts (k e d)
skip_casts ts d e k h = skip ts _ _ (λ x. next_cast d e k (follow x.kind)) refl (λ x. refl)
    (at_head ts 3 _ h (none_cast d e k))

pub skip_joins : (ts : List Token) (n d : ℕ) (e : Expr) (k : Expr → ℕ → State)
    → 4 + n ≤ next_rank ts → Passes ts (joins n d e k) (λ ds. ds) ts (k e d)
skip_joins ts n d e k h = skip ts _ _ (λ x. next_join n d e k (follow x.kind)) refl (λ x. refl)
    (at_head ts (4 + n) _ h (none_join n d e k))

pub skip_asks : (ts : List Token) (d : ℕ) (e : Expr) (k : Expr → ℕ → State) → 14 ≤ next_rank ts
    → Passes ts (asks d e k) (λ ds. ds) ts (k e d)
skip_asks ts d e k h = skip ts _ _ (λ x. next_ask d e k (follow x.kind)) refl (λ x. refl)
    (at_head ts 14 _ h (none_ask d e k))

pub skip_chucks : (ts : List Token) (d : ℕ) (e : Expr) (k : Expr → State) → 15 ≤ next_rank ts
    → Passes ts (chucks d e k) (λ ds. ds) ts (k e)
skip_chucks ts d e k h = skip ts _ _ (λ x. next_chuck d e k (follow x.kind)) refl (λ x. refl)
    (at_head ts 15 _ h (none_chuck d e k))

-- a word or mark does not come next
pub missing : (ts : List Token) (j : Sign) (d : ℕ) (s : State) → has j ts ≡ false
    → NoneAt ts (λ x. after_sign x.kind j d s)
missing [] j d s h = tt
missing (x ∷ ts) j d s h = ap (λ b. given b d s) h

pub skip_may : (ts : List Token) (d : ℕ) (j : Sign) (s r : State) → has j ts ≡ false
    → Passes ts (may d j s r) (λ ds. ds) ts r
skip_may ts d j s r h =
    skip ts _ _ (λ x. after_sign x.kind j d s) refl (λ x. refl) (missing ts j d s h)

pub skip_pairs : (ts : List Token) (d n : ℕ) (k : ℕ → State)
    → has (a_mark m.LeftBracket) ts ≡ false → Passes ts (pairs d n k) (λ ds. ds) ts (k n)
skip_pairs ts d n k h = skip ts _ _ (λ x. after_sign x.kind (a_mark m.LeftBracket) _ _) refl
    (λ x. refl) (missing ts _ _ _ h)

pub skip_brackets : (ts : List Token) (d : ℕ) (bs : Brackets) (k : Brackets → State)
    → has (a_mark m.LeftBracket) ts ≡ false → Passes ts (brackets d bs k) (λ ds. ds) ts (k bs)
skip_brackets ts d bs k h = skip ts _ _ (λ x. after_sign x.kind (a_mark m.LeftBracket) _ _) refl
    (λ x. refl) (missing ts _ _ _ h)

pub skip_sizes : (ts : List Token) (d : ℕ) (es : Exprs) (k : Exprs → State)
    → has (a_mark m.LeftBracket) ts ≡ false → Passes ts (sizes d es k) (λ ds. ds) ts (k es)
skip_sizes ts d es k h = skip ts _ _ (λ x. after_sign x.kind (a_mark m.LeftBracket) _ _) refl
    (λ x. refl) (missing ts _ _ _ h)

pub skip_more_exprs : (ts : List Token) (d : ℕ) (es : Exprs) (k : Exprs → State)
    → has (a_mark m.Comma) ts ≡ false → Passes ts (more_exprs d es k) (λ ds. ds) ts (k es)
skip_more_exprs ts d es k h = skip ts _ _ (λ x. after_sign x.kind (a_mark m.Comma) _ _) refl
    (λ x. refl) (missing ts _ _ _ h)

none_declared : (ts : List Token) (d : ℕ) (k : Bool → t.Name → State)
    → begins_declared ts ≡ false → NoneAt ts (λ x. next_declared d k x.kind)
none_declared [] d k h = tt
none_declared (x ∷ ts) d k h = go x.kind h
  where
    go : (j : TokenKind) → is_declared j ≡ false → next_declared d k j ≡ None
    go (Name n) h = cc
    go (Mark m.At) h = cc
    go _ h = refl

skip_declared : (ts : List Token) (d : ℕ) (k : Bool → t.Name → State) (r : State)
    → begins_declared ts ≡ false → Passes ts (declared_or d k r) (λ ds. ds) ts r
skip_declared ts d k r h =
    skip ts _ _ (λ x. next_declared d k x.kind) refl (λ x. refl) (none_declared ts d k h)

-- ---- what a token that goes on with an expression is not

no_name : (k : TokenKind) → rank (follow k) ≤ 14 → is_declared k ≡ false
no_name (Name n) h = absurd (omega arith)
no_name (Mark m.At) h = absurd (omega arith)
no_name _ h = refl

no_comma : (k : TokenKind) → rank (follow k) ≤ 14 → is_sign k (a_mark m.Comma) ≡ false
no_comma (Mark m.Comma) h = absurd (omega arith)
no_comma _ h = refl

no_bracket : (k : TokenKind) → 1 ≤ rank (follow k) → is_sign k (a_mark m.LeftBracket) ≡ false
no_bracket (Mark m.LeftBracket) h = absurd (omega arith)
no_bracket _ h = refl

no_call : (k : TokenKind) → 1 ≤ rank (follow k) → is_sign k (a_mark m.LeftParen) ≡ false
no_call (Mark m.LeftParen) h = absurd (omega arith)
no_call _ h = refl

level-le : (o : BinaryOp) → level o ≤ 9
level-le b.Mul = omega arith
level-le b.Div = omega arith
level-le b.Mod = omega arith
level-le b.Add = omega arith
level-le b.Sub = omega arith
level-le b.ShiftLeft = omega arith
level-le b.ShiftRight = omega arith
level-le b.Less = omega arith
level-le b.Greater = omega arith
level-le b.LessEqual = omega arith
level-le b.GreaterEqual = omega arith
level-le b.Equal = omega arith
level-le b.NotEqual = omega arith
level-le b.And = omega arith
level-le b.Xor = omega arith
level-le b.Or = omega arith
level-le b.AndAlso = omega arith
level-le b.OrElse = omega arith

-- an operator of this rank stands next
pub operator : {k : TokenKind} {ts rest : List Token} (x : Follow) → rank x ≤ 14
    → Then k ts rest → follow k ≡ x → Loose (rank x) ts
operator {k} x h then e = record {
  rank = subst (λ y. rank x ≤ rank y) (sym e) (omega arith);
  no_name = no_name k (subst (λ y. rank y ≤ 14) (sym e) h);
}

pub no_comma_at : {k : TokenKind} {ts rest : List Token} (x : Follow) → rank x ≤ 14
    → Then k ts rest → follow k ≡ x → has (a_mark m.Comma) ts ≡ false
no_comma_at {k} x h then e = no_comma k (subst (λ y. rank y ≤ 14) (sym e) h)

no_colon : (k : TokenKind) → rank (follow k) ≤ 14 → is_sign k (a_mark m.Colon) ≡ false
no_colon (Mark m.Colon) h = absurd (omega arith)
no_colon _ h = refl

pub no_colon_at : {k : TokenKind} {ts rest : List Token} (x : Follow) → rank x ≤ 14
    → Then k ts rest → follow k ≡ x → has (a_mark m.Colon) ts ≡ false
no_colon_at {k} x h then e = no_colon k (subst (λ y. rank y ≤ 14) (sym e) h)

pub no_bracket_at : (ts : List Token) → 1 ≤ next_rank ts → has (a_mark m.LeftBracket) ts ≡ false
no_bracket_at [] h = refl
no_bracket_at (x ∷ ts) h = no_bracket x.kind h

pub no_call_at : (ts : List Token) → 1 ≤ next_rank ts → has (a_mark m.LeftParen) ts ≡ false
no_call_at [] h = refl
no_call_at (x ∷ ts) h = no_call x.kind h

pub looser : {n m : ℕ} {ts : List Token} → Loose n ts → m ≤ n → Loose m ts
looser h i = let r = h.rank in record { rank = omega arith; no_name = h.no_name }

-- ---- behind a name that is a value neither a name nor `@` comes next

abbrev NameFirst : List Token → Type 0
NameFirst [] = Unit {0}
NameFirst (x ∷ ts) = (n : t.Name) → opening x.line x.kind ≡ named n → begins_declared ts ≡ false

second-postfix : {ts rest : List Token} {e : Expr} → IsPostfix ts e rest
    → begins_declared rest ≡ false → NameFirst ts
second-postfix (of_primary (of_atom begins h)) g = λ n e. absurd (atom_named (sym h ∙ e))
  where
    atom_named : {e : Expr} {n : t.Name} → atom e ≡ named n → ⊥
    atom_named h = cc
second-postfix (of_primary (of_name begins)) g = λ n e. g
second-postfix (of_primary (of_paren begins i r)) g = λ n e. cc
second-postfix (of_primary (of_array begins i r)) g = λ n e. cc
second-postfix (of_call_empty i then r) g = second-postfix i refl
second-postfix (of_call i then j r) g = second-postfix i refl
second-postfix (of_index i then j r) g = second-postfix i refl
second-postfix (of_member i then n) g = second-postfix i refl
second-postfix (of_postfix {o = o} i p h) g =
    second-postfix i (let q = operator (f.Postfix o) (omega arith) p h in q.no_name)

second-dur : {ts rest : List Token} {e : Expr} → IsDur ts e rest → begins_declared rest ≡ false
    → NameFirst ts
second-dur (of_one i) g = second-postfix i g
second-dur (of_dur i then j) g = second-dur i refl

second-unary : {ts rest : List Token} {e : Expr} → IsUnary ts e rest
    → begins_declared rest ≡ false → NameFirst ts
second-unary (of_plain i) g = second-dur i g
second-unary (of_prefix begins h i) g = λ n e. absurd (prefix_named (sym h ∙ e))
  where
    prefix_named : {o : _} {n : t.Name} → prefixed o ≡ named n → ⊥
    prefix_named h = cc
second-unary (of_new begins b i) g = λ n e. cc
second-unary (of_new_with begins b i) g = λ n e. cc
second-unary (of_spork begins p i) g = λ n e. cc

second-cast : {ts rest : List Token} {e : Expr} → IsCast ts e rest
    → begins_declared rest ≡ false → NameFirst ts
second-cast (of_unary i) g = second-unary i g
second-cast (of_cast i then k) g = second-cast i refl

second-level : {n : ℕ} {ts rest : List Token} {e : Expr} → IsLevel n ts e rest
    → begins_declared rest ≡ false → NameFirst ts
second-level (of_operand i) g = second-cast i g
second-level (of_tighter i) g = second-level i g
second-level (of_binary {o = o} i p h e j) g = second-level i
    (let q = operator (f.Binary o) (let x = level-le o in omega arith) p h in q.no_name)

second-cond : {ts rest : List Token} {e : Expr} → IsCond ts e rest
    → begins_declared rest ≡ false → NameFirst ts
second-cond (of_or i) g = second-level i g
second-cond (of_choice i then j q l) g = second-level i refl

-- ---- one state as another, at what begins there

pub as_postfix : (ts : List Token) (d : ℕ) (k : Expr → ℕ → State) → Head 0 ts
    → Passes ts (unary d k) (λ ds. ds) ts (postfix d (λ e c. durs c e k))
as_postfix [] d k h = absurd h
as_postfix (x ∷ ts) d k h = same_head (go (opening x.line x.kind) h)
  where
    go : (o : Opening) → sort o ≤ 0
        → first_unary d x.line o k ≡ first_postfix d x.line o (λ e c. durs c e k)
    go (prefixed o) h = absurd (omega arith)
    go opens_new h = absurd (omega arith)
    go opens_spork h = absurd (omega arith)
    go _ h = refl

as_cond : (ts : List Token) (d : ℕ) (h : ℕ → DeclHead → Declr → State) (k : Expr → ℕ → State)
    → Head 1 ts → NameFirst ts
    → Passes ts (operand d h k) (λ ds. ds) ts (unary d (λ e c. cond_rest c e k))
as_cond [] d h k i j = absurd i
as_cond (x ∷ ts) d h k i j = go (opening x.line x.kind) refl i j
  where
    past_name : (n : t.Name) → opening x.line x.kind ≡ named n → begins_declared ts ≡ false
        → Passes (x ∷ ts) (operand d h k) (λ ds. ds) (x ∷ ts) (unary d (λ e c. cond_rest c e k))
    past_name n e g =
        let s : State = calls d (t.name x.line n) (λ e c. durs c e (λ q b. cond_rest b q k)) in
        let p : Passes (x ∷ ts) (operand d h k) (λ ds. d ∷ ds) ts s = onward
        (past (ap (λ o. first_operand d x.line o h k) e)) (skip_declared ts d _ s g) in
        let q : Passes (x ∷ ts) (unary d (λ e c. cond_rest c e k)) (λ ds. d ∷ ds) ts s = past
        (ap (λ o. first_unary d x.line o (λ e c. cond_rest c e k)) e) in
        record { depths = p.depths ∙ sym q.depths; stop = p.stop ∙ sym q.stop }

    go : (o : Opening) → opening x.line x.kind ≡ o → sort o ≤ 1
        → ((n : t.Name) → o ≡ named n → begins_declared ts ≡ false)
        → Passes (x ∷ ts) (operand d h k) (λ ds. ds) (x ∷ ts) (unary d (λ e c. cond_rest c e k))
    go (based b) e i j = absurd (omega arith)
    go opens_static e i j = absurd (omega arith)
    go opens_auto e i j = absurd (omega arith)
    go (named n) e i j = past_name n e (j n refl)
    go _ e i j = same_head (ap (λ o. first_operand d x.line o h k) e
        ∙ sym (ap (λ o. first_unary d x.line o (λ e c. cond_rest c e k)) e))

-- ---- types and heads

pub pass-base : {l : ℕ} {b : Base} {ts rest : List Token} → IsBase ts l b rest
    → (d : ℕ) (k : Base → State) → Passes ts (a_base d k) (λ ds. d ∷ ds) rest (k b)
pass-base (of_word begins h) d k = past (ap (next_base d k) h)
pass-base (of_class begins) d k = past refl

no_auto : {l : ℕ} {b : Base} {ts rest : List Token} → IsBase ts l b rest
    → has (a_word w.Auto) ts ≡ false
no_auto (of_word {k = k} {l = l} begins h) = go k h
  where
    go : {b : Base} (k : TokenKind) → opening l k ≡ based b → is_sign k (a_word w.Auto) ≡ false
    go (Word w.Auto) h = cc
    go (Mark x) h = refl
    go _ h = refl
no_auto (of_class begins) = refl

pub pass-pairs : {n : ℕ} {ts rest : List Token} → IsPairs ts n rest → (d : ℕ) (k : ℕ → State)
    → Passes ts (pairs d 0 k) (pairs_depths d n) rest (pairs d n k)
pass-pairs of_no_pairs d k = stay
pass-pairs (of_pair i then then) d k = onward (pass-pairs i d k) (onward (past refl) (past refl))

pub pass-type : {b : TypeName} {ts rest : List Token} → IsType ts b rest
    → has (a_mark m.LeftBracket) rest ≡ false → (d : ℕ) (k : TypeName → State)
    → Passes ts (a_type d k) (type_depths d b) rest (k b)
pass-type {rest = rest} (of_base i j) h d k =
    onward (pass-base i d _) (onward (pass-pairs j d _) (skip_pairs rest d _ _ h))

-- behind a base: '@'? Name
pass-at : {r : Bool} {n : t.Name} {ts a rest : List Token} → IsAt ts r a → Then (Name n) a rest
    → (d : ℕ) (k : Bool → t.Name → State)
    → Passes ts (declared d k) (λ ds. one_if r d (d ∷ ds)) rest (k r n)
pass-at of_no_at then d k = past refl
pass-at (of_at then) then d k = onward (past refl) (past refl)

pass-at_or : {r : Bool} {n : t.Name} {ts a rest : List Token} → IsAt ts r a
    → Then (Name n) a rest → (d : ℕ) (k : Bool → t.Name → State) (s : State)
    → Passes ts (declared_or d k s) (λ ds. one_if r d (d ∷ ds)) rest (k r n)
pass-at_or of_no_at then d k s = past refl
pass-at_or (of_at then) then d k s = onward (past refl) (past refl)

pass-head_base : {l : ℕ} {b : Option Base} {ts rest : List Token} → IsHeadBase ts l b rest
    → (d : ℕ) (k : Option Base → State) → Passes ts (a_head_base d k) (λ ds. d ∷ ds) rest (k b)
pass-head_base (of_typed {ts = ts} b) d k =
    onward (skip_may ts d _ _ _ (no_auto b)) (pass-base b d _)
pass-head_base (of_auto begins) d k = past refl

-- the head of a declaration and its name
pub pass-head : {l : ℕ} {h : DeclHead} {n : t.Name} {ts a rest : List Token} → IsHead ts l h a
    → Then (Name n) a rest → (d : ℕ) (g : ℕ → DeclHead → Declr → State) (k : Expr → ℕ → State)
    → Passes ts (operand d g k) (λ ds. head_depths d h (d ∷ ds)) rest
    (declr_rest d n (λ x. g l h x))
pass-head (of_head (of_typed (of_word {l = l} begins e)) r) q d g k =
    onward (past (ap (λ o. first_operand d l o g k) e)) (pass-at r q d _)
pass-head (of_head (of_typed (of_class begins)) r) q d g k =
    onward (past refl) (pass-at_or r q d _ _)
pass-head (of_head (of_auto begins) r) q d g k = onward (past refl) (pass-at r q d _)
pass-head (of_static {l = l} {b = base} begins b r) q d g k =
    onward (past refl) (onward (pass-head_base b d (λ b. declared d (a_declared d l true b g)))
    (pass-at r q d (a_declared d l true base g)))

-- ---- expressions

-- a token that closes
pub shut : {x : Token} {ts : List Token} → rank (follow x.kind) ≡ 15
    → is_declared x.kind ≡ false → Loose 15 (x ∷ ts)
shut h g = record { rank = omega arith; no_name = g }

past_operator : {k : TokenKind} {ts rest : List Token} (x : Follow) (s r : State) (d : ℕ)
    (o : Follow → Next) (q : Token → Next) → Then k ts rest → follow k ≡ x
    → ((y : Token) → step s y ≡ or_else (o (follow y.kind)) (q y)) → o x ≡ Some (d, r)
    → Passes ts s (λ ds. d ∷ ds) rest r
past_operator {k} x s r d o q (then {l = l} {a = a}) e h i = let y :
    Token = record { kind = k; line = l; at = a } in
    past (h y ∙ ap (λ z. or_else (o z) (q y)) e ∙ ap (λ z. or_else z (q y)) i)

pub reshape : {ts rest : List Token} {s r : State} {f g : List ℕ → List ℕ}
    → ((ds : List ℕ) → f ds ≡ g ds) → Passes ts s f rest r → Passes ts s g rest r
reshape h p = record { depths = p.depths ∙ h _; stop = p.stop }

-- a tree of one token
pub record Lone (e : Expr) : Type 0 where
  pub depths : (d : ℕ) (ds : List ℕ) → expr_depths d e ds ≡ d ∷ ds
  pub behind_it : (d : ℕ) → behind d e ≡ d

abbrev LoneAtom : Opening → Type 0
LoneAtom (atom e) = Lone e
LoneAtom _ = Unit {0}

lone_atom : (l : ℕ) (k : TokenKind) → LoneAtom (opening l k)
lone_atom l (Int v) = record { depths = λ d ds. refl; behind_it = λ d. refl }
lone_atom l (Float v) = record { depths = λ d ds. refl; behind_it = λ d. refl }
lone_atom l (Text v) = record { depths = λ d ds. refl; behind_it = λ d. refl }
lone_atom l (Word w.True) = record { depths = λ d ds. refl; behind_it = λ d. refl }
lone_atom l (Word w.False) = record { depths = λ d ds. refl; behind_it = λ d. refl }
lone_atom l (Word w.Null) = record { depths = λ d ds. refl; behind_it = λ d. refl }
lone_atom l (Word w.Now) = record { depths = λ d ds. refl; behind_it = λ d. refl }
lone_atom l (Word w.Me) = record { depths = λ d ds. refl; behind_it = λ d. refl }
lone_atom l (Word w.Dac) = record { depths = λ d ds. refl; behind_it = λ d. refl }
lone_atom l (Word w.Blackhole) = record { depths = λ d ds. refl; behind_it = λ d. refl }
lone_atom l (Word w.This) = record { depths = λ d ds. refl; behind_it = λ d. refl }
lone_atom l (Word w.Samp) = record { depths = λ d ds. refl; behind_it = λ d. refl }
lone_atom l (Word w.Ms) = record { depths = λ d ds. refl; behind_it = λ d. refl }
lone_atom l (Word w.Second) = record { depths = λ d ds. refl; behind_it = λ d. refl }
lone_atom l (Word w.Minute) = record { depths = λ d ds. refl; behind_it = λ d. refl }
lone_atom l (Word w.Hour) = record { depths = λ d ds. refl; behind_it = λ d. refl }
lone_atom l (Word w.Day) = record { depths = λ d ds. refl; behind_it = λ d. refl }
lone_atom l (Word w.Week) = record { depths = λ d ds. refl; behind_it = λ d. refl }
lone_atom l (Mark x) = no_mark x
  where
    no_mark : (x : AMark) → LoneAtom (opening l (Mark x))
    no_mark m.Chuck = tt
    no_mark _ = tt
lone_atom l _ = tt

pub lone : (l : ℕ) (k : TokenKind) (e : Expr) → opening l k ≡ atom e → Lone e
lone l k e h = subst LoneAtom h (lone_atom l k)

past_lone : {ts rest : List Token} {s : State} {d : ℕ} {e : Expr} {k : Expr → ℕ → State}
    → Lone e → Passes ts s (λ ds. d ∷ ds) rest (calls d e k)
    → Passes ts s (expr_depths d e) rest (calls (behind d e) e k)
past_lone {ts} {rest} {s} {d} {e} {k} h p = subst
    (λ c. Passes ts s (expr_depths d e) rest (calls c e k)) (sym (h.behind_it d))
    (reshape (λ ds. sym (h.depths d ds)) p)

comma : {ts rest : List Token} {es : Exprs} → IsExprs ts es rest → (d : ℕ) (ds : List ℕ)
    → before_comma d es ds ≡ exprs_depths d es (d ∷ ds)
comma (of_first i) d ds = refl
comma (of_next i p j) d ds = refl

pub opens-exprs : {ts rest : List Token} {es : Exprs} → IsExprs ts es rest → Head 2 ts
opens-exprs (of_first i) = opens-expr i
opens-exprs (of_next i p j) = opens-exprs i

-- what begins an expression closes nothing
pub no_paren : (ts : List Token) → Head 2 ts → has (a_mark m.RightParen) ts ≡ false
no_paren [] h = refl
no_paren (x ∷ ts) h = go x.kind h
  where
    go : (k : TokenKind) → sort (opening x.line k) ≤ 2 → is_sign k (a_mark m.RightParen) ≡ false
    go (Mark m.RightParen) h = absurd (omega arith)
    go _ h = refl

pub no_square : (ts : List Token) → Head 2 ts → has (a_mark m.RightBracket) ts ≡ false
no_square [] h = refl
no_square (x ∷ ts) h = go x.kind h
  where
    go : (k : TokenKind) → sort (opening x.line k) ≤ 2 → is_sign k (a_mark m.RightBracket) ≡ false
    go (Mark m.RightBracket) h = absurd (omega arith)
    go _ h = refl

pub no_semicolon : (ts : List Token) → Head 2 ts → has (a_mark m.Semicolon) ts ≡ false
no_semicolon [] h = refl
no_semicolon (x ∷ ts) h = go x.kind h
  where
    go : (k : TokenKind) → sort (opening x.line k) ≤ 2 → is_sign k (a_mark m.Semicolon) ≡ false
    go (Mark m.Semicolon) h = absurd (omega arith)
    go _ h = refl

-- a chuck operator, or another, stands next and binds more loosely than these
pub after_operator : {n : ℕ} {k : TokenKind} {ts rest : List Token} (x : Follow) → n ≤ rank x
    → rank x ≤ 14 → Then k ts rest → follow k ≡ x → Loose n ts
after_operator x i j p h = looser (operator x j p h) i

-- a whole Expr, a list of them, a Postfix: what goes on with it does not come next
pub whole : {ts rest : List Token} {s : State} {f : List ℕ → List ℕ} {c : ℕ} {e : Expr}
    {k : Expr → State} → Loose 15 rest → (Loose 14 rest → Passes ts s f rest (chucks c e k))
    → Passes ts s f rest (k e)
whole {rest = rest} {c = c} {e = e} {k = k} h p =
    onward (p (looser h (omega arith))) (skip_chucks rest c e k h.rank)

pub whole_exprs : {ts rest : List Token} {s : State} {f : List ℕ → List ℕ} {d : ℕ} {es : Exprs}
    {k : Exprs → State} → has (a_mark m.Comma) rest ≡ false
    → Passes ts s f rest (more_exprs d es k) → Passes ts s f rest (k es)
whole_exprs {rest = rest} {d = d} {es = es} {k = k} h p = onward p (skip_more_exprs rest d es k h)

whole_postfix : {ts rest : List Token} {s : State} {f : List ℕ → List ℕ} {c : ℕ} {e : Expr}
    {k : Expr → ℕ → State} → 1 ≤ next_rank rest → Passes ts s f rest (calls c e k)
    → Passes ts s f rest (k e c)
whole_postfix {rest = rest} {c = c} {e = e} {k = k} h p = onward p (skip_calls rest c e k h)

at_level : (n : ℕ) (o : BinaryOp) {ts : List Token} → level o ≡ n → Loose (3 + level o) ts
    → 3 + n ≤ next_rank ts
at_level n o q h = let r = h.rank in omega arith

past_postfix : {k : TokenKind} {o : PostfixOp} {ts rest : List Token} → Then k ts rest
    → follow k ≡ f.Postfix o → (d : ℕ) (e : Expr) (c : Expr → ℕ → State) → Passes ts
    (calls d e c) (λ ds. suc d ∷ ds) rest (calls (suc d) (t.postfix (expr_line e) e o) c)
past_postfix {o = o} p h d e c =
    past_operator (f.Postfix o) _ _ _ (next_call d e c) (step (c e d)) p h (λ y. refl) refl

pub past_chuck : {k : TokenKind} {o : ChuckOp} {ts rest : List Token} → Then k ts rest
    → follow k ≡ f.Chuck o → (d : ℕ) (e : Expr) (c : Expr → State)
    → Passes ts (chucks d e c) (λ ds. suc d ∷ ds) rest
    (operand (suc d) (λ l h x. chucks (suc d) (t.chuck (expr_line e) e o (t.declare l h x)) c)
    (λ g b. chucks b (t.chuck (expr_line e) e o g) c))
past_chuck {o = o} p h d e c =
    past_operator (f.Chuck o) _ _ _ (next_chuck d e c) (step (c e)) p h (λ y. refl) refl

join_taken : (n : ℕ) (o : BinaryOp) (d : ℕ) (e : Expr) (k : Expr → ℕ → State) → level o ≡ n
    → next_join n d e k (f.Binary o) ≡ Some (
      suc d,
      unary (suc d) (λ g c. joined n c g
          (λ h b. joins n b (t.binary (expr_line e) e o h) k)),
    )
join_taken n o d e k q = ap (λ b. given b (suc d)
    (unary (suc d) (λ g c. joined n c g (λ h b. joins n b (t.binary (expr_line e) e o h) k))))
    (eq-eqb (level o) n q)

past_join : {k : TokenKind} {ts rest : List Token} (n : ℕ) (o : BinaryOp) → Then k ts rest
    → follow k ≡ f.Binary o → level o ≡ n → (d : ℕ) (e : Expr) (c : Expr → ℕ → State)
    → Passes ts (joins n d e c) (λ ds. suc d ∷ ds) rest
    (unary (suc d) (λ g b. joined n b g (λ h a. joins n a (t.binary (expr_line e) e o h) c)))
past_join n o p h q d e c = past_operator (f.Binary o) _ _ _ (next_join n d e c) (step (c e d))
    p h (λ y. refl) (join_taken n o d e c q)

-- no '(' stands behind brackets, so it doesn't before them
no_paren_brackets : {ts rest : List Token} {bs : Brackets} → IsBrackets ts bs rest
    → has (a_mark m.LeftParen) rest ≡ false → has (a_mark m.LeftParen) ts ≡ false
no_paren_brackets of_no_brackets h = h
no_paren_brackets (of_empty_bracket i then then) h = no_paren_brackets i refl
no_paren_brackets (of_bracket i then j then) h = no_paren_brackets i refl

no_paren_sizes : {ts rest : List Token} {es : Exprs} → IsSizes ts es rest
    → has (a_mark m.LeftParen) rest ≡ false → has (a_mark m.LeftParen) ts ≡ false
no_paren_sizes of_no_sizes h = h
no_paren_sizes (of_size i then j then) h = no_paren_sizes i refl

mutual
  pass-primary : {ts rest : List Token} {e : Expr} → IsPrimary ts e rest
      → (d : ℕ) (k : Expr → ℕ → State)
      → Passes ts (postfix d k) (expr_depths d e) rest (calls (behind d e) e k)
  pass-primary (of_atom {k = j} {l = l} {e = e} begins h) d k =
      past_lone (lone l j e h) (past (ap (λ o. first_postfix d l o k) h))
  pass-primary (of_name begins) d k = past refl
  pass-primary (of_paren begins i then) d k = onward (past refl)
      (onward (whole (shut refl refl) (λ r. pass-expr i r (suc d) _)) (past refl))
  pass-primary (of_array begins i then) d k = onward (past refl)
      (onward (whole_exprs refl (pass-more i (shut refl refl) (suc d) _)) (past refl))

  pub pass-more : {ts rest : List Token} {es : Exprs} → IsExprs ts es rest → Loose 15 rest
      → (d : ℕ) (k : Exprs → State)
      → Passes ts (some_exprs d k) (exprs_depths d es) rest (more_exprs d es k)
  pass-more (of_first i) h d k = whole h (λ r. pass-expr i r d _)
  pass-more (of_next {e = e} i then j) h d k = reshape
      (λ ds. sym (comma i d (expr_depths d e ds)))
      (onward (pass-more i (shut refl refl) d k)
      (onward (past refl) (whole h (λ r. pass-expr j r d _))))

  pass-postfix : {ts rest : List Token} {e : Expr} → IsPostfix ts e rest
      → (d : ℕ) (k : Expr → ℕ → State)
      → Passes ts (postfix d k) (expr_depths d e) rest (calls (behind d e) e k)
  pass-postfix (of_primary i) d k = pass-primary i d k
  pass-postfix (of_call_empty i then then) d k =
      onward (pass-postfix i d k) (onward (past refl) (past refl))
  pass-postfix (of_call {b = b} i then j then) d k = onward (pass-postfix i d k)
      (onward (past refl) (onward (skip_may b _ _ _ _ (no_paren b (opens-exprs j)))
      (onward (whole_exprs refl (pass-more j (shut refl refl) _ _)) (past refl))))
  pass-postfix (of_index i then j then) d k = onward (pass-postfix i d k)
      (onward (past refl) (onward (whole (shut refl refl) (λ r. pass-expr j r _ _))
      (past refl)))
  pass-postfix (of_member i then then) d k =
      onward (pass-postfix i d k) (onward (past refl) (past refl))
  pass-postfix (of_postfix i p h) d k = onward (pass-postfix i d k) (past_postfix p h _ _ k)

  pass-dur : {ts rest : List Token} {e : Expr} → IsDur ts e rest → 1 ≤ next_rank rest
      → (d : ℕ) (k : Expr → ℕ → State)
      → Passes ts (unary d k) (expr_depths d e) rest (durs (behind d e) e k)
  pass-dur {ts} (of_one i) h d k =
      onward (as_postfix ts d k (opens-postfix i)) (whole_postfix h (pass-postfix i d _))
  pass-dur (of_dur i then j) h d k = onward (pass-dur i (omega arith) d k)
      (onward (past refl) (whole_postfix h (pass-postfix j _ _)))

  pass-sizes : {ts rest : List Token} {es : Exprs} → IsSizes ts es rest
      → (d : ℕ) (k : Exprs → State)
      → Passes ts (sizes d no_exprs k) (sizes_depths d es) rest (sizes d es k)
  pass-sizes of_no_sizes d k = stay
  pass-sizes (of_size i then j then) d k = onward (pass-sizes i d k)
      (onward (past refl) (onward (whole (shut refl refl) (λ r. pass-expr j r _ _))
      (past refl)))

  pass-unary : {ts rest : List Token} {e : Expr} → IsUnary ts e rest → 2 ≤ next_rank rest
      → (d : ℕ) (k : Expr → ℕ → State)
      → Passes ts (unary d k) (expr_depths d e) rest (k e (behind d e))
  pass-unary {rest = rest} (of_plain i) h d k =
      onward (pass-dur i (omega arith) d k) (skip_durs rest _ _ k h)
  pass-unary (of_prefix {l = l} begins g i) h d k =
      onward (past (ap (λ o. first_unary d l o k) g)) (pass-unary i h (suc d) _)
  pass-unary {rest = rest} (of_new {c = c} begins b i) h d k = onward (past refl)
      (onward (pass-base b (suc d) _)
      (onward (skip_may c _ _ _ _ (no_paren_sizes i (no_call_at rest (omega arith))))
      (onward (pass-sizes i (suc d) _)
      (skip_sizes rest _ _ _ (no_bracket_at rest (omega arith))))))
  pass-unary (of_new_with {l = l} {b = base} begins b i) h d k = onward (past refl)
      (onward (pass-base b (suc d) _) (pass-arguments i (suc d)
      (λ es. k (t.new_with l base es) (suc d))
      (sizes (suc d) no_exprs (λ es. k (t.new l base es) (suc d)))))
  pass-unary (of_spork begins then i) h d k = onward (past refl)
      (onward (past refl) (whole_postfix (omega arith) (pass-postfix i (suc d) _)))

  pass-cast : {ts rest : List Token} {e : Expr} → IsCast ts e rest → 2 ≤ next_rank rest
      → (d : ℕ) (k : Expr → ℕ → State)
      → Passes ts (unary d (λ e c. casts c e k)) (expr_depths d e) rest (casts (behind d e) e k)
  pass-cast (of_unary i) h d k = pass-unary i h d _
  pass-cast {rest = rest} (of_cast {e = e} i then j) h d k = onward
      (pass-cast i (omega arith) d k) (onward (past refl)
      (pass-type j (no_bracket_at rest (omega arith)) _
      (λ b. casts (suc (behind d e)) (t.cast (expr_line e) e b) k)))

  -- all that the levels below n join
  pass-level : (n : ℕ) {ts rest : List Token} {e : Expr} → IsLevel n ts e rest
      → 3 + n ≤ next_rank rest → (d : ℕ) (k : Expr → ℕ → State)
      → Passes ts (unary d (λ e c. joined n c e k)) (expr_depths d e) rest (k e (behind d e))
  pass-level n {rest = rest} (of_operand i) h d k =
      onward (pass-cast i (omega arith) d k) (skip_casts rest _ _ k (omega arith))
  pass-level _ {rest = rest} (of_tighter {n = n} i) h d k = onward
      (pass-level n i (omega arith) d (λ g c. joins n c g k))
      (skip_joins rest n _ _ k (omega arith))
  pass-level _ {rest = rest} (of_binary {n = n} {o = o} i p g q j) h d k =
      onward (pass-open n i (at_level n o q
      (after_operator (f.Binary o) (omega arith) (let x = level-le o in omega arith) p g)) d
      k)
      (onward (past_join n o p g q _ _ k)
      (onward (pass-level n j (omega arith) _ _) (skip_joins rest n _ _ k (omega arith))))

  -- the same, where more of the last level may come
  pass-open : (n : ℕ) {ts rest : List Token} {e : Expr} → IsLevel (suc n) ts e rest
      → 3 + n ≤ next_rank rest → (d : ℕ) (k : Expr → ℕ → State) → Passes ts
      (unary d (λ e c. joined (suc n) c e k)) (expr_depths d e) rest (joins n (behind d e) e k)
  pass-open _ (of_tighter {n = n} i) h d k = pass-level n i h d _
  pass-open _ (of_binary {n = n} {o = o} i p g q j) h d k =
      onward (pass-open n i (at_level n o q
      (after_operator (f.Binary o) (omega arith) (let x = level-le o in omega arith) p g)) d
      k)
      (onward (past_join n o p g q _ _ k)
      (pass-level n j h _ _))

  pass-cond : {ts rest : List Token} {e : Expr} → IsCond ts e rest → 14 ≤ next_rank rest
      → (d : ℕ) (k : Expr → ℕ → State)
      → Passes ts (a_cond d k) (expr_depths d e) rest (k e (behind d e))
  pass-cond {rest = rest} (of_or i) h d k =
      onward (pass-level 10 i (omega arith) d _) (skip_asks rest _ _ k h)
  pass-cond (of_choice i then j then l) h d k = onward (pass-level 10 i (omega arith) d _)
      (onward (past refl) (onward (whole (shut refl refl) (λ r. pass-expr j r _ _))
      (onward (past refl) (pass-cond l h _ _))))

  pub pass-brackets : {ts rest : List Token} {bs : Brackets} → IsBrackets ts bs rest
      → (d : ℕ) (k : Brackets → State)
      → Passes ts (brackets d no_brackets k) (brackets_depths d bs) rest (brackets d bs k)
  pass-brackets of_no_brackets d k = stay
  pass-brackets (of_empty_bracket i then then) d k =
      onward (pass-brackets i d k) (onward (past refl) (past refl))
  pass-brackets (of_bracket {b = b} i then j then) d k = onward (pass-brackets i d k)
      (onward (past refl) (onward (skip_may b _ _ _ _ (no_square b (opens-expr j)))
      (onward (whole (shut refl refl) (λ r. pass-expr j r _ _)) (past refl))))

  -- arguments, where they may stand
  pub pass-arguments : {ts rest : List Token} {es : Exprs} → IsArguments ts es rest
      → (d : ℕ) (k : Exprs → State) (r : State)
      → Passes ts (may (suc d) (a_mark m.LeftParen) (arguments (suc d) k) r)
      (λ ds. suc d ∷ exprs_depths (suc d) es (suc d ∷ ds)) rest (k es)
  pass-arguments (of_none_given then then) d k r = onward (past refl) (past refl)
  pass-arguments (of_arguments {a = a} then i then) d k r = onward (past refl)
      (onward (skip_may a _ _ _ _ (no_paren a (opens-exprs i)))
      (onward (whole_exprs refl (pass-more i (shut refl refl) _ _)) (past refl)))

  -- a declaration or a value, where a declaration goes on as a value does
  pub pass-operand : {ts rest : List Token} {e : Expr} → IsOperand ts e rest → Loose 14 rest
      → (d : ℕ) (g : ℕ → DeclHead → Declr → State) (k : Expr → ℕ → State)
      → ((l : ℕ) (h : DeclHead) (x : Declr)
      → Passes rest (g l h x) (λ ds. ds) rest (k (t.declare l h x) d))
      → Passes ts (operand d g k) (expr_depths d e) rest (k e (behind d e))
  pass-operand {rest = rest} (of_declare i (of_declr {a = a} p j)) h d g k q = let r = h.rank in
      onward (pass-head i p d g k)
      (onward (skip_may a _ _ _ _ (no_paren_brackets j (no_call_at rest (omega arith))))
      (onward (pass-brackets j d _)
      (onward (skip_brackets rest _ _ _ (no_bracket_at rest (omega arith))) (q _ _ _))))
  pass-operand (of_declare {l = l} {h = head} i (of_declr_with {n = n} p j)) h d g k q =
      onward (pass-head i p d g k) (onward (pass-arguments j d
      (λ es. g l head (t.declr_with n es)) (brackets d no_brackets (λ bs. g l head (declr n bs))))
      (q _ _ _))
  pass-operand {ts} (of_cond i) h d g k q = onward
      (as_cond ts d g k (opens-cond i) (second-cond i h.no_name)) (pass-cond i h.rank d k)

  pub pass-expr : {ts rest : List Token} {e : Expr} → IsExpr ts e rest → Loose 14 rest
      → (d : ℕ) (k : Expr → State)
      → Passes ts (an_expr d k) (expr_depths d e) rest (chucks (behind d e) e k)
  pass-expr (of_single i) h d k = pass-operand i h d _ (λ e c. chucks c e k) (λ l h x. stay)
  pass-expr (of_chuck {o = o} {e = e} i p g j) h d k = onward
      (pass-expr i (after_operator (f.Chuck o) (omega arith) (omega arith) p g) d k)
      (onward (past_chuck p g _ _ k) (pass-operand j h _ _
      (λ g c. chucks c (t.chuck (expr_line e) e o g) k) (λ l h x. stay)))

-- what stands behind a declared name
pub pass-rest : {n : t.Name} {ts rest : List Token} {bs : Brackets} → IsBrackets ts bs rest
    → has (a_mark m.LeftParen) rest ≡ false → has (a_mark m.LeftBracket) rest ≡ false
    → (d : ℕ) (k : Declr → State)
    → Passes ts (declr_rest d n k) (brackets_depths d bs) rest (k (declr n bs))
pass-rest {ts = ts} {rest = rest} i h g d k =
    onward (skip_may ts _ _ _ _ (no_paren_brackets i h))
    (onward (pass-brackets i d _) (skip_brackets rest _ _ _ g))
