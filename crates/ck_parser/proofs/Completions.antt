-- What tokens complete a state to a file, and the same at the next state after each row of first
-- tokens.
use Rattle.std.proofs.Common.{subst}
use Rattle.std.proofs.Common.{◌⊎◌, inl, inr, ◌≡◌, ℕ, zero, suc, List, [], ◌∷◌}
use Rattle.std.proofs.Common.{Bool, true, false, Option, Some, None, refl}
use Rattle.std.specs.Option.{option_map}
use Rattle.std.proofs.lemmas.Option.{same_Some}
use Rattle.ck_lexer.specs.declared.mark.Mark.TheVariants as m
use Rattle.ck_lexer.specs.declared.token.Token.{Token}
use Rattle.ck_lexer.specs.declared.token.TokenKind.{TokenKind}
use Rattle.ck_lexer.specs.declared.token.TokenKind.TheVariants.{Word, Mark, Name}
use Rattle.ck_lexer.specs.declared.word.Word.TheVariants as word
use Rattle.ck_parser.specs.Grammar.{IsHeadBase, of_typed, of_auto, IsArguments, of_none_given, of_arguments, of_declr_with, of_new_with, of_empty_bracket, of_bracket, of_for_each, of_constructor, of_pair, IsParams}
use Rattle.ck_parser.specs.Grammar.{IsBase, of_word, of_class, IsPairs, of_no_pairs}
use Rattle.ck_parser.specs.Grammar.{IsType, of_base, IsAt, IsHead, of_head}
use Rattle.ck_parser.specs.Grammar.{of_static, of_atom, of_name, of_paren, of_array, IsExprs}
use Rattle.ck_parser.specs.Grammar.{of_first, IsPostfix, of_primary}
use Rattle.ck_parser.specs.Grammar.{IsDur, of_one}
use Rattle.ck_parser.specs.Grammar.{IsSizes, of_no_sizes, IsUnary, of_plain, of_prefix}
use Rattle.ck_parser.specs.Grammar.{of_new, of_spork, IsCast, of_unary, IsLevel}
use Rattle.ck_parser.specs.Grammar.{of_operand, of_tighter, IsCond}
use Rattle.ck_parser.specs.Grammar.{IsBrackets, of_no_brackets}
use Rattle.ck_parser.specs.Grammar.{IsDeclr, of_declr, of_declare, of_cond, IsExpr, of_single}
use Rattle.ck_parser.specs.Grammar.{IsDeclrs, of_two, IsExprStmt, of_empty}
use Rattle.ck_parser.specs.Grammar.{of_expr, of_declares, IsTest, of_test, of_none, of_some, IsStmt}
use Rattle.ck_parser.specs.Grammar.{of_block, of_expr_stmt, of_print, of_if, of_if_else, of_while}
use Rattle.ck_parser.specs.Grammar.{of_until, of_do_while, of_do_until, of_for, of_repeat, of_break}
use Rattle.ck_parser.specs.Grammar.{of_continue, of_return, IsStmts, of_no_stmts}
use Rattle.ck_parser.specs.Grammar.{IsBlock, of_braces, IsParam, of_param, IsSomeParams}
use Rattle.ck_parser.specs.Grammar.{of_first_param, of_no_params, of_params}
use Rattle.ck_parser.specs.Grammar.{IsStatic, of_not_static, of_static_word, IsFun, of_fun}
use Rattle.ck_parser.specs.Grammar.{IsMember, of_fun_member, of_stmt_member, IsMembers}
use Rattle.ck_parser.specs.Grammar.{of_no_members, IsClassWord, of_class_word}
use Rattle.ck_parser.specs.Grammar.{of_public_class, IsParent, of_no_parent, of_extends, IsClass}
use Rattle.ck_parser.specs.Grammar.{of_class_def, IsItem, of_class_item, of_fun_item, of_stmt_item}
use Rattle.ck_parser.specs.Grammar.{IsItems, IsFile}
use Rattle.parse_exprs.specs.Machine.{a_head_base, arguments, declr_rest, new_rest, empty_pairs, each_pairs, each_or, colon_or, for_start, first_start, after_colon, with_params}
use Rattle.parse_exprs.specs.Machine.{State, done, sign, may, a_name, a_base, pairs, postfix, unary}
use Rattle.parse_exprs.specs.Machine.{operand, declared, declared_or, calls, durs, casts, joins}
use Rattle.parse_exprs.specs.Machine.{asks, chucks, brackets, sizes, more_exprs, more_declrs}
use Rattle.parse_exprs.specs.Machine.{an_expr_stmt, a_stmt, stmts, more_params, members, items}
use Rattle.parse_exprs.specs.Machine.{Next, or_else, given, joined, cond_rest, an_expr}
use Rattle.parse_exprs.specs.Machine.{some_exprs, a_type, a_declr, a_test, a_declared}
use Rattle.parse_exprs.specs.Machine.{first_postfix, first_unary, first_operand}
use Rattle.parse_exprs.specs.Machine.{simple_end}
use Rattle.parse_exprs.specs.Machine.{declares_or, first_expr_stmt, first_stmt}
use Rattle.parse_exprs.specs.Machine.{a_block, a_param, after_fun, after_class}
use Rattle.parse_exprs.specs.Machine.{class_body, signature, first_member, first_item}
use Rattle.parse_exprs.specs.Tokens.{opens_auto, then, begins}
use Rattle.parse_exprs.specs.Tokens.{Begins, Then, Opening, atom, named, prefixed}
use Rattle.parse_exprs.specs.Tokens.{based, opens_paren, opens_array, opens_new, opens_spork}
use Rattle.parse_exprs.specs.Tokens.{opens_static, opens_empty, opens_block, opens_print, opens_if}
use Rattle.parse_exprs.specs.Tokens.{opens_while, opens_until, opens_do, opens_for, opens_repeat}
use Rattle.parse_exprs.specs.Tokens.{opens_break, opens_continue, opens_return, opens_fun}
use Rattle.parse_exprs.specs.Tokens.{opens_class, opens_public, opening, kind_of}
use Rattle.parse_exprs.specs.Tokens.{Sign, a_word, a_mark, has}
use Rattle.ck_syntax.specs.Tree as t
use Rattle.ck_syntax.specs.Tree.{Params, Brackets, declr_name}
use Rattle.ck_syntax.specs.Tree.{Expr, Exprs, Declr, Stmt, Stmts, Fun}
use Rattle.ck_syntax.specs.Tree.{Member, Class, Item, File, no_params}
use Rattle.ck_syntax.specs.Tree.{and_param}
use Rattle.ck_syntax.specs.Tree.{no_exprs, and_expr}
use Rattle.ck_syntax.specs.Tree.{no_declrs, and_declr}
use Rattle.ck_syntax.specs.declared.declaration.Base.{Base}
use Rattle.ck_syntax.specs.declared.declaration.Base.TheVariants.{Class as a_class}
use Rattle.ck_syntax.specs.declared.declaration.DeclHead.{DeclHead}
use Rattle.ck_syntax.specs.declared.declaration.TypeName.{TypeName}
use Rattle.ck_syntax.specs.declared.file.Param.{Param}
use Rattle.parse_exprs.proofs.TokenKinds.{opened, begins_at}

-- ---- what completes a state

-- there is such a thing, and P holds of it and of what follows it
abbrev pub Comes : {A : Type 0} → (List Token → A → List Token → Type 0)
    → (A → List Token → Type 0) → List Token → Type 0
Comes R P w = (x : _) × (rest : List Token) × R w x rest × P x rest

-- whatever stood before w as the thing x goes on to another one, of which P holds
abbrev pub Goes : {A B : Type 0} → (List Token → A → List Token → Type 0)
    → (List Token → B → List Token → Type 0) → A → (B → List Token → Type 0) → List Token
    → Type 0
Goes R S x P w =
    (y : _) × (rest : List Token) × ((ts : List Token) → R ts x w → S ts y rest) × P y rest

abbrev pub Signed : Sign → (List Token → Type 0) → List Token → Type 0
Signed j P w = (rest : List Token) × Then (kind_of j) w rest × P rest

abbrev pub IsSomeBase : List Token → Base → List Token → Type 0
IsSomeBase w b rest = (l : ℕ) × IsBase w l b rest

-- '@'? Name
abbrev pub AtName : (Bool → t.Name → List Token → Type 0) → List Token → Type 0
AtName P w = (r : Bool) × (n : t.Name) × (a : List Token) × (rest : List Token) × IsAt w r a
    × Then (Name n) a rest × P r n rest

abbrev pub Declares : (ℕ → DeclHead → Declr → List Token → Type 0) → List Token → Type 0
Declares P w = (l : ℕ) × (h : DeclHead) × (x : Declr) × (a : List Token) × (rest : List Token)
    × IsHead w l h a × IsDeclr a x rest × P l h x rest

-- (Base | 'auto') '@'? Name ('[' ']')* ':'
abbrev pub Items : (DeclHead → t.Name → ℕ → List Token → Type 0) → List Token → Type 0
Items P w = (l : ℕ) × (b : Option Base) × (r : Bool) × (n : t.Name) × (q : ℕ) × (a : List Token)
    × (c : List Token) × (e : List Token) × (h : List Token) × (rest : List Token)
    × IsHeadBase w l b a × IsAt a r c × Then (Name n) c e × IsPairs e q h
    × Then (Mark m.Colon) h rest
    × P (record { is_static = false; base = b; is_reference = r }) n q rest

-- w completes the state to the file g
abbrev pub Fills : File → State → List Token → Type 0
Fills g (done x) w = (w ≡ []) × (x ≡ g)
Fills g (sign d j s) w = Signed j (λ rest. Fills g s rest) w
Fills g (may d j s r) w = (Signed j (λ rest. Fills g s rest) w) ⊎ ((has j w ≡ false) × Fills g r w)
Fills g (a_name d k) w = Comes (λ ts n rest. Then (Name n) ts rest) (λ n rest. Fills g (k n) rest) w
Fills g (a_base d k) w = Comes IsSomeBase (λ b rest. Fills g (k b) rest) w
Fills g (pairs d n k) w = Goes IsPairs IsPairs n (λ m rest. Fills g (k m) rest) w
Fills g (postfix d k) w = Comes IsPostfix (λ e rest. (c : ℕ) × Fills g (k e c) rest) w
Fills g (unary d k) w = Comes IsUnary (λ e rest. (c : ℕ) × Fills g (k e c) rest) w
Fills g (operand d h k) w = (Declares (λ l head x rest. Fills g (h l head x) rest) w)
    ⊎ (Comes IsCond (λ e rest. (c : ℕ) × Fills g (k e c) rest) w)
Fills g (declared d k) w = AtName (λ r n rest. Fills g (k r n) rest) w
Fills g (declared_or d k s) w = (AtName (λ r n rest. Fills g (k r n) rest) w) ⊎ (Fills g s w)
Fills g (calls d e k) w = Goes IsPostfix IsPostfix e (λ x rest. (c : ℕ) × Fills g (k x c) rest) w
Fills g (durs d e k) w = Goes IsDur IsDur e (λ x rest. (c : ℕ) × Fills g (k x c) rest) w
Fills g (casts d e k) w = Goes IsCast IsCast e (λ x rest. (c : ℕ) × Fills g (k x c) rest) w
Fills g (joins n d e k) w =
    Goes (IsLevel (suc n)) (IsLevel (suc n)) e (λ x rest. (c : ℕ) × Fills g (k x c) rest) w
Fills g (asks d e k) w = Goes (IsLevel 10) IsCond e (λ x rest. (c : ℕ) × Fills g (k x c) rest) w
Fills g (chucks d e k) w = Goes IsExpr IsExpr e (λ x rest. Fills g (k x) rest) w
Fills g (brackets d bs k) w = Goes IsBrackets IsBrackets bs (λ x rest. Fills g (k x) rest) w
Fills g (sizes d es k) w = Goes IsSizes IsSizes es (λ x rest. Fills g (k x) rest) w
Fills g (more_exprs d es k) w = Goes IsExprs IsExprs es (λ x rest. Fills g (k x) rest) w
Fills g (more_declrs d xs k) w = Goes IsDeclrs IsDeclrs xs (λ x rest. Fills g (k x) rest) w
Fills g (an_expr_stmt d k) w = Comes IsExprStmt (λ s rest. Fills g (k s) rest) w
Fills g (for_start d f k) w = (Comes IsExprStmt (λ s rest. Fills g (k s) rest) w)
    ⊎ (Items (λ h n q rest. Fills g (f h n q) rest) w)
Fills g (a_stmt d k) w = Comes IsStmt (λ s rest. Fills g (k s) rest) w
Fills g (stmts d ss k) w = Goes IsStmts IsStmts ss (λ x rest. Fills g (k x) rest) w
Fills g (more_params d ps k) w = Goes IsSomeParams IsSomeParams ps (λ x rest. Fills g (k x) rest) w
Fills g (members xs k) w = Goes IsMembers IsMembers xs (λ x rest. Fills g (k x) rest) w
Fills g (items xs) w = (ts : List Token) → IsItems ts xs w → IsFile ts g

-- ---- what is made of the states

pub expr_of : (g : File) (d : ℕ) (k : Expr → State) (w : List Token) → Fills g (an_expr d k) w
    → Comes IsExpr (λ e rest. Fills g (k e) rest) w
expr_of g d k w (inl (l, h, x, a, b, i, j, (y, rest, go, p))) =
    (y, rest, go w (of_single (of_declare i j)), p)
expr_of g d k w (inr (e, b, i, (c, (y, rest, go, p)))) = (y, rest, go w (of_single (of_cond i)), p)

pub exprs_of : (g : File) (d : ℕ) (k : Exprs → State) (w : List Token) → Fills g (some_exprs d k) w
    → Comes IsExprs (λ es rest. Fills g (k es) rest) w
exprs_of g d k w f = let (e, a, i, (y, rest, go, p)) = expr_of g d
    (λ e. more_exprs d (and_expr no_exprs e) k) w f in (y, rest, go w (of_first i), p)

pub type_of : (g : File) (d : ℕ) (k : TypeName → State) (w : List Token) → Fills g (a_type d k) w
    → Comes IsType (λ b rest. Fills g (k b) rest) w
type_of g d k w (b, a, (l, i), (n, rest, go, p)) = (_, rest, of_base i (go a of_no_pairs), p)

arguments_of : (g : File) (d : ℕ) (k : Exprs → State) (w a : List Token)
    → Then (Mark m.LeftParen) w a → Fills g (arguments d k) a
    → Comes IsArguments (λ es rest. Fills g (k es) rest) w
arguments_of g d k w a q (inl (rest, r, p)) = (no_exprs, rest, of_none_given q r, p)
arguments_of g d k w a q (inr (_, f)) = let (es, b, i, (rest, r, p)) = exprs_of g d
    (λ es. sign d (a_mark m.RightParen) (k es)) a f in (es, rest, of_arguments q i r, p)

-- what goes on with the name of a declarator
declr_from : (g : File) (d : ℕ) (n : t.Name) (k : Declr → State) (w a : List Token)
    → Then (Name n) w a → Fills g (declr_rest d n k) a
    → Comes IsDeclr (λ x rest. Fills g (k x) rest) w
declr_from g d n k w a i (inl (b, q, f)) = let (es, rest, j, p) = arguments_of g (suc d)
    (λ es. k (t.declr_with n es)) a b q f in (_, rest, of_declr_with i j, p)
declr_from g d n k w a i (inr (_, (bs, rest, go, p))) =
    (_, rest, of_declr i (go a of_no_brackets), p)

pub declr_of : (g : File) (d : ℕ) (k : Declr → State) (w : List Token) → Fills g (a_declr d k) w
    → Comes IsDeclr (λ x rest. Fills g (k x) rest) w
declr_of g d k w (n, a, i, f) = declr_from g d n k w a i f

abbrev IsSomeHeadBase : List Token → Option Base → List Token → Type 0
IsSomeHeadBase w b rest = (l : ℕ) × IsHeadBase w l b rest

head_base_of : (g : File) (d : ℕ) (k : Option Base → State) (w : List Token)
    → Fills g (a_head_base d k) w → Comes IsSomeHeadBase (λ b rest. Fills g (k b) rest) w
head_base_of g d k w (inl (rest, q, p)) = (None, rest, auto_base q, p)
  where
    auto_base : {w rest : List Token} → Then (Word word.Auto) w rest → IsSomeHeadBase w None rest
    auto_base (then {l = l}) = (l, of_auto begins)
head_base_of g d k w (inr (_, (b, rest, (l, i), p))) = (Some b, rest, (l, of_typed i), p)

-- ---- what stands before the ':' of a `for`

pairs_of : {ts rest : List Token} {bs : Brackets} → IsBrackets ts bs rest → (q : ℕ)
    → empty_pairs bs ≡ Some q → IsPairs ts q rest
pairs_of {ts = ts} of_no_brackets q h = subst (λ q. IsPairs ts q ts) (same_Some 0 q h) of_no_pairs
pairs_of (of_empty_bracket {bs = bs} {ts = ts} {a = a} {rest = rest} i p r) q h =
    go (empty_pairs bs) refl h (λ c e. pairs_of i c e)
  where
    go : (o : Option ℕ) → empty_pairs bs ≡ o → option_map suc o ≡ Some q
        → ((c : ℕ) → empty_pairs bs ≡ Some c → IsPairs ts c a) → IsPairs ts q rest
    go None e h f = cc
    go (Some c) e h f =
        subst (λ q. IsPairs ts q rest) (same_Some (suc c) q h) (of_pair (f c e) p r)
pairs_of (of_bracket i p e r) q h = cc

items_of : {l : ℕ} {h : DeclHead} {x : Declr} {w a c rest : List Token} → IsHead w l h a
    → IsDeclr a x c → (q : ℕ) → each_pairs h x ≡ Some q → Then (Mark m.Colon) c rest
    → (P : DeclHead → t.Name → ℕ → List Token → Type 0) → P h (declr_name x) q rest → Items P w
items_of (of_head b r) (of_declr n i) q h colon P p =
    (_, _, _, _, q, _, _, _, _, _, b, r, n, pairs_of i q h, colon, p)
items_of (of_static begins b r) (of_declr n i) q h colon P p = cc
items_of i (of_declr_with n j) q h colon P p = cc

test_of : (g : File) (d : ℕ) (k : Expr → State) (w : List Token) → Fills g (a_test d k) w
    → Comes IsTest (λ e rest. Fills g (k e) rest) w
test_of g d k w (a, i, f) = let (e, b, j, (rest, q, p)) = expr_of g (suc d)
    (λ e. sign (suc d) (a_mark m.RightParen) (k e)) a f in (e, rest, of_test i j q, p)

joined_of : (g : File) (n d : ℕ) (e : Expr) (k : Expr → ℕ → State) (w : List Token) → Fills g
    (joined n d e k) w → Goes IsCast (IsLevel n) e (λ x rest. (c : ℕ) × Fills g (k x c) rest) w
joined_of g zero d e k w (y, rest, go, p) = (y, rest, (λ ts i. of_operand (go ts i)), p)
joined_of g (suc n) d e k w f = let (y, a, go, (c, (z, rest, on, p))) = joined_of g n d e
    (λ x c. joins n c x k) w f in (z, rest, (λ ts i. on ts (of_tighter (go ts i))), p)

pub level_of : (g : File) (n d : ℕ) (k : Expr → ℕ → State) (w : List Token)
    → Fills g (unary d (λ e c. joined n c e k)) w
    → Comes (IsLevel n) (λ x rest. (c : ℕ) × Fills g (k x c) rest) w
level_of g n d k w (e, a, i, (c, f)) =
    let (y, rest, go, p) = joined_of g n c e k a f in (y, rest, go w (of_unary i), p)

-- what goes on with a Unary to a Cond
pub cond_of_unary : (g : File) (k : Expr → ℕ → State) (w : List Token)
    → Comes IsUnary (λ e rest. (c : ℕ) × Fills g (cond_rest c e k) rest) w
    → Comes IsCond (λ x rest. (c : ℕ) × Fills g (k x c) rest) w
cond_of_unary g k w (e, a, i, (c, f)) = let (y, b, go, (q, (z, rest, on, p))) = joined_of g 10 c
    e (λ x c. asks c x k) a f in (z, rest, on w (go w (of_unary i)), p)

pub param_of : (g : File) (k : Param → State) (w : List Token) → Fills g (a_param k) w
    → Comes IsParam (λ p rest. Fills g (k p) rest) w
param_of g k w f = let (b, a, i, (n, c, j, (q, rest, go, p))) = type_of g 1
    (λ b. a_name 1 (λ n. pairs 1 0 (λ q. k (record { kind = b; name = n; brackets = q })))) w
    f in (_, rest, of_param i j (go c of_no_pairs), p)

block_of : (g : File) (k : Stmts → State) (w : List Token) → Fills g (a_block k) w
    → Comes IsBlock (λ ss rest. Fills g (k ss) rest) w
block_of g k w (a, i, (ss, b, go, (rest, j, p))) = (ss, rest, of_braces i (go a of_no_stmts) j, p)

-- '(' (Par (',' Par)*)? ')' Block
abbrev Bodied : (Params → Stmts → List Token → Type 0) → List Token → Type 0
Bodied P w = (ps : Params) × (ss : Stmts) × (a : List Token) × (b : List Token) × (c : List Token)
    × (rest : List Token) × Then (Mark m.LeftParen) w a × IsParams a ps b
    × Then (Mark m.RightParen) b c × IsBlock c ss rest × P ps ss rest

params_of : (g : File) (k : Params → Stmts → State) (w : List Token) → Fills g (with_params k) w
    → Bodied (λ ps ss rest. Fills g (k ps ss) rest) w
params_of g k w (a, q, inl (b, r, f)) = let (ss, rest, i, p) = block_of g (k no_params) b f in
    (no_params, ss, a, a, b, rest, q, of_no_params, r, i, p)
params_of g k w (a, q, inr (_, f)) = let (p1, b, i, (ps, c, go, (e, r, f'))) = param_of g
    (λ p. more_params 1 (and_param no_params p)
    (λ ps. sign 1 (a_mark m.RightParen) (a_block (k ps)))) a f in
    let (ss, rest, j, p) = block_of g (k ps) e f' in
    (ps, ss, a, c, e, rest, q, of_params (go a (of_first_param i)), r, j, p)

-- ---- the fact at the next state, where there is one

abbrev pub At : Next → (State → Type 0) → Type 0
At None P = Unit {0}
At (Some (d, r)) P = P r

pub At-map : (P Q : State → Type 0) (o : Next) → ((r : State) → P r → Q r) → At o P → At o Q
At-map P Q None f h = tt
At-map P Q (Some (d, r)) f h = f r h

pub At-or_else : (P : State → Type 0) (o r : Next) → At o P → At r P → At (or_else o r) P
At-or_else P None r h q = q
At-or_else P (Some (d, s)) r h q = h

pub At-given : (P : State → Type 0) (b : Bool) (d : ℕ) (s : State) → (b ≡ true → P s)
    → At (given b d s) P
At-given P false d s h = tt
At-given P true d s h = h refl

-- ---- rows of first tokens

module _ (g : File) (x : Token) (w : List Token) where
  -- the token as what it is
  first : (j : TokenKind) → x.kind ≡ j → Begins j x.line (x ∷ w) w
  first j h = begins_at x w j h

  itself : Begins x.kind x.line (x ∷ w) w
  itself = begins_at x w x.kind refl

  pub back-postfix : (d : ℕ) (k : Expr → ℕ → State) (o : Opening) → opening x.line x.kind ≡ o
      → At (first_postfix d x.line o k)
      (λ r. Fills g r w → Comes IsPostfix (λ e rest. (c : ℕ) × Fills g (k e c) rest) (x ∷ w))
  back-postfix d k (atom e) h =
      λ (y, rest, go, p). (y, rest, go (x ∷ w) (of_primary (of_atom itself h)), p)
  back-postfix d k (named n) h = λ (y, rest, go, p). (
    y,
    rest,
    go (x ∷ w) (of_primary (of_name
        (first (Name n) (opened x.line x.kind (Name n) (named n) h refl)))),
    p,
  )
  back-postfix d k opens_paren h = λ f. let (e, a, i, (b, q, (y, rest, go, p))) = expr_of g
      (suc d) (λ e. sign (suc d) (a_mark m.RightParen) (calls d (t.paren x.line e) k)) w f in (
        y,
        rest,
        go (x ∷ w) (of_primary (of_paren
            (first (Mark m.LeftParen) (opened x.line x.kind _ opens_paren h refl)) i q)),
        p,
      )
  back-postfix d k opens_array h = λ f. let (e, a, i, (b, q, (y, rest, go, p))) = exprs_of g
      (suc d) (λ e. sign (suc d) (a_mark m.RightBracket) (calls d (t.array x.line e) k)) w f in (
        y,
        rest,
        go (x ∷ w) (of_primary (of_array
            (first (Mark m.LeftBracket) (opened x.line x.kind _ opens_array h refl)) i q)),
        p,
      )
  back-postfix d k _ h = tt

  pub lift : {A B : Type 0} (o : Next) → (A → B) → At o (λ r. Fills g r w → A)
      → At o (λ r. Fills g r w → B)
  lift {A} {B} o f = At-map (λ r. Fills g r w → A) (λ r. Fills g r w → B) o (λ r h q. f (h q))

  unary_of : (d : ℕ) (k : Expr → ℕ → State) (o : Next)
      → At o (λ r. Fills g r w → Comes IsPostfix (λ e rest. (c : ℕ) × Fills g (durs c e k) rest)
      (x ∷ w)) → At o
      (λ r. Fills g r w → Comes IsUnary (λ e rest. (c : ℕ) × Fills g (k e c) rest) (x ∷ w))
  unary_of d k o = lift o
      (λ (e, a, i, (c, (y, rest, go, p))). (y, rest, of_plain (go (x ∷ w) (of_one i)), p))

  pub back-unary : (d : ℕ) (k : Expr → ℕ → State) (o : Opening) → opening x.line x.kind ≡ o
      → At (first_unary d x.line o k)
      (λ r. Fills g r w → Comes IsUnary (λ e rest. (c : ℕ) × Fills g (k e c) rest) (x ∷ w))
  back-unary d k (prefixed o) h =
      λ (e, rest, i, (c, p)). (t.prefix x.line o e, rest, of_prefix itself h i, (c, p))
  back-unary d k opens_new h = λ (b, a, (l, i), f). new_of
      (first (Word word.New) (opened x.line x.kind _ opens_new h refl)) b a l i f
    where
      new_of : Begins (Word word.New) x.line (x ∷ w) w → (b : Base) (a : List Token) (l : ℕ)
          → IsBase w l b a → Fills g (new_rest (suc d) x.line b (λ e. k e (suc d))) a
          → Comes IsUnary (λ e rest. (c : ℕ) × Fills g (k e c) rest) (x ∷ w)
      new_of n b a l i (inl (c, q, f)) = let (es, rest, j, p) = arguments_of g (suc (suc d))
          (λ es. k (t.new_with x.line b es) (suc d)) a c q f in
          (t.new_with x.line b es, rest, of_new_with n i j, (suc d, p))
      new_of n b a l i (inr (_, (es, rest, go, p))) =
          (t.new x.line b es, rest, of_new n i (go a of_no_sizes), (suc d, p))
  back-unary d k opens_spork h = λ (a, q, (e, rest, i, (c, p))). (
    t.spork x.line e,
    rest,
    of_spork (first (Word word.Spork)
        (opened x.line x.kind _ opens_spork h refl)) q i,
    (c, p),
  )
  back-unary d k o h = unary_of d k (first_postfix d x.line o (λ e c. durs c e k))
      (back-postfix d (λ e c. durs c e k) o h)

  back-cond : (d : ℕ) (k : Expr → ℕ → State) (o : Opening) → opening x.line x.kind ≡ o
      → At (first_unary d x.line o (λ e c. cond_rest c e k))
      (λ r. Fills g r w → Comes IsCond (λ e rest. (c : ℕ) × Fills g (k e c) rest) (x ∷ w))
  back-cond d k o h = lift (first_unary d x.line o (λ e c. cond_rest c e k))
      (cond_of_unary g k (x ∷ w)) (back-unary d (λ e c. cond_rest c e k) o h)

  as_value : (d : ℕ) (s : ℕ → DeclHead → Declr → State) (k : Expr → ℕ → State) → Comes IsCond
      (λ e rest. (c : ℕ) × Fills g (k e c) rest) (x ∷ w) → Fills g (operand d s k) (x ∷ w)
  as_value d s k f = inr f

  -- a declaration behind its base
  declared_of : (d : ℕ) (s : ℕ → DeclHead → Declr → State) (st : Bool) (b : Option Base)
      (u : List Token) → ((r : Bool) (a : List Token) → IsAt u r a → IsHead (x ∷ w) x.line
      (record { is_static = st; base = b; is_reference = r }) a)
      → AtName (λ r n rest. Fills g (a_declared d x.line st b s r n) rest) u
      → Declares (λ l head y rest. Fills g (s l head y) rest) (x ∷ w)
  declared_of d s st b u make (r, n, a, c, i, q, f) =
      let h : DeclHead = record { is_static = st; base = b; is_reference = r } in
      let (y, rest, j, p) = declr_from g d n (λ y. s x.line h y) a c q f in
      (x.line, h, y, a, rest, make r a i, j, p)

  pub back-operand : (d : ℕ) (s : ℕ → DeclHead → Declr → State) (k : Expr → ℕ → State) (o : Opening)
      → opening x.line x.kind ≡ o
      → At (first_operand d x.line o s k) (λ r. Fills g r w → Fills g (operand d s k) (x ∷ w))
  back-operand d s k (based b) h = λ f.
      inl (declared_of d s false (Some b) w (λ r a. of_head (of_typed (of_word itself h))) f)
  back-operand d s k opens_auto h = λ f. inl (declared_of d s false None w
      (λ r a. of_head (of_auto (first (Word word.Auto)
      (opened x.line x.kind _ opens_auto h refl)))) f)
  back-operand d s k opens_static h = λ f. let (b, y, (l, z), e) = head_base_of g d
      (λ b. declared d (a_declared d x.line true b s)) w f in
      inl (declared_of d s true b y (λ r a. of_static (first (Word word.Static)
      (opened x.line x.kind _ opens_static h refl)) z) e)
  back-operand d s k (named n) h = λ f. name_or f
    where
      name_or : Fills g (declared_or d (a_declared d x.line false (Some (a_class n)) s)
          (calls d (t.name x.line n) (λ e c. durs c e (λ q b. cond_rest b q k)))) w
          → Fills g (operand d s k) (x ∷ w)
      name_or (inl f) = inl (declared_of d s false (Some (a_class n)) w
          (λ r a. of_head (of_typed (of_class
          (first (Name n) (opened x.line x.kind _ (named n) h refl))))) f)
      name_or (inr f) = inr (back-cond d k (named n) h f)
  back-operand d s k o h = lift (first_unary d x.line o (λ e c. cond_rest c e k))
      (as_value d s k) (back-cond d k o h)

  simple_of : (d : ℕ) (k : Stmt → State) → Fills g
      (operand d (declares_or d k) (λ e c. chucks c e (simple_end d k))) (x ∷ w)
      → Comes IsExprStmt (λ s rest. Fills g (k s) rest) (x ∷ w)
  simple_of d k (inl (l, h, y, a, b, i, j, inl (c, q, f))) = let (
    z,
    e,
    v,
    (xs, u, go, (rest, r, p)),
  ) = declr_of g d
      (λ z. more_declrs d (and_declr (and_declr no_declrs y) z)
      (λ xs. sign d (a_mark m.Semicolon) (k (t.declares l h xs)))) c f in
      (_, rest, of_declares i (go a (of_two j q v)) r, p)
  simple_of d k (inl (l, h, y, a, b, i, j, inr (n, (e, u, go, (rest, r, p))))) =
      (_, rest, of_expr (go (x ∷ w) (of_single (of_declare i j))) r, p)
  simple_of d k (inr (e, a, i, (c, (y, b, go, (rest, r, p))))) =
      (_, rest, of_expr (go (x ∷ w) (of_single (of_cond i))) r, p)

  pub back-expr_stmt : (d : ℕ) (k : Stmt → State) (o : Opening) → opening x.line x.kind ≡ o
      → At (first_expr_stmt d x.line o k)
      (λ r. Fills g r w → Comes IsExprStmt (λ s rest. Fills g (k s) rest) (x ∷ w))
  back-expr_stmt d k opens_empty h = λ f.
      (_, w, of_empty (first (Mark m.Semicolon) (opened x.line x.kind _ opens_empty h refl)), f)
  back-expr_stmt d k o h = lift (first_operand d x.line o (declares_or d k)
      (λ e c. chucks c e (simple_end d k))) (simple_of d k)
      (back-operand d (declares_or d k) (λ e c. chucks c e (simple_end d k)) o h)

  -- the beginning of a `for`'s parentheses, behind its first operand
  start_of : (d : ℕ) (f : DeclHead → t.Name → ℕ → State) (k : Stmt → State) → Fills g
      (operand d (each_or d f k) (λ e c. chucks c e (simple_end d k))) (x ∷ w)
      → Fills g (for_start d f k) (x ∷ w)
  start_of d f k (inl (l, h, y, a, b, i, j, e)) = go (each_pairs h y) refl e
    where
      go : (o : Option ℕ) → each_pairs h y ≡ o
          → Fills g (colon_or d f h y o (declares_or d k l h y)) b
          → Fills g (for_start d f k) (x ∷ w)
      go None q p = inl (simple_of d k (inl (l, h, y, a, b, i, j, p)))
      go (Some c) q (inl (rest, colon, p)) =
          inr (items_of i j c q colon (λ h n q rest. Fills g (f h n q) rest) p)
      go (Some c) q (inr (_, p)) = inl (simple_of d k (inl (l, h, y, a, b, i, j, p)))
  start_of d f k (inr p) = inl (simple_of d k (inr p))

  pub back-start : (d : ℕ) (f : DeclHead → t.Name → ℕ → State) (k : Stmt → State) (o : Opening)
      → opening x.line x.kind ≡ o
      → At (first_start d x.line o f k) (λ r. Fills g r w → Fills g (for_start d f k) (x ∷ w))
  back-start d f k opens_empty h = λ p. inl (
    t.empty x.line,
    w,
    of_empty (first (Mark m.Semicolon) (opened x.line x.kind _ opens_empty h refl)),
    p,
  )
  back-start d f k o h = lift (first_operand d x.line o (each_or d f k)
      (λ e c. chucks c e (simple_end d k))) (start_of d f k)
      (back-operand d (each_or d f k) (λ e c. chucks c e (simple_end d k)) o h)

  -- ---- statements

  abbrev StmtComes : (Stmt → State) → Type 0
  StmtComes k = Comes IsStmt (λ s rest. Fills g (k s) rest) (x ∷ w)

  as_stmt : (k : Stmt → State) → Comes IsExprStmt (λ s rest. Fills g (k s) rest) (x ∷ w)
      → StmtComes k
  as_stmt k (s, rest, i, p) = (s, rest, of_expr_stmt i, p)

  if_of : (d : ℕ) (k : Stmt → State) → Begins (Word word.If) x.line (x ∷ w) w
      → Fills g (a_test d (λ e. a_stmt (suc d)
      (λ s. may d (a_word word.Else) (a_stmt (suc d) (λ r. k (t.if_else x.line e s r)))
      (k (t.if_then x.line e s))))) w → StmtComes k
  if_of d k b f = let (e, a, i, (s, c, j, p)) = test_of g d
      (λ e. a_stmt (suc d) (λ s. may d (a_word word.Else)
      (a_stmt (suc d) (λ r. k (t.if_else x.line e s r))) (k (t.if_then x.line e s)))) w f in
      go e a i s c j p
    where
      go : (e : Expr) (a : List Token) → IsTest w e a → (s : Stmt) (c : List Token)
          → IsStmt a s c → Fills g (may d (a_word word.Else)
          (a_stmt (suc d) (λ r. k (t.if_else x.line e s r))) (k (t.if_then x.line e s))) c
          → StmtComes k
      go e a i s c j (inl (u, q, (r, rest, l, p))) = (_, rest, of_if_else b i j q l, p)
      go e a i s c j (inr (n, p)) = (_, c, of_if b i j n, p)

  do_of : (d : ℕ) (k : Stmt → State) → Begins (Word word.Do) x.line (x ∷ w) w
      → Fills g (a_stmt (suc d) (λ s. may d (a_word word.While)
      (a_test d (λ e. sign d (a_mark m.Semicolon) (k (t.do_while x.line s e))))
      (sign d (a_word word.Until) (a_test d
      (λ e. sign d (a_mark m.Semicolon) (k (t.do_until x.line s e))))))) w → StmtComes k
  do_of d k b (s, a, i, inl (c, q, f)) = let (e, u, j, (rest, r, p)) = test_of g d
      (λ e. sign d (a_mark m.Semicolon) (k (t.do_while x.line s e))) c f in
      (_, rest, of_do_while b i q j r, p)
  do_of d k b (s, a, i, inr (n, (c, q, f))) = let (e, u, j, (rest, r, p)) = test_of g d
      (λ e. sign d (a_mark m.Semicolon) (k (t.do_until x.line s e))) c f in
      (_, rest, of_do_until b i q j r, p)

  for_of : (d : ℕ) (k : Stmt → State) → Begins (Word word.For) x.line (x ∷ w) w
      → Fills g (sign (suc d) (a_mark m.LeftParen)
      (for_start (suc d) (after_colon d x.line k) (λ y. an_expr_stmt (suc d)
      (λ z. may (suc d) (a_mark m.RightParen)
      (a_stmt (suc d) (λ s. k (t.for_do x.line y z None s)))
      (an_expr (suc d) (λ e. sign (suc d) (a_mark m.RightParen)
      (a_stmt (suc d) (λ s. k (t.for_do x.line y z (Some e) s))))))))) w → StmtComes k
  for_of d k b (a, q, inr (l, c, r, n, n', a', c', e', h', u, i, at, name, j, colon, f)) = let (
    e,
    v,
    i',
    (o, close, (s, rest, i'', p)),
  ) = expr_of g (suc d)
      (λ e. sign (suc d) (a_mark m.RightParen) (a_stmt (suc d) (λ s. k
      (t.for_each x.line (record { is_static = false; base = c; is_reference = r }) n n' e s)))) u f
      in (_, rest, of_for_each b q i at name j colon i' close i'', p)
  for_of d k b (a, q, inl (y, c, i, (z, u, j, inl (v, r, (s, rest, l, p))))) =
      (_, rest, of_for b q i j of_none r l, p)
  for_of d k b (a, q, inl (y, c, i, (z, u, j, inr (n, f)))) = let (
    e,
    v,
    l,
    (o, r, (s, rest, i', p)),
  ) = expr_of g (suc d)
      (λ e. sign (suc d) (a_mark m.RightParen)
      (a_stmt (suc d) (λ s. k (t.for_do x.line y z (Some e) s)))) u f in
      (_, rest, of_for b q i j (of_some l) r i', p)

  return_of : (d : ℕ) (k : Stmt → State) → Begins (Word word.Return) x.line (x ∷ w) w
      → Fills g (may d (a_mark m.Semicolon) (k (t.return x.line None))
      (an_expr d (λ e. sign d (a_mark m.Semicolon) (k (t.return x.line (Some e)))))) w
      → StmtComes k
  return_of d k b (inl (rest, q, p)) = (_, rest, of_return b of_none q, p)
  return_of d k b (inr (n, f)) = let (e, a, i, (rest, q, p)) = expr_of g d
      (λ e. sign d (a_mark m.Semicolon) (k (t.return x.line (Some e)))) w f in
      (_, rest, of_return b (of_some i) q, p)

  loop_of : (d : ℕ) (k : Stmt → State) (c : Expr → Stmt → Stmt)
      → ((e : Expr) (s : Stmt) (a rest : List Token) → IsTest w e a → IsStmt a s rest
      → IsStmt (x ∷ w) (c e s) rest)
      → Fills g (a_test d (λ e. a_stmt (suc d) (λ s. k (c e s)))) w → StmtComes k
  loop_of d k c make f = let (e, a, i, (s, rest, j, p)) = test_of g d
      (λ e. a_stmt (suc d) (λ s. k (c e s))) w f in (c e s, rest, make e s a rest i j, p)

  pub back-stmt : (d : ℕ) (k : Stmt → State) (o : Opening) → opening x.line x.kind ≡ o
      → At (first_stmt d x.line o k) (λ r. Fills g r w → StmtComes k)
  back-stmt d k opens_block h = λ (ss, a, go, (rest, q, p)). (
    _,
    rest,
    of_block (first (Mark m.LeftBrace) (opened x.line x.kind _ opens_block h refl))
        (go w of_no_stmts) q,
    p,
  )
  back-stmt d k opens_print h = λ f. let (es, a, i, (b, q, (rest, r, p))) = exprs_of g d
      (λ es. sign d (a_mark m.PrintClose) (sign d (a_mark m.Semicolon) (k (t.print x.line es))))
      w f in (
        _,
        rest,
        of_print (first (Mark m.PrintOpen)
            (opened x.line x.kind _ opens_print h refl)) i q r,
        p,
      )
  back-stmt d k opens_if h =
      if_of d k (first (Word word.If) (opened x.line x.kind _ opens_if h refl))
  back-stmt d k opens_while h = loop_of d k (t.while_do x.line)
      (λ e s a rest i j. of_while (first (Word word.While)
      (opened x.line x.kind _ opens_while h refl)) i j)
  back-stmt d k opens_until h = loop_of d k (t.until_do x.line)
      (λ e s a rest i j. of_until (first (Word word.Until)
      (opened x.line x.kind _ opens_until h refl)) i j)
  back-stmt d k opens_do h =
      do_of d k (first (Word word.Do) (opened x.line x.kind _ opens_do h refl))
  back-stmt d k opens_for h =
      for_of d k (first (Word word.For) (opened x.line x.kind _ opens_for h refl))
  back-stmt d k opens_repeat h = loop_of d k (t.repeat x.line)
      (λ e s a rest i j. of_repeat (first (Word word.Repeat)
      (opened x.line x.kind _ opens_repeat h refl)) i j)
  back-stmt d k opens_break h = λ (rest, q, p). (
    _,
    rest,
    of_break (first (Word word.Break) (opened x.line x.kind _ opens_break h refl))
        q,
    p,
  )
  back-stmt d k opens_continue h = λ (rest, q, p). (
    _,
    rest,
    of_continue (first (Word word.Continue)
        (opened x.line x.kind _ opens_continue h refl)) q,
    p,
  )
  back-stmt d k opens_return h =
      return_of d k (first (Word word.Return) (opened x.line x.kind _ opens_return h refl))
  back-stmt d k o h = lift (first_expr_stmt d x.line o k) (as_stmt k) (back-expr_stmt d k o h)

  -- ---- functions, classes, items

  signature_of : (l : ℕ) (s : Bool) (k : Fun → State) (a : List Token)
      → Begins (Word word.Fun) l (x ∷ w) w → IsStatic w s a → Fills g (signature l s k) a
      → Comes IsFun (λ y rest. Fills g (k y) rest) (x ∷ w)
  signature_of l s k a b st f = let (ty, c, i, (n, u, q, f')) = type_of g 0
      (λ b. a_name 0 (λ n. with_params (λ ps ss. k (t.fun l s b n ps ss)))) a f in
      let (ps, ss, v, y, z, rest, r, j, o, body, p) =
      params_of g (λ ps ss. k (t.fun l s ty n ps ss)) u f' in
      (_, rest, of_fun b st i q r j o body, p)

  fun_of : (k : Fun → State) → Begins (Word word.Fun) x.line (x ∷ w) w
      → Fills g (after_fun x.line k) w → Comes IsFun (λ y rest. Fills g (k y) rest) (x ∷ w)
  fun_of k b (inl (a, q, (c, n, f))) = let (ps, ss, v, y, z, rest, r, j, o, body, p) =
      params_of g (λ ps ss. k (t.constructor x.line ps ss)) c f in
      (_, rest, of_constructor b q n r j o body, p)
  fun_of k b (inr (_, inl (a, q, f))) = signature_of x.line true k a b (of_static_word q) f
  fun_of k b (inr (_, inr (n, f))) = signature_of x.line false k w b of_not_static f

  body_of : (l : ℕ) (p : Bool) (n : t.Name) (parent : Option t.Name) (k : Class → State)
      (a b c : List Token) → IsClassWord (x ∷ w) l p a → Then (Name n) a b → IsParent b parent c
      → Fills g (class_body l p n parent k) c
      → Comes IsClass (λ y rest. Fills g (k y) rest) (x ∷ w)
  body_of l p n parent k a b c i q r (d, u, (xs, e, go, (rest, v, f))) =
      (_, rest, of_class_def i q r u (go d of_no_members) v, f)

  class_of : (l : ℕ) (p : Bool) (k : Class → State) (a : List Token) → IsClassWord (x ∷ w) l p a
      → Fills g (after_class l p k) a → Comes IsClass (λ y rest. Fills g (k y) rest) (x ∷ w)
  class_of l p k a i (n, b, q, inl (c, r, (parent, d, u, f))) =
      body_of l p n (Some parent) k a b d i q (of_extends r u) f
  class_of l p k a i (n, b, q, inr (_, f)) = body_of l p n None k a b b i q of_no_parent f

  as_fun_member : (k : Member → State) → Comes IsFun
      (λ y rest. Fills g (k (t.fun_member y)) rest) (x ∷ w)
      → Comes IsMember (λ y rest. Fills g (k y) rest) (x ∷ w)
  as_fun_member k (y, rest, i, p) = (_, rest, of_fun_member i, p)

  as_stmt_member : (k : Member → State) → StmtComes (λ s. k (t.stmt_member s))
      → Comes IsMember (λ y rest. Fills g (k y) rest) (x ∷ w)
  as_stmt_member k (y, rest, i, p) = (_, rest, of_stmt_member i, p)

  pub back-member : (k : Member → State) (o : Opening) → opening x.line x.kind ≡ o
      → At (first_member x.line o k)
      (λ r. Fills g r w → Comes IsMember (λ y rest. Fills g (k y) rest) (x ∷ w))
  back-member k opens_fun h = λ f. as_fun_member k
      (fun_of (λ y. k (t.fun_member y)) (first (Word word.Fun)
      (opened x.line x.kind _ opens_fun h refl)) f)
  back-member k o h = lift (first_stmt 1 x.line o (λ s. k (t.stmt_member s))) (as_stmt_member k)
      (back-stmt 1 (λ s. k (t.stmt_member s)) o h)

  as_fun_item : (k : Item → State) → Comes IsFun (λ y rest. Fills g (k (t.fun_item y)) rest)
      (x ∷ w) → Comes IsItem (λ y rest. Fills g (k y) rest) (x ∷ w)
  as_fun_item k (y, rest, i, p) = (_, rest, of_fun_item i, p)

  as_class_item : (k : Item → State) → Comes IsClass
      (λ y rest. Fills g (k (t.class_item y)) rest) (x ∷ w)
      → Comes IsItem (λ y rest. Fills g (k y) rest) (x ∷ w)
  as_class_item k (y, rest, i, p) = (_, rest, of_class_item i, p)

  as_stmt_item : (k : Item → State) → StmtComes (λ s. k (t.stmt_item s))
      → Comes IsItem (λ y rest. Fills g (k y) rest) (x ∷ w)
  as_stmt_item k (y, rest, i, p) = (_, rest, of_stmt_item i, p)

  pub back-item : (k : Item → State) (o : Opening) → opening x.line x.kind ≡ o
      → At (first_item x.line o k)
      (λ r. Fills g r w → Comes IsItem (λ y rest. Fills g (k y) rest) (x ∷ w))
  back-item k opens_fun h = λ f. as_fun_item k
      (fun_of (λ y. k (t.fun_item y)) (first (Word word.Fun)
      (opened x.line x.kind _ opens_fun h refl)) f)
  back-item k opens_class h = λ f. as_class_item k
      (class_of x.line false (λ y. k (t.class_item y)) w
      (of_class_word (first (Word word.Class) (opened x.line x.kind _ opens_class h refl))) f)
  back-item k opens_public h = λ (a, q, f).
      as_class_item k (class_of x.line true (λ y. k (t.class_item y)) a
      (of_public_class (first (Word word.Public) (opened x.line x.kind _ opens_public h refl))
      q) f)
  back-item k o h = lift (first_stmt 0 x.line o (λ s. k (t.stmt_item s))) (as_stmt_item k)
      (back-stmt 0 (λ s. k (t.stmt_item s)) o h)
