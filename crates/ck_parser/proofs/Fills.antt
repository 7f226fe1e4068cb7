-- Where the machine is still going, some tokens complete what it passed to a file; what it
-- accepts is a file.
use Rattle.std.proofs.Common.{take, inl, inr, ◌++◌, ◌≡◌, ℕ, zero, suc, ◌≤◌, List, [], ◌∷◌}
use Rattle.std.proofs.Common.{length, Bool, true, false, cond, Option, Some, None, refl, subst}
use Rattle.std.proofs.Common.{arith, ◌==◌}
use Rattle.ck_lexer.specs.declared.mark.Mark.TheVariants as m
use Rattle.ck_lexer.specs.declared.token.Token.{Token}
use Rattle.ck_lexer.specs.declared.token.TokenKind.{TokenKind}
use Rattle.ck_lexer.specs.declared.token.TokenKind.TheVariants.{Word, Mark, Name, End}
use Rattle.ck_lexer.specs.declared.word.Word.TheVariants as word
use Rattle.parse_exprs.specs.declared.follow.Follow.{Follow}
use Rattle.parse_exprs.specs.declared.follow.Follow.TheVariants as follows
use Rattle.ck_parser.specs.Grammar.{of_word, of_class, of_pair}
use Rattle.ck_parser.specs.Grammar.{of_no_at, of_at}
use Rattle.ck_parser.specs.Grammar.{of_atom}
use Rattle.ck_parser.specs.Grammar.{of_next, IsPostfix, of_primary, of_call_empty}
use Rattle.ck_parser.specs.Grammar.{of_call, of_index, of_member, of_postfix, of_one, of_dur}
use Rattle.ck_parser.specs.Grammar.{of_size, IsUnary, of_plain}
use Rattle.ck_parser.specs.Grammar.{of_unary, of_cast}
use Rattle.ck_parser.specs.Grammar.{of_operand, of_tighter, of_binary, IsCond, of_or, of_choice}
use Rattle.ck_parser.specs.Grammar.{of_empty_bracket, of_bracket}
use Rattle.ck_parser.specs.Grammar.{of_declare, of_cond}
use Rattle.ck_parser.specs.Grammar.{of_chuck, of_another, of_empty}
use Rattle.ck_parser.specs.Grammar.{of_expr_stmt}
use Rattle.ck_parser.specs.Grammar.{of_more_stmts}
use Rattle.ck_parser.specs.Grammar.{of_next_param}
use Rattle.ck_parser.specs.Grammar.{of_more_members}
use Rattle.ck_parser.specs.Grammar.{of_no_items, of_more_items, IsFile, of_file}
use Rattle.parse_exprs.specs.Machine.{for_start}
use Rattle.parse_exprs.specs.Machine.{State, done, sign, may, a_name, a_base, pairs, postfix, unary}
use Rattle.parse_exprs.specs.Machine.{operand, declared, declared_or, calls, durs, casts, joins}
use Rattle.parse_exprs.specs.Machine.{asks, chucks, brackets, sizes, more_exprs, more_declrs}
use Rattle.parse_exprs.specs.Machine.{an_expr_stmt, a_stmt, stmts, more_params, members, items}
use Rattle.parse_exprs.specs.Machine.{Next, or_else, given, a_cond, an_expr}
use Rattle.parse_exprs.specs.Machine.{some_exprs}
use Rattle.parse_exprs.specs.Machine.{next_call}
use Rattle.parse_exprs.specs.Machine.{next_dur, next_cast, next_join, next_ask, next_chuck}
use Rattle.parse_exprs.specs.Machine.{next_base, next_name, next_declared, after_sign, step, at_end}
use Rattle.parse_exprs.specs.Machine.{ended, resume, run, depths_on, heights, next_end}
use Rattle.parse_exprs.specs.Machine.{faulty, deep, first_stmt}
use Rattle.parse_exprs.specs.Machine.{first_member, first_item, start}
use Rattle.parse_exprs.specs.Machine.{accepted}
use Rattle.parse_exprs.specs.Tokens.{begins, Then, then, Opening, named}
use Rattle.parse_exprs.specs.Tokens.{based}
use Rattle.parse_exprs.specs.Tokens.{opening, follow, level, kind_of}
use Rattle.parse_exprs.specs.Tokens.{Sign, a_mark, is_sign}
use Rattle.ck_syntax.specs.Tree as t
use Rattle.ck_syntax.specs.Tree.{Expr}
use Rattle.ck_syntax.specs.Tree.{File, and_stmt}
use Rattle.ck_syntax.specs.Tree.{and_param, and_member, and_item, expr_line}
use Rattle.ck_syntax.specs.Tree.{no_exprs, and_expr, and_empty, and_size}
use Rattle.ck_syntax.specs.Tree.{and_declr}
use Rattle.ck_syntax.specs.declared.declaration.Base.{Base}
use Rattle.ck_syntax.specs.declared.declaration.Base.TheVariants.{Class as a_class}
use Rattle.ck_syntax.specs.declared.declaration.Base.TheVariants as base
use Rattle.ck_syntax.specs.declared.operator.Constant.TheVariants as constant
use Rattle.std.proofs.lemmas.Bool.{eqb-true}
use Rattle.parse_exprs.proofs.TokenKinds.{is_that, opened, followed, begins_at, then_at}
use Rattle.ck_parser.proofs.Completions.{At, At-given, At-map, At-or_else, AtName, Fills, cond_of_unary}
use Rattle.ck_parser.proofs.Completions.{declr_of, expr_of, exprs_of, level_of, param_of, type_of}
use Rattle.ck_parser.proofs.Completions.{back-postfix, back-unary, back-operand, back-expr_stmt}
use Rattle.ck_parser.proofs.Completions.{back-start, back-stmt, back-member, back-item, lift}

-- ---- all states

-- the same of a tail: what a token goes on to, or what comes after the tail
abbrev pub Backs : File → Token → List Token → Next → State → Type 0
Backs g x w o s = At o (λ r. Fills g r w → Fills g s (x ∷ w))

back-tail : (g : File) (x : Token) (w : List Token) (o : Next) (s r : State) → Backs g x w o s
    → (Fills g r (x ∷ w) → Fills g s (x ∷ w)) → Backs g x w (step r x) r
    → Backs g x w (or_else o (step r x)) s
back-tail g x w o s r h f i = At-or_else _ o (step r x) h
    (At-map (λ q. Fills g q w → Fills g r (x ∷ w)) (λ q. Fills g q w → Fills g s (x ∷ w))
    (step r x) (λ q j p. f (j p)) i)

back-signed : (g : File) (x : Token) (w : List Token) (j : Sign) (d : ℕ) (r s : State)
    → (Then (kind_of j) (x ∷ w) w → Fills g r w → Fills g s (x ∷ w))
    → Backs g x w (after_sign x.kind j d r) s
back-signed g x w j d r s f =
    At-given _ (is_sign x.kind j) d r (λ e. f (then_at x w (kind_of j) (is_that x.kind j e)))

-- where another token stands, the second comes
back-may : (g : File) (x : Token) (w : List Token) (d : ℕ) (j : Sign) (s r : State)
    → Backs g x w (step r x) r → (b : Bool) → is_sign x.kind j ≡ b
    → Backs g x w (or_else (given b d s) (step r x)) (may d j s r)
back-may g x w d j s r i true e = λ f. inl (w, then_at x w (kind_of j) (is_that x.kind j e), f)
back-may g x w d j s r i false e = At-map (λ q. Fills g q w → Fills g r (x ∷ w))
    (λ q. Fills g q w → Fills g (may d j s r) (x ∷ w)) (step r x) (λ q h p. inr (e, h p)) i

back-name : (g : File) (x : Token) (w : List Token) (d : ℕ) (k : t.Name → State) (j : TokenKind)
    → x.kind ≡ j → Backs g x w (next_name d k j) (a_name d k)
back-name g x w d k (Name n) h = λ f. (n, w, then_at x w (Name n) h, f)
back-name g x w d k _ h = tt

back-base : (g : File) (x : Token) (w : List Token) (d : ℕ) (k : Base → State) (o : Opening)
    → opening x.line x.kind ≡ o → Backs g x w (next_base d k o) (a_base d k)
back-base g x w d k (based b) h = λ f. (b, w, (x.line, of_word (begins_at x w x.kind refl) h), f)
back-base g x w d k (named n) h = λ f. (
  a_class n,
  w,
  (x.line, of_class (begins_at x w (Name n) (opened x.line x.kind _ (named n) h refl))),
  f,
)
back-base g x w d k _ h = tt

back-declared : (g : File) (x : Token) (w : List Token) (d : ℕ) (k : Bool → t.Name → State)
    (j : TokenKind) → x.kind ≡ j → At (next_declared d k j)
    (λ r. Fills g r w → AtName (λ r n rest. Fills g (k r n) rest) (x ∷ w))
back-declared g x w d k (Name n) h =
    λ f. (false, n, (x ∷ w), w, of_no_at, then_at x w (Name n) h, f)
back-declared g x w d k (Mark m.At) h =
    λ (n, rest, q, f). (true, n, w, rest, of_at (then_at x w (Mark m.At) h), q, f)
back-declared g x w d k _ h = tt

back-call : (g : File) (x : Token) (w : List Token) (d : ℕ) (e : Expr) (k : Expr → ℕ → State)
    (o : Follow) → follow x.kind ≡ o → Backs g x w (next_call d e k o) (calls d e k)
back-call g x w d e k follows.Call h =
    go (then_at x w (Mark m.LeftParen) (followed x.kind _ follows.Call h refl))
  where
    go : Then (Mark m.LeftParen) (x ∷ w) w → Fills g
        (may (suc d) (a_mark m.RightParen) (calls (suc d) (t.call (expr_line e) e no_exprs) k)
        (some_exprs (suc d) (λ es. sign (suc d) (a_mark m.RightParen)
        (calls (suc d) (t.call (expr_line e) e es) k)))) w → Fills g (calls d e k) (x ∷ w)
    go q (inl (a, r, (y, rest, on, p))) = (y, rest, (λ ts i. on ts (of_call_empty i q r)), p)
    go q (inr (_, f)) = let (es, a, j, (b, r, (y, rest, on, p))) = exprs_of g (suc d)
        (λ es. sign (suc d) (a_mark m.RightParen) (calls (suc d) (t.call (expr_line e) e es) k))
        w f in (y, rest, (λ ts i. on ts (of_call i q j r)), p)
back-call g x w d e k follows.Index h = λ f.
    let (z, a, j, (b, r, (y, rest, on, p))) = expr_of g (suc d)
    (λ z. sign (suc d) (a_mark m.RightBracket) (calls (suc d) (t.index (expr_line e) e z) k)) w
    f in (
      y,
      rest,
      (λ ts i. on ts (of_index i
          (then_at x w (Mark m.LeftBracket) (followed x.kind _ follows.Index h refl)) j r)),
      p,
    )
back-call g x w d e k follows.Member h = λ (n, a, r, (y, rest, on, p)). (
  y,
  rest,
  (λ ts i. on ts (of_member i (then_at x w (Mark m.Dot)
      (followed x.kind _ follows.Member h refl)) r)),
  p,
)
back-call g x w d e k (follows.Postfix o) h =
    λ (y, rest, on, p). (y, rest, (λ ts i. on ts (of_postfix i (then_at x w x.kind refl) h)), p)
back-call g x w d e k _ h = tt

back-dur : (g : File) (x : Token) (w : List Token) (d : ℕ) (e : Expr) (k : Expr → ℕ → State)
    (o : Follow) → follow x.kind ≡ o → Backs g x w (next_dur d e k o) (durs d e k)
back-dur g x w d e k follows.Dur h = λ (u, a, j, (c, (y, rest, on, p))). (
  y,
  rest,
  (λ ts i. on ts (of_dur i (then_at x w (Mark m.ColonColon)
      (followed x.kind _ follows.Dur h refl)) j)),
  p,
)
back-dur g x w d e k _ h = tt

back-cast : (g : File) (x : Token) (w : List Token) (d : ℕ) (e : Expr) (k : Expr → ℕ → State)
    (o : Follow) → follow x.kind ≡ o → Backs g x w (next_cast d e k o) (casts d e k)
back-cast g x w d e k follows.Cast h = λ f.
    let (b, a, j, (y, rest, on, p)) = type_of g (suc d)
    (λ b. casts (suc d) (t.cast (expr_line e) e b) k) w f in (
      y,
      rest,
      (λ ts i. on ts (of_cast i (then_at x w (Mark m.Dollar)
          (followed x.kind _ follows.Cast h refl)) j)),
      p,
    )
back-cast g x w d e k _ h = tt

back-join : (g : File) (x : Token) (w : List Token) (n d : ℕ) (e : Expr) (k : Expr → ℕ → State)
    (o : Follow) → follow x.kind ≡ o → Backs g x w (next_join n d e k o) (joins n d e k)
back-join g x w n d e k (follows.Binary o) h = At-given _ (level o == n) (suc d) _
    (λ q f. let (z, a, j, (c, (y, rest, on, p))) = level_of g n (suc d)
    (λ z b. joins n b (t.binary (expr_line e) e o z) k) w f in (
      y,
      rest,
      (λ ts i. on ts (of_binary i (then_at x w x.kind refl) h (eqb-true (level o) n q)
          j)),
      p,
    ))
back-join g x w n d e k _ h = tt

back-ask : (g : File) (x : Token) (w : List Token) (d : ℕ) (e : Expr) (k : Expr → ℕ → State)
    (o : Follow) → follow x.kind ≡ o → Backs g x w (next_ask d e k o) (asks d e k)
back-ask g x w d e k follows.Cond h = λ f.
    let (z, a, j, (b, r, u)) = expr_of g (suc d)
    (λ z. sign (suc d) (a_mark m.Colon) (a_cond (suc d)
    (λ y c. k (t.choice (expr_line e) e z y) c))) w f in
    let (y, rest, l, p) = cond_of_unary g (λ y c. k (t.choice (expr_line e) e z y) c) b u in (
      _,
      rest,
      (λ ts i. of_choice i (then_at x w (Mark m.Question)
          (followed x.kind _ follows.Cond h refl)) j r l),
      p,
    )
back-ask g x w d e k _ h = tt

back-chuck : (g : File) (x : Token) (w : List Token) (d : ℕ) (e : Expr) (k : Expr → State)
    (o : Follow) → follow x.kind ≡ o → Backs g x w (next_chuck d e k o) (chucks d e k)
back-chuck g x w d e k (follows.Chuck o) h = go (then_at x w x.kind refl)
  where
    go : Then x.kind (x ∷ w) w → Fills g (operand (suc d)
        (λ l h x. chucks (suc d) (t.chuck (expr_line e) e o (t.declare l h x)) k)
        (λ g c. chucks c (t.chuck (expr_line e) e o g) k)) w → Fills g (chucks d e k) (x ∷ w)
    go q (inl (l, z, u, a, b, r, v, (y, rest, on, p))) =
        (y, rest, (λ ts i. on ts (of_chuck i q h (of_declare r v))), p)
    go q (inr (z, a, j, (c, (y, rest, on, p)))) =
        (y, rest, (λ ts i. on ts (of_chuck i q h (of_cond j))), p)
back-chuck g x w d e k _ h = tt

-- what completes the next state completes this one, with the token
pub back : (g : File) (s : State) (x : Token) (w : List Token) → Backs g x w (step s x) s
back g (done y) x w = tt
back g (sign d j s) x w = back-signed g x w j d s (sign d j s) (λ q f. (w, q, f))
back g (may d j s r) x w = back-may g x w d j s r (back g r x w) (is_sign x.kind j) refl
back g (a_name d k) x w = back-name g x w d k x.kind refl
back g (a_base d k) x w = back-base g x w d k (opening x.line x.kind) refl
back g (pairs d n k) x w = back-tail g x w _ (pairs d n k) (k n)
    (back-signed g x w (a_mark m.LeftBracket) (suc d) _ (pairs d n k)
    (λ q (a, r, (y, rest, on, p)). (y, rest, (λ ts i. on ts (of_pair i q r)), p)))
    (λ f. (n, (x ∷ w), (λ ts i. i), f)) (back g (k n) x w)
back g (postfix d k) x w = back-postfix g x w d k (opening x.line x.kind) refl
back g (unary d k) x w = back-unary g x w d k (opening x.line x.kind) refl
back g (operand d h k) x w = back-operand g x w d h k (opening x.line x.kind) refl
back g (declared d k) x w = back-declared g x w d k x.kind refl
back g (declared_or d k r) x w = At-or_else _ (next_declared d k x.kind) (step r x)
    (At-map (λ q. Fills g q w → AtName (λ r n rest. Fills g (k r n) rest) (x ∷ w))
    (λ q. Fills g q w → Fills g (declared_or d k r) (x ∷ w)) (next_declared d k x.kind)
    (λ q h f. inl (h f)) (back-declared g x w d k x.kind refl))
    (At-map (λ q. Fills g q w → Fills g r (x ∷ w))
    (λ q. Fills g q w → Fills g (declared_or d k r) (x ∷ w)) (step r x) (λ q h f. inr (h f))
    (back g r x w))
back g (calls d e k) x w = back-tail g x w _ (calls d e k) (k e d)
    (back-call g x w d e k (follow x.kind) refl) (λ f. (e, (x ∷ w), (λ ts i. i), (d, f)))
    (back g (k e d) x w)
back g (durs d e k) x w = back-tail g x w _ (durs d e k) (k e d)
    (back-dur g x w d e k (follow x.kind) refl) (λ f. (e, (x ∷ w), (λ ts i. i), (d, f)))
    (back g (k e d) x w)
back g (casts d e k) x w = back-tail g x w _ (casts d e k) (k e d)
    (back-cast g x w d e k (follow x.kind) refl) (λ f. (e, (x ∷ w), (λ ts i. i), (d, f)))
    (back g (k e d) x w)
back g (joins n d e k) x w = back-tail g x w _ (joins n d e k) (k e d)
    (back-join g x w n d e k (follow x.kind) refl) (λ f. (e, (x ∷ w), (λ ts i. i), (d, f)))
    (back g (k e d) x w)
back g (asks d e k) x w = back-tail g x w _ (asks d e k) (k e d)
    (back-ask g x w d e k (follow x.kind) refl) (λ f. (e, (x ∷ w), (λ ts i. of_or i), (d, f)))
    (back g (k e d) x w)
back g (chucks d e k) x w = back-tail g x w _ (chucks d e k) (k e)
    (back-chuck g x w d e k (follow x.kind) refl) (λ f. (e, (x ∷ w), (λ ts i. i), f))
    (back g (k e) x w)
back g (brackets d bs k) x w = back-tail g x w _ (brackets d bs k) (k bs)
    (back-signed g x w (a_mark m.LeftBracket) (suc d) _ (brackets d bs k) go)
    (λ f. (bs, (x ∷ w), (λ ts i. i), f)) (back g (k bs) x w)
  where
    go : Then (Mark m.LeftBracket) (x ∷ w) w
        → Fills g (may (suc d) (a_mark m.RightBracket) (brackets d (and_empty bs) k)
        (an_expr (suc d) (λ e. sign (suc d) (a_mark m.RightBracket)
        (brackets d (and_size bs e) k)))) w → Fills g (brackets d bs k) (x ∷ w)
    go q (inl (a, r, (y, rest, on, p))) = (y, rest, (λ ts i. on ts (of_empty_bracket i q r)), p)
    go q (inr (_, f)) = let (e, a, j, (b, r, (y, rest, on, p))) = expr_of g (suc d)
        (λ e. sign (suc d) (a_mark m.RightBracket) (brackets d (and_size bs e) k)) w f in
        (y, rest, (λ ts i. on ts (of_bracket i q j r)), p)
back g (sizes d es k) x w = back-tail g x w _ (sizes d es k) (k es)
    (back-signed g x w (a_mark m.LeftBracket) (suc d) _ (sizes d es k)
    (λ q f. let (e, a, j, (b, r, (y, rest, on, p))) = expr_of g (suc d)
    (λ e. sign (suc d) (a_mark m.RightBracket) (sizes d (and_expr es e) k)) w f in
    (y, rest, (λ ts i. on ts (of_size i q j r)), p)))
    (λ f. (es, (x ∷ w), (λ ts i. i), f)) (back g (k es) x w)
back g (more_exprs d es k) x w = back-tail g x w _ (more_exprs d es k) (k es)
    (back-signed g x w (a_mark m.Comma) d _ (more_exprs d es k)
    (λ q f. let (e, a, j, (y, rest, on, p)) = expr_of g d (λ e. more_exprs d (and_expr es e) k)
    w f in (y, rest, (λ ts i. on ts (of_next i q j)), p)))
    (λ f. (es, (x ∷ w), (λ ts i. i), f)) (back g (k es) x w)
back g (more_declrs d xs k) x w = back-tail g x w _ (more_declrs d xs k) (k xs)
    (back-signed g x w (a_mark m.Comma) d _ (more_declrs d xs k)
    (λ q f. let (z, a, j, (y, rest, on, p)) = declr_of g d
    (λ z. more_declrs d (and_declr xs z) k) w f in
    (y, rest, (λ ts i. on ts (of_another i q j)), p)))
    (λ f. (xs, (x ∷ w), (λ ts i. i), f)) (back g (k xs) x w)
back g (an_expr_stmt d k) x w = back-expr_stmt g x w d k (opening x.line x.kind) refl
back g (for_start d f k) x w = back-start g x w d f k (opening x.line x.kind) refl
back g (a_stmt d k) x w = back-stmt g x w d k (opening x.line x.kind) refl
back g (stmts d ss k) x w = back-tail g x w _ (stmts d ss k) (k ss)
    (lift g x w (first_stmt d x.line (opening x.line x.kind) (λ s. stmts d (and_stmt ss s) k))
    (λ (s, a, j, (y, rest, on, p)). (y, rest, (λ ts i. on ts (of_more_stmts i j)), p))
    (back-stmt g x w d (λ s. stmts d (and_stmt ss s) k) (opening x.line x.kind) refl))
    (λ f. (ss, (x ∷ w), (λ ts i. i), f)) (back g (k ss) x w)
back g (more_params d ps k) x w = back-tail g x w _ (more_params d ps k) (k ps)
    (back-signed g x w (a_mark m.Comma) d _ (more_params d ps k)
    (λ q f. let (z, a, j, (y, rest, on, p)) = param_of g (λ z. more_params d (and_param ps z) k)
    w f in (y, rest, (λ ts i. on ts (of_next_param i q j)), p)))
    (λ f. (ps, (x ∷ w), (λ ts i. i), f)) (back g (k ps) x w)
back g (members xs k) x w = back-tail g x w _ (members xs k) (k xs)
    (lift g x w (first_member x.line (opening x.line x.kind) (λ z. members (and_member xs z) k))
    (λ (z, a, j, (y, rest, on, p)). (y, rest, (λ ts i. on ts (of_more_members i j)), p))
    (back-member g x w (λ z. members (and_member xs z) k) (opening x.line x.kind) refl))
    (λ f. (xs, (x ∷ w), (λ ts i. i), f)) (back g (k xs) x w)
back g (items xs) x w = At-or_else _ (first_item x.line (opening x.line x.kind)
    (λ z. items (and_item xs z))) (next_end x.kind xs)
    (lift g x w (first_item x.line (opening x.line x.kind) (λ z. items (and_item xs z)))
    (λ (z, rest, j, on) ts i. on ts (of_more_items i j))
    (back-item g x w (λ z. items (and_item xs z)) (opening x.line x.kind) refl))
    (at_end_token x.kind refl)
  where
    at_end_token : (j : TokenKind) → x.kind ≡ j → Backs g x w (next_end j xs) (items xs)
    at_end_token End h = λ (e, f) ts i. subst (λ y. IsFile ts y) f
        (of_file i (subst (λ z. Then End (x ∷ w) z) e (then_at x w End h)))
    at_end_token _ h = tt

-- ---- where no token is left

none_some : (g : File) → None ≡ Some g → ⊥
none_some g h = cc

fills-end : (g : File) (s : State) → at_end s ≡ Some g → Fills g s []
fills-end g (done y) h = (refl, some_inj h)
  where
    some_inj : Some y ≡ Some g → y ≡ g
    some_inj e = cc
fills-end g (may d j s r) h = inr (refl, fills-end g r h)
fills-end g (pairs d n k) h = (n, [], (λ ts i. i), fills-end g (k n) h)
fills-end g (declared_or d k r) h = inr (fills-end g r h)
fills-end g (calls d e k) h = (e, [], (λ ts i. i), (d, fills-end g (k e d) h))
fills-end g (durs d e k) h = (e, [], (λ ts i. i), (d, fills-end g (k e d) h))
fills-end g (casts d e k) h = (e, [], (λ ts i. i), (d, fills-end g (k e d) h))
fills-end g (joins n d e k) h = (e, [], (λ ts i. i), (d, fills-end g (k e d) h))
fills-end g (asks d e k) h = (e, [], (λ ts i. of_or i), (d, fills-end g (k e d) h))
fills-end g (chucks d e k) h = (e, [], (λ ts i. i), fills-end g (k e) h)
fills-end g (brackets d bs k) h = (bs, [], (λ ts i. i), fills-end g (k bs) h)
fills-end g (sizes d es k) h = (es, [], (λ ts i. i), fills-end g (k es) h)
fills-end g (more_exprs d es k) h = (es, [], (λ ts i. i), fills-end g (k es) h)
fills-end g (more_declrs d xs k) h = (xs, [], (λ ts i. i), fills-end g (k xs) h)
fills-end g (stmts d ss k) h = (ss, [], (λ ts i. i), fills-end g (k ss) h)
fills-end g (more_params d ps k) h = (ps, [], (λ ts i. i), fills-end g (k ps) h)
fills-end g (members xs k) h = (xs, [], (λ ts i. i), fills-end g (k xs) h)
fills-end g (sign d j s) h = absurd (none_some g h)
fills-end g (a_name d k) h = absurd (none_some g h)
fills-end g (a_base d k) h = absurd (none_some g h)
fills-end g (postfix d k) h = absurd (none_some g h)
fills-end g (unary d k) h = absurd (none_some g h)
fills-end g (operand d s k) h = absurd (none_some g h)
fills-end g (declared d k) h = absurd (none_some g h)
fills-end g (an_expr_stmt d k) h = absurd (none_some g h)
fills-end g (for_start d f k) h = absurd (none_some g h)
fills-end g (a_stmt d k) h = absurd (none_some g h)
fills-end g (items xs) h = absurd (none_some g h)

-- what the machine accepts completes the state
pub sound : (fits : ℕ → Bool) (ts : List Token) (s : State) (g : File)
    → run fits ts s ≡ accepted g → Fills g s ts
sound fits [] s g h = fills-end g s (ended_is (at_end s) h)
  where
    ended_is : (o : Option File) → ended o ≡ accepted g → o ≡ Some g
    ended_is None h = cc
    ended_is (Some y) h = cc
sound fits (x ∷ ts) s g h = go (step s x) (back g s x ts) h (λ r e. sound fits ts r g e)
  where
    deep_not : (n : ℕ) (A : Type 0) → deep n ≡ accepted g → A
    deep_not n A h = absurd (stops h)
      where
        stops : deep n ≡ accepted g → ⊥
        stops h = cc

    faulty_not : (n : ℕ) (A : Type 0) → faulty n ≡ accepted g → A
    faulty_not n A h = absurd (stops h)
      where
        stops : faulty n ≡ accepted g → ⊥
        stops h = cc

    chosen : (b : Bool) (r : State) → cond b (run fits ts r) (deep (suc (length ts)))
        ≡ accepted g → run fits ts r ≡ accepted g
    chosen true r h = h
    chosen false r h = deep_not (suc (length ts)) _ h

    go : (o : Next) → Backs g x ts o s → resume fits (suc (length ts)) (λ r. run fits ts r) o
        ≡ accepted g → ((r : State) → run fits ts r ≡ accepted g → Fills g r ts)
        → Fills g s (x ∷ ts)
    go None b h i = faulty_not (suc (length ts)) _ h
    go (Some (d, r)) b h i = b (i r (chosen (fits d) r h))

-- what completes the beginning is a file
pub file_of : (g : File) (ts : List Token) → Fills g start ts → IsFile ts g
file_of g ts f = f ts of_no_items

-- ---- the shortest completion

abbrev one : TokenKind → Token
one k = record { kind = k; line = 0; at = 0 }

-- some tokens complete the state
abbrev Completes : State → Type 0
Completes s = (w : List Token) × (g : File) × Fills g s w

-- the constant `true`, which is an expression of each form
abbrev true_expr : Expr
true_expr = t.constant 0 constant.True

true_postfix : (w : List Token) → IsPostfix (one (Word word.True) ∷ w) true_expr w
true_postfix w = of_primary (of_atom begins refl)

true_unary : (w : List Token) → IsUnary (one (Word word.True) ∷ w) true_expr w
true_unary w = of_plain (of_one (true_postfix w))

true_cond : (w : List Token) → IsCond (one (Word word.True) ∷ w) true_expr w
true_cond w = of_or (of_tighter (of_tighter
    (of_tighter (of_tighter (of_tighter (of_tighter
    (of_tighter (of_tighter (of_tighter (of_tighter
    (of_operand (of_unary (true_unary w)))))))))))))

completes : (s : State) → Completes s
completes (done y) = ([], y, (refl, refl))
completes (sign d j s) = let (w, g, f) = completes s in (one (kind_of j) ∷ w, g, (w, then, f))
completes (may d j s r) = let (w, g, f) = completes s in (one (kind_of j) ∷ w, g, inl (w, then, f))
completes (a_name d k) =
    let (w, g, f) = completes (k []) in (one (Name []) ∷ w, g, ([], w, then, f))
completes (a_base d k) = let (w, g, f) = completes (k base.Int) in
    (one (Word word.Int) ∷ w, g, (base.Int, w, (0, of_word begins refl), f))
completes (pairs d n k) = let (w, g, f) = completes (k n) in (w, g, (n, w, (λ ts i. i), f))
completes (postfix d k) = let (w, g, f) = completes (k true_expr d) in
    (one (Word word.True) ∷ w, g, (true_expr, w, true_postfix w, (d, f)))
completes (unary d k) = let (w, g, f) = completes (k true_expr d) in
    (one (Word word.True) ∷ w, g, (true_expr, w, true_unary w, (d, f)))
completes (operand d h k) = let (w, g, f) = completes (k true_expr d) in
    (one (Word word.True) ∷ w, g, inr (true_expr, w, true_cond w, (d, f)))
completes (declared d k) = let (w, g, f) = completes (k false []) in
    (one (Name []) ∷ w, g, (false, [], _, w, of_no_at, then, f))
completes (declared_or d k r) = let (w, g, f) = completes r in (w, g, inr f)
completes (calls d e k) = let (w, g, f) = completes (k e d) in (w, g, (e, w, (λ ts i. i), (d, f)))
completes (durs d e k) = let (w, g, f) = completes (k e d) in (w, g, (e, w, (λ ts i. i), (d, f)))
completes (casts d e k) = let (w, g, f) = completes (k e d) in (w, g, (e, w, (λ ts i. i), (d, f)))
completes (joins n d e k) = let (w, g, f) = completes (k e d) in (w, g, (e, w, (λ ts i. i), (d, f)))
completes (asks d e k) =
    let (w, g, f) = completes (k e d) in (w, g, (e, w, (λ ts i. of_or i), (d, f)))
completes (chucks d e k) = let (w, g, f) = completes (k e) in (w, g, (e, w, (λ ts i. i), f))
completes (brackets d bs k) = let (w, g, f) = completes (k bs) in (w, g, (bs, w, (λ ts i. i), f))
completes (sizes d es k) = let (w, g, f) = completes (k es) in (w, g, (es, w, (λ ts i. i), f))
completes (more_exprs d es k) = let (w, g, f) = completes (k es) in (w, g, (es, w, (λ ts i. i), f))
completes (more_declrs d xs k) = let (w, g, f) = completes (k xs) in (w, g, (xs, w, (λ ts i. i), f))
completes (an_expr_stmt d k) = let (w, g, f) = completes (k (t.empty 0)) in
    (one (Mark m.Semicolon) ∷ w, g, (t.empty 0, w, of_empty begins, f))
completes (for_start d f k) = let (w, g, p) = completes (k (t.empty 0)) in
    (one (Mark m.Semicolon) ∷ w, g, inl (t.empty 0, w, of_empty begins, p))
completes (a_stmt d k) = let (w, g, f) = completes (k (t.empty 0)) in
    (one (Mark m.Semicolon) ∷ w, g, (t.empty 0, w, of_expr_stmt (of_empty begins), f))
completes (stmts d ss k) = let (w, g, f) = completes (k ss) in (w, g, (ss, w, (λ ts i. i), f))
completes (more_params d ps k) = let (w, g, f) = completes (k ps) in (w, g, (ps, w, (λ ts i. i), f))
completes (members xs k) = let (w, g, f) = completes (k xs) in (w, g, (xs, w, (λ ts i. i), f))
completes (items xs) = (one End ∷ [], xs, (λ ts i. of_file i then))

-- what the machine passed can be completed
pub take_fills : (ts : List Token) (n : ℕ) (s : State) → n ≤ length (heights ts s)
    → (more : List Token) × (g : File) × Fills g s (take n ts ++ more)
take_fills ts zero s h = completes s
take_fills [] (suc n) s h = absurd (omega arith)
take_fills (x ∷ ts) (suc n) s h = go (step s x) (λ g w. back g s x w) h (λ r i. take_fills ts n r i)
  where
    go : (o : Next) → ((g : File) (w : List Token) → Backs g x w o s)
        → suc n ≤ length (depths_on (λ r. heights ts r) o)
        → ((r : State) → n ≤ length (heights ts r)
        → (more : List Token) × (g : File) × Fills g r (take n ts ++ more))
        → (more : List Token) × (g : File) × Fills g s (take (suc n) (x ∷ ts) ++ more)
    go None b h i = absurd (omega arith)
    go (Some (d, r)) b h i =
        let (more, g, f) = i r (omega arith) in (more, g, b g (take n ts ++ more) f)
