-- What the functions that look at what comes next tell where something did, and where nothing did.
use Rattle.std.proofs.Common.{◌≡◌, ℕ, suc, ◌<◌, ◌≤◌, List, length, false, Option, Some, None}
use Rattle.std.proofs.Common.{MatchOption, IfSome, subst}
use Rattle.ck_base.specs.declared.limits.TheConstants.{MAX_NESTING}
use Rattle.ck_lexer.specs.declared.mark.Mark.{Mark as AMark}
use Rattle.ck_lexer.specs.declared.token.Token.{Token}
use Rattle.ck_lexer.specs.declared.token.TokenKind.TheVariants.{Mark}
use Rattle.parse_exprs.specs.declared.follow.Suffix.{Suffix}
use Rattle.parse_exprs.specs.declared.opening.Lead.{Lead}
use Rattle.parse_exprs.specs.Machine.{a_cond, calls, chucks, joins, unary}
use Rattle.parse_exprs.specs.Operands.{Behind, a_dur, a_level, either_way, led, named_from}
use Rattle.parse_exprs.specs.Operands.{operand_from, suffixed}
use Rattle.parse_exprs.specs.Reads.{Slice, Leads}
use Rattle.parse_exprs.specs.Tokens.{Then, a_mark, has}
use Rattle.parse_exprs.proofs.Made.{K1, K2}
use Rattle.ck_syntax.specs.Tree as t
use Rattle.ck_syntax.specs.Tree.{Expr, expr_line}
use Rattle.ck_syntax.specs.declared.declaration.DeclHead.{DeclHead}
use Rattle.ck_syntax.specs.declared.operator.BinaryOp.{BinaryOp}
use Rattle.ck_syntax.specs.declared.operator.ChuckOp.{ChuckOp}

-- ---- a mark

abbrev Entered : ℕ → List Token → AMark → Option (ℕ × Slice) → Type 0
Entered d ts j o = MatchOption o (has (a_mark j) ts ≡ false)
    (λ x. (x.0 ≡ suc d) × (x.0 ≤ MAX_NESTING) × Then (Mark j) ts x.1.now)

abbrev Shorter : List Token → Option (ℕ × Slice) → Type 0
Shorter ts o = IfSome o (λ x. length x.1.now < length ts)

pub entered : {o : Option (ℕ × Slice)} {c : ℕ} {b : Slice} (d : ℕ) (ts : List Token) (j : AMark)
    → o ≡ Some (c, b) → Entered d ts j o
    → (c ≡ suc d) × (c ≤ MAX_NESTING) × Then (Mark j) ts b.now
entered d ts j e h = subst (Entered d ts j) e h

pub entered_shorter : {o : Option (ℕ × Slice)} {c : ℕ} {b : Slice} (ts : List Token)
    → o ≡ Some (c, b) → Shorter ts o → length b.now < length ts
entered_shorter ts e h = subst (Shorter ts) e h

pub not_entered : {o : Option (ℕ × Slice)} (d : ℕ) (ts : List Token) (j : AMark) → o ≡ None
    → Entered d ts j o → has (a_mark j) ts ≡ false
not_entered d ts j e h = subst (Entered d ts j) e h

-- ---- an operator of some kind

abbrev Fits : {A : Type 0} → List Token → Option (A × ℕ × Slice) → Type 0
Fits ts o = IfSome o (λ x. (x.1 ≤ MAX_NESTING) × (length x.2.now < length ts))

pub fits : {A : Type 0} {o : Option (A × ℕ × Slice)} {q : A} {c : ℕ} {b : Slice}
    (ts : List Token) → o ≡ Some (q, c, b) → Fits ts o
    → (c ≤ MAX_NESTING) × (length b.now < length ts)
fits ts e h = subst (Fits ts) e h

abbrev Suffixes : ℕ → List Token → Expr → Option (Suffix × ℕ × Slice) → Type 0
Suffixes d ts y o = MatchOption o (Leads (λ (k : K2). calls d y k) (λ k. k y d) ts ts)
    (λ x. Leads (λ (k : K2). calls d y k) (λ k. suffixed x.0 x.1 y k) ts x.2.now)

pub a_suffix : {o : Option (Suffix × ℕ × Slice)} {q : Suffix} {c : ℕ} {b : Slice} (d : ℕ)
    (ts : List Token) (y : Expr) → o ≡ Some (q, c, b) → Suffixes d ts y o
    → Leads (λ (k : K2). calls d y k) (λ k. suffixed q c y k) ts b.now
a_suffix d ts y e h = subst (Suffixes d ts y) e h

pub no_suffix : {o : Option (Suffix × ℕ × Slice)} (d : ℕ) (ts : List Token) (y : Expr)
    → o ≡ None → Suffixes d ts y o → Leads (λ (k : K2). calls d y k) (λ k. k y d) ts ts
no_suffix d ts y e h = subst (Suffixes d ts y) e h

abbrev Joins : ℕ → ℕ → List Token → Expr → Option (BinaryOp × ℕ × Slice) → Type 0
Joins n d ts y o = MatchOption o (Leads (λ (k : K2). joins n d y k) (λ k. k y d) ts ts)
    (λ x. Leads (λ (k : K2). joins n d y k)
    (λ k. a_level n x.1 (λ g c. joins n c (t.binary (expr_line y) y x.0 g) k)) ts x.2.now)

pub an_operator : {o : Option (BinaryOp × ℕ × Slice)} {q : BinaryOp} {c : ℕ} {b : Slice}
    (n d : ℕ) (ts : List Token) (y : Expr) → o ≡ Some (q, c, b) → Joins n d ts y o
    → Leads (λ (k : K2). joins n d y k)
    (λ k. a_level n c (λ g h. joins n h (t.binary (expr_line y) y q g) k)) ts b.now
an_operator n d ts y e h = subst (Joins n d ts y) e h

pub no_operator : {o : Option (BinaryOp × ℕ × Slice)} (n d : ℕ) (ts : List Token) (y : Expr)
    → o ≡ None → Joins n d ts y o → Leads (λ (k : K2). joins n d y k) (λ k. k y d) ts ts
no_operator n d ts y e h = subst (Joins n d ts y) e h

abbrev Chucks : ℕ → List Token → Expr → Option (ChuckOp × ℕ × Slice) → Type 0
Chucks d ts y o = MatchOption o (Leads (λ (k : K1). chucks d y k) (λ k. k y) ts ts)
    (λ x. Leads (λ (k : K1). chucks d y k) (λ k.
    operand_from x.1 (either_way x.1 (λ g c. chucks c (t.chuck (expr_line y) y x.0 g) k))) ts
    x.2.now)

pub a_chuck : {o : Option (ChuckOp × ℕ × Slice)} {q : ChuckOp} {c : ℕ} {b : Slice} (d : ℕ)
    (ts : List Token) (y : Expr) → o ≡ Some (q, c, b) → Chucks d ts y o
    → Leads (λ (k : K1). chucks d y k) (λ k.
    operand_from c (either_way c (λ g h. chucks h (t.chuck (expr_line y) y q g) k))) ts b.now
a_chuck d ts y e h = subst (Chucks d ts y) e h

pub no_chuck : {o : Option (ChuckOp × ℕ × Slice)} (d : ℕ) (ts : List Token) (y : Expr)
    → o ≡ None → Chucks d ts y o → Leads (λ (k : K1). chucks d y k) (λ k. k y) ts ts
no_chuck d ts y e h = subst (Chucks d ts y) e h

-- ---- what begins a Unary, or a declaration

abbrev Leading : ℕ → List Token → Option (Lead × ℕ × ℕ × Slice) → Type 0
Leading d ts o = MatchOption o (Leads (λ (k : K2). unary d k) (λ k. a_dur d k) ts ts)
    (λ x. Leads (λ (k : K2). unary d k) (λ k. led x.0 x.2 x.1 k) ts x.3.now)

pub a_lead : {o : Option (Lead × ℕ × ℕ × Slice)} {q : Lead} {l c : ℕ} {b : Slice} (d : ℕ)
    (ts : List Token) → o ≡ Some (q, l, c, b) → Leading d ts o
    → Leads (λ (k : K2). unary d k) (λ k. led q c l k) ts b.now
a_lead d ts e h = subst (Leading d ts) e h

pub no_lead : {o : Option (Lead × ℕ × ℕ × Slice)} (d : ℕ) (ts : List Token) → o ≡ None
    → Leading d ts o → Leads (λ (k : K2). unary d k) (λ k. a_dur d k) ts ts
no_lead d ts e h = subst (Leading d ts) e h

abbrev Declares : ℕ → List Token → Option (ℕ × DeclHead × t.Name × Slice) → Type 0
Declares d ts o = MatchOption o (Leads (λ (h : Behind). operand_from d h)
    (λ h. a_cond d h.value) ts ts)
    (λ x. Leads (λ (h : Behind). operand_from d h) (λ h. named_from d x.0 x.1 x.2 h) ts x.3.now)

pub a_declaration : {o : Option (ℕ × DeclHead × t.Name × Slice)} {l : ℕ} {q : DeclHead}
    {n : t.Name} {b : Slice} (d : ℕ) (ts : List Token) → o ≡ Some (l, q, n, b) → Declares d ts o
    → Leads (λ (h : Behind). operand_from d h) (λ h. named_from d l q n h) ts b.now
a_declaration d ts e h = subst (Declares d ts) e h

pub no_declaration : {o : Option (ℕ × DeclHead × t.Name × Slice)} (d : ℕ) (ts : List Token)
    → o ≡ None → Declares d ts o
    → Leads (λ (h : Behind). operand_from d h) (λ h. a_cond d h.value) ts ts
no_declaration d ts e h = subst (Declares d ts) e h
