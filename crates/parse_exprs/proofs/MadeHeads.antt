-- What the machine makes of types, and of the heads of declarations.
use Rattle.std.proofs.Common.{◌≡◌, ℕ, suc, ◌≤◌, List, [], ◌∷◌, length, Bool, true, false, cond}
use Rattle.std.proofs.Common.{Option, None, Some, Err, refl, sym, ◌∙◌, ap, subst}
use Rattle.ck_base.specs.declared.limits.TheConstants.{MAX_NESTING}
use Rattle.ck_lexer.specs.declared.mark.Mark.TheVariants as m
use Rattle.ck_lexer.specs.declared.token.Token.{Token}
use Rattle.ck_lexer.specs.declared.token.TokenKind.{TokenKind}
use Rattle.ck_lexer.specs.declared.token.TokenKind.TheVariants.{Mark, Name, Word}
use Rattle.ck_lexer.specs.declared.word.Word.TheVariants as w
use Rattle.parse_exprs.specs.declared.fault.Fault.{Fault}
use Rattle.parse_exprs.specs.declared.fault.Fault.TheVariants.{Syntax, TooDeep, Memory}
use Rattle.parse_exprs.specs.declared.opening.Opening.{Opening as Seen}
use Rattle.parse_exprs.specs.declared.opening.Opening.TheVariants as seen
use Rattle.parse_exprs.specs.Machine.{Next, State, a_base, a_cond, a_declared, a_head_base, a_name}
use Rattle.parse_exprs.specs.Machine.{a_type}
use Rattle.parse_exprs.specs.Machine.{after_sign, calls, cond_rest, declared, declared_or, deep}
use Rattle.parse_exprs.specs.Machine.{durs, faulty, first_operand, first_postfix, first_unary}
use Rattle.parse_exprs.specs.Machine.{is_shallow, left, next_declared, or_else, pairs, postfix}
use Rattle.parse_exprs.specs.Machine.{resume, sign, step}
use Rattle.parse_exprs.specs.Operands.{Behind, declared_from, operand_from}
use Rattle.parse_exprs.specs.Reads.{Agrees, Deepens, IsBaseAt, Leads, NoBase, NoName, StopsAt}
use Rattle.parse_exprs.specs.Reads.{after, atom_of, base_of, begins_declared, begins_with_base}
use Rattle.parse_exprs.specs.Reads.{is_based, is_declared, is_name, is_named, next_base_of}
use Rattle.parse_exprs.specs.Tokens.{Opening, Then, a_mark, a_word, atom, based, has, is_sign, named}
use Rattle.parse_exprs.specs.Tokens.{opening, opens_array, opens_auto, opens_paren, opens_static}
use Rattle.parse_exprs.proofs.Made.{K2, absent, first_step, may_come, may_not}
use Rattle.parse_exprs.proofs.MadeExpr.{made, stopped}
use Rattle.parse_exprs.proofs.Steps.{deepened, in_pair, no_base, no_name, one_faulty, onward, over}
use Rattle.parse_exprs.proofs.Steps.{past_base, past_name, past_sign, stops_onward, token}
use Rattle.ck_syntax.specs.Tree as t
use Rattle.ck_syntax.specs.declared.declaration.Base.{Base}
use Rattle.ck_syntax.specs.declared.declaration.Base.TheVariants.{Class as a_class}
use Rattle.ck_syntax.specs.declared.declaration.TypeName.{TypeName}

-- ---- pairs of brackets

abbrev pub KP : Type 0
KP = ℕ → State

abbrev pair_rest : ℕ → ℕ → KP → State
pair_rest d n k = sign (suc d) (a_mark m.RightBracket) (pairs d (suc n) k)

pub pair_deep : {n : ℕ} {ts a b : List Token} (d : ℕ) (e : Fault)
    → Leads (λ (k : KP). pairs d 0 k) (λ k. pairs d n k) ts a → Then (Mark m.LeftBracket) a b
    → Deepens d a (Err e) → StopsAt (λ (k : KP). pairs d 0 k) ts e
pair_deep {n = n} d e p q h = stops_onward e p
    (deepened (λ (k : KP). pairs d n k) (λ k. pair_rest d n k) d e q h (λ l a k. refl))

pub made_pair : {n c : ℕ} {ts a b r : List Token} (d : ℕ)
    → Leads (λ (k : KP). pairs d 0 k) (λ k. pairs d n k) ts a → Then (Mark m.LeftBracket) a b
    → suc d ≤ MAX_NESTING → Then (Mark m.RightBracket) b r → c ≡ suc n
    → Leads (λ (k : KP). pairs d 0 k) (λ k. pairs d c k) ts r
made_pair {n = n} {ts = ts} {r = r} d p q h i e = subst
    (λ c. Leads (λ (k : KP). pairs d 0 k) (λ k. pairs d c k) ts r) (sym e)
    (onward (in_pair d p q h)
    (past_sign (a_mark m.RightBracket) (suc d) (λ (k : KP). pairs d (suc n) k) i h))

pub pairs_end : {n : ℕ} {ts a : List Token} (d : ℕ)
    → Leads (λ (k : KP). pairs d 0 k) (λ k. pairs d n k) ts a
    → has (a_mark m.LeftBracket) a ≡ false → Leads (λ (k : KP). pairs d 0 k) (λ k. k n) ts a
pairs_end {n = n} {a = a} d p h = onward p (over (λ (k : KP). pairs d n k) (λ k. k n) a
    (λ k x. after_sign x.kind (a_mark m.LeftBracket) (suc d) (pair_rest d n k))
    (λ k. refl) (λ k x. refl)
    (λ k. absent a (a_mark m.LeftBracket) (suc d) (pair_rest d n k) h))

-- ---- a type

abbrev KT : Type 0
KT = TypeName → State

abbrev type_rest : Base → KT → KP
type_rest b k n = k (record { base = b; brackets = n })

pub no_type : (ts : List Token) (d : ℕ) (e : Fault) → NoBase ts e
    → StopsAt (λ (k : KT). a_type d k) ts e
no_type ts d e h = no_base ts d (λ (k : KT) b. pairs d 0 (type_rest b k)) e h

in_type : {b : Base} {ts a : List Token} (d : ℕ) → IsBaseAt ts b a → d ≤ MAX_NESTING
    → Leads (λ (k : KT). a_type d k) (λ k. pairs d 0 (type_rest b k)) ts a
in_type d h i = past_base d (λ (k : KT) b. pairs d 0 (type_rest b k)) h i

pub type_fault : {b : Base} (ts a : List Token) (d : ℕ) (e : Fault) → IsBaseAt ts b a
    → d ≤ MAX_NESTING → StopsAt (λ (k : KP). pairs d 0 k) a e
    → StopsAt (λ (k : KT). a_type d k) ts e
type_fault {b = b} ts a d e h i r =
    stopped (λ (k : KP). pairs d 0 k) (type_rest b) e (in_type d h i) r

pub made_type : {b : Base} {n : ℕ} {ts a r : List Token} (d : ℕ) → IsBaseAt ts b a
    → d ≤ MAX_NESTING → Leads (λ (k : KP). pairs d 0 k) (λ k. k n) a r
    → Leads (λ (k : KT). a_type d k) (λ k. k (record { base = b; brackets = n })) ts r
made_type {b = b} {n = n} d h i r =
    made (λ (k : KP). pairs d 0 k) (λ k. k n) (type_rest b) (in_type d h i) r

-- ---- a name, perhaps behind an `@`

abbrev KN : Type 0
KN = Bool → t.Name → State

at_mark : {ts a : List Token} (d : ℕ) → Then (Mark m.At) ts a → d ≤ MAX_NESTING
    → Leads (λ (k : KN). declared d k) (λ k. a_name d (k true)) ts a
at_mark d h i = token (λ (k : KN). declared d k) (λ k. a_name d (k true)) d h i (λ l a k. refl)

pub at_no_name : {ts a : List Token} (d : ℕ) (e : Fault) → Then (Mark m.At) ts a
    → d ≤ MAX_NESTING → NoName a e → StopsAt (λ (k : KN). declared d k) ts e
at_no_name {a = a} d e h i r =
    stops_onward e (at_mark d h i) (no_name a d (λ (k : KN) n. k true n) e r)

pub at_name : {n : t.Name} {ts a b : List Token} (d : ℕ) → Then (Mark m.At) ts a
    → d ≤ MAX_NESTING → Then (Name n) a b → Leads (λ (k : KN). declared d k) (λ k. k true n) ts b
at_name d h i r = onward (at_mark d h i) (past_name d (λ (k : KN) n. k true n) r i)

pub plain_name : {n : t.Name} {ts a : List Token} (d : ℕ) → Then (Name n) ts a
    → d ≤ MAX_NESTING → Leads (λ (k : KN). declared d k) (λ k. k false n) ts a
plain_name {n = n} d h i = token (λ (k : KN). declared d k) (λ k. k false n) d h i (λ l a k. refl)

not_declared : (d : ℕ) (k : KN) (j : TokenKind) → is_sign j (a_mark m.At) ≡ false
    → is_name j ≡ false → next_declared d k j ≡ None
not_declared d k (Name n) h i = cc
not_declared d k (Mark m.At) h i = cc
not_declared d k _ h i = refl

pub no_plain_name : (ts : List Token) (d : ℕ) (e : Fault) → has (a_mark m.At) ts ≡ false
    → NoName ts e → StopsAt (λ (k : KN). declared d k) ts e
no_plain_name [] d (Syntax n) h (q, r) = record { at = λ k. ap faulty (sym q) }
no_plain_name (x ∷ ts) d (Syntax n) h (q, r) = record {
  at = λ k.
      one_faulty x ts (declared d k) (not_declared d k x.kind h r) ∙ ap faulty (sym q);
}
no_plain_name ts d (TooDeep n) h r = absurd r
no_plain_name ts d (Memory _) h r = tt

-- ---- a declaration behind `static`

abbrev pub KE : Type 0
KE = Option Base → State

abbrev typed_base : KE → Base → State
typed_base k b = k (Some b)

pub auto_base : {ts a : List Token} (d : ℕ) → Then (Word w.Auto) ts a → d ≤ MAX_NESTING
    → Leads (λ (k : KE). a_head_base d k) (λ k. k None) ts a
auto_base d h i =
    may_come (a_word w.Auto) d (λ (k : KE). k None) (λ k. a_base d (typed_base k)) h i

no_auto : (ts : List Token) (d : ℕ) → has (a_word w.Auto) ts ≡ false
    → Leads (λ (k : KE). a_head_base d k) (λ k. a_base d (typed_base k)) ts ts
no_auto ts d h = may_not ts (a_word w.Auto) d (λ (k : KE). k None) (λ k. a_base d (typed_base k)) h

pub no_head_base : (ts : List Token) (d : ℕ) (e : Fault) → has (a_word w.Auto) ts ≡ false
    → NoBase ts e → StopsAt (λ (k : KE). a_head_base d k) ts e
no_head_base ts d e h r =
    stops_onward e (no_auto ts d h) (no_base ts d (λ (k : KE) b. typed_base k b) e r)

pub made_head_base : {b : Base} {ts a : List Token} (d : ℕ) → has (a_word w.Auto) ts ≡ false
    → IsBaseAt ts b a → d ≤ MAX_NESTING → Leads (λ (k : KE). a_head_base d k) (λ k. k (Some b)) ts a
made_head_base {ts = ts} d h r i =
    onward (no_auto ts d h) (past_base d (λ (k : KE) b. typed_base k b) r i)

abbrev static_rest : ℕ → ℕ → Behind → KE
static_rest d l h b = declared_from d l true b h

behind_static : {x : Token} {ts a : List Token} (d : ℕ) → ts ≡ x ∷ a
    → opening x.line x.kind ≡ opens_static → d ≤ MAX_NESTING
    → Leads (λ (h : Behind). operand_from d h) (λ h. a_head_base d (static_rest d x.line h)) ts a
behind_static {x = x} d q h i = first_step (λ (h : Behind). operand_from d h)
    (λ h. a_head_base d (static_rest d x.line h)) d q i
    (λ k. ap (λ o. first_operand d x.line o k.declaration k.value) h)

pub no_static_base : {x : Token} {ts a : List Token} (d : ℕ) (e : Fault) → ts ≡ x ∷ a
    → opening x.line x.kind ≡ opens_static → d ≤ MAX_NESTING
    → StopsAt (λ (k : KE). a_head_base d k) a e → StopsAt (λ (h : Behind). operand_from d h) ts e
no_static_base {x = x} d e q h i r = stopped (λ (k : KE). a_head_base d k)
    (λ (h : Behind). static_rest d x.line h) e (behind_static d q h i) r

pub static_base : {x : Token} {b : Option Base} {ts a r : List Token} (d : ℕ) → ts ≡ x ∷ a
    → opening x.line x.kind ≡ opens_static → d ≤ MAX_NESTING
    → Leads (λ (k : KE). a_head_base d k) (λ k. k b) a r
    → Leads (λ (h : Behind). operand_from d h) (λ h. declared_from d x.line true b h) ts r
static_base {x = x} {b = b} d q h i r = made (λ (k : KE). a_head_base d k) (λ k. k b)
    (λ (h : Behind). static_rest d x.line h) (behind_static d q h i) r

-- ---- a declaration that begins with `auto`

pub behind_auto : {x : Token} {ts a : List Token} (d : ℕ) → ts ≡ x ∷ a
    → opening x.line x.kind ≡ opens_auto → d ≤ MAX_NESTING
    → Leads (λ (h : Behind). operand_from d h) (λ h. declared_from d x.line false None h) ts a
behind_auto {x = x} d q h i = first_step (λ (h : Behind). operand_from d h)
    (λ h. declared_from d x.line false None h) d q i
    (λ k. ap (λ o. first_operand d x.line o k.declaration k.value) h)

-- ---- a declaration by its first token, and none

undeclared : (d : ℕ) (k : KN) (j : TokenKind) → is_declared j ≡ false → next_declared d k j ≡ None
undeclared d k (Name n) h = cc
undeclared d k (Mark m.At) h = cc
undeclared d k _ h = refl

not_declared_on : (ts : List Token) (d : ℕ) (k : KN) (r : State) → begins_declared ts ≡ false
    → left ts (declared_or d k r) ≡ left ts r
not_declared_on [] d k r h = refl
not_declared_on (x ∷ ts) d k r h =
    ap (λ y. resume is_shallow (suc (length ts)) (λ q. left ts q) (or_else y (step r x)))
    (undeclared d k x.kind h)

comes : (d : ℕ) (k : KN) (j : TokenKind) (r : Next) → is_declared j ≡ true
    → or_else (next_declared d k j) r ≡ next_declared d k j
comes d k (Name n) r h = refl
comes d k (Mark m.At) r h = refl
comes d k _ r h = cc

declared_on : (ts : List Token) (d : ℕ) (k : KN) (r : State) → begins_declared ts ≡ true
    → left ts (declared_or d k r) ≡ left ts (declared d k)
declared_on [] d k r h = cc
declared_on (x ∷ ts) d k r h = ap (resume is_shallow (suc (length ts)) (λ q. left ts q))
    (comes d k x.kind (step r x) h)

based_seen : (c : Base) (s : Seen) (ts : List Token) → Agrees (based c) s
    → begins_with_base s ts ≡ false → ⊥
based_seen c seen.Base ts g j = cc
based_seen c _ ts g j = cc

auto_seen : (s : Seen) → Agrees opens_auto s → (s ≡ seen.Auto → ⊥) → ⊥
auto_seen seen.Auto g i = i refl
auto_seen _ g i = cc

static_seen : (s : Seen) → Agrees opens_static s → (s ≡ seen.Static → ⊥) → ⊥
static_seen seen.Static g i = i refl
static_seen _ g i = cc

named_off : (c : t.Name) (s : Seen) (ts : List Token) → Agrees (named c) s
    → begins_with_base s ts ≡ false → begins_declared ts ≡ false
named_off c seen.Name ts g j = j
named_off c _ ts g j = cc

named_on : (c : t.Name) (s : Seen) (ts : List Token) → Agrees (named c) s
    → begins_with_base s ts ≡ true → begins_declared ts ≡ true
named_on c seen.Name ts g j = j
named_on c _ ts g j = cc

same_step : (d l n : ℕ) (o : Opening) (s : Seen) (ts : List Token) (h : Behind) → Agrees o s
    → (s ≡ seen.Static → ⊥) → (s ≡ seen.Auto → ⊥) → begins_with_base s ts ≡ false
    → resume is_shallow n (λ q. left ts q) (first_operand d l o h.declaration h.value)
    ≡ resume is_shallow n (λ q. left ts q) (first_unary d l o (λ e c. cond_rest c e h.value))
same_step d l n (based c) s ts h g i u j = absurd (based_seen c s ts g j)
same_step d l n opens_static s ts h g i u j = absurd (static_seen s g i)
same_step d l n opens_auto s ts h g i u j = absurd (auto_seen s g u)
same_step d l n (named c) s ts h g i u j = ap (λ y. cond (is_shallow d) y (deep n))
    (not_declared_on ts d (a_declared d l false (Some (a_class c)) h.declaration) _
    (named_off c s ts g j))
same_step d l n _ s ts h g i u j = refl

pub not_a_declaration : {x : Token} {ts a : List Token} (d : ℕ) (s : Seen) → ts ≡ x ∷ a
    → Agrees (opening x.line x.kind) s → (s ≡ seen.Static → ⊥) → (s ≡ seen.Auto → ⊥)
    → begins_with_base s a ≡ false
    → Leads (λ (h : Behind). operand_from d h) (λ h. a_cond d h.value) ts ts
not_a_declaration {x = x} {a = a} d s q g i u j = subst
    (λ y. Leads (λ (h : Behind). operand_from d h) (λ h. a_cond d h.value) y y) (sym q)
    (record {
      by = λ h. same_step d x.line (suc (length a)) (opening x.line x.kind) s a h g i u j;
    })

none_some : {b : Base} → None ≡ Some b → ⊥
none_some e = cc

same_base : {c b : Base} → Some c ≡ Some b → c ≡ b
same_base e = cc

-- what the machine goes on with behind a name that is no base
abbrev named_rest : ℕ → ℕ → t.Name → Behind → State
named_rest d l c h = calls d (t.name l c) (λ e u. durs u e (λ g v. cond_rest v g h.value))

by_opening : {x : Token} {b : Base} {ts a : List Token} (d : ℕ) (o : Opening) (s : Seen)
    → ts ≡ x ∷ a → opening x.line x.kind ≡ o → Agrees o s → begins_with_base s a ≡ true
    → base_of o ≡ Some b → d ≤ MAX_NESTING
    → Leads (λ (h : Behind). operand_from d h) (λ h. declared_from d x.line false (Some b) h) ts a
by_opening {x = x} {b = b} d (based c) s q o g j e i = first_step
    (λ (h : Behind). operand_from d h) (λ h. declared_from d x.line false (Some b) h) d q i
    (λ k. ap (λ z. first_operand d x.line z k.declaration k.value) o
    ∙ ap (λ z. Some (d, declared_from d x.line false (Some z) k)) (same_base e))
by_opening {x = x} {b = b} {a = a} d (named c) s q o g j e i = onward
    (first_step (λ (h : Behind). operand_from d h)
    (λ h. declared_or d (a_declared d x.line false (Some b) h.declaration) (named_rest d x.line c h))
    d q i (λ k. ap (λ z. first_operand d x.line z k.declaration k.value) o
    ∙ ap (λ z. Some (
      d,
      declared_or d (a_declared d x.line false (Some z) k.declaration) (named_rest d x.line c k),
    )) (same_base e)))
    (record {
      by = λ h. declared_on a d (a_declared d x.line false (Some b) h.declaration)
          (named_rest d x.line c h) (named_on c s a g j);
    })
by_opening d _ s q o g j e i = absurd (none_some e)

pub a_declaration_here : {x : Token} {b : Base} {ts a r : List Token} (d : ℕ) (s : Seen)
    → ts ≡ x ∷ a → Agrees (opening x.line x.kind) s → begins_with_base s a ≡ true
    → IsBaseAt ts b r → d ≤ MAX_NESTING
    → Leads (λ (h : Behind). operand_from d h) (λ h. declared_from d x.line false (Some b) h) ts r
a_declaration_here {x = x} {b = b} {ts = ts} d s q g j (e, f) i = subst
    (λ y. Leads (λ (h : Behind). operand_from d h) (λ h. declared_from d x.line false (Some b) h) ts y)
    (sym (f ∙ ap after q))
    (by_opening d (opening x.line x.kind) s q refl g j (ap next_base_of (sym q) ∙ e) i)

based_has : (o : Opening) → is_based o ≡ true → base_of o ≡ None → ⊥
based_has (based c) g e = cc
based_has _ g e = cc

named_has : (o : Opening) → is_named o ≡ true → base_of o ≡ None → ⊥
named_has (named c) g e = cc
named_has _ g e = cc

has_base : (o : Opening) (s : Seen) (a : List Token) → Agrees o s → begins_with_base s a ≡ true
    → base_of o ≡ None → ⊥
has_base o seen.Base a g j e = based_has o g e
has_base o seen.Name a g j e = named_has o g e
has_base o _ a g j e = cc

-- where one begins its base is there, if memory is not short
pub base_is_here : {x : Token} {ts a : List Token} (d : ℕ) (s : Seen) (f : Fault) → ts ≡ x ∷ a
    → Agrees (opening x.line x.kind) s → begins_with_base s a ≡ true → NoBase ts f
    → StopsAt (λ (h : Behind). operand_from d h) ts f
base_is_here {x = x} {a = a} d s (Syntax n) q g j (p, e) =
    absurd (has_base (opening x.line x.kind) s a g j (ap next_base_of (sym q) ∙ e))
base_is_here d s (TooDeep n) q g j r = absurd r
base_is_here d s (Memory _) q g j r = tt

-- ---- the first token of a Primary

paren_seen : (s : Seen) → Agrees opens_paren s → (s ≡ seen.Paren → ⊥) → ⊥
paren_seen seen.Paren g i = i refl
paren_seen _ g i = cc

array_seen : (s : Seen) → Agrees opens_array s → (s ≡ seen.Array → ⊥) → ⊥
array_seen seen.Array g i = i refl
array_seen _ g i = cc

no_start : (d l : ℕ) (o : Opening) (s : Seen) (k : K2) → Agrees o s → atom_of o l ≡ None
    → (s ≡ seen.Paren → ⊥) → (s ≡ seen.Array → ⊥) → first_postfix d l o k ≡ None
no_start d l (atom e) s k g h i j = cc
no_start d l (named n) s k g h i j = cc
no_start d l opens_paren s k g h i j = absurd (paren_seen s g i)
no_start d l opens_array s k g h i j = absurd (array_seen s g j)
no_start d l _ s k g h i j = refl

pub not_a_start : {x : Token} {ts a : List Token} (d : ℕ) (s : Seen) → ts ≡ x ∷ a
    → Agrees (opening x.line x.kind) s → atom_of (opening x.line x.kind) x.line ≡ None
    → (s ≡ seen.Paren → ⊥) → (s ≡ seen.Array → ⊥)
    → StopsAt (λ (k : K2). postfix d k) ts (Syntax (length ts))
not_a_start {x = x} {a = a} d s q g h i j = subst
    (λ y. StopsAt (λ (k : K2). postfix d k) y (Syntax (length y))) (sym q)
    (record {
      at = λ k. one_faulty x a (postfix d k)
          (no_start d x.line (opening x.line x.kind) s k g h i j);
    })
