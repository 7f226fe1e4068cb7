-- What the functions of the parser do, each of which is given the tokens that are left.
use Rattle.std.specs.Prelude.{◌≡◌, ℕ, suc, ◌==◌, ◌≤◌, List, [], ◌∷◌, length, Bool, true, false}
use Rattle.std.specs.Prelude.{Option, Some, None, MatchOption, Result, Ok, Err, MatchResult}
use Rattle.std.specs.Borrow.{Bor}
use Rattle.ck_base.specs.declared.limits.TheConstants.{MAX_NESTING}
use Rattle.ck_lexer.specs.declared.token.Token.{Token}
use Rattle.ck_lexer.specs.declared.token.TokenKind.{TokenKind}
use Rattle.ck_lexer.specs.declared.token.TokenKind.TheVariants.{Name, Mark}
use Rattle.ck_lexer.specs.declared.mark.Mark.TheVariants as m
use Rattle.parse_exprs.specs.declared.fault.Fault.{Fault}
use Rattle.parse_exprs.specs.declared.fault.Fault.TheVariants.{Syntax, TooDeep, Memory}
use Rattle.parse_exprs.specs.declared.follow.Follow.{Follow}
use Rattle.parse_exprs.specs.declared.follow.Follow.TheVariants as f
use Rattle.parse_exprs.specs.declared.opening.Opening.{Opening as Seen}
use Rattle.parse_exprs.specs.declared.opening.Opening.TheVariants as seen
use Rattle.parse_exprs.specs.Machine.{State, Stop, faulty, deep, left}
use Rattle.parse_exprs.specs.Tokens.{Then, Opening, atom, named, prefixed, based, opens_paren}
use Rattle.parse_exprs.specs.Tokens.{opens_array, opens_new, opens_spork, opens_static, opens_auto}
use Rattle.parse_exprs.specs.Tokens.{opens_block}
use Rattle.parse_exprs.specs.Tokens.{opens_empty, opens_print, opens_if, opens_while, opens_until}
use Rattle.parse_exprs.specs.Tokens.{opens_do, opens_for, opens_repeat, opens_break, opens_continue}
use Rattle.parse_exprs.specs.Tokens.{opens_return, opens_fun, opens_class, opens_public}
use Rattle.parse_exprs.specs.Tokens.{opens_nothing, opening, follow, level, Sign, kind_of, has}
use Rattle.ck_syntax.specs.Tree as t
use Rattle.ck_syntax.specs.declared.declaration.Base.{Base}
use Rattle.ck_syntax.specs.declared.declaration.Base.TheVariants.{Class as a_class}
use Rattle.ck_syntax.specs.declared.operator.BinaryOp.{BinaryOp}
use Rattle.ck_syntax.specs.declared.operator.ChuckOp.{ChuckOp}

-- the tokens behind what was seen or read
abbrev pub Slice : Type 0
Slice = Bor (List Token)

-- ---- single tokens

abbrev pub next_follow : List Token → Follow
next_follow [] = f.Nothing
next_follow (x ∷ ts) = follow x.kind

abbrev pub after : List Token → List Token
after [] = []
after (x ∷ ts) = ts

abbrev pub is_value : Opening → Bool
is_value (atom e) = true
is_value _ = false

abbrev pub is_named : Opening → Bool
is_named (named n) = true
is_named _ = false

abbrev pub is_based : Opening → Bool
is_based (based b) = true
is_based _ = false

-- what was seen of an opening
abbrev pub Agrees : Opening → Seen → Type 0
Agrees o seen.Atom = is_value o ≡ true
Agrees o seen.Name = is_named o ≡ true
Agrees o (seen.Prefix p) = o ≡ prefixed p
Agrees o seen.Base = is_based o ≡ true
Agrees o seen.Paren = o ≡ opens_paren
Agrees o seen.Array = o ≡ opens_array
Agrees o seen.New = o ≡ opens_new
Agrees o seen.Spork = o ≡ opens_spork
Agrees o seen.Static = o ≡ opens_static
Agrees o seen.Auto = o ≡ opens_auto
Agrees o seen.Block = o ≡ opens_block
Agrees o seen.Empty = o ≡ opens_empty
Agrees o seen.Print = o ≡ opens_print
Agrees o seen.If = o ≡ opens_if
Agrees o seen.While = o ≡ opens_while
Agrees o seen.Until = o ≡ opens_until
Agrees o seen.Do = o ≡ opens_do
Agrees o seen.For = o ≡ opens_for
Agrees o seen.Repeat = o ≡ opens_repeat
Agrees o seen.Break = o ≡ opens_break
Agrees o seen.Continue = o ≡ opens_continue
Agrees o seen.Return = o ≡ opens_return
Agrees o seen.Fun = o ≡ opens_fun
Agrees o seen.Class = o ≡ opens_class
Agrees o seen.Public = o ≡ opens_public
Agrees o seen.Nothing = o ≡ opens_nothing

-- the expression that a token of this opening and line is by itself
abbrev pub atom_of : Opening → ℕ → Option t.Expr
atom_of (atom e) l = Some e
atom_of (named n) l = Some (t.name l n)
atom_of _ l = None

abbrev pub Atoms : Opening → ℕ → Option t.Expr → Type 0
Atoms o l e = atom_of o l ≡ e

-- that word, mark or name does not come next
abbrev pub Missing : Sign → List Token → Fault → Type 0
Missing j ts (Syntax n) = (n ≡ length ts) × (has j ts ≡ false)
Missing j ts (TooDeep n) = ⊥
Missing j ts (Memory _) = ⊥

-- what stands behind that word, mark or name; or it does not come next
abbrev pub Eats : Sign → List Token → Option Slice → Type 0
Eats j ts r = MatchOption r (has j ts ≡ false) (λ rest. Then (kind_of j) ts rest.now)

-- the same, where it has to come
abbrev pub Expects : Sign → List Token → Result Slice Fault → Type 0
Expects j ts r = MatchResult r (λ rest. Then (kind_of j) ts rest.now) (λ e. Missing j ts e)

abbrev pub is_name : TokenKind → Bool
is_name (Name n) = true
is_name _ = false

abbrev pub has_name : List Token → Bool
has_name [] = false
has_name (x ∷ ts) = is_name x.kind

abbrev pub NoName : List Token → Fault → Type 0
NoName ts (Syntax n) = (n ≡ length ts) × (has_name ts ≡ false)
NoName ts (TooDeep n) = ⊥
NoName ts (Memory _) = Unit {0}

abbrev pub ExpectsName : List Token → Result (t.Name × Slice) Fault → Type 0
ExpectsName ts r = MatchResult r (λ x. Then (Name x.0) ts x.1.now) (λ e. NoName ts e)

-- the base that a token is
abbrev pub base_of : Opening → Option Base
base_of (based b) = Some b
base_of (named n) = Some (a_class n)
base_of _ = None

abbrev pub next_base_of : List Token → Option Base
next_base_of [] = None
next_base_of (x ∷ ts) = base_of (opening x.line x.kind)

abbrev pub IsBaseAt : List Token → Base → List Token → Type 0
IsBaseAt ts b rest = (next_base_of ts ≡ Some b) × (rest ≡ after ts)

abbrev pub NoBase : List Token → Fault → Type 0
NoBase ts (Syntax n) = (n ≡ length ts) × (next_base_of ts ≡ None)
NoBase ts (TooDeep n) = ⊥
NoBase ts (Memory _) = Unit {0}

abbrev pub ExpectsBase : List Token → Result (Base × Slice) Fault → Type 0
ExpectsBase ts r = MatchResult r (λ x. IsBaseAt ts x.0 x.1.now) (λ e. NoBase ts e)

-- whether the next token is an operator of that level
abbrev pub joins_at : Follow → ℕ → Bool
joins_at (f.Binary o) n = level o == n
joins_at _ n = false

abbrev pub is_chuck : Follow → Bool
is_chuck (f.Chuck o) = true
is_chuck _ = false

-- the operator of that level that comes next, and what stands behind it; or none comes
abbrev pub FindsOperator : ℕ → List Token → Option (BinaryOp × Slice) → Type 0
FindsOperator n ts r = MatchOption r (joins_at (next_follow ts) n ≡ false)
    (λ x. (next_follow ts ≡ f.Binary x.0) × (level x.0 ≡ n) × (x.1.now ≡ after ts))

-- the same of a chuck operator
abbrev pub FindsChuck : List Token → Option (ChuckOp × Slice) → Type 0
FindsChuck ts r = MatchOption r (is_chuck (next_follow ts) ≡ false)
    (λ x. (next_follow ts ≡ f.Chuck x.0) × (x.1.now ≡ after ts))

-- what makes a name before it a base comes next
abbrev pub is_declared : TokenKind → Bool
is_declared (Name n) = true
is_declared (Mark m.At) = true
is_declared _ = false

abbrev pub begins_declared : List Token → Bool
begins_declared [] = false
begins_declared (x ∷ ts) = is_declared x.kind

-- whether what was seen, before ts, is the base of a declaration
abbrev pub begins_with_base : Seen → List Token → Bool
begins_with_base seen.Base ts = true
begins_with_base seen.Name ts = begins_declared ts
begins_with_base _ ts = false

-- one deeper, but for the limit, which is passed at the next token
abbrev pub Deepens : ℕ → List Token → Result ℕ Fault → Type 0
Deepens d ts (Ok e) = (e ≡ suc d) × (e ≤ MAX_NESTING)
Deepens d ts (Err (TooDeep n)) = (n ≡ length ts) × (MAX_NESTING ≤ d)
Deepens d ts (Err (Syntax n)) = ⊥
Deepens d ts (Err (Memory _)) = ⊥

-- ---- parts

-- From where S is to come at ts the machine comes to where T is to come at rest, for whatever is
-- to come behind.
pub record Leads {K : Type 0} (S T : K → State) (ts rest : List Token) : Type 0 where
  pub by : (k : K) → left ts (S k) ≡ left rest (T k)

-- Where S is to come at ts the machine stops so.
pub record Stops {K : Type 0} (S : K → State) (ts : List Token) (p : Stop) : Type 0 where
  pub at : (k : K) → left ts (S k) ≡ p

abbrev pub StopsAt : {K : Type 0} → (K → State) → List Token → Fault → Type 0
StopsAt S ts (Syntax n) = Stops S ts (faulty n)
StopsAt S ts (TooDeep n) = Stops S ts (deep n)
StopsAt S ts (Memory _) = Unit {0}

-- A function that reads S at ts returned this. T is to come behind what it read.
abbrev pub Reads : {K X : Type 0}
    → (K → State) → (X → K → State) → (X → List Token) → List Token → Result X Fault → Type 0
Reads S T rest ts (Ok x) = Leads S (T x) ts (rest x)
Reads S T rest ts (Err e) = StopsAt S ts e

-- A function that reads a part at ts returned this, of which the view is the part's tree.
abbrev pub ReadsPart : {A V : Type 0}
    → ((V → State) → State) → (A → V) → List Token → Result (A × Slice) Fault → Type 0
ReadsPart {A} {V} S view ts r =
    Reads (λ (k : V → State). S k) (λ (x : A × Slice) k. k (view x.0)) (λ x. x.1.now) ts r

-- A function that looks whether S goes on at ts returned this: behind what was seen U is to come,
-- and where nothing was seen T is.
abbrev pub Looks : {K X : Type 0}
    → (K → State) → (K → State) → (X → K → State) → (X → List Token)
    → List Token → Result (Option X) Fault → Type 0
Looks S T U rest ts r = MatchResult r
    (λ o. MatchOption o (Leads S T ts ts) (λ x. Leads S (U x) ts (rest x)))
    (λ e. StopsAt S ts e)
