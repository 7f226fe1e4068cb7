-- What the machine makes of the parts of functions, classes and items.
use Rattle.std.proofs.Common.{◌≡◌, ℕ, suc, ◌<◌, List, [], ◌∷◌, ◌++◌, length, Bool, true, false}
use Rattle.std.proofs.Common.{Option, Some, None, Result, Ok, Err, refl, sym, ◌∙◌, ap, subst, arith}
use Rattle.ck_lexer.specs.declared.mark.Mark.TheVariants as m
use Rattle.ck_lexer.specs.declared.token.Token.{Token}
use Rattle.ck_lexer.specs.declared.token.TokenKind.{TokenKind}
use Rattle.ck_lexer.specs.declared.token.TokenKind.TheVariants.{Word, Mark, Name, End}
use Rattle.ck_lexer.specs.declared.word.Word.TheVariants as w
use Rattle.parse_exprs.specs.declared.fault.Fault.{Fault}
use Rattle.parse_exprs.specs.declared.fault.Fault.TheVariants.{Syntax}
use Rattle.parse_exprs.specs.declared.opening.Opening.{Opening as Seen}
use Rattle.parse_exprs.specs.declared.opening.Opening.TheVariants as seen
use Rattle.ck_parser.specs.Items.{some_params, all_params, a_parent, body_end, a_body, InBody}
use Rattle.ck_parser.specs.Items.{more_members, after_member, at_the_end}
use Rattle.parse_exprs.specs.Machine.{after_at}
use Rattle.parse_exprs.specs.Machine.{State, Next, ended, left, resume, is_shallow, at_end, step}
use Rattle.parse_exprs.specs.Machine.{or_else, given, done, sign, may, a_name, a_stmt, more_params}
use Rattle.parse_exprs.specs.Machine.{members, items, a_type, a_block, a_param}
use Rattle.parse_exprs.specs.Machine.{signature, after_fun, after_class, first_stmt, first_member}
use Rattle.parse_exprs.specs.Machine.{first_item, next_end, start}
use Rattle.ck_parser.specs.Parse.{is_end}
use Rattle.parse_exprs.specs.Reads.{Leads, StopsAt, Reads, Missing, Agrees, is_value, is_named}
use Rattle.parse_exprs.specs.Reads.{is_based}
use Rattle.parse_exprs.specs.Tokens.{a_construct, construct}
use Rattle.parse_exprs.specs.Tokens.{Then, Opening, atom, named, based, opens_fun, opens_class}
use Rattle.parse_exprs.specs.Tokens.{opens_public, opening, a_word, a_mark, has}
use Rattle.parse_exprs.proofs.Made.{first_step}
use Rattle.parse_exprs.proofs.Made.{may_come, may_not}
use Rattle.parse_exprs.proofs.Steps.{onward, inside, stops_onward, stops_inside, token, past_sign}
use Rattle.parse_exprs.proofs.Steps.{no_sign, past_name, then_name}
use Rattle.ck_syntax.proofs.Views.{params_of-append, members_of-append, items_of-append}
use Rattle.ck_syntax.specs.Tree as t
use Rattle.ck_syntax.specs.Tree.{Stmt, Stmts, Fun, Params, Member, Members, Class, Item, File}
use Rattle.ck_syntax.specs.Tree.{no_stmts, no_params, and_param, no_members, and_member, no_items}
use Rattle.ck_syntax.specs.Tree.{and_item}
use Rattle.ck_syntax.specs.View.{params_of, members_of, items_of, view_member, view_item}
use Rattle.ck_syntax.specs.declared.declaration.TypeName.{TypeName}
use Rattle.ck_syntax.specs.declared.file.Item.{Item as AnItem}
use Rattle.ck_syntax.specs.declared.file.Member.{Member as AMember}
use Rattle.ck_syntax.specs.declared.file.Param.{Param}

-- ---- what a part gave, in a larger one

faulty_in : {K J : Type 0} {S : K → State} {ts a : List Token} (A : J → State) (f : K → J)
    (e : Fault) → Leads S (λ k. A (f k)) ts a → StopsAt A a e → StopsAt S ts e
faulty_in {a = a} A f e p r = stops_onward e p (stops_inside A a f e r)

pub reads_in : {K J X : Type 0} {S : K → State} {ts a : List Token} (A : J → State)
    (T : X → J → State) (rest : X → List Token) (f : K → J) (r : Result X Fault)
    → Leads S (λ k. A (f k)) ts a → Reads A T rest a r → Reads S (λ x k. T x (f k)) rest ts r
reads_in A T rest f (Ok x) p q = onward p (inside f q)
reads_in A T rest f (Err e) p q = faulty_in A f e p q

abbrev Same : {K : Type 0} → (K → State) → (K → State) → List Token → Type 0
Same S T [] = Unit {0}
Same {K = K} S T (x ∷ ts) = (k : K) → step (S k) x ≡ step (T k) x

-- the first token leads on alike
alike : {K : Type 0} (S T : K → State) (ts : List Token)
    → ((k : K) → at_end (S k) ≡ at_end (T k)) → Same S T ts → Leads S T ts ts
alike S T [] e h = record { by = λ k. ap ended (e k) }
alike S T (x ∷ ts) e h =
    record { by = λ k. ap (resume is_shallow (suc (length ts)) (λ q. left ts q)) (h k) }

-- ---- parameters

abbrev one_param : Params → (Params → State) → Param → State
one_param ps k p = more_params 1 (and_param ps p) k

params_comma : {ts a b : List Token} {ps : Params}
    → Leads (λ k. some_params k) (λ k. more_params 1 ps k) ts a → Then (Mark m.Comma) a b
    → Leads (λ k. some_params k) (λ k. a_param (one_param ps k)) ts b
params_comma {ps = ps} r h = onward r (token (λ k. more_params 1 ps k)
    (λ k. a_param (one_param ps k)) 1 h (omega arith) (λ l a k. refl))

params_next : {ts a b c : List Token} {ps : Params} {p : Param}
    → Leads (λ k. some_params k) (λ k. more_params 1 ps k) ts a → Then (Mark m.Comma) a b
    → Leads (λ k. a_param k) (λ k. k p) b c
    → Leads (λ k. some_params k) (λ k. more_params 1 (and_param ps p) k) ts c
params_next {ps = ps} r h g = onward (params_comma r h) (inside (λ k. one_param ps k) g)

-- the list of them with one more
pub params_pushed : {ts a b c : List Token} (ps qs : List Param) (p : Param) → qs ≡ ps ++ p ∷ []
    → Leads (λ k. some_params k) (λ k. more_params 1 (params_of no_params ps) k) ts a
    → Then (Mark m.Comma) a b → Leads (λ k. a_param k) (λ k. k p) b c
    → Leads (λ k. some_params k) (λ k. more_params 1 (params_of no_params qs) k) ts c
params_pushed {ts = ts} {c = c} ps qs p e r h g = subst
    (λ x. Leads (λ k. some_params k) (λ k. more_params 1 x k) ts c)
    (sym (ap (params_of no_params) e ∙ params_of-append no_params ps p)) (params_next r h g)

-- ---- parameters in parentheses

abbrev params_close : (Params → State) → Params → State
params_close k ps = sign 1 (a_mark m.RightParen) (k ps)

abbrev params_open : (Params → State) → State
params_open k = may 1 (a_mark m.RightParen) (k no_params) (some_params (params_close k))

in_parens : {ts a : List Token} → Then (Mark m.LeftParen) ts a
    → Leads (λ k. all_params k) (λ k. params_open k) ts a
in_parens h = past_sign (a_mark m.LeftParen) 1 (λ k. params_open k) h (omega arith)

filled_parens : {ts a : List Token} → Then (Mark m.LeftParen) ts a → has (a_mark m.RightParen) a
    ≡ false → Leads (λ k. all_params k) (λ k. some_params (params_close k)) ts a
filled_parens {a = a} h g = onward (in_parens h)
    (may_not a (a_mark m.RightParen) 1 (λ k. k no_params) (λ k. some_params (params_close k)) g)

pub inner_parens : {ts a : List Token} (e : Fault) → Then (Mark m.LeftParen) ts a
    → has (a_mark m.RightParen) a ≡ false → StopsAt (λ k. some_params k) a e
    → StopsAt (λ k. all_params k) ts e
inner_parens e h g r = faulty_in (λ k. some_params k) (λ k. params_close k) e (filled_parens h g) r

behind_parens : {ts a b : List Token} {ps : Params} → Then (Mark m.LeftParen) ts a
    → has (a_mark m.RightParen) a ≡ false → Leads (λ k. some_params k) (λ k. k ps) a b
    → Leads (λ k. all_params k) (λ k. params_close k ps) ts b
behind_parens h g r = onward (filled_parens h g) (inside (λ k. params_close k) r)

pub open_parens : {ts a b : List Token} {ps : Params} (e : Fault) → Then (Mark m.LeftParen) ts a
    → has (a_mark m.RightParen) a ≡ false → Leads (λ k. some_params k) (λ k. k ps) a b
    → Missing (a_mark m.RightParen) b e → StopsAt (λ k. all_params k) ts e
open_parens {b = b} {ps = ps} e h g r i =
    stops_onward e (behind_parens h g r) (no_sign b (a_mark m.RightParen) 1 (λ k. k ps) e i)

pub made_parens : {ts a b c : List Token} {ps : Params} → Then (Mark m.LeftParen) ts a
    → has (a_mark m.RightParen) a ≡ false → Leads (λ k. some_params k) (λ k. k ps) a b
    → Then (Mark m.RightParen) b c → Leads (λ k. all_params k) (λ k. k ps) ts c
made_parens {ps = ps} h g r i =
    onward (behind_parens h g r) (past_sign (a_mark m.RightParen) 1 (λ k. k ps) i (omega arith))

-- ---- a function

abbrev fun_body : ℕ → Bool → TypeName → t.Name → (Fun → State) → Params → State
fun_body l s b n k ps = a_block (λ ss. k (t.fun l s b n ps ss))

abbrev fun_name : ℕ → Bool → (Fun → State) → TypeName → State
fun_name l s k b = a_name 0 (λ n. all_params (fun_body l s b n k))

behind_result : {ts a : List Token} {b : TypeName} (l : ℕ) (s : Bool) → Leads (λ k. a_type 0 k)
    (λ k. k b) ts a → Leads (λ k. signature l s k) (λ k. fun_name l s k b) ts a
behind_result l s r = inside (λ k. fun_name l s k) r

named_fun : {ts a c : List Token} {b : TypeName} {n : List ℕ} (l : ℕ) (s : Bool)
    → Leads (λ k. a_type 0 k) (λ k. k b) ts a → Then (Name n) a c
    → Leads (λ k. signature l s k) (λ k. all_params (fun_body l s b n k)) ts c
named_fun {b = b} l s r h =
    onward (behind_result l s r)
    (past_name 0 (λ k n. all_params (fun_body l s b n k)) h (omega arith))

pub bad_params : {ts a c : List Token} {b : TypeName} {n : List ℕ} (l : ℕ) (s : Bool)
    (e : Fault) → Leads (λ k. a_type 0 k) (λ k. k b) ts a → Then (Name n) a c
    → StopsAt (λ k. all_params k) c e → StopsAt (λ k. signature l s k) ts e
bad_params {b = b} {n = n} l s e r h g =
    faulty_in (λ k. all_params k) (λ k. fun_body l s b n k) e (named_fun l s r h) g

behind_params : {ts a c d : List Token} {b : TypeName} {n : List ℕ} {ps : Params} (l : ℕ)
    (s : Bool) → Leads (λ k. a_type 0 k) (λ k. k b) ts a → Then (Name n) a c
    → Leads (λ k. all_params k) (λ k. k ps) c d
    → Leads (λ k. signature l s k) (λ k. fun_body l s b n k ps) ts d
behind_params {b = b} {n = n} l s r h g =
    onward (named_fun l s r h) (inside (λ k. fun_body l s b n k) g)

pub bad_fun : {ts a c d : List Token} {b : TypeName} {n : List ℕ} {ps : Params} (l : ℕ)
    (s : Bool) (e : Fault) → Leads (λ k. a_type 0 k) (λ k. k b) ts a → Then (Name n) a c
    → Leads (λ k. all_params k) (λ k. k ps) c d → StopsAt (λ k. a_block k) d e
    → StopsAt (λ k. signature l s k) ts e
bad_fun {b = b} {n = n} {ps = ps} l s e r h g i =
    faulty_in (λ k. a_block k) (λ k ss. k (t.fun l s b n ps ss)) e (behind_params l s r h g) i

pub made_fun : {ts a c d f : List Token} {b : TypeName} {n : List ℕ} {ps : Params} {ss : Stmts}
    (l : ℕ) (s : Bool) → Leads (λ k. a_type 0 k) (λ k. k b) ts a → Then (Name n) a c
    → Leads (λ k. all_params k) (λ k. k ps) c d → Leads (λ k. a_block k) (λ k. k ss) d f
    → Leads (λ k. signature l s k) (λ k. k (t.fun l s b n ps ss)) ts f
made_fun {b = b} {n = n} {ps = ps} l s r h g i =
    onward (behind_params l s r h g) (inside (λ k ss. k (t.fun l s b n ps ss)) i)

abbrev named_def : ℕ → (Fun → State) → State
named_def l k = may 0 (a_word w.Static) (signature l true k) (signature l false k)

no_at : (l : ℕ) (ts : List Token) → has (a_mark m.At) ts ≡ false
    → Leads (λ k. after_fun l k) (λ k. named_def l k) ts ts
no_at l ts h = may_not ts (a_mark m.At) 0 (λ k. after_at l k) (λ k. named_def l k) h

pub static_fun : {a : List Token} (l : ℕ) (ts : List Token) → has (a_mark m.At) ts ≡ false
    → Then (Word w.Static) ts a → Leads (λ k. after_fun l k) (λ k. signature l true k) ts a
static_fun l ts n h = onward (no_at l ts n) (may_come (a_word w.Static) 0
    (λ k. signature l true k) (λ k. signature l false k) h (omega arith))

pub plain_fun : (l : ℕ) (ts : List Token) → has (a_mark m.At) ts ≡ false
    → has (a_word w.Static) ts ≡ false
    → Leads (λ k. after_fun l k) (λ k. signature l false k) ts ts
plain_fun l ts n h = onward (no_at l ts n)
    (may_not ts (a_word w.Static) 0 (λ k. signature l true k) (λ k. signature l false k) h)

-- ---- a constructor

pub constructor_fun : {ts a : List Token} (l : ℕ) → Then (Mark m.At) ts a
    → Leads (λ k. after_fun l k) (λ k. after_at l k) ts a
constructor_fun l h =
    may_come (a_mark m.At) 0 (λ k. after_at l k) (λ k. named_def l k) h (omega arith)

abbrev constructor_body : ℕ → (Fun → State) → Params → State
constructor_body l k ps = a_block (λ ss. k (t.constructor l ps ss))

pub no_construct : (l : ℕ) (ts : List Token) (e : Fault) → Missing a_construct ts e
    → StopsAt (λ k. after_at l k) ts e
no_construct l ts e h =
    no_sign ts a_construct 0 (λ (k : Fun → State). all_params (constructor_body l k)) e h

named_constructor : {ts a : List Token} (l : ℕ) → Then (Name construct) ts a
    → Leads (λ k. after_at l k) (λ k. all_params (constructor_body l k)) ts a
named_constructor l h = past_sign a_construct 0
    (λ (k : Fun → State). all_params (constructor_body l k)) h (omega arith)

pub bad_constructor_params : {ts a : List Token} (l : ℕ) (e : Fault) → Then (Name construct) ts a
    → StopsAt (λ k. all_params k) a e → StopsAt (λ k. after_at l k) ts e
bad_constructor_params l e h g =
    faulty_in (λ k. all_params k) (λ k. constructor_body l k) e (named_constructor l h) g

behind_constructor_params : {ts a c : List Token} {ps : Params} (l : ℕ)
    → Then (Name construct) ts a → Leads (λ k. all_params k) (λ k. k ps) a c
    → Leads (λ k. after_at l k) (λ k. constructor_body l k ps) ts c
behind_constructor_params l h g =
    onward (named_constructor l h) (inside (λ k. constructor_body l k) g)

pub bad_constructor : {ts a c : List Token} {ps : Params} (l : ℕ) (e : Fault)
    → Then (Name construct) ts a → Leads (λ k. all_params k) (λ k. k ps) a c
    → StopsAt (λ k. a_block k) c e → StopsAt (λ k. after_at l k) ts e
bad_constructor {ps = ps} l e h g i = faulty_in (λ k. a_block k)
    (λ k ss. k (t.constructor l ps ss)) e (behind_constructor_params l h g) i

pub made_constructor : {ts a c f : List Token} {ps : Params} {ss : Stmts} (l : ℕ)
    → Then (Name construct) ts a → Leads (λ k. all_params k) (λ k. k ps) a c
    → Leads (λ k. a_block k) (λ k. k ss) c f
    → Leads (λ k. after_at l k) (λ k. k (t.constructor l ps ss)) ts f
made_constructor {ps = ps} l h g i =
    onward (behind_constructor_params l h g) (inside (λ k ss. k (t.constructor l ps ss)) i)

-- ---- a class

abbrev class_braces : ℕ → Bool → t.Name → (Class → State) → Option t.Name → State
class_braces l p n k q = a_body (λ xs. k (t.class l p n q xs))

named_class : {ts a : List Token} {n : List ℕ} (l : ℕ) (p : Bool) → Then (Name n) ts a
    → Leads (λ k. after_class l p k) (λ k. a_parent (class_braces l p n k)) ts a
named_class l p h = past_name 0 (λ k n. a_parent (class_braces l p n k)) h (omega arith)

pub bad_parent : {ts a : List Token} {n : List ℕ} (l : ℕ) (p : Bool) (e : Fault)
    → Then (Name n) ts a → StopsAt (λ k. a_parent k) a e → StopsAt (λ k. after_class l p k) ts e
bad_parent {n = n} l p e h g =
    faulty_in (λ k. a_parent k) (λ k. class_braces l p n k) e (named_class l p h) g

behind_parent : {ts a b : List Token} {n : List ℕ} {q : Option (List ℕ)} (l : ℕ) (p : Bool)
    → Then (Name n) ts a → Leads (λ k. a_parent k) (λ k. k q) a b
    → Leads (λ k. after_class l p k) (λ k. class_braces l p n k q) ts b
behind_parent {n = n} l p h g = onward (named_class l p h) (inside (λ k. class_braces l p n k) g)

pub bad_class : {ts a b : List Token} {n : List ℕ} {q : Option (List ℕ)} (l : ℕ) (p : Bool)
    (e : Fault) → Then (Name n) ts a → Leads (λ k. a_parent k) (λ k. k q) a b
    → StopsAt (λ k. a_body k) b e → StopsAt (λ k. after_class l p k) ts e
bad_class {n = n} {q = q} l p e h g r =
    faulty_in (λ k. a_body k) (λ k xs. k (t.class l p n q xs)) e (behind_parent l p h g) r

pub made_class : {ts a b c : List Token} {n : List ℕ} {q : Option (List ℕ)} {xs : Members}
    (l : ℕ) (p : Bool) → Then (Name n) ts a → Leads (λ k. a_parent k) (λ k. k q) a b
    → Leads (λ k. a_body k) (λ k. k xs) b c
    → Leads (λ k. after_class l p k) (λ k. k (t.class l p n q xs)) ts c
made_class {n = n} {q = q} l p h g r =
    onward (behind_parent l p h g) (inside (λ k xs. k (t.class l p n q xs)) r)

-- ---- the members of a class

abbrev so_far : Members → (Members → State) → InBody
so_far xs k = (xs, k)

pub bad_member : {ts a : List Token} {xs : Members} (e : Fault)
    → Leads (λ k. a_body k) (λ k. members xs (body_end k)) ts a → StopsAt more_members a e
    → StopsAt (λ k. a_body k) ts e
bad_member {xs = xs} e p r = faulty_in more_members (λ k. so_far xs k) e p r

one_member : {ts a b : List Token} {xs : Members} {x : Member}
    → Leads (λ k. a_body k) (λ k. members xs (body_end k)) ts a
    → Leads more_members (after_member x) a b
    → Leads (λ k. a_body k) (λ k. members (and_member xs x) (body_end k)) ts b
one_member {xs = xs} p r = onward p (inside (λ k. so_far xs k) r)

pub member_pushed : {ts a b : List Token} (xs ys : List AMember) (x : AMember)
    → ys ≡ xs ++ x ∷ [] → Leads (λ k. a_body k)
    (λ k. members (members_of no_members xs) (body_end k)) ts a
    → Leads more_members (after_member (view_member x)) a b
    → Leads (λ k. a_body k) (λ k. members (members_of no_members ys) (body_end k)) ts b
member_pushed {ts = ts} {b = b} xs ys x e p r = subst
    (λ y. Leads (λ k. a_body k) (λ k. members y (body_end k)) ts b)
    (sym (ap (members_of no_members) e ∙ members_of-append no_members xs x)) (one_member p r)

-- ---- whether a statement comes next

or_none : (n : Next) → or_else n None ≡ n
or_none None = refl
or_none (Some x) = refl

abbrev pub in_class : Opening → Bool
in_class opens_fun = false
in_class _ = true

abbrev pub in_file : Opening → Bool
in_file opens_fun = false
in_file opens_class = false
in_file opens_public = false
in_file _ = true

value_in : (o : Opening) → is_value o ≡ true → in_file o ≡ true
value_in (atom e) h = refl
value_in _ h = cc

named_in : (o : Opening) → is_named o ≡ true → in_file o ≡ true
named_in (named n) h = refl
named_in _ h = cc

based_in : (o : Opening) → is_based o ≡ true → in_file o ≡ true
based_in (based b) h = refl
based_in _ h = cc

in_file_in_class : (o : Opening) → in_file o ≡ true → in_class o ≡ true
in_file_in_class opens_fun h = cc
in_file_in_class _ h = refl

-- what was seen begins no function, class or member
pub seen_in_class : (o : Opening) (s : Seen) → Agrees o s → (s ≡ seen.Fun → ⊥) → in_class o ≡ true
seen_in_class o seen.Atom h f = in_file_in_class o (value_in o h)
seen_in_class o seen.Name h f = in_file_in_class o (named_in o h)
seen_in_class o seen.Base h f = in_file_in_class o (based_in o h)
seen_in_class o seen.Fun h f = absurd (f refl)
seen_in_class o _ h f = ap in_class h

pub seen_in_file : (o : Opening) (s : Seen) → Agrees o s → (s ≡ seen.Fun → ⊥)
    → (s ≡ seen.Class → ⊥) → (s ≡ seen.Public → ⊥) → in_file o ≡ true
seen_in_file o seen.Atom h f c p = value_in o h
seen_in_file o seen.Name h f c p = named_in o h
seen_in_file o seen.Base h f c p = based_in o h
seen_in_file o seen.Fun h f c p = absurd (f refl)
seen_in_file o seen.Class h f c p = absurd (c refl)
seen_in_file o seen.Public h f c p = absurd (p refl)
seen_in_file o _ h f c p = ap in_file h

-- ---- a member

abbrev member_stmt : InBody → Stmt → State
member_stmt k s = after_member (t.stmt_member s) k

stmt_of_member : (l : ℕ) (o : Opening) (k : Member → State) → in_class o ≡ true
    → first_member l o k ≡ first_stmt 1 l o (λ s. k (t.stmt_member s))
stmt_of_member l opens_fun k h = cc
stmt_of_member l _ k h = refl

in_member_stmt : (x : Token) (ts a : List Token) → ts ≡ x ∷ a
    → in_class (opening x.line x.kind) ≡ true → has (a_mark m.RightBrace) ts ≡ false
    → Leads more_members (λ k. a_stmt 1 (member_stmt k)) ts ts
in_member_stmt x ts a q h g = subst (λ y. Leads more_members (λ k. a_stmt 1 (member_stmt k)) y
    y) (sym q) (alike more_members (λ k. a_stmt 1 (member_stmt k)) (x ∷ a) (λ k. refl) (λ k.
    ap (λ b. or_else (first_member x.line (opening x.line x.kind) (λ y. after_member y k))
    (given b 0 (k.1 k.0))) (sym (ap (has (a_mark m.RightBrace)) q) ∙ g)
    ∙ or_none (first_member x.line (opening x.line x.kind) (λ y. after_member y k))
    ∙ stmt_of_member x.line (opening x.line x.kind) (λ y. after_member y k) h))

pub bad_member_stmt : {x : Token} {ts a : List Token} (e : Fault) → ts ≡ x ∷ a
    → in_class (opening x.line x.kind) ≡ true → has (a_mark m.RightBrace) ts ≡ false
    → StopsAt (λ k. a_stmt 1 k) ts e → StopsAt more_members ts e
bad_member_stmt {x = x} {ts = ts} {a = a} e q h g r =
    faulty_in (λ k. a_stmt 1 k) (λ k. member_stmt k) e (in_member_stmt x ts a q h g) r

pub made_member_stmt : {x : Token} {ts a b : List Token} {s : Stmt} → ts ≡ x ∷ a
    → in_class (opening x.line x.kind) ≡ true → has (a_mark m.RightBrace) ts ≡ false → Leads
    (λ k. a_stmt 1 k) (λ k. k s) ts b → Leads more_members (after_member (t.stmt_member s)) ts b
made_member_stmt {x = x} {ts = ts} {a = a} q h g r =
    onward (in_member_stmt x ts a q h g) (inside (λ k. member_stmt k) r)

in_member_fun : {x : Token} {ts a : List Token} → ts ≡ x ∷ a
    → opening x.line x.kind ≡ opens_fun
    → Leads more_members (λ k. after_fun x.line (λ f. after_member (t.fun_member f) k)) ts a
in_member_fun {x = x} q h = first_step more_members
    (λ k. after_fun x.line (λ f. after_member (t.fun_member f) k)) 0 q (omega arith)
    (λ k. ap (λ o. or_else (first_member x.line o (λ y. after_member y k))
    (step (body_end k.1 k.0) x)) h)

pub bad_member_fun : {x : Token} {ts a : List Token} (e : Fault) → ts ≡ x ∷ a
    → opening x.line x.kind ≡ opens_fun → StopsAt (λ k. after_fun x.line k) a e
    → StopsAt more_members ts e
bad_member_fun {x = x} e q h r = faulty_in (λ k. after_fun x.line k)
    (λ k f. after_member (t.fun_member f) k) e (in_member_fun q h) r

pub made_member_fun : {x : Token} {ts a b : List Token} {f : Fun} → ts ≡ x ∷ a
    → opening x.line x.kind ≡ opens_fun → Leads (λ k. after_fun x.line k) (λ k. k f) a b
    → Leads more_members (after_member (t.fun_member f)) ts b
made_member_fun q h r =
    onward (in_member_fun q h) (inside (λ k f. after_member (t.fun_member f) k) r)

-- ---- an item

in_item_fun : {x : Token} {ts a : List Token} → ts ≡ x ∷ a → opening x.line x.kind ≡ opens_fun
    → Leads (λ xs. items xs) (λ xs. after_fun x.line (λ f. items (and_item xs (t.fun_item f)))) ts a
in_item_fun {x = x} q h = first_step (λ xs. items xs)
    (λ xs. after_fun x.line (λ f. items (and_item xs (t.fun_item f)))) 0 q (omega arith)
    (λ xs. ap (λ o. or_else (first_item x.line o (λ y. items (and_item xs y)))
    (next_end x.kind xs)) h)

pub bad_item_fun : {x : Token} {ts a : List Token} (e : Fault) → ts ≡ x ∷ a
    → opening x.line x.kind ≡ opens_fun → StopsAt (λ k. after_fun x.line k) a e
    → StopsAt (λ xs. items xs) ts e
bad_item_fun {x = x} e q h r = faulty_in (λ k. after_fun x.line k)
    (λ xs f. items (and_item xs (t.fun_item f))) e (in_item_fun q h) r

pub made_item_fun : {x : Token} {ts a b : List Token} {f : Fun} → ts ≡ x ∷ a
    → opening x.line x.kind ≡ opens_fun → Leads (λ k. after_fun x.line k) (λ k. k f) a b
    → Leads (λ xs. items xs) (λ xs. items (and_item xs (t.fun_item f))) ts b
made_item_fun q h r =
    onward (in_item_fun q h) (inside (λ xs f. items (and_item xs (t.fun_item f))) r)

abbrev item_stmt : File → Stmt → State
item_stmt xs s = items (and_item xs (t.stmt_item s))

stmt_of_item : (l : ℕ) (o : Opening) (k : Item → State) → in_file o ≡ true
    → first_item l o k ≡ first_stmt 0 l o (λ s. k (t.stmt_item s))
stmt_of_item l opens_fun k h = cc
stmt_of_item l opens_class k h = cc
stmt_of_item l opens_public k h = cc
stmt_of_item l _ k h = refl

no_end : (k : TokenKind) (xs : File) → is_end k ≡ false → next_end k xs ≡ None
no_end End xs h = cc
no_end _ xs h = refl

in_item_stmt : (x : Token) (ts a : List Token) → ts ≡ x ∷ a
    → in_file (opening x.line x.kind) ≡ true → at_the_end ts ≡ false
    → Leads (λ xs. items xs) (λ xs. a_stmt 0 (item_stmt xs)) ts ts
in_item_stmt x ts a q h g = subst (λ y. Leads (λ xs. items xs) (λ xs. a_stmt 0 (item_stmt xs)) y
    y) (sym q)
    (alike (λ xs. items xs) (λ xs. a_stmt 0 (item_stmt xs)) (x ∷ a) (λ xs. refl) (λ xs.
    ap (λ n. or_else (first_item x.line (opening x.line x.kind) (λ y. items (and_item xs y))) n)
    (no_end x.kind xs (sym (ap at_the_end q) ∙ g))
    ∙ or_none (first_item x.line (opening x.line x.kind) (λ y. items (and_item xs y)))
    ∙ stmt_of_item x.line (opening x.line x.kind) (λ y. items (and_item xs y)) h))

pub bad_item_stmt : {x : Token} {ts a : List Token} (e : Fault) → ts ≡ x ∷ a
    → in_file (opening x.line x.kind) ≡ true → at_the_end ts ≡ false
    → StopsAt (λ k. a_stmt 0 k) ts e → StopsAt (λ xs. items xs) ts e
bad_item_stmt {x = x} {ts = ts} {a = a} e q h g r =
    faulty_in (λ k. a_stmt 0 k) (λ xs. item_stmt xs) e (in_item_stmt x ts a q h g) r

pub made_item_stmt : {x : Token} {ts a b : List Token} {s : Stmt} → ts ≡ x ∷ a
    → in_file (opening x.line x.kind) ≡ true → at_the_end ts ≡ false → Leads (λ k. a_stmt 0 k)
    (λ k. k s) ts b → Leads (λ xs. items xs) (λ xs. items (and_item xs (t.stmt_item s))) ts b
made_item_stmt {x = x} {ts = ts} {a = a} q h g r =
    onward (in_item_stmt x ts a q h g) (inside (λ xs. item_stmt xs) r)

-- ---- a file

end_kind : (k : TokenKind) → is_end k ≡ true → k ≡ End
end_kind End h = refl
end_kind _ h = cc

past_end : {x : Token} {ts a : List Token} → ts ≡ x ∷ a → at_the_end ts ≡ true
    → Leads (λ xs. items xs) (λ xs. done xs) ts a
past_end {x = x} {ts = ts} {a = a} q h = token (λ xs. items xs) (λ xs. done xs) 0
    (then_name q (end_kind x.kind (sym (ap at_the_end q) ∙ h))) (omega arith) (λ l b xs. refl)

past_done : (ts : List Token) → 0 < length ts → StopsAt (λ xs. done xs) ts (Syntax (length ts))
past_done [] h = absurd (omega arith)
past_done (x ∷ ts) h = record { at = λ xs. refl }

pub behind_end : {x : Token} {ts a : List Token} → ts ≡ x ∷ a → at_the_end ts ≡ true
    → 0 < length a → StopsAt (λ xs. items xs) ts (Syntax (length a))
behind_end {a = a} q h p = stops_onward (Syntax (length a)) (past_end q h) (past_done a p)

pub bad_item : {ts a : List Token} {xs : File} (e : Fault) → Leads (λ (k : File). start)
    (λ k. items xs) ts a → StopsAt (λ ys. items ys) a e → StopsAt (λ (k : File). start) ts e
bad_item {xs = xs} e p r = faulty_in (λ ys. items ys) (λ k. xs) e p r

one_item : {ts a b : List Token} {xs : File} {x : Item}
    → Leads (λ (k : File). start) (λ k. items xs) ts a
    → Leads (λ ys. items ys) (λ ys. items (and_item ys x)) a b
    → Leads (λ (k : File). start) (λ k. items (and_item xs x)) ts b
one_item {xs = xs} p r = onward p (inside (λ k. xs) r)

pub item_pushed : {ts a b : List Token} (xs ys : List AnItem) (x : AnItem) → ys ≡ xs ++ x ∷ []
    → Leads (λ (k : File). start) (λ k. items (items_of no_items xs)) ts a
    → Leads (λ z. items z) (λ z. items (and_item z (view_item x))) a b
    → Leads (λ (k : File). start) (λ k. items (items_of no_items ys)) ts b
item_pushed {ts = ts} {b = b} xs ys x e p r = subst
    (λ y. Leads (λ (k : File). start) (λ k. items y) ts b)
    (sym (ap (items_of no_items) e ∙ items_of-append no_items xs x)) (one_item p r)

pub made_file : {ts a : List Token} (xs ys : List AnItem) → ys ≡ xs
    → Leads (λ (k : File). start) (λ k. items (items_of no_items xs)) ts a
    → Leads (λ z. items z) (λ z. done z) a []
    → Leads (λ (k : File). start) (λ k. done (items_of no_items ys)) ts []
made_file {ts = ts} xs ys e p r = subst (λ y.
    Leads (λ (k : File). start) (λ k. done (items_of no_items y)) ts []) (sym e)
    (onward p (inside (λ k. items_of no_items xs) r))
