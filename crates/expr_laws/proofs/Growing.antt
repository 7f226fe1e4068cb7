-- An expression leaves the scope as it was, but for new locals in its innermost level.
use Rattle.std.proofs.Common.{◌≡◌, ℕ, suc, ◌+◌, Bool, true, false, ◌&&◌, if◌then◌else◌, not, List, [], ◌∷◌, length, Option, Some, None, refl, ap, ◌∙◌, arith}
use Rattle.ck_values.specs.declared.kind.Kind.{Kind}
use Rattle.ck_syntax.specs.declared.declaration.Base.{Base}
use Rattle.ck_syntax.specs.declared.declaration.DeclHead.{DeclHead}
use Rattle.ck_syntax.specs.declared.operator.ChuckOp.{ChuckOp}
use Rattle.ck_syntax.specs.declared.operator.ChuckOp.TheVariants as chuck_op
use Rattle.ck_syntax.specs.Tree as tree
use Rattle.ck_syntax.specs.Tree.{Name, Expr, expr_line, Exprs, no_exprs, and_expr, Brackets, no_brackets, and_empty, and_size, Declr, declr, declr_with, declr_name}
use Rattle.std.specs.Prelude.{is_some}
use Rattle.ck_typed.specs.declared.expr.Spot.TheVariants as spot
use Rattle.ck_typed.specs.Tree as typed
use Rattle.type_table.specs.Answer.{Answer, gives, refused, and_then, wrong}
use Rattle.type_table.specs.declared.fault.FaultKind.TheVariants.{NotCallable, BadPlace}
use Rattle.type_table.specs.declared.table.Variable.{Variable}
use Rattle.type_table.specs.Table.{Table, variable_named}
use Rattle.type_rules.specs.Operators.{are_references}
use Rattle.type_table.specs.declared.types.Named.{Named}
use Rattle.type_table.specs.Types.{named_by, is_unknown, written_kind}
use Rattle.check_scope.specs.Expressions as e
use Rattle.check_scope.specs.Expressions.{Making, with_sizes, with_arguments, Meant, Valued, AllValued, and_valued, in_scope, value_of, meaning, values, sizes}
use Rattle.check_scope.specs.Denotations as means
use Rattle.check_scope.specs.Denotations.{Typed, Denotation, as_value}
use Rattle.check_scope.specs.Scope.{Scope, is_empty, is_declared, with_last, with_local, reach, settle, kind_now, declares_globals, settles, in_arguments, behind_arguments}
use Rattle.expr_laws.proofs.Oks.{ok_if, ok_map}
use Rattle.expr_laws.proofs.Premises.{Ok, Grows}
use Rattle.expr_laws.proofs.Settling.{Settles, as_before, one_more, settles_trans}
use Rattle.expr_laws.proofs.ScopeLaws.{grows_refl, grows_trans, reach_grows, settle_grows, with_local_grows, in_arguments_grows, behind_arguments_grows}

-- it grew, and stands in as many blocks as before; where no file variables are declared none was
-- settled; and only those were that had no kind
abbrev pub Keeps : Table → (before behind : Scope) → Type 0
Keeps t s u =
    Grows s u × (length u.blocks ≡ length s.blocks) × (settles s ≡ false → u.settled ≡ s.settled)
    × Settles t s.settled u.settled

empty_by_length : {A : Type 0} (xs ys : List A) → length xs ≡ length ys → is_empty xs ≡ is_empty ys
empty_by_length [] [] same = refl
empty_by_length [] (y ∷ ys) same = absurd (omega (arith, same))
empty_by_length (x ∷ xs) [] same = absurd (omega (arith, same))
empty_by_length (x ∷ xs) (y ∷ ys) same = refl

-- so what is declared in it is what was declared
pub same_globals : {t : Table} (s u : Scope) → Keeps t s u → declares_globals u ≡ declares_globals s
same_globals s u keeps = ap (λ f. not (is_some f) && is_empty u.blocks) keeps.0.fun
    ∙ ap (λ b. not (is_some s.fun) && b) (empty_by_length u.blocks s.blocks keeps.1)

pub same_settles : {t : Table} (s u : Scope) → Keeps t s u → settles u ≡ settles s
same_settles s u keeps = ap (λ b. b && not (is_some u.class)) (same_globals s u keeps)
    ∙ ap (λ c. declares_globals s && not (is_some c)) keeps.0.class

pub keeps_refl : {t : Table} (s : Scope) → Keeps t s s
keeps_refl s = (grows_refl s, refl, λ none. refl, as_before)

pub keeps_trans : {t : Table} (s u v : Scope) → Keeps t s u → Keeps t u v → Keeps t s v
keeps_trans s u v first second = (
  grows_trans s u v first.0 second.0,
  second.1 ∙ first.1,
  λ none. second.2 (same_settles s u first ∙ none) ∙ first.2 none,
  settles_trans first.3 second.3,
)

last_length : (blocks : List (List (Name × ℕ))) (entry : Name × ℕ) → length (with_last blocks entry) ≡ length blocks
last_length [] entry = refl
last_length (block ∷ []) entry = refl
last_length (block ∷ next ∷ rest) entry = ap suc (last_length (next ∷ rest) entry)

pub local_keeps : (t : Table) (s : Scope) (n : Name) (k : Kind) → Keeps t s (with_local s n k)
local_keeps t s n k = (with_local_grows t s n k, last_length s.blocks (n, length s.locals), λ none. refl, as_before)

reach_keeps : (t : Table) (s : Scope) (i : ℕ) → Keeps t s (reach s i)
reach_keeps t s i = (reach_grows t s i, refl, λ none. refl, as_before)

pub in_arguments_keeps : (t : Table) (s : Scope) (n : Name) → Keeps t s (in_arguments s n)
in_arguments_keeps t s n = (in_arguments_grows t s n, refl, λ none. refl, as_before)

pub behind_arguments_keeps : (t : Table) (s : Scope) → Keeps t s (behind_arguments s)
behind_arguments_keeps t s = (behind_arguments_grows t s, refl, λ none. refl, as_before)

-- answers -----------------------------------------------------------------------------------------

abbrev pub MeantKeeps : Table → Scope → Meant → Type 0
MeantKeeps t s m = Keeps t s m.scope

abbrev pub ValuedKeeps : Table → Scope → Valued → Type 0
ValuedKeeps t s x = Keeps t s x.scope

abbrev pub AllKeep : Table → Scope → AllValued → Type 0
AllKeep t s xs = Keeps t s xs.scope

in_scope_keeps : {t : Table} (s u : Scope) (a : Answer Denotation) → Keeps t s u → Ok (MeantKeeps t s) (in_scope u a)
in_scope_keeps s u (gives m) keeps = keeps
in_scope_keeps s u (refused why) keeps = tt

valued_keeps : {t : Table} (s : Scope) (l : ℕ) (m : Meant) → Keeps t s m.scope → (a : Answer Typed)
    → Ok (ValuedKeeps t s) (and_then a (λ x. gives (record { typed = x; scope = m.scope })))
valued_keeps s l m keeps (gives x) = keeps
valued_keeps s l m keeps (refused why) = tt

pub value_keeps : (t : Table) (s : Scope) (l : ℕ) (a : Answer Meant) → Ok (MeantKeeps t s) a
    → Ok (ValuedKeeps t s) (value_of l a)
value_keeps t s l (gives m) keeps = valued_keeps s l m keeps (as_value m.scope l m.means)
value_keeps t s l (refused why) keeps = tt

-- after one that kept the scope
after : (t : Table) (s : Scope) (a : Answer Meant) (f : Meant → Answer Meant) → Ok (MeantKeeps t s) a
    → ((m : Meant) → Ok (MeantKeeps t m.scope) (f m)) → Ok (MeantKeeps t s) (and_then a f)
after t s (gives m) f keeps next = ok_more s m.scope keeps (f m) (next m)
  where
    ok_more : (s u : Scope) → Keeps t s u → (a : Answer Meant) → Ok (MeantKeeps t u) a → Ok (MeantKeeps t s) a
    ok_more s u first (gives m) second = keeps_trans s u m.scope first second
    ok_more s u first (refused why) second = tt
after t s (refused why) f keeps next = tt

after_value : (t : Table) (s : Scope) (a : Answer Valued) (f : Valued → Answer Meant) → Ok (ValuedKeeps t s) a
    → ((x : Valued) → Ok (MeantKeeps t x.scope) (f x)) → Ok (MeantKeeps t s) (and_then a f)
after_value t s (gives x) f keeps next = ok_more s x.scope keeps (f x) (next x)
  where
    ok_more : (s u : Scope) → Keeps t s u → (a : Answer Meant) → Ok (MeantKeeps t u) a → Ok (MeantKeeps t s) a
    ok_more s u first (gives m) second = keeps_trans s u m.scope first second
    ok_more s u first (refused why) second = tt
after_value t s (refused why) f keeps next = tt

after_all : (t : Table) (s : Scope) (a : Answer AllValued) (f : AllValued → Answer Meant) → Ok (AllKeep t s) a
    → ((xs : AllValued) → Ok (MeantKeeps t xs.scope) (f xs)) → Ok (MeantKeeps t s) (and_then a f)
after_all t s (gives xs) f keeps next = ok_more s xs.scope keeps (f xs) (next xs)
  where
    ok_more : (s u : Scope) → Keeps t s u → (a : Answer Meant) → Ok (MeantKeeps t u) a → Ok (MeantKeeps t s) a
    ok_more s u first (gives m) second = keeps_trans s u m.scope first second
    ok_more s u first (refused why) second = tt
after_all t s (refused why) f keeps next = tt

-- declarations ------------------------------------------------------------------------------------

variable_keeps : (t : Table) (s : Scope) (l : ℕ) (h : DeclHead) (making : Making) (v : Option Variable)
    → Ok (MeantKeeps t s) (e.declared_variable t s l h making v)
variable_keeps t s l h making None = tt
variable_keeps t s l h making (Some v) = in_scope_keeps s (reach s (v.index + 1)) _ (reach_keeps t s (v.index + 1))

global_keeps : (t : Table) (s : Scope) (l : ℕ) (h : DeclHead) (n : Name) (making : Making) (class : Option ℕ)
    → Ok (MeantKeeps t s) (e.declared_global t s l h n making class)
global_keeps t s l h n making None = variable_keeps t s l h making (variable_named t s.file n)
global_keeps t s l h n making (Some c) = in_scope_keeps s s _ (keeps_refl s)

declared_local_keeps : (t : Table) (s : Scope) (l : ℕ) (h : DeclHead) (n : Name) (making : Making) (k : Option Kind)
    → Ok (MeantKeeps t s) (e.declared_local t s l h n making k)
declared_local_keeps t s l h n making None = tt
declared_local_keeps t s l h n making (Some k) =
    ok_if (MeantKeeps t s) (not (e.sizes_are_ints making)) _ _ (λ is. tt)
    (λ is. go (e.declared_at t s l (spot.Local (length s.locals)) typed.no_exprs h.is_reference k making))
  where
    go : (a : Answer Denotation) → Ok (MeantKeeps t s)
        (and_then a (λ m. if e.has_place h making then gives (record { means = m; scope = with_local s n k }) else wrong
        s.file l BadPlace))
    go (gives m) = ok_if (MeantKeeps t s) (e.has_place h making) _ _ (λ so. local_keeps t s n k) (λ so. tt)
    go (refused why) = tt

declared_as_keeps : (t : Table) (s : Scope) (l : ℕ) (h : DeclHead) (x : Declr) (making : Making) (named : Named)
    → Ok (MeantKeeps t s) (e.declared_as t s l h x making named)
declared_as_keeps t s l h x making named =
    ok_if (MeantKeeps t s) (declares_globals s) _ _
    (λ is. ok_if (MeantKeeps t s) (e.sizes_are_ints making) _ _
    (λ so. global_keeps t s l h (declr_name x) making s.class) (λ so. tt))
    (λ is. ok_if (MeantKeeps t s) (is_unknown named) _ _ (λ so. tt)
    (λ so. ok_if (MeantKeeps t s) (is_declared s (declr_name x)) _ _ (λ it. tt)
    (λ it. declared_local_keeps t s l h (declr_name x) making (written_kind h named x))))

declared_with_keeps : (t : Table) (s : Scope) (l : ℕ) (h : DeclHead) (x : Declr) (making : Making) (base : Option Base)
    → Ok (MeantKeeps t s) (e.declared_with t s l h x making base)
declared_with_keeps t s l h x making None = ok_if (MeantKeeps t s)
    (not (declares_globals s) && is_declared s (declr_name x)) _ _ (λ is. tt) (λ is. keeps_refl s)
declared_with_keeps t s l h x making (Some base) = declared_as_keeps t s l h x making (named_by t s.file base)

pub declaration_keeps : (t : Table) (s : Scope) (l : ℕ) (h : DeclHead) (x : Declr) (making : Making)
    → Ok (MeantKeeps t s) (e.declaration_meaning t s l h x making)
declaration_keeps t s l h x making = declared_with_keeps t s l h x making h.base

-- a value to a declaration with `auto` ------------------------------------------------------------

settle_keeps : (t : Table) (s : Scope) (n : Name) (v : Variable) (k : Kind) → settles s ≡ true
    → variable_named t s.file n ≡ Some v
    → means.is_void (kind_now s v) ≡ true → e.is_no_type k ≡ false → Keeps t s (settle s v.index k)
settle_keeps t s n v k is named void some = (
  settle_grows t s v.index k,
  refl,
  λ none. absurd (cc (is, none)),
  one_more
      s.file n v k as_before named void some,
)

auto_variable_keeps : (t : Table) (s : Scope) (l k : ℕ) (x : Typed) (n : Name) (v : Option Variable) → settles s ≡ true
    → variable_named t s.file n ≡ v
    → e.is_no_type x.kind ≡ false → Ok (MeantKeeps t s) (e.auto_variable s l k x v)
auto_variable_keeps t s l k x n None here named some = tt
auto_variable_keeps t s l k x n (Some v) here named some =
    ok_if (MeantKeeps t s) (means.is_void (kind_now s v)) _ _ (λ is. settle_keeps t s n v x.kind here named is some)
    (λ is. tt)

auto_global_keeps : (t : Table) (s : Scope) (l k : ℕ) (x : Typed) (n : Name) (class : Option ℕ) → s.class ≡ class
    → declares_globals s ≡ true
    → e.is_no_type x.kind ≡ false → Ok (MeantKeeps t s) (e.auto_global t s l k x n class)
auto_global_keeps t s l k x n None same global some =
    auto_variable_keeps t s l k x n (variable_named t s.file n)
    (ap (λ b. b && not (is_some s.class)) global ∙ ap (λ c. not (is_some c)) same) refl some
auto_global_keeps t s l k x n (Some c) same global some = tt

auto_assigned_keeps : (t : Table) (s : Scope) (l k : ℕ) (r : Bool) (x : Typed) (n : Name) (has_form : Bool)
    → Ok (MeantKeeps t s) (e.auto_assigned t s l k r x n has_form)
auto_assigned_keeps t s l k r x n has_form =
    ok_if (MeantKeeps t s) (e.is_no_type x.kind) _ _ (λ is. tt)
    (λ is. ok_if (MeantKeeps t s) (not has_form) _ _ (λ so. tt)
    (λ so. ok_if (MeantKeeps t s) (not r && are_references x.kind) _ _ (λ it. tt)
    (λ it. ok_if (MeantKeeps t s) (declares_globals s) _ _
    (λ global. auto_global_keeps t s l k x n s.class refl global is)
    (λ local. ok_if (MeantKeeps t s) (is_declared s n) _ _ (λ taken. tt) (λ free. local_keeps t s n x.kind)))))

pub auto_keeps : (t : Table) (s : Scope) (l k : ℕ) (o : ChuckOp) (x : Typed) (n : Name) (has_form : Bool)
    → Ok (MeantKeeps t s) (e.auto_chucked t s l k o x n has_form)
auto_keeps t s l k chuck_op.Chuck x n has_form = auto_assigned_keeps t s l k false x n has_form
auto_keeps t s l k chuck_op.Assign x n has_form = auto_assigned_keeps t s l k true x n has_form
auto_keeps t s l k _ x n has_form = tt

chucked_keeps : (t : Table) (s : Scope) (l : ℕ) (o : ChuckOp) (x : Typed) (b : Expr) (m : Denotation)
    → Ok (MeantKeeps t s) (e.chucked t s l o x b m)
chucked_keeps t s l o x b (means.an_auto n has_form) = auto_keeps t s l (expr_line b) o x n has_form
chucked_keeps t s l o x b (means.value y) = in_scope_keeps s s _ (keeps_refl s)
chucked_keeps t s l o x b (means.at spot address k) = in_scope_keeps s s _ (keeps_refl s)
chucked_keeps t s l o x b (means.callable c) = in_scope_keeps s s _ (keeps_refl s)
chucked_keeps t s l o x b (means.a_type c) = in_scope_keeps s s _ (keeps_refl s)
chucked_keeps t s l o x b (means.declared d) = in_scope_keeps s s _ (keeps_refl s)

-- all expressions ---------------------------------------------------------------------------------

module _ (t : Table) where
  -- one value more
  and_keeps : (s : Scope) (a : Answer AllValued) (x : Expr) → Ok (AllKeep t s) a
      → ((u : Scope) → Ok (MeantKeeps t u) (meaning t u x))
      → Ok (AllKeep t s) (and_then a (λ xs. and_then (value_of (expr_line x) (meaning t xs.scope x))
      (λ y. gives (and_valued xs y))))
  and_keeps s (gives xs) x keeps next = go (value_of (expr_line x) (meaning t xs.scope x))
      (value_keeps t xs.scope (expr_line x) (meaning t xs.scope x) (next xs.scope))
    where
      go : (b : Answer Valued) → Ok (ValuedKeeps t xs.scope) b
          → Ok (AllKeep t s) (and_then b (λ y. gives (and_valued xs y)))
      go (gives y) more = keeps_trans s xs.scope y.scope keeps more
      go (refused why) more = tt
  and_keeps s (refused why) x keeps next = tt

  mutual
    pub meaning_keeps : (s : Scope) (x : Expr) → Ok (MeantKeeps t s) (meaning t s x)
    meaning_keeps s (tree.int l v) = keeps_refl s
    meaning_keeps s (tree.float l v) = keeps_refl s
    meaning_keeps s (tree.text l v) = keeps_refl s
    meaning_keeps s (tree.name l n) = in_scope_keeps s s _ (keeps_refl s)
    meaning_keeps s (tree.constant l c) = in_scope_keeps s s _ (keeps_refl s)
    meaning_keeps s (tree.time_unit l u) = keeps_refl s
    meaning_keeps s (tree.paren l x) = after_value t s _ _ (value_keeps t s (expr_line x) _ (meaning_keeps s x))
        (λ y. keeps_refl y.scope)
    meaning_keeps s (tree.array l xs) = after_all t s _ _ (values_keep s xs)
        (λ ys. in_scope_keeps ys.scope ys.scope _ (keeps_refl ys.scope))
    meaning_keeps s (tree.call l f xs) =
        after t s _ _ (meaning_keeps s f) (λ m. after_all t m.scope _ _ (values_keep m.scope xs)
        (λ ys. in_scope_keeps ys.scope ys.scope _ (keeps_refl ys.scope)))
    meaning_keeps s (tree.index l a i) =
        after_value t s _ _ (value_keeps t s (expr_line a) _ (meaning_keeps s a)) (λ x.
        after_value t x.scope _ _ (value_keeps t x.scope (expr_line i) _ (meaning_keeps x.scope i))
        (λ y. in_scope_keeps y.scope y.scope _ (keeps_refl y.scope)))
    meaning_keeps s (tree.member l o n) = after t s _ _ (meaning_keeps s o)
        (λ m. in_scope_keeps m.scope m.scope _ (keeps_refl m.scope))
    meaning_keeps s (tree.postfix l x o) = after t s _ _ (meaning_keeps s x)
        (λ m. in_scope_keeps m.scope m.scope _ (keeps_refl m.scope))
    meaning_keeps s (tree.dur l x d) =
        after_value t s _ _ (value_keeps t s (expr_line x) _ (meaning_keeps s x)) (λ x.
        after_value t x.scope _ _ (value_keeps t x.scope (expr_line d) _ (meaning_keeps x.scope d))
        (λ y. in_scope_keeps y.scope y.scope _ (keeps_refl y.scope)))
    meaning_keeps s (tree.prefix l o x) = after t s _ _ (meaning_keeps s x)
        (λ m. in_scope_keeps m.scope m.scope _ (keeps_refl m.scope))
    meaning_keeps s (tree.new l b xs) = after_all t s _ _ (values_keep s xs)
        (λ ys. in_scope_keeps ys.scope ys.scope _ (keeps_refl ys.scope))
    meaning_keeps s (tree.new_with l b xs) = after_all t s _ _ (values_keep s xs)
        (λ ys. in_scope_keeps ys.scope ys.scope _ (keeps_refl ys.scope))
    meaning_keeps s (tree.spork l (tree.call k f xs)) =
        after t s _ _ (meaning_keeps s f) (λ m. after_all t m.scope _ _ (values_keep m.scope xs)
        (λ ys. in_scope_keeps ys.scope ys.scope _ (keeps_refl ys.scope)))
    meaning_keeps s (tree.spork l x) = after_value t s (value_of (expr_line x) (meaning t s x))
        (λ y. wrong s.file l NotCallable) (value_keeps t s (expr_line x) (meaning t s x) (meaning_keeps s x)) (λ y. tt)
    meaning_keeps s (tree.cast l x k) = after_value t s _ _ (value_keeps t s (expr_line x) _ (meaning_keeps s x))
        (λ y. in_scope_keeps y.scope y.scope _ (keeps_refl y.scope))
    meaning_keeps s (tree.binary l a o b) =
        after_value t s _ _ (value_keeps t s (expr_line a) _ (meaning_keeps s a)) (λ x.
        after_value t x.scope _ _ (value_keeps t x.scope (expr_line b) _ (meaning_keeps x.scope b))
        (λ y. in_scope_keeps y.scope y.scope _ (keeps_refl y.scope)))
    meaning_keeps s (tree.choice l c a b) =
        after_value t s _ _ (value_keeps t s (expr_line c) _ (meaning_keeps s c)) (λ x.
        after_value t x.scope _ _ (value_keeps t x.scope (expr_line a) _ (meaning_keeps x.scope a)) (λ y.
        after_value t y.scope _ _ (value_keeps t y.scope (expr_line b) _ (meaning_keeps y.scope b))
        (λ z. in_scope_keeps z.scope z.scope _ (keeps_refl z.scope))))
    meaning_keeps s (tree.declare l h (declr n bs)) = after_all t s _ _ (sizes_keep s bs)
        (λ xs. declaration_keeps t xs.scope l h (declr n bs) (with_sizes xs.typed))
    meaning_keeps s (tree.declare l h (declr_with n es)) =
        let inner = in_arguments s n in
        after_all t s _ _
        (ok_map (AllKeep t inner) (AllKeep t s) (values t inner es)
        (λ xs keeps. keeps_trans s inner xs.scope (in_arguments_keeps t s n) keeps) (values_keep inner es))
        (λ xs. let behind = behind_arguments xs.scope in
        ok_map (MeantKeeps t behind) (MeantKeeps t xs.scope) _
        (λ m keeps. keeps_trans xs.scope behind m.scope (behind_arguments_keeps t xs.scope) keeps)
        (declaration_keeps t behind l h (declr_with n es) (with_arguments xs.typed)))
    meaning_keeps s (tree.chuck l a o b) =
        after_value t s _ _ (value_keeps t s (expr_line a) _ (meaning_keeps s a)) (λ x.
        after t x.scope _ _ (meaning_keeps x.scope b) (λ m. chucked_keeps t m.scope l o x.typed b m.means))

    pub values_keep : (s : Scope) (xs : Exprs) → Ok (AllKeep t s) (values t s xs)
    values_keep s no_exprs = keeps_refl s
    values_keep s (and_expr xs x) = and_keeps s (values t s xs) x (values_keep s xs) (λ u. meaning_keeps u x)

    pub sizes_keep : (s : Scope) (bs : Brackets) → Ok (AllKeep t s) (sizes t s bs)
    sizes_keep s no_brackets = keeps_refl s
    sizes_keep s (and_empty bs) = sizes_keep s bs
    sizes_keep s (and_size bs x) = and_keeps s (sizes t s bs) x (sizes_keep s bs) (λ u. meaning_keeps u x)
