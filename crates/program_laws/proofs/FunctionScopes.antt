-- The scopes that functions begin with: `this` where they take an object, and their parameters.
use Rattle.std.proofs.Common.{◌≡◌, ℕ, zero, suc, ◌+◌, ◌<◌, ◌≤◌, Bool, true, false, not, List}
use Rattle.std.proofs.Common.{if◌then◌else◌, [], ◌∷◌, ◌++◌, length, take, Option, Some}
use Rattle.std.proofs.Common.{None, slice_get, refl, sym, ap, subst, ◌∙◌, append_assoc, append-nil}
use Rattle.std.proofs.Common.{lt-suc_self, arith}
use Rattle.std.proofs.lemmas.List.{take_at, take_all, take_more, length_push}
use Rattle.std.proofs.lemmas.Option.{slice_get-get_or}
use Rattle.ck_values.specs.declared.kind.Elem.TheVariants as elem
use Rattle.ck_values.specs.declared.kind.Kind.{Kind}
use Rattle.ck_values.specs.declared.kind.Kind.TheVariants.{Void, One}
use Rattle.ck_syntax.specs.Tree as tree
use Rattle.ck_syntax.specs.Tree.{Params, no_params, and_param}
use Rattle.type_table.specs.Answer.{Answer, gives, refused, wrong}
use Rattle.type_table.specs.declared.fault.FaultKind.TheVariants.{Duplicate}
use Rattle.first_walk.specs.FirstWalk.{param_kind, param_kinds}
use Rattle.first_walk.proofs.KnownHeads.{kinds_of}
use Rattle.type_table.specs.Table.{Table, fun_of}
use Rattle.type_table.proofs.Ranges.{Each, Within, many}
use Rattle.first_walk.proofs.TableFacts.{owner}
use Rattle.check_scope.specs.Scope.{Scope, new_scope, or_void, is_declared, with_block, with_last}
use Rattle.check_scope.specs.Scope.{own_with, with_local, this_local}
use Rattle.program_laws.specs.Programs.{with_this, fun_scope, with_param, count, with_params}
use Rattle.expr_laws.proofs.Oks.{ok_then, ok_if}
use Rattle.program_laws.proofs.Parallel.{this_of}
use Rattle.expr_laws.proofs.Premises.{Ok, IsNumber, IsThis, IsClass, IsScope, Grows}

-- growing -----------------------------------------------------------------------------------------

pub grows_same : (s : Scope) → Grows s s
grows_same s =
    record {
      file = refl;
      class = refl;
      fun = refl;
      locals = ([], sym (append-nil s.locals));
      settled = ([], sym (append-nil s.settled));
    }

pub grows_trans : (s u v : Scope) → Grows s u → Grows u v → Grows s v
grows_trans s u v first second = record {
  file = second.file ∙ first.file;
  class = second.class ∙ first.class;
  fun = second.fun ∙ first.fun;
  locals = (
    first.locals.0 ++ second.locals.0,
    second.locals.1 ∙ ap (λ ls. ls ++ second.locals.0) first.locals.1
        ∙ append_assoc s.locals first.locals.0 second.locals.0,
  );
  settled = (
    first.settled.0 ++ second.settled.0,
    second.settled.1 ∙ ap (λ ks. ks ++ second.settled.0) first.settled.1
        ∙ append_assoc s.settled first.settled.0 second.settled.0,
  );
}

-- the first locals stay
pub front_of : (front all : List Kind) → Within front all → take (length front) all ≡ front
front_of front all within =
    ap (take (length front)) within.1 ∙ take_at front within.0 (length front) refl

-- parameters --------------------------------------------------------------------------------------

-- these are declared more, in the same place
pub record Declares (s : Scope) (ks : List Kind) (u : Scope) : Type 0 where
  pub file : u.file ≡ s.file
  pub class : u.class ≡ s.class
  pub fun : u.fun ≡ s.fun
  pub locals : u.locals ≡ s.locals ++ ks
  pub settled : u.settled ≡ s.settled

pub declares_more : (s u : Scope) (n : tree.Name) (js ks : List Kind) (j k : Kind) → Declares s js u
    → k ≡ j → ks ≡ js ++ j ∷ [] → Declares s ks (with_local u n k)
declares_more s u n js ks j k before same are =
    let last : (s.locals ++ js) ++ k ∷ [] ≡ s.locals ++ ks =
    append_assoc s.locals js (k ∷ []) ∙ ap (λ i. s.locals ++ (js ++ i ∷ [])) same
    ∙ ap (λ ls. s.locals ++ ls) (sym are) in
    record {
      file = before.file;
      class = before.class;
      fun = before.fun;
      locals =
          ap (λ ls. ls ++ k ∷ []) before.locals ∙ last;
      settled = before.settled;
    }

-- a function has as many types of parameters as its text
pub count_is : (t : Table) (file : ℕ) (ps : Params) (ks : List Kind)
    → param_kinds t file ps ≡ Some ks → count ps ≡ length ks
count_is t file no_params ks is = let none : ks ≡ [] = cc in sym (ap length none)
count_is t file (and_param ps p) ks is =
    let k = kinds_of (param_kinds t file ps) (param_kind t file p) ks is in
    omega (arith, count_is t file ps k.0 k.2, ap length k.4, length_push k.0 k.1)

-- the type behind so many
pub next_type : (types : List Kind) (n : ℕ) → n < length types
    → take (n + 1) types ≡ take n types ++ or_void (slice_get types n) ∷ []
next_type types n lt =
    take_more types n Void lt
    ∙ ap (λ k. take n types ++ k ∷ []) (sym (ap or_void (slice_get-get_or types n Void lt)))

-- the first so many are declared
pub first_declared : (types : List Kind) (s : Scope) (l : ℕ) (ps : Params)
    → count ps ≤ length types → Ok (Declares s (take (count ps) types)) (with_params types s l ps)
first_declared types s l no_params few =
    record {
      file = refl;
      class = refl;
      fun = refl;
      locals = sym (append-nil s.locals);
      settled = refl;
    }
first_declared types s l (and_param ps p) few =
    let k : Kind = or_void (slice_get types (count ps)) in
    ok_then (Declares s (take (count ps) types)) (Declares s (take (count ps + 1) types))
    (with_params types s l ps) (λ u. with_param u l p.name (or_void (slice_get types (count ps))))
    (first_declared types s l ps (omega (arith, few))) (λ u before.
    ok_if (Declares s (take (count ps + 1) types)) (is_declared u p.name) (wrong u.file l Duplicate)
    (gives (with_local u p.name (or_void (slice_get types (count ps))))) (λ _. tt) (λ _.
    declares_more s u p.name (take (count ps) types) (take (count ps + 1) types) k k before refl
    (next_type types (count ps) (omega (arith, few)))))

-- the parameters are declared with the types of the head
pub params_declared : (types : List Kind) (s : Scope) (l : ℕ) (ps : Params)
    → count ps ≡ length types → Ok (Declares s types) (with_params types s l ps)
params_declared types s l ps is =
    subst (λ ks. Ok (Declares s ks) (with_params types s l ps))
    (take_all (count ps) types (omega (arith, is)))
    (first_declared types s l ps (omega (arith, is)))

-- the object is declared first where there is one
pub fun_scope_declares : (file : ℕ) (class : Option ℕ) (n : ℕ) (is_static : Bool)
    (settled : List (ℕ × Kind))
    → Declares (new_scope file class (Some n) settled) (this_of (owner class is_static))
    (fun_scope file class n is_static settled)
fun_scope_declares file (Some c) n true settled =
    record { file = refl; class = refl; fun = refl; locals = refl; settled = refl }
fun_scope_declares file (Some c) n false settled =
    record { file = refl; class = refl; fun = refl; locals = refl; settled = refl }
fun_scope_declares file None n true settled =
    record { file = refl; class = refl; fun = refl; locals = refl; settled = refl }
fun_scope_declares file None n false settled =
    record { file = refl; class = refl; fun = refl; locals = refl; settled = refl }

-- right scopes ------------------------------------------------------------------------------------

pub each_append : {A : Type 0} (P : A → Type 0) (xs ys : List A) → Each P xs → Each P ys
    → Each P (xs ++ ys)
each_append P [] ys are more = more
each_append P (x ∷ xs) ys are more = (are.0, each_append P xs ys are.1 more)

pub each_map : {A : Type 0} (P Q : A → Type 0) (xs : List A) → ((x : A) → P x → Q x) → Each P xs
    → Each Q xs
each_map P Q [] follows are = tt
each_map P Q (x ∷ xs) follows are = (follows x are.0, each_map P Q xs follows are.1)

pub each_apart : {A : Type 0} (P : A → Type 0) (xs ys : List A) → Each P (xs ++ ys)
    → Each P xs × Each P ys
each_apart P [] ys are = (tt, are)
each_apart P (x ∷ xs) ys are = let parts = each_apart P xs ys are.1 in ((are.0, parts.0), parts.1)

pub ok_both : {A : Type 0} (P Q : A → Type 0) (a : Answer A) → Ok P a → Ok Q a
    → Ok (λ x. P x × Q x) a
ok_both P Q (gives a) one other = (one, other)
ok_both P Q (refused why) one other = tt

pub front_get : {A : Type 0} (xs ys : List A) (i : ℕ) (x : A) → slice_get xs i ≡ Some x
    → slice_get (xs ++ ys) i ≡ Some x
front_get [] ys i x is = absurd (cc)
front_get (y ∷ xs) ys zero x is = is
front_get (y ∷ xs) ys (suc i) x is = front_get xs ys i x is

-- a local more has the next number
module _ (t : Table) (s : Scope) (n : tree.Name) (k : Kind) where
  pub number_stays : (e : tree.Name × ℕ) → IsNumber s e → IsNumber (with_local s n k) e
  number_stays e is = omega (arith, is, length_push s.locals k)

  pub next_number : IsNumber (with_local s n k) (n, length s.locals)
  next_number = omega (arith, length_push s.locals k)

  pub own_are : (blocks : List (List (tree.Name × ℕ))) (own : List (tree.Name × ℕ))
      → Each (IsNumber s) own
      → Each (IsNumber (with_local s n k)) (own_with blocks own (n, length s.locals))
  own_are [] own are =
      each_append (IsNumber (with_local s n k)) own ((n, length s.locals) ∷ [])
      (each_map (IsNumber s) (IsNumber (with_local s n k)) own number_stays are) (next_number, tt)
  own_are (block ∷ blocks) own are =
      each_map (IsNumber s) (IsNumber (with_local s n k)) own number_stays are

  pub blocks_stay : (blocks : List (List (tree.Name × ℕ))) → Each (Each (IsNumber s)) blocks
      → Each (Each (IsNumber (with_local s n k))) blocks
  blocks_stay blocks are =
      each_map (Each (IsNumber s)) (Each (IsNumber (with_local s n k))) blocks
      (λ block. each_map (IsNumber s) (IsNumber (with_local s n k)) block number_stays) are

  pub last_is : (blocks : List (List (tree.Name × ℕ)))
      → Each (Each (IsNumber (with_local s n k))) blocks
      → Each (Each (IsNumber (with_local s n k))) (with_last blocks (n, length s.locals))
  last_is [] are = tt
  last_is (block ∷ []) are = (
    each_append (IsNumber (with_local s n k)) block ((n, length s.locals) ∷ []) are.0
        (next_number, tt),
    tt,
  )
  last_is (block ∷ next ∷ rest) are = (are.0, last_is (next ∷ rest) are.1)

  pub this_stays : (i class : Option ℕ) → IsThis t s i class → IsThis t (with_local s n k) i class
  this_stays None class is = tt
  this_stays (Some i) None is = absurd is
  this_stays (Some i) (Some c) is = (front_get s.locals (k ∷ []) i (One (elem.Class c)) is.0, is.1)

  pub local_is : IsScope t s → IsScope t (with_local s n k)
  local_is is = record {
    own = own_are s.blocks s.own is.own;
    blocks = last_is s.blocks (blocks_stay s.blocks is.blocks);
    class = is.class;
    this = this_stays (this_local t s) s.class is.this;
  }

module _ (t : Table) where
  pub block_is : (s : Scope) → IsScope t s → IsScope t (with_block s)
  block_is s is =
      record {
        own = is.own;
        blocks =
            each_append (Each (IsNumber s)) s.blocks ([] ∷ []) is.blocks (tt, tt);
        class =
            is.class;
        this = is.this;
      }

  -- with parameters a scope stays right
  pub params_are : (types : List Kind) (s : Scope) (l : ℕ) (ps : Params) → IsScope t s
      → Ok (IsScope t) (with_params types s l ps)
  params_are types s l no_params scope = scope
  params_are types s l (and_param ps p) scope =
      ok_then (IsScope t) (IsScope t) (with_params types s l ps)
      (λ u. with_param u l p.name (or_void (slice_get types (count ps))))
      (params_are types s l ps scope) (λ u before.
      ok_if (IsScope t) (is_declared u p.name) (wrong u.file l Duplicate)
      (gives (with_local u p.name (or_void (slice_get types (count ps))))) (λ _. tt) (λ _.
      local_is t u p.name (or_void (slice_get types (count ps))) before))

  -- the scopes of a file's statements, of a class's and of functions
  pub file_scope_is : (file : ℕ) → IsScope t (new_scope file None None [])
  file_scope_is file = record { own = tt; blocks = tt; class = tt; this = tt }

  module _ (settled : List (ℕ × Kind)) where
    pub class_scope_is : (file c : ℕ) → c < many t
        → IsScope t (with_this (new_scope file (Some c) None settled) c)
    class_scope_is file c within =
        record { own = (lt-suc_self 0, tt); blocks = tt; class = within; this = (refl, within) }

    pub this_or_none : (file c n : ℕ) (b : Bool) → c < many t
        → IsThis t (with_this (new_scope file (Some c) (Some n) settled) c)
        (if b then Some 0 else None) (Some c)
    this_or_none file c n true within = (refl, within)
    this_or_none file c n false within = tt

    pub fun_scope_is : (file : ℕ) (class : Option ℕ) (n : ℕ) (is_static : Bool) → IsClass t class
        → (fun_of t n).is_static ≡ is_static → IsScope t (fun_scope file class n is_static settled)
    fun_scope_is file (Some c) n true within is =
        record {
          own = tt;
          blocks = tt;
          class = within;
          this =
              subst (λ b. IsThis t (new_scope file (Some c) (Some n) settled)
              (if not b then Some 0 else None) (Some c)) (sym is) tt;
        }
    fun_scope_is file (Some c) n false within is =
        record {
          own = (lt-suc_self 0, tt);
          blocks = tt;
          class = within;
          this = this_or_none file c n (not (fun_of t n).is_static) within;
        }
    fun_scope_is file None n true within is =
        record { own = tt; blocks = tt; class = tt; this = tt }
    fun_scope_is file None n false within is =
        record { own = tt; blocks = tt; class = tt; this = tt }
