-- Scopes stay right as they grow.
use Rattle.std.proofs.Common.{◌≡◌, ℕ, zero, suc, List, [], ◌∷◌, ◌++◌, length, Option, Some, None, refl, sym, ap, ◌∙◌, subst, arith, slice_get, append_assoc, append-nil, length-append}
use Rattle.ck_values.specs.declared.kind.Kind.{Kind}
use Rattle.ck_syntax.specs.Tree.{Name}
use Rattle.type_table.proofs.Ranges.{Each, Within, ValueIn, many}
use Rattle.type_table.specs.Table.{Table}
use Rattle.check_scope.specs.Scope.{Scope, reach, settle, with_block, front, without_block, with_last, own_with, with_local, this_local, in_arguments, behind_arguments}
use Rattle.ck_typed.specs.Tree.{Program}
use Rattle.expr_laws.proofs.Premises.{IsNumber, IsThis, IsScope, Grows, IsSettled, HasSettled, Leads, Ends}

-- lists -----------------------------------------------------------------------------------------

pub each_so : {A : Type 0} (P Q : A → Type 0) (xs : List A) → ((x : A) → P x → Q x) → Each P xs → Each Q xs
each_so P Q [] follows are = tt
each_so P Q (x ∷ xs) follows are = (follows x are.0, each_so P Q xs follows are.1)

pub each_and : {A : Type 0} (P : A → Type 0) (xs : List A) (x : A) → Each P xs → P x → Each P (xs ++ x ∷ [])
each_and P [] x are is = (is, tt)
each_and P (y ∷ ys) x are is = (are.0, each_and P ys x are.1 is)

pub each_front : {A : Type 0} (P : A → Type 0) (xs : List A) → Each P xs → Each P (front xs)
each_front P [] are = tt
each_front P (x ∷ []) are = tt
each_front P (x ∷ y ∷ rest) are = (are.0, each_front P (y ∷ rest) are.1)

pub within_itself : {A : Type 0} (xs : List A) → Within xs xs
within_itself xs = ([], sym (append-nil xs))

pub within_more : {A : Type 0} (xs more : List A) → Within xs (xs ++ more)
within_more xs more = (more, refl)

pub within_trans : {A : Type 0} (xs ys zs : List A) → Within xs ys → Within ys zs → Within xs zs
within_trans xs ys zs first second = (
  first.0 ++ second.0,
  second.1 ∙ ap (λ l. l ++ second.0) first.1
      ∙ append_assoc xs first.0 second.0,
)

-- what holds of all holds of the front
pub each_within : {A : Type 0} (P : A → Type 0) (xs all : List A) → Within xs all → Each P all → Each P xs
each_within {A = A} P xs all within are = go xs within.0 (subst (Each P) within.1 are)
  where
    go : (xs more : List A) → Each P (xs ++ more) → Each P xs
    go [] more are = tt
    go (x ∷ xs) more are = (are.0, go xs more are.1)

-- what stands in the front stands in all
pub found_more : {A : Type 0} (xs more : List A) (i : ℕ) (a : A) → slice_get xs i ≡ Some a
    → slice_get (xs ++ more) i ≡ Some a
found_more [] more i a is = absurd (cc)
found_more (x ∷ xs) more zero a is = is
found_more (x ∷ xs) more (suc i) a is = found_more xs more i a is

pub found_within : {A : Type 0} (xs all : List A) (i : ℕ) (a : A) → Within xs all → slice_get xs i ≡ Some a
    → slice_get all i ≡ Some a
found_within xs all i a within is = subst (λ l. slice_get l i ≡ Some a) (sym within.1) (found_more xs within.0 i a is)

pub found_last : {A : Type 0} (xs : List A) (a : A) → slice_get (xs ++ a ∷ []) (length xs) ≡ Some a
found_last [] a = refl
found_last (x ∷ xs) a = found_last xs a

-- scopes that grow ------------------------------------------------------------------------------

pub grows_refl : (s : Scope) → Grows s s
grows_refl s = record {
  file = refl;
  class = refl;
  fun = refl;
  locals = within_itself s.locals;
  settled = within_itself
      s.settled;
}

pub grows_trans : (s u v : Scope) → Grows s u → Grows u v → Grows s v
grows_trans s u v first second =
    record {
      file = second.file ∙ first.file;
      class = second.class ∙ first.class;
      fun = second.fun
          ∙ first.fun;
      locals = within_trans s.locals u.locals v.locals first.locals second.locals;
      settled = within_trans
          s.settled u.settled v.settled first.settled second.settled;
    }

-- all locals in the end
pub within_grown : {p : Program} (s u : Scope) (all : List Kind) → Grows s u → Leads p u all → Leads p s all
within_grown {p = p} s u all grows leads =
    record {
      locals = within_trans s.locals u.locals all grows.locals leads.locals;
      settled = each_within (IsSettled p)
          s.settled u.settled grows.settled leads.settled;
    }

module _ (t : Table) where
  -- more file variables -----------------------------------------------------------------------

  pub reach_is : (s : Scope) (i : ℕ) → IsScope t s → IsScope t (reach s i)
  reach_is s i is = record { own = is.own; blocks = is.blocks; class = is.class; this = is.this }

  pub reach_grows : (s : Scope) (i : ℕ) → Grows s (reach s i)
  reach_grows s i = record {
    file = refl;
    class = refl;
    fun = refl;
    locals = within_itself s.locals;
    settled =
        within_itself s.settled;
  }

  -- one of them gets its kind
  pub settle_is : (s : Scope) (i : ℕ) (k : Kind) → IsScope t s → IsScope t (settle s i k)
  settle_is s i k is = record { own = is.own; blocks = is.blocks; class = is.class; this = is.this }

  pub settle_grows : (s : Scope) (i : ℕ) (k : Kind) → Grows s (settle s i k)
  settle_grows s i k = record {
    file = refl;
    class = refl;
    fun = refl;
    locals = within_itself s.locals;
    settled =
        within_more s.settled ((i, k) ∷ []);
  }

  -- blocks ------------------------------------------------------------------------------------

  pub with_block_is : (s : Scope) → IsScope t s → IsScope t (with_block s)
  with_block_is s is = record {
    own = is.own;
    blocks = each_and (Each (IsNumber s)) s.blocks [] is.blocks tt;
    class =
        is.class;
    this = is.this;
  }

  pub with_block_grows : (s : Scope) → Grows s (with_block s)
  with_block_grows s = record {
    file = refl;
    class = refl;
    fun = refl;
    locals = within_itself s.locals;
    settled =
        within_itself s.settled;
  }

  pub without_block_is : (s : Scope) → IsScope t s → IsScope t (without_block s)
  without_block_is s is = record {
    own = is.own;
    blocks = each_front (Each (IsNumber s)) s.blocks is.blocks;
    class =
        is.class;
    this = is.this;
  }

  pub without_block_grows : (s : Scope) → Grows s (without_block s)
  without_block_grows s = record {
    file = refl;
    class = refl;
    fun = refl;
    locals = within_itself s.locals;
    settled =
        within_itself s.settled;
  }

  -- arguments of a declaration ----------------------------------------------------------------

  pub in_arguments_is : (s : Scope) (n : Name) → IsScope t s → IsScope t (in_arguments s n)
  in_arguments_is s n is = record { own = is.own; blocks = is.blocks; class = is.class; this = is.this }

  pub in_arguments_grows : (s : Scope) (n : Name) → Grows s (in_arguments s n)
  in_arguments_grows s n = record {
    file = refl;
    class = refl;
    fun = refl;
    locals = within_itself s.locals;
    settled =
        within_itself s.settled;
  }

  pub behind_arguments_is : (s : Scope) → IsScope t s → IsScope t (behind_arguments s)
  behind_arguments_is s is = record { own = is.own; blocks = is.blocks; class = is.class; this = is.this }

  pub behind_arguments_grows : (s : Scope) → Grows s (behind_arguments s)
  behind_arguments_grows s = record {
    file = refl;
    class = refl;
    fun = refl;
    locals = within_itself s.locals;
    settled =
        within_itself s.settled;
  }

  -- a local -----------------------------------------------------------------------------------

  pub with_local_grows : (s : Scope) (n : Name) (k : Kind) → Grows s (with_local s n k)
  with_local_grows s n k = record {
    file = refl;
    class = refl;
    fun = refl;
    locals = within_more s.locals (k ∷ []);
    settled = within_itself s.settled;
  }

  number_more : (s : Scope) (n : Name) (k : Kind) (entry : Name × ℕ) → IsNumber s entry
      → IsNumber (with_local s n k) entry
  number_more s n k entry is = omega (arith, is, length-append s.locals (k ∷ []))

  new_number : (s : Scope) (n : Name) (k : Kind) → IsNumber (with_local s n k) (n, length s.locals)
  new_number s n k = omega (arith, length-append s.locals (k ∷ []))

  own_with_is : (P : Name × ℕ → Type 0) (blocks : List (List (Name × ℕ))) (own : List (Name × ℕ)) (entry : Name × ℕ)
      → Each P own → P entry → Each P (own_with blocks own entry)
  own_with_is P [] own entry are is = each_and P own entry are is
  own_with_is P (block ∷ rest) own entry are is = are

  with_last_is : (P : Name × ℕ → Type 0) (blocks : List (List (Name × ℕ))) (entry : Name × ℕ) → Each (Each P) blocks
      → P entry → Each (Each P) (with_last blocks entry)
  with_last_is P [] entry are is = tt
  with_last_is P (block ∷ []) entry are is = (each_and P block entry are.0 is, tt)
  with_last_is P (block ∷ next ∷ rest) entry are is = (are.0, with_last_is P (next ∷ rest) entry are.1 is)

  this_more : (s : Scope) (k : Kind) (i class : Option ℕ) → IsThis t s i class → (n : Name)
      → IsThis t (with_local s n k) i class
  this_more s k None class is n = tt
  this_more s k (Some i) None is n = is
  this_more s k (Some i) (Some c) is n = (found_more s.locals (k ∷ []) i _ is.0, is.1)

  pub with_local_is : (s : Scope) (n : Name) (k : Kind) → IsScope t s → IsScope t (with_local s n k)
  with_local_is s n k is =
      let Number : Name × ℕ → Type 0 = IsNumber (with_local s n k) in
      let own : Each Number s.own = each_so (IsNumber s) Number s.own (number_more s n k) is.own in
      let blocks : Each (Each Number) s.blocks = each_so (Each (IsNumber s)) (Each Number) s.blocks
      (λ b. each_so (IsNumber s) Number b (number_more s n k)) is.blocks in
      record {
        own = own_with_is Number s.blocks s.own (n, length s.locals) own (new_number s n k);
        blocks = with_last_is Number s.blocks (n, length s.locals) blocks (new_number s n k);
        class = is.class;
        this = this_more s k (this_local t s) s.class is.this n;
      }

  -- the new local stands behind the others
  pub new_local : {p : Program} (s : Scope) (n : Name) (k : Kind) (all : List Kind) → Leads p (with_local s n k) all
      → slice_get all (length s.locals) ≡ Some k
  new_local s n k all within = found_within (s.locals ++ k ∷ []) all (length s.locals) k within.locals
      (found_last s.locals k)

-- what is known of a scope is known of one with more -----------------------------------------------

-- so what is known of it is known of what it grew from
pub leads_of : (p : Program) (t : Table) (s : Scope) (all : List Kind) → Ends p t s all → Leads p s all
leads_of p t s all ends = record {
  locals = ends.locals;
  settled = each_so (HasSettled p t) (IsSettled p) s.settled
      (λ x is. is.0) ends.settled;
}

pub ends_before : (p : Program) (t : Table) (s u : Scope) (all : List Kind) → Grows s u → Ends p t u all
    → Ends p t s all
ends_before p t s u all grows ends =
    record {
      locals = within_trans s.locals u.locals all grows.locals ends.locals;
      kinds = each_within (ValueIn (many t)) s.locals u.locals grows.locals ends.kinds;
      settled = each_within (HasSettled p t) s.settled u.settled grows.settled ends.settled;
    }

-- with the same locals and file variables
pub same_ends : (p : Program) (t : Table) (s u : Scope) (all : List Kind) → u.locals ≡ s.locals → u.settled ≡ s.settled
    → Ends p t s all → Ends p t u all
same_ends p t s u all locals settled ends =
    record {
      locals = subst (λ l. Within l all) (sym locals) ends.locals;
      kinds = subst (Each (ValueIn (many t))) (sym locals) ends.kinds;
      settled = subst (Each (HasSettled p t)) (sym settled) ends.settled;
    }

-- with one local more
pub local_ends : (p : Program) (t : Table) (s : Scope) (n : Name) (k : Kind) (all : List Kind) → ValueIn (many t) k
    → Leads p (with_local s n k) all → Ends p t s all
    → Ends p t (with_local s n k) all
local_ends p t s n k all value leads ends = record {
  locals = leads.locals;
  kinds = each_and (ValueIn (many t)) s.locals
      k ends.kinds value;
  settled = ends.settled;
}

pub each_last : {A : Type 0} (P : A → Type 0) (xs : List A) (x : A) → Each P (xs ++ x ∷ []) → P x
each_last P [] x are = are.0
each_last P (y ∷ xs) x are = each_last P xs x are.1

-- with the kind of one file variable more
pub settle_ends : (p : Program) (t : Table) (s : Scope) (i : ℕ) (k : Kind) (all : List Kind) → ValueIn (many t) k
    → Leads p (settle s i k) all → Ends p t s all
    → Ends p t (settle s i k) all
settle_ends p t s i k all value leads ends =
    record {
      locals = ends.locals;
      kinds = ends.kinds;
      settled = each_and (HasSettled p t) s.settled (i, k) ends.settled
          (each_last (IsSettled p) s.settled (i, k) leads.settled, value);
    }
