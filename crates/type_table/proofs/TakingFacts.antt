-- The classes that take a name below one are found in each list that has all of them.
use Rattle.std.proofs.Common.{◌≡◌, ℕ, zero, suc, ◌<◌, Bool, true, false, ◌||◌, nat_eq, List, [], ◌∷◌, ◌++◌, length, Option, Some, None, slice_get, refl, sym, ap, ◌∙◌, subst, ◌⊎◌, ⊎_elim, arith}
use Rattle.std.specs.List.{list_any}
use Rattle.std.proofs.lemmas.Bool.{eqb-true, eqb-false, and_parts}
use Rattle.std.proofs.lemmas.Option.{slice_get_within}
use Rattle.ck_syntax.specs.Tree.{Name}
use Rattle.type_table.specs.declared.class.Own.{Own}
use Rattle.type_table.specs.Descendants.{AreAllBelow}
use Rattle.type_table.specs.Finished.{numbers}
use Rattle.type_table.specs.NameClash.{is_other, has_other, stands_below, takes_below, is_taken_below}
use Rattle.type_table.specs.Names.{lookup, is_some}
use Rattle.type_table.specs.Table.{Table, Class, or_no_class, class_of}
use Rattle.type_table.specs.MemberIndex.{IsIn, AreAllWith}
use Rattle.type_table.specs.Taking.{AreAllTaking}
use Rattle.type_table.proofs.OwnerFacts.{in_more, in_last}

-- a number that is sought -------------------------------------------------------------------------

module _ (p : ℕ → Bool) where
  -- one of the list is such
  pub any_in : (xs : List ℕ) (x : ℕ) → IsIn x xs → p x ≡ true → list_any p xs ≡ true
  any_in [] x is such = absurd (cc)
  any_in (y ∷ xs) x is such = go (nat_eq x y) refl (λ later. any_in xs x later such) is
    where
      at_once : (b : Bool) → b ≡ true → b || list_any p xs ≡ true
      at_once true e = refl
      at_once false e = absurd (cc)

      later_on : (b : Bool) → list_any p xs ≡ true → b || list_any p xs ≡ true
      later_on true e = refl
      later_on false e = e

      go : (b : Bool) → nat_eq x y ≡ b → (IsIn x xs → list_any p xs ≡ true) → b || list_any (nat_eq x) xs ≡ true →
          list_any p (y ∷ xs) ≡ true
      go true same later found = at_once (p y) (sym (ap p (eqb-true x y same)) ∙ such)
      go false same later found = later_on (p y) (later found)

  -- where one is such, some number is
  some_of : (xs : List ℕ) → list_any p xs ≡ true → (x : ℕ) × (p x ≡ true)
  some_of [] is = absurd (cc)
  some_of (x ∷ xs) is = go (p x) refl (some_of xs) is
    where
      go : (b : Bool) → p x ≡ b → (list_any p xs ≡ true → (y : ℕ) × (p y ≡ true)) → b || list_any p xs ≡ true →
          (y : ℕ) × (p y ≡ true)
      go true such later found = (x, such)
      go false such later found = later found

  -- two lists that have all that are such
  pub same_any : (xs ys : List ℕ) → ((x : ℕ) → p x ≡ true → IsIn x xs) → ((x : ℕ) → p x ≡ true → IsIn x ys) →
      list_any p xs ≡ list_any p ys
  same_any xs ys in_xs in_ys = go (list_any p xs) (list_any p ys) refl refl
    where
      go : (a b : Bool) → list_any p xs ≡ a → list_any p ys ≡ b → a ≡ b
      go true true one other = refl
      go false false one other = refl
      go true false one other = let x = some_of xs one in sym (any_in ys x.0 (in_ys x.0 x.1) x.1) ∙ other
      go false true one other = let x = some_of ys other in sym (sym (any_in xs x.0 (in_xs x.0 x.1) x.1) ∙ one)

numbers_in : (m d : ℕ) → d < m → IsIn d (numbers m)
numbers_in zero d lt = absurd (omega (arith, lt))
numbers_in (suc m) d lt = go (nat_eq d m) refl (numbers_in m d)
  where
    go : (b : Bool) → nat_eq d m ≡ b → (d < m → IsIn d (numbers m)) → IsIn d (numbers m ++ m ∷ [])
    go true same before = subst (λ e. IsIn e (numbers m ++ m ∷ [])) (sym (eqb-true d m same)) (in_last m (numbers m))
    go false other before = in_more d (numbers m) (m ∷ []) (before (omega (arith, lt, eqb-false d m other)))

-- members -----------------------------------------------------------------------------------------

other_there : (beside_fun : Bool) (o : Option Own) → is_other beside_fun o ≡ true → is_some o ≡ true
other_there beside_fun None is = absurd (cc)
other_there beside_fun (Some o) is = refl

-- only a class has members
class_there : (n : Name) (classes : List Class) (d : ℕ) →
    is_some (lookup n (or_no_class (slice_get classes d)).members) ≡ true → d < length classes
class_there n classes d is = go (slice_get classes d) refl is
  where
    go : (o : Option Class) → slice_get classes d ≡ o → is_some (lookup n (or_no_class o).members) ≡ true →
        d < length classes
    go None at found = absurd (cc)
    go (Some k) at found = slice_get_within classes d k at

no_item : (xs : List ℕ) → length xs ≡ 0 → xs ≡ []
no_item [] none = refl
no_item (x ∷ xs) none = absurd (omega (arith, none))

module _ (t : Table) (n : Name) where
  -- where no class has such a member, none of these has
  pub nobody : (owners : List ℕ) → length owners ≡ 0 → AreAllWith t.classes n owners →
      (beside_fun : Bool) (classes : List ℕ) → false ≡ list_any (has_other t n beside_fun) classes
  nobody owners none are beside_fun [] = refl
  nobody owners none are beside_fun (d ∷ classes) =
      go (has_other t n beside_fun d) refl (nobody owners none are beside_fun classes)
    where
      go : (b : Bool) → has_other t n beside_fun d ≡ b → false ≡ list_any (has_other t n beside_fun) classes →
          false ≡ b || list_any (has_other t n beside_fun) classes
      go true such later =
          let at : IsIn d [] =
          subst (IsIn d) (no_item owners none)
          (are d (other_there beside_fun (lookup n (class_of t d).members) such)) in
          absurd (cc)
      go false such later = later

  module _ (c : ℕ) where
    pub owners_all : (owners : List ℕ) → AreAllWith t.classes n owners → AreAllTaking t c n owners
    owners_all owners are beside_fun d is =
        are d (other_there beside_fun (lookup n (class_of t d).members)
        (and_parts (has_other t n beside_fun d) (stands_below t d c) is).0)

    in_table : (beside_fun : Bool) (d : ℕ) → takes_below t c n beside_fun d ≡ true → d < length t.classes
    in_table beside_fun d is =
        class_there n t.classes d
        (other_there beside_fun (lookup n (class_of t d).members)
        (and_parts (has_other t n beside_fun d) (stands_below t d c) is).0)

    pub below_all : (below : List ℕ) → AreAllBelow t.parents c (length t.classes) below → AreAllTaking t c n below
    below_all below are beside_fun d is =
        are d (in_table beside_fun d is) (and_parts (has_other t n beside_fun d) (stands_below t d c) is).1

    -- either of two lists
    pub either_all : (below owners either : List ℕ) → (either ≡ below) ⊎ (either ≡ owners) →
        AreAllBelow t.parents c (length t.classes) below → AreAllWith t.classes n owners → AreAllTaking t c n either
    either_all below owners either is one other =
        ⊎_elim (λ e. subst (AreAllTaking t c n) (sym e) (below_all below one))
        (λ e. subst (AreAllTaking t c n) (sym e) (owners_all owners other)) is

    -- all that take the name are here
    pub taken_in : (beside_fun : Bool) (classes : List ℕ) → AreAllTaking t c n classes →
        list_any (takes_below t c n beside_fun) classes ≡ is_taken_below t c n beside_fun
    taken_in beside_fun classes are =
        same_any (takes_below t c n beside_fun) classes (numbers (length t.classes)) (are beside_fun)
        (λ d is. numbers_in (length t.classes) d (in_table beside_fun d is))
