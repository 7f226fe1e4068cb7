-- All classes that have a member of a name are among its owners, as members are added.
use Rattle.std.proofs.Common.{◌≡◌, ℕ, ◌<◌, Bool, true, false, ◌||◌, nat_eq, List, [], ◌∷◌, ◌++◌, length, Option, Some, None, Result, Ok, Err, OnOk, OnErr, slice_get, slice_set, if◌then◌else◌, refl, sym, ap, ◌∙◌, subst, ◌⊎◌, inl, inr, ⊎_elim, arith, length-append}
use Rattle.std.specs.List.{list_any}
use Rattle.std.specs.Str.{bytes_eq}
use Rattle.std.proofs.lemmas.Bool.{eq-eqb}
use Rattle.std.proofs.lemmas.List.{length-set}
use Rattle.std.proofs.lemmas.Option.{same_Some}
use Rattle.std.proofs.lemmas.Slice.Eq.{bytes_eq-Decides}
use Rattle.ck_syntax.specs.Tree.{Name}
use Rattle.type_table.specs.declared.class.Own.{Own}
use Rattle.type_table.specs.declared.fault.TypeFault.{TypeFault}
use Rattle.type_table.specs.declared.member_index.MemberIndex.{MemberIndex}
use Rattle.type_table.specs.ClassList.{class_at}
use Rattle.type_table.specs.Lists.{or_none, list_at, and_number}
use Rattle.type_table.specs.Names.{lookup, is_some, and_first}
use Rattle.type_table.specs.Table.{Class, or_no_class, and_own}
use Rattle.type_table.specs.MemberIndex.{IsIn, listed, owners_of, with_owner_at, with_owner, AreOwners, AreKept}
use Rattle.type_table.proofs.ListFacts.{set_keeps, set_cases, push_cases, get_more, get_last, get_set_same, lookup_more, lookup_new, kept_at}

-- numbers in lists --------------------------------------------------------------------------------

pub in_more : (x : ℕ) (xs ys : List ℕ) → IsIn x xs → IsIn x (xs ++ ys)
in_more x [] ys is = absurd (cc)
in_more x (y ∷ xs) ys is = go (nat_eq x y) (in_more x xs ys) is
  where
    go : (b : Bool) → (IsIn x xs → IsIn x (xs ++ ys)) → b || list_any (nat_eq x) xs ≡ true →
        b || list_any (nat_eq x) (xs ++ ys) ≡ true
    go true later at = refl
    go false later at = later at

pub in_last : (x : ℕ) (xs : List ℕ) → IsIn x (xs ++ x ∷ [])
in_last x [] = ap (λ b. b || false) (eq-eqb x x refl)
in_last x (y ∷ xs) = go (nat_eq x y) (in_last x xs)
  where
    go : (b : Bool) → IsIn x (xs ++ x ∷ []) → b || list_any (nat_eq x) (xs ++ x ∷ []) ≡ true
    go true later = refl
    go false later = later

pub number_stays : (lists : List (List ℕ)) (i y j x : ℕ) → IsIn x (list_at lists j) →
    IsIn x (list_at (and_number lists i y) j)
number_stays lists i y j x is =
    kept_at (λ o. IsIn x (or_none o)) lists i j (list_at lists i ++ y ∷ []) (in_more x (list_at lists i) (y ∷ [])) is

pub number_added : (lists : List (List ℕ)) (i y : ℕ) → i < length lists → IsIn y (list_at (and_number lists i y) i)
number_added lists i y lt =
    subst (λ o. IsIn y (or_none o)) (sym (get_set_same lists i (list_at lists i ++ y ∷ []) lt))
    (in_last y (list_at lists i))

-- what is in a list is there among more lists
pub list_stays : (lists more : List (List ℕ)) (j x : ℕ) → IsIn x (list_at lists j) → IsIn x (list_at (lists ++ more) j)
list_stays lists more j x is = go (slice_get lists j) refl is
  where
    go : (o : Option (List ℕ)) → slice_get lists j ≡ o → IsIn x (or_none o) → IsIn x (list_at (lists ++ more) j)
    go None at in_it = absurd (cc)
    go (Some l) at in_it = subst (λ o. IsIn x (or_none o)) (sym (get_more lists more j l at)) in_it

-- names -------------------------------------------------------------------------------------------

module _ {A : Type 0} (m n : Name) (a : A) where
  abbrev nothing : List (Name × A)
  nothing = []

  -- what is found is found already, or is the last
  last_cases : (known : List (Name × A)) (b : A) → lookup m (known ++ (n, a) ∷ []) ≡ Some b →
      (lookup m known ≡ Some b) ⊎ ((m ≡ n) × (a ≡ b))
  last_cases [] b is = go (bytes_eq m n) refl is
    where
      go : (c : Bool) → bytes_eq m n ≡ c → (if c then Some a else None) ≡ Some b →
          (lookup m nothing ≡ Some b) ⊎ ((m ≡ n) × (a ≡ b))
      go true at found = inr ((bytes_eq-Decides m n).0 at, same_Some a b found)
      go false at found = absurd (cc)
  last_cases (e ∷ known) b is = go (bytes_eq m e.0) (last_cases known b) is
    where
      go : (c : Bool) →
          (lookup m (known ++ (n, a) ∷ []) ≡ Some b → (lookup m known ≡ Some b) ⊎ ((m ≡ n) × (a ≡ b))) →
          (if c then Some e.1 else lookup m (known ++ (n, a) ∷ [])) ≡ Some b →
          ((if c then Some e.1 else lookup m known) ≡ Some b) ⊎ ((m ≡ n) × (a ≡ b))
      go true later found = inl found
      go false later found = later found

  abbrev IsFoundOrThis : (is_such : Option A → Bool) → List (Name × A) → Type 0
  IsFoundOrThis is_such known =
      (is_such (lookup m known) ≡ true) ⊎ ((m ≡ n) × (is_such (Some a) ≡ true))

  -- where what is found is such, it is found already, or it is this
  pub first_such : (is_such : Option A → Bool) → is_such None ≡ false → (known : List (Name × A)) →
      is_such (lookup m (and_first n a known)) ≡ true →
      IsFoundOrThis is_such known
  first_such is_such none known is = go (is_some (lookup n known)) is
    where
      at_last : (o : Option A) → lookup m (known ++ (n, a) ∷ []) ≡ o → is_such o ≡ true →
          IsFoundOrThis is_such known
      at_last None at found = let no : false ≡ true = sym none ∙ found in absurd (cc)
      at_last (Some b) at found =
          ⊎_elim (λ old. inl (ap is_such old ∙ found))
          (λ new. inr (new.0, ap (λ x. is_such (Some x)) new.1 ∙ found))
          (last_cases known b at)

      go : (c : Bool) →
          is_such (lookup m (if c then known else known ++ (n, a) ∷ [])) ≡ true →
          IsFoundOrThis is_such known
      go true found = inl found
      go false found = at_last (lookup m (known ++ (n, a) ∷ [])) refl found

-- owners ------------------------------------------------------------------------------------------

abbrev HaveLists : MemberIndex → Type 0
HaveLists ts = (n : Name) (i : ℕ) → lookup n ts.names ≡ Some i → i < length ts.lists

module _ (ts : MemberIndex) (n : Name) (c : ℕ) where
  have_lists : HaveLists ts → HaveLists (with_owner ts n c)
  have_lists have m i is = go (lookup n ts.names) is
    where
      go : (o : Option ℕ) → lookup m (with_owner_at ts n c o).names ≡ Some i → i < length (with_owner_at ts n c o).lists
      go (Some j) found = rw (length-set ts.lists j (list_at ts.lists j ++ c ∷ [])) (have m i found)
      go None found =
          ⊎_elim (λ old. omega (arith, have m i old, length-append ts.lists ((c ∷ []) ∷ [])))
          (λ new. omega (arith, new.1, length-append ts.lists ((c ∷ []) ∷ [])))
          (last_cases m n (length ts.lists) ts.names i found)

  owner_stays : (m : Name) (x : ℕ) → IsIn x (owners_of ts m) → IsIn x (owners_of (with_owner ts n c) m)
  owner_stays m x is = go (lookup n ts.names)
    where
      in_lists : (lists : List (List ℕ)) → ((j : ℕ) → IsIn x (list_at ts.lists j) → IsIn x (list_at lists j)) →
          (o : Option ℕ) → IsIn x (listed ts.lists o) → IsIn x (listed lists o)
      in_lists lists stays None at = absurd (cc)
      in_lists lists stays (Some j) at = stays j at

      in_names : (o : Option ℕ) → lookup m ts.names ≡ o → IsIn x (listed ts.lists o) →
          IsIn x (owners_of (with_owner_at ts n c None) m)
      in_names None at found = absurd (cc)
      in_names (Some j) at found =
          subst (λ o. IsIn x (listed (ts.lists ++ (c ∷ []) ∷ []) o))
          (sym (lookup_more m ts.names ((n, length ts.lists) ∷ []) j at))
          (list_stays ts.lists ((c ∷ []) ∷ []) j x found)

      go : (o : Option ℕ) → IsIn x (owners_of (with_owner_at ts n c o) m)
      go (Some i) = in_lists (and_number ts.lists i c) (λ j. number_stays ts.lists i c j x) (lookup m ts.names) is
      go None = in_names (lookup m ts.names) refl is

  owner_added : HaveLists ts → IsIn c (owners_of (with_owner ts n c) n)
  owner_added have = go (lookup n ts.names) refl
    where
      go : (o : Option ℕ) → lookup n ts.names ≡ o → IsIn c (owners_of (with_owner_at ts n c o) n)
      go (Some i) at =
          subst (λ o. IsIn c (listed (and_number ts.lists i c) o)) (sym at) (number_added ts.lists i c (have n i at))
      go None at =
          subst (λ o. IsIn c (listed (ts.lists ++ (c ∷ []) ∷ []) o)) (sym (lookup_new n ts.names (length ts.lists) at))
          (subst (λ o. IsIn c (or_none o)) (sym (get_last ts.lists (c ∷ []) (length ts.lists) refl)) (in_last c []))

  -- one owner more
  pub more_owners : (classes : List Class) → AreOwners classes ts → AreOwners classes (with_owner ts n c)
  more_owners classes are = record {
    lists = have_lists are.lists;
    all = λ m d is. owner_stays m d (are.all m d is);
  }

  -- the class has one member more
  pub member_taken : (classes : List Class) (o : Own) → c < length classes → AreOwners classes ts →
      AreOwners (slice_set classes c (and_own (class_at classes c) n o)) (with_owner ts n c)
  member_taken classes o lt are = record {
    lists = have_lists are.lists;
    all = λ m d is. set_cases
        (λ e x. is_some (lookup m (or_no_class x).members) ≡ true → IsIn e (owners_of (with_owner ts n c) m)) classes
        c d (and_own (class_at classes c) n o) lt (here m) (λ other. there m d) is;
  }
    where
      there : (m : Name) (d : ℕ) → is_some (lookup m (class_at classes d).members) ≡ true →
          IsIn d (owners_of (with_owner ts n c) m)
      there m d is = owner_stays m d (are.all m d is)

      here : (m : Name) → is_some (lookup m (and_first n o (class_at classes c).members)) ≡ true →
          IsIn c (owners_of (with_owner ts n c) m)
      here m is =
          ⊎_elim (there m c)
          (λ both. subst (λ l. IsIn c (owners_of (with_owner ts n c) l)) (sym both.0) (owner_added are.lists))
          (first_such m n o (λ x. is_some x) refl (class_at classes c).members is)

-- a list more, which is no name's
pub list_kept : (ts us : MemberIndex) (l : List ℕ) → us.names ≡ ts.names → us.lists ≡ ts.lists ++ l ∷ [] → AreKept ts us
list_kept ts us l names lists classes are = record {
  lists = λ n i is. subst (λ x. i < length x) (sym lists)
      (omega (arith, are.lists n i (sym (ap (lookup n) names) ∙ is), length-append ts.lists (l ∷ [])));
  all = λ n d is. subst (IsIn d)
      (sym (ap (λ x. listed x (lookup n us.names)) lists ∙ ap (λ x. listed (ts.lists ++ l ∷ []) (lookup n x)) names))
      (stays n d (lookup n ts.names) (are.all n d is));
}
  where
    stays : (n : Name) (d : ℕ) (o : Option ℕ) → IsIn d (listed ts.lists o) → IsIn d (listed (ts.lists ++ l ∷ []) o)
    stays n d None at = absurd (cc)
    stays n d (Some j) at = list_stays ts.lists (l ∷ []) j d at

-- classes -----------------------------------------------------------------------------------------

-- a class changes, but not its members
pub same_owners : (classes : List Class) (ts : MemberIndex) (c : ℕ) (x : Class) →
    x.members ≡ (class_at classes c).members → AreOwners classes ts → AreOwners (slice_set classes c x) ts
same_owners classes ts c x same are = record {
  lists = are.lists;
  all = λ n d is. are.all n d
      (sym (set_keeps (λ o. is_some (lookup n (or_no_class o).members)) classes c d x
      (ap (λ ms. is_some (lookup n ms)) same)) ∙ is);
}

-- a class has one member more, where there is memory
pub after_adding : (classes : List Class) (ts us : MemberIndex) (c : ℕ) (n : Name) (o : Own)
    (r : Result (Unit {0}) TypeFault) (was x : Class) →
    c < length classes → slice_get classes c ≡ Some was → us ≡ with_owner ts n c →
    OnOk r (x ≡ and_own was n o) → OnErr r (x ≡ was) → AreOwners classes ts →
    AreOwners (slice_set classes c x) us
after_adding classes ts us c n o r was x lt at with done kept are =
    subst (AreOwners (slice_set classes c x)) (sym with) (go r done kept)
  where
    go : (r : Result (Unit {0}) TypeFault) → OnOk r (x ≡ and_own was n o) → OnErr r (x ≡ was) →
        AreOwners (slice_set classes c x) (with_owner ts n c)
    go (Ok u) done kept =
        subst (λ k. AreOwners (slice_set classes c k) (with_owner ts n c))
        (sym (done ∙ sym (ap (λ k. and_own (or_no_class k) n o) at))) (member_taken ts n c classes o lt are)
    go (Err why) done kept =
        same_owners classes (with_owner ts n c) c x (ap (λ (k : Class). k.members) (kept ∙ sym (ap or_no_class at)))
        (more_owners ts n c classes are)

-- a class more has no member
pub new_owner : (classes : List Class) (ts : MemberIndex) (x : Class) → x.members ≡ [] → AreOwners classes ts →
    AreOwners (classes ++ x ∷ []) ts
new_owner classes ts x none are = record {
  lists = are.lists;
  all = λ n d is. push_cases
      (λ o. is_some (lookup n (or_no_class o).members) ≡ true → IsIn d (owners_of ts n)) classes x d (are.all n d)
      (λ some. let no : false ≡ true = sym (ap (λ ms. is_some (lookup n ms)) none) ∙ some in absurd (cc)) is;
}
