-- All classes below one are in its list.
use Rattle.std.proofs.Common.{◌≡◌, ℕ, zero, suc, ◌+◌, ◌-◌, ◌<◌, ◌≤◌, Bool, true, false, ◌||◌, nat_eq, nat_lt, List, [], ◌∷◌, ◌++◌, length, drop, Option, Some, None, Result, Ok, Err, IfSome, OnOk, slice_get, if◌then◌else◌, refl, sym, ap, ◌∙◌, subst, arith}
use Rattle.std.specs.List.{list_any}
use Rattle.std.specs.Option.{option_map}
use Rattle.std.proofs.lemmas.Bool.{ltb-true, eqb-true, eqb-false, and_parts, or_right}
use Rattle.std.proofs.lemmas.List.{length-set}
use Rattle.std.proofs.lemmas.Option.{slice_get_within}
use Rattle.ck_base.specs.declared.limits.TheConstants.{MAX_ANCESTORS}
use Rattle.type_rules.specs.Fitting.{parent_or}
use Rattle.type_table.specs.Descendants.{ancestors_by, ArePut, are_before, AreAllBelow, AreListed, AreBelowLists}
use Rattle.type_table.specs.Lists.{or_none, list_at, and_number}
use Rattle.type_table.specs.Table.{line_by, line_within}
use Rattle.type_table.specs.MemberIndex.{IsIn}
use Rattle.type_table.proofs.OwnerFacts.{number_stays, number_added}

-- a class is put into the lists of its ancestors --------------------------------------------------

module _ (first d : ℕ) where
  pub none_put : (lists : List (List ℕ)) → ArePut lists lists first d []
  none_put lists = record {
    many = refl;
    kept = λ i x is. is;
    put = λ i lt is. absurd (cc);
  }

  only : (x c : ℕ) → IsIn x (c ∷ []) → x ≡ c
  only x c is = go (nat_eq x c) refl is
    where
      go : (b : Bool) → nat_eq x c ≡ b → b || false ≡ true → x ≡ c
      go true at found = eqb-true x c at
      go false at found = absurd (cc)

  -- an ancestor before the first one has no list
  pub put_before : (lists : List (List ℕ)) (c : ℕ) → c < first → ArePut lists lists first d (c ∷ [])
  put_before lists c lt = record {
    many = refl;
    kept = λ i x is. is;
    put = λ i few is. absurd (omega (arith, lt, only (first + i) c is));
  }

  put_in : (lists : List (List ℕ)) (c : ℕ) → first ≤ c →
      ArePut lists (and_number lists (c - first) d) first d (c ∷ [])
  put_in lists c le = record {
    many = length-set lists (c - first) (list_at lists (c - first) ++ d ∷ []);
    kept = number_stays lists (c - first) d;
    put = λ i lt is. there i lt (only (first + i) c is);
  }
    where
      there : (i : ℕ) → i < length lists → first + i ≡ c →
          IsIn d (list_at (and_number lists (c - first) d) i)
      there i lt at =
          subst (λ j. IsIn d (list_at (and_number lists j d) i)) (omega (arith, at))
          (number_added lists i d lt)

  pub put_on_ok : {A E : Type 0} (r : Result A E) (old new : List (List ℕ)) (c : ℕ) → first ≤ c →
      OnOk r (new ≡ and_number old (c - first) d) → OnOk r (ArePut old new first d (c ∷ []))
  put_on_ok (Ok a) old new c le is =
      subst (λ lists. ArePut old lists first d (c ∷ [])) (sym is) (put_in old c le)
  put_on_ok (Err e) old new c le is = tt

  -- into that of one, and then of those above
  pub put_then : (a b e : List (List ℕ)) (c : ℕ) (above : List ℕ) → ArePut a b first d (c ∷ []) →
      ArePut b e first d above → ArePut a e first d (c ∷ above)
  put_then a b e c above one rest = record {
    many = rest.many ∙ one.many;
    kept = λ i x is. rest.kept i x (one.kept i x is);
    put = λ i lt is. go i lt (nat_eq (first + i) c) refl is;
  }
    where
      go : (i : ℕ) → i < length a → (o : Bool) → nat_eq (first + i) c ≡ o →
          o || list_any (nat_eq (first + i)) above ≡ true → IsIn d (list_at e i)
      go i lt true at found =
          rest.kept i d (one.put i lt (ap (λ o. o || false) at))
      go i lt false at found = rest.put i (rw one.many lt) found

-- the parents of the classes before one stand before it, and so do all their ancestors ------------

module _ (parents : List ℕ) (first : ℕ) where
  parent_before : (m d : ℕ) → are_before parents first m ≡ true → d < m →
      parent_or (slice_get parents d) < first
  parent_before zero d are lt = absurd (omega (arith, lt))
  parent_before (suc m) d are lt = go (nat_eq d m) refl (λ less. parent_before m d both.0 less)
    where
      both : (are_before parents first m ≡ true) × (nat_lt (parent_or (slice_get parents m)) first ≡ true)
      both = and_parts (are_before parents first m) (nat_lt (parent_or (slice_get parents m)) first) are

      go : (b : Bool) → nat_eq d m ≡ b → (d < m → parent_or (slice_get parents d) < first) →
          parent_or (slice_get parents d) < first
      go true at before =
          subst (λ e. parent_or (slice_get parents e) < first) (sym (eqb-true d m at))
          (ltb-true (parent_or (slice_get parents m)) first both.1)
      go false at before = before (omega (arith, lt, eqb-false d m at))

  pub not_before : (m d : ℕ) → d < m → first ≤ parent_or (slice_get parents d) →
      false ≡ are_before parents first m
  not_before m d lt le = go (are_before parents first m) refl
    where
      go : (b : Bool) → are_before parents first m ≡ b → false ≡ b
      go true are = absurd (omega (arith, le, parent_before m d are lt))
      go false are = refl

  module _ (are : are_before parents first first ≡ true) where
    abbrev parent : ℕ → ℕ
    parent c = parent_or (slice_get parents c)

    line_before : (n c x : ℕ) → c < first → IsIn x (line_within parents n c) → x < first
    line_before zero c x lt is = go (nat_eq x c) refl is
      where
        go : (b : Bool) → nat_eq x c ≡ b → b || false ≡ true → x < first
        go true at found = omega (arith, lt, eqb-true x c at)
        go false at found = absurd (cc)
    line_before (suc n) c x lt is =
        go (nat_eq x c) (nat_eq c 0) refl
        (line_before n (parent c) x (parent_before first c are lt)) is
      where
        go : (b o : Bool) → nat_eq x c ≡ b → (IsIn x (line_within parents n (parent c)) → x < first) →
            b || list_any (nat_eq x) (if o then [] else line_within parents n (parent c)) ≡ true →
            x < first
        go true o at later found = omega (arith, lt, eqb-true x c at)
        go false true at later found = absurd (cc)
        go false false at later found = later found

    dropped : (l : List ℕ) (x : ℕ) → IsIn x (drop 1 l) → IsIn x l
    dropped [] x is = is
    dropped (y ∷ l) x is = or_right (nat_eq x y) (list_any (nat_eq x) l) is

    ancestor_before : (d x : ℕ) → d < first → IsIn x (ancestors_by parents d) → x < first
    unfolding line_by
    ancestor_before d x lt is =
        line_before MAX_ANCESTORS d x lt (dropped (line_within parents MAX_ANCESTORS d) x is)

  -- so many are listed ----------------------------------------------------------------------------

  pub none_listed : (lists : List (List ℕ)) → AreListed parents first 0 lists
  none_listed lists i lt d few stands = absurd (omega (arith, few))

  -- where the last one is, and those before it are
  one_more : (i m : ℕ) (list : List ℕ) → (IsIn (first + i) (ancestors_by parents m) → IsIn m list) →
      AreAllBelow parents (first + i) m list → AreAllBelow parents (first + i) (m + 1) list
  one_more i m list last before d few stands = go (nat_eq d m) refl
    where
      go : (b : Bool) → nat_eq d m ≡ b → IsIn d list
      go true at =
          subst (λ e. IsIn e list) (sym (eqb-true d m at))
          (last (subst (λ e. IsIn (first + i) (ancestors_by parents e)) (eqb-true d m at) stands))
      go false at = before d (omega (arith, few, eqb-false d m at)) stands

  pub next_listed : (old new : List (List ℕ)) (m : ℕ) →
      ArePut old new first m (ancestors_by parents m) → AreListed parents first m old →
      AreListed parents first (m + 1) new
  next_listed old new m is are i lt =
      one_more i m (list_at new i) (is.put i within)
      (λ d few stands. is.kept i d (are i within d few stands))
    where
      within : i < length old
      within = omega (arith, lt, is.many)

  -- a class before the first one has no ancestor with a list
  pub next_before : are_before parents first first ≡ true → (lists : List (List ℕ)) (m : ℕ) → m < first →
      AreListed parents first m lists → AreListed parents first (m + 1) lists
  next_before before lists m few are i lt =
      one_more i m (list_at lists i)
      (λ stands. absurd (omega (arith, ancestor_before before m (first + i) few stands)))
      (are i lt)

-- what is looked up
pub below_found : {B : Type 0} (now : B → List ℕ) (parents : List ℕ) (first many class : ℕ)
    (lists : List (List ℕ)) (r : Option B) →
    AreBelowLists parents first (Some lists) → many ≤ length parents → first ≤ class →
    option_map now r ≡ slice_get lists (class - first) →
    IfSome r (λ below. AreAllBelow parents class many (now below))
below_found now parents first many class lists None are few le is = tt
below_found now parents first many class lists (Some b) are few le is = λ d lt stands.
    subst (IsIn d) (ap or_none (sym is))
    (are (class - first) (slice_get_within lists (class - first) (now b) (sym is)) d (omega (arith, lt, few))
    (subst (λ c. IsIn c (ancestors_by parents d)) (omega (arith, le)) stands))
