-- Each class is marked under the names of its members, as members are added.
use Rattle.std.proofs.Common.{◌≡◌, ℕ, zero, suc, ◌<◌, Bool, true, false, List, [], ◌∷◌, ◌++◌, length, Option, Some, None, Result, Ok, Err, OnOk, OnErr, slice_get, slice_set, refl, sym, ap, ◌∙◌, subst, ⊎_elim}
use Rattle.ck_syntax.specs.Tree.{Name}
use Rattle.type_table.specs.declared.class.Own.{Own}
use Rattle.type_table.specs.declared.fault.TypeFault.{TypeFault}
use Rattle.type_table.specs.declared.member_index.MemberIndex.{MemberIndex}
use Rattle.type_table.specs.ClassList.{class_at}
use Rattle.type_table.specs.NameMarks.{hash_of, place, or_marked, is_marked, with_mark, is_member, adds_slot, AreMarked, AreKnown}
use Rattle.type_table.specs.Names.{lookup, and_first}
use Rattle.type_table.specs.Table.{Class, or_no_class, and_own}
use Rattle.type_table.proofs.ListFacts.{set_keeps, set_cases, push_cases, kept_at}
use Rattle.type_table.proofs.OwnerFacts.{first_such, new_owner}

-- marks -------------------------------------------------------------------------------------------

mark_there : (marks : List Bool) (i : ℕ) → or_marked (slice_get (slice_set marks i true) i) ≡ true
mark_there [] i = refl
mark_there (b ∷ marks) zero = refl
mark_there (b ∷ marks) (suc i) = mark_there marks i

module _ (marks : List Bool) (h c : ℕ) where
  mark_added : (is_such : Bool) → is_such ≡ true →
      is_marked (with_mark is_such marks h c) h c ≡ true
  mark_added true such = mark_there marks (place h c)
  mark_added false such = absurd (cc)

  mark_stays : (is_such : Bool) (k d : ℕ) → is_marked marks k d ≡ true →
      is_marked (with_mark is_such marks h c) k d ≡ true
  mark_stays true k d is =
      kept_at (λ o. or_marked o ≡ true) marks (place h c) (place k d) true (λ was. refl) is
  mark_stays false k d is = is

-- marked classes ----------------------------------------------------------------------------------

module _ (is_such : Option Own → Bool) where
  -- one mark more
  more_marks : (classes : List Class) (marks : List Bool) (b : Bool) (h c : ℕ) →
      AreMarked is_such classes marks → AreMarked is_such classes (with_mark b marks h c)
  more_marks classes marks b h c are n d is = mark_stays marks h c b (hash_of n) d (are n d is)

  -- a class changes, but not its members
  same_marks : (classes : List Class) (marks : List Bool) (c : ℕ) (x : Class) →
      x.members ≡ (class_at classes c).members → AreMarked is_such classes marks →
      AreMarked is_such (slice_set classes c x) marks
  same_marks classes marks c x same are n d is =
      are n d
      (sym (set_keeps (λ o. is_such (lookup n (or_no_class o).members)) classes c d x
      (ap (λ ms. is_such (lookup n ms)) same)) ∙ is)

  module _ (none : is_such None ≡ false) where
    -- a class more has no member
    new_marks : (classes : List Class) (marks : List Bool) (x : Class) → x.members ≡ [] →
        AreMarked is_such classes marks → AreMarked is_such (classes ++ x ∷ []) marks
    new_marks classes marks x empty are n d is =
        push_cases
        (λ o. is_such (lookup n (or_no_class o).members) ≡ true → is_marked marks (hash_of n) d ≡ true)
        classes x d (are n d) nothing is
      where
        nothing : is_such (lookup n x.members) ≡ true → is_marked marks (hash_of n) d ≡ true
        nothing some =
            let no : false ≡ true = sym (ap (λ ms. is_such (lookup n ms)) empty ∙ none) ∙ some in
            absurd (cc)

    -- a class has one member more, which is marked where it is such
    member_marked : (classes : List Class) (marks : List Bool) (c : ℕ) (n : Name) (o : Own) →
        c < length classes → (is_such (Some o) ≡ true → is_marked marks (hash_of n) c ≡ true) →
        AreMarked is_such classes marks →
        AreMarked is_such (slice_set classes c (and_own (class_at classes c) n o)) marks
    member_marked classes marks c n o lt marked are m d is =
        set_cases
        (λ e x. is_such (lookup m (or_no_class x).members) ≡ true → is_marked marks (hash_of m) e ≡ true)
        classes c d (and_own (class_at classes c) n o) lt here (λ other. are m d) is
      where
        here : is_such (lookup m (and_first n o (class_at classes c).members)) ≡ true →
            is_marked marks (hash_of m) c ≡ true
        here some =
            ⊎_elim (are m c)
            (λ both. subst (λ l. is_marked marks (hash_of l) c ≡ true) (sym both.0) (marked both.1))
            (first_such m n o is_such none (class_at classes c).members some)

    -- the same with its mark, where there is memory
    pub after_marking : (classes : List Class) (marks more : List Bool) (c : ℕ) (n : Name) (o : Own)
        (h : ℕ) (b : Bool) (r : Result (Unit {0}) TypeFault) (was x : Class) →
        c < length classes → slice_get classes c ≡ Some was → h ≡ hash_of n →
        (is_such (Some o) ≡ true → b ≡ true) → more ≡ with_mark b marks h c →
        OnOk r (x ≡ and_own was n o) → OnErr r (x ≡ was) →
        AreMarked is_such classes marks → AreMarked is_such (slice_set classes c x) more
    after_marking classes marks more c n o h b r was x lt at hash such with done kept are =
        subst (AreMarked is_such (slice_set classes c x)) (sym with) (go r done kept)
      where
        go : (r : Result (Unit {0}) TypeFault) → OnOk r (x ≡ and_own was n o) → OnErr r (x ≡ was) →
            AreMarked is_such (slice_set classes c x) (with_mark b marks h c)
        go (Ok u) done kept =
            subst (λ k. AreMarked is_such (slice_set classes c k) (with_mark b marks h c))
            (sym (done ∙ sym (ap (λ k. and_own (or_no_class k) n o) at)))
            (member_marked classes (with_mark b marks h c) c n o lt
            (λ some. subst (λ k. is_marked (with_mark b marks h c) k c ≡ true) hash
            (mark_added marks h c b (such some)))
            (more_marks classes marks b h c are))
        go (Err why) done kept =
            same_marks classes (with_mark b marks h c) c x
            (ap (λ (k : Class). k.members) (kept ∙ sym (ap or_no_class at)))
            (more_marks classes marks b h c are)

-- a class more has no member
pub new_known : (classes : List Class) (ts : MemberIndex) (marks more : List Bool) (x : Class) →
    x.members ≡ [] → AreKnown classes ts marks more →
    AreKnown (classes ++ x ∷ []) ts marks more
new_known classes ts marks more x empty are = record {
  owners = new_owner classes ts x empty are.owners;
  members = new_marks is_member refl classes marks x empty are.members;
  slots = new_marks adds_slot refl classes more x empty are.slots;
}
