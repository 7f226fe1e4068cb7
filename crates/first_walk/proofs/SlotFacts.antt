-- The slots of a class: each slot of its parent stays with its types, and a function's own slot has the function's
-- types.
use Rattle.std.proofs.Common.{◌≡◌, ℕ, ◌+◌, ◌<◌, false, List, [], ◌∷◌, length, slice_get, Option, Some, None, refl, sym, ap, ◌∙◌, subst, arith}
use Rattle.std.proofs.lemmas.Option.{slice_get_within}
use Rattle.ck_syntax.specs.Tree.{Name}
use Rattle.type_table.specs.declared.class.Own.{Own}
use Rattle.type_table.specs.declared.class.Own.TheVariants as own
use Rattle.type_table.specs.declared.class.Dispatch.{Dispatch}
use Rattle.type_table.specs.declared.class.Dispatch.TheVariants as by
use Rattle.type_table.specs.Finished.{all_slots}
use Rattle.type_table.specs.Names.{lookup, or_else}
use Rattle.type_table.specs.declared.class.Head.{Head}
use Rattle.type_table.specs.Table.{Table, class_of, fun_of, count_slots, slot_in, own_slot, line, parent, ancestors, overridden}
use Rattle.first_walk.proofs.Lines.{IsLine, line_is, line_up, for_all, parent_in, parent_of_object}
use Rattle.first_walk.proofs.Places.{some_is, each_found, each_also, length-numbers, numbers_are}
use Rattle.type_table.proofs.Ranges.{Each, many}
use Rattle.first_walk.proofs.SlotTypes.{Holds, KeepsTypes, Fits, AmongFirst, types_same, holds_on, holds_still, keeps_all, keeps_members, length-with_all, new_slot_at, types_back}
use Rattle.first_walk.proofs.TableFacts.{SameTypes, Dispatched, IsOwn, IsEntered, new_slots, IsTable}

-- a function in a new slot stands in the text of its class, or it overrides nothing
abbrev pub IsNew : Table → (class : ℕ) → Name × Own → Type 0
IsNew t c (n, own.Fun f (by.NewSlot k)) = lookup n (class_of t c).heads ≡ None → overridden t (ancestors t c) n ≡ None
IsNew t c _ = Unit {0}

abbrev pub AreNew : Table → Type 0
AreNew t = (c : ℕ) → c < many t → Each (IsNew t c) (class_of t c).members

module _ (t : Table) (owners : List (Option ℕ)) (is : IsTable t owners) where
  length-new_slots : (c : ℕ) → c < many t → length (new_slots (class_of t c).members) ≡ (class_of t c).slots
  length-new_slots c lt = ap length (is.classes c lt).slots ∙ length-numbers (class_of t c).slots

  pub length-all_slots : (l : List ℕ) → IsLine t l → length (all_slots t l) ≡ count_slots t l
  length-all_slots [] in_line = refl
  length-all_slots (c ∷ above) in_line =
      omega (
        arith,
        length-with_all t above (all_slots t above) (class_of t c).members,
        length-new_slots c in_line.0,
        length-all_slots above in_line.2,
      )

  pub own_is : (c : ℕ) → c < many t → (n : Name) (o : Own) → lookup n (class_of t c).members ≡ Some o
      → IsOwn t owners c (n, o)
  own_is c lt n o at = each_found (IsOwn t owners c) (class_of t c).members n o (is.classes c lt).members at

module _ (t : Table) (owners : List (Option ℕ)) (is : IsTable t owners) where
  -- a new slot overrides nothing
  new : AreNew t
  new c lt = each_also (IsOwn t owners c) (IsNew t c) own_new (class_of t c).members (is.classes c lt).members
    where
      own_new : (m : Name × Own) → IsOwn t owners c m → IsNew t c m
      own_new (n, own.Fun f (by.NewSlot k)) right = λ none. right.1.1
      own_new (n, own.Fun f by.Override) right = tt
      own_new (n, own.Fun f by.Static) right = tt
      own_new (n, own.Field i k) right = tt
      own_new (n, own.Static v) right = tt
      own_new (n, own.Auto) right = tt

  -- what the nearest text above has under a name stands in the name's slot, with its types
  abbrev pub AreSlotted : List ℕ → Type 0
  AreSlotted l = (n : Name) (old : Head) → overridden t l n ≡ Some (Some old) → old.is_static ≡ false
      → Holds t (all_slots t l) (slot_in t l n) old

  -- one class more, below those of which it holds
  module _ (c : ℕ) (above : List ℕ) (in_line : IsLine t (c ∷ above)) (slotted : AreSlotted above) where
    fits : (m : Name × Own) → IsOwn t owners c m → Fits t above (all_slots t above) m
    fits (n, own.Fun f by.Override) right =
        let over = right.1.1 in
        holds_on t (all_slots t above) (slot_in t above n) over.0 (fun_of t f)
        (slotted n over.0 (subst (λ l. overridden t l n ≡ Some (Some over.0)) in_line.1 over.1) over.3)
        (types_back (fun_of t f) over.0 over.2)
    fits _ right = tt

    fit : Each (Fits t above (all_slots t above)) (class_of t c).members
    fit = each_also (IsOwn t owners c) (Fits t above (all_slots t above)) fits (class_of t c).members
        (is.classes c in_line.0).members

    pub keeps : KeepsTypes t (all_slots t above) (all_slots t (c ∷ above))
    keeps = keeps_members t above (all_slots t above) (class_of t c).members fit

    -- an override stands in a slot of those above
    among : (m : Name × Own) → Fits t above (all_slots t above) m → AmongFirst t above (count_slots t above) m
    among (n, own.Fun f by.Override) right = omega (
      arith,
      slice_get_within (all_slots t above) (slot_in t above n) right.0 right.1,
      length-all_slots t owners is
          above in_line.2,
    )
    among _ right = tt

    among_all : Each (AmongFirst t above (count_slots t above)) (class_of t c).members
    among_all = each_also (Fits t above (all_slots t above)) (AmongFirst t above (count_slots t above)) among
        (class_of t c).members fit

    pub override_in : (n : Name) (f : ℕ) → lookup n (class_of t c).members ≡ Some (own.Fun f by.Override)
        → slot_in t above n < count_slots t above
    override_in n f at = each_found (AmongFirst t above (count_slots t above)) (class_of t c).members n
        (own.Fun f by.Override) among_all at

    -- a new slot stands behind those above, with its function
    pub new_slot_is : (n : Name) (f k : ℕ) → lookup n (class_of t c).members ≡ Some (own.Fun f (by.NewSlot k))
        → slice_get (all_slots t (c ∷ above)) (count_slots t above + k) ≡ Some f
    new_slot_is = new_slot_at t above (count_slots t above) 0 (all_slots t above) (class_of t c).members among_all
        (omega (arith, length-all_slots t owners is above in_line.2))
        (λ j k at. omega (
          arith,
          numbers_are (class_of t c).slots j k
              (sym (ap (λ ks. slice_get ks j) (is.classes c in_line.0).slots) ∙ at),
        ))

    pub at_new : (n : Name) (f k : ℕ) → lookup n (class_of t c).members ≡ Some (own.Fun f (by.NewSlot k))
        → Holds t (all_slots t (c ∷ above)) (count_slots t above + k) (fun_of t f)
    at_new n f k at = (f, new_slot_is n f k at, types_same (fun_of t f))

    pub at_override : (n : Name) (f : ℕ) → lookup n (class_of t c).members ≡ Some (own.Fun f by.Override)
        → Holds t (all_slots t (c ∷ above)) (slot_in t above n) (fun_of t f)
    at_override n f at = holds_still t (all_slots t above) (all_slots t (c ∷ above)) (slot_in t above n) (fun_of t f)
        keeps
        (each_found (Fits t above (all_slots t above)) (class_of t c).members n (own.Fun f by.Override) fit at)

    -- the class has a function of the name in its text
    by_dispatch : (n : Name) (f : ℕ) (d : Dispatch) → lookup n (class_of t c).members ≡ Some (own.Fun f d)
        → Dispatched (fun_of t f) d → (fun_of t f).is_static ≡ false
        → Holds t (all_slots t (c ∷ above)) (own_slot t above (Some (own.Fun f d)) (slot_in t above n)) (fun_of t f)
    by_dispatch n f by.Static at right static = absurd (cc)
    by_dispatch n f (by.NewSlot k) at right static = at_new n f k at
    by_dispatch n f by.Override at right static = at_override n f at

    at_own_text : (n : Name) (old : Head) → IsEntered t c n (Some old) → old.is_static ≡ false
        → Holds t (all_slots t (c ∷ above)) (slot_in t (c ∷ above) n) old
    at_own_text n old entered static =
        let f = entered.0 in
        let d = entered.1 in
        let same : old ≡ fun_of t f = some_is entered.3 in
        subst (λ s. Holds t (all_slots t (c ∷ above)) s old)
        (sym (ap (λ o. own_slot t above o (slot_in t above n)) entered.2))
        (subst (λ h. Holds t (all_slots t (c ∷ above)) (own_slot t above (Some (own.Fun f d)) (slot_in t above n)) h)
        (sym same)
        (by_dispatch n f d entered.2 (own_is t owners is c in_line.0 n (own.Fun f d) entered.2).0
        (sym (ap (λ h. h.is_static) same) ∙ static)))

    -- it has none
    at_other_text : (n : Name) (old : Head) → lookup n (class_of t c).heads ≡ None
        → overridden t above n ≡ Some (Some old) → old.is_static ≡ false
        → Holds t (all_slots t (c ∷ above)) (slot_in t (c ∷ above) n) old
    at_other_text n old none at static = go (lookup n (class_of t c).members) refl
      where
        still : Holds t (all_slots t (c ∷ above)) (slot_in t above n) old
        still = holds_still t (all_slots t above) (all_slots t (c ∷ above)) (slot_in t above n) old keeps
            (slotted n old at static)

        go : (o : Option Own) → lookup n (class_of t c).members ≡ o
            → Holds t (all_slots t (c ∷ above)) (own_slot t above o (slot_in t above n)) old
        go (Some (own.Fun f (by.NewSlot k))) found =
            let nothing : overridden t above n ≡ None =
            subst (λ l. overridden t l n ≡ None) in_line.1
            (each_found (IsNew t c) (class_of t c).members n (own.Fun f (by.NewSlot k)) (new c in_line.0) found
            none) in
            let never : Some (Some old) ≡ None = sym at ∙ nothing in
            absurd (cc)
        go _ found = still

    pub slotted_below : AreSlotted (c ∷ above)
    slotted_below n old at static = go (lookup n (class_of t c).heads) refl at
      where
        go : (o : Option (Option Head)) → lookup n (class_of t c).heads ≡ o
            → or_else o (overridden t above n) ≡ Some (Some old)
            → Holds t (all_slots t (c ∷ above)) (slot_in t (c ∷ above) n) old
        go None text so = at_other_text n old text so static
        go (Some h) text so = at_own_text n old (subst (IsEntered t c n) (some_is so)
            ((is.classes c in_line.0).heads n h text)) static

  pub slotted : (l : List ℕ) → IsLine t l → AreSlotted l
  slotted [] in_line n old at static = absurd (cc)
  slotted (c ∷ above) in_line n old at static = slotted_below c above in_line (slotted above in_line.2) n old at static

  -- the slots of a class are those of its parent, and more
  pub keeps_slots : (c : ℕ) → c < many t → KeepsTypes t (all_slots t (line t (parent t c))) (all_slots t (line t c))
  keeps_slots = for_all t owners is (λ c. KeepsTypes t (all_slots t (line t (parent t c))) (all_slots t (line t c)))
      (subst (λ p. KeepsTypes t (all_slots t (line t p)) (all_slots t (line t 0))) (sym (parent_of_object t owners is))
      (keeps_all t (all_slots t (line t 0))))
      (λ c lt other _. subst (λ l. KeepsTypes t (all_slots t (line t (parent t c))) (all_slots t l))
      (sym (line_up t owners is c lt other))
      (keeps c (line t (parent t c)) (subst (IsLine t) (line_up t owners is c lt other) (line_is t owners is c lt))
      (slotted (line t (parent t c)) (line_is t owners is (parent t c) (parent_in t owners is c)))))

  pub slots_extend : (c s g : ℕ) → c < many t → slice_get (all_slots t (line t (parent t c))) s ≡ Some g
      → (f : ℕ) × (slice_get (all_slots t (line t c)) s ≡ Some f) × SameTypes (fun_of t f) (fun_of t g)
  slots_extend c s g lt at = keeps_slots c lt s g at
