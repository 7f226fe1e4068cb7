-- A later table has the classes of an earlier one as they were.
use Rattle.std.proofs.Common.{◌≡◌, ℕ, zero, suc, ◌+◌, ◌<◌, true, nat_eq, List, [], ◌∷◌, ◌++◌, length, slice_get, slice_set, Option, Some, if◌then◌else◌, refl, ap, ap₂, ◌∙◌}
use Rattle.ck_base.specs.declared.limits.TheConstants.{MAX_ANCESTORS}
use Rattle.ck_syntax.specs.Tree.{Name}
use Rattle.type_rules.specs.Fitting.{parent_or, is_below}
use Rattle.type_table.specs.declared.class.Own.{Own}
use Rattle.type_table.specs.declared.class.Own.TheVariants as own
use Rattle.type_table.specs.declared.class.Dispatch.TheVariants as by
use Rattle.type_table.specs.Finished.{all_fields, all_slots, with_own, with_all}
use Rattle.type_table.specs.Names.{lookup}
use Rattle.type_table.specs.Table.{Table, class_of, fun_of, or_no_head, line, line_by, line_within, parent, count_slots, own_slot, slot_in}
use Rattle.first_walk.proofs.Below.{IsBelowBy, below_by}
use Rattle.first_walk.proofs.Lines.{parent_is, parent_in, line_in}
use Rattle.first_walk.proofs.Places.{get_within}
use Rattle.type_table.proofs.Ranges.{Each, many}
use Rattle.first_walk.proofs.TableFacts.{IsTable, IsLater}

module _ (t : Table) (owners : List (Option ℕ)) (u : Table) (is : IsTable t owners) (later : IsLater t u) where
  pub same_parent : (c : ℕ) → c < many t → parent u c ≡ parent t c
  same_parent c lt = ap parent_or (later.parents c lt)

  pub same_body : (c : ℕ) → c < many t → (class_of u c).body ≡ (class_of t c).body
  same_body c lt = (later.classes c lt).body

  pub same_fun : (f : ℕ) → f < length t.funs → fun_of u f ≡ fun_of t f
  same_fun f lt = ap or_no_head (ap (λ fs. slice_get fs f) later.funs.1 ∙ get_within t.funs later.funs.0 f lt)

  -- lines -----------------------------------------------------------------------------------------

  same_within : (steps c : ℕ) → c < many t → line_within u.parents steps c ≡ line_within t.parents steps c
  same_within zero c lt = refl
  same_within (suc steps) c lt =
      ap (λ p. c ∷ (if nat_eq c 0 then [] else line_within u.parents steps p)) (same_parent c lt)
      ∙ ap (λ l. c ∷ (if nat_eq c 0 then [] else l)) (same_within steps (parent t c) (parent_in t owners is c))

  same_by : (c : ℕ) → c < many t → line_by u.parents c ≡ line_by t.parents c
  unfolding line_by
  same_by c lt = same_within MAX_ANCESTORS c lt

  pub same_line : (c : ℕ) → c < many t → line u c ≡ line t c
  same_line c lt = same_by c lt

  pub below_later : (c d : ℕ) → c < many t → is_below t.parents c d ≡ true → IsBelowBy u.parents c d
  below_later = below_by t u.parents (λ c lt. later.parents c lt ∙ parent_is t owners is c lt) (parent_in t owners is)

  -- fields ----------------------------------------------------------------------------------------

  fields_of : (l : List ℕ) → Each (λ c. c < many t) l → all_fields u l ≡ all_fields t l
  fields_of [] each = refl
  fields_of (c ∷ above) each = ap₂ (λ xs ys. xs ++ ys) (fields_of above each.1) (later.classes c each.0).fields

  pub same_fields : (c : ℕ) → c < many t → all_fields u (line u c) ≡ all_fields t (line t c)
  same_fields c lt = ap (all_fields u) (same_line c lt) ∙ fields_of (line t c) (line_in t owners is c lt)

  -- slots -----------------------------------------------------------------------------------------

  slots_counted : (l : List ℕ) → Each (λ c. c < many t) l → count_slots u l ≡ count_slots t l
  slots_counted [] each = refl
  slots_counted (c ∷ above) each = ap₂ (λ m n. m + n) (later.classes c each.0).slots (slots_counted above each.1)

  slot_of_own : (above : List ℕ) → count_slots u above ≡ count_slots t above → (o : Option Own) (s : ℕ) → own_slot u above o s ≡ own_slot t above o s
  slot_of_own above same (Some (own.Fun f (by.NewSlot k))) s = ap (λ m. m + k) same
  slot_of_own above same _ s = refl

  slot_found : (l : List ℕ) → Each (λ c. c < many t) l → (n : Name) → slot_in u l n ≡ slot_in t l n
  slot_found [] each n = refl
  slot_found (c ∷ above) each n =
      ap₂ (λ ms s. own_slot u above (lookup n ms) s) (later.classes c each.0).members (slot_found above each.1 n)
      ∙ slot_of_own above (slots_counted above each.1) (lookup n (class_of t c).members) (slot_in t above n)

  module _ (above : List ℕ) (same : (n : Name) → slot_in u above n ≡ slot_in t above n) where
    one_more : (slots : List ℕ) (m : Name × Own) → with_own u above slots m ≡ with_own t above slots m
    one_more slots (n, own.Fun f by.Override) = ap (λ s. slice_set slots s f) (same n)
    one_more slots (n, _) = refl

    all_more : (slots : List ℕ) (ms : List (Name × Own)) → with_all u above slots ms ≡ with_all t above slots ms
    all_more slots [] = refl
    all_more slots (m ∷ ms) = ap (λ l. with_all u above l ms) (one_more slots m) ∙ all_more (with_own t above slots m) ms

  slots_of : (l : List ℕ) → Each (λ c. c < many t) l → all_slots u l ≡ all_slots t l
  slots_of [] each = refl
  slots_of (c ∷ above) each =
      ap₂ (λ l ms. with_all u above l ms) (slots_of above each.1) (later.classes c each.0).members
      ∙ all_more above (slot_found above each.1) (all_slots t above) (class_of t c).members

  pub same_slots : (c : ℕ) → c < many t → all_slots u (line u c) ≡ all_slots t (line t c)
  same_slots c lt = ap (all_slots u) (same_line c lt) ∙ slots_of (line t c) (line_in t owners is c lt)
