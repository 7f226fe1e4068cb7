-- Which classes stand above one, and that the functions in its slots are theirs.
use Rattle.std.proofs.Common.{◌≡◌, ℕ, zero, suc, ◌<◌, Bool, true, false, ◌||◌, nat_eq, List, [], ◌∷◌, slice_get, Option, Some, None, refl, sym, subst}
use Rattle.std.proofs.lemmas.Bool.{eqb-true}
use Rattle.ck_base.specs.declared.limits.TheConstants.{MAX_ANCESTORS}
use Rattle.ck_syntax.specs.Tree.{Name}
use Rattle.type_rules.specs.Fitting.{below, is_below}
use Rattle.type_table.specs.declared.class.Own.{Own}
use Rattle.type_table.specs.declared.class.Own.TheVariants as own
use Rattle.type_table.specs.declared.class.Dispatch.TheVariants as by
use Rattle.type_table.specs.Finished.{all_slots, with_own, with_all}
use Rattle.type_table.specs.Table.{Table, class_of, line, parent, slot_in, construct, construct_in}
use Rattle.first_walk.proofs.Lines.{line_0, line_up, for_all, parent_is, parent_in, object_in}
use Rattle.first_walk.proofs.Places.{each_also, each_append, each_set}
use Rattle.type_table.proofs.ListFacts.{Holds, holds_at, holds_else, holds_map}
use Rattle.type_table.proofs.Ranges.{Each, many}
use Rattle.first_walk.proofs.TableFacts.{IsOwn, IsConstructorOf, IsTable}

-- a class, and those above it
pub data IsBelowBy (parents : List ℕ) : ℕ → ℕ → Type 0 where
  itself : {c : ℕ} → IsBelowBy parents c c
  up : {c d : ℕ} (k : ℕ) → slice_get parents c ≡ Some k → IsBelowBy parents k d → IsBelowBy parents c d

-- the parents of a table, as other rows may have them too
module _ (t : Table) (parents : List ℕ) (has : (c : ℕ) → c < many t → slice_get parents c ≡ Some (parent t c))
    (inner : (c : ℕ) → parent t c < many t) where
  below_within : (steps c d : ℕ) → c < many t → below t.parents steps c d ≡ true → IsBelowBy parents c d
  below_within zero c d lt is = subst (IsBelowBy parents c) (eqb-true c d is) itself
  below_within (suc steps) c d lt is = go (nat_eq c d) refl is (below_within steps (parent t c) d (inner c))
    where
      go : (b : Bool) → nat_eq c d ≡ b → b || below t.parents steps (parent t c) d ≡ true
          → (below t.parents steps (parent t c) d ≡ true → IsBelowBy parents (parent t c) d) → IsBelowBy parents c d
      go true at so rest = subst (IsBelowBy parents c) (eqb-true c d at) itself
      go false at so rest = up (parent t c) (has c lt) (rest so)

  pub below_by : (c d : ℕ) → c < many t → is_below t.parents c d ≡ true → IsBelowBy parents c d
  unfolding is_below
  below_by c d lt is = below_within MAX_ANCESTORS c d lt is

-- the functions of members that stand in slots
abbrev OfSlot : (P : ℕ → Type 0) → Name × Own → Type 0
OfSlot P (n, own.Fun f by.Static) = Unit {0}
OfSlot P (n, own.Fun f d) = P f
OfSlot P _ = Unit {0}

module _ (t : Table) (above : List ℕ) (P : ℕ → Type 0) where
  each_own : (slots : List ℕ) (m : Name × Own) → Each P slots → OfSlot P m → Each P (with_own t above slots m)
  each_own slots (n, own.Fun f (by.NewSlot k)) each here = each_append P slots (f ∷ []) each (here, tt)
  each_own slots (n, own.Fun f by.Override) each here = each_set P slots (slot_in t above n) f each here
  each_own slots _ each here = each

  each_all : (slots : List ℕ) (ms : List (Name × Own)) → Each P slots → Each (OfSlot P) ms
      → Each P (with_all t above slots ms)
  each_all slots [] each own = each
  each_all slots (m ∷ ms) each own = each_all (with_own t above slots m) ms (each_own slots m each own.0) own.1

module _ (t : Table) (owners : List (Option ℕ)) (is : IsTable t owners) where
  pub below_is : (c d : ℕ) → c < many t → is_below t.parents c d ≡ true → IsBelowBy t.parents c d
  below_is = below_by t t.parents (parent_is t owners is) (parent_in t owners is)

  -- a function takes an object of a class above
  abbrev pub IsAbove : (class : ℕ) → (fun : ℕ) → Type 0
  IsAbove c f = (a : ℕ) × (slice_get owners f ≡ Some (Some a)) × IsBelowBy t.parents c a

  above_own : (c : ℕ) (m : Name × Own) → IsOwn t owners c m → OfSlot (IsAbove c) m
  above_own c (n, own.Fun f by.Static) right = tt
  above_own c (n, own.Fun f (by.NewSlot k)) right = (c, right.1.0, itself)
  above_own c (n, own.Fun f by.Override) right = (c, right.1.0, itself)
  above_own c _ right = tt

  above_all : (c : ℕ) → c < many t → (above : List ℕ) → Each (IsAbove c) (all_slots t above)
      → Each (IsAbove c) (all_slots t (c ∷ above))
  above_all c lt above each =
      each_all t above (IsAbove c) (all_slots t above) (class_of t c).members each
      (each_also (IsOwn t owners c) (OfSlot (IsAbove c)) (above_own c) (class_of t c).members (is.classes c lt).members)

  pub virtuals_are : (c : ℕ) → c < many t → Each
      (λ g. (a : ℕ) × (slice_get owners g ≡ Some (Some a)) × IsBelowBy t.parents c a) (all_slots t (line t c))
  virtuals_are = for_all t owners is (λ c. Each (IsAbove c) (all_slots t (line t c)))
      (subst (λ l. Each (IsAbove 0) (all_slots t l)) (sym (line_0 t owners is))
      (above_all 0 (object_in t owners is) [] tt))
      (λ c lt other each. subst (λ l. Each (IsAbove c) (all_slots t l)) (sym (line_up t owners is c lt other))
      (above_all c lt (line t (parent t c))
      (each_also (IsAbove (parent t c)) (IsAbove c)
      (λ f above. (above.0, above.1, up (parent t c) (parent_is t owners is c lt) above.2))
      (all_slots t (line t (parent t c))) each)))

  -- constructors ----------------------------------------------------------------------------------

  above_constructor : (c : ℕ) (o : Option ℕ) → IsConstructorOf owners c o → Holds (IsAbove c) o
  above_constructor c None is = tt
  above_constructor c (Some f) is = (c, is, itself)

  above_maker : (c : ℕ) → c < many t → (above : List ℕ) → Holds (IsAbove c) (construct_in t above)
      → Holds (IsAbove c) (construct_in t (c ∷ above))
  above_maker c lt above holds =
      holds_else (IsAbove c) (class_of t c).constructor (construct_in t above)
      (above_constructor c (class_of t c).constructor (is.classes c lt).constructor_is) holds

  makers_are : (c : ℕ) → c < many t → Holds (IsAbove c) (construct_in t (line t c))
  makers_are = for_all t owners is (λ c. Holds (IsAbove c) (construct_in t (line t c)))
      (subst (λ l. Holds (IsAbove 0) (construct_in t l)) (sym (line_0 t owners is))
      (above_maker 0 (object_in t owners is) [] tt))
      (λ c lt other holds. subst (λ l. Holds (IsAbove c) (construct_in t l)) (sym (line_up t owners is c lt other))
      (above_maker c lt (line t (parent t c))
      (holds_map (IsAbove (parent t c)) (IsAbove c)
      (λ f above. (above.0, above.1, up (parent t c) (parent_is t owners is c lt) above.2))
      (construct_in t (line t (parent t c))) holds)))

  -- what makes the objects of a class takes one of that class, or of a class above it
  pub maker_is : (c f : ℕ) → c < many t → construct t c ≡ Some f → (a : ℕ) × (slice_get owners f ≡ Some (Some a))
      × IsBelowBy t.parents c a
  maker_is c f lt found = holds_at (IsAbove c) (construct t c) f found (makers_are c lt)
