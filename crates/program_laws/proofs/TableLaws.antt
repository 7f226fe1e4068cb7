-- What is known of the classes of a table, and of a table once more files were entered.
use Rattle.std.specs.Prelude.{◌≡◌, ℕ, ◌<◌, true, List, ◌++◌, length, Option, Some, slice_get}
use Rattle.ck_values.specs.declared.kind.Kind.{Kind}
use Rattle.ck_syntax.specs.Tree.{Name}
use Rattle.type_rules.specs.Fitting.{is_below}
use Rattle.type_table.specs.declared.table.Member.{Member}
use Rattle.type_table.specs.Finished.{all_fields, all_slots, finished_class, finished_classes}
use Rattle.type_table.specs.Table.{Table, fun_of, line, member_named, parent, construct}
use Rattle.type_table.proofs.Ranges.{Each, ValueIn, many}
use Rattle.first_walk.proofs.TableFacts.{SameTypes, IsNamed}
use Rattle.first_walk.proofs.Below.{IsBelowBy}

-- a function takes an object of the class or of an ancestor: that of a slot, or a constructor
abbrev pub IsSlotOf : Table → (owners : List (Option ℕ)) → (class fun : ℕ) → Type 0
IsSlotOf t owners c g = (a : ℕ) × (slice_get owners g ≡ Some (Some a)) × IsBelowBy t.parents c a

-- a slot of a parent stands in the class too
abbrev pub KeepsSlot : Table → (class slot fun : ℕ) → Type 0
KeepsSlot t c s g =
    (f : ℕ) × (slice_get (all_slots t (line t c)) s ≡ Some f) × SameTypes (fun_of t f) (fun_of t g)

-- of each class
pub record ClassLaws (t : Table) (owners : List (Option ℕ)) : Type 0 where
  pub finished : (c : ℕ) → c < many t → slice_get (finished_classes t) c ≡ Some (finished_class t c)
  pub finished_length : length (finished_classes t) ≡ many t
  pub fields_in : (c : ℕ) → c < many t → Each (ValueIn (many t)) (all_fields t (line t c))
  pub extends : (c : ℕ) → c < many t
      → (own : List Kind) × (all_fields t (line t c) ≡ all_fields t (line t (parent t c)) ++ own)
  pub slots_extend : (c s g : ℕ) → c < many t
      → slice_get (all_slots t (line t (parent t c))) s ≡ Some g → KeepsSlot t c s g
  pub virtuals_are : (c : ℕ) → c < many t → Each (IsSlotOf t owners c) (all_slots t (line t c))
  pub maker_is : (c f : ℕ) → c < many t → construct t c ≡ Some f → IsSlotOf t owners c f
  pub member_is : (c : ℕ) (n : Name) (m : Member) → c < many t → member_named t c n ≡ Some m
      → IsNamed t owners c m

-- of a table after an earlier file and the last one
pub record LaterLaws (t v : Table) : Type 0 where
  pub below : (c d : ℕ) → c < many t → is_below t.parents c d ≡ true → IsBelowBy v.parents c d
  pub fields : (c : ℕ) → c < many t → all_fields v (line v c) ≡ all_fields t (line t c)
  pub slots : (c : ℕ) → c < many t → all_slots v (line v c) ≡ all_slots t (line t c)
  pub funs : (f : ℕ) → f < length t.funs → fun_of v f ≡ fun_of t f
