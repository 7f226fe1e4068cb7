-- What the table hands on once all files are entered.
use Rattle.std.specs.Prelude.{ℕ, zero, suc, List, [], ◌∷◌, ◌++◌, length, map, slice_set}
use Rattle.ck_values.specs.declared.kind.Kind.{Kind}
use Rattle.ck_syntax.specs.Tree.{Name}
use Rattle.ck_typed.specs.declared.class.Class.{Class}
use Rattle.type_rules.specs.Fitting.{is_below}
use Rattle.type_table.specs.declared.class.Own.{Own}
use Rattle.type_table.specs.declared.class.Own.TheVariants as own
use Rattle.type_table.specs.declared.class.Dispatch.TheVariants as by
use Rattle.type_table.specs.Table.{Table, class_of, parent, line, slot_in}

-- the fields of an object: those of the eldest class of its line first
abbrev pub all_fields : Table → List ℕ → List Kind
all_fields t [] = []
all_fields t (c ∷ above) = all_fields t above ++ (class_of t c).fields

-- the slots of the ancestors, with a member of their descendant: a new function comes last, and an
-- override stands in the place of what it overrides
abbrev pub with_own : Table → (above : List ℕ) → List ℕ → Name × Own → List ℕ
with_own t above slots (n, own.Fun f (by.NewSlot k)) = slots ++ f ∷ []
with_own t above slots (n, own.Fun f by.Override) = slice_set slots (slot_in t above n) f
with_own t above slots _ = slots

abbrev pub with_all : Table → (above : List ℕ) → List ℕ → List (Name × Own) → List ℕ
with_all t above slots [] = slots
with_all t above slots (m ∷ rest) = with_all t above (with_own t above slots m) rest

-- the function in each slot
abbrev pub all_slots : Table → List ℕ → List ℕ
all_slots t [] = []
all_slots t (c ∷ above) = with_all t above (all_slots t above) (class_of t c).members

abbrev pub finished_class : Table → ℕ → Class
finished_class t c =
    record {
      name = (class_of t c).name;
      parent = parent t c;
      fields = all_fields t (line t c);
      virtuals = all_slots t (line t c);
      body = (class_of t c).body;
      event = is_below t.parents c 1;
    }

-- the numbers below this one
abbrev pub numbers : ℕ → List ℕ
numbers zero = []
numbers (suc n) = numbers n ++ n ∷ []

abbrev pub finished_classes : Table → List Class
finished_classes t = map (finished_class t) (numbers (length t.classes))
