-- What a member's name stands for is there: a field, a static member, a function without an object, or one in a slot.
use Rattle.std.proofs.Common.{◌≡◌, ℕ, ◌+◌, ◌<◌, List, [], ◌∷◌, slice_get, Option, Some, None, refl, sym, ap, ◌∙◌, subst}
use Rattle.ck_syntax.specs.Tree.{Name}
use Rattle.type_table.specs.declared.class.Own.{Own}
use Rattle.type_table.specs.declared.class.Own.TheVariants as own
use Rattle.type_table.specs.declared.class.Dispatch.TheVariants as by
use Rattle.type_table.specs.declared.table.Member.{Member}
use Rattle.type_table.specs.declared.table.Member.TheVariants as member
use Rattle.type_table.specs.Finished.{all_fields, all_slots}
use Rattle.type_table.specs.Names.{lookup}
use Rattle.type_table.specs.Table.{Table, class_of, fun_of, line, as_member, own_member, member_in, member_named}
use Rattle.first_walk.proofs.FieldFacts.{length-all_fields}
use Rattle.first_walk.proofs.Lines.{IsLine, line_is}
use Rattle.first_walk.proofs.Places.{some_is, get_front, get_behind}
use Rattle.type_table.proofs.Ranges.{ValueIn, many}
use Rattle.first_walk.proofs.SlotFacts.{own_is, at_new, at_override, keeps, slotted}
use Rattle.first_walk.proofs.SlotTypes.{Holds, holds_still}
use Rattle.first_walk.proofs.TableFacts.{IsOwn, IsNamed, IsTable}

-- the same of a line of classes
abbrev IsNamedIn : Table → (owners : List (Option ℕ)) → (line : List ℕ) → Member → Type 0
IsNamedIn t owners l (member.Field i k) = slice_get (all_fields t l) i ≡ Some k
IsNamedIn t owners l (member.Static i k) = (slice_get t.statics i ≡ Some k) × ValueIn (many t) k
IsNamedIn t owners l member.Auto = Unit {0}
IsNamedIn t owners l (member.Fun f None) = slice_get owners f ≡ Some None
IsNamedIn t owners l (member.Fun f (Some slot)) = Holds t (all_slots t l) slot (fun_of t f)
    × ((a : ℕ) × (slice_get owners f ≡ Some (Some a)))

named_by_line : (t : Table) (owners : List (Option ℕ)) (c : ℕ) (m : Member) → IsNamedIn t owners (line t c) m
    → IsNamed t owners c m
named_by_line t owners c (member.Field i k) named = named
named_by_line t owners c (member.Static i k) named = named
named_by_line t owners c member.Auto named = tt
named_by_line t owners c (member.Fun f None) named = named
named_by_line t owners c (member.Fun f (Some slot)) named = named

module _ (t : Table) (owners : List (Option ℕ)) (is : IsTable t owners) where
  module _ (c : ℕ) (above : List ℕ) (in_line : IsLine t (c ∷ above)) where
    -- a member of those above is one of the class
    named_below : (m : Member) → IsNamedIn t owners above m → IsNamedIn t owners (c ∷ above) m
    named_below (member.Field i k) named = get_front (all_fields t above) (class_of t c).fields i k named
    named_below (member.Static i k) named = named
    named_below member.Auto named = tt
    named_below (member.Fun f None) named = named
    named_below (member.Fun f (Some slot)) named = (
      holds_still t (all_slots t above) (all_slots t (c ∷ above)) slot (fun_of t f)
          (keeps t owners is c above in_line (slotted t owners is above in_line.2)) named.0,
      named.1,
    )

    -- a member of its own
    named_here : (n : Name) (o : Own) → lookup n (class_of t c).members ≡ Some o → IsOwn t owners c (n, o)
        → IsNamedIn t owners (c ∷ above) (as_member t above n o)
    named_here n (own.Field i k) at right =
        ap (λ l. slice_get (all_fields t (c ∷ above)) (l + i)) (sym (length-all_fields t above))
        ∙ get_behind (all_fields t above) (class_of t c).fields i ∙ right
    named_here n (own.Static v) at right = right
    named_here n own.Auto at right = tt
    named_here n (own.Fun f by.Static) at right = right.1
    named_here n (own.Fun f (by.NewSlot k)) at right =
        (at_new t owners is c above in_line (slotted t owners is above in_line.2) n f k at, (c, right.1.0))
    named_here n (own.Fun f by.Override) at right =
        (at_override t owners is c above in_line (slotted t owners is above in_line.2) n f at, (c, right.1.0))

  named_in_line : (l : List ℕ) → IsLine t l → (n : Name) (m : Member) → member_in t l n ≡ Some m
      → IsNamedIn t owners l m
  named_in_line [] in_line n m at = absurd (cc)
  named_in_line (c ∷ above) in_line n m at = go (lookup n (class_of t c).members) refl at
      (named_in_line above in_line.2 n m)
    where
      go : (o : Option Own) → lookup n (class_of t c).members ≡ o
          → own_member t above n o (member_in t above n) ≡ Some m
          → (member_in t above n ≡ Some m → IsNamedIn t owners above m) → IsNamedIn t owners (c ∷ above) m
      go None found so rest = named_below c above in_line m (rest so)
      go (Some o) found so rest = subst (IsNamedIn t owners (c ∷ above)) (some_is so)
          (named_here c above in_line n o found (own_is t owners is c in_line.0 n o found))

  pub member_is : (c : ℕ) (n : Name) (m : Member) → c < many t → member_named t c n ≡ Some m → IsNamed t owners c m
  member_is c n m lt at = named_by_line t owners c m (named_in_line (line t c) (line_is t owners is c lt) n m at)
