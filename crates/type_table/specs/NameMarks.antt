-- What the table keeps beside its lists so that most classes without a member of a name needn't be
-- asked for it. No definition of what a program means speaks of it.
use Rattle.std.specs.Prelude.{◌≡◌, ℕ, ◌+◌, ◌*◌, ◌%◌, Bool, true, false, List, [], ◌∷◌, Option, Some, None, is_some, slice_get, slice_set}
use Rattle.ck_syntax.specs.Tree.{Name}
use Rattle.type_table.specs.declared.class.Own.{Own}
use Rattle.type_table.specs.declared.class.Own.TheVariants as own
use Rattle.type_table.specs.declared.class.Dispatch.TheVariants as by
use Rattle.type_table.specs.declared.member_index.MemberIndex.{MemberIndex}
use Rattle.type_table.specs.ClassList.{class_at}
use Rattle.type_table.specs.Names.{lookup}
use Rattle.type_table.specs.Table.{Class}
use Rattle.type_table.specs.MemberIndex.{AreOwners}

-- a hash of a name, byte by byte; nothing rests on which one it is
unfoldable pub mixed : (hash byte : ℕ) → ℕ
mixed h b = ((h % 16384 + b) * 40503) % 16384

abbrev pub hashed : (hash : ℕ) → Name → ℕ
hashed h [] = h
hashed h (b ∷ n) = hashed (mixed h b) n

abbrev pub hash_of : Name → ℕ
hash_of n = hashed 0 n

-- where a class is marked under a name
unfoldable pub place : (hash class : ℕ) → ℕ
place h c = (h % 16384 + c) % 16384

-- a place that isn't there counts as marked
abbrev pub or_marked : Option Bool → Bool
or_marked None = true
or_marked (Some b) = b

abbrev pub is_marked : List Bool → (hash class : ℕ) → Bool
is_marked marks h c = or_marked (slice_get marks (place h c))

-- a class more is marked, where it is to be
abbrev pub with_mark : (is_such : Bool) → List Bool → (hash class : ℕ) → List Bool
with_mark true marks h c = slice_set marks (place h c) true
with_mark false marks h c = marks

-- how many slots of the class stand before the one that a member adds
abbrev pub new_slot : Option Own → Option ℕ
new_slot (Some (own.Fun f (by.NewSlot k))) = Some k
new_slot _ = None

abbrev pub is_member : Option Own → Bool
is_member o = is_some o

abbrev pub adds_slot : Option Own → Bool
adds_slot o = is_some (new_slot o)

-- each class that has such a member is marked under its name
abbrev pub AreMarked : (is_such : Option Own → Bool) → List Class → List Bool → Type 0
AreMarked is_such classes marks =
    (n : Name) (d : ℕ) → is_such (lookup n (class_at classes d).members) ≡ true →
    is_marked marks (hash_of n) d ≡ true

-- classes with a member are among the owners of its name, and marked, and those that add a slot are
-- marked once more
pub record AreKnown (classes : List Class) (ts : MemberIndex) (marks more : List Bool) : Type 0 where
  pub owners : AreOwners classes ts
  pub members : AreMarked is_member classes marks
  pub slots : AreMarked adds_slot classes more
