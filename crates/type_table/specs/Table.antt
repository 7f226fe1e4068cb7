-- The table of names: what the files entered so far declare, in plain lists, in the order of the
-- text.
use Rattle.std.specs.Prelude.{codes, ℕ, zero, suc, ◌+◌, Bool, true, false, nat_eq, nat_lt, List, [], ◌∷◌, length, drop, Option, Some, None, slice_get, slice_set, if◌then◌else◌}
use Rattle.std.specs.Option.{option_map}
use Rattle.ck_values.specs.declared.kind.Kind.{Kind}
use Rattle.ck_values.specs.declared.kind.Kind.TheVariants.{Void}
use Rattle.ck_base.specs.declared.limits.TheConstants.{MAX_ANCESTORS}
use Rattle.ck_syntax.specs.Tree.{Name}
use Rattle.type_table.specs.declared.class.Own.{Own}
use Rattle.type_table.specs.declared.class.Own.TheVariants as own
use Rattle.type_table.specs.declared.class.Dispatch.{Dispatch}
use Rattle.type_table.specs.declared.class.Dispatch.TheVariants as by
pub use Rattle.type_table.specs.declared.class.Head.{Head}
pub use Rattle.type_table.specs.declared.class.Class.{Class}
pub use Rattle.type_table.specs.declared.class.FileNames.{FileNames as File}
use Rattle.type_table.specs.declared.table.Member.{Member}
use Rattle.type_table.specs.declared.table.Member.TheVariants as member
use Rattle.type_table.specs.declared.table.Variable.{Variable}
use Rattle.type_rules.specs.Fitting.{parent_or}
use Rattle.type_table.specs.Names.{lookup, and_first, or_else, built_in, as_class}

-- A function's types: those of its parameters, without `this`, and of its result.
-- A class: its name, its file, and whether it is public; the types of its functions as its text has
-- them, where they are right; what of it was entered; the types of its own fields; how many virtual
-- slots it adds; the function of the statements in its braces; and its own constructor. A file: the
-- function of its statements, and its classes, functions and variables.

-- classes, functions, and file variables with static members are numbered in one row each;
-- `publics` are the public classes of all files
pub record Table : Type 0 where
  pub classes : List Class
  pub parents : List ℕ
  pub publics : List (Name × ℕ)
  pub funs : List Head
  pub statics : List Kind
  pub files : List File

-- a file of which nothing is entered
abbrev pub no_file : File
no_file = record { main = 0; classes = []; funs = []; variables = [] }

abbrev pub or_no_file : Option File → File
or_no_file None = no_file
or_no_file (Some f) = f

abbrev pub file_of : Table → ℕ → File
file_of t f = or_no_file (slice_get t.files f)

-- a class of which nothing is entered
abbrev pub no_class : Class
no_class =
    record {
      name = [];
      file = 0;
      is_public = false;
      heads = [];
      members = [];
      fields = [];
      slots = 0;
      body = None;
      constructor = None;
    }

-- a class of which only its name is known; it stands below Object so far
abbrev pub named_class : (file : ℕ) → (is_public : Bool) → Name → Class
named_class f is_public n = record no_class { name = n; file = f; is_public = is_public }

abbrev pub or_no_class : Option Class → Class
or_no_class None = no_class
or_no_class (Some c) = c

abbrev pub class_of : Table → ℕ → Class
class_of t c = or_no_class (slice_get t.classes c)

-- a class has one member more
abbrev pub and_own : Class → Name → Own → Class
and_own c n o = record c { members = and_first n o c.members }

-- before any file: Object and Event
abbrev pub new_table : Table
new_table =
    record {
      classes = record no_class { name = codes "Object" }
          ∷ record no_class { name = codes "Event" } ∷ [];
      parents =
          0 ∷ 0 ∷ [];
      publics = [];
      funs = [];
      statics = [];
      files = [];
    }

-- a function that takes nothing and gives nothing
abbrev pub plain_head : (is_static : Bool) → Head
plain_head is_static = record { params = []; result = Void; is_static = is_static }

abbrev pub or_no_head : Option Head → Head
or_no_head None = plain_head true
or_no_head (Some h) = h

-- the types of a function by its number
abbrev pub fun_of : Table → ℕ → Head
fun_of t f = or_no_head (slice_get t.funs f)

-- the parent of a class; Object has itself
abbrev pub parent : Table → ℕ → ℕ
parent t c = parent_or (slice_get t.parents c)

abbrev pub line_within : (parents : List ℕ) → (steps : ℕ) → ℕ → List ℕ
line_within parents zero c = c ∷ []
line_within parents (suc n) c =
    c ∷ (if nat_eq c 0 then [] else line_within parents n (parent_or (slice_get parents c)))

-- a class, its parent, and so on up to Object
unfoldable pub line_by : (parents : List ℕ) → ℕ → List ℕ
line_by parents c = line_within parents MAX_ANCESTORS c

abbrev pub line : Table → ℕ → List ℕ
line t c = line_by t.parents c

-- the ancestors of a class, its parent first
abbrev pub ancestors : Table → ℕ → List ℕ
ancestors t c = drop 1 (line t c)

-- how many fields these classes declare
abbrev pub count_fields : Table → List ℕ → ℕ
count_fields t [] = 0
count_fields t (c ∷ cs) = length (class_of t c).fields + count_fields t cs

-- how many slots they add
abbrev pub count_slots : Table → List ℕ → ℕ
count_slots t [] = 0
count_slots t (c ∷ cs) = (class_of t c).slots + count_slots t cs

abbrev pub own_slot : Table → (above : List ℕ) → Option Own → (slot_above : ℕ) → ℕ
own_slot t above (Some (own.Fun f (by.NewSlot k))) slot = count_slots t above + k
own_slot t above _ slot = slot

-- the slot of a function of this name in a line of classes; an override has the slot of what it
-- overrides
abbrev pub slot_in : Table → List ℕ → Name → ℕ
slot_in t [] n = 0
slot_in t (c ∷ above) n = own_slot t above (lookup n (class_of t c).members) (slot_in t above n)

-- the slot of a function of this name, which is called so
abbrev pub slot_of : Table → (above : List ℕ) → Name → Dispatch → Option ℕ
slot_of t above n by.Static = None
slot_of t above n (by.NewSlot k) = Some (count_slots t above + k)
slot_of t above n by.Override = Some (slot_in t above n)

-- what it is to those who name it; fields are numbered in one row, those of the ancestors first
abbrev pub as_member : Table → (above : List ℕ) → Name → Own → Member
as_member t above n (own.Field position kind) = member.Field (count_fields t above + position) kind
as_member t above n (own.Static v) = member.Static v.index v.kind
as_member t above n own.Auto = member.Auto
as_member t above n (own.Fun f d) = member.Fun f (slot_of t above n d)

abbrev pub own_member : Table → (above : List ℕ) → Name → Option Own →
    (member_above : Option Member) → Option Member
own_member t above n None other = other
own_member t above n (Some o) other = Some (as_member t above n o)

-- the first of this name in a line of classes
abbrev pub member_in : Table → List ℕ → Name → Option Member
member_in t [] n = None
member_in t (c ∷ above) n =
    own_member t above n (lookup n (class_of t c).members) (member_in t above n)

-- the member of this name that a class declares, or the nearest of its ancestors
abbrev pub member_named : Table → (class : ℕ) → Name → Option Member
member_named t c n = member_in t (line t c) n

-- the constructor of the first of these classes that has one
abbrev pub construct_in : Table → List ℕ → Option ℕ
construct_in t [] = None
construct_in t (c ∷ above) = or_else (class_of t c).constructor (construct_in t above)

-- what an object of a class is made by: its own constructor, or that of its nearest ancestor with one
abbrev pub construct : Table → (class : ℕ) → Option ℕ
construct t c = construct_in t (line t c)

-- the function of this name that the nearest of these classes has by its text
abbrev pub overridden : Table → (above : List ℕ) → Name → Option (Option Head)
overridden t [] n = None
overridden t (c ∷ above) n = or_else (lookup n (class_of t c).heads) (overridden t above n)

-- a public class is seen by later files
abbrev pub seen_from : Table → (file : ℕ) → Option ℕ → Option ℕ
seen_from t f None = None
seen_from t f (Some c) = if nat_lt (class_of t c).file f then Some c else None

-- the class of this name that a file sees
abbrev pub class_named : Table → (file : ℕ) → Name → Option ℕ
class_named t f n =
    or_else (lookup n (file_of t f).classes)
    (or_else (seen_from t f (lookup n t.publics)) (as_class (built_in n)))

-- the function of this name that a file declares
abbrev pub fun_named : Table → (file : ℕ) → Name → Option ℕ
fun_named t f n = lookup n (file_of t f).funs

-- the type of a file variable or a static member; that of a variable with `auto` is void until its
-- declaration has settled it
abbrev pub kind_or_void : Option Kind → Kind
kind_or_void None = Void
kind_or_void (Some k) = k

abbrev pub static_at : Table → ℕ → Variable
static_at t i = record { index = i; kind = kind_or_void (slice_get t.statics i) }

-- the file variable of this name
abbrev pub variable_named : Table → (file : ℕ) → Name → Option Variable
variable_named t f n = option_map (static_at t) (lookup n (file_of t f).variables)

-- variables with `auto` get their types
abbrev pub settled_statics : List Kind → List (ℕ × Kind) → List Kind
settled_statics statics [] = statics
settled_statics statics ((i, k) ∷ rest) = settled_statics (slice_set statics i k) rest

abbrev pub with_settled : Table → List (ℕ × Kind) → Table
with_settled t settled = record t { statics = settled_statics t.statics settled }
