-- What the table has after each file: the functions of the text in order, and what is right of each class.
use Rattle.std.specs.Prelude.{◌≡◌, ℕ, ◌<◌, ◌≤◌, Bool, true, false, List, [], ◌∷◌, ◌++◌, length, map, Option, Some, None, slice_get}
use Rattle.ck_values.specs.declared.kind.Kind.{Kind}
use Rattle.ck_values.specs.declared.kind.Kind.TheVariants.{Void}
use Rattle.ck_syntax.specs.Tree as tree
use Rattle.ck_syntax.specs.Tree.{Name, Members, no_members, and_member, fun_member, stmt_member, no_items, and_item, class_item, fun_item, stmt_item}
use Rattle.type_rules.specs.Fitting.{is_below}
use Rattle.type_table.specs.declared.class.Dispatch.{Dispatch}
use Rattle.type_table.specs.declared.class.Dispatch.TheVariants as by
use Rattle.type_table.specs.declared.class.Own.{Own}
use Rattle.type_table.specs.declared.class.Own.TheVariants as own
use Rattle.type_table.specs.declared.table.Member.{Member}
use Rattle.type_table.specs.declared.table.Member.TheVariants as member
use Rattle.type_table.specs.Finished.{numbers, all_fields, all_slots}
use Rattle.first_walk.specs.FirstWalk.{own_class, head_of, has_statement}
use Rattle.type_table.specs.Names.{lookup}
use Rattle.type_table.specs.declared.class.Class.{Class}
use Rattle.type_table.specs.declared.class.Head.{Head}
use Rattle.type_table.specs.declared.class.FileNames.{FileNames as File}
use Rattle.type_table.specs.Table.{Table, class_of, fun_of, or_no_head, plain_head, line, parent, ancestors, overridden}
use Rattle.type_table.proofs.Ranges.{Each, Within, ValueIn, ResultIn, HeadIn, many}

-- the functions of a text -----------------------------------------------------------------------

-- the class whose object a function takes first, where it takes one
abbrev pub owner : (class : Option ℕ) → (is_static : Bool) → Option ℕ
owner class true = None
owner class false = class

-- the types of a function, and its owner
abbrev pub Entry : Type 0
Entry = Head × Option ℕ

abbrev pub fun_entry : Table → (file : ℕ) → (class : Option ℕ) → tree.Fun → Entry
fun_entry t file class (tree.fun l is_static result n ps body) =
    (or_no_head (head_of t file (tree.fun l is_static result n ps body)), owner class is_static)
fun_entry t file class (tree.constructor l ps body) = (or_no_head (head_of t file (tree.constructor l ps body)), class)

-- the functions of a class, in text order
abbrev pub member_entries : Table → (file class : ℕ) → Members → List Entry
member_entries t file c no_members = []
member_entries t file c (and_member ms (stmt_member s)) = member_entries t file c ms
member_entries t file c (and_member ms (fun_member f)) = member_entries t file c ms ++ fun_entry t file (Some c) f ∷ []

-- the function of the statements in a class's braces
abbrev pub body_entries : (has_body : Bool) → (class : ℕ) → List Entry
body_entries true c = (plain_head false, Some c) ∷ []
body_entries false c = []

abbrev pub item_entries : Table → (file : ℕ) → tree.Item → List Entry
item_entries t file (class_item (tree.class l is_public n parent ms)) = body_entries (has_statement ms)
    (own_class t file n) ++ member_entries t file (own_class t file n) ms
item_entries t file (fun_item f) = fun_entry t file None f ∷ []
item_entries t file (stmt_item s) = []

abbrev pub items_entries : Table → (file : ℕ) → tree.File → List Entry
items_entries t file no_items = []
items_entries t file (and_item xs x) = items_entries t file xs ++ item_entries t file x

-- all functions of a file: that of its statements comes first
abbrev pub file_entries : Table → (file : ℕ) → tree.File → List Entry
file_entries t file raw = (plain_head true, None) ∷ items_entries t file raw

abbrev pub heads_of : List Entry → List Head
heads_of = map (λ e. e.0)

abbrev pub owners_of : List Entry → List (Option ℕ)
owners_of = map (λ e. e.1)

-- classes ---------------------------------------------------------------------------------------

abbrev pub SameTypes : Head → Head → Type 0
SameTypes a b = (a.params ≡ b.params) × (a.result ≡ b.result)

-- a function is called as it may be
abbrev pub Dispatched : Head → Dispatch → Type 0
Dispatched h by.Static = h.is_static ≡ true
Dispatched h (by.NewSlot k) = h.is_static ≡ false
Dispatched h by.Override = h.is_static ≡ false

-- the nearest of these classes that has a function of the name by its text has one of these types
abbrev pub Overrides : Table → (above : List ℕ) → Name → Head → Type 0
Overrides t above n h = (old : Head) × (overridden t above n ≡ Some (Some old)) × SameTypes h old
    × (old.is_static ≡ false)

abbrev pub Owned : Table → (owners : List (Option ℕ)) → (class : ℕ) → Name → (fun : ℕ) → Dispatch → Type 0
Owned t owners c n f by.Static = slice_get owners f ≡ Some None
Owned t owners c n f (by.NewSlot k) = (slice_get owners f ≡ Some (Some c)) × (overridden t (ancestors t c) n ≡ None)
Owned t owners c n f by.Override = (slice_get owners f ≡ Some (Some c)) × Overrides t (ancestors t c) n (fun_of t f)

-- a member is right
abbrev pub IsOwn : Table → (owners : List (Option ℕ)) → (class : ℕ) → Name × Own → Type 0
IsOwn t owners c (n, own.Field i k) = slice_get (class_of t c).fields i ≡ Some k
IsOwn t owners c (n, own.Static v) = (slice_get t.statics v.index ≡ Some v.kind) × ValueIn (many t) v.kind
IsOwn t owners c (n, own.Auto) = Unit {0}
IsOwn t owners c (n, own.Fun f d) = Dispatched (fun_of t f) d × Owned t owners c n f d

-- the new slots of a class, in the order of its members
abbrev pub new_slots : List (Name × Own) → List ℕ
new_slots [] = []
new_slots ((n, own.Fun f (by.NewSlot k)) ∷ rest) = k ∷ new_slots rest
new_slots (m ∷ rest) = new_slots rest

-- each function that the text of a class has was entered
abbrev pub IsEntered : Table → (class : ℕ) → Name → Option Head → Type 0
IsEntered t c n h = (f : ℕ) × (d : Dispatch) × (lookup n (class_of t c).members ≡ Some (own.Fun f d))
    × (h ≡ Some (fun_of t f))

-- the function of the statements in the braces takes the object alone
abbrev pub IsBodyOf : Table → (owners : List (Option ℕ)) → (class : ℕ) → Option ℕ → Type 0
IsBodyOf t owners c None = Unit {0}
IsBodyOf t owners c (Some f) = (slice_get owners f ≡ Some (Some c)) × (slice_get t.funs f ≡ Some (plain_head false))

-- and so does its constructor, with its arguments behind
abbrev pub IsConstructorOf : (owners : List (Option ℕ)) → (class : ℕ) → Option ℕ → Type 0
IsConstructorOf owners c None = Unit {0}
IsConstructorOf owners c (Some f) = slice_get owners f ≡ Some (Some c)

pub record IsClassOf (t : Table) (owners : List (Option ℕ)) (c : ℕ) : Type 0 where
  pub members : Each (IsOwn t owners c) (class_of t c).members
  pub found : Each (λ (m : Name × Own). lookup m.0 (class_of t c).members ≡ Some m.1) (class_of t c).members
  pub fields : Each (ValueIn (many t)) (class_of t c).fields
  pub slots : new_slots (class_of t c).members ≡ numbers (class_of t c).slots
  pub heads : (n : Name) (h : Option Head) → lookup n (class_of t c).heads ≡ Some h → IsEntered t c n h
  pub body : IsBodyOf t owners c (class_of t c).body
  pub constructor_is : IsConstructorOf owners c (class_of t c).constructor

-- tables ----------------------------------------------------------------------------------------

pub record IsFileOf (t : Table) (owners : List (Option ℕ)) (file : File) : Type 0 where
  pub classes : Each (λ (e : Name × ℕ). e.1 < many t) file.classes
  pub funs : Each (λ (e : Name × ℕ). slice_get owners e.1 ≡ Some None) file.funs
  pub variables : Each (λ (e : Name × ℕ). e.1 < length t.statics) file.variables

pub record IsTable (t : Table) (owners : List (Option ℕ)) : Type 0 where
  pub count : length owners ≡ length t.funs
  pub two : 2 ≤ many t
  pub parents : length t.parents ≡ many t
  pub object : slice_get t.parents 0 ≡ Some 0
  pub event : slice_get t.parents 1 ≡ Some 0
  pub inner : Each (λ c. c < many t) t.parents
  pub lines : (c : ℕ) → c < many t → is_below t.parents c 0 ≡ true
  pub publics : Each (λ (e : Name × ℕ). e.1 < many t) t.publics
  pub files : Each (IsFileOf t owners) t.files
  -- a variable with `auto` is void until it is settled
  pub statics : Each (ResultIn (many t)) t.statics
  pub heads : Each (HeadIn (many t)) t.funs
  pub classes : (c : ℕ) → c < many t → IsClassOf t owners c

-- a later table -----------------------------------------------------------------------------------

pub record SameClass (a b : Class) : Type 0 where
  pub name : b.name ≡ a.name
  pub members : b.members ≡ a.members
  pub fields : b.fields ≡ a.fields
  pub slots : b.slots ≡ a.slots
  pub body : b.body ≡ a.body
  pub constructor_same : b.constructor ≡ a.constructor

-- what has a kind keeps it; what is void may get one
abbrev pub KindsStay : (before behind : List Kind) → Type 0
KindsStay before behind = (i : ℕ) (k : Kind) → slice_get before i ≡ Some k → (k ≡ Void → ⊥)
    → slice_get behind i ≡ Some k

-- more files were entered, or variables with `auto` got their kinds
pub record IsLater (t u : Table) : Type 0 where
  pub more : many t ≤ many u
  pub parents : (c : ℕ) → c < many t → slice_get u.parents c ≡ slice_get t.parents c
  pub funs : Within t.funs u.funs
  pub statics : KindsStay t.statics u.statics
  pub classes : (c : ℕ) → c < many t → SameClass (class_of t c) (class_of u c)

-- what is named by a member -----------------------------------------------------------------------

-- a function in a slot has the types of the one that was named
abbrev pub IsInSlot : Table → (class slot fun : ℕ) → Type 0
IsInSlot t c slot f = (g : ℕ) × (slice_get (all_slots t (line t c)) slot ≡ Some g) × SameTypes (fun_of t g) (fun_of t f)

abbrev pub IsNamed : Table → (owners : List (Option ℕ)) → (class : ℕ) → Member → Type 0
IsNamed t owners c (member.Field i k) = slice_get (all_fields t (line t c)) i ≡ Some k
IsNamed t owners c (member.Static i k) = (slice_get t.statics i ≡ Some k) × ValueIn (many t) k
IsNamed t owners c member.Auto = Unit {0}
IsNamed t owners c (member.Fun f None) = slice_get owners f ≡ Some None
IsNamed t owners c (member.Fun f (Some slot)) = IsInSlot t c slot f × ((a : ℕ) × (slice_get owners f ≡ Some (Some a)))
