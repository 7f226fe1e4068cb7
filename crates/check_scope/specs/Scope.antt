-- Where an expression stands: its file, class and function, and the names declared around it.
use Rattle.std.specs.Prelude.{◌≡◌, ℕ, ◌+◌, nat_eq, Bool, true, false, ◌&&◌, not, List, [], ◌∷◌, ◌++◌, length, find, Option, Some, None, slice_get, max, if◌then◌else◌}
use Rattle.std.specs.BTreeMap.{BTreeMap, IsOrdered, get}
use Rattle.std.specs.List.{list_any}
use Rattle.std.specs.Option.{option_map}
use Rattle.std.specs.Ordering.{nat_cmp}
use Rattle.std.specs.Str.{bytes_eq}
use Rattle.ck_values.specs.declared.kind.Kind.{Kind}
use Rattle.ck_values.specs.declared.kind.Kind.TheVariants.{Void}
use Rattle.ck_values.specs.declared.trap.Place.{Place}
use Rattle.ck_syntax.specs.Tree.{Name}
use Rattle.type_table.specs.declared.table.Variable.{Variable}
use Rattle.type_table.specs.Names.{lookup, is_some, or_else}
use Rattle.type_table.specs.Table.{Table, fun_of}

-- the file variables below the number `reached` were declared before; the kinds that declarations
-- with `auto` gave to file variables so far, by their numbers; the kinds of all locals declared so
-- far, in order; the locals by name: those of the function's own level, and of each open block, the
-- innermost last; and the members in whose own arguments it stands, the innermost last
pub record Scope : Type 0 where
  pub file : ℕ
  pub class : Option ℕ
  pub fun : Option ℕ
  pub reached : ℕ
  pub settled : List (ℕ × Kind)
  pub locals : List Kind
  pub own : List (Name × ℕ)
  pub blocks : List (List (Name × ℕ))
  pub unseen : List Name

abbrev pub new_scope : (file : ℕ) → (class fun : Option ℕ) → (settled : List (ℕ × Kind)) → Scope
new_scope file class fun settled =
    record {
      file = file;
      class = class;
      fun = fun;
      reached = 0;
      settled = settled;
      locals = [];
      own = [];
      blocks = [];
      unseen = [];
    }

-- the file variables below this number are seen
abbrev pub reach : Scope → ℕ → Scope
reach s statics = record s { reached = max s.reached statics }

-- a declaration with `auto` gives a file variable its kind, and it is seen from then on
abbrev pub settle : Scope → ℕ → Kind → Scope
settle s i k = record (reach s (i + 1)) { settled = s.settled ++ (i, k) ∷ [] }

-- the kind of a file variable: the one that was settled, or else that of the table
abbrev pub settled_or : Kind → Option (ℕ × Kind) → Kind
settled_or k None = k
settled_or k (Some settled) = settled.1

-- the first of this number
abbrev pub settled_at : ℕ → List (ℕ × Kind) → Option (ℕ × Kind)
settled_at i settled = find (λ one. nat_eq one.0 i) settled

-- a map from numbers to their kinds has just these, in order of the numbers
pub record AreFound (kinds : BTreeMap ℕ Kind) (settled : List (ℕ × Kind)) : Type 0 where
  pub ordered : IsOrdered nat_cmp kinds
  pub found : (i : ℕ) → get nat_cmp kinds i ≡ option_map (λ one. one.1) (settled_at i settled)

abbrev pub kind_now : Scope → Variable → Kind
kind_now s v = settled_or v.kind (settled_at v.index s.settled)

abbrev pub with_block : Scope → Scope
with_block s = record s { blocks = s.blocks ++ [] ∷ [] }

-- all but the last
abbrev pub front : {A : Type 0} → List A → List A
front [] = []
front (x ∷ []) = []
front (x ∷ y ∷ rest) = x ∷ front (y ∷ rest)

abbrev pub without_block : Scope → Scope
without_block s = record s { blocks = front s.blocks }

-- in blocks: what an inner one has hides what an outer one has
abbrev pub local_in : List (List (Name × ℕ)) → Name → Option ℕ
local_in [] n = None
local_in (block ∷ inner) n = or_else (local_in inner n) (lookup n block)

-- the number of the local of this name
abbrev pub local_named : Scope → Name → Option ℕ
local_named s n = or_else (local_in s.blocks n) (lookup n s.own)

-- the innermost level: that of the last block, or the own one where no block is open
abbrev pub last_or : List (Name × ℕ) → List (List (Name × ℕ)) → List (Name × ℕ)
last_or own [] = own
last_or own (block ∷ rest) = last_or block rest

-- the innermost level has a local of this name
abbrev pub is_declared : Scope → Name → Bool
is_declared s n = is_some (lookup n (last_or s.own s.blocks))

abbrev pub with_last : List (List (Name × ℕ)) → Name × ℕ → List (List (Name × ℕ))
with_last [] entry = []
with_last (block ∷ []) entry = (block ++ entry ∷ []) ∷ []
with_last (block ∷ next ∷ rest) entry = block ∷ with_last (next ∷ rest) entry

abbrev pub own_with : List (List (Name × ℕ)) → List (Name × ℕ) → Name × ℕ → List (Name × ℕ)
own_with [] own entry = own ++ entry ∷ []
own_with (block ∷ rest) own entry = own

-- one local more, in the innermost level
abbrev pub with_local : Scope → Name → Kind → Scope
with_local s n k =
    record s {
      locals = s.locals ++ k ∷ [];
      own = own_with s.blocks s.own (n, length s.locals);
      blocks = with_last s.blocks (n, length s.locals);
    }

-- the type of a local
abbrev pub or_void : Option Kind → Kind
or_void None = Void
or_void (Some k) = k

abbrev pub local_kind : Scope → ℕ → Kind
local_kind s i = or_void (slice_get s.locals i)

-- the place of a line
abbrev pub place : Scope → ℕ → Place
place s line = record { file = s.file; line = line }

abbrev pub is_static_fun : Table → (fun : Option ℕ) → Bool
is_static_fun t None = false
is_static_fun t (Some f) = (fun_of t f).is_static

-- the number of `this`: the first local of a class's statements, and of its functions that aren't
-- static
abbrev pub this_local : Table → Scope → Option ℕ
this_local t s = if is_some s.class && not (is_static_fun t s.fun) then Some 0 else None

abbrev pub is_empty : {A : Type 0} → List A → Bool
is_empty [] = true
is_empty (x ∷ rest) = false

-- the statements of a file
abbrev pub is_top : Scope → Bool
is_top s = not (is_some s.class) && not (is_some s.fun)

-- what is declared here is a file variable, or a member of the class: it stands in no function and
-- in no block
abbrev pub declares_globals : Scope → Bool
declares_globals s = not (is_some s.fun) && is_empty s.blocks

-- only what declares file variables settles any
abbrev pub settles : Scope → Bool
settles s = declares_globals s && not (is_some s.class)

-- what is declared here is a member of the class
abbrev pub declares_members : Scope → Bool
declares_members s = declares_globals s && is_some s.class

-- a member isn't seen in its own arguments
abbrev pub in_arguments : Scope → Name → Scope
in_arguments s n =
    record s { unseen = if declares_members s then s.unseen ++ n ∷ [] else s.unseen }

-- behind them it is seen again
abbrev pub behind_arguments : Scope → Scope
behind_arguments s = record s { unseen = if declares_members s then front s.unseen else s.unseen }

abbrev pub is_unseen : Scope → Name → Bool
is_unseen s n = list_any (bytes_eq n) s.unseen
