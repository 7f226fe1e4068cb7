-- How much room there is for numbers of 32 bits, and in each class; and which numbers classes have.
use Rattle.std.specs.Prelude.{◌≡◌, ℕ, suc, ◌+◌, ◌<◌, ◌≤◌, List, [], ◌∷◌, length, Option, Some, None}
use Rattle.ck_base.specs.declared.limits.TheConstants.{MAX_FILE_TOKENS}
use Rattle.ck_syntax.specs.declared.file.Item.{Item as FileItem}
use Rattle.ck_syntax.specs.Tree as tree
use Rattle.ck_syntax.specs.Tree.{Name, Item, class_item, fun_item, stmt_item, no_items, and_item}
use Rattle.ck_syntax.specs.View.{view_item}
use Rattle.type_table.specs.Names.{lookup}
use Rattle.type_table.specs.Table.{Table, class_of, file_of}
use Rattle.first_walk.specs.FirstWalk.{own_class}

-- how many classes, parents, functions and static variables are entered
abbrev pub entries : Table → ℕ
entries t = length t.classes + length t.parents + length t.funs + length t.statics

-- how many fields and slots a class itself has
abbrev pub declared : (class : ℕ) → Table → ℕ
declared c t = length (class_of t c).fields + (class_of t c).slots

-- or who declares, where it is a class
abbrev pub declared_by : (class : Option ℕ) → Table → ℕ
declared_by None t = 0
declared_by (Some c) t = declared c t

-- who declares in an item of a file has room for so many fields and slots more
abbrev pub HasRoom : Table → (file more : ℕ) → Item → Type 0
HasRoom t f more (class_item (tree.class l is_public n parent ms)) =
    declared (own_class t f n) t + more ≤ MAX_FILE_TOKENS
HasRoom t f more (fun_item g) = Unit {0}
HasRoom t f more (stmt_item s) = more ≤ MAX_FILE_TOKENS

abbrev pub HaveRoom : Table → (file more : ℕ) → tree.File → Type 0
HaveRoom t f more no_items = Unit {0}
HaveRoom t f more (and_item xs x) = HaveRoom t f more xs × HasRoom t f more x

-- the classes that a file declares are some of the table's
pub record FileReady (f : ℕ) (t : Table) : Type 0 where
  pub file : f < length t.files
  pub object : 0 < length t.classes
  pub inner : (n : Name) (c : ℕ) → lookup n (file_of t f).classes ≡ Some c → c < length t.classes

-- an item that is a class has this number
abbrev pub HasNumber : Table → (file class : ℕ) → Item → Type 0
HasNumber t f c (class_item (tree.class l is_public n parent ms)) = own_class t f n ≡ c
HasNumber t f c (fun_item g) = Unit {0}
HasNumber t f c (stmt_item s) = Unit {0}

-- the number of the next class, after that of an item
abbrev pub next_class : ℕ → Item → ℕ
next_class c (class_item d) = suc c
next_class c (fun_item g) = c
next_class c (stmt_item s) = c

-- the classes of a file are numbered in text order, from the first on
abbrev pub AreNumbered : Table → (file first : ℕ) → List FileItem → Type 0
AreNumbered t f c [] = Unit {0}
AreNumbered t f c (x ∷ xs) =
    HasNumber t f c (view_item x) × AreNumbered t f (next_class c (view_item x)) xs
