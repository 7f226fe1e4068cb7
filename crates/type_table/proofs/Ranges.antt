-- What numbers are in range, and of lists.
use Rattle.std.specs.Prelude.{◌≡◌, ℕ, ◌<◌, List, [], ◌∷◌, ◌++◌, length}
use Rattle.ck_values.specs.declared.kind.Elem.{Elem}
use Rattle.ck_values.specs.declared.kind.Elem.TheVariants as elem
use Rattle.ck_values.specs.declared.kind.Kind.{Kind}
use Rattle.ck_values.specs.declared.kind.Kind.TheVariants.{Void, Null, One, Row, Grid}
use Rattle.type_table.specs.Table.{Table, Head}

-- of each
abbrev pub Each : {A : Type 0} → (A → Type 0) → List A → Type 0
Each P [] = Unit {0}
Each P (x ∷ xs) = P x × Each P xs

-- the front of a list
abbrev pub Within : {A : Type 0} → (front all : List A) → Type 0
Within {A} front all = (rest : List A) × (all ≡ front ++ rest)

-- kinds -----------------------------------------------------------------------------------------

-- a class in it is one of so many
abbrev pub ElemIn : (classes : ℕ) → Elem → Type 0
ElemIn n (elem.Class c) = c < n
ElemIn n _ = Unit {0}

abbrev pub KindIn : (classes : ℕ) → Kind → Type 0
KindIn n Void = Unit {0}
KindIn n Null = Unit {0}
KindIn n (One e) = ElemIn n e
KindIn n (Row e) = ElemIn n e
KindIn n (Grid e) = ElemIn n e

-- and a variable may have it
abbrev pub ValueIn : (classes : ℕ) → Kind → Type 0
ValueIn n Void = ⊥
ValueIn n Null = ⊥
ValueIn n (One e) = ElemIn n e
ValueIn n (Row e) = ElemIn n e
ValueIn n (Grid e) = ElemIn n e

-- a result is void, or a value
abbrev pub ResultIn : (classes : ℕ) → Kind → Type 0
ResultIn n Void = Unit {0}
ResultIn n k = ValueIn n k

abbrev pub HeadIn : (classes : ℕ) → Head → Type 0
HeadIn n h = Each (ValueIn n) h.params × ResultIn n h.result

-- how many classes a table has
abbrev pub many : Table → ℕ
many t = length t.classes
