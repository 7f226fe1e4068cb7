-- The functions of a program beside those of the table.
use Rattle.std.specs.Prelude.{◌≡◌, ℕ, List, [], ◌∷◌, ◌++◌, Option, Some, None}
use Rattle.ck_values.specs.declared.kind.Elem.TheVariants as elem
use Rattle.ck_values.specs.declared.kind.Kind.{Kind}
use Rattle.ck_values.specs.declared.kind.Kind.TheVariants.{One}
use Rattle.ck_typed.specs.Tree.{Fun}
use Rattle.first_walk.proofs.TableFacts.{Entry}
use Rattle.ck_typed.specs.Standing.{given}
use Rattle.ck_typed.specs.WellFormed.{params_of}

-- one by one
abbrev pub Zip : {A B : Type 0} → (A → B → Type 0) → List A → List B → Type 0
Zip P [] [] = Unit {0}
Zip P [] (y ∷ ys) = ⊥
Zip P (x ∷ xs) [] = ⊥
Zip P (x ∷ xs) (y ∷ ys) = P x y × Zip P xs ys

-- the object that a function takes first
abbrev pub this_of : (owner : Option ℕ) → List Kind
this_of None = []
this_of (Some c) = One (elem.Class c) ∷ []

-- a function has the types of the table
abbrev pub Matches : Fun → Entry → Type 0
Matches fn entry =
    (params_of fn ≡ this_of entry.1 ++ entry.0.params) × (fn.result ≡ given entry.0.result)
