-- In which file a fault stands.
use Rattle.std.proofs.Common.{◌≡◌, ℕ, Bool, true, false, if◌then◌else◌}
use Rattle.type_table.specs.Answer.{Answer, gives, refused, and_then}

-- what is found is so, and what is wrong stands in this file
abbrev pub Placed : {A : Type 0} → (A → Type 0) → (file : ℕ) → Answer A → Type 0
Placed P f (gives a) = P a
Placed P f (refused why) = why.file ≡ f

-- what is wrong stands in this file, whatever is found
abbrev pub InFile : {A : Type 0} → (file : ℕ) → Answer A → Type 0
InFile f a = Placed (λ _. Unit {0}) f a

-- what is found goes on
pub placed_then : {A B : Type 0} (P : A → Type 0) (Q : B → Type 0) (f : ℕ) (a : Answer A) (next : A → Answer B) → Placed P f a → ((x : A) → P x → Placed Q f (next x)) → Placed Q f (and_then a next)
placed_then P Q f (gives x) next is goes = goes x is
placed_then P Q f (refused why) next is goes = is

-- both ways of a test
pub placed_if : {A : Type 0} (P : A → Type 0) (f : ℕ) (c : Bool) (a b : Answer A) → Placed P f a → Placed P f b → Placed P f (if c then a else b)
placed_if P f true a b one other = one
placed_if P f false a b one other = other

-- the same, whatever is found
pub then_in : {A B : Type 0} (f : ℕ) (a : Answer A) (next : A → Answer B) → InFile f a → ((x : A) → InFile f (next x)) → InFile f (and_then a next)
then_in f (gives x) next is goes = goes x
then_in f (refused why) next is goes = is

pub if_in : {A : Type 0} (f : ℕ) (c : Bool) (a b : Answer A) → InFile f a → InFile f b → InFile f (if c then a else b)
if_in f true a b one other = one
if_in f false a b one other = other
