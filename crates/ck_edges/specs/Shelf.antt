-- What a shelf of files tells, and what a read gives.
use Rattle.std.specs.Prelude.{◌≡◌, ℕ, ◌<◌, List, length}
use Rattle.std.specs.Prelude.{Option, Some, None, IfSome, IsSomeAnd}

-- the files of a shelf: the bytes under each name that is there
abbrev pub Files : Type 0
Files = List ℕ → Option (List ℕ)

-- these bytes stand under the name, as far as the shelf tells
abbrev pub HasBytes : Option Files → List ℕ → List ℕ → Type 0
HasBytes told name bytes = IfSome told (λ files. files name ≡ Some bytes)

-- more bytes than so many stand under the name, as far as the shelf tells
abbrev pub IsLonger : Option Files → List ℕ → ℕ → Type 0
IsLonger told name most =
    IfSome told (λ files. IsSomeAnd (files name) (λ bytes. most < length bytes))

-- the shelf tells that nothing stands under the name
abbrev pub IsAbsent : Option Files → List ℕ → Type 0
IsAbsent told name = IsSomeAnd told (λ files. files name ≡ None)
