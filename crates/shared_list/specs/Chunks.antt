-- Lists in chunks, of which all but the last are full.
use Rattle.std.specs.Prelude.{◌≡◌, ◌≤◌, ◌<◌, List, [], ◌∷◌, ◌++◌, length}
use Rattle.shared_list.specs.declared.chunk.TheConstants.{CHUNK}

-- the chunks, one after another
abbrev pub joined : {A : Type 0} → List (List A) → List A
joined [] = []
joined (c ∷ cs) = c ++ joined cs

-- each chunk has an item and no more than a full one, and all but the last are full
abbrev pub AreChunks : {A : Type 0} → List (List A) → Type 0
AreChunks [] = Unit {0}
AreChunks (c ∷ cs) =
    (0 < length c) × (length c ≤ CHUNK) × (0 < length cs → length c ≡ CHUNK) × AreChunks cs
