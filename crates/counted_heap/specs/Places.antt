-- How often values refer to an object.
use Rattle.std.specs.Prelude.{ℕ, ◌+◌, ◌==◌, ◌&&◌, if◌then◌else◌, List, [], ◌∷◌}
use Rattle.ck_values.specs.declared.reference.Ref.{Ref}
use Rattle.ck_values.specs.declared.value.Value.{Value}
use Rattle.ck_values.specs.declared.value.Value.TheVariants.{Int, Float, Dur, Time, Text, Shred, Ref as To}

-- 1 where q is r and isn't null, else 0
unfoldable pub hit : Ref → Ref → ℕ
hit r q =
    if q.serial == 0
    then 0
    else (if (q.serial == r.serial) && (q.slot == r.slot) then 1 else 0)

-- how often a value refers to r
abbrev pub hits : Ref → Value → ℕ
hits r (Int n) = 0
hits r (Float x) = 0
hits r (Dur samples) = 0
hits r (Time samples) = 0
hits r (Text text) = 0
hits r (Shred number) = 0
hits r (To q) = hit r q

-- how often the values of a list do
abbrev pub places : Ref → List Value → ℕ
places r [] = 0
places r (v ∷ vs) = hits r v + places r vs
