-- Texts that are put together piece by piece.
use Rattle.std.proofs.Common.{◌≡◌, ℕ, List, ◌++◌, append_assoc}

-- three pieces behind what stood there
pub three_written : (t0 t1 t2 a b c : List ℕ)
    → t1 ≡ t0 ++ a ++ b → t2 ≡ t1 ++ c → t2 ≡ t0 ++ (a ++ b ++ c)
three_written t0 t1 t2 a b c first second =
    let all : t0 ++ a ++ b ++ c ≡ t0 ++ (a ++ b ++ c) = simp append_assoc in cc

-- four pieces behind what stood there
pub four_written : (t0 t1 t2 t3 t4 a b c d : List ℕ)
    → t1 ≡ t0 ++ a → t2 ≡ t1 ++ b → t3 ≡ t2 ++ c → t4 ≡ t3 ++ d
    → t4 ≡ t0 ++ (a ++ b ++ c ++ d)
four_written t0 t1 t2 t3 t4 a b c d first second third fourth =
    let all : t0 ++ a ++ b ++ c ++ d ≡ t0 ++ (a ++ b ++ c ++ d) = simp append_assoc in cc

-- nine pieces behind what stood there
pub nine_written : (t0 t1 t2 t3 t4 t5 a b c d e f g h i : List ℕ)
    → t1 ≡ t0 ++ a ++ b → t2 ≡ t1 ++ c ++ d → t3 ≡ t2 ++ e ++ f → t4 ≡ t3 ++ g ++ h
    → t5 ≡ t4 ++ i
    → t5 ≡ t0 ++ (a ++ b ++ c ++ d ++ e ++ f ++ g ++ h ++ i)
nine_written t0 t1 t2 t3 t4 t5 a b c d e f g h i first second third fourth fifth =
    let all : t0 ++ a ++ b ++ c ++ d ++ e ++ f ++ g ++ h ++ i
    ≡ t0 ++ (a ++ b ++ c ++ d ++ e ++ f ++ g ++ h ++ i) = simp append_assoc in cc
