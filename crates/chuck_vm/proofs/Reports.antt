-- The line of a slice that trapped.
use Rattle.std.proofs.Common.{◌≡◌, ℕ, zero, suc, ◌<◌, ◌≤◌, ℤ, pos, negsuc, List, [], ◌∷◌, ◌++◌, length, codes, decimal, get_or, nat_lt, true, inl, inr, String, string_bytes, refl, sym, ap, ◌∙◌, arith, append_assoc, append-nil}
use Rattle.std.proofs.lemmas.Bool.{le-ltb, cases_lt}
use Rattle.std.specs.Fmt.{signed_decimal as formatted}
use Rattle.std.specs.declared.alloc.Global.{Global}
use Rattle.ck_values.specs.Trap.{trap_name}
use Rattle.ck_run.specs.Report.{signed_decimal, name_of, trap_line}
use Rattle.ck_run.specs.Run.{TrapAt, Wake}
use Rattle.ck_run.specs.Told.{AddsFront}
use Rattle.chuck_vm.specs.Wakes.{names_of}

-- a file that is found has its name
pub name_found : (names : List (String Global)) (file : ℕ) (name : String Global) → file < length names
    → name ≡ get_or names file name → string_bytes name ≡ name_of (names_of names) file
name_found [] file name within at = absurd (omega (arith, within))
name_found (first ∷ names) zero name within at = ap string_bytes at
name_found (first ∷ names) (suc file) name within at = name_found names file name (omega (arith, within)) at

pub within_by : (i n : ℕ) → true ≡ nat_lt i n → i < n
within_by i n e = elim (cases_lt i n) [ inl lt ↦ lt | inr le ↦ absurd (cc (e, le-ltb i n le)) ]

-- and one that isn't has none
pub name_past : (names : List (String Global)) (file : ℕ) → length names ≤ file → name_of (names_of names) file
    ≡ []
name_past [] file past = refl
name_past (first ∷ names) zero past = absurd (omega (arith, past))
name_past (first ∷ names) (suc file) past = name_past names file (omega (arith, past))

same_decimal : (time : ℤ) → signed_decimal time ≡ formatted time
same_decimal (pos n) = refl
same_decimal (negsuc n) = refl

regroup : (a b c d e f g h i : List ℕ) → a ++ b ++ c ++ d ++ e ++ f ++ g ++ h ++ i ≡ a
    ++ (b ++ (c ++ (d ++ (e ++ (f ++ (g ++ (h ++ i)))))))
regroup a b c d e f g h i = simp append_assoc

pub trap_line-is : (names : List (List ℕ)) (wake : Wake) (at : TrapAt) (name file : List ℕ) (shown : ℤ)
    → shown ≡ wake.time → name ≡ trap_name at.trap → file ≡ name_of names at.place.file
    → codes "trap "
    ++ (name ++ (codes " shred "
    ++ (decimal wake.shred
    ++ (codes " sample "
    ++ (formatted shown ++ (32 ∷ (file ++ (58 ∷ (decimal at.place.line ++ (10 ∷ []))))))))))
    ≡ trap_line names wake at
trap_line-is names wake at name file shown time named found =
    let tail : ℤ → List ℕ → List ℕ → List ℕ = λ t name file. codes "trap "
    ++ (name ++ (codes " shred "
    ++ (decimal wake.shred
    ++ (codes " sample "
    ++ (formatted t ++ (32 ∷ (file ++ (58 ∷ (decimal at.place.line ++ (10 ∷ [])))))))))) in
    ap (λ t. tail t name file) time ∙ ap (λ n. tail wake.time n file) named
    ∙ ap (tail wake.time (trap_name at.trap)) found
    ∙ ap (λ digits. codes "trap "
    ++ (trap_name at.trap
    ++ (codes " shred "
    ++ (decimal wake.shred
    ++ (codes " sample "
    ++ (digits ++ (32 ∷ (name_of names at.place.file ++ (58 ∷ (decimal at.place.line ++ (10 ∷ [])))))))))))
    (sym (same_decimal wake.time))
    ∙ sym (regroup (codes "trap ") (trap_name at.trap) (codes " shred ") (decimal wake.shred) (codes " sample ")
    (signed_decimal wake.time) (32 ∷ name_of names at.place.file) (58 ∷ decimal at.place.line) (10 ∷ []))

-- all of it, and none of it
pub all_added : {A : Type 0} (items old new : List A) → new ≡ old ++ items → AddsFront items old new
all_added items old new e = (items, [], sym (append-nil items), e)

pub none_added : {A : Type 0} (items old new : List A) → new ≡ old → AddsFront items old new
none_added items old new e = ([], items, refl, e ∙ sym (append-nil old))
