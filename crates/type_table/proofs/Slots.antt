-- The slots of a class, member by member.
use Rattle.std.proofs.Common.{◌≡◌, ℕ, zero, suc, ◌+◌, List, [], ◌∷◌, drop, slice_get, Some, refl, ap, ◌∙◌, add-one}
use Rattle.std.specs.Option.{unwrap_or}
use Rattle.ck_syntax.specs.Tree.{Name}
use Rattle.type_table.specs.declared.class.Own.{Own}
use Rattle.type_table.specs.Table.{Table}
use Rattle.type_table.specs.Finished.{with_own, with_all}

cut : {X : Type 0} (xs : List X) (i : ℕ) (x : X) → slice_get xs i ≡ Some x → drop i xs ≡ x ∷ drop (i + 1) xs
cut [] i x is = absurd (cc)
cut (y ∷ xs) zero x is = ap (λ z. z ∷ xs) (ap (λ o. unwrap_or o x) is)
cut (y ∷ xs) (suc i) x is = rw add-one (cut xs i x is ∙ rw add-one refl)

pub next_slot : (t : Table) (above slots : List ℕ) (members : List (Name × Own)) (i : ℕ) (m : Name × Own) → slice_get members i ≡ Some m
    → with_all t above slots (drop i members) ≡ with_all t above (with_own t above slots m) (drop (i + 1) members)
next_slot t above slots members i m is = ap (with_all t above slots) (cut members i m is)
