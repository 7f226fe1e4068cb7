-- Want of memory.
use Rattle.std.proofs.Common.{◌≡◌, ℕ, ◌<◌, ◌≤◌, Bool, true, false, IsTrue, ◌↔◌, subst, sym, arith}
use Rattle.ck_store.specs.Store.{Try, Gives}
use Rattle.value_ops.specs.Ends.{IsGiven}

-- a value that is known is there
pub is_given : {A : Type 0} (t : Try A) (a : A) → t ≡ Gives a → IsGiven t
is_given {A = A} t a is = subst (λ (t : Try A). IsGiven t) (sym is) tt

-- what a test of a limit says where the limit isn't reached
pub not_past : (b : Bool) (n m : ℕ) → (IsTrue b ↔ (m < n)) → b ≡ false → n ≤ m
not_past b n m is below =
    let so : m < n → ⊥ = λ past. let at : b ≡ true = is.1 past in absurd (cc) in omega arith
