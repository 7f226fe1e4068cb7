-- More pairs of brackets than a type may have.
use Rattle.std.proofs.Common.{◌≡◌, ℕ, zero, suc, ◌≤◌, None, refl, arith}
use Rattle.type_table.specs.declared.types.Named.{Named}
use Rattle.type_table.specs.declared.types.Named.TheVariants as named
use Rattle.type_table.specs.Types.{value_kind}

pub too_many : (n : Named) (brackets : ℕ) → 3 ≤ brackets → value_kind n brackets ≡ None
too_many named.Unknown b le = refl
too_many named.NoType b le = refl
too_many named.Void b le = refl
too_many (named.Elem e) zero le = absurd (omega (arith, le))
too_many (named.Elem e) (suc zero) le = absurd (omega (arith, le))
too_many (named.Elem e) (suc (suc zero)) le = absurd (omega (arith, le))
too_many (named.Elem e) (suc (suc (suc b))) le = refl
