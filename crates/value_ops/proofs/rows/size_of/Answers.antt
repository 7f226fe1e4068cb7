use Rattle.std.proofs.Common.{◌≡◌, ℤ, pos, int_lt, true, false, sym, subst, ◌∙◌, w64}
use Rattle.std.proofs.lemmas.Int.{to_z-of_z}
use Rattle.ck_base.specs.declared.limits.TheConstants.{MAX_ITEMS}
use Rattle.value_ops.proofs.Sizes.{size_low, size_high, size_so, abs_is}
use Rattle.value_ops.proofs.rows.size_of.Goals as goal
use Rattle.value_ops.proofs.rows.size_of.Goals.{then-n-lt0-via-then-n-lt0, then-n-lt0-via-else-n-lt0+then-n-gt-MAX_ITEMS}

pub returns-then-n-lt0-clause-end : goal.returns-then-n-lt0-clause-end
returns-then-n-lt0-clause-end c =
    let same = to_z-of_z w64 c.args.n c.ranges.n in
    elim c.then-n-lt0.branch [
      | then-n-lt0-via-then-n-lt0 w ↦
          size_low c.args.n (subst (λ (z : ℤ). int_lt z (pos 0) ≡ true) same w.if-n-lt0.true)
      | then-n-lt0-via-else-n-lt0+then-n-gt-MAX_ITEMS w ↦
          size_high c.args.n
          (subst (λ (z : ℤ). int_lt MAX_ITEMS z ≡ true) same w.if-n-gt-MAX_ITEMS.true)
    ]

pub returns-clause-size : goal.returns-clause-size
returns-clause-size c =
    let same = to_z-of_z w64 c.args.n c.ranges.n in
    size_so c.args.n _ (sym same ∙ abs_is _ c.if-n-lt0.false)
    (subst (λ (z : ℤ). int_lt MAX_ITEMS z ≡ false) same c.if-n-gt-MAX_ITEMS.false)
