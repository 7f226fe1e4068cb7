use Rattle.std.proofs.Common.{◌≡◌, ℤ, pos, int_lt, true, sym, subst, ◌∙◌, w64, to_z, of_z}
use Rattle.std.proofs.lemmas.Int.{to_z-of_z}
use Rattle.ck_base.specs.declared.limits.TheConstants.{MAX_ITEMS}
use Rattle.value_ops.proofs.Sizes.{sizes_low, sizes_narrow, sizes_long, sizes_many, sizes_so, abs_is, few_is, many_is, all_is}
use Rattle.value_ops.proofs.rows.sizes.Goals as goal
use Rattle.value_ops.proofs.rows.sizes.Goals.{then-n-lt0-via-then-n-lt0, then-n-lt0-via-else-n-lt0+then-m-lt0, then-n-lt0-via-else-n-lt0+else-m-lt0+then-n-gt-MAX_ITEMS}

pub returns-then-n-lt0-clause-end : goal.returns-then-n-lt0-clause-end
returns-then-n-lt0-clause-end c =
    let n = c.args.n in
    let m = c.args.m in
    let same = to_z-of_z w64 n c.ranges.n in
    let also = to_z-of_z w64 m c.ranges.m in
    elim c.then-n-lt0.branch [
      | then-n-lt0-via-then-n-lt0 w ↦
          sizes_low n m (subst (λ (z : ℤ). int_lt z (pos 0) ≡ true) same w.if-n-lt0.true)
      | then-n-lt0-via-else-n-lt0+then-m-lt0 w ↦
          sizes_narrow n m (subst (λ (z : ℤ). int_lt z (pos 0) ≡ true) also w.if-m-lt0.true)
      | then-n-lt0-via-else-n-lt0+else-m-lt0+then-n-gt-MAX_ITEMS w ↦
          sizes_long n m
          (subst (λ (z : ℤ). int_lt MAX_ITEMS z ≡ true) same w.if-n-gt-MAX_ITEMS.true)
    ]

pub returns-then-saturating_mul-clause-end : goal.returns-then-saturating_mul-clause-end
returns-then-saturating_mul-clause-end c =
    let same = to_z-of_z w64 c.args.n c.ranges.n in
    let also = to_z-of_z w64 c.args.m c.ranges.m in
    sizes_many c.args.n c.args.m _ _ (sym same ∙ abs_is _ c.if-n-lt0.false)
    (sym also ∙ abs_is _ c.if-m-lt0.false)
    (many_is _ _ c.saturating_mul.ensures c.if-saturating_mul.true)

pub returns-clause-sizes : goal.returns-clause-sizes
returns-clause-sizes c =
    let same = to_z-of_z w64 c.args.n c.ranges.n in
    let also = to_z-of_z w64 c.args.m c.ranges.m in
    sizes_so c.args.n c.args.m _ _ (sym same ∙ abs_is _ c.if-n-lt0.false)
    (sym also ∙ abs_is _ c.if-m-lt0.false)
    (few_is (to_z w64 (of_z w64 c.args.n)) _ (abs_is _ c.if-n-lt0.false) c.if-n-gt-MAX_ITEMS.false)
    (all_is _ _ c.saturating_mul.ensures c.if-saturating_mul.false)
