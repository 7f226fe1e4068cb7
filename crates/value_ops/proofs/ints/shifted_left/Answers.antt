-- A shift to the left is a product, modulo 2^64.
use Rattle.std.proofs.Common.{ap, rules, ◌∙◌, pos, ◌%◌, ◌*ℤ◌, ◌^◌, FitsSigned}
use Rattle.std.specs.Int.{w64, int_shl}
use Rattle.std.proofs.lemmas.Int.{to_z-of_z}
use Rattle.ck_store.specs.Operators.{wrapped, low_six}
use Rattle.value_ops.proofs.Wraps.{wrapped_shift}
use Rattle.value_ops.proofs.ints.shifted_left.Goals as goal

pub returns : goal.returns
returns c =
    let a = c.args.a in
    let bits = c.low_six.result in
    let fits : FitsSigned w64 c.wrapping_shl.result = search rules in
    to_z-of_z w64 c.wrapping_shl.result fits
    ∙ c.wrapping_shl.ensures
    ∙ ap (λ x. int_shl w64 x (bits % 64)) (to_z-of_z w64 a c.ranges.a)
    ∙ wrapped_shift a bits c.low_six.ensures.bound c.ranges.a
    ∙ ap (λ k. wrapped (a *ℤ pos (2 ^ k)))
    (c.low_six.ensures.value ∙ ap low_six (to_z-of_z w64 c.args.b c.ranges.b))
