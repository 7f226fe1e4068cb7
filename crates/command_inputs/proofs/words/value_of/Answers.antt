use Rattle.std.proofs.Common.{◌+◌, ◌-◌, ◌≤◌, get_or, arith}
use Rattle.command_inputs.proofs.Digits.{decimal_more, nine_digits, digit_at}
use Rattle.command_inputs.proofs.words.value_of.Goals as goal

pub overflow_mul-value : goal.overflow_mul-value
overflow_mul-value c =
    omega (
      arith,
      nine_digits (c.loop-digit.digit-index + 1)
          (omega (arith, c.loop-digit-test.true, c.loop-digit.invariant.few)),
      decimal_more c.loop-digit.digit-index c.loop-digit.value 0 c.loop-digit.invariant.below
          (omega arith),
    )

pub overflow_add-value : goal.overflow_add-value
overflow_add-value c =
    let digit = get_or c.args.digits.now c.loop-digit.digit-index 0 in
    let small : digit - 48 ≤ 9 =
    digit_at c.args.digits.now c.loop-digit.digit-index c.loop-digit-test.true
    c.loop-digit.invariant.digits in
    omega (
      arith,
      c.from.ensures,
      nine_digits (c.loop-digit.digit-index + 1)
          (omega (arith, c.loop-digit-test.true, c.loop-digit.invariant.few)),
      decimal_more c.loop-digit.digit-index c.loop-digit.value (digit - 48)
          c.loop-digit.invariant.below small,
    )
