use Rattle.std.proofs.Common.{◌≡◌, ◌^◌, ◌++◌, ◌∙◌, ap, arith, take, length, to_z, w64}
use Rattle.std.proofs.lemmas.List.{take_min, take_all}
use Rattle.ck_lexer.specs.Numbers.{number_in}
use Rattle.ck_lexer.proofs.NumberLemmas.{small_whole, float_is}
use Rattle.ck_lexer.proofs.number.float.Goals as goal

pub returns : goal.returns
returns c =
    let floor = c.in_ok-floor.ensures in
    let counted = c.split_at.result.0.now in
    let i : c.loop-digit.digit-index ≡ length counted = omega arith in
    let all : take c.loop-digit.digit-index counted ≡ counted = take_all c.loop-digit.digit-index counted (omega arith) in (
      float_is c.args.whole.now c.args.decimals.now counted c.loop-digit.number c.loop-digit.scale c.div_ceil-units.result c.from_raw.result
          (c.split_at.ensures.front ∙ ap (λ n. take n c.args.decimals.now) c.min.ensures ∙ take_min 18 c.args.decimals.now)
          (c.loop-digit.invariant.value ∙ ap (λ x. number_in 10 (c.args.whole.now ++ x)) all)
          (c.loop-digit.invariant.scaled ∙ ap (λ n. 10 ^ n) i)
          c.div_ceil-units.ensures
          (c.from_raw.ensures ∙ ap (to_z w64) c.min-2.ensures),
      small_whole _ _ floor.0 floor.1 c.if-floor-gt-MAX_WHOLE.false,
    )
