-- Values worked out by hand, in whole numbers without a bound.
use Rattle.std.specs.Prelude.{◌≡◌, ℕ, ◌-◌, ℤ, pos, negsuc, true, false, List, [], codes, replicate, refl}
use Rattle.std.specs.Fmt.{digits}
use Rattle.fixed_point.specs.Decimals.{text_of}
use Rattle.fixed_point.specs.Fix.{nearest_in_range, least, greatest}
use Rattle.ck_values.specs.declared.operator.Op1.TheVariants.{NegInt, NegFloat, NegDur, NotInt, BoolInt, WidenInt, CutFloat}
use Rattle.ck_values.specs.declared.operator.Op2.TheVariants.{AddIntInt, MulIntInt, DivIntInt, ModIntInt, AndIntInt, OrIntInt, XorIntInt, ShlIntInt, ShrIntInt, MulFloatFloat, DivFloatFloat, ModFloatFloat, AddTimeDur, SubTimeTime, MulIntDur, MulFloatDur, DivDurInt, DivDurFloat, DivDurDur, DivTimeDur, ModTimeDur, AddTextText, AddTextInt, AddFloatText, EqTextText, NeRefRef, GtFloatFloat, GeDurDur}
use Rattle.ck_values.specs.declared.trap.Trap.TheVariants.{DivisionByZero, StringLimit, ArrayOutOfBounds}
use Rattle.ugen_kinds.specs.Words.{words_from, first_words}
use Rattle.ck_values.specs.Datum.{Datum, AnInt, AFloat, ADur, ATime, AText, AShred, ARef}
use Rattle.ck_store.specs.Store.{Gives, Fails, Misfit}
use Rattle.ck_store.specs.Steps.{int_units, is_zero}
use Rattle.ck_store.specs.Strings.{printed, char_at, substring}
use Rattle.ck_store.specs.Operators.{binary, unary}
use Rattle.ck_store.specs.Random.{int_drawn, float_drawn}

-- -n, for n above 0
abbrev minus : ℕ → ℤ
minus n = negsuc (n - 1)

-- a float of so many units of 2^-32
abbrev half : ℤ
half = pos 2147483648

abbrev string : List ℕ → Datum
string bytes = AText bytes

-- `10::ms`, and `10 * ms`, where `ms` by itself is 44 samples
exact_unit : int_units (pos 441) (pos 10) (AnInt (pos 10)) ≡ Gives (ADur (pos 441))
unfolding int_units nearest_in_range
exact_unit = refl

whole_unit : binary MulIntDur (AnInt (pos 10)) (ADur (pos 44)) ≡ Gives (ADur (pos 440))
unfolding binary nearest_in_range
whole_unit = refl

-- the literal 0.1 is 429,496,730 units
a_tenth : printed true (AFloat (pos 429496730)) ≡ codes "0.100000"
unfolding text_of digits
a_tenth = refl

a_third : binary DivFloatFloat (AFloat (pos 4294967296)) (AFloat (pos 12884901888))
    ≡ Gives (AFloat (pos 1431655765))
unfolding binary nearest_in_range
a_third = refl

a_third_in_print : printed true (AFloat (pos 1431655765)) ≡ codes "0.333333"
unfolding text_of digits
a_third_in_print = refl

minus_a_third : binary DivFloatFloat (AFloat (minus 4294967296)) (AFloat (pos 12884901888))
    ≡ Gives (AFloat (minus 1431655766))
unfolding binary nearest_in_range
minus_a_third = refl

minus_a_third_in_print : printed true (AFloat (minus 1431655766)) ≡ codes "-0.333333"
unfolding text_of digits
minus_a_third_in_print = refl

past_the_greatest : binary AddIntInt (AnInt greatest) (AnInt (pos 1)) ≡ Gives (AnInt least)
unfolding binary
past_the_greatest = refl

least_in_print : printed true (AnInt least) ≡ codes "-9223372036854775808"
unfolding digits
least_in_print = refl

-- `"x" + 3` is "x3"; of that, `substring(0, 1)` is "x" and `charAt(1)` is 51
text_and_int : binary AddTextInt (string (codes "x")) (AnInt (pos 3)) ≡ Gives (string (codes "x3"))
unfolding binary digits
text_and_int = refl

first_byte : substring (codes "x3") (pos 0) (pos 1) ≡ Gives (codes "x")
unfolding substring
first_byte = refl

second_byte : char_at (codes "x3") (pos 1) ≡ Gives (pos 51)
unfolding char_at
second_byte = refl

-- ints
product_wraps : binary MulIntInt (AnInt (pos 3037000500)) (AnInt (pos 3037000500))
    ≡ Gives (AnInt (minus 9223372036709301616))
unfolding binary
product_wraps = refl

cut_toward_zero : binary DivIntInt (AnInt (minus 7)) (AnInt (pos 2)) ≡ Gives (AnInt (minus 3))
unfolding binary
cut_toward_zero = refl

dividends_sign : binary ModIntInt (AnInt (minus 7)) (AnInt (pos 2)) ≡ Gives (AnInt (minus 1))
unfolding binary
dividends_sign = refl

not_divisors_sign : binary ModIntInt (AnInt (pos 7)) (AnInt (minus 2)) ≡ Gives (AnInt (pos 1))
unfolding binary
not_divisors_sign = refl

least_over_minus_one : binary DivIntInt (AnInt least) (AnInt (minus 1)) ≡ Gives (AnInt least)
unfolding binary
least_over_minus_one = refl

nothing_left_of_least : binary ModIntInt (AnInt least) (AnInt (minus 1)) ≡ Gives (AnInt (pos 0))
unfolding binary
nothing_left_of_least = refl

no_quotient : binary DivIntInt (AnInt (pos 5)) (AnInt (pos 0)) ≡ Fails DivisionByZero
unfolding binary
no_quotient = refl

common_bits : binary AndIntInt (AnInt (minus 6)) (AnInt (pos 11)) ≡ Gives (AnInt (pos 10))
unfolding binary
common_bits = refl

bits_of_either : binary OrIntInt (AnInt (minus 6)) (AnInt (pos 11)) ≡ Gives (AnInt (minus 5))
unfolding binary
bits_of_either = refl

bits_of_one : binary XorIntInt (AnInt (minus 6)) (AnInt (pos 11)) ≡ Gives (AnInt (minus 15))
unfolding binary
bits_of_one = refl

-- by 65 bits a shift goes by one, and by -1 bits it goes by 63
shifted_by_65 : binary ShlIntInt (AnInt (pos 3)) (AnInt (pos 65)) ≡ Gives (AnInt (pos 6))
unfolding binary
shifted_by_65 = refl

shifted_out : binary ShlIntInt (AnInt (minus 1)) (AnInt (minus 1)) ≡ Gives (AnInt least)
unfolding binary
shifted_out = refl

shifted_down : binary ShrIntInt (AnInt (minus 7)) (AnInt (pos 1)) ≡ Gives (AnInt (minus 4))
unfolding binary
shifted_down = refl

sign_kept : binary ShrIntInt (AnInt least) (AnInt (minus 1)) ≡ Gives (AnInt (minus 1))
unfolding binary
sign_kept = refl

least_negated : unary NegInt (AnInt least) ≡ Gives (AnInt least)
unfolding unary
least_negated = refl

not_zero : unary NotInt (AnInt (pos 0)) ≡ Gives (AnInt (pos 1))
unfolding unary is_zero
not_zero = refl

some_is_true : unary BoolInt (AnInt (minus 2)) ≡ Gives (AnInt (pos 1))
unfolding unary is_zero
some_is_true = refl

-- floats
product_floored : binary MulFloatFloat (AFloat (minus 1)) (AFloat (pos 1))
    ≡ Gives (AFloat (minus 1))
unfolding binary nearest_in_range
product_floored = refl

product_clamped : binary MulFloatFloat (AFloat least) (AFloat greatest) ≡ Gives (AFloat least)
unfolding binary nearest_in_range
product_clamped = refl

negative_divisor : binary DivFloatFloat (AFloat (pos 4294967296)) (AFloat (minus 12884901888))
    ≡ Gives (AFloat (minus 1431655766))
unfolding binary nearest_in_range
negative_divisor = refl

quotient_clamped : binary DivFloatFloat (AFloat least) (AFloat (minus 1)) ≡ Gives (AFloat greatest)
unfolding binary nearest_in_range
quotient_clamped = refl

-- what -3.5 / 2 leaves is -1.5
raw_remainder : binary ModFloatFloat (AFloat (minus 15032385536)) (AFloat (pos 8589934592))
    ≡ Gives (AFloat (minus 6442450944))
unfolding binary
raw_remainder = refl

float_negated : unary NegFloat (AFloat least) ≡ Gives (AFloat greatest)
unfolding unary nearest_in_range
float_negated = refl

widened : unary WidenInt (AnInt least) ≡ Gives (AFloat least)
unfolding unary nearest_in_range
widened = refl

-- -1.5 as an int
cut : unary CutFloat (AFloat (minus 6442450944)) ≡ Gives (AnInt (minus 1))
unfolding unary
cut = refl

-- durs and times
last_time : binary AddTimeDur (ATime greatest) (ADur (pos 1)) ≡ Gives (ATime greatest)
unfolding binary nearest_in_range
last_time = refl

time_between : binary SubTimeTime (ATime (pos 3)) (ATime (pos 5)) ≡ Gives (ADur (minus 2))
unfolding binary nearest_in_range
time_between = refl

dur_negated : unary NegDur (ADur least) ≡ Gives (ADur greatest)
unfolding unary nearest_in_range
dur_negated = refl

-- half of three samples before is two samples before
half_of_three : binary MulFloatDur (AFloat half) (ADur (minus 3)) ≡ Gives (ADur (minus 2))
unfolding binary nearest_in_range
half_of_three = refl

dur_floored : binary DivDurInt (ADur (pos 7)) (AnInt (minus 2)) ≡ Gives (ADur (minus 4))
unfolding binary nearest_in_range
dur_floored = refl

least_dur_over : binary DivDurInt (ADur least) (AnInt (minus 1)) ≡ Gives (ADur greatest)
unfolding binary nearest_in_range
least_dur_over = refl

-- seven samples over 3.0 are two
dur_over_float : binary DivDurFloat (ADur (pos 7)) (AFloat (pos 12884901888)) ≡ Gives (ADur (pos 2))
unfolding binary nearest_in_range
dur_over_float = refl

-- `now / second` after two seconds
seconds : binary DivTimeDur (ATime (pos 88200)) (ADur (pos 44100)) ≡ Gives (AFloat (pos 8589934592))
unfolding binary nearest_in_range
seconds = refl

no_ratio : binary DivDurDur (ADur (pos 7)) (ADur (pos 0)) ≡ Fails DivisionByZero
unfolding binary
no_ratio = refl

rest_of_time : binary ModTimeDur (ATime (minus 7)) (ADur (pos 2)) ≡ Gives (ADur (minus 1))
unfolding binary
rest_of_time = refl

-- strings
float_and_text : binary AddFloatText (AFloat (minus 2147483648)) (string (codes "s"))
    ≡ Gives (string (codes "-0.500000s"))
unfolding binary text_of digits
float_and_text = refl

same_bytes : binary EqTextText (string (codes "ab")) (string (codes "ab")) ≡ Gives (AnInt (pos 1))
unfolding binary
same_bytes = refl

-- 65,536 bytes are a string, and one more is none
abbrev longest : List ℕ
longest = replicate 65536 97

as_long_as_may_be : binary AddTextText (string longest) (string []) ≡ Gives (string longest)
unfolding binary
as_long_as_may_be = refl

too_long : binary AddTextText (string longest) (string (codes "a")) ≡ Fails StringLimit
unfolding binary
too_long = refl

before_the_string : char_at (codes "x3") (minus 1) ≡ Fails ArrayOutOfBounds
unfolding char_at
before_the_string = refl

after_the_string : char_at (codes "x3") (pos 2) ≡ Fails ArrayOutOfBounds
unfolding char_at
after_the_string = refl

nothing_at_the_end : substring (codes "x3") (pos 2) (pos 0) ≡ Gives []
unfolding substring
nothing_at_the_end = refl

past_the_end : substring (codes "x3") (pos 1) (pos 2) ≡ Fails ArrayOutOfBounds
unfolding substring
past_the_end = refl

fewer_than_none : substring (codes "x3") (pos 1) (minus 1) ≡ Fails ArrayOutOfBounds
unfolding substring
fewer_than_none = refl

-- prints
in_quotes : printed true (string (codes "a")) ≡ codes "\"a\""
in_quotes = refl

among_others : printed false (string (codes "a")) ≡ codes "a"
among_others = refl

an_object : printed true (ARef 12) ≡ codes "#12"
unfolding digits
an_object = refl

no_object : printed false (ARef 0) ≡ codes "null"
no_object = refl

a_shred : printed true (AShred 7) ≡ codes "7"
unfolding digits
a_shred = refl

no_shred : printed false (AShred 0) ≡ codes "null"
no_shred = refl

-- tests
another_object : binary NeRefRef (ARef 3) (ARef 0) ≡ Gives (AnInt (pos 1))
unfolding binary
another_object = refl

not_greater : binary GtFloatFloat (AFloat half) (AFloat half) ≡ Gives (AnInt (pos 0))
unfolding binary
not_greater = refl

not_less : binary GeDurDur (ADur (minus 1)) (ADur (minus 1)) ≡ Gives (AnInt (pos 1))
unfolding binary
not_less = refl

-- an operator takes no other operands
no_ints : binary AddIntInt (AnInt (pos 1)) (AFloat half) ≡ Misfit
unfolding binary
no_ints = refl

-- random numbers: a run's first two words are 0xa15c02b7 and 0x7b47f409
a_digit : (int_drawn (pos 0) (pos 9) first_words).number ≡ pos 5
unfolding int_drawn words_from
a_digit = refl

in_either_order : (int_drawn (pos 9) (pos 0) first_words).number ≡ pos 5
unfolding int_drawn words_from
in_either_order = refl

below_zero : (float_drawn (negsuc 4294967295) (pos 0) first_words).number ≡ negsuc 1587805512
unfolding float_drawn words_from
below_zero = refl
