-- What the operators give.
use Rattle.std.specs.Prelude.{ℕ, zero, ◌^◌, ℤ, pos, ◌+ℤ◌, ◌-ℤ◌, ◌*ℤ◌, neg_ℤ, int_div, int_rem, unsigned_abs, int_lt, int_le, Bool, true, false, not, List, ◌++◌, length, nat_le, nat_eq, bytes_eq}
use Rattle.std.specs.Int.{w64, int_rem_euclid, int_bit_and, int_bit_or, int_bit_xor}
use Rattle.std.specs.Ordering.{int_eq}
use Rattle.fixed_point.specs.Rounding.{floor_div}
use Rattle.fixed_point.specs.Fix.{nearest_in_range, sum_of, difference_of, product_of, quotient_of, remainder_of, negation_of, float_of, whole_of}
use Rattle.ck_base.specs.declared.limits.TheConstants.{MAX_TEXT_BYTES}
use Rattle.ck_values.specs.declared.operator.Op1.{Op1}
use Rattle.ck_values.specs.declared.operator.Op1.TheVariants.{NegInt, NegFloat, NegDur, NotInt, BoolInt, WidenInt, CutFloat}
use Rattle.ck_values.specs.declared.operator.Op2.{Op2}
use Rattle.ck_values.specs.declared.operator.Op2.TheVariants.{AddIntInt, SubIntInt, MulIntInt, DivIntInt, ModIntInt, AddFloatFloat, SubFloatFloat, MulFloatFloat, DivFloatFloat, ModFloatFloat, AndIntInt, OrIntInt, XorIntInt, ShlIntInt, ShrIntInt, AddDurDur, SubDurDur, AddTimeDur, AddDurTime, SubTimeDur, SubTimeTime, MulIntDur, MulFloatDur, MulDurInt, MulDurFloat, DivDurInt, DivDurFloat, DivDurDur, DivTimeDur, ModDurDur, ModTimeDur, AddTextText, AddTextInt, AddTextFloat, AddIntText, AddFloatText, EqIntInt, EqFloatFloat, EqDurDur, EqTimeTime, EqTextText, EqRefRef, EqShredShred, NeIntInt, NeFloatFloat, NeDurDur, NeTimeTime, NeTextText, NeRefRef, NeShredShred, LtIntInt, LtFloatFloat, LtDurDur, LtTimeTime, GtIntInt, GtFloatFloat, GtDurDur, GtTimeTime, LeIntInt, LeFloatFloat, LeDurDur, LeTimeTime, GeIntInt, GeFloatFloat, GeDurDur, GeTimeTime}
use Rattle.ck_values.specs.declared.trap.Trap.TheVariants.{DivisionByZero, StringLimit}
use Rattle.ck_values.specs.Datum.{Datum, AnInt, AFloat, ADur, ATime, AText, AShred, ARef}
use Rattle.ck_store.specs.Store.{Try, Gives, Fails, Misfit}
use Rattle.ck_store.specs.Steps.{and_then, pick, is_zero}
use Rattle.ck_store.specs.Strings.{printed}

-- operands --------------------------------------------------------------------------------------

-- the number of an int
abbrev pub int_in : Datum → Try ℤ
int_in (AnInt n) = Gives n
int_in _ = Misfit

-- the raw number of a float
abbrev pub float_in : Datum → Try ℤ
float_in (AFloat x) = Gives x
float_in _ = Misfit

-- the samples of a dur
abbrev pub dur_in : Datum → Try ℤ
dur_in (ADur samples) = Gives samples
dur_in _ = Misfit

-- the samples of a time
abbrev pub time_in : Datum → Try ℤ
time_in (ATime samples) = Gives samples
time_in _ = Misfit

-- the bytes of a string
abbrev pub string_in : Datum → Try (List ℕ)
string_in (AText bytes) = Gives bytes
string_in _ = Misfit

-- the number of a shred
abbrev pub shred_in : Datum → Try ℕ
shred_in (AShred n) = Gives n
shred_in _ = Misfit

-- the number of the object that a reference means
abbrev pub object_in : Datum → Try ℕ
object_in (ARef n) = Gives n
object_in _ = Misfit

-- goes on with two operands
abbrev pub with_both : {A B C : Type 0} → Try A → Try B → (A → B → Try C) → Try C
with_both a b go = and_then a (λ x. and_then b (λ y. go x y))

-- numbers ---------------------------------------------------------------------------------------

-- the int that agrees with z modulo 2^64
abbrev pub wrapped : ℤ → ℤ
wrapped z = int_rem_euclid (z +ℤ pos (2 ^ 63)) (pos (2 ^ 64)) -ℤ pos (2 ^ 63)

-- the low six bits of an int: by how many bits a shift goes
abbrev pub low_six : ℤ → ℕ
low_six n = unsigned_abs (int_rem_euclid n (pos 64))

-- of two numbers a number, of the type that `make` says
abbrev pub of_both : (make : ℤ → Datum) → (ℤ → ℤ → ℤ) → Try ℤ → Try ℤ → Try Datum
of_both make f a b = with_both a b (λ x y. Gives (make (f x y)))

-- the result for a divisor that isn't zero
abbrev pub unless_zero : (divisor : ℤ) → Datum → Try Datum
unless_zero (pos zero) v = Fails DivisionByZero
unless_zero _ v = Gives v

-- of a number and a divisor a number; a zero divisor is a trap
abbrev pub of_divisor : (make : ℤ → Datum) → (ℤ → ℤ → ℤ) → Try ℤ → Try ℤ → Try Datum
of_divisor make f a b = with_both a b (λ x y. unless_zero y (make (f x y)))

-- an int of two ints
abbrev pub of_ints : (ℤ → ℤ → ℤ) → Datum → Datum → Try Datum
of_ints f a b = of_both AnInt f (int_in a) (int_in b)

-- an int of an int and a divisor
abbrev pub over_int : (ℤ → ℤ → ℤ) → Datum → Datum → Try Datum
over_int f a b = of_divisor AnInt f (int_in a) (int_in b)

-- a float of two floats
abbrev pub of_floats : (ℤ → ℤ → ℤ) → Datum → Datum → Try Datum
of_floats f a b = of_both AFloat f (float_in a) (float_in b)

-- a float of a float and a divisor
abbrev pub over_float : (ℤ → ℤ → ℤ) → Datum → Datum → Try Datum
over_float f a b = of_divisor AFloat f (float_in a) (float_in b)

-- strings ---------------------------------------------------------------------------------------

-- a string of these bytes; one that is too long is a trap
abbrev pub string_of : List ℕ → Try Datum
string_of bytes =
    pick (nat_le (length bytes) MAX_TEXT_BYTES) (Gives (AText bytes)) (Fails StringLimit)

-- one after the other, each as it is printed beside others
abbrev pub joined : Datum → Datum → Try Datum
joined a b = string_of (printed false a ++ printed false b)

-- the two joined, where they are what they are to be
abbrev pub joined_where : {A B : Type 0} → Try A → Try B → Datum → Datum → Try Datum
joined_where is_left is_right a b = with_both is_left is_right (λ _ _. joined a b)

-- tests -----------------------------------------------------------------------------------------

-- 1 for true and 0 for false
abbrev pub truth : Bool → ℤ
truth true = pos 1
truth false = pos 0

-- a test of two operands gives an int
abbrev pub tested : {A : Type 0} → (A → A → Bool) → Try A → Try A → Try Datum
tested test a b = with_both a b (λ x y. Gives (AnInt (truth (test x y))))

-- the test with its operands exchanged
abbrev pub exchanged : {A : Type 0} → (A → A → Bool) → A → A → Bool
exchanged test x y = test y x

-- the opposite of the test
abbrev pub unlike : {A : Type 0} → (A → A → Bool) → A → A → Bool
unlike test x y = not (test x y)

-- operators -------------------------------------------------------------------------------------

-- an operator of two operands: ints wrap; all else is floored to a unit or a sample and clamped,
-- once; a quotient of ints and each remainder is cut toward zero
unfoldable pub binary : Op2 → Datum → Datum → Try Datum
binary AddIntInt a b = of_ints (λ x y. wrapped (x +ℤ y)) a b
binary SubIntInt a b = of_ints (λ x y. wrapped (x -ℤ y)) a b
binary MulIntInt a b = of_ints (λ x y. wrapped (x *ℤ y)) a b
binary DivIntInt a b = over_int (λ x y. wrapped (int_div x y)) a b
binary ModIntInt a b = over_int int_rem a b
binary AndIntInt a b = of_ints (int_bit_and w64) a b
binary OrIntInt a b = of_ints (int_bit_or w64) a b
binary XorIntInt a b = of_ints (int_bit_xor w64) a b
binary ShlIntInt a b = of_ints (λ x y. wrapped (x *ℤ pos (2 ^ low_six y))) a b
binary ShrIntInt a b = of_ints (λ x y. floor_div x (pos (2 ^ low_six y))) a b
binary AddFloatFloat a b = of_floats sum_of a b
binary SubFloatFloat a b = of_floats difference_of a b
binary MulFloatFloat a b = of_floats product_of a b
binary DivFloatFloat a b = over_float quotient_of a b
binary ModFloatFloat a b = over_float remainder_of a b
binary AddDurDur a b = of_both ADur sum_of (dur_in a) (dur_in b)
binary SubDurDur a b = of_both ADur difference_of (dur_in a) (dur_in b)
binary AddTimeDur a b = of_both ATime sum_of (time_in a) (dur_in b)
binary AddDurTime a b = of_both ATime sum_of (dur_in a) (time_in b)
binary SubTimeDur a b = of_both ATime difference_of (time_in a) (dur_in b)
binary SubTimeTime a b = of_both ADur difference_of (time_in a) (time_in b)
binary MulIntDur a b = of_both ADur (λ n d. nearest_in_range (n *ℤ d)) (int_in a) (dur_in b)
binary MulDurInt a b = of_both ADur (λ d n. nearest_in_range (d *ℤ n)) (dur_in a) (int_in b)
binary MulFloatDur a b = of_both ADur product_of (float_in a) (dur_in b)
binary MulDurFloat a b = of_both ADur product_of (dur_in a) (float_in b)
binary DivDurInt a b =
    of_divisor ADur (λ d n. nearest_in_range (floor_div d n)) (dur_in a) (int_in b)
binary DivDurFloat a b = of_divisor ADur quotient_of (dur_in a) (float_in b)
binary DivDurDur a b = of_divisor AFloat quotient_of (dur_in a) (dur_in b)
binary DivTimeDur a b = of_divisor AFloat quotient_of (time_in a) (dur_in b)
binary ModDurDur a b = of_divisor ADur remainder_of (dur_in a) (dur_in b)
binary ModTimeDur a b = of_divisor ADur remainder_of (time_in a) (dur_in b)
binary AddTextText a b = joined_where (string_in a) (string_in b) a b
binary AddTextInt a b = joined_where (string_in a) (int_in b) a b
binary AddTextFloat a b = joined_where (string_in a) (float_in b) a b
binary AddIntText a b = joined_where (int_in a) (string_in b) a b
binary AddFloatText a b = joined_where (float_in a) (string_in b) a b
binary EqIntInt a b = tested int_eq (int_in a) (int_in b)
binary EqFloatFloat a b = tested int_eq (float_in a) (float_in b)
binary EqDurDur a b = tested int_eq (dur_in a) (dur_in b)
binary EqTimeTime a b = tested int_eq (time_in a) (time_in b)
binary EqTextText a b = tested bytes_eq (string_in a) (string_in b)
binary EqRefRef a b = tested nat_eq (object_in a) (object_in b)
binary EqShredShred a b = tested nat_eq (shred_in a) (shred_in b)
binary NeIntInt a b = tested (unlike int_eq) (int_in a) (int_in b)
binary NeFloatFloat a b = tested (unlike int_eq) (float_in a) (float_in b)
binary NeDurDur a b = tested (unlike int_eq) (dur_in a) (dur_in b)
binary NeTimeTime a b = tested (unlike int_eq) (time_in a) (time_in b)
binary NeTextText a b = tested (unlike bytes_eq) (string_in a) (string_in b)
binary NeRefRef a b = tested (unlike nat_eq) (object_in a) (object_in b)
binary NeShredShred a b = tested (unlike nat_eq) (shred_in a) (shred_in b)
binary LtIntInt a b = of_ints (λ x y. truth (int_lt x y)) a b
binary LtFloatFloat a b = tested int_lt (float_in a) (float_in b)
binary LtDurDur a b = tested int_lt (dur_in a) (dur_in b)
binary LtTimeTime a b = tested int_lt (time_in a) (time_in b)
binary GtIntInt a b = tested (exchanged int_lt) (int_in a) (int_in b)
binary GtFloatFloat a b = tested (exchanged int_lt) (float_in a) (float_in b)
binary GtDurDur a b = tested (exchanged int_lt) (dur_in a) (dur_in b)
binary GtTimeTime a b = tested (exchanged int_lt) (time_in a) (time_in b)
binary LeIntInt a b = tested int_le (int_in a) (int_in b)
binary LeFloatFloat a b = tested int_le (float_in a) (float_in b)
binary LeDurDur a b = tested int_le (dur_in a) (dur_in b)
binary LeTimeTime a b = tested int_le (time_in a) (time_in b)
binary GeIntInt a b = tested (exchanged int_le) (int_in a) (int_in b)
binary GeFloatFloat a b = tested (exchanged int_le) (float_in a) (float_in b)
binary GeDurDur a b = tested (exchanged int_le) (dur_in a) (dur_in b)
binary GeTimeTime a b = tested (exchanged int_le) (time_in a) (time_in b)

-- of one number a number, of the type that `make` says
abbrev pub of_one : (make : ℤ → Datum) → (ℤ → ℤ) → Try ℤ → Try Datum
of_one make f a = and_then a (λ x. Gives (make (f x)))

-- an operator of one operand: the negation of an int wraps, and each other result is clamped
unfoldable pub unary : Op1 → Datum → Try Datum
unary NegInt v = of_one AnInt (λ n. wrapped (neg_ℤ n)) (int_in v)
unary NegFloat v = of_one AFloat negation_of (float_in v)
unary NegDur v = of_one ADur negation_of (dur_in v)
unary NotInt v = and_then (is_zero v) (λ is. Gives (AnInt (truth is)))
unary BoolInt v = and_then (is_zero v) (λ is. Gives (AnInt (truth (not is))))
unary WidenInt v = of_one AFloat float_of (int_in v)
unary CutFloat v = of_one AnInt whole_of (float_in v)
