-- Which operands an operator takes.
use Rattle.std.specs.Prelude.{◌≡◌, ℕ, ℤ, Bool, true, false, List, refl}
use Rattle.ck_values.specs.declared.operator.Op2.{Op2}
use Rattle.ck_values.specs.declared.operator.Op2.TheVariants.{AddIntInt, SubIntInt, MulIntInt, DivIntInt, ModIntInt, AndIntInt, OrIntInt, XorIntInt, ShlIntInt, ShrIntInt, AddFloatFloat, SubFloatFloat, MulFloatFloat, DivFloatFloat, ModFloatFloat, AddDurDur, SubDurDur, AddTimeDur, AddDurTime, SubTimeDur, SubTimeTime, MulIntDur, MulDurInt, MulFloatDur, MulDurFloat, DivDurInt, DivDurFloat, DivDurDur, DivTimeDur, ModDurDur, ModTimeDur, AddTextText, AddTextInt, AddTextFloat, AddIntText, AddFloatText, EqIntInt, EqFloatFloat, EqDurDur, EqTimeTime, EqTextText, EqRefRef, EqShredShred, NeIntInt, NeFloatFloat, NeDurDur, NeTimeTime, NeTextText, NeRefRef, NeShredShred, LtIntInt, LtFloatFloat, LtDurDur, LtTimeTime, GtIntInt, GtFloatFloat, GtDurDur, GtTimeTime, LeIntInt, LeFloatFloat, LeDurDur, LeTimeTime, GeIntInt, GeFloatFloat, GeDurDur, GeTimeTime}
use Rattle.ck_values.specs.declared.value.Value.{Value}
use Rattle.ck_values.specs.declared.value.Value.TheVariants as value
use Rattle.ck_values.specs.Datum.{Datum, AnInt, AFloat, ADur, ATime, AText, AShred, ARef, meant}
use Rattle.ck_store.specs.Store.{Try, IsFitting}
use Rattle.ck_store.specs.Operators.{with_both, int_in, float_in, dur_in, time_in, string_in, shred_in, object_in, binary}
use Rattle.value_ops.specs.Ends.{makes_string}

-- operands of which some operator takes both and makes no string
abbrev pub is_pair : Datum → Datum → Bool
is_pair (AnInt x) (AnInt y) = true
is_pair (AnInt x) (ADur y) = true
is_pair (AFloat x) (AFloat y) = true
is_pair (AFloat x) (ADur y) = true
is_pair (ADur x) (AnInt y) = true
is_pair (ADur x) (AFloat y) = true
is_pair (ADur x) (ADur y) = true
is_pair (ADur x) (ATime y) = true
is_pair (ATime x) (ADur y) = true
is_pair (ATime x) (ATime y) = true
is_pair (AText x) (AText y) = true
is_pair (AShred x) (AShred y) = true
is_pair (ARef x) (ARef y) = true
is_pair _ _ = false

-- operands that are read as these types are a pair
int_int : (a b : Datum) (go : ℤ → ℤ → Try Datum)
    → IsFitting (with_both (int_in a) (int_in b) go) → is_pair a b ≡ true
int_int (AnInt x) (AnInt y) go fits = refl
int_int _ _ go fits = absurd fits

int_dur : (a b : Datum) (go : ℤ → ℤ → Try Datum)
    → IsFitting (with_both (int_in a) (dur_in b) go) → is_pair a b ≡ true
int_dur (AnInt x) (ADur y) go fits = refl
int_dur _ _ go fits = absurd fits

float_float : (a b : Datum) (go : ℤ → ℤ → Try Datum)
    → IsFitting (with_both (float_in a) (float_in b) go) → is_pair a b ≡ true
float_float (AFloat x) (AFloat y) go fits = refl
float_float _ _ go fits = absurd fits

float_dur : (a b : Datum) (go : ℤ → ℤ → Try Datum)
    → IsFitting (with_both (float_in a) (dur_in b) go) → is_pair a b ≡ true
float_dur (AFloat x) (ADur y) go fits = refl
float_dur _ _ go fits = absurd fits

dur_int : (a b : Datum) (go : ℤ → ℤ → Try Datum)
    → IsFitting (with_both (dur_in a) (int_in b) go) → is_pair a b ≡ true
dur_int (ADur x) (AnInt y) go fits = refl
dur_int _ _ go fits = absurd fits

dur_float : (a b : Datum) (go : ℤ → ℤ → Try Datum)
    → IsFitting (with_both (dur_in a) (float_in b) go) → is_pair a b ≡ true
dur_float (ADur x) (AFloat y) go fits = refl
dur_float _ _ go fits = absurd fits

dur_dur : (a b : Datum) (go : ℤ → ℤ → Try Datum)
    → IsFitting (with_both (dur_in a) (dur_in b) go) → is_pair a b ≡ true
dur_dur (ADur x) (ADur y) go fits = refl
dur_dur _ _ go fits = absurd fits

dur_time : (a b : Datum) (go : ℤ → ℤ → Try Datum)
    → IsFitting (with_both (dur_in a) (time_in b) go) → is_pair a b ≡ true
dur_time (ADur x) (ATime y) go fits = refl
dur_time _ _ go fits = absurd fits

time_dur : (a b : Datum) (go : ℤ → ℤ → Try Datum)
    → IsFitting (with_both (time_in a) (dur_in b) go) → is_pair a b ≡ true
time_dur (ATime x) (ADur y) go fits = refl
time_dur _ _ go fits = absurd fits

time_time : (a b : Datum) (go : ℤ → ℤ → Try Datum)
    → IsFitting (with_both (time_in a) (time_in b) go) → is_pair a b ≡ true
time_time (ATime x) (ATime y) go fits = refl
time_time _ _ go fits = absurd fits

text_text : (a b : Datum) (go : List ℕ → List ℕ → Try Datum)
    → IsFitting (with_both (string_in a) (string_in b) go) → is_pair a b ≡ true
text_text (AText x) (AText y) go fits = refl
text_text _ _ go fits = absurd fits

shred_shred : (a b : Datum) (go : ℕ → ℕ → Try Datum)
    → IsFitting (with_both (shred_in a) (shred_in b) go) → is_pair a b ≡ true
shred_shred (AShred x) (AShred y) go fits = refl
shred_shred _ _ go fits = absurd fits

ref_ref : (a b : Datum) (go : ℕ → ℕ → Try Datum)
    → IsFitting (with_both (object_in a) (object_in b) go) → is_pair a b ≡ true
ref_ref (ARef x) (ARef y) go fits = refl
ref_ref _ _ go fits = absurd fits

-- an operator that makes no string takes no other operands
pub fits_pair : (o : Op2) (a b : Datum) → makes_string o ≡ false → IsFitting (binary o a b)
    → is_pair a b ≡ true
unfolding binary
fits_pair AddIntInt a b none fits = int_int a b _ fits
fits_pair SubIntInt a b none fits = int_int a b _ fits
fits_pair MulIntInt a b none fits = int_int a b _ fits
fits_pair DivIntInt a b none fits = int_int a b _ fits
fits_pair ModIntInt a b none fits = int_int a b _ fits
fits_pair AndIntInt a b none fits = int_int a b _ fits
fits_pair OrIntInt a b none fits = int_int a b _ fits
fits_pair XorIntInt a b none fits = int_int a b _ fits
fits_pair ShlIntInt a b none fits = int_int a b _ fits
fits_pair ShrIntInt a b none fits = int_int a b _ fits
fits_pair AddFloatFloat a b none fits = float_float a b _ fits
fits_pair SubFloatFloat a b none fits = float_float a b _ fits
fits_pair MulFloatFloat a b none fits = float_float a b _ fits
fits_pair DivFloatFloat a b none fits = float_float a b _ fits
fits_pair ModFloatFloat a b none fits = float_float a b _ fits
fits_pair AddDurDur a b none fits = dur_dur a b _ fits
fits_pair SubDurDur a b none fits = dur_dur a b _ fits
fits_pair AddTimeDur a b none fits = time_dur a b _ fits
fits_pair AddDurTime a b none fits = dur_time a b _ fits
fits_pair SubTimeDur a b none fits = time_dur a b _ fits
fits_pair SubTimeTime a b none fits = time_time a b _ fits
fits_pair MulIntDur a b none fits = int_dur a b _ fits
fits_pair MulDurInt a b none fits = dur_int a b _ fits
fits_pair MulFloatDur a b none fits = float_dur a b _ fits
fits_pair MulDurFloat a b none fits = dur_float a b _ fits
fits_pair DivDurInt a b none fits = dur_int a b _ fits
fits_pair DivDurFloat a b none fits = dur_float a b _ fits
fits_pair DivDurDur a b none fits = dur_dur a b _ fits
fits_pair DivTimeDur a b none fits = time_dur a b _ fits
fits_pair ModDurDur a b none fits = dur_dur a b _ fits
fits_pair ModTimeDur a b none fits = time_dur a b _ fits
fits_pair AddTextText a b none fits = cc
fits_pair AddTextInt a b none fits = cc
fits_pair AddTextFloat a b none fits = cc
fits_pair AddIntText a b none fits = cc
fits_pair AddFloatText a b none fits = cc
fits_pair EqIntInt a b none fits = int_int a b _ fits
fits_pair EqFloatFloat a b none fits = float_float a b _ fits
fits_pair EqDurDur a b none fits = dur_dur a b _ fits
fits_pair EqTimeTime a b none fits = time_time a b _ fits
fits_pair EqTextText a b none fits = text_text a b _ fits
fits_pair EqRefRef a b none fits = ref_ref a b _ fits
fits_pair EqShredShred a b none fits = shred_shred a b _ fits
fits_pair NeIntInt a b none fits = int_int a b _ fits
fits_pair NeFloatFloat a b none fits = float_float a b _ fits
fits_pair NeDurDur a b none fits = dur_dur a b _ fits
fits_pair NeTimeTime a b none fits = time_time a b _ fits
fits_pair NeTextText a b none fits = text_text a b _ fits
fits_pair NeRefRef a b none fits = ref_ref a b _ fits
fits_pair NeShredShred a b none fits = shred_shred a b _ fits
fits_pair LtIntInt a b none fits = int_int a b _ fits
fits_pair LtFloatFloat a b none fits = float_float a b _ fits
fits_pair LtDurDur a b none fits = dur_dur a b _ fits
fits_pair LtTimeTime a b none fits = time_time a b _ fits
fits_pair GtIntInt a b none fits = int_int a b _ fits
fits_pair GtFloatFloat a b none fits = float_float a b _ fits
fits_pair GtDurDur a b none fits = dur_dur a b _ fits
fits_pair GtTimeTime a b none fits = time_time a b _ fits
fits_pair LeIntInt a b none fits = int_int a b _ fits
fits_pair LeFloatFloat a b none fits = float_float a b _ fits
fits_pair LeDurDur a b none fits = dur_dur a b _ fits
fits_pair LeTimeTime a b none fits = time_time a b _ fits
fits_pair GeIntInt a b none fits = int_int a b _ fits
fits_pair GeFloatFloat a b none fits = float_float a b _ fits
fits_pair GeDurDur a b none fits = dur_dur a b _ fits
fits_pair GeTimeTime a b none fits = time_time a b _ fits

-- the value is none that this variant makes
abbrev pub Isnt : {A : Type 0} → Value → (A → Value) → Type 0
Isnt {A} v variant = (x : A) → v ≡ variant x → ⊥

-- an operand of one of these types stands beside none but those that are excluded here
pub beside_int : (x : ℤ) (b : Value) → Isnt b value.Int → Isnt b value.Dur
    → is_pair (AnInt x) (meant b) ≡ true → ⊥
beside_int x (value.Int y) no_int no_dur pair = no_int y refl
beside_int x (value.Dur y) no_int no_dur pair = no_dur y refl
beside_int x _ no_int no_dur pair = cc

pub beside_float : (x : ℤ) (b : Value) → Isnt b value.Float → Isnt b value.Dur
    → is_pair (AFloat x) (meant b) ≡ true → ⊥
beside_float x (value.Float y) no_float no_dur pair = no_float y refl
beside_float x (value.Dur y) no_float no_dur pair = no_dur y refl
beside_float x _ no_float no_dur pair = cc

pub beside_string : (x : List ℕ) (b : Value) → Isnt b value.Text
    → is_pair (AText x) (meant b) ≡ true → ⊥
beside_string x (value.Text y) no_text pair = no_text y refl
beside_string x _ no_text pair = cc

pub beside_shred : (x : ℕ) (b : Value) → Isnt b value.Shred
    → is_pair (AShred x) (meant b) ≡ true → ⊥
beside_shred x (value.Shred y) no_shred pair = no_shred y refl
beside_shred x _ no_shred pair = cc

pub beside_object : (x : ℕ) (b : Value) → Isnt b value.Ref
    → is_pair (ARef x) (meant b) ≡ true → ⊥
beside_object x (value.Ref y) no_ref pair = no_ref y refl
beside_object x _ no_ref pair = cc

pub beside_dur : (x : ℤ) (b : Value) → Isnt b value.Int → Isnt b value.Float → Isnt b value.Dur
    → Isnt b value.Time → is_pair (ADur x) (meant b) ≡ true → ⊥
beside_dur x (value.Int y) no_int no_float no_dur no_time pair = no_int y refl
beside_dur x (value.Float y) no_int no_float no_dur no_time pair = no_float y refl
beside_dur x (value.Dur y) no_int no_float no_dur no_time pair = no_dur y refl
beside_dur x (value.Time y) no_int no_float no_dur no_time pair = no_time y refl
beside_dur x _ no_int no_float no_dur no_time pair = cc

pub beside_time : (x : ℤ) (b : Value) → Isnt b value.Dur → Isnt b value.Time
    → is_pair (ATime x) (meant b) ≡ true → ⊥
beside_time x (value.Dur y) no_dur no_time pair = no_dur y refl
beside_time x (value.Time y) no_dur no_time pair = no_time y refl
beside_time x _ no_dur no_time pair = cc
