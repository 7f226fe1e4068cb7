-- What the operators give: operands of the right types are never a misfit, and the result is of the
-- type that is said.
use Rattle.std.proofs.Common.{◌≡◌, ℕ, ◌<◌, ℤ, pos, negsuc, zero, suc, Bool, true, false, List, [], ◌∷◌, ◌++◌, map, length, nat_le, Option, Some, None, refl, sym, ap, subst, arith, inl, inr, int_lt, ◌≤ℤ◌, ◌+ℤ◌}
use Rattle.std.proofs.lemmas.List.{length-map, length-append}
use Rattle.std.proofs.lemmas.Int.{ints}
use Rattle.fixed_point.specs.Fix.{nearest_in_range}
use Rattle.ck_base.specs.declared.limits.TheConstants.{MAX_TEXT_BYTES}
use Rattle.ck_values.specs.declared.kind.Elem.{Elem}
use Rattle.ck_values.specs.declared.kind.Elem.TheVariants.{Int, Float, Dur, Time, Text, Shred, Class as ClassElem, Unit as UnitElem}
use Rattle.ck_values.specs.declared.kind.Kind.{Kind}
use Rattle.ck_values.specs.declared.kind.Kind.TheVariants.{Void, Null, One, Row, Grid}
use Rattle.ck_values.specs.declared.operator.Op1.{Op1}
use Rattle.ck_values.specs.declared.operator.Op1.TheVariants.{NegInt, NegFloat, NegDur, NotInt, BoolInt, WidenInt, CutFloat}
use Rattle.ck_values.specs.declared.operator.Op2.{Op2}
use Rattle.ck_values.specs.declared.operator.Op2.TheVariants.{AddIntInt, SubIntInt, MulIntInt, DivIntInt, ModIntInt, AddFloatFloat, SubFloatFloat, MulFloatFloat, DivFloatFloat, ModFloatFloat, AndIntInt, OrIntInt, XorIntInt, ShlIntInt, ShrIntInt, AddDurDur, SubDurDur, AddTimeDur, AddDurTime, SubTimeDur, SubTimeTime, MulIntDur, MulFloatDur, MulDurInt, MulDurFloat, DivDurInt, DivDurFloat, DivDurDur, DivTimeDur, ModDurDur, ModTimeDur, AddTextText, AddTextInt, AddTextFloat, AddIntText, AddFloatText, EqIntInt, EqFloatFloat, EqDurDur, EqTimeTime, EqTextText, EqRefRef, EqShredShred, NeIntInt, NeFloatFloat, NeDurDur, NeTimeTime, NeTextText, NeRefRef, NeShredShred, LtIntInt, LtFloatFloat, LtDurDur, LtTimeTime, GtIntInt, GtFloatFloat, GtDurDur, GtTimeTime, LeIntInt, LeFloatFloat, LeDurDur, LeTimeTime, GeIntInt, GeFloatFloat, GeDurDur, GeTimeTime}
use Rattle.ck_values.specs.declared.trap.Trap.TheVariants.{TimeBeforeNow, StringLimit}
use Rattle.ck_values.specs.Datum.{Datum, AnInt, AFloat, ADur, ATime, AText, AShred, ARef}
use Rattle.ck_store.specs.Store.{Shape, Store, At, Try, Gives, Fails, Misfit, IsFitting, Shapes}
use Rattle.ck_store.specs.Steps.{and_then, found, pick, int_units, float_units, is_zero, wait_dur, wait_time}
use Rattle.ck_store.specs.Strings.{printed}
use Rattle.ck_store.specs.Operators.{int_in, float_in, dur_in, time_in, string_in, shred_in, object_in, with_both, of_both, unless_zero, of_divisor, joined_where, tested, of_one, unary, binary}
use Rattle.ck_store.specs.Shreds.{event_of, wait_event}
use Rattle.ck_store.specs.Natives.{count_on, operand_count}
use Rattle.ck_typed.specs.declared.class.Class.{Class}
use Rattle.ck_typed.specs.declared.native.Native.{Native}
use Rattle.ck_typed.specs.Standing.{IsReference, Stands}
use Rattle.ck_typed.specs.Signatures as by
use Rattle.ck_typed.specs.WellFormed.{FoundWhere, IsOn}
use Rattle.ck_code.specs.Machine.{text_at}
use Rattle.ck_code.specs.Verified.{Topped, OnTop, OnReferences, OnTwo, UpdatesWith}
use Rattle.ck_code.specs.Fitting.{Refers, IsNull, IsOf, Suits, IsEvent, IsFitRequest}
use Rattle.ck_code.proofs.Standing.{found_is, stands_suits}
use Rattle.ck_code.proofs.Suiting.{Fine, fine_then}
use Rattle.ck_code.proofs.Tables.{get_within}

-- what holds of both holds of the one that is picked
pub picked : {A : Type 0} (P : A → Type 0) (b : Bool) (x y : A) → P x → P y → P (pick b x y)
picked P true x y h_x h_y = h_x
picked P false x y h_x h_y = h_y

-- a step after two steps is fine
both_fine : {A B C : Type 0} (Q : C → Type 0) (a : Try A) (b : Try B) (go : A → B → Try C)
    → IsFitting a → IsFitting b → ((x : A) (y : B) → Fine Q (go x y)) → Fine Q (with_both a b go)
both_fine Q (Gives x) (Gives y) go is_a is_b next = next x y
both_fine Q (Gives x) (Fails trap) go is_a is_b next = tt
both_fine Q (Gives x) Misfit go is_a is_b next = is_b
both_fine Q (Fails trap) b go is_a is_b next = tt
both_fine Q Misfit b go is_a is_b next = is_a

-- a step after a step that is read
pub one_fine : {A C : Type 0} (Q : C → Type 0) (a : Try A) (go : A → Try C) → IsFitting a
    → ((x : A) → Fine Q (go x)) → Fine Q (and_then a go)
one_fine Q (Gives x) go is next = next x
one_fine Q (Fails trap) go is next = tt
one_fine Q Misfit go is next = is

-- a divisor is zero or not
unless_fine : (Q : Datum → Type 0) (divisor : ℤ) (v : Datum) → Q v → Fine Q (unless_zero divisor v)
unless_fine Q (pos zero) v h = tt
unless_fine Q (pos (suc n)) v h = h
unless_fine Q (negsuc n) v h = h

-- something else holds too of the top operand and those beneath
topped_more : (kinds : List Kind) (P Q : Kind → List Kind → Type 0)
    → ((k : Kind) (beneath : List Kind) → P k beneath → Q k beneath) → Topped kinds P
    → Topped kinds Q
topped_more [] P Q more h = h
topped_more (k ∷ beneath) P Q more h = more k beneath h

-- the types whose values are numbers
data Number : Type 0 where
  Ints : Number
  Floats : Number
  Durs : Number
  Times : Number

abbrev elem_of : Number → Elem
elem_of Ints = Int
elem_of Floats = Float
elem_of Durs = Dur
elem_of Times = Time

-- how such a number is read, and the value that it makes
abbrev read : Number → Datum → Try ℤ
read Ints = int_in
read Floats = float_in
read Durs = dur_in
read Times = time_in

abbrev made : Number → ℤ → Datum
made Ints = AnInt
made Floats = AFloat
made Durs = ADur
made Times = ATime

module _ (classes : List Class) (shapes : Shapes) where
  -- operands --------------------------------------------------------------------------------------

  -- the value is of this type
  abbrev Is : Elem → Datum → Type 0
  Is e v = IsOf classes shapes e v

  -- a number is read
  reads : (n : Number) (v : Datum) → Is (elem_of n) v → IsFitting (read n v)
  reads Ints (AnInt n) is = tt
  reads Ints _ is = absurd is
  reads Floats (AFloat x) is = tt
  reads Floats _ is = absurd is
  reads Durs (ADur samples) is = tt
  reads Durs _ is = absurd is
  reads Times (ATime samples) is = tt
  reads Times _ is = absurd is

  -- a string is read, and a shred
  text_reads : (v : Datum) → Is Text v → IsFitting (string_in v)
  text_reads (AText bytes) is = tt
  text_reads _ is = absurd is

  shred_reads : (v : Datum) → Is Shred v → IsFitting (shred_in v)
  shred_reads (AShred n) is = tt
  shred_reads _ is = absurd is

  -- a reference is read
  refers_reads : (P : Shape → Type 0) (v : Datum) → Refers shapes P v → IsFitting (object_in v)
  refers_reads P (ARef n) is = tt
  refers_reads P _ is = absurd is

  null_reads : (v : Datum) → IsNull v → IsFitting (object_in v)
  null_reads (ARef n) is = tt
  null_reads _ is = absurd is

  -- what suits a kind of references is one
  reference_reads : (k : Kind) (v : Datum) → IsReference k → Suits classes shapes k v
      → IsFitting (object_in v)
  reference_reads Void v is h = absurd is
  reference_reads Null v is h = null_reads v h
  reference_reads (One (ClassElem c)) v is h = refers_reads _ v h
  reference_reads (One (UnitElem u)) v is h = refers_reads _ v h
  reference_reads (One _) v is h = absurd is
  reference_reads (Row e) v is h = refers_reads _ v h
  reference_reads (Grid e) v is h = refers_reads _ v h

  -- a number makes a value of its type
  made_is : (n : Number) (z : ℤ) → Is (elem_of n) (made n z)
  made_is Ints z = tt
  made_is Floats z = tt
  made_is Durs z = tt
  made_is Times z = tt

  -- operators -------------------------------------------------------------------------------------

  -- an operator gives such a result for such operands
  abbrev Joins : (left right result : Elem) → (Datum → Datum → Try Datum) → Type 0
  Joins left right result o = (x y : Datum) → Is left x → Is right y → Fine (Is result) (o x y)

  -- of two numbers a number
  of_both_fine : (a b r : Number) (f : ℤ → ℤ → ℤ)
      → Joins (elem_of a) (elem_of b) (elem_of r) (λ x y.
      of_both (made r) f (read a x) (read b y))
  of_both_fine a b r f x y is_x is_y =
      both_fine (Is (elem_of r)) (read a x) (read b y) _ (reads a x is_x) (reads b y is_y) (λ m n.
      made_is r (f m n))

  -- of a number and a divisor a number
  of_divisor_fine : (a b r : Number) (f : ℤ → ℤ → ℤ)
      → Joins (elem_of a) (elem_of b) (elem_of r) (λ x y.
      of_divisor (made r) f (read a x) (read b y))
  of_divisor_fine a b r f x y is_x is_y =
      both_fine (Is (elem_of r)) (read a x) (read b y) _ (reads a x is_x) (reads b y is_y) (λ m n.
      unless_fine (Is (elem_of r)) n (made r (f m n)) (made_is r (f m n)))

  -- of one number a number
  of_one_fine : (a r : Number) (f : ℤ → ℤ) (x : Datum) → Is (elem_of a) x
      → Fine (Is (elem_of r)) (of_one (made r) f (read a x))
  of_one_fine a r f x is =
      one_fine (Is (elem_of r)) (read a x) _ (reads a x is) (λ m. made_is r (f m))

  -- a test of two operands that are read is an int
  tested_fine : {A : Type 0} (test : A → A → Bool) (a b : Try A) → IsFitting a → IsFitting b
      → Fine (Is Int) (tested test a b)
  tested_fine test a b is_a is_b = both_fine (Is Int) a b _ is_a is_b (λ x y. tt)

  -- a test of two numbers
  compared_fine : (a : Number) (test : ℤ → ℤ → Bool)
      → Joins (elem_of a) (elem_of a) Int (λ x y. tested test (read a x) (read a y))
  compared_fine a test x y is_x is_y =
      tested_fine test (read a x) (read a y) (reads a x is_x) (reads a y is_y)

  -- two that are read are joined, or too long
  joined_fine : {A B : Type 0} (a : Try A) (b : Try B) (x y : Datum) → IsFitting a → IsFitting b
      → Fine (Is Text) (joined_where a b x y)
  joined_fine a b x y is_a is_b =
      both_fine (Is Text) a b _ is_a is_b (λ m n.
      let bytes = printed false x ++ printed false y in
      picked (Fine (Is Text)) (nat_le (length bytes) MAX_TEXT_BYTES)
      (Gives (AText bytes)) (Fails StringLimit) tt tt)

  -- an int is zero or not
  pub zero_fine : (v : Datum) → Is Int v → IsFitting (is_zero v)
  unfolding is_zero
  zero_fine (AnInt (pos zero)) is = tt
  zero_fine (AnInt (pos (suc n))) is = tt
  zero_fine (AnInt (negsuc n)) is = tt
  zero_fine _ is = absurd is

  -- an operator of one operand gives what its signature says
  pub unary_fine : (o : Op1) (x : Datum) → Is (by.unary o).operand x
      → Fine (Is (by.unary o).result) (unary o x)
  unfolding unary
  unary_fine NegInt x is = of_one_fine Ints Ints _ x is
  unary_fine NegFloat x is = of_one_fine Floats Floats _ x is
  unary_fine NegDur x is = of_one_fine Durs Durs _ x is
  unary_fine NotInt x is = one_fine (Is Int) (is_zero x) _ (zero_fine x is) (λ b. tt)
  unary_fine BoolInt x is = one_fine (Is Int) (is_zero x) _ (zero_fine x is) (λ b. tt)
  unary_fine WidenInt x is = of_one_fine Ints Floats _ x is
  unary_fine CutFloat x is = of_one_fine Floats Ints _ x is

  -- where an operator has a signature, it gives what that says
  abbrev JoinsAs : Option by.Binary → (Datum → Datum → Try Datum) → Type 0
  JoinsAs None o = Unit {0}
  JoinsAs (Some kinds) o = Joins kinds.left kinds.right kinds.result o

  -- each operator of two operands
  binary_fine : (o : Op2) → JoinsAs (by.binary o) (binary o)
  unfolding binary
  binary_fine AddIntInt = of_both_fine Ints Ints Ints _
  binary_fine SubIntInt = of_both_fine Ints Ints Ints _
  binary_fine MulIntInt = of_both_fine Ints Ints Ints _
  binary_fine DivIntInt = of_divisor_fine Ints Ints Ints _
  binary_fine ModIntInt = of_divisor_fine Ints Ints Ints _
  binary_fine AddFloatFloat = of_both_fine Floats Floats Floats _
  binary_fine SubFloatFloat = of_both_fine Floats Floats Floats _
  binary_fine MulFloatFloat = of_both_fine Floats Floats Floats _
  binary_fine DivFloatFloat = of_divisor_fine Floats Floats Floats _
  binary_fine ModFloatFloat = of_divisor_fine Floats Floats Floats _
  binary_fine AndIntInt = of_both_fine Ints Ints Ints _
  binary_fine OrIntInt = of_both_fine Ints Ints Ints _
  binary_fine XorIntInt = of_both_fine Ints Ints Ints _
  binary_fine ShlIntInt = of_both_fine Ints Ints Ints _
  binary_fine ShrIntInt = of_both_fine Ints Ints Ints _
  binary_fine AddDurDur = of_both_fine Durs Durs Durs _
  binary_fine SubDurDur = of_both_fine Durs Durs Durs _
  binary_fine AddTimeDur = of_both_fine Times Durs Times _
  binary_fine AddDurTime = of_both_fine Durs Times Times _
  binary_fine SubTimeDur = of_both_fine Times Durs Times _
  binary_fine SubTimeTime = of_both_fine Times Times Durs _
  binary_fine MulIntDur = of_both_fine Ints Durs Durs _
  binary_fine MulFloatDur = of_both_fine Floats Durs Durs _
  binary_fine MulDurInt = of_both_fine Durs Ints Durs _
  binary_fine MulDurFloat = of_both_fine Durs Floats Durs _
  binary_fine DivDurInt = of_divisor_fine Durs Ints Durs _
  binary_fine DivDurFloat = of_divisor_fine Durs Floats Durs _
  binary_fine DivDurDur = of_divisor_fine Durs Durs Floats _
  binary_fine DivTimeDur = of_divisor_fine Times Durs Floats _
  binary_fine ModDurDur = of_divisor_fine Durs Durs Durs _
  binary_fine ModTimeDur = of_divisor_fine Times Durs Durs _
  binary_fine AddTextText = λ x y is_x is_y.
      joined_fine (string_in x) (string_in y) x y (text_reads x is_x) (text_reads y is_y)
  binary_fine AddTextInt = λ x y is_x is_y.
      joined_fine (string_in x) (int_in y) x y (text_reads x is_x) (reads Ints y is_y)
  binary_fine AddTextFloat = λ x y is_x is_y.
      joined_fine (string_in x) (float_in y) x y (text_reads x is_x) (reads Floats y is_y)
  binary_fine AddIntText = λ x y is_x is_y.
      joined_fine (int_in x) (string_in y) x y (reads Ints x is_x) (text_reads y is_y)
  binary_fine AddFloatText = λ x y is_x is_y.
      joined_fine (float_in x) (string_in y) x y (reads Floats x is_x) (text_reads y is_y)
  binary_fine EqIntInt = compared_fine Ints _
  binary_fine EqFloatFloat = compared_fine Floats _
  binary_fine EqDurDur = compared_fine Durs _
  binary_fine EqTimeTime = compared_fine Times _
  binary_fine EqTextText = λ x y is_x is_y.
      tested_fine _ (string_in x) (string_in y) (text_reads x is_x) (text_reads y is_y)
  binary_fine EqRefRef = tt
  binary_fine EqShredShred = λ x y is_x is_y.
      tested_fine _ (shred_in x) (shred_in y) (shred_reads x is_x) (shred_reads y is_y)
  binary_fine NeIntInt = compared_fine Ints _
  binary_fine NeFloatFloat = compared_fine Floats _
  binary_fine NeDurDur = compared_fine Durs _
  binary_fine NeTimeTime = compared_fine Times _
  binary_fine NeTextText = λ x y is_x is_y.
      tested_fine _ (string_in x) (string_in y) (text_reads x is_x) (text_reads y is_y)
  binary_fine NeRefRef = tt
  binary_fine NeShredShred = λ x y is_x is_y.
      tested_fine _ (shred_in x) (shred_in y) (shred_reads x is_x) (shred_reads y is_y)
  binary_fine LtIntInt = of_both_fine Ints Ints Ints _
  binary_fine LtFloatFloat = compared_fine Floats _
  binary_fine LtDurDur = compared_fine Durs _
  binary_fine LtTimeTime = compared_fine Times _
  binary_fine GtIntInt = compared_fine Ints _
  binary_fine GtFloatFloat = compared_fine Floats _
  binary_fine GtDurDur = compared_fine Durs _
  binary_fine GtTimeTime = compared_fine Times _
  binary_fine LeIntInt = compared_fine Ints _
  binary_fine LeFloatFloat = compared_fine Floats _
  binary_fine LeDurDur = compared_fine Durs _
  binary_fine LeTimeTime = compared_fine Times _
  binary_fine GeIntInt = compared_fine Ints _
  binary_fine GeFloatFloat = compared_fine Floats _
  binary_fine GeDurDur = compared_fine Durs _
  binary_fine GeTimeTime = compared_fine Times _

  -- the same where the signature was found
  signed_fine : (o : Op2) (kinds : by.Binary) → by.binary o ≡ Some kinds
      → Joins kinds.left kinds.right kinds.result (binary o)
  signed_fine o kinds e = subst (λ s. JoinsAs s (binary o)) e (binary_fine o)

  -- an operator gives a result of this type for what suits these kinds
  abbrev pub Combines : Op2 → (left right : Kind) → Elem → Type 0
  Combines o j k e =
      (x y : Datum) → Suits classes shapes j x → Suits classes shapes k y
      → Fine (Is e) (binary o x y)

  -- the result for the two topmost operands
  abbrev pub IsTwo : Op2 → (Elem → List Kind → Type 0) → List Kind → Type 0
  IsTwo o P kinds =
      Topped kinds (λ k under. Topped under (λ j beneath.
      (e : Elem) × P e beneath × Combines o j k e))

  -- by the signature
  on_two : (o : Op2) (kinds : List Kind) (P : Elem → List Kind → Type 0)
      → FoundWhere (by.binary o) (λ s.
      OnTop classes (One s.right ∷ One s.left ∷ []) kinds (λ beneath. P s.result beneath))
      → IsTwo o P kinds
  on_two o kinds P h =
      let s = found_is (by.binary o) _ h in
      topped_more kinds _ _ (λ k under top.
      topped_more under _ _ (λ j beneath top1. (
        s.0.result,
        top1.1,
        λ x y is_x is_y.
            signed_fine o s.0 s.1 x y (stands_suits classes shapes j (One s.0.left) x top1.0 is_x)
            (stands_suits classes shapes k (One s.0.right) y top.0 is_y),
      )) top.1) s.2

  -- references are compared
  on_references : (o : Op2) (kinds : List Kind) (P : Elem → List Kind → Type 0)
      → ((x y : Datum) → IsFitting (object_in x) → IsFitting (object_in y)
      → Fine (Is Int) (binary o x y))
      → OnReferences kinds (P Int) → IsTwo o P kinds
  on_references o kinds P compared h =
      topped_more kinds _ _ (λ k under top.
      topped_more under _ _ (λ j beneath top1. (
        Int,
        top1.1,
        λ x y is_x is_y.
            compared x y (reference_reads j x top1.0 is_x) (reference_reads k y top.0 is_y),
      )) top.1) h

  -- whether they are one, or two
  equal_fine : (x y : Datum) → IsFitting (object_in x) → IsFitting (object_in y)
      → Fine (Is Int) (binary EqRefRef x y)
  unfolding binary
  equal_fine x y is_x is_y = tested_fine _ (object_in x) (object_in y) is_x is_y

  unequal_fine : (x y : Datum) → IsFitting (object_in x) → IsFitting (object_in y)
      → Fine (Is Int) (binary NeRefRef x y)
  unfolding binary
  unequal_fine x y is_x is_y = tested_fine _ (object_in x) (object_in y) is_x is_y

  -- an operator finds its operands on top
  pub two_fine : (o : Op2) (kinds : List Kind) (P : Elem → List Kind → Type 0)
      → OnTwo classes o kinds P → IsTwo o P kinds
  two_fine EqRefRef kinds P h = on_references EqRefRef kinds P equal_fine h
  two_fine NeRefRef kinds P h = on_references NeRefRef kinds P unequal_fine h
  two_fine o kinds P h = on_two o kinds P h

  -- the result for what stands where a value of this kind does, and the top operand
  abbrev pub IsUpdate : Op2 → Kind → (Elem → List Kind → Type 0) → List Kind → Type 0
  IsUpdate o k P kinds =
      Topped kinds (λ j beneath.
      (e : Elem) × P e beneath × Stands classes (One e) k × Combines o k j e)

  -- an operator updates what stands there
  pub update_fine : (o : Op2) (k : Kind) (kinds : List Kind) (P : Elem → List Kind → Type 0)
      → UpdatesWith classes o k kinds P → IsUpdate o k P kinds
  update_fine o k kinds P h =
      let s = found_is (by.binary o) _ h in
      topped_more kinds _ _ (λ j beneath top. (
        s.0.result,
        top.1,
        s.2.1,
        λ x y is_x is_y.
            signed_fine o s.0 s.1 x y (stands_suits classes shapes k (One s.0.left) x s.2.0 is_x)
            (stands_suits classes shapes j (One s.0.right) y top.0 is_y),
      )) s.2.2

  -- literals and units ----------------------------------------------------------------------------

  -- so many units are a dur
  pub int_units_fine : (n d : ℤ) (v : Datum) → Is Int v → Fine (Is Dur) (int_units n d v)
  unfolding int_units
  int_units_fine n d (AnInt x) is = tt
  int_units_fine n d _ is = absurd is

  -- also of a float
  pub float_units_fine : (n d : ℤ) (v : Datum) → Is Float v → Fine (Is Dur) (float_units n d v)
  unfolding float_units
  float_units_fine n d (AFloat x) is = tt
  float_units_fine n d _ is = absurd is

  -- a string is found
  pub text_fine : (texts : List (List ℕ)) (k : ℕ) → k < length texts
      → Fine (Is Text) (text_at texts k)
  unfolding text_at
  text_fine texts k lt =
      let text = get_within texts k lt in
      subst (λ o. Fine (Is Text) (and_then (found o) (λ bytes. Gives (AText bytes))))
      (sym text.1) tt

  -- waits -----------------------------------------------------------------------------------------

  -- a test that fails says that one number isn't below the other
  not_below : (a b : ℤ) → int_lt a b ≡ false → b ≤ℤ a
  not_below a b e = grind (arith, ints, e)

  -- a wait is for a time that isn't past
  until_fine : (b : Bool) (time now : ℤ) → int_lt time now ≡ b
      → Fine (IsFitRequest classes shapes now) (pick b (Fails TimeBeforeNow) (Gives (At time)))
  until_fine true time now e = tt
  until_fine false time now e = not_below time now e

  -- a dur's wait is fine
  pub wait_dur_fine : (v : Datum) (store : Store) → Is Dur v
      → Fine (IsFitRequest classes shapes store.now) (wait_dur v store)
  unfolding wait_dur
  wait_dur_fine (ADur d) store is =
      until_fine (int_lt (nearest_in_range (store.now +ℤ d)) store.now)
      (nearest_in_range (store.now +ℤ d)) store.now refl
  wait_dur_fine _ store is = absurd is

  -- and so is a time's
  pub wait_time_fine : (v : Datum) (store : Store) → Is Time v
      → Fine (IsFitRequest classes shapes store.now) (wait_time v store)
  unfolding wait_time
  wait_time_fine (ATime t) store is = until_fine (int_lt t store.now) t store.now refl
  wait_time_fine _ store is = absurd is

  -- an event is there, or null
  pub event_fine : (v : Datum) → Is (ClassElem 1) v → Fine (IsEvent classes shapes) (event_of v)
  unfolding event_of
  event_fine (ARef zero) is = tt
  event_fine (ARef (suc n)) is = is
  event_fine _ is = absurd is

  -- a wait for an event
  pub wait_event_fine : (v : Datum) (now : ℤ) → Is (ClassElem 1) v
      → Fine (IsFitRequest classes shapes now) (wait_event v)
  unfolding wait_event
  wait_event_fine v now is =
      fine_then (IsEvent classes shapes) (IsFitRequest classes shapes now) (event_of v) _
      (event_fine v is) (λ n there. there)

  -- built-in calls --------------------------------------------------------------------------------

  -- what a call is made on are as many operands as it takes
  on_count : (on : by.On) (kinds : List Kind) → IsOn on kinds → length kinds ≡ count_on on
  on_count by.nothing kinds is = ap length is
  on_count by.shred kinds is = ap length is
  on_count by.event kinds is = ap length is
  on_count by.array kinds is = elim is [
    | inl row ↦ ap length row.1
    | inr grid ↦ ap length grid.1
  ]
  on_count by.text kinds is = ap length is
  on_count by.envelope kinds is = elim is [
    | inl envelope ↦ ap length envelope
    | inr adsr ↦ ap length adsr
  ]
  on_count by.adsr kinds is = ap length is

  -- a call has as many operands as kinds that it takes
  pub native_count : (call : Native) (on : List Kind) → IsOn (by.built_in call).on on
      → length (on ++ map One (by.built_in call).params) ≡ operand_count call
  native_count call on is =
      let params = (by.built_in call).params in
      omega (
        arith,
        length-append on (map One params),
        length-map params One,
        on_count (by.built_in call).on on is,
      )
