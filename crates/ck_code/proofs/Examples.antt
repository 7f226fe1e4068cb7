-- A loop with a turn is verified, and one without isn't, nor is a step of a file or an array of a
-- class that isn't there; a float is updated and printed.
use Rattle.std.proofs.Common.{◌≡◌, ℕ, zero, suc, ◌<◌, ◌≤◌, List, [], ◌∷◌, ◌++◌, Some, map, length, refl, subst, arith, slice_get, pos, All}
use Rattle.std.proofs.lemmas.List.Elements.{All-nil}
use Rattle.std.specs.Prelude.{codes}
use Rattle.std.specs.Fmt.{digits}
use Rattle.fixed_point.specs.Decimals.{text_of}
use Rattle.fixed_point.specs.Fix.{nearest_in_range}
use Rattle.ck_values.specs.declared.kind.Elem.TheVariants.{Int as IntElem, Float as FloatElem, Class as ClassElem}
use Rattle.ck_values.specs.declared.kind.Kind.{Kind}
use Rattle.ck_values.specs.declared.kind.Kind.TheVariants.{One}
use Rattle.ck_values.specs.declared.operator.Op2.TheVariants.{AddFloatFloat}
use Rattle.ck_values.specs.Datum.{AnInt, AFloat}
use Rattle.ck_store.specs.Store.{State, first_store, Printed}
use Rattle.ck_store.specs.Steps.{local_of, with_local}
use Rattle.ck_store.specs.Operators.{binary}
use Rattle.ck_typed.specs.WellFormed.{IsNamedKind, IsValueKind, FoundWhere, LiesIn}
use Rattle.ck_code.specs.declared.instr.Instr.{Instr}
use Rattle.ck_code.specs.declared.instr.Instr.TheVariants.{Int, Float, OpLocal, Jump, JumpZero, Turn, Return, Row, Print}
use Rattle.ck_code.specs.declared.code.Step.{Step}
use Rattle.ck_code.specs.declared.code.Fun.{Fun}
use Rattle.ck_code.specs.declared.code.CodeParts.{CodeParts}
use Rattle.ck_code.specs.Machine.{frame, Ended, exec}
use Rattle.ck_code.proofs.Tables.{get_within}
use Rattle.ck_code.proofs.Ranges.{all_in_range}
use Rattle.ck_code.specs.Verified.{Places, Typing, AreAt, Fits, HasJump, HasTurnBetween, IsFunVerified, IsVerified}

-- an instruction at the first line
abbrev at_line_one : Instr → Step
at_line_one i = record { instr = i; place = record { file = 0; line = 1 } }

-- so each of them lies in the first file
of_first_file : (is : List Instr) (p : ℕ) (step : Step)
    → slice_get (map at_line_one is) p ≡ Some step → LiesIn 1 step.place
of_first_file [] p step at = absurd (cc)
of_first_file (i ∷ is) zero step at =
    let it : at_line_one i ≡ step = cc in subst (λ (s : Step). LiesIn 1 s.place) it (omega arith)
of_first_file (i ∷ is) (suc p) step at = of_first_file is p step at

-- a function that takes nothing, with these locals
abbrev function : (locals : List Kind) → List Step → Fun
function locals steps = record { params = 0; locals = locals; code = steps }

-- a code of this function alone
abbrev code_of : Fun → CodeParts
code_of fn = record { funs = fn ∷ []; texts = []; classes = []; statics = []; mains = 0 ∷ [] }

-- it gives an int, and these are its operands at each place
abbrev typing_of : Places → Typing
typing_of places = record { results = One IntElem ∷ []; operands = places ∷ [] }

-- while (1) { }
abbrev loop_instrs : List Instr
loop_instrs = Int (pos 1) ∷ JumpZero 4 ∷ Turn ∷ Jump 0 ∷ Int (pos 0) ∷ Return ∷ []

abbrev loop : List Step
loop = map at_line_one loop_instrs

-- its operands at each place
abbrev shapes : List (List Kind)
shapes = [] ∷ (One IntElem ∷ []) ∷ [] ∷ [] ∷ [] ∷ (One IntElem ∷ []) ∷ []

abbrev places : Places
places = map Some shapes

-- what fits a place fits what is found there
found_there : (P : Step → List Kind → Type 0) (s step : Step) (o ops : List Kind)
    → Some s ≡ Some step → Some o ≡ Some ops → P s o → P step ops
found_there P s step o ops at finds h =
    let is : s ≡ step = cc in let are : o ≡ ops = cc in subst (P step) are (subst (λ s. P s o) is h)

-- what the instruction at a place fits
abbrev FitsAt : (p : ℕ) → Step → List Kind → Type 0
FitsAt p step ops =
    Fits (code_of (function [] loop)) (typing_of places) (function [] loop) 0 places p step.instr
    ops

-- each place fits
each : (p : ℕ) (step : Step) (ops : List Kind) → slice_get loop p ≡ Some step → AreAt places p ops
    → FitsAt p step ops
each zero step ops at has = found_there (FitsAt 0) _ step _ ops at has (refl, tt)
each (suc zero) step ops at has = found_there (FitsAt 1) _ step _ ops at has (refl, (tt, tt))
each (suc (suc zero)) step ops at has = found_there (FitsAt 2) _ step _ ops at has tt
each (suc (suc (suc zero))) step ops at has = found_there (FitsAt 3) _ step _ ops at has tt
each (suc (suc (suc (suc zero)))) step ops at has =
    found_there (FitsAt 4) _ step _ ops at has (refl, tt)
each (suc (suc (suc (suc (suc zero))))) step ops at has =
    found_there (FitsAt 5) _ step _ ops at has refl
each (suc (suc (suc (suc (suc (suc p)))))) step ops at has = cc

-- no jump goes behind the turn up to the jump back
only : (from to : ℕ) → HasJump loop from to → 2 < to → to ≤ 3 → (2 ≤ from) × (from ≤ 3)
only zero to jump lt le = absurd jump
only (suc zero) to jump lt le = absurd (omega (arith, jump))
only (suc (suc zero)) to jump lt le = absurd jump
only (suc (suc (suc zero))) to jump lt le = absurd (omega (arith, jump))
only (suc (suc (suc (suc zero)))) to jump lt le = absurd jump
only (suc (suc (suc (suc (suc zero))))) to jump lt le = absurd jump
only (suc (suc (suc (suc (suc (suc p)))))) to jump lt le = absurd jump

-- the jump back has the turn between
turns : (p t : ℕ) → HasJump loop p t → t ≤ p → HasTurnBetween loop t p
turns zero t jump le = absurd jump
turns (suc zero) t jump le = absurd (omega (arith, jump))
turns (suc (suc zero)) t jump le = absurd jump
turns (suc (suc (suc zero))) t jump le =
    record { q = 2; after = omega (arith, jump); before = omega arith; turn = refl; only = only }
turns (suc (suc (suc (suc zero)))) t jump le = absurd jump
turns (suc (suc (suc (suc (suc zero))))) t jump le = absurd jump
turns (suc (suc (suc (suc (suc (suc p)))))) t jump le = absurd jump

-- the function is verified
function_verified : IsFunVerified (code_of (function [] loop)) (typing_of places) 0
    (function [] loop) places
function_verified =
    record {
      params = omega arith;
      locals = All-nil (IsValueKind []);
      as_long = refl;
      first = refl;
      each = each;
      ranges = all_in_range (code_of (function [] loop)) (typing_of places) (function [] loop) 0
          shapes refl each;
      files = of_first_file loop_instrs;
      turns = turns;
    }

-- what holds of the one element holds of each
all_one : {A : Type 0} (P : A → Type 0) (x : A) → P x → All P (x ∷ [])
all_one P x h zero d lt = h
all_one P x h (suc i) d lt = absurd (omega arith)

module _ (fn : Fun) (places : Places)
    (verified : IsFunVerified (code_of fn) (typing_of places) 0 fn places) where
  -- each function of the code is verified
  functions_verified : (f : ℕ) (g : Fun) (its : Places) → slice_get (fn ∷ []) f ≡ Some g
      → slice_get (places ∷ []) f ≡ Some its
      → IsFunVerified (code_of fn) (typing_of places) f g its
  functions_verified zero g its at finds =
      let is : fn ≡ g = cc in
      let are : places ≡ its = cc in
      subst (λ g. IsFunVerified (code_of fn) (typing_of places) 0 g its) is
      (subst (λ its. IsFunVerified (code_of fn) (typing_of places) 0 fn its) are verified)
  functions_verified (suc f) g its at finds = cc

  -- and so is the code
  code_verified : fn.params ≡ 0 → IsVerified (code_of fn)
  code_verified none = record {
    typing = typing_of places;
    results = all_one (IsValueKind []) (One IntElem) tt;
    same_results = refl;
    same_places = refl;
    funs = functions_verified;
    classes = λ c class at. absurd (cc at);
    statics = All-nil (IsValueKind []);
    object = λ class at. absurd (cc at);
    mains = all_one (λ f. FoundWhere (slice_get (fn ∷ []) f) (λ fn. fn.params ≡ 0)) 0 none;
  }

-- a loop with a turn is verified
pub loop_verified : IsVerified (code_of (function [] loop))
loop_verified = code_verified (function [] loop) places function_verified refl

-- the one function of a verified code
its_function : (fn : Fun) (verified : IsVerified (code_of fn))
    → (its : Places) × IsFunVerified (code_of fn) verified.typing 0 fn its
its_function fn verified =
    let within : 0 < length verified.typing.operands = omega (arith, verified.same_places) in
    let its = get_within verified.typing.operands 0 within in
    (its.0, verified.funs 0 fn its.0 refl its.1)

-- a loop without a turn
abbrev no_turn : Fun
no_turn = function [] (at_line_one (Jump 0) ∷ [])

-- it isn't verified
pub no_turn_no_code : IsVerified (code_of no_turn) → ⊥
no_turn_no_code verified =
    let between = (its_function no_turn verified).1.turns 0 0 refl (omega arith) in
    omega (arith, between.after, between.before)

-- a step of a second file, where there is one
abbrev no_file : Fun
no_file = function []
    (record { instr = Int (pos 0); place = record { file = 1; line = 1 } } ∷ at_line_one Return ∷ [])

-- it isn't verified
pub no_file_no_code : IsVerified (code_of no_file) → ⊥
no_file_no_code verified =
    let lies : 1 < 1 = (its_function no_file verified).1.files 0 _ refl in omega (arith, lies)

-- an array of objects of a class that isn't there, behind what returns
abbrev no_class : Fun
no_class = function []
    (at_line_one (Int (pos 0)) ∷ at_line_one Return ∷ at_line_one (Row (ClassElem 0)) ∷ [])

-- it isn't verified, though nothing reaches it
pub no_class_no_code : IsVerified (code_of no_class) → ⊥
no_class_no_code verified =
    let named : 0 < 0 = (its_function no_class verified).1.ranges 2 _ refl in omega (arith, named)

-- float x; 0.5 +=> x; <<< x >>>;
abbrev half_instrs : List Instr
half_instrs = Float (pos 2_147_483_648) ∷ OpLocal 0 AddFloatFloat ∷ Print (One FloatElem ∷ [])
    ∷ Int (pos 0) ∷ Return ∷ []

abbrev half : List Step
half = map at_line_one half_instrs

abbrev half_function : Fun
half_function = function (One FloatElem ∷ []) half

-- its operands at each place
abbrev half_shapes : List (List Kind)
half_shapes = [] ∷ (One FloatElem ∷ []) ∷ (One FloatElem ∷ []) ∷ [] ∷ (One IntElem ∷ []) ∷ []

abbrev half_places : Places
half_places = map Some half_shapes

-- what the instruction at a place fits
abbrev HalfFitsAt : (p : ℕ) → Step → List Kind → Type 0
HalfFitsAt p step ops =
    Fits (code_of half_function) (typing_of half_places) half_function 0 half_places p step.instr
    ops

-- each place fits
half_each : (p : ℕ) (step : Step) (ops : List Kind) → slice_get half p ≡ Some step
    → AreAt half_places p ops → HalfFitsAt p step ops
half_each zero step ops at has = found_there (HalfFitsAt 0) _ step _ ops at has (refl, tt)
half_each (suc zero) step ops at has =
    found_there (HalfFitsAt 1) _ step _ ops at has (refl, refl, (refl, (refl, tt)))
half_each (suc (suc zero)) step ops at has =
    found_there (HalfFitsAt 2) _ step _ ops at has
    (omega arith, all_one (IsNamedKind []) (One FloatElem) tt, (refl, tt))
half_each (suc (suc (suc zero))) step ops at has =
    found_there (HalfFitsAt 3) _ step _ ops at has (refl, tt)
half_each (suc (suc (suc (suc zero)))) step ops at has =
    found_there (HalfFitsAt 4) _ step _ ops at has refl
half_each (suc (suc (suc (suc (suc p))))) step ops at has = cc

-- it doesn't jump
no_jump : (p t : ℕ) → HasJump half p t → ⊥
no_jump zero t jump = jump
no_jump (suc zero) t jump = jump
no_jump (suc (suc zero)) t jump = jump
no_jump (suc (suc (suc zero))) t jump = jump
no_jump (suc (suc (suc (suc zero)))) t jump = jump
no_jump (suc (suc (suc (suc (suc p))))) t jump = jump

-- it is verified
pub half_verified : IsVerified (code_of half_function)
half_verified =
    code_verified half_function half_places (record {
      params = omega arith;
      locals = all_one (IsValueKind []) (One FloatElem) tt;
      as_long = refl;
      first = refl;
      each = half_each;
      ranges = all_in_range (code_of half_function) (typing_of half_places) half_function 0
          half_shapes refl half_each;
      files = of_first_file half_instrs;
      turns = λ p t jump le. absurd (no_jump p t jump);
    }) refl

-- the state at the start of a run of one file
abbrev at_start : State
at_start = record { store = first_store 1 []; acts = []; turns = 1 }

-- it prints the number with its type, and ends with 0
half_prints : exec (code_of half_function) 1 5 (frame 0 0 (AFloat (pos 0) ∷ []) [] ∷ []) at_start
    ≡ Ended (AnInt (pos 0)) (record at_start {
      acts = Printed (codes "0.500000 :(float)" ++ 10 ∷ []) ∷ [];
    })
unfolding local_of with_local binary nearest_in_range text_of digits
half_prints = refl
