-- What a verified code lets run.
use Rattle.std.proofs.Common.{◌≡◌, ℕ, Option, Some, None, slice_get, refl, arith}
use Rattle.std.proofs.lemmas.Option.{slice_get_within}
use Rattle.ck_code.specs.declared.instr.Instr.{Instr}
use Rattle.ck_code.specs.declared.instr.Instr.TheVariants.{UnitInt, UnitFix, Ugen}
use Rattle.ck_code.specs.declared.code.Step.{Step}
use Rattle.ck_code.specs.declared.code.Fun.{Fun}
use Rattle.ck_code.specs.declared.code.CodeParts.{CodeParts}
use Rattle.ck_code.specs.Machine.{step_at, steps_of}
use Rattle.ck_code.specs.Verified.{IsInRange, IsVerified}
use Rattle.ck_code.proofs.Tables.{get_within}
use Rattle.machine_world.specs.Steps.{IsRunnable}

record InFun (fun : Option Fun) (p : ℕ) (step : Step) : Type 0 where
  fn : Fun
  is : fun ≡ Some fn
  at : slice_get fn.code p ≡ Some step

in_fun : (fun : Option Fun) (p : ℕ) (step : Step) → slice_get (steps_of fun) p ≡ Some step → InFun fun p step
in_fun None p step at = absurd (cc)
in_fun (Some fn) p step at = record { fn = fn; is = refl; at = at }

in_range : (code : CodeParts) (fn : Fun) (instr : Instr) → IsInRange code fn instr → IsRunnable instr
in_range code fn (UnitInt n d) h = h
in_range code fn (UnitFix n d) h = first_of (assumption, grind arith)
in_range code fn (Ugen kind) h = h
in_range code fn _ h = tt

pub runnable_at : (code : CodeParts) (f p : ℕ) (step : Step) → IsVerified code
    → step_at code f p ≡ Some step → IsRunnable step.instr
runnable_at code f p step verified at =
    let here = in_fun (slice_get code.funs f) p step at in
    let same = verified.same_places in
    let in_funs = slice_get_within code.funs f here.fn here.is in
    let places = get_within verified.typing.operands f (omega arith) in
    let fun = verified.funs f here.fn places.0 here.is places.1 in
    in_range code here.fn step.instr (fun.ranges p step here.at)
