-- What a shred begins with.
use Rattle.std.proofs.Common.{◌≡◌, ℕ, ◌<◌, ◌≤◌, negsuc, length, arith, List, [], ◌++◌, map, drop, slice_get, ap, subst, sym, ◌∙◌}
use Rattle.std.proofs.lemmas.Option.{slice_get_within}
use Rattle.std.proofs.lemmas.List.{map-append}
use Rattle.ck_values.specs.declared.kind.Kind.{Kind}
use Rattle.ck_values.specs.declared.value.Value.{Value}
use Rattle.ck_values.specs.Datum.{Datum, meant, all_meant, first_value}
use Rattle.ck_store.specs.Steps.{fresh}
use Rattle.ck_typed.specs.WellFormed.{FoundWhere}
use Rattle.ck_code.specs.declared.code.CodeParts.{CodeParts}
use Rattle.ck_code.specs.Machine.{frame}
use Rattle.ck_code.specs.Verified.{IsVerified}
use Rattle.ck_code.proofs.Standing.{found_is}
use Rattle.ck_code.proofs.Tables.{get_within}
use Rattle.shred_state.specs.Frames.{new_shred}
use Rattle.shred_state.specs.Values.{first_value as first_held}
use Rattle.machine_world.specs.Shown.{Shown, shown, kinds_of}
use Rattle.machine_world.proofs.Changed.{newly_shown}
use Rattle.machine_world.proofs.Kept.{meant_firsts}
use Rattle.machine_world.proofs.Numbered.{length-meant}

-- a new shred means its arguments, and then the first values of the other locals
pub newly_meant : (number parent fun : ℕ) (kinds : List Kind) (arguments : List Value)
    → shown (new_shred number parent fun kinds arguments)
    ≡ newly_shown number parent fun kinds (all_meant arguments)
unfolding shown fresh
newly_meant number parent fun kinds arguments =
    let size : length arguments ≡ length (all_meant arguments) = sym (length-meant arguments) in
    let with_locals : List Datum → Shown = λ locals. record {
      number = number;
      parent = parent;
      top = frame fun 0 locals [];
      below = [];
      turns = fresh;
      last = negsuc 0;
    } in
    ap with_locals (map-append meant arguments (map first_held (drop (length arguments) kinds))
    ∙ ap (λ ds. all_meant arguments ++ ds) (meant_firsts (drop (length arguments) kinds)
    ∙ ap (λ n. map first_value (drop n kinds)) size))

-- a function has a local for each parameter
pub params_few : (code : CodeParts) (verified : IsVerified code) (fun n : ℕ)
    → FoundWhere (slice_get code.funs fun) (λ fn. fn.params ≡ n)
    → n ≤ length (kinds_of (slice_get code.funs fun))
params_few code verified fun n found =
    let fn = found_is (slice_get code.funs fun) (λ fn. fn.params ≡ n) found in
    let within : fun < length verified.typing.operands =
    omega (arith, slice_get_within code.funs fun fn.0 fn.1, verified.same_places) in
    let places = get_within verified.typing.operands fun within in
    let few = (verified.funs fun fn.0 places.0 fn.1 places.1).params in
    subst (λ o. n ≤ length (kinds_of o)) (sym fn.1) (omega (arith, few, fn.2))
