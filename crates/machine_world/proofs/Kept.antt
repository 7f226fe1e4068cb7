-- The frames of a shred, and what they mean.
use Rattle.std.proofs.Common.{◌≡◌, ◌≤◌, ◌++◌, ℕ, List, [], ◌∷◌, map, take, drop, length, reverse}
use Rattle.std.proofs.Common.{refl, ap, sym, subst, ◌∙◌, arith}
use Rattle.std.proofs.lemmas.List.{length-map, length-reverse, length-take-le}
use Rattle.std.proofs.lemmas.List.{map-append, take-map, drop-map}
use Rattle.ck_values.specs.declared.kind.Elem.TheVariants as elem
use Rattle.ck_values.specs.declared.kind.Kind.{Kind}
use Rattle.ck_values.specs.declared.kind.Kind.TheVariants.{Void, Null, One, Row, Grid}
use Rattle.ck_values.specs.declared.value.Value.{Value}
use Rattle.ck_values.specs.Datum.{Datum, meant, all_meant, first_value, first_locals}
use Rattle.ck_code.specs.Machine.{frame, taken}
use Rattle.shred_state.specs.Frames.{Frame, Standing, entered, at_place as standing_at}
use Rattle.shred_state.specs.Values.{first_value as first_held, first_locals as locals_held}
use Rattle.machine_world.specs.Shown.{Shown, shown_frame, shown, operands_of}
use Rattle.machine_world.proofs.Changed.{at_place, IsEntered}
use Rattle.ck_store.specs.Store.{IsFitting}
use Rattle.machine_world.proofs.Numbered.{length-meant}
use Rattle.machine_world.proofs.Taken.{taken_within, taken_gives, reverse_meant}

pub length-shown : (frames : List Frame) → length (map shown_frame frames) ≡ length frames
length-shown frames = length-map frames shown_frame

-- variables begin with what their kinds say
meant_first : (k : Kind) → meant (first_held k) ≡ first_value k
meant_first Void = refl
meant_first Null = refl
meant_first (One elem.Int) = refl
meant_first (One elem.Float) = refl
meant_first (One elem.Dur) = refl
meant_first (One elem.Time) = refl
meant_first (One elem.Text) = refl
meant_first (One elem.Shred) = refl
meant_first (One (elem.Class c)) = refl
meant_first (One (elem.Unit u)) = refl
meant_first (Row e) = refl
meant_first (Grid e) = refl

pub meant_firsts : (kinds : List Kind) → all_meant (map first_held kinds) ≡ map first_value kinds
meant_firsts [] = refl
meant_firsts (k ∷ kinds) =
    ap (λ d. d ∷ all_meant (map first_held kinds)) (meant_first k)
    ∙ ap (λ ds. first_value k ∷ ds) (meant_firsts kinds)

-- the locals of a call with so many of the operands as its arguments
meant_locals : (kinds : List Kind) (n : ℕ) (operands : List Value) → n ≤ length operands
    → all_meant (locals_held kinds n (reverse (take n operands)))
    ≡ first_locals kinds (reverse (take n (all_meant operands)))
meant_locals kinds n operands few =
    let data1 = all_meant operands in
    let args : all_meant (reverse (take n operands)) ≡ reverse (take n data1) =
    reverse_meant (take n operands) ∙ ap reverse (sym (take-map meant n operands)) in
    let size : n ≡ length (reverse (take n data1)) =
    sym (length-reverse (take n data1)
    ∙ length-take-le n data1 (omega (arith, few, length-meant operands))) in
    map-append meant (reverse (take n operands)) (map first_held (drop n kinds))
    ∙ ap (λ ds. ds ++ all_meant (map first_held (drop n kinds))) args
    ∙ ap (λ ds. reverse (take n data1) ++ ds) (meant_firsts (drop n kinds)
    ∙ ap (λ m. map first_value (drop m kinds)) size)

-- a function that is entered
meant_entered : (before : Standing) (fun n : ℕ) (kinds : List Kind) → n ≤ length (operands_of before)
    → shown (entered before fun n kinds) ≡ record (shown before) {
      top = frame fun 0 (first_locals kinds (reverse (take n (operands_of before)))) [];
      below = record (shown before).top { operands = drop n (operands_of before) }
          ∷ (shown before).below;
    }
unfolding shown
meant_entered before fun n kinds few =
    let held = before.top.operands in
    let fits : n ≤ length held = omega (arith, few, length-meant held) in
    let made : List Datum → List Datum → Shown = λ locals operands. record {
      number = before.number;
      parent = before.parent;
      top = frame fun 0 locals [];
      below = record (shown_frame before.top) { operands = operands }
          ∷ map shown_frame before.below;
      turns = before.turns;
      last = before.last;
    } in
    let locals = first_locals kinds (reverse (take n (all_meant held))) in
    ap (λ ls. made ls (all_meant (drop n held))) (meant_locals kinds n held fits)
    ∙ ap (made locals) (sym (drop-map meant n held))

pub is_entered : (before after : Standing) (back fun n : ℕ) (kinds : List Kind)
    → IsFitting (taken n [] (operands_of before))
    → after ≡ entered (standing_at before back) fun n kinds
    → IsEntered (taken n [] (operands_of before)) fun kinds (at_place (shown before) back)
    (shown after)
unfolding shown
is_entered before after back fun n kinds fits so =
    let operands = operands_of before in
    let there = standing_at before back in
    let few = taken_within n [] operands fits in
    subst (λ t. IsEntered t fun kinds (at_place (shown before) back) (shown after))
    (sym (taken_gives n operands fits)) (ap shown so ∙ meant_entered there fun n kinds few)

pub ruleset kept = (length-meant, length-shown, meant_firsts)
