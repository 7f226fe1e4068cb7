-- What was there stays at the front as more is added.
use Rattle.std.proofs.Common.{◌≡◌, ◌∙◌, sym, ap, ℕ, ◌≤◌, List, ◌++◌, length, take, arith, length-append}
use Rattle.std.proofs.Common.{Result, Ok, Err}
use Rattle.std.specs.Prelude.{OnErr}
use Rattle.std.proofs.Math.Seq.{take-append_seam}
use Rattle.std.proofs.lemmas.List.{take-take, length-take, take-append-le}

-- what keeps a list and more keeps the list
pub keeps_more : (old more new : List ℕ)
    → take (length (old ++ more)) new ≡ old ++ more → take (length old) new ≡ old
keeps_more old more new kept =
    let within : length old ≤ length (old ++ more) = omega (arith, length-append old more) in
    sym (take-take (length old) (length (old ++ more)) new within)
    ∙ ap (take (length old)) kept ∙ take-append_seam old more

-- more behind what keeps a list
pub keeps_longer : (old new more : List ℕ) → take (length old) new ≡ old
    → take (length old) (new ++ more) ≡ old
keeps_longer old new more kept =
    let within : length old ≤ length new =
    omega (arith, length-take (length old) new, ap length kept) in
    take-append-le (length old) new more within ∙ kept

-- what keeps a list that keeps another keeps that one
pub keeps_through : (old now new : List ℕ) → take (length old) now ≡ old
    → take (length now) new ≡ now → take (length old) new ≡ old
keeps_through old now new first second =
    let within : length old ≤ length now =
    omega (arith, length-take (length old) now, ap length first) in
    sym (take-take (length old) (length now) new within) ∙ ap (take (length old)) second ∙ first

-- what holds anyway holds of a call that failed
pub on_err : {A E P : Type 0} (r : Result A E) → P → OnErr r P
on_err (Ok x) p = tt
on_err (Err e) p = p
