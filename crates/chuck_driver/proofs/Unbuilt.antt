-- The search for the first file with a form that isn't run yet.
use Rattle.std.proofs.Common.{◌≡◌, ℕ, zero, suc, ◌+◌, ◌<◌, ◌≤◌, true, false, List, [], ◌∷◌, length, map, drop, get_or, Option, Some, None, if◌then◌else◌, refl, sym, ap, ◌∙◌, arith, codes, add-one}
use Rattle.std.specs.Prelude.{slice_get}
use Rattle.ck_syntax.specs.declared.file.File.{File}
use Rattle.ck_syntax.specs.View.{view_file}
use Rattle.built_forms.specs.Built.{is_built}
use Rattle.program_answers.specs.Answer.{WholeAnswer, refusal}
use Rattle.chuck_driver.specs.Answer.{first_unbuilt}

-- what is found from a place on
abbrev pub from_place : ℕ → List (List ℕ) → List File → Option WholeAnswer
from_place i names trees = first_unbuilt (drop i names) (map view_file (drop i trees))

no_names : (trees : List File) → first_unbuilt [] (map view_file trees) ≡ None
no_names [] = refl
no_names (x ∷ trees) = refl

no_trees : (names : List (List ℕ)) → first_unbuilt names [] ≡ None
no_trees [] = refl
no_trees (n ∷ names) = refl

one_on : (i : ℕ) (names : List (List ℕ)) (trees : List File) (x : File) → i < length trees
    → x ≡ get_or trees i x → is_built (view_file x) ≡ true
    → from_place i names trees ≡ from_place (suc i) names trees
one_on i names [] x within is built = absurd (omega (arith, within))
one_on zero [] (y ∷ trees) x within is built = sym (no_names trees)
one_on zero (n ∷ names) (y ∷ trees) x within is built =
    ap (λ b. if b then first_unbuilt names (map view_file trees) else Some (refusal n (codes "not built")))
    (ap (λ z. is_built (view_file z)) (sym is) ∙ built)
one_on (suc i) [] (y ∷ trees) x within is built =
    no_names (drop i trees) ∙ sym (no_names (drop (suc i) trees))
one_on (suc i) (n ∷ names) (y ∷ trees) x within is built =
    one_on i names trees x (omega (arith, within)) is built

-- a file whose forms are all run is passed over
pub next_place : (i : ℕ) (names : List (List ℕ)) (trees : List File) (x : File) → i < length trees
    → x ≡ get_or trees i x → is_built (view_file x) ≡ true
    → from_place i names trees ≡ from_place (i + 1) names trees
next_place i names trees x within is built =
    one_on i names trees x within is built ∙ ap (λ j. from_place j names trees) (sym (add-one i))

-- another one is refused
pub here_refused : (i : ℕ) (names : List (List ℕ)) (name : List ℕ) (trees : List File) (x : File)
    → i < length trees → x ≡ get_or trees i x → is_built (view_file x) ≡ false
    → slice_get names i ≡ Some name
    → from_place i names trees ≡ Some (refusal name (codes "not built"))
here_refused i names name [] x within is unbuilt at = absurd (omega (arith, within))
here_refused zero [] name (y ∷ trees) x within is unbuilt at = absurd (cc)
here_refused zero (n ∷ names) name (y ∷ trees) x within is unbuilt at =
    let same : n ≡ name = cc in
    ap (λ b. if b then first_unbuilt names (map view_file trees) else Some (refusal n (codes "not built")))
    (ap (λ z. is_built (view_file z)) (sym is) ∙ unbuilt)
    ∙ ap (λ m. Some (refusal m (codes "not built"))) same
here_refused (suc i) [] name (y ∷ trees) x within is unbuilt at = absurd (cc)
here_refused (suc i) (n ∷ names) name (y ∷ trees) x within is unbuilt at =
    here_refused i names name trees x (omega (arith, within)) is unbuilt at

past : (i : ℕ) (trees : List File) → length trees ≤ i → drop i trees ≡ []
past zero [] le = refl
past (suc i) [] le = refl
past zero (x ∷ trees) le = absurd (omega (arith, le))
past (suc i) (x ∷ trees) le = past i trees (omega (arith, le))

-- and past the last there is none
pub none_past : (i : ℕ) (names : List (List ℕ)) (trees : List File) → length trees ≤ i
    → from_place i names trees ≡ None
none_past i names trees le =
    ap (λ (rest : List File). first_unbuilt (drop i names) (map view_file rest)) (past i trees le)
    ∙ no_trees (drop i names)
