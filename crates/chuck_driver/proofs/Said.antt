-- What a file that is refused leaves of the answer.
use Rattle.std.proofs.Common.{◌≡◌, ℕ, zero, suc, List, [], ◌∷◌, length, Some, None, refl, ap, arith}
use Rattle.std.specs.Prelude.{slice_get}
use Rattle.ck_syntax.specs.declared.file.File.{File}
use Rattle.program_answers.specs.Answer.{refusal_at}
use Rattle.chuck_driver.specs.Answer.{first_refusal}
use Rattle.command_inputs.specs.Sense.{Sense, HasTree, HasFault, AllSay, and_says}
use Rattle.command_inputs.specs.Senses.{FirstRefused, is_first, is_later, said}
use Rattle.command_inputs.proofs.Sensed.{all_say}

-- the files behind the refused one say something too
pub refused_senses : (files names : List (List ℕ)) (name : List ℕ) (place line : ℕ) (wrong : List ℕ)
    → FirstRefused files place line wrong → slice_get names place ≡ Some name
    → (senses : List Sense) × AllSay files senses
    × (first_refusal names senses ≡ Some (refusal_at name line wrong))
refused_senses [] names name place line wrong first is = elim first [ ]
refused_senses (bytes ∷ files) [] name place line wrong first is = absurd (cc)
refused_senses (bytes ∷ files) (n ∷ names) name zero line wrong (is_first says) is =
    let rest = all_say files in
    let same : n ≡ name = cc in (
      HasFault line wrong ∷ rest.0,
      and_says says rest.1,
      ap (λ x. Some (refusal_at x line wrong))
          same,
    )
refused_senses (bytes ∷ files) (n ∷ names) name (suc place) line wrong (is_later says first) is =
    let rest = refused_senses files names name place line wrong first is in
    (HasTree _ ∷ rest.0, and_says says rest.1, rest.2)

-- where all have trees none is refused
pub none_refused : (names : List (List ℕ)) (trees : List File) → length trees ≡ length names
    → first_refusal names (said trees) ≡ None
none_refused [] [] same = refl
none_refused [] (t ∷ trees) same = absurd (omega (arith, same))
none_refused (n ∷ names) [] same = absurd (omega (arith, same))
none_refused (n ∷ names) (t ∷ trees) same = none_refused names trees (omega (arith, same))
