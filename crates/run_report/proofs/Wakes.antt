-- Slices that are looked at one after another.
use Rattle.std.proofs.Common.{◌≡◌, ℕ, ◌+◌, ◌<◌, ◌≤◌, List, [], ◌∷◌, ◌++◌, length, take, get_or, sym, ap, ◌∙◌, append-nil}
use Rattle.std.proofs.lemmas.List.{take_more, take_all, map-append}
use Rattle.std.proofs.lemmas.List.Concat.{flat_map-append}
use Rattle.ck_run.specs.Report.{wake_line, trap_lines, wake_lines}
use Rattle.ck_run.specs.Run.{Wake}
use Rattle.chuck_vm.specs.Wakes.{wake_meant, wakes_meant}
use Rattle.chuck_vm.specs.declared.wake.Wake.{Wake as Noted}

module _ (wakes : List Noted) (i : ℕ) where
  -- the lines up to one, and its own
  pub lines_more : (names : List (List ℕ)) (wake : Noted) → i < length wakes
      → wake ≡ get_or wakes i wake
      → wake_lines names (wakes_meant (take (i + 1) wakes))
      ≡ wake_lines names (wakes_meant (take i wakes))
      ++ (wake_line (wake_meant wake) ++ trap_lines names (wake_meant wake) (wake_meant wake).trap)
  lines_more names wake within is =
      let line : Wake → List ℕ = λ w. wake_line w ++ trap_lines names w w.trap in
      let longer : take (i + 1) wakes ≡ take i wakes ++ wake ∷ [] =
      take_more wakes i wake within ∙ ap (λ w. take i wakes ++ w ∷ []) (sym is) in
      ap (λ (some : List Noted). wake_lines names (wakes_meant some)) longer
      ∙ ap (wake_lines names) (map-append wake_meant (take i wakes) (wake ∷ []))
      ∙ flat_map-append line (wakes_meant (take i wakes)) (wake_meant wake ∷ [])
      ∙ ap (λ last. wake_lines names (wakes_meant (take i wakes)) ++ last)
      (append-nil (line (wake_meant wake)))

  pub all_lines : (names : List (List ℕ)) → length wakes ≤ i
      → wake_lines names (wakes_meant (take i wakes)) ≡ wake_lines names (wakes_meant wakes)
  all_lines names past = ap (λ (some : List Noted). wake_lines names (wakes_meant some))
      (take_all i wakes past)
