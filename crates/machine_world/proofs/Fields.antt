-- What the fields of an object begin with, chunk by chunk.
use Rattle.std.proofs.Common.{◌≡◌, ℕ, ◌+◌, ◌*◌, ◌≤◌, List, ◌++◌, map, take, drop, length, sym, ap, ◌∙◌, arith}
use Rattle.std.proofs.Math.Seq.{take-add}
use Rattle.std.proofs.lemmas.List.{map-append, take_all}

pub next_chunk : {A B : Type 0} (f : A → B) (n i : ℕ) (xs : List A)
    → map f (take (n * i) xs) ++ map f (take n (drop (n * i) xs)) ≡ map f (take (n * (i + 1)) xs)
next_chunk f n i xs =
    sym (map-append f (take (n * i) xs) (take n (drop (n * i) xs)))
    ∙ ap (map f) (sym (take-add (n * i) n xs) ∙ ap (λ k. take k xs) (grind arith))

pub all_chunks : {A B : Type 0} (f : A → B) (n i : ℕ) (xs : List A) → length xs ≤ n * i → map f (take (n * i) xs) ≡ map f xs
all_chunks f n i xs le = ap (map f) (take_all (n * i) xs le)
