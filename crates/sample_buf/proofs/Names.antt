-- What `==` says of names, and the front of a RIFF WAVE file.
use Rattle.std.proofs.Common.{◌≡◌, ◌≢◌, ℕ, ◌+◌, ◌<◌, ◌≤◌, true, false, nat_eq, List, ◌++◌, length, take, drop, Option, Some, None, refl, sym, ap, subst, ◌∙◌, arith, Bor}
use Rattle.std.specs.Prelude.{MatchOption, codes}
use lib.Pointwise.{pointwise}
use Rattle.std.proofs.lemmas.Bool.Decides.{Decides-eqb, not_from_Decides}
use Rattle.std.proofs.lemmas.Slice.Eq.{slice_eq-Decides}
use Rattle.std.proofs.lemmas.List.{drop_at, take-append-drop, length-take, length-append}
use Rattle.sample_buf.specs.Chunks.{IsRiff}

pub same_name : (xs ys : List ℕ) → pointwise nat_eq xs ys ≡ true → xs ≡ ys
same_name xs ys e = (slice_eq-Decides Decides-eqb xs ys (pointwise nat_eq xs ys) refl).0 e

pub other_name : (xs ys : List ℕ) → pointwise nat_eq xs ys ≡ false → xs ≢ ys
other_name xs ys e = not_from_Decides (pointwise nat_eq xs ys) (slice_eq-Decides Decides-eqb xs ys (pointwise nat_eq xs ys) refl) e

pub is_named : (xs word name : List ℕ) → word ≡ name → pointwise nat_eq xs word ≡ true → xs ≡ name
is_named xs word name w e = same_name xs word e ∙ w

pub is_other : (xs word name : List ℕ) → word ≡ name → pointwise nat_eq xs word ≡ false → xs ≢ name
is_other xs word name w e same = other_name xs word e (same ∙ sym w)

-- where the parts of a RIFF WAVE file stand
pub record RiffParts (file chunks : List ℕ) : Type 0 where
  pub first : take 4 file ≡ codes "RIFF"
  pub long : 4 ≤ length (drop 4 file)
  pub second : take 4 (drop 4 (drop 4 file)) ≡ codes "WAVE"
  pub behind : chunks ≡ drop 4 (drop 4 (drop 4 file))

pub riff_parts : (file chunks : List ℕ) → IsRiff file chunks → RiffParts file chunks
riff_parts file chunks r =
    let e : drop 4 file ≡ r.size ++ (codes "WAVE" ++ chunks) = ap (drop 4) r.stands in
    let d : drop 4 (drop 4 file) ≡ codes "WAVE" ++ chunks = ap (drop 4) e ∙ drop_at r.size (codes "WAVE" ++ chunks) 4 r.four in
    record {
      first = ap (take 4) r.stands;
      long = omega (arith, ap length e, length-append r.size (codes "WAVE" ++ chunks), r.four);
      second = ap (take 4) d;
      behind = sym (ap (drop 4) d);
    }

pub riff_found : (file chunks : List ℕ) → RiffParts file chunks → IsRiff file chunks
riff_found file chunks p = record {
  size = take 4 (drop 4 file);
  four = omega (arith, length-take 4 (drop 4 file), p.long);
  stands =
      sym (ap (λ (t : List ℕ). codes "RIFF" ++ (take 4 (drop 4 file) ++ (codes "WAVE" ++ t))) p.behind
      ∙ ap (λ (t : List ℕ). codes "RIFF" ++ (take 4 (drop 4 file) ++ (t ++ drop 4 (drop 4 (drop 4 file))))) (sym p.second)
      ∙ ap (λ (t : List ℕ). codes "RIFF" ++ (take 4 (drop 4 file) ++ t)) (take-append-drop 4 (drop 4 (drop 4 file)))
      ∙ ap (λ (t : List ℕ). codes "RIFF" ++ t) (take-append-drop 4 (drop 4 file))
      ∙ ap (λ (t : List ℕ). t ++ drop 4 file) (sym p.first) ∙ take-append-drop 4 file);
}

-- the chunks of a RIFF WAVE file, or no such file
pub no_riff_first : (file chunks : List ℕ) → pointwise nat_eq (take 4 file) (codes "RIFF") ≡ false → IsRiff file chunks → ⊥
no_riff_first file chunks e r = other_name (take 4 file) (codes "RIFF") e (riff_parts file chunks r).first

pub no_riff_size : (file chunks : List ℕ) → length (drop 4 file) < 4 → IsRiff file chunks → ⊥
no_riff_size file chunks l r = let p = riff_parts file chunks r in absurd (omega (arith, p.long, l))

pub no_riff_second : (file chunks : List ℕ) → pointwise nat_eq (take 4 (drop 4 (drop 4 file))) (codes "WAVE") ≡ false → IsRiff file chunks → ⊥
no_riff_second file chunks e r = other_name (take 4 (drop 4 (drop 4 file))) (codes "WAVE") e (riff_parts file chunks r).second

pub riff_seen : (file : List ℕ) → pointwise nat_eq (take 4 file) (codes "RIFF") ≡ true → 4 ≤ length (drop 4 file) → pointwise nat_eq (take 4 (drop 4 (drop 4 file))) (codes "WAVE") ≡ true
    → IsRiff file (drop 4 (drop 4 (drop 4 file)))
riff_seen file a l b =
    riff_found file (drop 4 (drop 4 (drop 4 file))) (record { first = same_name (take 4 file) (codes "RIFF") a; long = l; second = same_name (take 4 (drop 4 (drop 4 file))) (codes "WAVE") b; behind = refl })

-- what `riff_chunks` answers, by its last step
pub riff_answer : (file riff first behind word : List ℕ) (found : Option (Bor (List ℕ))) → riff ≡ codes "RIFF" → pointwise nat_eq (take (length riff) file) riff ≡ true → first ≡ drop (length riff) file → 4 ≤ length first
    → behind ≡ drop 4 first → word ≡ codes "WAVE"
    → MatchOption found (pointwise nat_eq (take (length word) behind) word ≡ false) (λ x. (pointwise nat_eq (take (length word) behind) word ≡ true) × (x.now ≡ drop (length word) behind) × (length x.now + length word ≡ length behind))
    → MatchOption found ((chunks : List ℕ) → IsRiff file chunks → ⊥) (λ x. IsRiff file x.now)
riff_answer file riff first behind word None e r f l b w none =
    let at : behind ≡ drop 4 (drop 4 file) = b ∙ ap (drop 4) f ∙ ap (λ (t : List ℕ). drop 4 (drop (length t) file)) e in
    λ chunks. no_riff_second file chunks (ap (λ (t : List ℕ). pointwise nat_eq (take 4 t) (codes "WAVE")) (sym at) ∙ ap (λ (t : List ℕ). pointwise nat_eq (take (length t) behind) t) (sym w) ∙ none)
riff_answer file riff first behind word (Some x) e r f l b w some =
    let from : first ≡ drop 4 file = f ∙ ap (λ (t : List ℕ). drop (length t) file) e in
    let at : behind ≡ drop 4 (drop 4 file) = b ∙ ap (drop 4) from in
    let is : x.now ≡ drop 4 (drop 4 (drop 4 file)) = some.1 ∙ ap (λ (t : List ℕ). drop (length t) behind) w ∙ ap (drop 4) at in
    subst (λ (t : List ℕ). IsRiff file t) (sym is)
    (riff_seen file (ap (λ (t : List ℕ). pointwise nat_eq (take (length t) file) t) (sym e) ∙ r) (omega (arith, l, ap length from))
    (ap (λ (t : List ℕ). pointwise nat_eq (take 4 t) (codes "WAVE")) (sym at) ∙ ap (λ (t : List ℕ). pointwise nat_eq (take (length t) behind) t) (sym w) ∙ some.0))
