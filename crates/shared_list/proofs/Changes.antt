-- A chunk after a call that changes it, or leaves it for want of memory.
use Rattle.std.proofs.Common.{◌≡◌, ℕ, List, [], ◌∷◌, ◌++◌, slice_get, slice_set, Some, Result, Ok, Err, OnOk, OnErr, sym, ap, subst, ◌∙◌, length, length-set}
use Rattle.shared_list.specs.Chunks.{AreChunks}
use Rattle.shared_list.proofs.Places.{kept_is, changed_are, TakesMore}

pub on_ok : {U E P Q : Type 0} (r : Result U E) → (P → Q) → OnOk r P → OnOk r Q
on_ok (Ok u) f p = f p
on_ok (Err e) f p = p

module _ {A U E : Type 0} where
  pub set_or_kept : (r : Result U E) (cs : List (List A)) (q i : ℕ) (c d : List A) (x : A) → AreChunks cs → slice_get cs q ≡ Some c
      → OnOk r (d ≡ slice_set c i x) → OnErr r (d ≡ c) → AreChunks (slice_set cs q d)
  set_or_kept (Ok u) cs q i c d x are found set kept = changed_are cs q c d are found (ap length set ∙ length-set c i x)
  set_or_kept (Err e) cs q i c d x are found set kept = changed_are cs q c d are found (ap length kept)

  pub pushed_or_kept : (r : Result U E) (cs : List (List A)) (q n : ℕ) (c d : List A) (x : A) → AreChunks cs → slice_get cs q ≡ Some c → TakesMore cs q n c x
      → OnOk r (d ≡ c ++ x ∷ []) → OnErr r (d ≡ c) → AreChunks (slice_set cs q d)
  pushed_or_kept (Ok u) cs q n c d x are found more pushed kept = subst (λ e. AreChunks (slice_set cs q e)) (sym pushed) more.are
  pushed_or_kept (Err e) cs q n c d x are found more pushed kept =
      subst AreChunks (sym (ap (slice_set cs q) kept ∙ kept_is cs q c found)) are
