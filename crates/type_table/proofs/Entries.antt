-- The entries of a map, as plain lists of names.
use Rattle.std.proofs.Common.{◌≡◌, ℕ, Bool, true, false, cond, List, [], ◌∷◌, ◌++◌, map, Some, None, refl, sym, ap, ◌∙◌}
use Rattle.std.specs.Global.{Vec}
use Rattle.std.specs.Map.{lookup as lookup_by}
use Rattle.std.specs.Str.{bytes_eq}
use Rattle.indexmap.specs.IndexMap.{insert_entry}
use Rattle.ck_syntax.specs.Tree.{Name}
use Rattle.type_table.specs.Names.{lookup}

module _ {A : Type 0} where
  abbrev pub meant : Vec ℕ × A → Name × A
  meant e = (e.0.items, e.1)

  found : (n : Name) (es : List (Vec ℕ × A)) → lookup_by (λ k. bytes_eq n k.items) es ≡ lookup n (map meant es)
  found n [] = refl
  found n (e ∷ es) = ap (λ o. cond (bytes_eq n e.0.items) (Some e.1) o) (found n es)

  pub found_name : (n : Name) (es : List (Vec ℕ × A)) (all : List (Name × A)) → map meant es ≡ all → lookup_by (λ k. bytes_eq n k.items) es ≡ lookup n all
  found_name n es all are = found n es ∙ ap (lookup n) are

  entered : (es : List (Vec ℕ × A)) (k : Vec ℕ) (n : Name) (a : A) → k.items ≡ n → lookup n (map meant es) ≡ None → map meant (insert_entry (λ x y. bytes_eq x.items y.items) es k a) ≡ map meant es ++ (n, a) ∷ []
  entered [] k n a is none = ap (λ m. (m, a) ∷ []) is
  entered (e ∷ es) k n a is none = go (bytes_eq n e.0.items) refl (λ later. entered es k n a is later)
    where
      go : (b : Bool) → bytes_eq n e.0.items ≡ b → (lookup n (map meant es) ≡ None → map meant (insert_entry (λ x y. bytes_eq x.items y.items) es k a) ≡ map meant es ++ (n, a) ∷ [])
          → map meant (insert_entry (λ x y. bytes_eq x.items y.items) (e ∷ es) k a) ≡ map meant (e ∷ es) ++ (n, a) ∷ []
      go true at rest = let no_name : Some e.1 ≡ None = sym (ap (λ b. cond b (Some e.1) (lookup n (map meant es))) at) ∙ none in absurd (cc)
      go false at rest =
          ap (λ m. map meant (cond (bytes_eq m e.0.items) ((e.0, a) ∷ es) (e ∷ insert_entry (λ x y. bytes_eq x.items y.items) es k a))) is
          ∙ ap (λ b. map meant (cond b ((e.0, a) ∷ es) (e ∷ insert_entry (λ x y. bytes_eq x.items y.items) es k a))) at
          ∙ ap (λ l. meant e ∷ l) (rest (sym (ap (λ b. cond b (Some e.1) (lookup n (map meant es))) at) ∙ none))

  -- a new name comes behind all others
  pub entered_name : (es : List (Vec ℕ × A)) (all : List (Name × A)) (k : Vec ℕ) (n : Name) (a : A) → map meant es ≡ all → k.items ≡ n → lookup n all ≡ None
      → map meant (insert_entry (λ x y. bytes_eq x.items y.items) es k a) ≡ all ++ (n, a) ∷ []
  entered_name es all k n a are is none = entered es k n a is (ap (lookup n) are ∙ none) ∙ ap (λ l. l ++ (n, a) ∷ []) are
