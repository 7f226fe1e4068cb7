-- Runs of bytes that pass a test.
use Rattle.std.proofs.Common.{◌≡◌, ℕ, ◌+◌, ◌≤◌, List, [], ◌∷◌, ◌++◌, length, take, drop, Bool, true, false, ◌&&◌, ◌||◌, cond, refl, sym, ◌∙◌, ap, subst, arith, one-add}
use Rattle.std.specs.List.{prefix_len, list_all}

-- each byte of a run passes
pub list_all-run : (p : ℕ → Bool) (bs : List ℕ) → list_all p (take (prefix_len p bs) bs) ≡ true
list_all-run p [] = refl
list_all-run p (b ∷ bs) = go (list_all-run p bs) (p b) refl
  where
    go : list_all p (take (prefix_len p bs) bs) ≡ true → (c : Bool) → p b ≡ c → list_all p (take (cond c (1 + prefix_len p bs) 0) (b ∷ bs)) ≡ true
    go i true e = rw one-add (ap (λ x. x && list_all p (take (prefix_len p bs) bs)) e ∙ i)
    go i false e = refl

-- no front that passes is longer than the run
pub run-longest : (p : ℕ → Bool) (w rest : List ℕ) → list_all p w ≡ true → length w ≤ prefix_len p (w ++ rest)
run-longest p [] rest h = omega arith
run-longest p (b ∷ w) rest h = go (λ i. run-longest p w rest i) (p b) h
  where
    go : (list_all p w ≡ true → length w ≤ prefix_len p (w ++ rest)) → (c : Bool) → (c && list_all p w) ≡ true → length (b ∷ w) ≤ cond c (1 + prefix_len p (w ++ rest)) 0
    go i true h = let j = i h in omega arith
    go i false h = cc

pub run-front : (p : ℕ → Bool) (bs w rest : List ℕ) → bs ≡ w ++ rest → list_all p w ≡ true → length w ≤ prefix_len p bs
run-front p bs w rest e h = subst (λ x. length w ≤ prefix_len p x) (sym e) (run-longest p w rest h)

-- a run ends at a byte that doesn't pass
pub run-stops : (p : ℕ → Bool) (w : List ℕ) (c : ℕ) (rest : List ℕ) → list_all p w ≡ true → p c ≡ false → prefix_len p (w ++ c ∷ rest) ≡ length w
run-stops p [] c rest h e = rw e refl
run-stops p (b ∷ w) c rest h e = go (λ i. run-stops p w c rest i e) (p b) h
  where
    go : (list_all p w ≡ true → prefix_len p (w ++ c ∷ rest) ≡ length w) → (d : Bool) → (d && list_all p w) ≡ true → cond d (1 + prefix_len p (w ++ c ∷ rest)) 0 ≡ length (b ∷ w)
    go i true h = let j = i h in omega arith
    go i false h = cc

-- what stands behind the bytes that a list begins with
pub drop-front : (w rest : List ℕ) → drop (length w) (w ++ rest) ≡ rest
drop-front [] rest = refl
drop-front (b ∷ w) rest = drop-front w rest

pub take-front : (w rest : List ℕ) → take (length w) (w ++ rest) ≡ w
take-front [] rest = refl
take-front (b ∷ w) rest = ap (λ x. b ∷ x) (take-front w rest)

-- both parts of a test
pub both-left : (a b : Bool) → (a && b) ≡ true → a ≡ true
both-left true b h = refl
both-left false b h = cc

pub both-right : (a b : Bool) → (a && b) ≡ true → b ≡ true
both-right true b h = h
both-right false b h = cc

pub either-left : (a b : Bool) → (a || b) ≡ false → a ≡ false
either-left true b h = cc
either-left false b h = refl

-- the first byte of a run, and those behind it
pub list_all-first : (p : ℕ → Bool) (b : ℕ) (bs : List ℕ) → list_all p (b ∷ bs) ≡ true → p b ≡ true
list_all-first p b bs h = both-left (p b) _ h

pub list_all-behind : (p : ℕ → Bool) (b : ℕ) (bs : List ℕ) → list_all p (b ∷ bs) ≡ true → list_all p bs ≡ true
list_all-behind p b bs h = both-right (p b) _ h

pub list_all-cons : (p : ℕ → Bool) (b : ℕ) (bs : List ℕ) → p b ≡ true → list_all p bs ≡ true → list_all p (b ∷ bs) ≡ true
list_all-cons p b bs h i = rw h i
