-- A list of tokens has one verdict.
use Rattle.std.proofs.Common.{◌≡◌, ℕ, zero, suc, ◌<◌, ◌≤◌, List, [], ◌∷◌, ◌++◌, length, take, drop}
use Rattle.std.proofs.Common.{Some, refl, sym, ◌∙◌, ap, subst, arith, append_assoc, inl, inr}
use Rattle.std.specs.Prelude.{slice_get}
use Rattle.std.proofs.lemmas.Bool.{cases_order, cases_lt}
use Rattle.std.proofs.lemmas.List.{take-append-drop, length-take-le}
use Rattle.ck_base.specs.declared.limits.TheConstants.{MAX_NESTING}
use Rattle.ck_lexer.specs.declared.token.Token.{Token}
use Rattle.ck_parser.specs.Depth.{file_depths}
use Rattle.ck_parser.specs.Grammar.{IsFile, IsViable}
use Rattle.ck_parser.specs.Parse.{AreShallow, StandsAt, IsFaulty, IsTooDeep}
use Rattle.ck_parser.proofs.Size.{same_depths}
use Rattle.ck_syntax.specs.Tree.{File}

-- a longer front goes on behind a shorter one
longer : {A : Type 0} (m n : ℕ) (xs : List A) → m ≤ n
    → (rest : List A) × (take n xs ≡ take m xs ++ rest)
longer zero n xs le = (take n xs, refl)
longer (suc m) zero xs le = absurd (omega (arith, le))
longer (suc m) (suc n) [] le = ([], refl)
longer (suc m) (suc n) (x ∷ xs) le =
    let p = longer m n xs (omega (arith, le)) in (p.0, ap (λ r. x ∷ r) p.1)

-- a file that begins with the longer front begins with the shorter one
begins_shorter : (m n : ℕ) (ts more : List Token) (x : File) → m ≤ n
    → IsFile (take n ts ++ more) x → (rest : List Token) × IsFile (take m ts ++ rest) x
begins_shorter m n ts more x le file =
    let p = longer m n ts le in (
      p.0 ++ more,
      subst (λ l. IsFile l x) (ap (λ l. l ++ more) p.1
          ∙ append_assoc (take m ts) p.0 more) file,
    )

viable_before : (k n : ℕ) (ts more : List Token) (x : File) → k < n
    → IsFile (take n ts ++ more) x → IsViable (take (suc k) ts)
viable_before k n ts more x lt file =
    let p = begins_shorter (suc k) n ts more x (omega (arith, lt)) file in (p.0, x, p.1)

same_at : {A : Type 0} (ds es : List A) (m n : ℕ) → take m ds ≡ take m es → n < m
    → slice_get ds n ≡ slice_get es n
same_at [] [] m n e lt = refl
same_at ds es zero n e lt = absurd (omega (arith, lt))
same_at [] (y ∷ es) (suc m) n e lt = absurd (cc)
same_at (x ∷ ds) [] (suc m) n e lt = absurd (cc)
same_at (x ∷ ds) (y ∷ es) (suc m) zero e lt = let h : x ≡ y = cc in ap Some h
same_at (x ∷ ds) (y ∷ es) (suc m) (suc n) e lt =
    let t : take m ds ≡ take m es = cc in same_at ds es m n t (omega (arith, lt))

shallow_at : (ds : List ℕ) (n m d : ℕ) → AreShallow (take m ds) → n < m
    → slice_get ds n ≡ Some d → d ≤ MAX_NESTING
shallow_at [] n m d s lt e = absurd (cc)
shallow_at (x ∷ ds) n zero d s lt e = absurd (omega (arith, lt))
shallow_at (x ∷ ds) zero (suc m) d s lt e = let h : x ≡ d = cc in subst (λ y. y ≤ MAX_NESTING) h s.0
shallow_at (x ∷ ds) (suc n) (suc m) d s lt e = shallow_at ds n m d s.1 (omega (arith, lt)) e

all_shallow_at : (ds : List ℕ) (n d : ℕ) → AreShallow ds → slice_get ds n ≡ Some d → d ≤ MAX_NESTING
all_shallow_at [] n d s e = absurd (cc)
all_shallow_at (x ∷ ds) zero d s e = let h : x ≡ d = cc in subst (λ y. y ≤ MAX_NESTING) h s.0
all_shallow_at (x ∷ ds) (suc n) d s e = all_shallow_at ds n d s.1 e

within : (ts : List Token) (k : ℕ) (t : Token) → slice_get ts k ≡ Some t → k < length ts
within [] k t e = absurd (cc)
within (x ∷ ts) zero t e = omega arith
within (x ∷ ts) (suc k) t e = omega (arith, within ts k t e)

-- the token that stands too deep does so in each file that begins with the tokens up to it
deep_in : (ts rest : List Token) (k line : ℕ) (x : File) (deep : IsTooDeep ts k) → StandsAt ts k
    line → IsFile (take (suc k) ts ++ rest) x → slice_get (file_depths x) k ≡ Some deep.depth
deep_in ts rest k line x deep stands file =
    let lt = within ts k stands.token stands.at in
    let long : length (take (suc k) ts) ≡ suc k = length-take-le (suc k) ts (omega (arith, lt)) in
    let same = same_depths (take (suc k) ts) deep.with.more rest deep.tree x deep.with.file file in
    let same_front : take (suc k) (file_depths deep.tree) ≡ take (suc k) (file_depths x) = subst
    (λ n. take n (file_depths deep.tree) ≡ take n (file_depths x)) long same in
    sym (same_at (file_depths deep.tree) (file_depths x) (suc k) k same_front (omega arith))
    ∙ deep.stands

-- no file goes on shallow behind it
deep_ends : (ts more : List Token) (k line m : ℕ) (x : File) → IsTooDeep ts k → StandsAt ts k
    line → k < m → IsFile (take m ts ++ more) x → AreShallow (take m (file_depths x)) → ⊥
deep_ends ts more k line m x deep stands lt file shallow =
    let p = begins_shorter (suc k) m ts more x (omega (arith, lt)) file in
    let low = shallow_at (file_depths x) k m deep.depth shallow lt
    (deep_in ts p.0 k line x deep stands p.1) in
    let high = deep.over in
    omega (arith, low, high)

pub one_faulty_place : (ts : List Token) (k n : ℕ) → IsFaulty ts k → IsFaulty ts n → k ≡ n
one_faulty_place ts k n a b = elim (cases_order k n) [
  | inl e ↦ e
  | inr (inl lt) ↦ absurd (a.not_with (viable_before k n ts b.before.more b.tree lt b.before.file))
  | inr (inr gt) ↦ absurd (b.not_with (viable_before n k ts a.before.more a.tree gt a.before.file))
]

deep_before : (ts : List Token) (k n line : ℕ) → IsTooDeep ts k → StandsAt ts k line
    → IsTooDeep ts n → k < n → ⊥
deep_before ts k n line a s b lt =
    let p = begins_shorter n (suc n) ts b.with.more b.tree (omega arith) b.with.file in
    deep_ends ts p.0 k line n b.tree a s lt p.1 b.with.shallow

pub one_deep_place : (ts : List Token) (k n line on : ℕ) → IsTooDeep ts k → IsTooDeep ts n
    → StandsAt ts k line → StandsAt ts n on → k ≡ n
one_deep_place ts k n line on a b s t = elim (cases_order k n) [
  | inl e ↦ e
  | inr (inl lt) ↦ absurd (deep_before ts k n line a s b lt)
  | inr (inr gt) ↦ absurd (deep_before ts n k on b t a gt)
]

pub faulty_or_deep : (ts : List Token) (k n line : ℕ) → IsFaulty ts k → IsTooDeep ts n
    → StandsAt ts n line → ⊥
faulty_or_deep ts k n line a b t = elim (cases_lt n k) [
  | inl lt ↦ deep_ends ts a.before.more n line k a.tree b t lt a.before.file a.before.shallow
  | inr le ↦ a.not_with
      (viable_before k (suc n) ts b.with.more b.tree (omega (arith, le)) b.with.file)
]

pub tree_or_deep : (ts : List Token) (x : File) (k line : ℕ) → IsFile ts x
    → AreShallow (file_depths x) → IsTooDeep ts k → StandsAt ts k line → ⊥
tree_or_deep ts x k line file shallow deep stands =
    let cut : ts ≡ take (suc k) ts ++ drop (suc k) ts = sym (take-append-drop (suc k) ts) in
    let at = deep_in ts (drop (suc k) ts) k line x deep stands (subst (λ l. IsFile l x) cut file) in
    let low = all_shallow_at (file_depths x) k deep.depth shallow at in
    let high = deep.over in
    omega (arith, low, high)

pub one_line : (ts : List Token) (k line on : ℕ) → StandsAt ts k line → StandsAt ts k on → line ≡ on
one_line ts k line on s t =
    let same : s.token ≡ t.token = some_is (sym s.at ∙ t.at) in
    sym s.in_line ∙ ap (λ x. x.line) same ∙ t.in_line
  where
    some_is : {x y : Token} → Some x ≡ Some y → x ≡ y
    some_is e = cc
