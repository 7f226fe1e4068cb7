-- Each string of a program has its number.
use Rattle.std.proofs.Common.{◌≡◌, ℕ, zero, suc, List, [], ◌∷◌, ◌++◌, Bool, true, false, ◌||◌, if◌then◌else◌, Some, refl, sym, ap, ◌∙◌, subst, slice_get}
use Rattle.std.proofs.lemmas.List.Folds.{list_any-append}
use Rattle.std.proofs.lemmas.Slice.Eq.{bytes_eq-Decides}
use Rattle.std.specs.List.{list_any}
use Rattle.std.specs.Str.{bytes_eq}
use Rattle.ck_typed.specs.Tree.{Fun, Program}
use Rattle.ck_scheme.specs.Texts.{stmt_texts, default_texts, funs_texts, once_each, number_of, texts_of}

-- a string is found by its number
abbrev pub IsNumbered : (texts : List (List ℕ)) → (bytes : List ℕ) → Type 0
IsNumbered texts bytes = slice_get texts (number_of texts bytes) ≡ Some bytes

-- each of these is
abbrev pub AreNumbered : (texts some : List (List ℕ)) → Type 0
AreNumbered texts [] = Unit {0}
AreNumbered texts (t ∷ rest) = IsNumbered texts t × AreNumbered texts rest

pub parted : (texts a b : List (List ℕ)) → AreNumbered texts (a ++ b)
    → AreNumbered texts a × AreNumbered texts b
parted texts [] b h = (tt, h)
parted texts (t ∷ a) b h = let more = parted texts a b h.1 in ((h.0, more.0), more.1)

-- what stands among the strings is
among_next : (texts : List (List ℕ)) (bytes t : List ℕ) (same : Bool) → bytes_eq bytes t ≡ same
    → same || list_any (bytes_eq bytes) texts ≡ true
    → (list_any (bytes_eq bytes) texts ≡ true → IsNumbered texts bytes)
    → slice_get (t ∷ texts) (if same then 0 else suc (number_of texts bytes)) ≡ Some bytes
among_next texts bytes t true at is later =
    ap Some (sym ((bytes_eq-Decides bytes t).0 at))
among_next texts bytes t false at is later = later is

among : (texts : List (List ℕ)) (bytes : List ℕ) → list_any (bytes_eq bytes) texts ≡ true
    → IsNumbered texts bytes
among [] bytes is = absurd (cc)
among (t ∷ texts) bytes is =
    among_next texts bytes t (bytes_eq bytes t) refl is (among texts bytes)

-- with one more string, those before it stay, and it is there
abbrev with_one : (before : List (List ℕ)) → (t : List ℕ) → List (List ℕ)
with_one before t = if list_any (bytes_eq t) before then before else before ++ t ∷ []

or_true : (a b : Bool) → b ≡ true → a || b ≡ true
or_true true b is = refl
or_true false b is = is

true_or : (a b : Bool) → a ≡ true → a || b ≡ true
true_or true b is = refl
true_or false b is = absurd (cc)

stays_one : (before : List (List ℕ)) (t bytes : List ℕ) (there : Bool)
    → list_any (bytes_eq bytes) before ≡ true
    → list_any (bytes_eq bytes) (if there then before else before ++ t ∷ []) ≡ true
stays_one before t bytes true is = is
stays_one before t bytes false is =
    list_any-append (bytes_eq bytes) before (t ∷ []) ∙ true_or _ _ is

comes_one : (before : List (List ℕ)) (t : List ℕ) (there : Bool)
    → list_any (bytes_eq t) before ≡ there
    → list_any (bytes_eq t) (if there then before else before ++ t ∷ []) ≡ true
comes_one before t true is = is
comes_one before t false is =
    list_any-append (bytes_eq t) before (t ∷ [])
    ∙ or_true (list_any (bytes_eq t) before) (list_any (bytes_eq t) (t ∷ []))
    (true_or (bytes_eq t t) false ((bytes_eq-Decides t t).1 refl))

stays : (rest before : List (List ℕ)) (bytes : List ℕ) → list_any (bytes_eq bytes) before ≡ true
    → list_any (bytes_eq bytes) (once_each before rest) ≡ true
stays [] before bytes is = is
stays (t ∷ rest) before bytes is =
    stays rest (with_one before t) bytes
    (stays_one before t bytes (list_any (bytes_eq t) before) is)

comes : (rest before : List (List ℕ)) → AreNumbered (once_each before rest) rest
comes [] before = tt
comes (t ∷ rest) before = (
  among (once_each before (t ∷ rest)) t (stays rest (with_one before t) t
      (comes_one before t (list_any (bytes_eq t) before) refl)),
  comes rest (with_one before t),
)

-- so is each string of a program's functions
numbered : (program : Program) → AreNumbered (texts_of program) (funs_texts program.funs)
numbered program = comes (funs_texts program.funs) []

-- and each string of one of them
numbered_in : (texts : List (List ℕ)) (fns : List Fun) → AreNumbered texts (funs_texts fns)
    → (g : ℕ) (fn : Fun) → slice_get fns g ≡ Some fn
    → AreNumbered texts (stmt_texts fn.body ++ default_texts fn.result)
numbered_in texts [] has g fn at = absurd (cc)
numbered_in texts (f ∷ fns) has zero fn at =
    let is : f ≡ fn = cc in
    subst (λ (x : Fun). AreNumbered texts (stmt_texts x.body ++ default_texts x.result)) is
    (parted texts (stmt_texts f.body ++ default_texts f.result) (funs_texts fns) has).0
numbered_in texts (f ∷ fns) has (suc g) fn at =
    numbered_in texts fns
    (parted texts (stmt_texts f.body ++ default_texts f.result) (funs_texts fns) has).1 g fn at

pub numbered_at : (program : Program) (g : ℕ) (fn : Fun) → slice_get program.funs g ≡ Some fn
    → AreNumbered (texts_of program) (stmt_texts fn.body)
    × AreNumbered (texts_of program) (default_texts fn.result)
numbered_at program g fn at =
    parted (texts_of program) (stmt_texts fn.body) (default_texts fn.result)
    (numbered_in (texts_of program) program.funs (numbered program) g fn at)
