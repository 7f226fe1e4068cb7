-- What is found at a number of a list, and in lists beside each other.
use Rattle.std.proofs.Common.{◌≡◌, ℕ, zero, suc, ◌<◌, Bool, true, false, if◌then◌else◌, List, []}
use Rattle.std.proofs.Common.{◌∷◌, ◌++◌, length, map, All, get_or, Option, Some, slice_get, refl}
use Rattle.std.proofs.Common.{sym, ap, ◌∙◌, subst, arith, append_assoc, append-nil}
use Rattle.std.proofs.lemmas.Option.{slice_get-get_or}
use Rattle.std.specs.Str.{bytes_eq}
use Rattle.ck_syntax.specs.Tree.{Name}
use Rattle.type_table.specs.Names.{lookup}
use Rattle.type_table.proofs.Ranges.{Each, Within}
use Rattle.ck_typed.specs.WellFormed.{FoundWhere}
use Rattle.program_laws.proofs.Parallel.{Zip}

pub some_is : {A : Type 0} {x y : A} → Some x ≡ Some y → x ≡ y
some_is is = cc

-- what is found has all that is asked
pub found_where : {A : Type 0} (P : A → Type 0) (found : Option A) (x : A) → found ≡ Some x → P x
    → FoundWhere found P
found_where P found x is holds = subst (λ o. FoundWhere o P) (sym is) holds

-- one list ----------------------------------------------------------------------------------------

-- there is an item below the length
pub found_at : {A : Type 0} (xs : List A) (i : ℕ) → i < length xs
    → (x : A) × (slice_get xs i ≡ Some x)
found_at [] i lt = absurd (omega (arith, lt))
found_at (x ∷ xs) zero lt = (x, refl)
found_at (x ∷ xs) (suc i) lt = found_at xs i (omega (arith, lt))

-- and it stays there where more items follow
pub found_front : {A : Type 0} (xs rest : List A) (i : ℕ) (x : A) → slice_get xs i ≡ Some x
    → slice_get (xs ++ rest) i ≡ Some x
found_front [] rest i x is = absurd (cc)
found_front (y ∷ xs) rest zero x is = is
found_front (y ∷ xs) rest (suc i) x is = found_front xs rest i x is

pub found_within : {A : Type 0} (xs all : List A) (i : ℕ) (x : A) → Within xs all
    → slice_get xs i ≡ Some x → slice_get all i ≡ Some x
found_within xs all i x within is =
    subst (λ l. slice_get l i ≡ Some x) (sym within.1) (found_front xs within.0 i x is)

-- the first item behind others
pub found_behind : {A : Type 0} (xs rest : List A) (x : A)
    → slice_get (xs ++ x ∷ rest) (length xs) ≡ Some x
found_behind [] rest x = refl
found_behind (y ∷ xs) rest x = found_behind xs rest x

-- fronts of lists
pub all_within : {A : Type 0} (xs : List A) → Within xs xs
all_within xs = ([], sym (append-nil xs))

pub front_within : {A : Type 0} (xs rest : List A) → Within xs (xs ++ rest)
front_within xs rest = (rest, refl)

pub within_trans : {A : Type 0} (xs ys zs : List A) → Within xs ys → Within ys zs → Within xs zs
within_trans xs ys zs first second = (
  first.0 ++ second.0,
  second.1 ∙ ap (λ l. l ++ second.0) first.1 ∙ append_assoc xs first.0 second.0,
)

-- each item ---------------------------------------------------------------------------------------

pub each_at : {A : Type 0} (P : A → Type 0) (xs : List A) (i : ℕ) (x : A) → Each P xs
    → slice_get xs i ≡ Some x → P x
each_at P [] i x each is = absurd (cc)
each_at P (y ∷ xs) zero x each is = subst P (some_is is) each.0
each_at P (y ∷ xs) (suc i) x each is = each_at P xs i x each.1 is

pub all_of : {A : Type 0} (P : A → Type 0) (xs : List A) → Each P xs → All P xs
all_of P xs each i d lt = each_at P xs i (get_or xs i d) each (slice_get-get_or xs i d lt)

pub each_more : {A : Type 0} (P Q : A → Type 0) (xs : List A) → ((x : A) → P x → Q x) → Each P xs
    → Each Q xs
each_more P Q [] more each = tt
each_more P Q (x ∷ xs) more each = (more x each.0, each_more P Q xs more each.1)

pub each_append : {A : Type 0} (P : A → Type 0) (xs ys : List A) → Each P xs → Each P ys
    → Each P (xs ++ ys)
each_append P [] ys first second = second
each_append P (x ∷ xs) ys first second = (first.0, each_append P xs ys first.1 second)

-- a name that is found has a row of the table
pub each_named : {A : Type 0} (P : A → Type 0) (rows : List (Name × A)) (n : Name) (a : A)
    → Each (λ (row : Name × A). P row.1) rows → lookup n rows ≡ Some a → P a
each_named P [] n a each is = absurd (cc)
each_named P (row ∷ rows) n a each is = go (bytes_eq n row.0) (each_named P rows n a each.1) is
  where
    go : (same : Bool) → (lookup n rows ≡ Some a → P a)
        → (if same then Some row.1 else lookup n rows) ≡ Some a → P a
    go true later so = subst P (some_is so) each.0
    go false later so = later so

-- lists beside each other -------------------------------------------------------------------------

pub map_append : {A B : Type 0} (f : A → B) (xs ys : List A)
    → map f (xs ++ ys) ≡ map f xs ++ map f ys
map_append f [] ys = refl
map_append f (x ∷ xs) ys = ap (λ l. f x ∷ l) (map_append f xs ys)

pub map_within : {A B : Type 0} (f : A → B) (xs all : List A) → Within xs all
    → Within (map f xs) (map f all)
map_within f xs all within = (map f within.0, ap (map f) within.1 ∙ map_append f xs within.0)

pub map_length : {A B : Type 0} (f : A → B) (xs : List A) → length (map f xs) ≡ length xs
map_length f [] = refl
map_length f (x ∷ xs) = ap suc (map_length f xs)

-- what stands at a number of the one list is made of what stands there in the other
pub map_at : {A B : Type 0} (f : A → B) (xs : List A) (i : ℕ) (y : B)
    → slice_get (map f xs) i ≡ Some y → (x : A) × (slice_get xs i ≡ Some x) × (f x ≡ y)
map_at f [] i y is = absurd (cc)
map_at f (x ∷ xs) zero y is = (x, refl, some_is is)
map_at f (x ∷ xs) (suc i) y is = map_at f xs i y is

pub zip_at : {A B : Type 0} (P : A → B → Type 0) (xs : List A) (ys : List B) (i : ℕ) (y : B)
    → Zip P xs ys → slice_get ys i ≡ Some y → (x : A) × (slice_get xs i ≡ Some x) × P x y
zip_at P [] [] i y zip is = absurd (cc)
zip_at P [] (z ∷ ys) i y zip is = absurd zip
zip_at P (x ∷ xs) [] i y zip is = absurd zip
zip_at P (x ∷ xs) (z ∷ ys) zero y zip is = (x, refl, subst (P x) (some_is is) zip.0)
zip_at P (x ∷ xs) (z ∷ ys) (suc i) y zip is = zip_at P xs ys i y zip.1 is

pub zip_length : {A B : Type 0} (P : A → B → Type 0) (xs : List A) (ys : List B) → Zip P xs ys
    → length xs ≡ length ys
zip_length P [] [] zip = refl
zip_length P [] (y ∷ ys) zip = absurd zip
zip_length P (x ∷ xs) [] zip = absurd zip
zip_length P (x ∷ xs) (y ∷ ys) zip = ap suc (zip_length P xs ys zip.1)

pub zip_append : {A B : Type 0} (P : A → B → Type 0) (xs zs : List A) (ys us : List B) → Zip P xs ys
    → Zip P zs us → Zip P (xs ++ zs) (ys ++ us)
zip_append P [] zs [] us first second = second
zip_append P [] zs (y ∷ ys) us first second = absurd first
zip_append P (x ∷ xs) zs [] us first second = absurd first
zip_append P (x ∷ xs) zs (y ∷ ys) us first second =
    (first.0, zip_append P xs zs ys us first.1 second)
