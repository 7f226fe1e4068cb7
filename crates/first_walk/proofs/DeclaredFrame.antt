-- What the first walk of a file keeps: the classes of the file and what their names stand for, and each variable and
-- member that was found by its name.
use Rattle.std.proofs.Common.{◌≡◌, ℕ, zero, suc, ◌<◌, Bool, true, false, List, [], ◌∷◌, ◌++◌, length, Option, Some, None, nat_lt, slice_get, slice_set, if◌then◌else◌, refl, ap, ◌∙◌, arith}
use Rattle.std.specs.Str.{bytes_eq}
use Rattle.std.proofs.lemmas.Slice.Eq.{bytes_eq-Decides}
use Rattle.ck_values.specs.declared.kind.Kind.{Kind}
use Rattle.ck_syntax.specs.declared.declaration.Base.{Base}
use Rattle.ck_syntax.specs.declared.declaration.Base.TheVariants as base
use Rattle.ck_syntax.specs.Tree.{Name}
use Rattle.type_table.specs.declared.class.Own.{Own}
use Rattle.first_walk.specs.FirstWalk.{or_object, own_class}
use Rattle.type_table.specs.Names.{lookup, is_some, or_else, as_class, built_in, and_first}
use Rattle.type_table.specs.Table.{Table, file_of, class_of, class_named, seen_from}
use Rattle.type_table.specs.Types.{named_by, class_type}
use Rattle.type_table.proofs.Ranges.{many}

-- lists of names ----------------------------------------------------------------------------------

pub changed_at : {A : Type 0} (xs : List A) (i : ℕ) (x : A) → i < length xs → slice_get (slice_set xs i x) i ≡ Some x
changed_at [] i x lt = absurd (omega (arith, lt))
changed_at (y ∷ xs) zero x lt = refl
changed_at (y ∷ xs) (suc i) x lt = changed_at xs i x (omega (arith, lt))

module _ {A : Type 0} where
  -- what was found is found among more
  found_among : (m : Name) (b : A) (known more : List (Name × A)) → lookup m known ≡ Some b
      → lookup m (known ++ more) ≡ Some b
  found_among m b [] more is = absurd (cc)
  found_among m b (e ∷ known) more is = go (bytes_eq m e.0) (found_among m b known more) is
    where
      go : (c : Bool) → (lookup m known ≡ Some b → lookup m (known ++ more) ≡ Some b)
          → (if c then Some e.1 else lookup m known) ≡ Some b
          → (if c then Some e.1 else lookup m (known ++ more)) ≡ Some b
      go true later at = at
      go false later at = later at

  found_last : (n : Name) (a : A) (known : List (Name × A)) → lookup n known ≡ None
      → lookup n (known ++ (n, a) ∷ []) ≡ Some a
  found_last n a [] none = ap (λ c. if c then Some a else None) ((bytes_eq-Decides n n).1 refl)
  found_last n a (e ∷ known) none = go (bytes_eq n e.0) (found_last n a known) none
    where
      go : (c : Bool) → (lookup n known ≡ None → lookup n (known ++ (n, a) ∷ []) ≡ Some a)
          → (if c then Some e.1 else lookup n known) ≡ None
          → (if c then Some e.1 else lookup n (known ++ (n, a) ∷ [])) ≡ Some a
      go true later at = absurd (cc)
      go false later at = later at

  module _ (n : Name) (a : A) (known : List (Name × A)) where
    pub first_stays : (m : Name) (b : A) → lookup m known ≡ Some b → lookup m (and_first n a known) ≡ Some b
    first_stays m b is = go (is_some (lookup n known))
      where
        go : (c : Bool) → lookup m (if c then known else known ++ (n, a) ∷ []) ≡ Some b
        go true = is
        go false = found_among m b known ((n, a) ∷ []) is

    pub first_found : lookup n known ≡ None → lookup n (and_first n a known) ≡ Some a
    first_found none = ap (λ o. lookup n (if is_some o then known else known ++ (n, a) ∷ [])) none
        ∙ found_last n a known none

-- tables ------------------------------------------------------------------------------------------

-- a later table of the walk of this file
pub record Keeps (f : ℕ) (t u : Table) : Type 0 where
  pub many_classes : many u ≡ many t
  pub many_files : length u.files ≡ length t.files
  pub parents : u.parents ≡ t.parents
  pub publics : u.publics ≡ t.publics
  pub homes : (c : ℕ) → (class_of u c).file ≡ (class_of t c).file
  pub classes : (file_of u f).classes ≡ (file_of t f).classes
  pub variables : (n : Name) (i : ℕ) → lookup n (file_of t f).variables ≡ Some i
      → lookup n (file_of u f).variables ≡ Some i
  pub statics : (i : ℕ) (k : Kind) → slice_get t.statics i ≡ Some k → slice_get u.statics i ≡ Some k
  pub members : (c : ℕ) (n : Name) (o : Own) → lookup n (class_of t c).members ≡ Some o
      → lookup n (class_of u c).members ≡ Some o

module _ (f : ℕ) where
  pub keeps_self : (t : Table) → Keeps f t t
  keeps_self t = record {
    many_classes = refl;
    many_files = refl;
    parents = refl;
    publics = refl;
    homes = λ c. refl;
    classes = refl;
    variables = λ n v is. is;
    statics = λ i k is. is;
    members = λ c n o is. is;
  }

  pub keeps_then : (t u v : Table) → Keeps f t u → Keeps f u v → Keeps f t v
  keeps_then t u v a b = record {
    many_classes = b.many_classes ∙ a.many_classes;
    many_files = b.many_files ∙ a.many_files;
    parents = b.parents ∙ a.parents;
    publics = b.publics ∙ a.publics;
    homes = λ c. b.homes c ∙ a.homes c;
    classes = b.classes ∙ a.classes;
    variables = λ n w is. b.variables n w (a.variables n w is);
    statics = λ i k is. b.statics i k (a.statics i k is);
    members = λ c n o is. b.members c n o (a.members c n o is);
  }

module _ (f : ℕ) (t u : Table) (keeps : Keeps f t u) where
  pub same_own_class : (n : Name) → own_class u f n ≡ own_class t f n
  same_own_class n = ap (λ l. or_object (lookup n l)) keeps.classes

  seen_same : (o : Option ℕ) → seen_from u f o ≡ seen_from t f o
  seen_same None = refl
  seen_same (Some c) = ap (λ k. if nat_lt k f then Some c else None) (keeps.homes c)

  class_same : (n : Name) → class_named u f n ≡ class_named t f n
  class_same n =
      ap (λ l. or_else (lookup n l) (or_else (seen_from u f (lookup n u.publics)) (as_class (built_in n))))
      keeps.classes
      ∙ ap (λ o. or_else (lookup n (file_of t f).classes) (or_else o (as_class (built_in n))))
      (seen_same (lookup n u.publics) ∙ ap (λ l. seen_from t f (lookup n l)) keeps.publics)

  -- types' names stand for the same
  pub same_named : (b : Base) → named_by u f b ≡ named_by t f b
  same_named base.Int = refl
  same_named base.Float = refl
  same_named base.Dur = refl
  same_named base.Time = refl
  same_named base.String = refl
  same_named base.Void = refl
  same_named (base.Class n) = ap (class_type n) (class_same n)
