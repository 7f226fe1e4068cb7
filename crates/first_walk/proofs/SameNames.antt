-- What answers give, and tables that have the same classes by name: there the types of a text are the same.
use Rattle.std.proofs.Common.{◌≡◌, ℕ, ◌+◌, Bool, true, false, nat_lt, List, [], ◌∷◌, ◌++◌, length, drop, Option, Some, None, if◌then◌else◌, refl, ap, ◌∙◌, subst}
use Rattle.ck_values.specs.declared.kind.Kind.TheVariants.{Void}
use Rattle.ck_syntax.specs.declared.declaration.Base.{Base}
use Rattle.ck_syntax.specs.declared.declaration.Base.TheVariants as base
use Rattle.ck_syntax.specs.declared.file.Param.{Param}
use Rattle.ck_syntax.specs.Tree as tree
use Rattle.ck_syntax.specs.Tree.{Name, Params, no_params, and_param, Fun, Members, no_members, and_member, fun_member, stmt_member, no_items, and_item, class_item, fun_item, stmt_item}
use Rattle.type_table.specs.Answer.{Answer, gives, refused, and_then}
use Rattle.first_walk.specs.FirstWalk.{or_object, own_class, and_kind, param_kind, param_kinds, head_with, head_of, has_statement}
use Rattle.type_table.specs.Names.{lookup, or_else, as_class, built_in}
use Rattle.type_table.specs.Table.{Table, or_no_head, file_of, class_of, line, line_by, class_named, seen_from, ancestors, overridden}
use Rattle.type_table.specs.Types.{named_by, class_type, value_kind, result_kind}
use Rattle.type_table.proofs.Ranges.{many}
use Rattle.first_walk.proofs.TableFacts.{owner, fun_entry, member_entries, body_entries, item_entries, items_entries}

-- answers -----------------------------------------------------------------------------------------

-- what an answer gives, if it gives anything
abbrev pub GivesSuch : {A : Type 0} → (A → Type 0) → Answer A → Type 0
GivesSuch P (gives a) = P a
GivesSuch P (refused why) = Unit {0}

pub gives_at : {A : Type 0} (P : A → Type 0) (x : Answer A) (a : A) → x ≡ gives a → GivesSuch P x → P a
gives_at P x a is so = subst (GivesSuch P) is so

pub gives_map : {A : Type 0} (P Q : A → Type 0) → ((a : A) → P a → Q a) → (x : Answer A) → GivesSuch P x → GivesSuch Q x
gives_map P Q f (gives a) so = f a so
gives_map P Q f (refused why) so = tt

pub gives_then : {A B : Type 0} (P : A → Type 0) (Q : B → Type 0) (x : Answer A) (next : A → Answer B) → GivesSuch P x
    → ((a : A) → P a → GivesSuch Q (next a)) → GivesSuch Q (and_then x next)
gives_then P Q (gives a) next so goes = goes a so
gives_then P Q (refused why) next so goes = tt

pub gives_if : {A : Type 0} (P : A → Type 0) (b : Bool) (x y : Answer A) → (b ≡ true → GivesSuch P x)
    → (b ≡ false → GivesSuch P y) → GivesSuch P (if b then x else y)
gives_if P true x y yes_so no_so = yes_so refl
gives_if P false x y yes_so no_so = no_so refl

-- the same classes by name --------------------------------------------------------------------------

pub record SameNames (t u : Table) : Type 0 where
  pub parents : u.parents ≡ t.parents
  pub publics : u.publics ≡ t.publics
  pub many_same : many u ≡ many t
  pub many_files : length u.files ≡ length t.files
  pub classes : (g : ℕ) → (file_of u g).classes ≡ (file_of t g).classes
  pub mains : (g : ℕ) → (file_of u g).main ≡ (file_of t g).main
  pub files : (c : ℕ) → (class_of u c).file ≡ (class_of t c).file
  pub heads : (c : ℕ) → (class_of u c).heads ≡ (class_of t c).heads

pub same_self : (t : Table) → SameNames t t
same_self t = record {
  parents = refl;
  publics = refl;
  many_same = refl;
  many_files = refl;
  classes = λ g. refl;
  mains =
      λ g. refl;
  files = λ c. refl;
  heads = λ c. refl;
}

pub same_then : (t u v : Table) → SameNames t u → SameNames u v → SameNames t v
same_then t u v a b = record {
  parents = b.parents ∙ a.parents;
  publics = b.publics ∙ a.publics;
  many_same = b.many_same ∙ a.many_same;
  many_files = b.many_files ∙ a.many_files;
  classes = λ g. b.classes g ∙ a.classes g;
  mains = λ g. b.mains g ∙ a.mains g;
  files = λ c. b.files c ∙ a.files c;
  heads = λ c. b.heads c ∙ a.heads c;
}

-- as far as the types of a text go
pub record SameClasses (t u : Table) : Type 0 where
  pub publics : u.publics ≡ t.publics
  pub classes : (g : ℕ) → (file_of u g).classes ≡ (file_of t g).classes
  pub files : (c : ℕ) → (class_of u c).file ≡ (class_of t c).file

pub same_classes : (t u : Table) → SameNames t u → SameClasses t u
same_classes t u same = record { publics = same.publics; classes = same.classes; files = same.files }

pub classes_then : (t u v : Table) → SameClasses t u → SameClasses u v → SameClasses t v
classes_then t u v a b = record {
  publics = b.publics ∙ a.publics;
  classes = λ g. b.classes g
      ∙ a.classes g;
  files = λ c. b.files c ∙ a.files c;
}

module _ (t u : Table) (same : SameClasses t u) where
  pub own_same : (f : ℕ) (n : Name) → own_class u f n ≡ own_class t f n
  own_same f n = ap (λ l. or_object (lookup n l)) (same.classes f)

  seen_same : (f : ℕ) (o : Option ℕ) → seen_from u f o ≡ seen_from t f o
  seen_same f None = refl
  seen_same f (Some c) = ap (λ k. if nat_lt k f then Some c else None) (same.files c)

  pub class_same : (f : ℕ) (n : Name) → class_named u f n ≡ class_named t f n
  class_same f n =
      ap (λ l. or_else (lookup n l) (or_else (seen_from u f (lookup n u.publics)) (as_class (built_in n))))
      (same.classes f)
      ∙ ap (λ o. or_else (lookup n (file_of t f).classes) (or_else o (as_class (built_in n))))
      (seen_same f (lookup n u.publics) ∙ ap (λ l. seen_from t f (lookup n l)) same.publics)

  pub named_same : (f : ℕ) (b : Base) → named_by u f b ≡ named_by t f b
  named_same f base.Int = refl
  named_same f base.Float = refl
  named_same f base.Dur = refl
  named_same f base.Time = refl
  named_same f base.String = refl
  named_same f base.Void = refl
  named_same f (base.Class n) = ap (class_type n) (class_same f n)

  pub param_same : (f : ℕ) (p : Param) → param_kind u f p ≡ param_kind t f p
  param_same f p = ap (λ n. value_kind n (p.kind.brackets + p.brackets)) (named_same f p.kind.base)

  pub params_same : (f : ℕ) (ps : Params) → param_kinds u f ps ≡ param_kinds t f ps
  params_same f no_params = refl
  params_same f (and_param ps p) = ap (λ ks. and_kind ks (param_kind u f p)) (params_same f ps)
      ∙ ap (and_kind (param_kinds t f ps)) (param_same f p)

  pub head_same : (f : ℕ) (g : Fun) → head_of u f g ≡ head_of t f g
  head_same f (tree.fun l s result n ps body) =
      ap (λ ks. head_with s ks (result_kind (named_by u f result.base) result.brackets)) (params_same f ps)
      ∙ ap (λ m. head_with s (param_kinds t f ps) (result_kind m result.brackets)) (named_same f result.base)
  head_same f (tree.constructor l ps body) = ap (λ ks. head_with false ks (Some Void)) (params_same f ps)

  -- the functions of a text
  fun_same : (f : ℕ) (c : Option ℕ) (g : Fun) → fun_entry u f c g ≡ fun_entry t f c g
  fun_same f c (tree.fun l s result n ps body) = ap (λ h. (or_no_head h, owner c s))
      (head_same f (tree.fun l s result n ps body))
  fun_same f c (tree.constructor l ps body) = ap (λ h. (or_no_head h, c)) (head_same f (tree.constructor l ps body))

  members_same : (f c : ℕ) (ms : Members) → member_entries u f c ms ≡ member_entries t f c ms
  members_same f c no_members = refl
  members_same f c (and_member ms (stmt_member s)) = members_same f c ms
  members_same f c (and_member ms (fun_member g)) = ap (λ es. es ++ fun_entry u f (Some c) g ∷ []) (members_same f c ms)
      ∙ ap (λ e. member_entries t f c ms ++ e ∷ []) (fun_same f (Some c) g)

  item_same : (f : ℕ) (x : tree.Item) → item_entries u f x ≡ item_entries t f x
  item_same f (class_item (tree.class l is_public n parent ms)) =
      ap (λ c. body_entries (has_statement ms) c ++ member_entries u f c ms) (own_same f n)
      ∙ ap (λ es. body_entries (has_statement ms) (own_class t f n) ++ es) (members_same f (own_class t f n) ms)
  item_same f (fun_item g) = ap (λ e. e ∷ []) (fun_same f None g)
  item_same f (stmt_item s) = refl

  pub items_same : (f : ℕ) (xs : tree.File) → items_entries u f xs ≡ items_entries t f xs
  items_same f no_items = refl
  items_same f (and_item xs x) = ap (λ es. es ++ item_entries u f x) (items_same f xs)
      ∙ ap (λ es. items_entries t f xs ++ es) (item_same f x)

module _ (t u : Table) (same : SameNames t u) where
  pub line_same : (c : ℕ) → line u c ≡ line t c
  line_same c = ap (λ p. line_by p c) same.parents

  pub ancestors_same : (c : ℕ) → ancestors u c ≡ ancestors t c
  ancestors_same c = ap (drop 1) (line_same c)

  pub overridden_same : (above : List ℕ) (n : Name) → overridden u above n ≡ overridden t above n
  overridden_same [] n = refl
  overridden_same (c ∷ above) n = ap (λ l. or_else (lookup n l) (overridden u above n)) (same.heads c)
      ∙ ap (or_else (lookup n (class_of t c).heads)) (overridden_same above n)
