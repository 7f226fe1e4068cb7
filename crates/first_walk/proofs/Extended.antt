-- The parents of a file's classes: each is a class of the table, and each class stands below Object.
use Rattle.std.proofs.Common.{◌≡◌, ℕ, ◌<◌, ◌≤◌, true, nat_eq, List, length, Option, Some, None, slice_get, slice_set, ◌⊎◌, inl, inr, ⊎_elim, refl, sym, ap, ◌∙◌, subst, arith}
use Rattle.std.proofs.lemmas.List.{length-set}
use Rattle.ck_syntax.specs.Tree as tree
use Rattle.ck_syntax.specs.Tree.{Name, Item, no_items, and_item, class_item, fun_item, stmt_item}
use Rattle.type_rules.specs.Fitting.{parent_or, is_below}
use Rattle.std.proofs.lemmas.Bool.{eqb-true}
use Rattle.type_table.specs.Answer.{gives, wrong}
use Rattle.type_table.specs.declared.fault.FaultKind.TheVariants.{BadClass, UnknownName}
use Rattle.first_walk.specs.FirstWalk.{or_object, own_class, extended, check_built_in, with_parent, with_parents, check_line, check_extended, check_parent, check_parents}
use Rattle.type_table.specs.Names.{is_some, built_in, as_class}
use Rattle.type_table.specs.Table.{Table, file_of, class_named, parent}
use Rattle.type_table.proofs.Ranges.{Each, many}
use Rattle.type_table.proofs.ListFacts.{Holds, get_set_other, set_cases, each_set, each_map}
use Rattle.first_walk.proofs.SameNames.{GivesSuch, gives_then, gives_map, gives_if}
use Rattle.first_walk.proofs.TypeRanges.{class_in}
use Rattle.first_walk.proofs.NamedClasses.{Named, IsNew}
use Rattle.first_walk.proofs.TextFuns.{ClassHolds, ClassesHold}
use Rattle.first_walk.proofs.LinesBelow.{child_is_below}

-- of each class that says what it extends
abbrev pub ExtendedHolds : (Q : ℕ → Type 0) → (own : Name → ℕ) → Item → Type 0
ExtendedHolds Q own (class_item (tree.class l is_public n (Some parent) ms)) = Q (own n)
ExtendedHolds Q own _ = Unit {0}

abbrev pub AllExtended : (Q : ℕ → Type 0) → (own : Name → ℕ) → tree.File → Type 0
AllExtended Q own no_items = Unit {0}
AllExtended Q own (and_item xs x) = AllExtended Q own xs × ExtendedHolds Q own x

-- u is the table with the names of the classes
pub record Parented (low : ℕ) (u w : Table) : Type 0 where
  pub rest : w ≡ record u { parents = w.parents }
  pub many_parents : length w.parents ≡ length u.parents
  pub old : (c : ℕ) → c < low → slice_get w.parents c ≡ slice_get u.parents c
  pub inner : Each (λ c. c < many u) w.parents

object_in : (m : ℕ) → 0 < m → (o : Option ℕ) → Holds (λ c. c < m) o → or_object o < m
object_in m some None is = some
object_in m some (Some c) is = is

module _ (t : Table) (f : ℕ) (owners : List (Option ℕ)) (two : 2 ≤ many t) (u : Table) (named : Named t f owners u) where
  named_classes : Each (λ (e : Name × ℕ). e.1 < many u) (file_of u f).classes
  named_classes = each_map (λ (e : Name × ℕ). IsNew (many t) (many u) e.1) (λ (e : Name × ℕ). e.1 < many u) (λ e is. is.1) (file_of u f).classes named.classes

  extended_in : (parent : Option Name) → extended u f parent < many u
  extended_in None = omega (arith, two, named.more)
  extended_in (Some n) = object_in (many u) (omega (arith, two, named.more)) (class_named u f n) (class_in u f (many u) (omega (arith, two, named.more)) named_classes named.publics n)

  module _ (w : Table) (so : Parented (many t) u w) where
    own_is : (n : Name) → own_class w f n ≡ own_class u f n
    own_is n = ap (λ v. own_class v f n) so.rest

    extended_is : (parent : Option Name) → extended w f parent ≡ extended u f parent
    extended_is parent = ap (λ v. extended v f parent) so.rest

    item_parented : (x : Item) → ClassHolds (IsNew (many t) (many u)) u f x → Parented (many t) u (with_parent f w x)
    item_parented (class_item (tree.class l p n parent ms)) own = record {
      rest = ap (λ (v : Table). record v { parents = slice_set w.parents (own_class w f n) (extended w f parent) }) so.rest;
      many_parents = length-set w.parents (own_class w f n) (extended w f parent) ∙ so.many_parents;
      old = λ c lt. get_set_other w.parents (own_class w f n) c (extended w f parent) (λ e. absurd (omega (arith, e, lt, own.0, own_is n))) ∙ so.old c lt;
      inner = each_set (λ c. c < many u) w.parents (own_class w f n) (extended w f parent) so.inner (omega (arith, extended_is parent, extended_in parent));
    }
    item_parented (fun_item g) own = so
    item_parented (stmt_item s) own = so

    -- a class has Object for a parent, or says what it extends
    item_cases : (Q : ℕ → Type 0) (x : Item) → ClassHolds (IsNew (many t) (many u)) u f x
        → ExtendedHolds Q (own_class u f) x → (c : ℕ) → (parent w c ≡ 0) ⊎ Q c → (parent (with_parent f w x) c ≡ 0) ⊎ Q c
    item_cases Q (class_item (tree.class l p n None ms)) own holds c so_far =
        set_cases (λ j o. (parent_or o ≡ 0) ⊎ Q j) w.parents (own_class w f n) c 0 (omega (arith, own.1, own_is n, so.many_parents, named.many_parents)) (inl refl) (λ other. so_far)
    item_cases Q (class_item (tree.class l p n (Some e) ms)) own holds c so_far =
        set_cases (λ j o. (parent_or o ≡ 0) ⊎ Q j) w.parents (own_class w f n) c (extended w f (Some e)) (omega (arith, own.1, own_is n, so.many_parents, named.many_parents))
        (inr (subst Q (sym (own_is n)) holds)) (λ other. so_far)
    item_cases Q (fun_item g) own holds c so_far = so_far
    item_cases Q (stmt_item s) own holds c so_far = so_far

  pub all_parented : (xs : tree.File) → ClassesHold (IsNew (many t) (many u)) u f xs → Parented (many t) u (with_parents f u xs)
  all_parented no_items own = record { rest = refl; many_parents = refl; old = λ c lt. refl; inner = named.inner }
  all_parented (and_item xs x) own = item_parented (with_parents f u xs) (all_parented xs own.0) x own.1

  all_cases : (Q : ℕ → Type 0) (xs : tree.File) → ClassesHold (IsNew (many t) (many u)) u f xs → AllExtended Q (own_class u f) xs → (c : ℕ) → many t ≤ c → (parent (with_parents f u xs) c ≡ 0) ⊎ Q c
  all_cases Q no_items own holds c le = inl (named.new_parents c le)
  all_cases Q (and_item xs x) own holds c le = item_cases (with_parents f u xs) (all_parented xs own.0) Q x own.1 holds.1 c (all_cases Q xs own.0 holds.0 c le)

  -- the checks
  module _ (w : Table) where
    abbrev pub Below : ℕ → Type 0
    Below c = is_below w.parents c 0 ≡ true

    abbrev pub CheckedAfter : tree.File → Table → Type 0
    CheckedAfter xs v = (v ≡ w) × AllExtended Below (own_class w f) xs

    line_checked : (l c : ℕ) → GivesSuch (λ v. (v ≡ w) × Below c) (check_line w f l c)
    line_checked l c = gives_if (λ v. (v ≡ w) × Below c) (is_below w.parents c 0) (gives w) (wrong f l BadClass) (λ is. (refl, is)) (λ e. tt)

    extended_checked : (l c : ℕ) (n : Name) → GivesSuch (λ v. (v ≡ w) × Below c) (check_extended w f l c n)
    extended_checked l c n =
        gives_if (λ v. (v ≡ w) × Below c) (nat_eq (parent w c) 0) (check_built_in w f l n) (check_line w f l c)
        (λ e. gives_if (λ v. (v ≡ w) × Below c) (is_some (as_class (built_in n))) (gives w) _
        (λ _. (refl, child_is_below w.parents c (eqb-true (parent w c) 0 e)))
        (λ _. gives_if (λ v. (v ≡ w) × Below c) (is_some (built_in n)) (wrong f l BadClass) (wrong f l UnknownName) (λ _. tt) (λ _. tt)))
        (λ _. line_checked l c)

    item_checked : (x : Item) → GivesSuch (λ v. (v ≡ w) × ExtendedHolds Below (own_class w f) x) (check_parent f w x)
    item_checked (class_item (tree.class l p n (Some e) ms)) = extended_checked l (own_class w f n) e
    item_checked (class_item (tree.class l p n None ms)) = (refl, tt)
    item_checked (fun_item g) = (refl, tt)
    item_checked (stmt_item s) = (refl, tt)

    pub all_checked : (xs : tree.File) → GivesSuch (CheckedAfter xs) (check_parents f w xs)
    all_checked no_items = (refl, tt)
    all_checked (and_item xs x) =
        gives_then (CheckedAfter xs) (CheckedAfter (and_item xs x)) (check_parents f w xs) (λ v. check_parent f v x) (all_checked xs)
        (λ v a. subst (λ y. GivesSuch (CheckedAfter (and_item xs x)) (check_parent f y x)) (sym a.0)
        (gives_map (λ y. (y ≡ w) × ExtendedHolds Below (own_class w f) x) (CheckedAfter (and_item xs x)) (λ y b. (b.0, (a.1, b.1))) (check_parent f w x) (item_checked x)))

  -- each new class stands below Object
  pub new_below : (xs : tree.File) → ClassesHold (IsNew (many t) (many u)) u f xs
      → AllExtended (Below (with_parents f u xs)) (own_class (with_parents f u xs) f) xs → (c : ℕ) → many t ≤ c → is_below (with_parents f u xs).parents c 0 ≡ true
  new_below xs own checked c le =
      ⊎_elim (λ e. child_is_below (with_parents f u xs).parents c e) (λ is. is)
      (all_cases (Below (with_parents f u xs)) xs own (subst (λ v. AllExtended (Below (with_parents f u xs)) (own_class v f) xs) (all_parented xs own).rest checked) c le)
