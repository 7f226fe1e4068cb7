-- What holds of each function, each class and each class with a parent of a text.
use Rattle.std.proofs.Common.{◌≡◌, ℕ, Option, Some, None, sym, subst, ◌∙◌}
use Rattle.ck_syntax.specs.Tree as tree
use Rattle.ck_syntax.specs.Tree.{Name, Fun, Members, no_members, and_member, fun_member, stmt_member, Item, no_items, and_item, class_item, fun_item, stmt_item}
use Rattle.first_walk.specs.FirstWalk.{own_class, head_of}
use Rattle.type_table.specs.declared.class.Head.{Head}
use Rattle.type_table.specs.Table.{Table}
use Rattle.first_walk.proofs.SameNames.{SameClasses, own_same, head_same}

-- Q says something of the class that has a function, its name, and its types; a constructor has no name,
-- but types
abbrev pub FunHolds : (Q : Option ℕ → Name → Option Head → Type 0) → Table → (file : ℕ) → (class : Option ℕ) → Fun
    → Type 0
FunHolds Q t f c (tree.fun l s result n ps body) = Q c n (head_of t f (tree.fun l s result n ps body))
FunHolds Q t f c (tree.constructor l ps body) = (h : Head) × (head_of t f (tree.constructor l ps body) ≡ Some h)

abbrev pub MembersHold : (Q : Option ℕ → Name → Option Head → Type 0) → Table → (file class : ℕ) → Members → Type 0
MembersHold Q t f c no_members = Unit {0}
MembersHold Q t f c (and_member ms (fun_member g)) = MembersHold Q t f c ms × FunHolds Q t f (Some c) g
MembersHold Q t f c (and_member ms (stmt_member s)) = MembersHold Q t f c ms

abbrev pub ItemHolds : (Q : Option ℕ → Name → Option Head → Type 0) → Table → (file : ℕ) → Item → Type 0
ItemHolds Q t f (class_item (tree.class l is_public n parent ms)) = MembersHold Q t f (own_class t f n) ms
ItemHolds Q t f (fun_item g) = FunHolds Q t f None g
ItemHolds Q t f (stmt_item s) = Unit {0}

abbrev pub FunsHold : (Q : Option ℕ → Name → Option Head → Type 0) → Table → (file : ℕ) → tree.File → Type 0
FunsHold Q t f no_items = Unit {0}
FunsHold Q t f (and_item xs x) = FunsHold Q t f xs × ItemHolds Q t f x

-- and of each class by its number
abbrev pub ClassHolds : (C : ℕ → Type 0) → Table → (file : ℕ) → Item → Type 0
ClassHolds C t f (class_item (tree.class l is_public n parent ms)) = C (own_class t f n)
ClassHolds C t f _ = Unit {0}

abbrev pub ClassesHold : (C : ℕ → Type 0) → Table → (file : ℕ) → tree.File → Type 0
ClassesHold C t f no_items = Unit {0}
ClassesHold C t f (and_item xs x) = ClassesHold C t f xs × ClassHolds C t f x

-- what follows for each

module _ (Q R : Option ℕ → Name → Option Head → Type 0) (t : Table) (f : ℕ)
    (goes : (c : Option ℕ) (n : Name) (h : Option Head) → Q c n h → R c n h) where
  pub fun_goes : (c : Option ℕ) (g : Fun) → FunHolds Q t f c g → FunHolds R t f c g
  fun_goes c (tree.fun l s result n ps body) so = goes c n (head_of t f (tree.fun l s result n ps body)) so
  fun_goes c (tree.constructor l ps body) so = so

  pub members_go : (c : ℕ) (ms : Members) → MembersHold Q t f c ms → MembersHold R t f c ms
  members_go c no_members so = tt
  members_go c (and_member ms (fun_member g)) so = (members_go c ms so.0, fun_goes (Some c) g so.1)
  members_go c (and_member ms (stmt_member s)) so = members_go c ms so

  pub item_goes : (x : Item) → ItemHolds Q t f x → ItemHolds R t f x
  item_goes (class_item (tree.class l is_public n parent ms)) so = members_go (own_class t f n) ms so
  item_goes (fun_item g) so = fun_goes None g so
  item_goes (stmt_item s) so = tt

  pub funs_go : (xs : tree.File) → FunsHold Q t f xs → FunsHold R t f xs
  funs_go no_items so = tt
  funs_go (and_item xs x) so = (funs_go xs so.0, item_goes x so.1)

-- in a table with the same classes by name

module _ (t u : Table) (f : ℕ) (same : SameClasses t u) where
  module _ (Q : Option ℕ → Name → Option Head → Type 0) where
    fun_keeps : (c : Option ℕ) (g : Fun) → FunHolds Q t f c g → FunHolds Q u f c g
    fun_keeps c (tree.fun l s result n ps body) so = subst (Q c n)
        (sym (head_same t u same f (tree.fun l s result n ps body))) so
    fun_keeps c (tree.constructor l ps body) so = (so.0, head_same t u same f (tree.constructor l ps body) ∙ so.1)

    members_keep : (c : ℕ) (ms : Members) → MembersHold Q t f c ms → MembersHold Q u f c ms
    members_keep c no_members so = tt
    members_keep c (and_member ms (fun_member g)) so = (members_keep c ms so.0, fun_keeps (Some c) g so.1)
    members_keep c (and_member ms (stmt_member s)) so = members_keep c ms so

    item_keeps : (x : Item) → ItemHolds Q t f x → ItemHolds Q u f x
    item_keeps (class_item (tree.class l is_public n parent ms)) so = subst (λ c. MembersHold Q u f c ms)
        (sym (own_same t u same f n)) (members_keep (own_class t f n) ms so)
    item_keeps (fun_item g) so = fun_keeps None g so
    item_keeps (stmt_item s) so = tt

    pub funs_keep : (xs : tree.File) → FunsHold Q t f xs → FunsHold Q u f xs
    funs_keep no_items so = tt
    funs_keep (and_item xs x) so = (funs_keep xs so.0, item_keeps x so.1)

  class_keeps : (C : ℕ → Type 0) (x : Item) → ClassHolds C t f x → ClassHolds C u f x
  class_keeps C (class_item (tree.class l is_public n parent ms)) so = subst C (sym (own_same t u same f n)) so
  class_keeps C (fun_item g) so = tt
  class_keeps C (stmt_item s) so = tt

  pub classes_keep : (C : ℕ → Type 0) (xs : tree.File) → ClassesHold C t f xs → ClassesHold C u f xs
  classes_keep C no_items so = tt
  classes_keep C (and_item xs x) so = (classes_keep C xs so.0, class_keeps C x so.1)
