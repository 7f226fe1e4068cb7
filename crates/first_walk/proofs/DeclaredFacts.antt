-- After the first walk of a file each declaration of its text that stands in no function and in no block is found by
-- its name, with the type that it writes.
use Rattle.std.proofs.Common.{◌≡◌, ℕ, zero, suc, ◌+◌, ◌<◌, Bool, true, false, ◌||◌, nat_eq, List, [], ◌∷◌, ◌++◌, length, Some, None, slice_get, if◌then◌else◌, sym, ap, ◌∙◌, subst, arith, length-append}
use Rattle.std.specs.Str.{bytes_eq}
use Rattle.std.proofs.lemmas.List.{length-set}
use Rattle.std.proofs.lemmas.Option.{same_Some}
use Rattle.ck_syntax.specs.Tree as tree
use Rattle.ck_syntax.specs.Tree.{Name, Members, no_members, and_member, fun_member, stmt_member, no_items, and_item, class_item, fun_item, stmt_item}
use Rattle.type_table.specs.declared.fault.FaultKind.TheVariants.{UnknownName, Duplicate, BadClass}
use Rattle.type_table.specs.Answer.{Answer, gives, and_then, wrong}
use Rattle.first_walk.specs.FirstWalk.{begun, with_new_class, with_item_named, with_classes, own_class, with_parent, with_parents, check_built_in, check_line, check_extended, check_parent, check_parents, head_of, with_head, with_heads_of, with_item_heads, with_heads, enter_items, entered}
use Rattle.type_table.specs.Names.{lookup, is_some, built_in, as_class, and_first}
use Rattle.type_table.specs.declared.class.FileNames.{FileNames as File}
use Rattle.type_table.specs.Table.{Table, no_file, or_no_file, file_of, class_of, class_named, named_class, parent}
use Rattle.type_rules.specs.Fitting.{is_below}
use Rattle.type_table.proofs.Ranges.{many}
use Rattle.first_walk.specs.Room.{FileReady}
use Rattle.first_walk.proofs.DeclaredFiles.{FileDeclared}
use Rattle.first_walk.proofs.DeclaredFrame.{changed_at, keeps_self}
use Rattle.first_walk.proofs.DeclaredSteps.{GivesSuch, gives_map, gives_then, gives_if, gives_at}
use Rattle.first_walk.proofs.DeclaredWalks.{Walked, items_walked}

-- the file is the last one, and has no class so far
last_file : (fs : List File) (x : File) (f : ℕ) → f ≡ length fs → slice_get (fs ++ x ∷ []) f ≡ Some x
last_file [] x f is = ap (slice_get (x ∷ [])) is
last_file (y ∷ fs) x zero is = absurd (omega (arith, is))
last_file (y ∷ fs) x (suc f) is = last_file fs x f (omega (arith, is))

pub begun_ready : (t : Table) (f : ℕ) → f ≡ length t.files → 0 < many t → FileReady f (begun t)
begun_ready t f is object = record {
  file = omega (arith, length-append t.files (new ∷ []), is);
  object = object;
  inner = λ n c at. absurd (none c (sym (ap (λ o. lookup n (or_no_file o).classes) (last_file t.files new f is)) ∙ at));
}
  where
    new : File
    new = record no_file { main = length t.funs }

    none : (c : ℕ) → None ≡ Some c → ⊥
    none c e = absurd (cc)

-- what is found among one more was there, or is the last
found_in : {A : Type 0} (P : A → Type 0) (m n : Name) (a b : A) (known : List (Name × A))
    → (lookup m known ≡ Some b → P b) → P a → lookup m (known ++ (n, a) ∷ []) ≡ Some b → P b
found_in {A} P m n a b [] there last is = go (bytes_eq m n) is
  where
    go : (c : Bool) → (if c then Some a else None) ≡ Some b → P b
    go true e = subst P (same_Some a b e) last
    go false e = absurd (cc)
found_in {A} P m n a b (e ∷ known) there last is = go (bytes_eq m e.0) there
    (λ more. found_in P m n a b known more last) is
  where
    go : (c : Bool) → ((if c then Some e.1 else lookup m known) ≡ Some b → P b)
        → ((lookup m known ≡ Some b → P b) → lookup m (known ++ (n, a) ∷ []) ≡ Some b → P b)
        → (if c then Some e.1 else lookup m (known ++ (n, a) ∷ [])) ≡ Some b → P b
    go true here later at = here at
    go false here later at = later here at

module _ (f : ℕ) where
  -- a class that is added comes last
  pub new_ready : (t : Table) (is_public : Bool) (n : Name) → FileReady f t
      → FileReady f (with_new_class t f is_public n)
  new_ready t is_public n is = record {
    file = rw (length-set t.files f changed) is.file;
    object = omega (arith, more, is.object);
    inner = λ m c at. inner m c (is_some (lookup n known))
        (sym (ap (λ o. lookup m (or_no_file o).classes) (changed_at t.files f changed is.file)) ∙ at);
  }
    where
      known : List (Name × ℕ)
      known = (file_of t f).classes

      changed : File
      changed = record (file_of t f) { classes = and_first n (length t.classes) (file_of t f).classes }

      more : many (with_new_class t f is_public n) ≡ many t + 1
      more = length-append t.classes (named_class f is_public n ∷ [])

      inner : (m : Name) (c : ℕ) (b : Bool) → lookup m
          (if b then (file_of t f).classes else (file_of t f).classes ++ (n, length t.classes) ∷ []) ≡ Some c
          → c < many (with_new_class t f is_public n)
      inner m c true at = omega (arith, more, is.inner m c at)
      inner m c false at =
          found_in (λ d. d < many (with_new_class t f is_public n)) m n (length t.classes) c (file_of t f).classes
          (λ was. omega (arith, more, is.inner m c was)) (omega (arith, more)) at

  class_ready : (t : Table) (x : tree.Item) → FileReady f t → GivesSuch (FileReady f) (with_item_named f t x)
  class_ready t (class_item (tree.class l is_public n parent ms)) is =
      gives_if (FileReady f) (is_some (class_named t f n) || is_some (built_in n)) (wrong f l Duplicate)
      (gives (with_new_class t f is_public n)) (λ e. tt) (λ e. new_ready t is_public n is)
  class_ready t (fun_item g) is = is
  class_ready t (stmt_item s) is = is

  classes_ready : (t : Table) (xs : tree.File) → FileReady f t → GivesSuch (FileReady f) (with_classes f t xs)
  classes_ready t no_items is = is
  classes_ready t (and_item xs x) is = gives_then (FileReady f) (FileReady f) (with_classes f t xs)
      (λ u. with_item_named f u x) (classes_ready t xs is) (λ u so. class_ready u x so)

  -- parents are set
  parent_ready : (t : Table) (x : tree.Item) → FileReady f t → FileReady f (with_parent f t x)
  parent_ready t (class_item (tree.class l is_public n parent ms)) is =
      record { file = is.file; object = is.object; inner = is.inner }
  parent_ready t (fun_item g) is = is
  parent_ready t (stmt_item s) is = is

  pub parents_ready : (t : Table) (xs : tree.File) → FileReady f t → FileReady f (with_parents f t xs)
  parents_ready t no_items is = is
  parents_ready t (and_item xs x) is = parent_ready (with_parents f t xs) x (parents_ready t xs is)

  -- and tried
  extended_ready : (t : Table) (l c : ℕ) (n : Name) → FileReady f t → GivesSuch (FileReady f) (check_extended t f l c n)
  extended_ready t l c n is =
      gives_if (FileReady f) (nat_eq (parent t c) 0) (check_built_in t f l n) (check_line t f l c)
      (λ _. gives_if (FileReady f) (is_some (as_class (built_in n))) (gives t) _ (λ e. is)
      (λ _. gives_if (FileReady f) (is_some (built_in n)) (wrong f l BadClass) (wrong f l UnknownName) (λ e. tt)
      (λ e. tt)))
      (λ _. gives_if (FileReady f) (is_below t.parents c 0) (gives t) (wrong f l BadClass) (λ e. is) (λ e. tt))

  check_ready : (t : Table) (x : tree.Item) → FileReady f t → GivesSuch (FileReady f) (check_parent f t x)
  check_ready t (class_item (tree.class l is_public n (Some extends) ms)) is = extended_ready t l (own_class t f n)
      extends is
  check_ready t (class_item (tree.class l is_public n None ms)) is = is
  check_ready t (fun_item g) is = is
  check_ready t (stmt_item s) is = is

  checks_ready : (t : Table) (xs : tree.File) → FileReady f t → GivesSuch (FileReady f) (check_parents f t xs)
  checks_ready t no_items is = is
  checks_ready t (and_item xs x) is = gives_then (FileReady f) (FileReady f) (check_parents f t xs)
      (λ u. check_parent f u x) (checks_ready t xs is) (λ u so. check_ready u x so)

  -- functions' types are noted
  head_ready : (c : ℕ) (t : Table) (m : tree.Member) → FileReady f t → FileReady f (with_head f c t m)
  head_ready c t (fun_member (tree.fun l s result n ps body)) is =
      record { file = is.file; object = rw same is.object; inner = λ m d at. rw same (is.inner m d at) }
    where
      same : many (with_head f c t (fun_member (tree.fun l s result n ps body))) ≡ many t
      same = length-set t.classes c (record (class_of t c)
          { heads = and_first n (head_of t f (tree.fun l s result n ps body)) (class_of t c).heads })
  head_ready c t (fun_member (tree.constructor l ps body)) is = is
  head_ready c t (stmt_member s) is = is

  heads_of_ready : (c : ℕ) (t : Table) (ms : Members) → FileReady f t → FileReady f (with_heads_of f c t ms)
  heads_of_ready c t no_members is = is
  heads_of_ready c t (and_member ms m) is = head_ready c (with_heads_of f c t ms) m (heads_of_ready c t ms is)

  item_heads_ready : (t : Table) (x : tree.Item) → FileReady f t → FileReady f (with_item_heads f t x)
  item_heads_ready t (class_item (tree.class l is_public n parent ms)) is = heads_of_ready (own_class t f n) t ms is
  item_heads_ready t (fun_item g) is = is
  item_heads_ready t (stmt_item s) is = is

  pub heads_ready : (t : Table) (xs : tree.File) → FileReady f t → FileReady f (with_heads f t xs)
  heads_ready t no_items is = is
  heads_ready t (and_item xs x) is = item_heads_ready (with_heads f t xs) x (heads_ready t xs is)

  -- all of a file
  file_walked : (t : Table) (raw : tree.File) → FileReady f (begun t)
      → GivesSuch (λ u. FileDeclared u f raw) (entered t f raw)
  file_walked t raw is = gives_then (FileReady f) D (with_classes f (begun t) raw)
      (λ u. and_then (check_parents f (with_parents f u raw) raw) rest) (classes_ready (begun t) raw is) checked
    where
      D : Table → Type 0
      D u = FileDeclared u f raw

      rest : Table → Answer Table
      rest v = enter_items f (with_heads f v raw) raw

      walked : (v : Table) → FileReady f v → GivesSuch D (rest v)
      walked v ready = gives_map (Walked f D (with_heads f v raw)) D (λ u so. so.later u (keeps_self f u)) (rest v)
          (items_walked f (with_heads f v raw) raw (heads_ready v raw ready))

      checked : (u : Table) → FileReady f u → GivesSuch D (and_then (check_parents f (with_parents f u raw) raw) rest)
      checked u ready = gives_then (FileReady f) D (check_parents f (with_parents f u raw) raw) rest
          (checks_ready (with_parents f u raw) raw (parents_ready u raw ready)) walked

-- all declarations of a file are found
pub file_declared : (t u : Table) (f : ℕ) (raw : tree.File) → f ≡ length t.files → 0 < many t
    → entered t f raw ≡ gives u → FileDeclared u f raw
file_declared t u f raw is object gave = gives_at (λ v. FileDeclared v f raw) (entered t f raw) u gave
    (file_walked f t raw (begun_ready t f is object))
