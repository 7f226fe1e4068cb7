-- What is wrong in the first walk of a file stands in this file.
use Rattle.std.proofs.Common.{ℕ, true, not, nat_eq, ◌||◌, Option, Some, None, refl}
use Rattle.ck_values.specs.declared.kind.Kind.{Kind}
use Rattle.ck_syntax.specs.declared.declaration.Base.{Base}
use Rattle.ck_syntax.specs.declared.declaration.DeclHead.{DeclHead}
use Rattle.ck_syntax.specs.Tree as tree
use Rattle.ck_syntax.specs.Tree.{Name, Expr, Exprs, no_exprs, and_expr, Brackets, no_brackets, and_empty, and_size, Declrs, no_declrs, and_declr, Declr, declr, declr_with, declr_name, Stmt, Fun, fun, constructor, Member, fun_member, stmt_member, Members, no_members, and_member, class, Item, class_item, fun_item, stmt_item, no_items, and_item}
use Rattle.type_rules.specs.Fitting.{is_below}
use Rattle.first_walk.specs.FirstWalk.{begun, with_class_named, with_item_named, with_classes, own_class, with_parents, check_line, check_extended, check_parent, check_parents, head_of, has_unknown, with_heads, is_name_taken, may_override, enter_beside, enter_method_head, enter_constructor_head, enter_method, enter_fun_head, refuse_constructor, enter_fun, is_taken, enter_of_kind, is_misplaced, enter_written, enter_based, enter_declared, enter_expr, enter_exprs, enter_behind, enter_brackets, enter_declrs, enter_option, enter_stmt, enter_member, enter_members, with_body, enter_item, enter_items, entered}
use Rattle.type_table.specs.Table.{ancestors, overridden}
use Rattle.type_table.specs.NameClash.{is_event_call, is_member_taken}
use Rattle.type_table.specs.Names.{is_some, built_in, as_class}
use Rattle.type_table.specs.Table.{Table, class_of, parent, class_named}
use Rattle.type_table.specs.declared.class.Head.{Head}
use Rattle.type_table.specs.Types.{named_by, is_unknown, written_kind, may_be_static}
use Rattle.type_table.proofs.FaultFiles.{InFile, then_in, if_in}

module _ (f : ℕ) where
  -- classes and their parents ---------------------------------------------------------------------

  class_named_in : (t : Table) (c : tree.Class) → InFile f (with_class_named f t c)
  class_named_in t (class l is_public n parent ms) = if_in f (is_some (class_named t f n) || is_some (built_in n)) _ _
      refl tt

  item_named_in : (t : Table) (x : Item) → InFile f (with_item_named f t x)
  item_named_in t (class_item c) = class_named_in t c
  item_named_in t _ = tt

  classes_in : (t : Table) (xs : tree.File) → InFile f (with_classes f t xs)
  classes_in t no_items = tt
  classes_in t (and_item xs x) = then_in f (with_classes f t xs) _ (classes_in t xs) (λ u. item_named_in u x)

  line_in : (t : Table) (l c : ℕ) → InFile f (check_line t f l c)
  line_in t l c = if_in f (is_below t.parents c 0) _ _ tt refl

  extended_in : (t : Table) (l c : ℕ) (name : Name) → InFile f (check_extended t f l c name)
  extended_in t l c name =
      if_in f (nat_eq (parent t c) 0) _ _
      (if_in f (is_some (as_class (built_in name))) _ _ tt (if_in f (is_some (built_in name)) _ _ refl refl))
      (line_in t l c)

  parent_in : (t : Table) (x : Item) → InFile f (check_parent f t x)
  parent_in t (class_item (class l is_public n (Some extends) ms)) = extended_in t l (own_class t f n) extends
  parent_in t _ = tt

  parents_in : (t : Table) (xs : tree.File) → InFile f (check_parents f t xs)
  parents_in t no_items = tt
  parents_in t (and_item xs x) = then_in f (check_parents f t xs) _ (parents_in t xs) (λ u. parent_in u x)

  -- functions -------------------------------------------------------------------------------------

  beside_in : (t : Table) (l c : ℕ) (n : Name) (h : Head) (old : Option (Option Head))
      → InFile f (enter_beside t f l c n h old)
  beside_in t l c n h None = tt
  beside_in t l c n h (Some old) = if_in f (may_override h old) _ _ tt refl

  method_head_in : (t : Table) (l c : ℕ) (n : Name) (h : Option Head) → InFile f (enter_method_head t f l c n h)
  method_head_in t l c n None = refl
  method_head_in t l c n (Some h) = if_in f (is_event_call t c n) _ _ refl
      (beside_in t l c n h (overridden t (ancestors t c) n))

  constructor_head_in : (t : Table) (l c : ℕ) (h : Option Head) → InFile f (enter_constructor_head t f l c h)
  constructor_head_in t l c None = refl
  constructor_head_in t l c (Some h) = tt

  refused_in : (l : ℕ) (h : Option Head) → InFile f (refuse_constructor f l h)
  refused_in l None = refl
  refused_in l (Some h) = refl

  method_in : (t : Table) (c : ℕ) (m : Fun) → InFile f (enter_method t f c m)
  method_in t c (fun l s result n ps body) =
      if_in f (has_unknown t f (fun l s result n ps body)) _ _ refl
      (if_in f (is_member_taken t c n true) _ _ refl (method_head_in t l c n (head_of t f (fun l s result n ps body))))
  method_in t c (constructor l ps body) =
      if_in f (has_unknown t f (constructor l ps body)) _ _ refl
      (if_in f (is_some (class_of t c).constructor) _ _ refl
      (constructor_head_in t l c (head_of t f (constructor l ps body))))

  fun_head_in : (t : Table) (l : ℕ) (n : Name) (h : Option Head) → InFile f (enter_fun_head t f l n h)
  fun_head_in t l n None = refl
  fun_head_in t l n (Some h) = if_in f h.is_static _ _ refl tt

  fun_in : (t : Table) (g : Fun) → InFile f (enter_fun t f g)
  fun_in t (fun l s result n ps body) =
      if_in f (has_unknown t f (fun l s result n ps body)) _ _ refl
      (if_in f (is_name_taken t f n) _ _ refl (fun_head_in t l n (head_of t f (fun l s result n ps body))))
  fun_in t (constructor l ps body) =
      if_in f (has_unknown t f (constructor l ps body)) _ _ refl (refused_in l (head_of t f (constructor l ps body)))

  -- variables and fields --------------------------------------------------------------------------

  of_kind_in : (t : Table) (l : ℕ) (o : Option ℕ) (h : DeclHead) (n : Name) (k : Option Kind)
      → InFile f (enter_of_kind t f l o h n k)
  of_kind_in t l o h n None = refl
  of_kind_in t l None h n (Some k) = if_in f h.is_static _ _ refl tt
  of_kind_in t l (Some c) h n (Some k) = if_in f (not h.is_static) _ _ tt (if_in f (may_be_static h k) _ _ tt refl)

  written_in : (t : Table) (l : ℕ) (o : Option ℕ) (h : DeclHead) (x : Declr) (k : Option Kind)
      → InFile f (enter_written t f l o h x k)
  written_in t l o h x k = if_in f (is_misplaced h x k) _ _ refl (of_kind_in t l o h (declr_name x) k)

  based_in : (t : Table) (l : ℕ) (o : Option ℕ) (h : DeclHead) (b : Option Base) (x : Declr)
      → InFile f (enter_based t f l o h b x)
  based_in t l o h None x = if_in f (is_taken t f o (declr_name x)) _ _ refl tt
  based_in t l o h (Some b) x =
      if_in f (is_unknown (named_by t f b)) _ _ refl
      (if_in f (is_taken t f o (declr_name x)) _ _ refl (written_in t l o h x (written_kind h (named_by t f b) x)))

  declared_in : (t : Table) (l : ℕ) (o : Option ℕ) (h : DeclHead) (x : Declr) → InFile f (enter_declared t f l o h x)
  declared_in t l o h x = based_in t l o h h.base x

  -- expressions and statements --------------------------------------------------------------------

  module _ (o : Option ℕ) where
    mutual
      expr_in : (t : Table) (e : Expr) → InFile f (enter_expr f o t e)
      expr_in t (tree.paren l e) = expr_in t e
      expr_in t (tree.array l es) = exprs_in t es
      expr_in t (tree.call l e es) = then_in f (enter_expr f o t e) _ (expr_in t e) (λ u. exprs_in u es)
      expr_in t (tree.index l e i) = then_in f (enter_expr f o t e) _ (expr_in t e) (λ u. expr_in u i)
      expr_in t (tree.member l e n) = expr_in t e
      expr_in t (tree.postfix l e p) = expr_in t e
      expr_in t (tree.dur l e d) = then_in f (enter_expr f o t e) _ (expr_in t e) (λ u. expr_in u d)
      expr_in t (tree.prefix l p e) = expr_in t e
      expr_in t (tree.new l b es) = exprs_in t es
      expr_in t (tree.new_with l b es) = exprs_in t es
      expr_in t (tree.spork l e) = expr_in t e
      expr_in t (tree.cast l e k) = expr_in t e
      expr_in t (tree.binary l a p b) = then_in f (enter_expr f o t a) _ (expr_in t a) (λ u. expr_in u b)
      expr_in t (tree.choice l c a b) =
          then_in f (enter_expr f o t c) _ (expr_in t c)
          (λ u. then_in f (enter_expr f o u a) _ (expr_in u a) (λ v. expr_in v b))
      expr_in t (tree.declare l h x) = then_in f (enter_behind f o t x) _ (behind_in t x) (λ u. declared_in u l o h x)
      expr_in t (tree.chuck l a p b) = then_in f (enter_expr f o t a) _ (expr_in t a) (λ u. expr_in u b)
      expr_in t _ = tt

      exprs_in : (t : Table) (es : Exprs) → InFile f (enter_exprs f o t es)
      exprs_in t no_exprs = tt
      exprs_in t (and_expr es e) = then_in f (enter_exprs f o t es) _ (exprs_in t es) (λ u. expr_in u e)

      behind_in : (t : Table) (x : Declr) → InFile f (enter_behind f o t x)
      behind_in t (declr n bs) = brackets_in t bs
      behind_in t (declr_with n es) = exprs_in t es

      brackets_in : (t : Table) (bs : Brackets) → InFile f (enter_brackets f o t bs)
      brackets_in t no_brackets = tt
      brackets_in t (and_empty bs) = brackets_in t bs
      brackets_in t (and_size bs e) = then_in f (enter_brackets f o t bs) _ (brackets_in t bs) (λ u. expr_in u e)

    declrs_in : (l : ℕ) (h : DeclHead) (t : Table) (ds : Declrs) → InFile f (enter_declrs f l o h t ds)
    declrs_in l h t no_declrs = tt
    declrs_in l h t (and_declr ds x) =
        then_in f (enter_declrs f l o h t ds) _ (declrs_in l h t ds)
        (λ u. then_in f (enter_behind f o u x) _ (behind_in u x) (λ v. declared_in v l o h x))

    option_in : (t : Table) (e : Option Expr) → InFile f (enter_option f o t e)
    option_in t None = tt
    option_in t (Some e) = expr_in t e

    stmt_in : (t : Table) (x : Stmt) → InFile f (enter_stmt f o t x)
    stmt_in t (tree.simple l e) = expr_in t e
    stmt_in t (tree.declares l h ds) = declrs_in l h t ds
    stmt_in t (tree.print l es) = exprs_in t es
    stmt_in t (tree.if_then l e s) = expr_in t e
    stmt_in t (tree.if_else l e s r) = expr_in t e
    stmt_in t (tree.while_do l e s) = expr_in t e
    stmt_in t (tree.until_do l e s) = expr_in t e
    stmt_in t (tree.do_while l s e) = expr_in t e
    stmt_in t (tree.do_until l s e) = expr_in t e
    stmt_in t (tree.repeat l e s) = expr_in t e
    stmt_in t (tree.return l e) = option_in t e
    stmt_in t _ = tt

  -- members and files -----------------------------------------------------------------------------

  member_in : (c : ℕ) (t : Table) (m : Member) → InFile f (enter_member f c t m)
  member_in c t (fun_member m) = method_in t c m
  member_in c t (stmt_member s) = stmt_in (Some c) t s

  members_in : (c : ℕ) (t : Table) (ms : Members) → InFile f (enter_members f c t ms)
  members_in c t no_members = tt
  members_in c t (and_member ms m) = then_in f (enter_members f c t ms) _ (members_in c t ms) (λ u. member_in c u m)

  item_in : (t : Table) (x : Item) → InFile f (enter_item f t x)
  item_in t (class_item (class l is_public n parent ms)) = members_in (own_class t f n)
      (with_body t (own_class t f n) ms) ms
  item_in t (fun_item g) = fun_in t g
  item_in t (stmt_item s) = stmt_in None t s

  items_in : (t : Table) (xs : tree.File) → InFile f (enter_items f t xs)
  items_in t no_items = tt
  items_in t (and_item xs x) = then_in f (enter_items f t xs) _ (items_in t xs) (λ u. item_in u x)

  pub entered_in : (t : Table) (raw : tree.File) → InFile f (entered t f raw)
  entered_in t raw =
      then_in f (with_classes f (begun t) raw) _ (classes_in (begun t) raw) (λ u.
      then_in f (check_parents f (with_parents f u raw) raw) _ (parents_in (with_parents f u raw) raw) (λ v.
      items_in (with_heads f v raw) raw))
