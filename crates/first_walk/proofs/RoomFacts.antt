-- What grows by at most one with each thing that is entered grows in each part of the first walk by at most as much as
-- its text has tokens.
use Rattle.std.proofs.Common.{◌≡◌, ℕ, ◌+◌, ◌*◌, ◌≤◌, Bool, true, false, not, ◌||◌, nat_eq, List, Option, Some, None, slice_set, if◌then◌else◌, arith}
use Rattle.ck_values.specs.declared.kind.Kind.{Kind}
use Rattle.ck_values.specs.declared.kind.Kind.TheVariants.{Void}
use Rattle.ck_syntax.specs.declared.declaration.Base.{Base}
use Rattle.ck_syntax.specs.declared.declaration.DeclHead.{DeclHead}
use Rattle.ck_syntax.specs.declared.expr.Bracket.{Bracket, Empty, Size'}
use Rattle.ck_syntax.specs.Size.{expr_size, exprs_size, brackets_size, declr_size, declrs_size, option_size, stmt_size, fun_size, member_size, members_size, class_size, item_size, items_size}
use Rattle.ck_syntax.specs.Tree as tree
use Rattle.ck_syntax.specs.View.{view_kind}
use Rattle.ck_syntax.specs.Tree.{Name, Expr, Exprs, no_exprs, and_expr, Brackets, no_brackets, and_empty, and_size, Declr, Declrs, no_declrs, and_declr, declr, declr_with, declr_name, Stmt, Fun, fun, constructor, Member, fun_member, stmt_member, Members, no_members, and_member, class, Item, class_item, fun_item, stmt_item, no_items, and_item}
use Rattle.type_rules.specs.Fitting.{is_below}
use Rattle.type_table.specs.declared.class.Dispatch.{Dispatch}
use Rattle.type_table.specs.declared.class.Head.{Head}
use Rattle.type_table.specs.declared.class.Own.TheVariants as own
use Rattle.type_table.specs.Answer.{Answer, gives, and_then}
use Rattle.type_table.specs.Names.{is_some, built_in, as_class, and_first}
use Rattle.type_table.specs.Table.{Table, class_of, parent, ancestors, overridden, class_named}
use Rattle.type_table.specs.NameClash.{is_event_call, is_member_taken}
use Rattle.type_table.specs.Types.{named_by, is_unknown, written_kind, may_be_static}
use Rattle.type_table.proofs.Weights as weights
use Rattle.type_table.proofs.Weights.{comma_more, bracketed_more, declrs_comma}
use Rattle.first_walk.specs.FirstWalk.{with_class, begun, with_new_class, with_class_named, with_item_named, with_classes, own_class, extended, with_parent, with_parents, check_line, check_extended, check_parent, check_parents, head_of, has_unknown, with_head, with_heads_of, with_item_heads, with_heads, is_name_taken, may_override, new_dispatch, old_dispatch, with_method, enter_beside, enter_method_head, with_constructor, enter_constructor_head, enter_method, enter_fun_head, refuse_constructor, enter_fun, with_fun, with_member, with_variable, with_static, with_field, is_taken, enter_of_kind, is_misplaced, with_auto, enter_based, enter_declared, enter_expr, enter_exprs, enter_behind, enter_brackets, enter_declrs, enter_option, enter_stmt, enter_member, enter_members, with_body, enter_item, enter_items, entered}
use Rattle.first_walk.specs.Steps.{bracket_entered, declr_entered}
use Rattle.first_walk.proofs.SameNames.{GivesSuch, gives_at, gives_then}

-- so much is added at most
pub record IsMeasure (m : Table → ℕ) : Type 0 where
  pub new_class : (t : Table) (f : ℕ) (is_public : Bool) (n : Name) → m (with_new_class t f is_public n) ≤ m t + 2
  pub parents : (t : Table) (c p : ℕ) → m (record t { parents = slice_set t.parents c p }) ≤ m t
  pub heads : (t : Table) (c : ℕ) (hs : List (Name × Option Head))
      → m (with_class t c (record (class_of t c) { heads = hs })) ≤ m t
  pub method : (t : Table) (c : ℕ) (n : Name) (h : Head) (d : Dispatch) → m (with_method t c n h d) ≤ m t + 1
  pub function : (t : Table) (f : ℕ) (n : Name) (h : Head) → m (with_fun t f n h) ≤ m t + 1
  pub variable : (t : Table) (f : ℕ) (n : Name) (k : Kind) → m (with_variable t f n k) ≤ m t + 1
  pub static : (t : Table) (c : ℕ) (n : Name) (k : Kind) → m (with_static t c n k) ≤ m t + 1
  pub field : (t : Table) (c : ℕ) (n : Name) (k : Kind) → m (with_field t c n k) ≤ m t + 1
  pub auto_member : (t : Table) (c : ℕ) (n : Name) → m (with_member t c n own.Auto) ≤ m t + 1
  pub body : (t : Table) (c : ℕ) (ms : Members) → m (with_body t c ms) ≤ m t + 1
  pub construct : (t : Table) (c : ℕ) (h : Head) → m (with_constructor t c h) ≤ m t + 1

module _ (m : Table → ℕ) (is_measure : IsMeasure m) (f : ℕ) where
  -- what is given has at most so much
  abbrev UpTo : ℕ → Answer Table → Type 0
  UpTo n a = GivesSuch (λ u. m u ≤ n) a

  then_up : (k n : ℕ) (x : Answer Table) (next : Table → Answer Table) → UpTo k x
      → ((u : Table) → m u ≤ k → UpTo n (next u)) → UpTo n (and_then x next)
  then_up k n x next so goes = gives_then (λ u. m u ≤ k) (λ u. m u ≤ n) x next so goes

  if_up : (n : ℕ) (b : Bool) (x y : Answer Table) → UpTo n x → UpTo n y → UpTo n (if b then x else y)
  if_up n true x y then_so else_so = then_so
  if_up n false x y then_so else_so = else_so

  at_most : (n : ℕ) (x : Answer Table) (u : Table) → x ≡ gives u → UpTo n x → m u ≤ n
  at_most n x u is so = gives_at (λ v. m v ≤ n) x u is so

  -- classes and their parents ---------------------------------------------------------------------

  class_named_up : (n : ℕ) (t : Table) (c : tree.Class) → m t + class_size c ≤ n
      → UpTo n (with_class_named f t c)
  class_named_up n t (class l is_public name parent ms) le =
      if_up n (is_some (class_named t f name) || is_some (built_in name)) _ _ tt
      (omega (arith, le, is_measure.new_class t f is_public name))

  item_named_up : (n : ℕ) (t : Table) (x : Item) → m t + item_size x ≤ n → UpTo n (with_item_named f t x)
  item_named_up n t (class_item c) le = class_named_up n t c le
  item_named_up n t (fun_item g) le = omega (arith, le)
  item_named_up n t (stmt_item s) le = omega (arith, le)

  classes_up : (n : ℕ) (t : Table) (xs : tree.File) → m t + items_size xs ≤ n → UpTo n (with_classes f t xs)
  classes_up n t no_items le = omega (arith, le)
  classes_up n t (and_item xs x) le =
      then_up (m t + items_size xs) n (with_classes f t xs) _
      (classes_up (m t + items_size xs) t xs (omega arith))
      (λ u so. item_named_up n u x (omega (arith, so, le)))

  parent_kept : (t : Table) (x : Item) → m (with_parent f t x) ≤ m t
  parent_kept t (class_item (class l is_public n parent ms)) =
      is_measure.parents t (own_class t f n) (extended t f parent)
  parent_kept t (fun_item g) = omega arith
  parent_kept t (stmt_item s) = omega arith

  pub parents_kept : (t : Table) (xs : tree.File) → m (with_parents f t xs) ≤ m t
  parents_kept t no_items = omega arith
  parents_kept t (and_item xs x) = omega (arith, parent_kept (with_parents f t xs) x, parents_kept t xs)

  line_up : (n : ℕ) (t : Table) (l c : ℕ) → m t ≤ n → UpTo n (check_line t f l c)
  line_up n t l c le = if_up n (is_below t.parents c 0) _ _ le tt

  extended_up : (n : ℕ) (t : Table) (l c : ℕ) (name : Name) → m t ≤ n
      → UpTo n (check_extended t f l c name)
  extended_up n t l c name le =
      if_up n (nat_eq (parent t c) 0) _ _
      (if_up n (is_some (as_class (built_in name))) _ _ le (if_up n (is_some (built_in name)) _ _ tt tt))
      (line_up n t l c le)

  parent_up : (n : ℕ) (t : Table) (x : Item) → m t ≤ n → UpTo n (check_parent f t x)
  parent_up n t (class_item (class l is_public name (Some extends) ms)) le =
      extended_up n t l (own_class t f name) extends le
  parent_up n t (class_item (class l is_public name None ms)) le = le
  parent_up n t (fun_item g) le = le
  parent_up n t (stmt_item s) le = le

  parents_up : (n : ℕ) (t : Table) (xs : tree.File) → m t ≤ n → UpTo n (check_parents f t xs)
  parents_up n t no_items le = le
  parents_up n t (and_item xs x) le =
      then_up n n (check_parents f t xs) _ (parents_up n t xs le) (λ u so. parent_up n u x so)

  -- the types of functions ------------------------------------------------------------------------

  head_kept : (c : ℕ) (t : Table) (x : Member) → m (with_head f c t x) ≤ m t
  head_kept c t (fun_member (fun l s result n ps body)) =
      is_measure.heads t c (and_first n (head_of t f (fun l s result n ps body)) (class_of t c).heads)
  head_kept c t (fun_member (constructor l ps body)) = omega arith
  head_kept c t (stmt_member s) = omega arith

  heads_of_kept : (c : ℕ) (t : Table) (ms : Members) → m (with_heads_of f c t ms) ≤ m t
  heads_of_kept c t no_members = omega arith
  heads_of_kept c t (and_member ms x) =
      omega (arith, head_kept c (with_heads_of f c t ms) x, heads_of_kept c t ms)

  item_heads_kept : (t : Table) (x : Item) → m (with_item_heads f t x) ≤ m t
  item_heads_kept t (class_item (class l is_public n parent ms)) = heads_of_kept (own_class t f n) t ms
  item_heads_kept t (fun_item g) = omega arith
  item_heads_kept t (stmt_item s) = omega arith

  pub heads_kept : (t : Table) (xs : tree.File) → m (with_heads f t xs) ≤ m t
  heads_kept t no_items = omega arith
  heads_kept t (and_item xs x) = omega (arith, item_heads_kept (with_heads f t xs) x, heads_kept t xs)

  -- functions -------------------------------------------------------------------------------------

  beside_up : (n : ℕ) (t : Table) (l c : ℕ) (name : Name) (h : Head) (old : Option (Option Head)) → m t + 1 ≤ n
      → UpTo n (enter_beside t f l c name h old)
  beside_up n t l c name h None le = omega (arith, le, is_measure.method t c name h (new_dispatch (class_of t c) h))
  beside_up n t l c name h (Some old) le =
      if_up n (may_override h old) _ _ (omega (arith, le, is_measure.method t c name h (old_dispatch h))) tt

  method_head_up : (n : ℕ) (t : Table) (l c : ℕ) (name : Name) (h : Option Head) → m t + 1 ≤ n
      → UpTo n (enter_method_head t f l c name h)
  method_head_up n t l c name None le = tt
  method_head_up n t l c name (Some h) le =
      if_up n (is_event_call t c name) _ _ tt (beside_up n t l c name h (overridden t (ancestors t c) name) le)

  constructor_head_up : (n : ℕ) (t : Table) (l c : ℕ) (h : Option Head) → m t + 1 ≤ n
      → UpTo n (enter_constructor_head t f l c h)
  constructor_head_up n t l c None le = tt
  constructor_head_up n t l c (Some h) le = omega (arith, le, is_measure.construct t c h)

  method_up : (n : ℕ) (t : Table) (c : ℕ) (g : Fun) → m t + fun_size g ≤ n → UpTo n (enter_method t f c g)
  method_up n t c (fun l s result name ps body) le =
      if_up n (has_unknown t f (fun l s result name ps body)) _ _ tt
      (if_up n (is_member_taken t c name true) _ _ tt
      (method_head_up n t l c name (head_of t f (fun l s result name ps body)) (omega (arith, le))))
  method_up n t c (constructor l ps body) le =
      if_up n (has_unknown t f (constructor l ps body)) _ _ tt
      (if_up n (is_some (class_of t c).constructor) _ _ tt
      (constructor_head_up n t l c (head_of t f (constructor l ps body)) (omega (arith, le))))

  refused_up : (n l : ℕ) (h : Option Head) → UpTo n (refuse_constructor f l h)
  refused_up n l None = tt
  refused_up n l (Some h) = tt

  fun_head_up : (n : ℕ) (t : Table) (l : ℕ) (name : Name) (h : Option Head) → m t + 1 ≤ n
      → UpTo n (enter_fun_head t f l name h)
  fun_head_up n t l name None le = tt
  fun_head_up n t l name (Some h) le = if_up n h.is_static _ _ tt (omega (arith, le, is_measure.function t f name h))

  fun_up : (n : ℕ) (t : Table) (g : Fun) → m t + fun_size g ≤ n → UpTo n (enter_fun t f g)
  fun_up n t (fun l s result name ps body) le =
      if_up n (has_unknown t f (fun l s result name ps body)) _ _ tt
      (if_up n (is_name_taken t f name) _ _ tt
      (fun_head_up n t l name (head_of t f (fun l s result name ps body)) (omega (arith, le))))
  fun_up n t (constructor l ps body) le =
      if_up n (has_unknown t f (constructor l ps body)) _ _ tt
      (refused_up n l (head_of t f (constructor l ps body)))

  -- variables and fields --------------------------------------------------------------------------

  of_kind_up : (n : ℕ) (t : Table) (l : ℕ) (o : Option ℕ) (h : DeclHead) (name : Name) (k : Option Kind)
      → m t + 1 ≤ n → UpTo n (enter_of_kind t f l o h name k)
  of_kind_up n t l o h name None le = tt
  of_kind_up n t l None h name (Some k) le = if_up n h.is_static _ _ tt
      (omega (arith, le, is_measure.variable t f name k))
  of_kind_up n t l (Some c) h name (Some k) le =
      if_up n (not h.is_static) _ _ (omega (arith, le, is_measure.field t c name k))
      (if_up n (may_be_static h k) _ _ (omega (arith, le, is_measure.static t c name k)) tt)

  auto_up : (n : ℕ) (t : Table) (o : Option ℕ) (name : Name) → m t + 1 ≤ n → m (with_auto t f o name) ≤ n
  auto_up n t None name le = omega (arith, le, is_measure.variable t f name Void)
  auto_up n t (Some c) name le = omega (arith, le, is_measure.auto_member t c name)

  based_up : (n : ℕ) (t : Table) (l : ℕ) (o : Option ℕ) (h : DeclHead) (b : Option Base) (x : Declr)
      → m t + 1 ≤ n → UpTo n (enter_based t f l o h b x)
  based_up n t l o h None x le = if_up n (is_taken t f o (declr_name x)) _ _ tt (auto_up n t o (declr_name x) le)
  based_up n t l o h (Some b) x le =
      if_up n (is_unknown (named_by t f b)) _ _ tt
      (if_up n (is_taken t f o (declr_name x)) _ _ tt
      (if_up n (is_misplaced h x (written_kind h (named_by t f b) x)) _ _ tt
      (of_kind_up n t l o h (declr_name x) (written_kind h (named_by t f b) x) le)))

  declared_up : (n : ℕ) (t : Table) (l : ℕ) (o : Option ℕ) (h : DeclHead) (x : Declr)
      → m t + 1 ≤ n → UpTo n (enter_declared t f l o h x)
  declared_up n t l o h x le = based_up n t l o h h.base x le

  -- expressions and statements --------------------------------------------------------------------

  module _ (o : Option ℕ) where
    mutual
      expr_up : (n : ℕ) (t : Table) (e : Expr) → m t + expr_size e ≤ n → UpTo n (enter_expr f o t e)
      expr_up n t (tree.paren l e) le = expr_up n t e (omega (arith, le))
      expr_up n t (tree.array l es) le = exprs_up n t es (omega (arith, le))
      expr_up n t (tree.call l e es) le =
          then_up (m t + expr_size e) n (enter_expr f o t e) _
          (expr_up (m t + expr_size e) t e (omega arith))
          (λ u so. exprs_up n u es (omega (arith, so, le)))
      expr_up n t (tree.index l e i) le =
          then_up (m t + expr_size e) n (enter_expr f o t e) _
          (expr_up (m t + expr_size e) t e (omega arith))
          (λ u so. expr_up n u i (omega (arith, so, le)))
      expr_up n t (tree.member l e name) le = expr_up n t e (omega (arith, le))
      expr_up n t (tree.postfix l e p) le = expr_up n t e (omega (arith, le))
      expr_up n t (tree.dur l e d) le =
          then_up (m t + expr_size e) n (enter_expr f o t e) _
          (expr_up (m t + expr_size e) t e (omega arith))
          (λ u so. expr_up n u d (omega (arith, so, le)))
      expr_up n t (tree.prefix l p e) le = expr_up n t e (omega (arith, le))
      expr_up n t (tree.new l b es) le = exprs_up n t es (omega (arith, le, bracketed_more es))
      expr_up n t (tree.new_with l b es) le = exprs_up n t es (omega (arith, le))
      expr_up n t (tree.spork l e) le = expr_up n t e (omega (arith, le))
      expr_up n t (tree.cast l e k) le = expr_up n t e (omega (arith, le))
      expr_up n t (tree.binary l a p b) le =
          then_up (m t + expr_size a) n (enter_expr f o t a) _
          (expr_up (m t + expr_size a) t a (omega arith))
          (λ u so. expr_up n u b (omega (arith, so, le)))
      expr_up n t (tree.choice l c a b) le =
          then_up (m t + expr_size c) n (enter_expr f o t c) _
          (expr_up (m t + expr_size c) t c (omega arith))
          (λ u so. then_up (m u + expr_size a) n (enter_expr f o u a) _
          (expr_up (m u + expr_size a) u a (omega arith))
          (λ v so_too. expr_up n v b (omega (arith, so, so_too, le))))
      expr_up n t (tree.declare l h (declr name bs)) le =
          then_up (m t + brackets_size bs) n (enter_brackets f o t bs) _
          (brackets_up (m t + brackets_size bs) t bs (omega arith))
          (λ u so. declared_up n u l o h (declr name bs) (omega (arith, so, le)))
      expr_up n t (tree.declare l h (declr_with name es)) le =
          then_up (m t + exprs_size es) n (enter_exprs f o t es) _
          (exprs_up (m t + exprs_size es) t es (omega arith))
          (λ u so. declared_up n u l o h (declr_with name es) (omega (arith, so, le)))
      expr_up n t (tree.chuck l a p b) le =
          then_up (m t + expr_size a) n (enter_expr f o t a) _
          (expr_up (m t + expr_size a) t a (omega arith))
          (λ u so. expr_up n u b (omega (arith, so, le)))
      expr_up n t _ le = omega (arith, le)

      exprs_up : (n : ℕ) (t : Table) (es : Exprs) → m t + exprs_size es ≤ n → UpTo n (enter_exprs f o t es)
      exprs_up n t no_exprs le = omega (arith, le)
      exprs_up n t (and_expr es e) le =
          then_up (m t + exprs_size es) n (enter_exprs f o t es) _
          (exprs_up (m t + exprs_size es) t es (omega arith))
          (λ u so. expr_up n u e (omega (arith, so, le, comma_more es)))

      brackets_up : (n : ℕ) (t : Table) (bs : Brackets) → m t + brackets_size bs ≤ n
          → UpTo n (enter_brackets f o t bs)
      brackets_up n t no_brackets le = omega (arith, le)
      brackets_up n t (and_empty bs) le = brackets_up n t bs (omega (arith, le))
      brackets_up n t (and_size bs e) le =
          then_up (m t + brackets_size bs) n (enter_brackets f o t bs) _
          (brackets_up (m t + brackets_size bs) t bs (omega arith))
          (λ u so. expr_up n u e (omega (arith, so, le)))

    bracket_up : (n : ℕ) (t : Table) (b : Bracket) → m t + weights.one_bracket b ≤ n
        → UpTo n (bracket_entered f o t b)
    bracket_up n t Empty le = omega (arith, le)
    bracket_up n t (Size' l k) le = expr_up n t (view_kind l k) (omega (arith, le))

    declr_up : (n : ℕ) (l : ℕ) (h : DeclHead) (t : Table) (d : Declr) → m t + declr_size d ≤ n
        → UpTo n (declr_entered f l o h t d)
    declr_up n l h t (declr name bs) le =
        then_up (m t + brackets_size bs) n (enter_brackets f o t bs) _
        (brackets_up (m t + brackets_size bs) t bs (omega arith))
        (λ u so. declared_up n u l o h (declr name bs) (omega (arith, so, le)))
    declr_up n l h t (declr_with name es) le =
        then_up (m t + exprs_size es) n (enter_exprs f o t es) _
        (exprs_up (m t + exprs_size es) t es (omega arith))
        (λ u so. declared_up n u l o h (declr_with name es) (omega (arith, so, le)))

    declrs_up : (n : ℕ) (l : ℕ) (h : DeclHead) (t : Table) (ds : Declrs) → m t + declrs_size ds ≤ n
        → UpTo n (enter_declrs f l o h t ds)
    declrs_up n l h t no_declrs le = omega (arith, le)
    declrs_up n l h t (and_declr ds x) le =
        then_up (m t + declrs_size ds) n (enter_declrs f l o h t ds) _
        (declrs_up (m t + declrs_size ds) l h t ds (omega arith))
        (λ u so. declr_up n l h u x (omega (arith, so, le, declrs_comma ds)))

    option_up : (n : ℕ) (t : Table) (e : Option Expr) → m t + option_size e ≤ n → UpTo n (enter_option f o t e)
    option_up n t None le = omega (arith, le)
    option_up n t (Some e) le = expr_up n t e le

    stmt_up : (n : ℕ) (t : Table) (s : Stmt) → m t + stmt_size s ≤ n → UpTo n (enter_stmt f o t s)
    stmt_up n t (tree.simple l e) le = expr_up n t e (omega (arith, le))
    stmt_up n t (tree.declares l h ds) le = declrs_up n l h t ds (omega (arith, le))
    stmt_up n t (tree.print l es) le = exprs_up n t es (omega (arith, le))
    stmt_up n t (tree.if_then l e s) le = expr_up n t e (omega (arith, le))
    stmt_up n t (tree.if_else l e s r) le = expr_up n t e (omega (arith, le))
    stmt_up n t (tree.while_do l e s) le = expr_up n t e (omega (arith, le))
    stmt_up n t (tree.until_do l e s) le = expr_up n t e (omega (arith, le))
    stmt_up n t (tree.do_while l s e) le = expr_up n t e (omega (arith, le))
    stmt_up n t (tree.do_until l s e) le = expr_up n t e (omega (arith, le))
    stmt_up n t (tree.repeat l e s) le = expr_up n t e (omega (arith, le))
    stmt_up n t (tree.return l e) le = option_up n t e (omega (arith, le))
    stmt_up n t _ le = omega (arith, le)

  -- members and items -----------------------------------------------------------------------------

  member_up : (n c : ℕ) (t : Table) (x : Member) → m t + member_size x ≤ n → UpTo n (enter_member f c t x)
  member_up n c t (fun_member g) le = method_up n t c g le
  member_up n c t (stmt_member s) le = stmt_up (Some c) n t s le

  members_up : (n c : ℕ) (t : Table) (ms : Members) → m t + members_size ms ≤ n
      → UpTo n (enter_members f c t ms)
  members_up n c t no_members le = omega (arith, le)
  members_up n c t (and_member ms x) le =
      then_up (m t + members_size ms) n (enter_members f c t ms) _
      (members_up (m t + members_size ms) c t ms (omega arith))
      (λ u so. member_up n c u x (omega (arith, so, le)))

  item_up : (n : ℕ) (t : Table) (x : Item) → m t + item_size x ≤ n → UpTo n (enter_item f t x)
  item_up n t (class_item (class l is_public name parent ms)) le =
      members_up n (own_class t f name) (with_body t (own_class t f name) ms) ms
      (omega (arith, le, is_measure.body t (own_class t f name) ms))
  item_up n t (fun_item g) le = fun_up n t g le
  item_up n t (stmt_item s) le = stmt_up None n t s le

  items_up : (n : ℕ) (t : Table) (xs : tree.File) → m t + items_size xs ≤ n → UpTo n (enter_items f t xs)
  items_up n t no_items le = omega (arith, le)
  items_up n t (and_item xs x) le =
      then_up (m t + items_size xs) n (enter_items f t xs) _
      (items_up (m t + items_size xs) t xs (omega arith)) (λ u so. item_up n u x (omega (arith, so, le)))

  file_up : (n : ℕ) (t : Table) (raw : tree.File) → m (begun t) + 2 * items_size raw ≤ n → UpTo n (entered t f raw)
  file_up n t raw le =
      then_up (m (begun t) + items_size raw) n (with_classes f (begun t) raw) _
      (classes_up (m (begun t) + items_size raw) (begun t) raw (omega arith))
      (λ u so. then_up (m (begun t) + items_size raw) n (check_parents f (with_parents f u raw) raw) _
      (parents_up (m (begun t) + items_size raw) (with_parents f u raw) raw (omega (arith, so, parents_kept u raw)))
      (λ v so_too. items_up n (with_heads f v raw) raw (omega (arith, so_too, le, heads_kept v raw))))

  -- what each step gives --------------------------------------------------------------------------

  pub item_named_grows : (t u : Table) (x : Item) → with_item_named f t x ≡ gives u
      → m u ≤ m t + item_size x
  item_named_grows t u x is =
      at_most (m t + item_size x) _ u is (item_named_up (m t + item_size x) t x (omega arith))

  pub classes_grow : (t u : Table) (xs : tree.File) → with_classes f t xs ≡ gives u
      → m u ≤ m t + items_size xs
  classes_grow t u xs is =
      at_most (m t + items_size xs) _ u is (classes_up (m t + items_size xs) t xs (omega arith))

  pub expr_grows : (o : Option ℕ) (t u : Table) (e : Expr) → enter_expr f o t e ≡ gives u
      → m u ≤ m t + expr_size e
  expr_grows o t u e is =
      at_most (m t + expr_size e) _ u is (expr_up o (m t + expr_size e) t e (omega arith))

  pub bracket_grows : (o : Option ℕ) (t u : Table) (b : Bracket) → bracket_entered f o t b ≡ gives u
      → m u ≤ m t + weights.one_bracket b
  bracket_grows o t u b is =
      at_most (m t + weights.one_bracket b) _ u is
      (bracket_up o (m t + weights.one_bracket b) t b (omega arith))

  pub brackets_grow : (o : Option ℕ) (t u : Table) (bs : Brackets) → enter_brackets f o t bs ≡ gives u
      → m u ≤ m t + brackets_size bs
  brackets_grow o t u bs is =
      at_most (m t + brackets_size bs) _ u is (brackets_up o (m t + brackets_size bs) t bs (omega arith))

  pub behind_grows : (o : Option ℕ) (t u : Table) (x : Declr) → enter_behind f o t x ≡ gives u
      → m u + 1 ≤ m t + declr_size x
  behind_grows o t u (declr name bs) is =
      omega (arith, at_most (m t + brackets_size bs) _ u is (brackets_up o (m t + brackets_size bs) t bs (omega arith)))
  behind_grows o t u (declr_with name es) is =
      omega (arith, at_most (m t + exprs_size es) _ u is (exprs_up o (m t + exprs_size es) t es (omega arith)))

  pub declr_grows : (o : Option ℕ) (l : ℕ) (h : DeclHead) (t u : Table) (d : Declr)
      → declr_entered f l o h t d ≡ gives u → m u ≤ m t + declr_size d
  declr_grows o l h t u d is =
      at_most (m t + declr_size d) _ u is (declr_up o (m t + declr_size d) l h t d (omega arith))

  pub member_grows : (c : ℕ) (t u : Table) (x : Member) → enter_member f c t x ≡ gives u
      → m u ≤ m t + member_size x
  member_grows c t u x is =
      at_most (m t + member_size x) _ u is (member_up (m t + member_size x) c t x (omega arith))

  pub item_grows : (t u : Table) (x : Item) → enter_item f t x ≡ gives u → m u ≤ m t + item_size x
  item_grows t u x is = at_most (m t + item_size x) _ u is (item_up (m t + item_size x) t x (omega arith))

  pub file_grows : (t u : Table) (raw : tree.File) → entered t f raw ≡ gives u
      → m u ≤ m (begun t) + 2 * items_size raw
  file_grows t u raw is =
      at_most (m (begun t) + 2 * items_size raw) _ u is
      (file_up (m (begun t) + 2 * items_size raw) t raw (omega arith))
