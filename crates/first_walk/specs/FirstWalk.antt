-- The first walk of a file: its classes are entered in text order, then their parents, then
-- members, functions and file variables in text order.
use Rattle.std.specs.Prelude.{ℕ, ◌+◌, Bool, true, false, not, ◌&&◌, ◌||◌, nat_eq, List, [], ◌∷◌, ◌++◌, length, Option, Some, None, slice_set, if◌then◌else◌}
use Rattle.ck_values.specs.declared.kind.Kind.{Kind}
use Rattle.ck_values.specs.declared.kind.Kind.TheVariants.{Void}
use Rattle.ck_values.specs.declared.kind.Kind.TheVariants as kind
use Rattle.ck_syntax.specs.declared.declaration.Base.{Base}
use Rattle.ck_syntax.specs.declared.declaration.DeclHead.{DeclHead}
use Rattle.ck_syntax.specs.declared.file.Param.{Param}
use Rattle.ck_syntax.specs.Tree as tree
use Rattle.ck_syntax.specs.Tree.{Name, Expr, Exprs, no_exprs, and_expr, Brackets, no_brackets, and_empty, and_size, Declrs, no_declrs, and_declr, Declr, declr, declr_with, declr_name, Stmt, Params, no_params, and_param, Fun, fun, constructor, Member, fun_member, stmt_member, Members, no_members, and_member, class, Item, class_item, fun_item, stmt_item, no_items, and_item}
use Rattle.type_rules.specs.Fitting.{same_elem, is_below}
use Rattle.type_table.specs.Answer.{Answer, gives, and_then, wrong}
use Rattle.type_table.specs.declared.class.Own.{Own}
use Rattle.type_table.specs.declared.class.Own.TheVariants as own
use Rattle.type_table.specs.declared.class.Dispatch.{Dispatch}
use Rattle.type_table.specs.declared.class.Dispatch.TheVariants as by
use Rattle.type_table.specs.declared.fault.FaultKind.TheVariants.{UnknownName, Duplicate, Mismatch, BadClass, BadPlace}
use Rattle.type_table.specs.declared.table.Variable.{Variable}
use Rattle.type_table.specs.Names.{lookup, and_first, is_some, built_in, as_class}
use Rattle.type_table.specs.declared.class.Class.{Class}
use Rattle.type_table.specs.declared.class.Head.{Head}
use Rattle.type_table.specs.declared.class.FileNames.{FileNames as File}
use Rattle.type_table.specs.Table.{Table, no_file, plain_head, named_class, file_of, class_of, and_own, parent, ancestors, overridden, class_named}
use Rattle.type_table.specs.NameClash.{is_event_call, is_member_taken}
use Rattle.type_table.specs.Types.{named_by, is_unknown, value_kind, result_kind, written_kind, may_be_static}

-- changes of one file or class of the table
abbrev pub with_file : Table → ℕ → File → Table
with_file t f changed = record t { files = slice_set t.files f changed }

abbrev pub with_class : Table → ℕ → Class → Table
with_class t c changed = record t { classes = slice_set t.classes c changed }

-- a file, with the function of its statements
abbrev pub begun : Table → Table
begun t =
    record t {
      files = t.files ++ record no_file { main = length t.funs } ∷ [];
      funs = t.funs ++ plain_head true ∷ [];
    }

-- the classes ----------------------------------------------------------------------------------

abbrev pub with_public : (is_public : Bool) → Name → ℕ → List (Name × ℕ) → List (Name × ℕ)
with_public true n c publics = and_first n c publics
with_public false n c publics = publics

-- a class more
abbrev pub with_new_class : Table → (file : ℕ) → (is_public : Bool) → Name → Table
with_new_class t f is_public n =
    record t {
      classes = t.classes ++ named_class f is_public n ∷ [];
      parents = t.parents ++ 0 ∷ [];
      publics = with_public is_public n (length t.classes) t.publics;
      files =
          slice_set t.files f
          (record (file_of t f) { classes = and_first n (length t.classes) (file_of t f).classes });
    }

-- no visible class and nothing built in may have its name
abbrev pub with_class_named : (file : ℕ) → Table → tree.Class → Answer Table
with_class_named f t (class l is_public n parent ms) =
    if is_some (class_named t f n) || is_some (built_in n) then wrong f l Duplicate
    else gives (with_new_class t f is_public n)

abbrev pub with_item_named : (file : ℕ) → Table → Item → Answer Table
with_item_named f t (class_item c) = with_class_named f t c
with_item_named f t _ = gives t

abbrev pub with_classes : (file : ℕ) → Table → tree.File → Answer Table
with_classes f t no_items = gives t
with_classes f t (and_item xs x) = and_then (with_classes f t xs) (λ u. with_item_named f u x)

-- the parents ----------------------------------------------------------------------------------

abbrev pub or_object : Option ℕ → ℕ
or_object None = 0
or_object (Some c) = c

-- the number of a class of this file
abbrev pub own_class : Table → (file : ℕ) → Name → ℕ
own_class t f n = or_object (lookup n (file_of t f).classes)

-- the class that is extended; Object where there is none
abbrev pub extended : Table → (file : ℕ) → Option Name → ℕ
extended t f None = 0
extended t f (Some n) = or_object (class_named t f n)

abbrev pub with_parent : (file : ℕ) → Table → Item → Table
with_parent f t (class_item (class l is_public n parent ms)) =
    record t { parents = slice_set t.parents (own_class t f n) (extended t f parent) }
with_parent f t _ = t

abbrev pub with_parents : (file : ℕ) → Table → tree.File → Table
with_parents f t no_items = t
with_parents f t (and_item xs x) = with_parent f (with_parents f t xs) x

-- a class has at most 128 ancestors, so it isn't one of its own
abbrev pub check_line : Table → (file at class : ℕ) → Answer Table
check_line t f l c = if is_below t.parents c 0 then gives t else wrong f l BadClass

-- of what is built in, classes alone may be extended
abbrev pub check_built_in : Table → (file at : ℕ) → Name → Answer Table
check_built_in t f l n =
    if is_some (as_class (built_in n)) then gives t
    else if is_some (built_in n) then wrong f l BadClass else wrong f l UnknownName

-- a class whose parent is `Object`, the class 0, names it, or what is no class
abbrev pub check_extended : Table → (file at class : ℕ) → Name → Answer Table
check_extended t f l c n =
    if nat_eq (parent t c) 0 then check_built_in t f l n else check_line t f l c

abbrev pub check_parent : (file : ℕ) → Table → Item → Answer Table
check_parent f t (class_item (class l is_public n (Some extends) ms)) =
    check_extended t f l (own_class t f n) extends
check_parent f t _ = gives t

abbrev pub check_parents : (file : ℕ) → Table → tree.File → Answer Table
check_parents f t no_items = gives t
check_parents f t (and_item xs x) = and_then (check_parents f t xs) (λ u. check_parent f u x)

-- the types of functions -----------------------------------------------------------------------

abbrev pub and_kind : Option (List Kind) → Option Kind → Option (List Kind)
and_kind (Some ks) (Some k) = Some (ks ++ k ∷ [])
and_kind _ _ = None

abbrev pub param_kind : Table → (file : ℕ) → Param → Option Kind
param_kind t f p = value_kind (named_by t f p.kind.base) (p.kind.brackets + p.brackets)

abbrev pub param_kinds : Table → (file : ℕ) → Params → Option (List Kind)
param_kinds t f no_params = Some []
param_kinds t f (and_param ps p) = and_kind (param_kinds t f ps) (param_kind t f p)

abbrev pub head_with : (is_static : Bool) → Option (List Kind) → (result : Option Kind) →
    Option Head
head_with s (Some ks) (Some k) = Some (record { params = ks; result = k; is_static = s })
head_with s _ _ = None

-- the types of a function, where each is one
abbrev pub head_of : Table → (file : ℕ) → Fun → Option Head
head_of t f (fun l s result n ps body) =
    head_with s (param_kinds t f ps) (result_kind (named_by t f result.base) result.brackets)
head_of t f (constructor l ps body) = head_with false (param_kinds t f ps) (Some Void)

abbrev pub names_unknown : Table → (file : ℕ) → Params → Bool
names_unknown t f no_params = false
names_unknown t f (and_param ps p) = names_unknown t f ps || is_unknown (named_by t f p.kind.base)

-- a type of the function has an unknown name
abbrev pub has_unknown : Table → (file : ℕ) → Fun → Bool
has_unknown t f (fun l s result n ps body) =
    is_unknown (named_by t f result.base) || names_unknown t f ps
has_unknown t f (constructor l ps body) = names_unknown t f ps

-- the functions of each class, so that an override can be compared with what it overrides wherever
-- that stands

abbrev pub with_head : (file class : ℕ) → Table → Member → Table
with_head f c t (fun_member (fun l s result n ps body)) =
    with_class t c
    (record (class_of t c) {
      heads = and_first n (head_of t f (fun l s result n ps body))
          (class_of t c).heads;
    })
with_head f c t (fun_member (constructor l ps body)) = t
with_head f c t (stmt_member s) = t

abbrev pub with_heads_of : (file class : ℕ) → Table → Members → Table
with_heads_of f c t no_members = t
with_heads_of f c t (and_member ms m) = with_head f c (with_heads_of f c t ms) m

abbrev pub with_item_heads : (file : ℕ) → Table → Item → Table
with_item_heads f t (class_item (class l is_public n parent ms)) =
    with_heads_of f (own_class t f n) t ms
with_item_heads f t _ = t

abbrev pub with_heads : (file : ℕ) → Table → tree.File → Table
with_heads f t no_items = t
with_heads f t (and_item xs x) = with_item_heads f (with_heads f t xs) x

-- two declarations of one name -----------------------------------------------------------------

-- a class, function or variable of the file has this name already
abbrev pub is_name_taken : Table → (file : ℕ) → Name → Bool
is_name_taken t f n =
    is_some (lookup n (file_of t f).classes) || is_some (lookup n (file_of t f).funs)
    || is_some (lookup n (file_of t f).variables)

-- a class has one member more
abbrev pub with_member : Table → (class : ℕ) → Name → Own → Table
with_member t c n o = with_class t c (and_own (class_of t c) n o)

-- functions ------------------------------------------------------------------------------------

abbrev pub same_kind : Kind → Kind → Bool
same_kind Void Void = true
same_kind (kind.One a) (kind.One b) = same_elem a b
same_kind (kind.Row a) (kind.Row b) = same_elem a b
same_kind (kind.Grid a) (kind.Grid b) = same_elem a b
same_kind _ _ = false

abbrev pub same_kinds : List Kind → List Kind → Bool
same_kinds [] [] = true
same_kinds (a ∷ more) (b ∷ others) = same_kind a b && same_kinds more others
same_kinds _ _ = false

abbrev pub same_types : Head → Head → Bool
same_types a b = same_kinds a.params b.params && same_kind a.result b.result

-- a function may stand in the place of another: their types are the same, and neither is static.
-- One whose types are no types is a fault of its own
abbrev pub may_override : Head → Option Head → Bool
may_override h (Some old) = same_types h old && not h.is_static && not old.is_static
may_override h None = true

abbrev pub new_dispatch : Class → Head → Dispatch
new_dispatch c h = if h.is_static then by.Static else by.NewSlot c.slots

abbrev pub old_dispatch : Head → Dispatch
old_dispatch h = if h.is_static then by.Static else by.Override

abbrev pub slots_with : Class → Dispatch → ℕ
slots_with c (by.NewSlot k) = c.slots + 1
slots_with c _ = c.slots

abbrev pub with_dispatch : Table → (class : ℕ) → Head → Dispatch → Table
with_dispatch t c h d =
    record t {
      funs = t.funs ++ h ∷ [];
      classes =
          slice_set t.classes c (record (class_of t c) { slots = slots_with (class_of t c) d });
    }

abbrev pub with_method : Table → (class : ℕ) → Name → Head → Dispatch → Table
with_method t c n h d = with_member (with_dispatch t c h d) c n (own.Fun (length t.funs) d)

abbrev pub enter_beside : Table → (file at class : ℕ) → Name → Head → Option (Option Head) →
    Answer Table
enter_beside t f l c n h None = gives (with_method t c n h (new_dispatch (class_of t c) h))
enter_beside t f l c n h (Some old) =
    if may_override h old then gives (with_method t c n h (old_dispatch h)) else wrong f l BadClass

abbrev pub enter_method_head : Table → (file at class : ℕ) → Name → Option Head → Answer Table
enter_method_head t f l c n None = wrong f l Mismatch
enter_method_head t f l c n (Some h) =
    if is_event_call t c n then wrong f l BadClass
    else enter_beside t f l c n h (overridden t (ancestors t c) n)

-- a class gets its constructor, which is no member by name
abbrev pub with_constructor : Table → (class : ℕ) → Head → Table
with_constructor t c h =
    record t {
      funs = t.funs ++ h ∷ [];
      classes =
          slice_set t.classes c
          (record (class_of t c) { constructor = Some (length t.funs) });
    }

abbrev pub enter_constructor_head : Table → (file at class : ℕ) → Option Head → Answer Table
enter_constructor_head t f l c None = wrong f l Mismatch
enter_constructor_head t f l c (Some h) = gives (with_constructor t c h)

abbrev pub enter_constructor : Table → (file at class : ℕ) → Option Head → Answer Table
enter_constructor t f l c h =
    if is_some (class_of t c).constructor then wrong f l Duplicate
    else enter_constructor_head t f l c h

abbrev pub enter_method : Table → (file class : ℕ) → Fun → Answer Table
enter_method t f c (fun l s result n ps body) =
    if has_unknown t f (fun l s result n ps body) then wrong f l UnknownName
    else if is_member_taken t c n true then wrong f l Duplicate
    else enter_method_head t f l c n (head_of t f (fun l s result n ps body))
enter_method t f c (constructor l ps body) =
    if has_unknown t f (constructor l ps body) then wrong f l UnknownName
    else enter_constructor t f l c (head_of t f (constructor l ps body))

abbrev pub with_fun : Table → (file : ℕ) → Name → Head → Table
with_fun t f n h =
    record t {
      funs = t.funs ++ h ∷ [];
      files =
          slice_set t.files f
          (record (file_of t f) { funs = and_first n (length t.funs) (file_of t f).funs });
    }

-- only members are static
abbrev pub enter_fun_head : Table → (file at : ℕ) → Name → Option Head → Answer Table
enter_fun_head t f l n None = wrong f l Mismatch
enter_fun_head t f l n (Some h) =
    if h.is_static then wrong f l BadPlace else gives (with_fun t f n h)

-- a constructor stands in a class
abbrev pub refuse_constructor : (file at : ℕ) → Option Head → Answer Table
refuse_constructor f l None = wrong f l Mismatch
refuse_constructor f l (Some h) = wrong f l BadPlace

abbrev pub enter_fun : Table → (file : ℕ) → Fun → Answer Table
enter_fun t f (fun l s result n ps body) =
    if has_unknown t f (fun l s result n ps body) then wrong f l UnknownName
    else if is_name_taken t f n then wrong f l Duplicate
    else enter_fun_head t f l n (head_of t f (fun l s result n ps body))
enter_fun t f (constructor l ps body) =
    if has_unknown t f (constructor l ps body) then wrong f l UnknownName
    else refuse_constructor f l (head_of t f (constructor l ps body))

-- variables and fields -------------------------------------------------------------------------

abbrev pub next_static : Table → Kind → Variable
next_static t k = record { index = length t.statics; kind = k }

abbrev pub with_variable : Table → (file : ℕ) → Name → Kind → Table
with_variable t f n k =
    record t {
      statics = t.statics ++ k ∷ [];
      files =
          slice_set t.files f
          (record (file_of t f) {
            variables = and_first n (length t.statics)
                (file_of t f).variables;
          });
    }

abbrev pub with_static : Table → (class : ℕ) → Name → Kind → Table
with_static t c n k =
    with_member (record t { statics = t.statics ++ k ∷ [] }) c n (own.Static (next_static t k))

abbrev pub with_field : Table → (class : ℕ) → Name → Kind → Table
with_field t c n k =
    with_member (with_class t c
    (record (class_of t c) { fields = (class_of t c).fields ++ k ∷ [] })) c n
    (own.Field (length (class_of t c).fields) k)

-- who declares: a class, or the file itself
abbrev pub is_taken : Table → (file : ℕ) → (class : Option ℕ) → Name → Bool
is_taken t f None n = is_name_taken t f n
is_taken t f (Some c) n = is_member_taken t c n false

abbrev pub enter_of_kind : Table → (file at : ℕ) → (class : Option ℕ) → DeclHead → Name →
    Option Kind → Answer Table
enter_of_kind t f l owner h n None = wrong f l Mismatch
enter_of_kind t f l None h n (Some k) =
    if h.is_static then wrong f l BadPlace else gives (with_variable t f n k)
enter_of_kind t f l (Some c) h n (Some k) =
    if not h.is_static then gives (with_field t c n k) else if may_be_static h k
    then gives (with_static t c n k) else wrong f l BadPlace

-- what makes an object with arguments has no `@`
abbrev pub is_misplaced : DeclHead → Declr → Option Kind → Bool
is_misplaced h (declr n bs) k = false
is_misplaced h (declr_with n es) k = h.is_reference && is_some k

abbrev pub enter_written : Table → (file at : ℕ) → (class : Option ℕ) → DeclHead → Declr →
    Option Kind → Answer Table
enter_written t f l owner h x k =
    if is_misplaced h x k then wrong f l BadPlace
    else enter_of_kind t f l owner h (declr_name x) k

-- a variable with `auto` has no type yet; that a class can't have one is found in the second walk
abbrev pub with_auto : Table → (file : ℕ) → (class : Option ℕ) → Name → Table
with_auto t f None n = with_variable t f n Void
with_auto t f (Some c) n = with_member t c n own.Auto

abbrev pub enter_based : Table → (file at : ℕ) → (class : Option ℕ) → DeclHead → Option Base →
    Declr → Answer Table
enter_based t f l owner h None x =
    if is_taken t f owner (declr_name x) then wrong f l Duplicate
    else gives (with_auto t f owner (declr_name x))
enter_based t f l owner h (Some base) x =
    if is_unknown (named_by t f base) then wrong f l UnknownName
    else if is_taken t f owner (declr_name x) then wrong f l Duplicate
    else enter_written t f l owner h x (written_kind h (named_by t f base) x)

abbrev pub enter_declared : Table → (file at : ℕ) → (class : Option ℕ) → DeclHead → Declr →
    Answer Table
enter_declared t f l owner h x = enter_based t f l owner h h.base x

-- all declarations of an expression in their order: operands first, from left to right
abbrev mutual
  pub enter_expr : (file : ℕ) → (class : Option ℕ) → Table → Expr → Answer Table
  enter_expr f o t (tree.paren l e) = enter_expr f o t e
  enter_expr f o t (tree.array l es) = enter_exprs f o t es
  enter_expr f o t (tree.call l e es) = and_then (enter_expr f o t e) (λ u. enter_exprs f o u es)
  enter_expr f o t (tree.index l e i) = and_then (enter_expr f o t e) (λ u. enter_expr f o u i)
  enter_expr f o t (tree.member l e n) = enter_expr f o t e
  enter_expr f o t (tree.postfix l e p) = enter_expr f o t e
  enter_expr f o t (tree.dur l e d) = and_then (enter_expr f o t e) (λ u. enter_expr f o u d)
  enter_expr f o t (tree.prefix l p e) = enter_expr f o t e
  enter_expr f o t (tree.new l b es) = enter_exprs f o t es
  enter_expr f o t (tree.new_with l b es) = enter_exprs f o t es
  enter_expr f o t (tree.spork l e) = enter_expr f o t e
  enter_expr f o t (tree.cast l e k) = enter_expr f o t e
  enter_expr f o t (tree.binary l a p b) = and_then (enter_expr f o t a) (λ u. enter_expr f o u b)
  enter_expr f o t (tree.choice l c a b) =
      and_then (enter_expr f o t c) (λ u. and_then (enter_expr f o u a) (λ v. enter_expr f o v b))
  enter_expr f o t (tree.declare l h x) =
      and_then (enter_behind f o t x) (λ u. enter_declared u f l o h x)
  enter_expr f o t (tree.chuck l a p b) = and_then (enter_expr f o t a) (λ u. enter_expr f o u b)
  enter_expr f o t _ = gives t

  pub enter_exprs : (file : ℕ) → (class : Option ℕ) → Table → Exprs → Answer Table
  enter_exprs f o t no_exprs = gives t
  enter_exprs f o t (and_expr es e) = and_then (enter_exprs f o t es) (λ u. enter_expr f o u e)

  -- those behind a declared name
  pub enter_behind : (file : ℕ) → (class : Option ℕ) → Table → Declr → Answer Table
  enter_behind f o t (declr n bs) = enter_brackets f o t bs
  enter_behind f o t (declr_with n es) = enter_exprs f o t es

  pub enter_brackets : (file : ℕ) → (class : Option ℕ) → Table → Brackets → Answer Table
  enter_brackets f o t no_brackets = gives t
  enter_brackets f o t (and_empty bs) = enter_brackets f o t bs
  enter_brackets f o t (and_size bs e) =
      and_then (enter_brackets f o t bs) (λ u. enter_expr f o u e)

abbrev pub enter_declrs : (file at : ℕ) → (class : Option ℕ) → DeclHead → Table → Declrs →
    Answer Table
enter_declrs f l o h t no_declrs = gives t
enter_declrs f l o h t (and_declr ds x) =
    and_then (enter_declrs f l o h t ds)
    (λ u. and_then (enter_behind f o u x) (λ v. enter_declared v f l o h x))

abbrev pub enter_option : (file : ℕ) → (class : Option ℕ) → Table → Option Expr → Answer Table
enter_option f o t None = gives t
enter_option f o t (Some e) = enter_expr f o t e

-- those of a statement that stand in no block; the bodies of `if` and of loops are blocks, and each
-- `for` is one with its head
abbrev pub enter_stmt : (file : ℕ) → (class : Option ℕ) → Table → Stmt → Answer Table
enter_stmt f o t (tree.simple l e) = enter_expr f o t e
enter_stmt f o t (tree.declares l h ds) = enter_declrs f l o h t ds
enter_stmt f o t (tree.print l es) = enter_exprs f o t es
enter_stmt f o t (tree.if_then l e s) = enter_expr f o t e
enter_stmt f o t (tree.if_else l e s r) = enter_expr f o t e
enter_stmt f o t (tree.while_do l e s) = enter_expr f o t e
enter_stmt f o t (tree.until_do l e s) = enter_expr f o t e
enter_stmt f o t (tree.do_while l s e) = enter_expr f o t e
enter_stmt f o t (tree.do_until l s e) = enter_expr f o t e
enter_stmt f o t (tree.repeat l e s) = enter_expr f o t e
enter_stmt f o t (tree.return l e) = enter_option f o t e
enter_stmt f o t _ = gives t

-- members, functions and variables in text order -----------------------------------------------

abbrev pub enter_member : (file class : ℕ) → Table → Member → Answer Table
enter_member f c t (fun_member m) = enter_method t f c m
enter_member f c t (stmt_member s) = enter_stmt f (Some c) t s

abbrev pub enter_members : (file class : ℕ) → Table → Members → Answer Table
enter_members f c t no_members = gives t
enter_members f c t (and_member ms m) =
    and_then (enter_members f c t ms) (λ u. enter_member f c u m)

-- a statement stands in these braces
abbrev pub has_statement : Members → Bool
has_statement no_members = false
has_statement (and_member ms (fun_member f)) = has_statement ms
has_statement (and_member ms (stmt_member s)) = true

-- the function of the statements in the class's braces, which comes before its functions
abbrev pub with_body : Table → (class : ℕ) → Members → Table
with_body t c members =
    if has_statement members
    then record t {
      funs = t.funs ++ plain_head false ∷ [];
      classes = slice_set t.classes c (record (class_of t c) { body = Some (length t.funs) });
    }
    else t

abbrev pub enter_item : (file : ℕ) → Table → Item → Answer Table
enter_item f t (class_item (class l is_public n parent ms)) =
    enter_members f (own_class t f n) (with_body t (own_class t f n) ms) ms
enter_item f t (fun_item g) = enter_fun t f g
enter_item f t (stmt_item s) = enter_stmt f None t s

abbrev pub enter_items : (file : ℕ) → Table → tree.File → Answer Table
enter_items f t no_items = gives t
enter_items f t (and_item xs x) = and_then (enter_items f t xs) (λ u. enter_item f u x)

-- all of one file
abbrev pub entered : Table → (file : ℕ) → tree.File → Answer Table
entered t f raw =
    and_then (with_classes f (begun t) raw)
    (λ u. and_then (check_parents f (with_parents f u raw) raw)
    (λ v. enter_items f (with_heads f v raw) raw))
