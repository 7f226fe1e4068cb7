-- What was walked is declared, then and in each later table of the walk.
use Rattle.std.proofs.Common.{◌≡◌, ℕ, ◌<◌, false, not, length, Option, Some, None, if◌then◌else◌, refl, sym, ap, ◌∙◌, subst}
use Rattle.std.specs.Option.{option_map}
use Rattle.ck_values.specs.declared.kind.Kind.{Kind}
use Rattle.ck_values.specs.declared.kind.Kind.TheVariants.{Void}
use Rattle.ck_syntax.specs.declared.declaration.Base.{Base}
use Rattle.ck_syntax.specs.declared.declaration.DeclHead.{DeclHead}
use Rattle.ck_syntax.specs.Tree as tree
use Rattle.ck_syntax.specs.Tree.{Name, Expr, Exprs, no_exprs, and_expr, Brackets, no_brackets, and_empty, and_size, Declrs, no_declrs, and_declr, Declr, declr, declr_with, declr_name, Stmt, Members, no_members, and_member, fun_member, stmt_member, no_items, and_item, class_item, fun_item, stmt_item}
use Rattle.type_table.specs.declared.class.Own.{Own}
use Rattle.type_table.specs.declared.class.Own.TheVariants as own
use Rattle.type_table.specs.declared.fault.FaultKind.TheVariants.{UnknownName, Duplicate, BadPlace}
use Rattle.type_table.specs.Answer.{Answer, gives, and_then, wrong}
use Rattle.first_walk.specs.FirstWalk.{or_object, own_class, next_static, with_variable, with_static, with_field, is_taken, is_name_taken, enter_of_kind, is_misplaced, enter_written, with_auto, enter_based, enter_declared, enter_expr, enter_exprs, enter_behind, enter_brackets, enter_declrs, enter_option, enter_stmt, enter_members, with_body, enter_item, enter_items, enter_method, enter_fun}
use Rattle.type_table.specs.NameClash.{is_member_taken}
use Rattle.type_table.specs.Names.{lookup}
use Rattle.type_table.specs.Table.{Table, file_of, class_of, as_member, ancestors, kind_or_void, static_at}
use Rattle.type_table.specs.Types.{named_by, is_unknown, written_kind, may_be_static}
use Rattle.type_table.proofs.Ranges.{many}
use Rattle.type_table.proofs.ListFacts.{get_last}
use Rattle.type_table.proofs.Declared.{HasName, IsAuto, IsDeclaredAs, IsDeclared, Declared, AllDeclared, BehindDeclared, SizesDeclared}
use Rattle.first_walk.proofs.DeclaredFiles.{ListDeclared, OptionDeclared, StmtDeclared, MembersDeclared, ItemDeclared, FileDeclared}
use Rattle.first_walk.specs.Room.{FileReady}
use Rattle.first_walk.proofs.DeclaredFrame.{Keeps, keeps_self, keeps_then, same_own_class, same_named}
use Rattle.first_walk.proofs.DeclaredSteps.{GivesSuch, gives_map, gives_then, gives_at, gives_if, keeps_body, method_keeps, fun_keeps, keeps_variable, keeps_member, found_variable, keeps_static, keeps_field, found_static, found_field, no_variable, no_member, own_found}

-- the class that declares is one of the table's
abbrev pub OwnerIn : Table → Option ℕ → Type 0
OwnerIn t None = Unit {0}
OwnerIn t (Some c) = c < many t

-- names can be entered in this file, and in this class
pub record Ready (f : ℕ) (o : Option ℕ) (t : Table) : Type 0 where
  pub file : f < length t.files
  pub owner : OwnerIn t o

-- the walk goes on in a table that keeps what the last one had, and then this holds of each later table
pub record Walked (f : ℕ) (D : Table → Type 0) (t u : Table) : Type 0 where
  pub keeps : Keeps f t u
  pub later : (w : Table) → Keeps f u w → D w

module _ (f : ℕ) where
  owner_kept : (o : Option ℕ) (t u : Table) → Keeps f t u → OwnerIn t o → OwnerIn u o
  owner_kept None t u keeps so = tt
  owner_kept (Some c) t u keeps lt = rw keeps.many_classes lt

  ready_kept : (o : Option ℕ) (t u : Table) → Keeps f t u → Ready f o t → Ready f o u
  ready_kept o t u keeps is = record { file = rw keeps.many_files is.file; owner = owner_kept o t u keeps is.owner }

  nothing : (t : Table) → Walked f (λ w. Unit {0}) t t
  nothing t = record { keeps = keeps_self f t; later = λ w k. tt }

  -- a step that declares nothing
  step : (t u : Table) → Keeps f t u → Walked f (λ w. Unit {0}) t u
  step t u keeps = record { keeps = keeps; later = λ w k. tt }

  module _ (D : Table → Type 0) (t : Table) (x : Answer Table) (next : Table → Answer Table)
      (one : GivesSuch (Walked f D t) x) where
    -- one walk after another
    both : (E : Table → Type 0) → ((u : Table) → Keeps f t u → GivesSuch (Walked f E u) (next u))
        → GivesSuch (Walked f (λ w. D w × E w) t) (and_then x next)
    both E other = gives_then (Walked f D t) All x next one goes
      where
        All : Table → Type 0
        All = Walked f (λ w. D w × E w) t

        goes : (u : Table) → Walked f D t u → GivesSuch All (next u)
        goes u so = gives_map (Walked f E u) All joined (next u) (other u so.keeps)
          where
            joined : (v : Table) → Walked f E u v → All v
            joined v more = record {
              keeps = keeps_then f t u v so.keeps more.keeps;
              later =
                  λ w k. (so.later w (keeps_then f u v w more.keeps k), more.later w k);
            }

    -- and a step after it
    and_step : ((u : Table) → GivesSuch (Keeps f u) (next u)) → GivesSuch (Walked f D t) (and_then x next)
    and_step other =
        gives_map (Walked f (λ w. D w × Unit {0}) t) (Walked f D t) front (and_then x next)
        (both (λ w. Unit {0}) (λ u k. gives_map (Keeps f u) (Walked f (λ w. Unit {0}) u) (step u) (next u) (other u)))
      where
        front : (u : Table) → Walked f (λ w. D w × Unit {0}) t u → Walked f D t u
        front u so = record { keeps = so.keeps; later = λ w k. (so.later w k).0 }

-- walks where names can be entered
module _ (f : ℕ) (o : Option ℕ) where
  two : (D E : Table → Type 0) (t : Table) (x : Answer Table) (next : Table → Answer Table) → Ready f o t
      → GivesSuch (Walked f D t) x
      → ((u : Table) → Ready f o u → GivesSuch (Walked f E u) (next u))
      → GivesSuch (Walked f (λ w. D w × E w) t) (and_then x next)
  two D E t x next is one other = both f D t x next one E (λ u k. other u (ready_kept f o t u k is))

  three : (D E F : Table → Type 0) (t : Table) (x : Answer Table) (next last : Table → Answer Table) → Ready f o t
      → GivesSuch (Walked f D t) x
      → ((u : Table) → Ready f o u → GivesSuch (Walked f E u) (next u))
      → ((u : Table) → Ready f o u → GivesSuch (Walked f F u) (last u))
      → GivesSuch (Walked f (λ w. D w × E w × F w) t) (and_then x (λ u. and_then (next u) last))
  three D E F t x next last is one other third =
      gives_map (Walked f (λ w. D w × (E w × F w)) t) (Walked f (λ w. D w × E w × F w) t) flat
      (and_then x (λ u. and_then (next u) last))
      (two D (λ w. E w × F w) t x (λ u. and_then (next u) last) is one
      (λ u ready. two E F u (next u) last ready (other u ready) third))
    where
      flat : (u : Table) → Walked f (λ w. D w × (E w × F w)) t u → Walked f (λ w. D w × E w × F w) t u
      flat u so = record { keeps = so.keeps; later = λ w k. ((so.later w k).0, (so.later w k).1.0, (so.later w k).1.1) }

-- a declaration -----------------------------------------------------------------------------------

module _ (f l : ℕ) (t : Table) (h : DeclHead) (x : Declr) where
  abbrev n : Name
  n = declr_name x

  -- a file variable is found with its type
  variable_has : (k : Kind) → Ready f None t → is_name_taken t f n ≡ false → (w : Table)
      → Keeps f (with_variable t f n k) w → HasName w f None n k
  variable_has k ready free w more = (
    static_at w at,
    ap (option_map (static_at w)) (more.variables n at (found_variable f t n k ready.file (no_variable t n f free))),
    ap kind_or_void (more.statics at k (get_last t.statics k at refl)),
  )
    where
      at : ℕ
      at = length t.statics

  -- a declaration with `auto`
  auto_walked : (o : Option ℕ) → Ready f o t → is_taken t f o n ≡ false
      → Walked f (λ w. IsAuto w f o n) t (with_auto t f o n)
  auto_walked None ready free = record { keeps = keeps_variable f t n Void; later = variable_has Void ready free }
  auto_walked (Some c) ready free = record { keeps = keeps_member f t c n own.Auto; later = λ w more. tt }

  module _ (base : Base) where
    abbrev IsIt : Option ℕ → Table → Type 0
    IsIt o w = IsDeclaredAs w f o h (Some base) x

    abbrev kind_now : Table → Option Kind
    kind_now w = written_kind h (named_by w f base) x

    module _ (k : Kind) (is : kind_now t ≡ Some k) where
      of_kind : (u w : Table) → Keeps f t u → Keeps f u w → kind_now w ≡ Some k
      of_kind u w a b = ap (λ y. written_kind h y x) (same_named f t w (keeps_then f t u w a b) base) ∙ is

      variable : Ready f None t → is_name_taken t f n ≡ false → Walked f (IsIt None) t (with_variable t f n k)
      variable ready free = record { keeps = keeps; later = later }
        where
          keeps : Keeps f t (with_variable t f n k)
          keeps = keeps_variable f t n k

          later : (w : Table) → Keeps f (with_variable t f n k) w → IsIt None w
          later w more = (k, of_kind (with_variable t f n k) w keeps more, variable_has k ready free w more)

      module _ (c : ℕ) (ready : Ready f (Some c) t) (free : is_member_taken t c n false ≡ false) where
        field : Walked f (IsIt (Some c)) t (with_field t c n k)
        field = record { keeps = keeps; later = later }
          where
            keeps : Keeps f t (with_field t c n k)
            keeps = keeps_field f t n k c

            new : Own
            new = own.Field (length (class_of t c).fields) k

            later : (w : Table) → Keeps f (with_field t c n k) w → IsIt (Some c) w
            later w more = (
              k,
              of_kind (with_field t c n k) w keeps more,
              (
                as_member w (ancestors w c) n new,
                own_found w c n new
                    (more.members c n new (found_field f t n k c ready.owner (no_member t n c free))),
                refl,
              ),
            )

        static : Walked f (IsIt (Some c)) t (with_static t c n k)
        static = record { keeps = keeps; later = later }
          where
            keeps : Keeps f t (with_static t c n k)
            keeps = keeps_static f t n k c

            new : Own
            new = own.Static (next_static t k)

            later : (w : Table) → Keeps f (with_static t c n k) w → IsIt (Some c) w
            later w more = (
              k,
              of_kind (with_static t c n k) w keeps more,
              (
                as_member w (ancestors w c) n new,
                own_found w c n new
                    (more.members c n new (found_static f t n k c ready.owner (no_member t n c free))),
                refl,
              ),
            )

    one_of_kind : (o : Option ℕ) → Ready f o t → is_taken t f o n ≡ false → (k : Option Kind) → kind_now t ≡ k
        → GivesSuch (Walked f (IsIt o) t) (enter_of_kind t f l o h n k)
    one_of_kind o ready free None is = tt
    one_of_kind None ready free (Some k) is = gives_if (Walked f (IsIt None) t) h.is_static (wrong f l BadPlace)
        (gives (with_variable t f n k)) (λ e. tt) (λ e. variable k is ready free)
    one_of_kind (Some c) ready free (Some k) is =
        gives_if (Walked f (IsIt (Some c)) t) (not h.is_static) (gives (with_field t c n k))
        (if may_be_static h k then gives (with_static t c n k) else wrong f l BadPlace)
        (λ e. field k is c ready free)
        (λ e. gives_if (Walked f (IsIt (Some c)) t) (may_be_static h k) (gives (with_static t c n k))
        (wrong f l BadPlace) (λ d. static k is c ready free) (λ d. tt))

    one_written : (o : Option ℕ) → Ready f o t → is_taken t f o n ≡ false
        → GivesSuch (Walked f (IsIt o) t) (enter_written t f l o h x (kind_now t))
    one_written o ready free =
        gives_if (Walked f (IsIt o) t) (is_misplaced h x (kind_now t)) (wrong f l BadPlace)
        (enter_of_kind t f l o h n (kind_now t)) (λ e. tt)
        (λ e. one_of_kind o ready free (kind_now t) refl)

  one_based : (b : Option Base) (o : Option ℕ) → Ready f o t
      → GivesSuch (Walked f (λ w. IsDeclaredAs w f o h b x) t) (enter_based t f l o h b x)
  one_based None o ready =
      gives_if (Walked f (λ w. IsAuto w f o n) t) (is_taken t f o n) (wrong f l Duplicate) (gives (with_auto t f o n))
      (λ d. tt) (λ free. auto_walked o ready free)
  one_based (Some b) o ready =
      gives_if (Walked f (IsIt b o) t) (is_unknown (named_by t f b)) (wrong f l UnknownName)
      (if is_taken t f o n then wrong f l Duplicate else entered) (λ e. tt)
      (λ e. gives_if (Walked f (IsIt b o) t) (is_taken t f o n) (wrong f l Duplicate) entered (λ d. tt)
      (λ free. one_written b o ready free))
    where
      entered : Answer Table
      entered = enter_written t f l o h x (kind_now b t)

  pub one_declared : (o : Option ℕ) → Ready f o t
      → GivesSuch (Walked f (λ w. IsDeclared w f o h x) t) (enter_declared t f l o h x)
  one_declared o ready = one_based h.base o ready

-- texts -------------------------------------------------------------------------------------------

module _ (f : ℕ) (o : Option ℕ) where
  mutual
    pub expr_walked : (t : Table) (e : Expr) → Ready f o t
        → GivesSuch (Walked f (λ w. Declared w f o e) t) (enter_expr f o t e)
    expr_walked t (tree.int l v) is = nothing f t
    expr_walked t (tree.float l v) is = nothing f t
    expr_walked t (tree.text l v) is = nothing f t
    expr_walked t (tree.name l n) is = nothing f t
    expr_walked t (tree.constant l c) is = nothing f t
    expr_walked t (tree.time_unit l u) is = nothing f t
    expr_walked t (tree.paren l e) is = expr_walked t e is
    expr_walked t (tree.array l es) is = exprs_walked t es is
    expr_walked t (tree.call l e es) is =
        two f o (λ w. Declared w f o e) (λ w. AllDeclared w f o es) t (enter_expr f o t e) (λ u. enter_exprs f o u es)
        is (expr_walked t e is) (λ u. exprs_walked u es)
    expr_walked t (tree.index l e i) is =
        two f o (λ w. Declared w f o e) (λ w. Declared w f o i) t (enter_expr f o t e) (λ u. enter_expr f o u i) is
        (expr_walked t e is) (λ u. expr_walked u i)
    expr_walked t (tree.member l e n) is = expr_walked t e is
    expr_walked t (tree.postfix l e p) is = expr_walked t e is
    expr_walked t (tree.dur l e d) is =
        two f o (λ w. Declared w f o e) (λ w. Declared w f o d) t (enter_expr f o t e) (λ u. enter_expr f o u d) is
        (expr_walked t e is) (λ u. expr_walked u d)
    expr_walked t (tree.prefix l p e) is = expr_walked t e is
    expr_walked t (tree.new l b es) is = exprs_walked t es is
    expr_walked t (tree.new_with l b es) is = exprs_walked t es is
    expr_walked t (tree.spork l e) is = expr_walked t e is
    expr_walked t (tree.cast l e k) is = expr_walked t e is
    expr_walked t (tree.binary l a p b) is =
        two f o (λ w. Declared w f o a) (λ w. Declared w f o b) t (enter_expr f o t a) (λ u. enter_expr f o u b) is
        (expr_walked t a is) (λ u. expr_walked u b)
    expr_walked t (tree.choice l c a b) is =
        three f o (λ w. Declared w f o c) (λ w. Declared w f o a) (λ w. Declared w f o b) t (enter_expr f o t c)
        (λ u. enter_expr f o u a) (λ u. enter_expr f o u b) is
        (expr_walked t c is) (λ u. expr_walked u a) (λ u. expr_walked u b)
    expr_walked t (tree.declare l h x) is =
        two f o (λ w. BehindDeclared w f o x) (λ w. IsDeclared w f o h x) t (enter_behind f o t x)
        (λ u. enter_declared u f l o h x) is
        (behind_walked t x is) (λ u. one_declared f l u h x o)
    expr_walked t (tree.chuck l a p b) is =
        two f o (λ w. Declared w f o a) (λ w. Declared w f o b) t (enter_expr f o t a) (λ u. enter_expr f o u b) is
        (expr_walked t a is) (λ u. expr_walked u b)

    pub exprs_walked : (t : Table) (es : Exprs) → Ready f o t
        → GivesSuch (Walked f (λ w. AllDeclared w f o es) t) (enter_exprs f o t es)
    exprs_walked t no_exprs is = nothing f t
    exprs_walked t (and_expr es e) is =
        two f o (λ w. AllDeclared w f o es) (λ w. Declared w f o e) t (enter_exprs f o t es) (λ u. enter_expr f o u e)
        is (exprs_walked t es is) (λ u. expr_walked u e)

    pub behind_walked : (t : Table) (x : Declr) → Ready f o t
        → GivesSuch (Walked f (λ w. BehindDeclared w f o x) t) (enter_behind f o t x)
    behind_walked t (declr n bs) is = brackets_walked t bs is
    behind_walked t (declr_with n es) is = exprs_walked t es is

    pub brackets_walked : (t : Table) (bs : Brackets) → Ready f o t
        → GivesSuch (Walked f (λ w. SizesDeclared w f o bs) t) (enter_brackets f o t bs)
    brackets_walked t no_brackets is = nothing f t
    brackets_walked t (and_empty bs) is = brackets_walked t bs is
    brackets_walked t (and_size bs e) is =
        two f o (λ w. SizesDeclared w f o bs) (λ w. Declared w f o e) t (enter_brackets f o t bs)
        (λ u. enter_expr f o u e) is (brackets_walked t bs is) (λ u. expr_walked u e)

  pub declrs_walked : (l : ℕ) (h : DeclHead) (t : Table) (ds : Declrs) → Ready f o t
      → GivesSuch (Walked f (λ w. ListDeclared w f o h ds) t) (enter_declrs f l o h t ds)
  declrs_walked l h t no_declrs is = nothing f t
  declrs_walked l h t (and_declr ds x) is =
      three f o (λ w. ListDeclared w f o h ds) (λ w. BehindDeclared w f o x) (λ w. IsDeclared w f o h x) t
      (enter_declrs f l o h t ds) (λ u. enter_behind f o u x)
      (λ v. enter_declared v f l o h x) is (declrs_walked l h t ds is) (λ u. behind_walked u x)
      (λ u. one_declared f l u h x o)

  option_walked : (t : Table) (e : Option Expr) → Ready f o t
      → GivesSuch (Walked f (λ w. OptionDeclared w f o e) t) (enter_option f o t e)
  option_walked t None is = nothing f t
  option_walked t (Some e) is = expr_walked t e is

  pub stmt_walked : (t : Table) (s : Stmt) → Ready f o t
      → GivesSuch (Walked f (λ w. StmtDeclared w f o s) t) (enter_stmt f o t s)
  stmt_walked t (tree.simple l e) is = expr_walked t e is
  stmt_walked t (tree.declares l h ds) is = declrs_walked l h t ds is
  stmt_walked t (tree.print l es) is = exprs_walked t es is
  stmt_walked t (tree.if_then l e s) is = expr_walked t e is
  stmt_walked t (tree.if_else l e s r) is = expr_walked t e is
  stmt_walked t (tree.while_do l e s) is = expr_walked t e is
  stmt_walked t (tree.until_do l e s) is = expr_walked t e is
  stmt_walked t (tree.do_while l s e) is = expr_walked t e is
  stmt_walked t (tree.do_until l s e) is = expr_walked t e is
  stmt_walked t (tree.repeat l e s) is = expr_walked t e is
  stmt_walked t (tree.return l e) is = option_walked t e is
  stmt_walked t _ is = nothing f t

-- what a class declares
module _ (f c : ℕ) where
  pub members_walked : (t : Table) (ms : Members) → Ready f (Some c) t
      → GivesSuch (Walked f (λ w. MembersDeclared w f c ms) t) (enter_members f c t ms)
  members_walked t no_members is = nothing f t
  members_walked t (and_member ms (fun_member g)) is =
      and_step f (λ w. MembersDeclared w f c ms) t (enter_members f c t ms) (λ u. enter_method u f c g)
      (members_walked t ms is) (λ u. method_keeps f u c g)
  members_walked t (and_member ms (stmt_member s)) is =
      two f (Some c) (λ w. MembersDeclared w f c ms) (λ w. StmtDeclared w f (Some c) s) t (enter_members f c t ms)
      (λ u. enter_stmt f (Some c) u s) is
      (members_walked t ms is) (λ u. stmt_walked f (Some c) u s)

module _ (f : ℕ) where
  own_in : (t : Table) (n : Name) → FileReady f t → own_class t f n < many t
  own_in t n is = go (lookup n (file_of t f).classes) refl
    where
      go : (o : Option ℕ) → lookup n (file_of t f).classes ≡ o → or_object o < many t
      go None at = is.object
      go (Some c) at = is.inner n c at

  pub file_ready_kept : (t u : Table) → Keeps f t u → FileReady f t → FileReady f u
  file_ready_kept t u keeps is = record {
    file = rw keeps.many_files is.file;
    object = rw keeps.many_classes is.object;
    inner = λ n c at. rw keeps.many_classes (is.inner n c (ap (lookup n) (sym keeps.classes) ∙ at));
  }

  item_walked : (t : Table) (x : tree.Item) → FileReady f t
      → GivesSuch (Walked f (λ w. ItemDeclared w f x) t) (enter_item f t x)
  item_walked t (class_item (tree.class l is_public n parent ms)) is =
      gives_map (Walked f (λ w. MembersDeclared w f c ms) braced)
      (Walked f (λ w. MembersDeclared w f (own_class w f n) ms) t) from (enter_members f c braced ms)
      (members_walked f c braced ms ready)
    where
      c : ℕ
      c = own_class t f n

      braced : Table
      braced = with_body t c ms

      keeps : Keeps f t braced
      keeps = keeps_body f t c ms

      ready : Ready f (Some c) braced
      ready = record { file = rw keeps.many_files is.file; owner = rw keeps.many_classes (own_in t n is) }

      from : (u : Table) → Walked f (λ w. MembersDeclared w f c ms) braced u
          → Walked f (λ w. MembersDeclared w f (own_class w f n) ms) t u
      from u so = record {
        keeps = all;
        later = λ w k. subst (λ d. MembersDeclared w f d ms)
            (sym (same_own_class f t w (keeps_then f t u w all k) n)) (so.later w k);
      }
        where
          all : Keeps f t u
          all = keeps_then f t braced u keeps so.keeps
  item_walked t (fun_item g) is = gives_map (Keeps f t) (Walked f (λ w. Unit {0}) t) (step f t) (enter_fun t f g)
      (fun_keeps f t g)
  item_walked t (stmt_item s) is = stmt_walked f None t s (record { file = is.file; owner = tt })

  pub items_walked : (t : Table) (xs : tree.File) → FileReady f t
      → GivesSuch (Walked f (λ w. FileDeclared w f xs) t) (enter_items f t xs)
  items_walked t no_items is = nothing f t
  items_walked t (and_item xs x) is =
      both f (λ w. FileDeclared w f xs) t (enter_items f t xs) (λ u. enter_item f u x) (items_walked t xs is)
      (λ w. ItemDeclared w f x) (λ u k. item_walked u x (file_ready_kept t u k is))

  -- an item keeps what was there
  pub item_keeps : (t u : Table) (x : tree.Item) → FileReady f t → enter_item f t x ≡ gives u → Keeps f t u
  item_keeps t u x is gave =
      gives_at (Keeps f t) (enter_item f t x) u gave
      (gives_map (Walked f (λ w. ItemDeclared w f x) t) (Keeps f t) (λ v so. so.keeps) (enter_item f t x)
      (item_walked t x is))

  -- and so do all items
  pub items_keep : (t u : Table) (xs : tree.File) → FileReady f t → enter_items f t xs ≡ gives u → Keeps f t u
  items_keep t u xs is gave =
      gives_at (Keeps f t) (enter_items f t xs) u gave
      (gives_map (Walked f (λ w. FileDeclared w f xs) t) (Keeps f t) (λ v so. so.keeps) (enter_items f t xs)
      (items_walked t xs is))
