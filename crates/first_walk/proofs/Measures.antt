-- What grows by at most one with each thing that is entered: the entries of a table, the fields and slots of who
-- declares, and not at all the function of a file's statements.
use Rattle.std.proofs.Common.{◌≡◌, ℕ, zero, suc, ◌+◌, ◌≤◌, Bool, true, false, List, [], ◌∷◌, ◌++◌, length, Option, Some, None, slice_get, slice_set, if◌then◌else◌, refl, ap, arith, length-append}
use Rattle.std.proofs.lemmas.List.{length-set}
use Rattle.ck_values.specs.declared.kind.Kind.{Kind}
use Rattle.ck_syntax.specs.Tree.{Name, Members}
use Rattle.type_table.specs.declared.class.Class.{Class}
use Rattle.type_table.specs.declared.class.Dispatch.{Dispatch}
use Rattle.type_table.specs.declared.class.Dispatch.TheVariants as by
use Rattle.type_table.specs.declared.class.FileNames.{FileNames as File}
use Rattle.type_table.specs.declared.class.Head.{Head}
use Rattle.type_table.specs.declared.class.Own.{Own}
use Rattle.type_table.specs.declared.class.Own.TheVariants as own
use Rattle.type_table.specs.Names.{and_first}
use Rattle.type_table.specs.Table.{Table, no_file, or_no_class, or_no_file, and_own, class_of, file_of, plain_head, named_class}
use Rattle.type_table.proofs.ListFacts.{get_last, push_cases, set_keeps}
use Rattle.first_walk.specs.FirstWalk.{begun, with_class, with_dispatch, with_field, with_member, with_method, with_static, next_static, with_constructor, slots_with, has_statement, with_body}
use Rattle.first_walk.specs.Room.{entries, declared, declared_by}
use Rattle.first_walk.proofs.RoomFacts.{IsMeasure}

if_up : (m : Table → ℕ) (n : ℕ) (b : Bool) (t u : Table) → m t ≤ n → m u ≤ n → m (if b then t else u) ≤ n
if_up m n true t u then_so else_so = then_so
if_up m n false t u then_so else_so = else_so

-- the table with a class's function of its statements
abbrev with_braces : Table → (class : ℕ) → Table
with_braces t c = record t {
  funs = t.funs ++ plain_head false ∷ [];
  classes = slice_set t.classes c (record (class_of t c) { body = Some (length t.funs) });
}

-- entries -----------------------------------------------------------------------------------------

pub begun_more : (t : Table) → entries (begun t) ≡ entries t + 1
begun_more t = omega (arith, length-append t.funs (plain_head true ∷ []))

method_more : (t : Table) (c : ℕ) (n : Name) (h : Head) (d : Dispatch)
    → entries (with_method t c n h d) ≡ entries t + 1
method_more t c n h d = simp (length-set, length-append) (omega arith)

field_same : (t : Table) (c : ℕ) (n : Name) (k : Kind) → entries (with_field t c n k) ≡ entries t
field_same t c n k = simp length-set

static_more : (t : Table) (c : ℕ) (n : Name) (k : Kind) → entries (with_static t c n k) ≡ entries t + 1
static_more t c n k = simp (length-set, length-append) (omega arith)

braces_more : (t : Table) (c : ℕ) → entries (with_braces t c) ≡ entries t + 1
braces_more t c = simp (length-set, length-append) (omega arith)

auto_same : (t : Table) (c : ℕ) (n : Name) → entries (with_member t c n own.Auto) ≡ entries t
auto_same t c n = simp length-set

constructor_more : (t : Table) (c : ℕ) (h : Head) → entries (with_constructor t c h) ≡ entries t + 1
constructor_more t c h = simp (length-set, length-append) (omega arith)

pub counts_entries : IsMeasure entries
counts_entries = record {
  new_class = λ t f is_public n.
      omega (arith, length-append t.classes (named_class f is_public n ∷ []), length-append t.parents (0 ∷ []));
  parents = λ t c p. omega (arith, length-set t.parents c p);
  heads = λ t c hs. omega (arith, length-set t.classes c (record (class_of t c) { heads = hs }));
  method = λ t c n h d. omega (arith, method_more t c n h d);
  function = λ t f n h. omega (arith, length-append t.funs (h ∷ []));
  variable = λ t f n k. omega (arith, length-append t.statics (k ∷ []));
  static = λ t c n k. omega (arith, static_more t c n k);
  field = λ t c n k. omega (arith, field_same t c n k);
  auto_member = λ t c n. omega (arith, auto_same t c n);
  construct = λ t c h. omega (arith, constructor_more t c h);
  body = λ t c ms.
      if_up entries (entries t + 1) (has_statement ms) (with_braces t c) t (omega (arith, braces_more t c))
      (omega arith);
}

-- fields and slots --------------------------------------------------------------------------------

abbrev own_size : Class → ℕ
own_size k = length k.fields + k.slots

-- a class that gets so much more
raised : (cs : List Class) (i j : ℕ) (k : Class) (n : ℕ) → own_size k ≤ own_size (or_no_class (slice_get cs i)) + n
    → own_size (or_no_class (slice_get (slice_set cs i k) j)) ≤ own_size (or_no_class (slice_get cs j)) + n
raised [] i j k n le = omega arith
raised (x ∷ cs) zero zero k n le = le
raised (x ∷ cs) zero (suc j) k n le = omega arith
raised (x ∷ cs) (suc i) zero k n le = omega arith
raised (x ∷ cs) (suc i) (suc j) k n le = raised cs i j k n le

slots_more : (k : Class) (d : Dispatch) → slots_with k d ≤ k.slots + 1
slots_more k by.Static = omega arith
slots_more k (by.NewSlot j) = omega arith
slots_more k by.Override = omega arith

module _ (d : ℕ) where
  -- a member's name takes no room
  member_kept : (t : Table) (c : ℕ) (n : Name) (o : Own) → declared d (with_member t c n o) ≤ declared d t
  member_kept t c n o = omega (arith, raised t.classes c d (and_own (class_of t c) n o) 0 (omega arith))

  -- a class that is new has declared nothing
  pub new_kept : (t : Table) (k : Class) → own_size k ≡ 0
      → own_size (or_no_class (slice_get (t.classes ++ k ∷ []) d)) ≤ declared d t
  new_kept t k is =
      push_cases (λ o. own_size (or_no_class o) ≤ declared d t) t.classes k d (omega arith) (omega (arith, is))

  dispatch_more : (t : Table) (c : ℕ) (h : Head) (x : Dispatch) → declared d (with_dispatch t c h x) ≤ declared d t + 1
  dispatch_more t c h x =
      raised t.classes c d (record (class_of t c) { slots = slots_with (class_of t c) x }) 1
      (omega (arith, slots_more (class_of t c) x))

  method_declares : (t : Table) (c : ℕ) (n : Name) (h : Head) (x : Dispatch)
      → declared d (with_method t c n h x) ≤ declared d t + 1
  method_declares t c n h x =
      omega (arith, member_kept (with_dispatch t c h x) c n (own.Fun (length t.funs) x), dispatch_more t c h x)

  abbrev with_kind : Table → (class : ℕ) → Kind → Table
  with_kind t c k = with_class t c (record (class_of t c) { fields = (class_of t c).fields ++ k ∷ [] })

  field_declares : (t : Table) (c : ℕ) (n : Name) (k : Kind) → declared d (with_field t c n k) ≤ declared d t + 1
  field_declares t c n k =
      omega (
        arith,
        member_kept (with_kind t c k) c n (own.Field (length (class_of t c).fields) k),
        raised t.classes c d (record (class_of t c) { fields = (class_of t c).fields ++ k ∷ [] }) 1
            (omega (arith, length-append (class_of t c).fields (k ∷ []))),
      )

  static_kept : (t : Table) (c : ℕ) (n : Name) (k : Kind) → declared d (with_static t c n k) ≤ declared d t
  static_kept t c n k =
      member_kept (record t { statics = t.statics ++ k ∷ [] }) c n (own.Static (next_static t k))

  braces_kept : (t : Table) (c : ℕ) → declared d (with_braces t c) ≤ declared d t
  braces_kept t c =
      omega (arith, raised t.classes c d (record (class_of t c) { body = Some (length t.funs) }) 0 (omega arith))

  pub body_kept : (t : Table) (c : ℕ) (ms : Members) → declared d (with_body t c ms) ≤ declared d t
  body_kept t c ms =
      if_up (declared d) (declared d t) (has_statement ms) (with_braces t c) t (braces_kept t c) (omega arith)

  constructor_kept : (t : Table) (c : ℕ) (h : Head) → declared d (with_constructor t c h) ≤ declared d t
  constructor_kept t c h =
      omega (arith, raised t.classes c d (record (class_of t c) { constructor = Some (length t.funs) }) 0 (omega arith))

pub counts_declared : (o : Option ℕ) → IsMeasure (declared_by o)
counts_declared None = record {
  new_class = λ t f is_public n. omega arith;
  parents = λ t c p. omega arith;
  heads = λ t c hs. omega arith;
  method = λ t c n h x. omega arith;
  function = λ t f n h. omega arith;
  variable = λ t f n k. omega arith;
  static = λ t c n k. omega arith;
  field = λ t c n k. omega arith;
  auto_member = λ t c n. omega arith;
  construct = λ t c h. omega arith;
  body = λ t c ms. omega arith;
}
counts_declared (Some d) = record {
  new_class = λ t f is_public n. omega (arith, new_kept d t (named_class f is_public n) refl);
  parents = λ t c p. omega arith;
  heads = λ t c hs. omega (arith, raised t.classes c d (record (class_of t c) { heads = hs }) 0 (omega arith));
  method = λ t c n h x. method_declares d t c n h x;
  function = λ t f n h. omega arith;
  variable = λ t f n k. omega arith;
  static = λ t c n k. omega (arith, static_kept d t c n k);
  field = λ t c n k. field_declares d t c n k;
  auto_member = λ t c n. omega (arith, member_kept d t c n own.Auto);
  construct = λ t c h. omega (arith, constructor_kept d t c h);
  body = λ t c ms. omega (arith, body_kept d t c ms);
}

-- the functions of files' statements --------------------------------------------------------------

abbrev pub main_of : (file : ℕ) → Table → ℕ
main_of f t = (file_of t f).main

pub begun_main : (t : Table) (f : ℕ) → f ≡ length t.files → main_of f (begun t) ≡ length t.funs
begun_main t f is =
    ap (λ o. (or_no_file o).main) (get_last t.files (record no_file { main = length t.funs }) f is)

file_kept : (fs : List File) (i j : ℕ) (x : File) → x.main ≡ (or_no_file (slice_get fs i)).main
    → (or_no_file (slice_get (slice_set fs i x) j)).main ≡ (or_no_file (slice_get fs j)).main
file_kept fs i j x same = set_keeps (λ o. (or_no_file o).main) fs i j x same

pub counts_main : (g : ℕ) → IsMeasure (main_of g)
counts_main g = record {
  new_class = λ t f is_public n.
      omega (
        arith,
        file_kept t.files f g
            (record (file_of t f) { classes = and_first n (length t.classes) (file_of t f).classes }) refl,
      );
  parents = λ t c p. omega arith;
  heads = λ t c hs. omega arith;
  method = λ t c n h x. omega arith;
  function = λ t f n h.
      omega (
        arith,
        file_kept t.files f g (record (file_of t f) { funs = and_first n (length t.funs) (file_of t f).funs }) refl,
      );
  variable = λ t f n k.
      omega (
        arith,
        file_kept t.files f g
            (record (file_of t f) { variables = and_first n (length t.statics) (file_of t f).variables }) refl,
      );
  static = λ t c n k. omega arith;
  field = λ t c n k. omega arith;
  auto_member = λ t c n. omega arith;
  construct = λ t c h. omega arith;
  body = λ t c ms.
      if_up (main_of g) (main_of g t + 1) (has_statement ms) (with_braces t c) t (omega arith) (omega arith);
}
