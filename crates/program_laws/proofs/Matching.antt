-- The functions of a file are typed in the order of its text, each under its number, and each gets
-- the types that its text writes.
use Rattle.std.proofs.Common.{◌≡◌, ℕ, suc, ◌+◌, Bool, true, false, List, [], ◌∷◌, ◌++◌, length}
use Rattle.std.proofs.Common.{Option, Some, None, slice_get, refl, sym, ap, ◌∙◌, append_assoc}
use Rattle.std.proofs.Common.{append-nil, length-append}
use Rattle.std.proofs.lemmas.List.{map-append, length-map}
use Rattle.ck_values.specs.declared.kind.Kind.{Kind}
use Rattle.ck_values.specs.declared.kind.Kind.TheVariants.{Void}
use Rattle.ck_syntax.specs.Tree as tree
use Rattle.ck_syntax.specs.Tree.{Params, no_params, and_param, Stmt, Stmts, Members, no_members}
use Rattle.ck_syntax.specs.Tree.{and_member, fun_member, stmt_member, no_items, and_item}
use Rattle.ck_syntax.specs.Tree.{class_item, fun_item, stmt_item}
use Rattle.ck_typed.specs.Tree as typed
use Rattle.type_table.specs.Answer.{gives, and_then}
use Rattle.first_walk.specs.FirstWalk.{own_class, param_kinds, head_of, has_statement}
use Rattle.first_walk.proofs.KnownHeads.{head_parts}
use Rattle.type_table.specs.declared.class.Head.{Head}
use Rattle.type_table.specs.Table.{Table, file_of, fun_of, or_no_head, plain_head}
use Rattle.type_table.specs.Types.{named_by, result_kind}
use Rattle.first_walk.proofs.TableFacts.{owner, Entry, fun_entry, member_entries, body_entries}
use Rattle.first_walk.proofs.TableFacts.{item_entries, items_entries, file_entries, heads_of}
use Rattle.program_laws.specs.declared.surroundings.Surroundings.{Surroundings}
use Rattle.check_scope.specs.Scope.{Scope, new_scope, with_block}
use Rattle.program_laws.specs.Statements.{Stated, AllStated, and_stated, statement, statements}
use Rattle.program_laws.specs.Programs.{with_this, fun_scope, count, with_params, fun_made, in_fun}
use Rattle.program_laws.specs.Programs.{in_no_fun, fun_with, fun_typed, Walked, and_statement}
use Rattle.program_laws.specs.Programs.{settled_by, and_fun, and_member_typed, members_typed, class_funs}
use Rattle.program_laws.specs.Programs.{first_method, class_typed, and_funs, and_item_typed}
use Rattle.program_laws.specs.Programs.{items_typed, file_funs}
use Rattle.ck_typed.specs.Standing.{given}
use Rattle.program_laws.proofs.FunctionScopes.{grows_same, grows_trans, front_of, Declares}
use Rattle.program_laws.proofs.FunctionScopes.{count_is, params_declared, fun_scope_declares}
use Rattle.expr_laws.proofs.Oks.{ok_then, ok_map}
use Rattle.program_laws.proofs.Parallel.{Zip, this_of, Matches}
use Rattle.expr_laws.proofs.Premises.{Ok, Grows}

-- lists -----------------------------------------------------------------------------------------

pub zip_append : {A B : Type 0} (P : A → B → Type 0) (xs more : List A) (ys others : List B)
    → Zip P xs ys → Zip P more others → Zip P (xs ++ more) (ys ++ others)
zip_append P [] more [] others are rest = rest
zip_append P [] more (y ∷ ys) others are rest = absurd are
zip_append P (x ∷ xs) more [] others are rest = absurd are
zip_append P (x ∷ xs) more (y ∷ ys) others are rest =
    (are.0, zip_append P xs more ys others are.1 rest)

pub zip_length : {A B : Type 0} (P : A → B → Type 0) (xs : List A) (ys : List B) → Zip P xs ys
    → length xs ≡ length ys
zip_length P [] [] are = refl
zip_length P [] (y ∷ ys) are = absurd are
zip_length P (x ∷ xs) [] are = absurd are
zip_length P (x ∷ xs) (y ∷ ys) are = ap suc (zip_length P xs ys are.1)

pub behind : {A : Type 0} (before : List A) (x : A) (rest : List A)
    → slice_get (before ++ x ∷ rest) (length before) ≡ Some x
behind [] x rest = refl
behind (y ∷ before) x rest = behind before x rest

-- numbers of functions ----------------------------------------------------------------------------

-- the table has these functions one by one, the first of them under this number
pub record Numbered (t : Table) (first : ℕ) (entries : List Entry) : Type 0 where
  pub before : List Head
  pub after : List Head
  pub count : length before ≡ first
  pub are : t.funs ≡ before ++ (heads_of entries ++ after)

pub heads_apart : (a b : List Entry) (after : List Head)
    → heads_of (a ++ b) ++ after ≡ heads_of a ++ (heads_of b ++ after)
heads_apart a b after =
    ap (λ hs. hs ++ after) (map-append (λ (e : Entry). e.0) a b)
    ∙ append_assoc (heads_of a) (heads_of b) after

module _ (t : Table) where
  pub numbered_front : (first : ℕ) (a b : List Entry) → Numbered t first (a ++ b)
      → Numbered t first a
  numbered_front first a b is =
      record {
        before = is.before;
        after = heads_of b ++ is.after;
        count = is.count;
        are =
            is.are ∙ ap (λ hs. is.before ++ hs) (heads_apart a b is.after);
      }

  pub numbered_rest : (first : ℕ) (a b : List Entry) → Numbered t first (a ++ b)
      → Numbered t (first + length a) b
  numbered_rest first a b is = record {
    before = is.before ++ heads_of a;
    after = is.after;
    count =
        length-append is.before (heads_of a)
        ∙ ap (λ n. length is.before + n) (length-map a (λ (e : Entry). e.0))
        ∙ ap (λ n. n + length a) is.count;
    are =
        is.are ∙ ap (λ hs. is.before ++ hs) (heads_apart a b is.after)
        ∙ sym (append_assoc is.before (heads_of a) (heads_of b ++ is.after));
  }

  pub numbered_here : (first : ℕ) (e : Entry) (rest : List Entry) → Numbered t first (e ∷ rest)
      → fun_of t first ≡ e.0
  numbered_here first e rest is =
      ap (λ n. or_no_head (slice_get t.funs n)) (sym is.count)
      ∙ ap (λ hs. or_no_head (slice_get hs (length is.before))) is.are
      ∙ ap or_no_head (behind is.before e.0 (heads_of rest ++ is.after))

-- functions ---------------------------------------------------------------------------------------

-- the types of a function are right
abbrev pub HasHead : Table → (file : ℕ) → tree.Fun → Type 0
HasHead t file f = (h : Head) × (head_of t file f ≡ Some h)

-- a function has as many types of parameters as its text
abbrev pub params_in : tree.Fun → Params
params_in (tree.fun l is_static result name ps body) = ps
params_in (tree.constructor l ps body) = ps

pub fun_count : (t : Table) (file n : ℕ) (f : tree.Fun) (has : HasHead t file f)
    → fun_of t n ≡ has.0 → count (params_in f) ≡ length (fun_of t n).params
fun_count t file n (tree.fun l is_static result name ps body) has is =
    count_is t file ps has.0.params (head_parts is_static (param_kinds t file ps)
    (result_kind (named_by t file result.base) result.brackets) has.0 has.1).0
    ∙ sym (ap (λ (h : Head). length h.params) is)
fun_count t file n (tree.constructor l ps body) has is =
    count_is t file ps has.0.params
    (head_parts false (param_kinds t file ps) (Some Void) has.0 has.1).0
    ∙ sym (ap (λ (h : Head). length h.params) is)

-- each function of a class or of a file has its types
abbrev pub MembersHaveHeads : Table → (file : ℕ) → Members → Type 0
MembersHaveHeads t file no_members = Unit {0}
MembersHaveHeads t file (and_member ms (stmt_member s)) = MembersHaveHeads t file ms
MembersHaveHeads t file (and_member ms (fun_member f)) =
    MembersHaveHeads t file ms × HasHead t file f

abbrev pub ItemHasHeads : Table → (file : ℕ) → tree.Item → Type 0
ItemHasHeads t file (class_item (tree.class l is_public n parent ms)) = MembersHaveHeads t file ms
ItemHasHeads t file (fun_item f) = HasHead t file f
ItemHasHeads t file (stmt_item s) = Unit {0}

abbrev pub FileHasHeads : Table → (file : ℕ) → tree.File → Type 0
FileHasHeads t file no_items = Unit {0}
FileHasHeads t file (and_item xs x) = FileHasHeads t file xs × ItemHasHeads t file x

-- the functions of a walk so far have the types of these, and its scope has only grown
abbrev pub Walks : (begin : Scope) → List Entry → Walked → Type 0
Walks begin es w = Grows begin w.stated.scope × Zip Matches w.funs es

-- what the statements of a file, and of a class, begin with
abbrev pub file_scope : (file : ℕ) → Scope
file_scope file = new_scope file None None []

abbrev pub class_scope : (file class : ℕ) → (settled : List (ℕ × Kind)) → Scope
class_scope file c settled = with_this (new_scope file (Some c) None settled) c

-- the numbers of functions in a walk
module _ (t : Table) (file : ℕ) where
  -- the number of the next function is behind those of the functions so far
  pub next_is : (first : ℕ) (es : List Entry) (e : Entry) (fs : List typed.Fun)
      → Numbered t first (es ++ e ∷ []) → Zip Matches fs es → fun_of t (first + length fs) ≡ e.0
  next_is first es e fs numbered are =
      ap (λ n. fun_of t (first + n)) (zip_length Matches fs es are)
      ∙ numbered_here t (first + length es) e [] (numbered_rest t first es (e ∷ []) numbered)

  -- the methods come behind the function of the statements
  pub methods_numbered : (b : Bool) (c first : ℕ) (ms : Members)
      → Numbered t first (body_entries b c ++ member_entries t file c ms)
      → Numbered t (first_method b first) (member_entries t file c ms)
  methods_numbered true c first ms numbered =
      numbered_rest t first (body_entries true c) (member_entries t file c ms) numbered
  methods_numbered false c first ms numbered = numbered

  -- where the functions of a file come behind those before it, and the first is the function of its
  -- statements
  pub file_numbered : (raw : tree.File) (before : List Head) (n : ℕ) → length before ≡ n
      → t.funs ≡ before ++ heads_of (file_entries t file raw) → (file_of t file).main ≡ n
      → Numbered t (file_of t file).main (file_entries t file raw)
  file_numbered raw before n count are main =
      record {
        before = before;
        after = [];
        count = count ∙ sym main;
        are =
            are ∙ ap (λ hs. before ++ hs) (sym (append-nil (heads_of (file_entries t file raw))));
      }

  pub items_numbered : (raw : tree.File)
      → Numbered t (file_of t file).main (file_entries t file raw)
      → Numbered t ((file_of t file).main + 1) (items_entries t file raw)
  items_numbered raw numbered =
      numbered_rest t (file_of t file).main ((plain_head true, None) ∷ [])
      (items_entries t file raw) numbered

module _ (t : Table)
    (grow : (o : Surroundings) (s : Scope) (x : Stmt)
    → Ok (λ (y : Stated). Grows s y.scope) (statement t o s x))
    (grow_all : (o : Surroundings) (s : Scope) (xs : Stmts)
    → Ok (λ (y : AllStated). Grows s y.scope) (statements t o s xs))
    (file : ℕ) where
  -- a function of this head, whose scope begins with the object alone where it takes one
  made_matches : (n l : ℕ) (ps : Params) (body : Stmts) (s : Scope) (o : Option ℕ) (h : Head)
      → s.locals ≡ this_of o → count ps ≡ length (fun_of t n).params → fun_of t n ≡ h
      → Ok (λ g. Matches g (h, o))
      (and_then (with_params (fun_of t n).params s l ps) (λ u. fun_with t n l body u))
  made_matches n l ps body s o h begins counted is =
      ok_then (Declares s (fun_of t n).params) (λ g. Matches g (h, o))
      (with_params (fun_of t n).params s l ps) (λ u. fun_with t n l body u)
      (params_declared (fun_of t n).params s l ps counted) (λ u declares.
      ok_then (λ (y : AllStated). Grows (with_block u) y.scope) (λ g. Matches g (h, o))
      (statements t (in_fun (fun_of t n).result) (with_block u) body)
      (λ all. gives (fun_made (length u.locals) (fun_of t n).result l all))
      (grow_all (in_fun (fun_of t n).result) (with_block u) body) (λ all grows. (
        front_of u.locals all.scope.locals grows.locals ∙ declares.locals
            ∙ ap (λ ks. ks ++ (fun_of t n).params) begins
            ∙ ap (λ (g : Head). this_of o ++ g.params) is,
        ap (λ (g : Head). given g.result) is,
      )))

  pub fun_matches : (class : Option ℕ) (n : ℕ) (settled : List (ℕ × Kind)) (f : tree.Fun)
      → HasHead t file f → fun_of t n ≡ (fun_entry t file class f).0
      → Ok (λ g. Matches g (fun_entry t file class f)) (fun_typed t file class n settled f)
  fun_matches class n settled (tree.fun l is_static result name ps body) has is =
      made_matches n l ps body (fun_scope file class n is_static settled) (owner class is_static)
      (or_no_head (head_of t file (tree.fun l is_static result name ps body)))
      (fun_scope_declares file class n is_static settled).locals
      (fun_count t file n (tree.fun l is_static result name ps body) has
      (is ∙ ap or_no_head has.1)) is
  fun_matches class n settled (tree.constructor l ps body) has is =
      made_matches n l ps body (fun_scope file class n false settled) class
      (or_no_head (head_of t file (tree.constructor l ps body)))
      (fun_scope_declares file class n false settled).locals
      (fun_count t file n (tree.constructor l ps body) has (is ∙ ap or_no_head has.1)) is

  -- walks -------------------------------------------------------------------------------------

  pub statement_walks : (begin : Scope) (es : List Entry) (w : Walked) (x : Stmt) → Walks begin es w
      → Ok (Walks begin es) (and_statement t w x)
  statement_walks begin es w x walks =
      ok_then (λ (y : Stated). Grows w.stated.scope y.scope) (Walks begin es)
      (statement t in_no_fun w.stated.scope x)
      (λ y. gives (record w { stated = and_stated w.stated y }))
      (grow in_no_fun w.stated.scope x)
      (λ y grows. (grows_trans begin w.stated.scope y.scope walks.0 grows, walks.1))

  pub fun_walks : (begin : Scope) (es : List Entry) (w : Walked) (class : Option ℕ) (first : ℕ)
      (f : tree.Fun) → HasHead t file f → Numbered t first (es ++ fun_entry t file class f ∷ [])
      → Walks begin es w
      → Ok (Walks begin (es ++ fun_entry t file class f ∷ []))
      (and_then (fun_typed t file class (first + length w.funs) (settled_by w) f) (λ g. gives (and_fun w g)))
  fun_walks begin es w class first f has numbered walks =
      ok_then (λ g. Matches g (fun_entry t file class f))
      (Walks begin (es ++ fun_entry t file class f ∷ []))
      (fun_typed t file class (first + length w.funs) (settled_by w) f) (λ g. gives (and_fun w g))
      (fun_matches class (first + length w.funs) (settled_by w) f has
      (next_is t file first es (fun_entry t file class f) w.funs numbered walks.1))
      (λ g matches. (
        walks.0,
        zip_append Matches w.funs (g ∷ []) es (fun_entry t file class f ∷ []) walks.1
            (matches, tt),
      ))

  pub members_walk : (c first : ℕ) (settled : List (ℕ × Kind)) (ms : Members) → MembersHaveHeads t file ms
      → Numbered t first (member_entries t file c ms)
      → Ok (Walks (class_scope file c settled) (member_entries t file c ms))
      (members_typed t file c first settled ms)
  members_walk c first settled no_members has numbered = (grows_same (class_scope file c settled), tt)
  members_walk c first settled (and_member ms (stmt_member x)) has numbered =
      ok_then (Walks (class_scope file c settled) (member_entries t file c ms))
      (Walks (class_scope file c settled) (member_entries t file c ms))
      (members_typed t file c first settled ms) (λ w. and_statement t w x)
      (members_walk c first settled ms has numbered)
      (λ w walks. statement_walks (class_scope file c settled) (member_entries t file c ms) w x walks)
  members_walk c first settled (and_member ms (fun_member f)) has numbered =
      ok_then (Walks (class_scope file c settled) (member_entries t file c ms))
      (Walks (class_scope file c settled)
      (member_entries t file c ms ++ fun_entry t file (Some c) f ∷ []))
      (members_typed t file c first settled ms) (λ w. and_member_typed t file c first w (fun_member f))
      (members_walk c first settled ms has.0
      (numbered_front t first (member_entries t file c ms)
      (fun_entry t file (Some c) f ∷ []) numbered))
      (λ w walks. fun_walks (class_scope file c settled) (member_entries t file c ms) w
      (Some c) first f has.1 numbered walks)

  pub funs_match : (b : Bool) (l c : ℕ) (settled : List (ℕ × Kind)) (es : List Entry) (w : Walked)
      → Walks (class_scope file c settled) es w → Zip Matches (class_funs b l w) (body_entries b c ++ es)
  funs_match true l c settled es w walks =
      ((front_of (this_of (Some c)) w.stated.scope.locals walks.0.locals, refl), walks.1)
  funs_match false l c settled es w walks = walks.1

  pub class_matches : (first : ℕ) (settled : List (ℕ × Kind)) (x : tree.Class) → ItemHasHeads t file (class_item x)
      → Numbered t first (item_entries t file (class_item x))
      → Ok (λ fs. Zip Matches fs (item_entries t file (class_item x))) (class_typed t file first settled x)
  class_matches first settled (tree.class l is_public n parent ms) has numbered =
      let c : ℕ = own_class t file n in
      let b : Bool = has_statement ms in
      ok_then (Walks (class_scope file c settled) (member_entries t file c ms))
      (λ fs. Zip Matches fs (body_entries b c ++ member_entries t file c ms))
      (members_typed t file c (first_method b first) settled ms) (λ w. gives (class_funs b l w))
      (members_walk c (first_method b first) settled ms has (methods_numbered t file b c first ms numbered))
      (λ w walks. funs_match b l c settled (member_entries t file c ms) w walks)

  pub class_walks : (begin : Scope) (es : List Entry) (w : Walked) (first : ℕ) (x : tree.Class)
      → ItemHasHeads t file (class_item x)
      → Numbered t first (es ++ item_entries t file (class_item x))
      → Walks begin es w
      → Ok (Walks begin (es ++ item_entries t file (class_item x)))
      (and_then (class_typed t file (first + length w.funs) (settled_by w) x) (λ fs. gives (and_funs w fs)))
  class_walks begin es w first x has numbered walks =
      let more : List Entry = item_entries t file (class_item x) in
      ok_then (λ fs. Zip Matches fs more) (Walks begin (es ++ more))
      (class_typed t file (first + length w.funs) (settled_by w) x) (λ fs. gives (and_funs w fs))
      (class_matches (first + length w.funs) (settled_by w) x has
      (rw (zip_length Matches w.funs es walks.1) (numbered_rest t first es more numbered)))
      (λ fs are. (walks.0, zip_append Matches w.funs fs es more walks.1 are))

  pub item_walks : (es : List Entry) (w : Walked) (x : tree.Item) → ItemHasHeads t file x
      → Numbered t ((file_of t file).main + 1) (es ++ item_entries t file x)
      → Walks (file_scope file) es w
      → Ok (Walks (file_scope file) (es ++ item_entries t file x)) (and_item_typed t file w x)
  item_walks es w (class_item x) has numbered walks =
      class_walks (file_scope file) es w ((file_of t file).main + 1) x has numbered walks
  item_walks es w (fun_item f) has numbered walks =
      fun_walks (file_scope file) es w None ((file_of t file).main + 1) f has numbered walks
  item_walks es w (stmt_item x) has numbered walks =
      rw append-nil (statement_walks (file_scope file) es w x walks)

  -- what was walked of a file
  pub items_walk : (raw : tree.File) → FileHasHeads t file raw
      → Numbered t ((file_of t file).main + 1) (items_entries t file raw)
      → Ok (Walks (file_scope file) (items_entries t file raw)) (items_typed t file raw)
  items_walk no_items has numbered = (grows_same (file_scope file), tt)
  items_walk (and_item xs x) has numbered =
      ok_then (Walks (file_scope file) (items_entries t file xs))
      (Walks (file_scope file) (items_entries t file xs ++ item_entries t file x))
      (items_typed t file xs) (λ w. and_item_typed t file w x)
      (items_walk xs has.0 (numbered_front t ((file_of t file).main + 1) (items_entries t file xs)
      (item_entries t file x) numbered))
      (λ w walks. item_walks (items_entries t file xs) w x has.1 numbered walks)

  -- the functions of a file -------------------------------------------------------------------

  -- function by function, what is typed has the types of the text
  pub items_match : (raw : tree.File) (before : List Head) (n : ℕ) → length before ≡ n
      → t.funs ≡ before ++ heads_of (file_entries t file raw) → (file_of t file).main ≡ n
      → FileHasHeads t file raw
      → Ok (λ w. Zip Matches (file_funs w) (file_entries t file raw)) (items_typed t file raw)
  items_match raw before n count are main has =
      ok_map (Walks (file_scope file) (items_entries t file raw))
      (λ w. Zip Matches (file_funs w) (file_entries t file raw)) (items_typed t file raw)
      (λ w walks. ((refl, refl), walks.1))
      (items_walk raw has (items_numbered t file raw
      (file_numbered t file raw before n count are main)))
