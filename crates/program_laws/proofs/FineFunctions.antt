-- The functions of a file are fine, each where its statements are.
use Rattle.std.proofs.Common.{◌≡◌, ℕ, zero, suc, ◌+◌, ◌<◌, ◌≤◌, Bool, true, false}
use Rattle.std.proofs.Common.{if◌then◌else◌, List, [], ◌∷◌, ◌++◌, length, All, Option, Some, None}
use Rattle.std.proofs.Common.{slice_get, refl, sym, ap, subst, ◌∙◌, append_assoc, append-nil}
use Rattle.std.proofs.Common.{le_refl, le_trans, zero-le, length-append, arith}
use Rattle.std.specs.Str.{bytes_eq}
use Rattle.ck_values.specs.declared.kind.Kind.{Kind}
use Rattle.ck_values.specs.declared.kind.Kind.TheVariants.{Void, Null, One, Row, Grid}
use Rattle.ck_syntax.specs.Tree as tree
use Rattle.ck_syntax.specs.Tree.{Params, Stmt, Stmts, Members, no_members, and_member, fun_member}
use Rattle.ck_syntax.specs.Tree.{stmt_member, no_items, and_item, class_item, fun_item, stmt_item}
use Rattle.ck_typed.specs.Tree as typed
use Rattle.ck_typed.specs.Tree.{Program}
use Rattle.type_table.specs.Answer.{gives, and_then}
use Rattle.type_table.specs.declared.class.FileNames.{FileNames}
use Rattle.type_table.specs.declared.class.Head.{Head}
use Rattle.first_walk.specs.FirstWalk.{or_object, own_class, param_kinds, has_statement}
use Rattle.type_table.specs.Names.{lookup}
use Rattle.type_table.specs.Table.{Table, or_no_file, file_of, fun_of, or_no_head}
use Rattle.type_table.specs.Types.{named_by, result_kind}
use Rattle.first_walk.proofs.DeclaredFiles.{StmtDeclared, MembersDeclared, ItemDeclared, FileDeclared}
use Rattle.type_table.proofs.Ranges.{Each, Within, ValueIn, many, ResultIn, HeadIn}
use Rattle.first_walk.proofs.TableFacts.{owner, Entry, fun_entry, member_entries, item_entries}
use Rattle.first_walk.proofs.TableFacts.{items_entries, file_entries, heads_of, IsFileOf, IsTable}
use Rattle.program_laws.specs.declared.surroundings.Surroundings.{Surroundings}
use Rattle.program_laws.specs.Programs.{fun_scope, count, with_params, fun_made, in_fun, in_no_fun}
use Rattle.program_laws.specs.Programs.{fun_with, fun_typed, Walked, and_statement, and_fun}
use Rattle.program_laws.specs.Programs.{and_member_typed, members_typed, class_funs, first_method}
use Rattle.program_laws.specs.Programs.{class_typed, and_funs, and_item_typed, items_typed}
use Rattle.program_laws.specs.Programs.{file_funs, settled_by}
use Rattle.ck_typed.specs.Standing.{given}
use Rattle.check_scope.specs.Scope.{Scope, with_block, declares_globals}
use Rattle.program_laws.specs.Statements.{Stated, AllStated, none_stated, and_stated, in_order}
use Rattle.program_laws.specs.Statements.{statement, statements}
use Rattle.ck_typed.specs.WellFormed.{IsValueKind, IsFine, AreFine, IsFineFun}
use Rattle.program_laws.proofs.FunctionScopes.{grows_same, grows_trans, each_append, each_map}
use Rattle.program_laws.proofs.FunctionScopes.{ok_both, Declares, params_declared}
use Rattle.program_laws.proofs.FunctionScopes.{fun_scope_declares, block_is, params_are}
use Rattle.program_laws.proofs.FunctionScopes.{file_scope_is, class_scope_is, fun_scope_is}
use Rattle.program_laws.proofs.Matching.{zip_length, Numbered, numbered_front, numbered_rest}
use Rattle.first_walk.proofs.KnownHeads.{head_parts}
use Rattle.program_laws.proofs.Matching.{HasHead, fun_count, MembersHaveHeads}
use Rattle.program_laws.proofs.Matching.{ItemHasHeads}
use Rattle.program_laws.proofs.Matching.{FileHasHeads, Walks, file_scope, class_scope, next_is}
use Rattle.program_laws.proofs.Matching.{members_walk, methods_numbered, items_walk, file_numbered}
use Rattle.program_laws.proofs.Matching.{items_numbered}
use Rattle.expr_laws.proofs.FineForms.{elem_there}
use Rattle.expr_laws.proofs.Oks.{ok_then, ok_map}
use Rattle.program_laws.proofs.Parallel.{this_of, Matches}
use Rattle.expr_laws.proofs.Growing.{Keeps, keeps_refl, keeps_trans}
use Rattle.expr_laws.proofs.Premises.{Ok, Has, HasSettled, IsSettled, Leads, Ends, IsClass, IsScope}
use Rattle.expr_laws.proofs.Premises.{Grows}
use Rattle.expr_laws.proofs.ScopeLaws.{within_grown, ends_before, each_within}
use Rattle.program_laws.proofs.FineStatements.{block_is_local, nothing_settles}
use Rattle.program_laws.proofs.StatedResults.{Returns, IsStated, AreStated}

-- lists -----------------------------------------------------------------------------------------

pub each_all : {A : Type 0} (P : A → Type 0) (xs : List A) → Each P xs → All P xs
each_all P [] are k d within = absurd (omega (arith, within))
each_all P (x ∷ xs) are zero d within = are.0
each_all P (x ∷ xs) are (suc k) d within = each_all P xs are.1 k d (omega (arith, within))

pub within_trans : {A : Type 0} (front middle all : List A) → Within front middle
    → Within middle all → Within front all
within_trans front middle all first second = (
  first.0 ++ second.0,
  second.1 ∙ ap (λ xs. xs ++ second.0) first.1 ∙ append_assoc front first.0 second.0,
)

pub within_same : {A : Type 0} (all : List A) → Within all all
within_same all = ([], sym (append-nil all))

pub within_length : {A : Type 0} (front all : List A) → Within front all → length front ≤ length all
within_length front all within = let same = ap length within.1 in
    omega (arith, same, length-append front within.0)

-- what the table says is in range ---------------------------------------------------------------

-- what is sought among numbers in range, or Object
pub found_in : (n : ℕ) (name : tree.Name) (known : List (tree.Name × ℕ)) → 2 ≤ n
    → Each (λ (e : tree.Name × ℕ). e.1 < n) known → or_object (lookup name known) < n
found_in n name [] two are = omega (arith, two)
found_in n name ((m, c) ∷ known) two are = go (bytes_eq name m) (found_in n name known two are.1)
  where
    go : (b : Bool) → or_object (lookup name known) < n
        → or_object (if b then Some c else lookup name known) < n
    go true rest = are.0
    go false rest = rest

module _ (t : Table) (owners : List (Option ℕ)) (is : IsTable t owners) where
  pub classes_in : (files : List FileNames) (file : ℕ) → Each (IsFileOf t owners) files
      → Each (λ (e : tree.Name × ℕ). e.1 < many t) (or_no_file (slice_get files file)).classes
  classes_in [] file are = tt
  classes_in (f ∷ files) zero are = are.0.classes
  classes_in (f ∷ files) (suc file) are = classes_in files file are.1

  pub own_class_in : (file : ℕ) (n : tree.Name) → own_class t file n < many t
  own_class_in file n =
      found_in (many t) n (file_of t file).classes is.two (classes_in t.files file is.files)

  pub heads_in : (heads : List Head) (f : ℕ) → Each (HeadIn (many t)) heads
      → HeadIn (many t) (or_no_head (slice_get heads f))
  heads_in [] f are = (tt, tt)
  heads_in (h ∷ heads) zero are = are.0
  heads_in (h ∷ heads) (suc f) are = heads_in heads f are.1

  pub head_in : (f : ℕ) → HeadIn (many t) (fun_of t f)
  head_in f = heads_in t.funs f is.heads

-- kinds -----------------------------------------------------------------------------------------

module _ (p : Program) (t : Table) (has : Has p t) where
  pub value_is : (k : Kind) → ValueIn (many t) k → IsValueKind p.classes k
  value_is (One e) within = elem_there p t has e within
  value_is (Row e) within = elem_there p t has e within
  value_is (Grid e) within = elem_there p t has e within
  value_is _ within = absurd within

  pub result_is : (k : Kind) → ResultIn (many t) k → IsValueKind p.classes (given k)
  result_is Void within = tt
  result_is Null within = absurd within
  result_is (One e) within = elem_there p t has e within
  result_is (Row e) within = elem_there p t has e within
  result_is (Grid e) within = elem_there p t has e within

-- statements ------------------------------------------------------------------------------------

pub fine_append : (p : Program) (all : List Kind) (result : Kind) (b : Bool) (xs : List typed.Stmt)
    (x : typed.Stmt)
    → AreFine p all result b (in_order xs) → IsFine p all result b x
    → AreFine p all result b (in_order (xs ++ x ∷ []))
fine_append p all result b [] x are is = (is, tt)
fine_append p all result b (y ∷ xs) x are is = (are.0, fine_append p all result b xs x are.1 is)

module _ (p : Program) (t : Table) (o : Surroundings) (s : Scope) where
  pub none_are : IsScope t s → AreStated p t o s (none_stated s)
  none_are scope =
      ((scope, grows_same s, λ all leads ends. ends), λ all result returns ends. tt)

  pub more_are : (all : AllStated) (x : Stated) → AreStated p t o s all → IsStated p t o all.scope x
      → AreStated p t o s (and_stated all x)
  more_are all x before is = (
    (
      is.0.0,
      grows_trans s all.scope x.scope before.0.1 is.0.1,
      λ locals leads ends. is.0.2 locals leads
          (before.0.2 locals (within_grown all.scope x.scope locals is.0.1 leads) ends),
    ),
    λ locals result returns ends. fine_append p locals result o.in_loop all.stmts x.stmt
        (before.1 locals result returns (ends_before p t all.scope x.scope locals is.0.1 ends))
        (is.1 locals result returns ends),
  )

-- functions -------------------------------------------------------------------------------------

module _ (p : Program) (t : Table) (has : Has p t) where
  -- a function of such statements
  pub made_is_fine : (around : Option Kind) (s : Scope) (all : AllStated) (params : ℕ)
      (result : Kind) (l : ℕ) → AreStated p t (record { result = around; in_loop = false }) s all
      → Returns (record { result = around; in_loop = false }) (given result)
      → ResultIn (many t) result → params ≤ length s.locals
      → Ends p t all.scope all.scope.locals → IsFineFun p (fun_made params result l all)
  made_is_fine around s all params result l are returns within few ends = record {
    params = le_trans few (within_length s.locals all.scope.locals are.0.1.locals);
    locals =
        each_all (IsValueKind p.classes) all.scope.locals
        (each_map (ValueIn (many t)) (IsValueKind p.classes) all.scope.locals
        (value_is p t has) ends.kinds);
    result = result_is p t has result within;
    body = are.1 all.scope.locals (given result) returns ends;
  }

  -- what was settled is so in the program, and is of a kind that a value has
  abbrev pub AreSettled : List (ℕ × Kind) → Type 0
  AreSettled settled = Each (HasSettled p t) settled

  -- all that a walk declared and settled is known
  pub known_leads : (u : Scope) → AreSettled u.settled → Leads p u u.locals
  known_leads u known =
      record {
        locals = within_same u.locals;
        settled = each_map (HasSettled p t) (IsSettled p) u.settled (λ x is. is.0) known;
      }

-- what is proved of statements
module _ (p : Program) (t : Table) (owners : List (Option ℕ)) (has : Has p t)
    (is : IsTable t owners)
    (keep : (o : Surroundings) (s : Scope) (x : Stmt)
    → Ok (λ (y : Stated). Keeps t s y.scope) (statement t o s x))
    (keep_all : (o : Surroundings) (s : Scope) (xs : Stmts)
    → Ok (λ (y : AllStated). Keeps t s y.scope) (statements t o s xs))
    (statement_is : (o : Surroundings) (s : Scope) (x : Stmt) → IsScope t s
    → (declares_globals s ≡ true → StmtDeclared t s.file s.class x)
    → Ok (IsStated p t o s) (statement t o s x))
    (statements_are : (o : Surroundings) (s : Scope) (xs : Stmts) → IsScope t s
    → declares_globals s ≡ false → Ok (AreStated p t o s) (statements t o s xs))
    (file : ℕ) where
  grow : (o : Surroundings) (s : Scope) (x : Stmt)
      → Ok (λ (y : Stated). Grows s y.scope) (statement t o s x)
  grow o s x =
      ok_map (λ (y : Stated). Keeps t s y.scope) (λ (y : Stated). Grows s y.scope) (statement t o s x)
      (λ y keeps. keeps.0) (keep o s x)

  grow_all : (o : Surroundings) (s : Scope) (xs : Stmts)
      → Ok (λ (y : AllStated). Grows s y.scope) (statements t o s xs)
  grow_all o s xs =
      ok_map (λ (y : AllStated). Keeps t s y.scope) (λ (y : AllStated). Grows s y.scope)
      (statements t o s xs) (λ y keeps. keeps.0) (keep_all o s xs)

  -- a function is fine where what was settled before is known
  abbrev FineAfter : List (ℕ × Kind) → typed.Fun → Type 0
  FineAfter settled g = AreSettled p t has settled → IsFineFun p g

  body_is_fine : (n l : ℕ) (body : Stmts) (u : Scope) → IsScope t u
      → Each (ValueIn (many t)) u.locals → Ok (FineAfter u.settled) (fun_with t n l body u)
  body_is_fine n l body u scope kinds =
      let o : Surroundings = in_fun (fun_of t n).result in
      let s : Scope = with_block u in
      ok_then (λ y. AreStated p t o s y × Keeps t s y.scope) (FineAfter u.settled)
      (statements t o s body)
      (λ all. gives (fun_made (length u.locals) (fun_of t n).result l all))
      (ok_both (AreStated p t o s) (λ (y : AllStated). Keeps t s y.scope) (statements t o s body)
      (statements_are o s body (block_is t u scope) (block_is_local u)) (keep_all o s body))
      (λ all are known.
      let settled : AreSettled p t has all.scope.settled =
      subst (AreSettled p t has) (sym (are.1.2 (nothing_settles u))) known in
      made_is_fine p t has (Some (fun_of t n).result) s all (length u.locals)
      (fun_of t n).result l are.0
      (λ k same. let kinds : k ≡ (fun_of t n).result = cc in ap given kinds)
      (head_in t owners is n).1 (le_refl (length u.locals))
      (are.0.0.2 all.scope.locals (known_leads p t has all.scope settled)
      (record { locals = are.0.0.1.locals; kinds = kinds; settled = known })))

  this_values : (o : Option ℕ) → IsClass t o → Each (ValueIn (many t)) (this_of o)
  this_values None within = tt
  this_values (Some c) within = (within, tt)

  owner_in : (class : Option ℕ) (is_static : Bool) → IsClass t class
      → IsClass t (owner class is_static)
  owner_in class true within = tt
  owner_in class false within = within

  begun_is_fine : (n l : ℕ) (ps : Params) (body : Stmts) (s : Scope) (o : Option ℕ)
      (settled : List (ℕ × Kind)) → IsScope t s → s.locals ≡ this_of o → s.settled ≡ settled
      → IsClass t o → count ps ≡ length (fun_of t n).params → Ok (FineAfter settled)
      (and_then (with_params (fun_of t n).params s l ps) (λ u. fun_with t n l body u))
  begun_is_fine n l ps body s o settled scope begins same within counted =
      let types : List Kind = (fun_of t n).params in
      ok_then (λ u. Declares s types u × IsScope t u) (FineAfter settled) (with_params types s l ps)
      (λ u. fun_with t n l body u)
      (ok_both (Declares s types) (IsScope t) (with_params types s l ps)
      (params_declared types s l ps counted) (params_are t types s l ps scope))
      (λ u right.
      ok_map (FineAfter u.settled) (FineAfter settled) (fun_with t n l body u)
      (λ g fine known. fine (subst (AreSettled p t has) (sym (right.0.settled ∙ same)) known))
      (body_is_fine n l body u right.1
      (subst (Each (ValueIn (many t)))
      (sym (right.0.locals ∙ ap (λ ks. ks ++ types) begins))
      (each_append (ValueIn (many t)) (this_of o) types (this_values o within)
      (head_in t owners is n).0))))

  pub fun_is_fine : (class : Option ℕ) (n : ℕ) (settled : List (ℕ × Kind)) (f : tree.Fun)
      → IsClass t class → HasHead t file f → fun_of t n ≡ (fun_entry t file class f).0
      → Ok (FineAfter settled) (fun_typed t file class n settled f)
  fun_is_fine class n settled (tree.fun l is_static result name ps body) within head same =
      let head_is : fun_of t n ≡ head.0 = same ∙ ap or_no_head head.1 in
      let s = fun_scope_declares file class n is_static settled in
      begun_is_fine n l ps body (fun_scope file class n is_static settled) (owner class is_static)
      settled
      (fun_scope_is t settled file class n is_static within
      (ap (λ (h : Head). h.is_static) head_is
      ∙ (head_parts is_static (param_kinds t file ps)
      (result_kind (named_by t file result.base) result.brackets) head.0 head.1).2))
      s.locals s.settled (owner_in class is_static within)
      (fun_count t file n (tree.fun l is_static result name ps body) head head_is)
  fun_is_fine class n settled (tree.constructor l ps body) within head same =
      let head_is : fun_of t n ≡ head.0 = same ∙ ap or_no_head head.1 in
      let s = fun_scope_declares file class n false settled in
      begun_is_fine n l ps body (fun_scope file class n false settled) class settled
      (fun_scope_is t settled file class n false within
      (ap (λ (h : Head). h.is_static) head_is
      ∙ (head_parts false (param_kinds t file ps) (Some Void) head.0 head.1).2))
      s.locals s.settled within
      (fun_count t file n (tree.constructor l ps body) head head_is)

  -- walks -------------------------------------------------------------------------------------

  -- a walk so far is right
  abbrev pub IsRight : (begin : Scope) → Walked → Type 0
  IsRight begin w =
      AreStated p t in_no_fun begin w.stated × Keeps t begin w.stated.scope
      × (AreSettled p t has (settled_by w) → Each (IsFineFun p) w.funs)

  pub declared_in : (begin now : Scope) (x : Stmt) → Grows begin now
      → StmtDeclared t begin.file begin.class x → StmtDeclared t now.file now.class x
  declared_in begin now x grows declared =
      subst (λ f. StmtDeclared t f now.class x) (sym grows.file)
      (subst (λ c. StmtDeclared t begin.file c x) (sym grows.class) declared)

  pub statement_right : (begin : Scope) (w : Walked) (x : Stmt)
      → StmtDeclared t begin.file begin.class x → IsRight begin w
      → Ok (IsRight begin) (and_statement t w x)
  statement_right begin w x declared right =
      let u : Scope = w.stated.scope in
      ok_then (λ y. IsStated p t in_no_fun u y × Keeps t u y.scope) (IsRight begin)
      (statement t in_no_fun u x)
      (λ y. gives (record w { stated = and_stated w.stated y }))
      (ok_both (IsStated p t in_no_fun u) (λ (y : Stated). Keeps t u y.scope)
      (statement t in_no_fun u x)
      (statement_is in_no_fun u x right.0.0.0
      (λ _. declared_in begin u x right.0.0.1 declared)) (keep in_no_fun u x))
      (λ y stated. (
        more_are p t in_no_fun begin w.stated y right.0 stated.0,
        keeps_trans begin u y.scope right.1 stated.1,
        λ known. right.2
            (each_within (HasSettled p t) u.settled y.scope.settled stated.1.0.settled known),
      ))

  pub fun_right : (begin : Scope) (es : List Entry) (w : Walked) (class : Option ℕ) (first : ℕ)
      (f : tree.Fun) → IsClass t class → HasHead t file f
      → Numbered t first (es ++ fun_entry t file class f ∷ []) → Walks begin es w → IsRight begin w
      → Ok (IsRight begin)
      (and_then (fun_typed t file class (first + length w.funs) (settled_by w) f)
      (λ g. gives (and_fun w g)))
  fun_right begin es w class first f within head numbered walks right =
      ok_then (FineAfter (settled_by w)) (IsRight begin)
      (fun_typed t file class (first + length w.funs) (settled_by w) f)
      (λ g. gives (and_fun w g))
      (fun_is_fine class (first + length w.funs) (settled_by w) f within head
      (next_is t file first es (fun_entry t file class f) w.funs numbered walks.1))
      (λ g fine. (
        right.0,
        right.1,
        λ known. each_append (IsFineFun p) w.funs (g ∷ []) (right.2 known) (fine known, tt),
      ))

  -- the members of a class
  pub members_right : (c first : ℕ) (settled : List (ℕ × Kind)) (ms : Members) → c < many t
      → MembersHaveHeads t file ms
      → Numbered t first (member_entries t file c ms) → MembersDeclared t file c ms
      → Ok (IsRight (class_scope file c settled)) (members_typed t file c first settled ms)
  members_right c first settled no_members within heads numbered declared =
      let begin : Scope = class_scope file c settled in (
        none_are p t in_no_fun begin (class_scope_is t settled file c within),
        keeps_refl begin,
        λ known. tt,
      )
  members_right c first settled (and_member ms (stmt_member x)) within heads numbered declared =
      let begin : Scope = class_scope file c settled in
      ok_then (IsRight begin) (IsRight begin) (members_typed t file c first settled ms)
      (λ w. and_statement t w x) (members_right c first settled ms within heads numbered declared.0)
      (λ w right.
      statement_right begin w x declared.1 right)
  members_right c first settled (and_member ms (fun_member f)) within heads numbered declared =
      let begin : Scope = class_scope file c settled in
      let es : List Entry = member_entries t file c ms in
      let before : Numbered t first es =
      numbered_front t first es (fun_entry t file (Some c) f ∷ []) numbered in
      ok_then (λ w. Walks begin es w × IsRight begin w) (IsRight begin)
      (members_typed t file c first settled ms)
      (λ w. and_member_typed t file c first w (fun_member f))
      (ok_both (Walks begin es) (IsRight begin) (members_typed t file c first settled ms)
      (members_walk t grow grow_all file c first settled ms heads.0 before)
      (members_right c first settled ms within heads.0 before declared)) (λ w so_far.
      fun_right begin es w (Some c) first f within heads.1 numbered so_far.0 so_far.1)

  pub class_funs_fine : (b : Bool) (l c : ℕ) (settled : List (ℕ × Kind)) (w : Walked) → c < many t
      → IsRight (class_scope file c settled) w → AreSettled p t has settled
      → Each (IsFineFun p) (class_funs b l w)
  class_funs_fine b l c settled w within right known =
      go b (subst (AreSettled p t has) (sym (right.1.2 refl)) known)
    where
      go : (b : Bool) → AreSettled p t has (settled_by w) → Each (IsFineFun p) (class_funs b l w)
      go true after = (
        made_is_fine p t has None (class_scope file c settled) w.stated 1 Void l right.0
            (λ k same. absurd (cc)) tt (le_refl 1)
            (right.0.0.2 w.stated.scope.locals (known_leads p t has w.stated.scope after)
            (record {
              locals = right.0.0.1.locals;
              kinds = (within, tt);
              settled = known;
            })),
        right.2 after,
      )
      go false after = right.2 after

  -- functions are fine where what was settled before is known
  abbrev AllFineAfter : List (ℕ × Kind) → List typed.Fun → Type 0
  AllFineAfter settled fs = AreSettled p t has settled → Each (IsFineFun p) fs

  pub class_is_fine : (first : ℕ) (settled : List (ℕ × Kind)) (x : tree.Class)
      → ItemHasHeads t file (class_item x)
      → Numbered t first (item_entries t file (class_item x)) → ItemDeclared t file (class_item x)
      → Ok (AllFineAfter settled) (class_typed t file first settled x)
  class_is_fine first settled (tree.class l is_public n parent ms) heads numbered declared =
      let c : ℕ = own_class t file n in
      let b : Bool = has_statement ms in
      let within : c < many t = own_class_in t owners is file n in
      ok_then (IsRight (class_scope file c settled)) (AllFineAfter settled)
      (members_typed t file c (first_method b first) settled ms) (λ w. gives (class_funs b l w))
      (members_right c (first_method b first) settled ms within heads
      (methods_numbered t file b c first ms numbered) declared)
      (λ w right. class_funs_fine b l c settled w within right)

  pub class_right : (begin : Scope) (es : List Entry) (w : Walked) (first : ℕ) (x : tree.Class)
      → ItemHasHeads t file (class_item x)
      → Numbered t first (es ++ item_entries t file (class_item x))
      → ItemDeclared t file (class_item x) → Walks begin es w → IsRight begin w
      → Ok (IsRight begin)
      (and_then (class_typed t file (first + length w.funs) (settled_by w) x)
      (λ fs. gives (and_funs w fs)))
  class_right begin es w first x heads numbered declared walks right =
      ok_then (AllFineAfter (settled_by w)) (IsRight begin)
      (class_typed t file (first + length w.funs) (settled_by w) x)
      (λ fs. gives (and_funs w fs))
      (class_is_fine (first + length w.funs) (settled_by w) x heads
      (rw (zip_length Matches w.funs es walks.1)
      (numbered_rest t first es (item_entries t file (class_item x)) numbered)) declared)
      (λ fs fine. (
        right.0,
        right.1,
        λ known. each_append (IsFineFun p) w.funs fs (right.2 known) (fine known),
      ))

  -- the items of a file
  pub item_right : (es : List Entry) (w : Walked) (x : tree.Item) → ItemHasHeads t file x
      → Numbered t ((file_of t file).main + 1) (es ++ item_entries t file x) → ItemDeclared t file x
      → Walks (file_scope file) es w → IsRight (file_scope file) w
      → Ok (IsRight (file_scope file)) (and_item_typed t file w x)
  item_right es w (class_item x) heads numbered declared walks right =
      class_right (file_scope file) es w
      ((file_of t file).main + 1) x heads numbered declared walks right
  item_right es w (fun_item f) heads numbered declared walks right =
      fun_right (file_scope file) es w None
      ((file_of t file).main + 1) f tt heads numbered walks right
  item_right es w (stmt_item x) heads numbered declared walks right =
      statement_right (file_scope file) w x declared right

  pub items_right : (raw : tree.File) → FileHasHeads t file raw
      → Numbered t ((file_of t file).main + 1) (items_entries t file raw) → FileDeclared t file raw
      → Ok (IsRight (file_scope file)) (items_typed t file raw)
  items_right no_items heads numbered declared = (
    none_are p t in_no_fun (file_scope file) (file_scope_is t file),
    keeps_refl (file_scope file),
    λ known. tt,
  )
  items_right (and_item xs x) heads numbered declared =
      let es : List Entry = items_entries t file xs in
      let before : Numbered t ((file_of t file).main + 1) es =
      numbered_front t ((file_of t file).main + 1) es (item_entries t file x) numbered in
      ok_then (λ w. Walks (file_scope file) es w × IsRight (file_scope file) w)
      (IsRight (file_scope file)) (items_typed t file xs) (λ w. and_item_typed t file w x)
      (ok_both (Walks (file_scope file) es) (IsRight (file_scope file)) (items_typed t file xs)
      (items_walk t grow grow_all file xs heads.0 before)
      (items_right xs heads.0 before declared.0)) (λ w so_far.
      item_right es w x heads.1 numbered declared.1 so_far.0 so_far.1)

  -- all functions of a file are fine where the program has what was settled, and that is of a kind
  -- that a value has
  pub items_are_fine : (raw : tree.File) (before : List Head) (n : ℕ) → length before ≡ n
      → t.funs ≡ before ++ heads_of (file_entries t file raw) → (file_of t file).main ≡ n
      → FileHasHeads t file raw
      → FileDeclared t file raw
      → Ok (λ w. Each (IsSettled p) (settled_by w)
      → Each (IsFineFun p) (file_funs w) × AreSettled p t has (settled_by w)) (items_typed t file raw)
  items_are_fine raw before n count are main heads declared =
      ok_map (IsRight (file_scope file))
      (λ w. Each (IsSettled p) (settled_by w)
      → Each (IsFineFun p) (file_funs w) × AreSettled p t has (settled_by w))
      (items_typed t file raw) fine
      (items_right raw heads (items_numbered t file raw
      (file_numbered t file raw before n count are main)) declared)
    where
      fine : (w : Walked) → IsRight (file_scope file) w → Each (IsSettled p) (settled_by w)
          → Each (IsFineFun p) (file_funs w) × AreSettled p t has (settled_by w)
      fine w right settled =
          let u : Scope = w.stated.scope in
          let ends : Ends p t u u.locals =
          right.0.0.2 u.locals (record { locals = within_same u.locals; settled = settled })
          (record { locals = right.0.0.1.locals; kinds = tt; settled = tt }) in (
            (
              made_is_fine p t has None (file_scope file) w.stated 0 Void 1 right.0
                  (λ k known. absurd (cc)) tt zero-le ends,
              right.2 ends.settled,
            ),
            ends.settled,
          )
