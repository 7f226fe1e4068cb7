-- What is typed is well formed: file by file, and then the whole program.
use Rattle.std.proofs.Common.{◌≡◌, ℕ, ◌+◌, ◌≤◌, List, [], ◌∷◌, ◌++◌, length, map, Option, Some, None}
use Rattle.std.proofs.Common.{slice_get, refl, sym, ap, ◌∙◌, subst, arith, length-append}
use Rattle.ck_values.specs.declared.kind.Kind.{Kind}
use Rattle.ck_values.specs.declared.kind.Kind.TheVariants.{Void}
use Rattle.ck_typed.specs.Standing.{given}
use Rattle.ck_base.specs.declared.limits.TheConstants.{MAX_FILES}
use Rattle.ck_syntax.specs.Tree as tree
use Rattle.ck_typed.specs.Tree.{Fun, Program}
use Rattle.type_table.specs.Answer.{Answer, gives, refused, and_then}
use Rattle.first_walk.specs.FirstWalk.{entered}
use Rattle.type_table.specs.Table.{Table, file_of, settled_statics, with_settled}
use Rattle.type_table.proofs.Ranges.{Each, Within, ValueIn, many}
use Rattle.first_walk.proofs.TableFacts.{Entry, file_entries, heads_of, owners_of, IsTable, IsLater}
use Rattle.program_laws.specs.Programs.{Walked, Checked, none_checked, fun_made, items_typed}
use Rattle.program_laws.specs.Programs.{file_funs, with_file_funs, file_checked, files_from}
use Rattle.program_laws.specs.Programs.{program_of, checked, settled_by}
use Rattle.ck_typed.specs.WellFormed.{FoundWhere, FunLies, IsFineFun, IsMain, IsWellFormed}
use Rattle.program_laws.proofs.FileLaws.{IsEnteredFile, IsTypedFile, FileLaws}
use Rattle.program_laws.proofs.FineClasses.{values_of, classes, object, event}
use Rattle.program_laws.proofs.Found.{found_where, found_within, found_behind, all_within}
use Rattle.program_laws.proofs.Found.{front_within, within_trans, each_more, each_append, all_of}
use Rattle.program_laws.proofs.Found.{map_append, map_within, map_length, zip_append, zip_length}
use Rattle.program_laws.proofs.Known.{IsNumbered, with_statics, later_self, has}
use Rattle.program_laws.proofs.Parallel.{Matches}
use Rattle.program_laws.proofs.ProgramFiles.{FunsLie, found_lies}
use Rattle.program_laws.proofs.SettledTables.{HasKind, Settling, kinds_stay, settled_kinds, given_stays}
use Rattle.program_laws.proofs.SettledTables.{given_values, file_settling, is_behind, settled_table}
use Rattle.expr_laws.proofs.Premises.{HasSettled, IsSettled}

-- what was found goes on
pub then_gives : {A B : Type 0} (a : Answer A) (next : A → Answer B) (b : B)
    → and_then a next ≡ gives b → (x : A) × (a ≡ gives x) × (next x ≡ gives b)
then_gives (gives x) next b is = (x, refl, is)
then_gives (refused why) next b is = absurd (cc)

pub given_is : {A : Type 0} {x y : A} → gives x ≡ gives y → x ≡ y
given_is is = cc

-- tables in the order of the files
pub later_trans : (t u v : Table) → IsLater t u → IsLater u v → IsLater t v
later_trans t u v first second =
    record {
      more = omega (arith, first.more, second.more);
      parents = λ c lt. second.parents c (omega (arith, lt, first.more)) ∙ first.parents c lt;
      funs = within_trans t.funs u.funs v.funs first.funs second.funs;
      statics = λ i k is some. second.statics i k (first.statics i k is some) some;
      classes =
          λ c lt. let one = first.classes c lt in let two =
          second.classes c (omega (arith, lt, first.more)) in
          record {
            name = two.name ∙ one.name;
            members = two.members ∙ one.members;
            fields =
                two.fields ∙ one.fields;
            slots = two.slots ∙ one.slots;
            body = two.body ∙ one.body;
            constructor_same = two.constructor_same ∙ one.constructor_same;
          };
    }

-- files -------------------------------------------------------------------------------------------

-- a function takes nothing
abbrev pub TakesNothing : List Fun → ℕ → Type 0
TakesNothing funs f = FoundWhere (slice_get funs f) (λ (fn : Fun). fn.params ≡ 0)

pub more_take : (funs more : List Fun) (f : ℕ) → Within funs more → TakesNothing funs f
    → TakesNothing more f
more_take funs more f within takes = go (slice_get funs f) refl takes
  where
    go : (o : Option Fun) → slice_get funs f ≡ o → FoundWhere o (λ (fn : Fun). fn.params ≡ 0)
        → TakesNothing more f
    go None is none = absurd none
    go (Some fn) is nothing =
        found_where (λ (x : Fun). x.params ≡ 0) (slice_get more f) fn
        (found_within funs more f fn within is) nothing

-- what is right after so many files
pub record IsAfter (number : ℕ) (c : Checked) (entries : List Entry) : Type 0 where
  pub numbered : IsNumbered c entries
  pub files : length c.table.files ≡ number
  pub count : length c.mains ≡ number
  pub mains : Each (TakesNothing c.funs) c.mains
  pub funs : (d : Checked) (all : List Entry) → IsNumbered d all → Within entries all
      → IsLater c.table d.table → Each (IsFineFun (program_of d)) c.funs

module _ (laws : FileLaws) where
  pub before_files : IsAfter 0 none_checked []
  before_files =
      record {
        numbered = record { table = laws.first; heads = refl; functions = tt };
        files =
            refl;
        count = refl;
        mains = tt;
        funs = λ d all numbered within later. tt;
      }

  -- a file more
  module _ (n : ℕ) (c : Checked) (entries : List Entry) (before : IsAfter n c entries)
      (raw : tree.File) (u : Table) (w : Walked)
      (enters : entered c.table n raw ≡ gives u) (types : items_typed u n raw ≡ gives w) where
    pub is_entered : IsEnteredFile c.table (owners_of entries) n raw u
    is_entered =
        laws.enters c.table u (owners_of entries) n raw before.numbered.table before.files enters

    pub is_typed : IsTypedFile u n raw w
    is_typed =
        laws.types c.table u (owners_of entries) n raw w before.numbered.table before.files enters
        is_entered types

    pub owners_are : owners_of (entries ++ file_entries u n raw) ≡ owners_of entries
        ++ owners_of (file_entries u n raw)
    owners_are = map_append (λ (e : Entry). e.1) entries (file_entries u n raw)

    pub is_table : IsTable u (owners_of (entries ++ file_entries u n raw))
    is_table = subst (IsTable u) (sym owners_are) is_entered.table

    -- before anything is settled
    abbrev pub so_far : Checked
    so_far = record { table = u; funs = c.funs ++ file_funs w; mains = c.mains }

    pub entered_numbered : IsNumbered so_far (entries ++ file_entries u n raw)
    entered_numbered =
        record {
          table = is_table;
          heads =
              map_append (λ (e : Entry). e.0) entries (file_entries u n raw)
              ∙ ap (λ hs. hs ++ heads_of (file_entries u n raw)) before.numbered.heads
              ∙ sym is_entered.funs;
          functions =
              zip_append Matches c.funs (file_funs w) entries
              (file_entries u n raw) before.numbered.functions is_typed.functions;
        }

    pub settling : Settling u.statics (settled_by w)
    settling =
        file_settling u (owners_of (entries ++ file_entries u n raw)) is_table is_typed.settles tt

    pub behind : IsLater u (with_settled u (settled_by w))
    behind =
        is_behind u (owners_of (entries ++ file_entries u n raw)) is_table (settled_by w) settling

    -- what is settled is of kinds that values have: so it is in a program that has it
    pub settled_values : Each (λ (one : ℕ × Kind). ValueIn (many u) one.1) (settled_by w)
    settled_values =
        let statics = settled_statics u.statics (settled_by w) in
        let p : Program = with_statics so_far statics in
        let owners = owners_of (entries ++ file_entries u n raw) in
        let of_classes = laws.classes u owners is_table in
        let same =
        laws.later u u owners owners is_table is_table (all_within owners) (later_self u) in
        each_more (HasSettled p u) (λ (one : ℕ × Kind). ValueIn (many u) one.1) (settled_by w)
        (λ one is. is.1)
        (is_typed.fine p
        (has so_far (entries ++ file_entries u n raw) entered_numbered u owners is_table
        (all_within owners) (later_self u) statics
        (kinds_stay u.statics (settled_by w) settling) of_classes of_classes same)
        (each_more (HasKind statics) (IsSettled p) (settled_by w) (λ one is. is.0)
        (settled_kinds u.statics (settled_by w) settling))).1

    pub next_numbered : IsNumbered (with_file_funs c n u w) (entries ++ file_entries u n raw)
    next_numbered =
        record {
          table =
              settled_table u (owners_of (entries ++ file_entries u n raw)) is_table (settled_by w)
              settling settled_values;
          heads = entered_numbered.heads;
          functions = entered_numbered.functions;
        }

    -- the function of the file's statements comes behind those of the earlier files
    pub main_is : (file_of u n).main ≡ length c.funs
    main_is =
        is_entered.main ∙ ap length (sym before.numbered.heads)
        ∙ map_length (λ (e : Entry). e.0) entries
        ∙ sym (zip_length Matches c.funs entries before.numbered.functions)

    pub next_mains : Each (TakesNothing (c.funs ++ file_funs w))
        (c.mains ++ (file_of u n).main ∷ [])
    next_mains =
        each_append (TakesNothing (c.funs ++ file_funs w)) c.mains ((file_of u n).main ∷ [])
        (each_more (TakesNothing c.funs) (TakesNothing (c.funs ++ file_funs w)) c.mains
        (λ f. more_take c.funs (c.funs ++ file_funs w) f (front_within c.funs (file_funs w)))
        before.mains) (
          found_where (λ (x : Fun). x.params ≡ 0)
              (slice_get (c.funs ++ file_funs w) (file_of u n).main) (fun_made 0 Void 1 w.stated)
              (ap (slice_get (c.funs ++ file_funs w)) main_is
              ∙ found_behind c.funs w.funs (fun_made 0 Void 1 w.stated)) refl,
          tt,
        )

    pub next_funs : (d : Checked) (all : List Entry) → IsNumbered d all
        → Within (entries ++ file_entries u n raw) all
        → IsLater (with_settled u (settled_by w)) d.table
        → Each (IsFineFun (program_of d)) (c.funs ++ file_funs w)
    next_funs d all numbered within later =
        let owners = owners_of (entries ++ file_entries u n raw) in
        let owners_within : Within owners (owners_of all) =
        map_within (λ (e : Entry). e.1) (entries ++ file_entries u n raw) all within in
        let later_on : IsLater u d.table =
        later_trans u (with_settled u (settled_by w)) d.table behind later in
        let statics = settled_statics u.statics (settled_by w) in
        each_append (IsFineFun (program_of d)) c.funs (file_funs w)
        (before.funs d all numbered
        (within_trans entries (entries ++ file_entries u n raw) all
        (front_within entries (file_entries u n raw)) within)
        (later_trans c.table u d.table is_entered.later later_on))
        (is_typed.fine (program_of d)
        (has d all numbered u owners is_table owners_within later_on (map given d.table.statics)
        (given_stays u.statics d.table.statics later_on.statics)
        (laws.classes d.table (owners_of all) numbered.table) (laws.classes u owners is_table)
        (laws.later u d.table owners (owners_of all) is_table numbered.table owners_within later_on))
        (each_more (HasKind statics) (IsSettled (program_of d)) (settled_by w)
        (λ one is. given_stays statics d.table.statics later.statics one.0 one.1 is.0 is.1)
        (settled_kinds u.statics (settled_by w) settling))).0

    pub after_file : IsAfter (n + 1) (with_file_funs c n u w) (entries ++ file_entries u n raw)
    after_file =
        record {
          numbered = next_numbered;
          files = is_entered.files ∙ ap (λ k. k + 1) before.files;
          count = length-append c.mains ((file_of u n).main ∷ []) ∙ ap (λ k. k + 1) before.count;
          mains = next_mains;
          funs = next_funs;
        }

  -- all files
  pub after_files : (files : List tree.File) (n : ℕ) (c : Checked) (entries : List Entry)
      → IsAfter n c entries → (d : Checked) → files_from c n files ≡ gives d
      → (all : List Entry) × IsAfter (n + length files) d all
  after_files [] n c entries before d is = (
    entries,
    subst (λ k. IsAfter k d entries) (omega arith)
        (subst (λ x. IsAfter n x entries) (given_is is) before),
  )
  after_files (raw ∷ rest) n c entries before d is =
      let file = then_gives (file_checked c n raw) (λ x. files_from x (n + 1) rest) d is in
      let table =
      then_gives (entered c.table n raw)
      (λ t. and_then (items_typed t n raw) (λ w. gives (with_file_funs c n t w))) file.0
      file.1 in
      let walked =
      then_gives (items_typed table.0 n raw)
      (λ w. gives (with_file_funs c n table.0 w)) file.0 table.2 in
      let after = after_file n c entries before raw table.0 walked.0 table.1 walked.1 in
      let last =
      after_files rest (n + 1) (with_file_funs c n table.0 walked.0)
      (entries ++ file_entries table.0 n raw) after d
      (subst (λ x. files_from x (n + 1) rest ≡ gives d) (sym (given_is walked.2)) file.2) in
      (last.0, subst (λ k. IsAfter k d last.0) (omega arith) last.1)

  -- programs
  -- ----------------------------------------------------------------------------------------

  pub program_fine : (n : ℕ) (c : Checked) (entries : List Entry) → IsAfter n c entries
      → n ≤ MAX_FILES → FunsLie n c.funs → IsWellFormed (program_of c)
  program_fine n c entries after few lie =
      let of_classes = laws.classes c.table (owners_of entries) after.numbered.table in
      let same =
      laws.later c.table c.table (owners_of entries)
      (owners_of entries) after.numbered.table after.numbered.table
      (all_within (owners_of entries)) (later_self c.table) in
      record {
        files = refl;
        enough = subst (λ k. k ≤ MAX_FILES) (sym after.count) few;
        mains = all_of (IsMain (program_of c)) c.mains after.mains;
        funs =
            all_of (IsFineFun (program_of c)) c.funs
            (after.funs c entries after.numbered (all_within entries) (later_self c.table));
        places =
            all_of (FunLies (length c.mains)) c.funs
            (subst (λ k. FunsLie k c.funs) (sym after.count) lie);
        statics =
            values_of c entries after.numbered of_classes same (map given c.table.statics)
            (given_values (many c.table) c.table.statics after.numbered.table.statics);
        classes = classes c entries after.numbered of_classes same;
        object = object c entries after.numbered of_classes same;
        event = event c entries after.numbered of_classes same;
      }

  -- what is typed is well formed
  pub typing_is_well_formed : (files : List tree.File) (p : Program) → length files ≤ MAX_FILES
      → checked files ≡ gives p → IsWellFormed p
  typing_is_well_formed files p few is =
      let all = then_gives (files_from none_checked 0 files) (λ c. gives (program_of c)) p is in
      let after = after_files files 0 none_checked [] before_files all.0 all.1 in
      let same : length files ≡ 0 + length files = omega arith in
      subst IsWellFormed (given_is all.2)
      (program_fine (0 + length files) all.0 after.0 after.1 (omega (arith, few))
      (subst (λ k. FunsLie k all.0.funs) same (found_lies files all.0 all.1)))
