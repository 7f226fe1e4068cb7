-- A file begins: it has no names yet.
use Rattle.std.proofs.Common.{◌≡◌, ℕ, List, [], ◌∷◌, ◌++◌, length, Option, None, refl, sym, ap, subst, arith, length-append}
use Rattle.std.proofs.lemmas.Option.{slice_get_past}
use Rattle.ck_syntax.specs.Tree.{Name}
use Rattle.type_rules.specs.Fitting.{parent_or}
use Rattle.first_walk.specs.FirstWalk.{begun}
use Rattle.type_table.specs.declared.class.FileNames.{FileNames as File}
use Rattle.type_table.specs.Table.{Table, no_file, or_no_file, or_no_class, file_of}
use Rattle.type_table.proofs.Ranges.{Each, many}
use Rattle.first_walk.proofs.TableFacts.{IsFileOf, IsTable}
use Rattle.type_table.proofs.ListFacts.{get_front, get_last, each_map, each_push, within_same, within_push}
use Rattle.first_walk.proofs.Growth.{file_grows}
use Rattle.first_walk.proofs.NamedClasses.{Named, IsEmpty, IsNew, no_class_empty}

pub begun_named : (t : Table) (owners : List (Option ℕ)) (f : ℕ) → IsTable t owners → f ≡ length t.files → Named t f (owners ++ None ∷ []) (begun t)
begun_named t owners f is f_is = record {
  funs = refl;
  statics = refl;
  more = omega arith;
  old = λ c lt. refl;
  empty = λ c le. subst IsEmpty (sym (ap or_no_class (slice_get_past t.classes c le))) no_class_empty;
  many_parents = is.parents;
  old_parents = λ c lt. refl;
  new_parents = λ c le. ap parent_or (slice_get_past t.parents c (omega (arith, le, is.parents)));
  inner = is.inner;
  publics = is.publics;
  many_files = length-append t.files (fresh ∷ []);
  main = ap (λ (x : File). x.main) file_is;
  others = λ g lt. ap or_no_file (get_front t.files (fresh ∷ []) g (omega (arith, lt, f_is)));
  files = each_push (IsFileOf (begun t) (owners ++ None ∷ [])) t.files fresh
      (each_map (IsFileOf t owners) (IsFileOf (begun t) (owners ++ None ∷ []))
      (λ x so. file_grows t (begun t) owners (owners ++ None ∷ []) x (omega arith) (within_same t.statics) (within_push owners None) so) t.files is.files)
      (record { classes = tt; funs = tt; variables = tt });
  classes = subst (λ (x : File). Each (λ (e : Name × ℕ). IsNew (many t) (many t) e.1) x.classes) (sym file_is) tt;
}
  where
    fresh : File
    fresh = record no_file { main = length t.funs }

    file_is : file_of (begun t) f ≡ fresh
    file_is = ap or_no_file (get_last t.files fresh f f_is)
