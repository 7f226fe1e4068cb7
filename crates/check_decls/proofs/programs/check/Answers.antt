use Rattle.std.proofs.Common.{◌≡◌, ◌<◌, List, length, map, sym, ap, ◌∙◌, subst, arith}
use Rattle.std.proofs.lemmas.List.{length-map}
use Rattle.std.proofs.lemmas.Result.{err_from_is_err_and}
use Rattle.ck_syntax.specs.Tree.{File}
use Rattle.ck_syntax.specs.View.{view_file}
use Rattle.ck_typed.specs.View.{view_program}
use Rattle.type_table.specs.Answer.{Fault, gives, refused, and_then}
use Rattle.check_decls.specs.ProgramView.{view_checked}
use Rattle.program_laws.specs.Programs.{Checked, none_checked, files_from, program_of, checked}
use Rattle.program_laws.proofs.EnteredFiles.{well_formed}
use Rattle.program_laws.proofs.ProgramFiles.{fault_placed}
use Rattle.check_decls.proofs.programs.check.Goals as goal
use Rattle.check_decls.proofs.programs.check.Goals.{In_ok-parts}

-- the program that is given is the one that typing gives
given : (c : In_ok-parts)
    → checked (map view_file c.args.files.now) ≡ gives (view_program c.in_ok-parts.parts)
given c =
    ap (λ found. and_then found (λ all. gives (program_of all)))
    (subst (λ begun. files_from begun 0 (map view_file c.args.files.now)
    ≡ gives (view_checked c.add_files.new.self)) c.in_ok-checked.ensures.made
    c.in_ok-add_files.ensures.checked)
    ∙ ap gives (sym c.in_ok-parts.ensures.made)

-- a fault lies in one of the files, where nothing was checked before them
placed : (begun : Checked) (files : List File) (why : Fault) → begun ≡ none_checked
    → files_from begun 0 files ≡ refused why → why.file < length files
placed begun files why none refuses =
    fault_placed files why (subst (λ start. files_from start 0 files ≡ refused why) none refuses)

pub new-requires : goal.new-requires
new-requires c =
    record {
      well_formed =
          well_formed (map view_file c.args.files.now) (view_program c.in_ok-parts.parts)
          (omega (arith, length-map c.args.files.now view_file, c.requires.few)) (given c);
    }

pub returns-in_err-add_files-clause-placed : goal.returns-in_err-add_files-clause-placed
returns-in_err-add_files-clause-placed c =
    let p = err_from_is_err_and c.from_residual-in_err-add_files.result
    c.from_residual-in_err-add_files.ensures.1 in
    rw (p.1, p.2) (λ fault.
    omega (
      arith,
      placed _ (map view_file c.args.files.now) _ c.in_ok-checked.ensures.made
          (c.in_err-add_files.ensures.refused fault),
      length-map c.args.files.now view_file,
    ))
