use Rattle.std.proofs.Common.{◌≡◌, ◌+◌, ◌≤◌, [], ◌∷◌, drop, map, refl, sym, ap, ◌∙◌, subst, arith}
use Rattle.std.proofs.lemmas.List.{drop_more}
use Rattle.ck_base.specs.declared.limits.TheConstants.{MAX_FILE_TOKENS}
use Rattle.ck_syntax.specs.Size.{file_size}
use Rattle.ck_syntax.specs.View.{view_file}
use Rattle.type_table.specs.Answer.{gives, and_then}
use Rattle.first_walk.specs.Room.{entries}
use Rattle.program_laws.specs.Programs.{Checked, files_from}
use Rattle.check_decls.specs.ProgramView.{view_checked}
use Rattle.program_laws.proofs.EnteredFiles.{laws}
use Rattle.program_laws.proofs.WholeProgram.{IsAfter, before_files, after_files}
use Rattle.check_decls.proofs.programs.Checked.add_files.Goals as goal

pub add_file-requires : goal.add_file-requires
add_file-requires c =
    let after = c.loop-file.invariant.after.1 in
    record {
      short =
          subst (λ f. file_size (view_file f) ≤ MAX_FILE_TOKENS) (sym c.index-files-file.is)
          (c.requires.short c.loop-file.file c.index-files-file.result (omega (arith, c.loop-file-test.true)));
      next = sym after.files;
      built_in = omega (arith, after.numbered.table.two);
      room = omega (arith, c.loop-file-test.true, c.requires.few);
    }

pub loop-file-init : goal.loop-file-init
loop-file-init c =
    record {
      so_far = refl;
      room = omega (arith, ap (λ (x : Checked). entries x.table) c.requires.begun);
      after = ([], subst (λ x. IsAfter 0 x []) (sym c.requires.begun) (before_files laws));
    }

pub loop-file-preserved : goal.loop-file-preserved
loop-file-preserved c =
    let before = c.loop-file.invariant.after in
    let raw = view_file c.index-files-file.result in
    let gave : files_from (view_checked c.loop-file.self) c.loop-file.file (raw ∷ [])
    ≡ gives (view_checked c.add_file.new.self) =
    ap (λ a. and_then a (λ d. gives d)) c.in_ok-add_file.ensures.checked in
    let next =
    drop_more c.args.files.now c.loop-file.file c.index-files-file.result (omega (arith, c.loop-file-test.true))
    ∙ ap (λ x. x ∷ drop (c.loop-file.file + 1) c.args.files.now) (sym c.index-files-file.is) in
    record {
      so_far =
          c.loop-file.invariant.so_far
          ∙ ap (λ l. files_from (view_checked c.loop-file.self) c.loop-file.file (map view_file l)) next
          ∙ ap (λ a. and_then a (λ d. files_from d (c.loop-file.file + 1)
          (map view_file (drop (c.loop-file.file + 1) c.args.files.now)))) c.in_ok-add_file.ensures.checked;
      room = omega (arith, c.in_ok-add_file.ensures.grown);
      after =
          after_files laws (raw ∷ []) c.loop-file.file (view_checked c.loop-file.self) before.0 before.1
          (view_checked c.add_file.new.self) gave;
    }
