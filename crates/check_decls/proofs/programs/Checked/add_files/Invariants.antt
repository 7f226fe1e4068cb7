use Rattle.std.proofs.Common.{◌≡◌, ◌+◌, ◌*◌, ◌≤◌, List, drop, map}
use Rattle.ck_base.specs.declared.limits.TheConstants.{MAX_FILE_TOKENS}
use Rattle.ck_syntax.specs.View.{view_file}
use Rattle.first_walk.specs.Room.{entries}
use Rattle.first_walk.proofs.TableFacts.{Entry}
use Rattle.program_laws.specs.Programs.{files_from}
use Rattle.check_decls.specs.ProgramView.{view_checked}
use Rattle.program_laws.proofs.WholeProgram.{IsAfter}
use Rattle.check_decls.proofs.programs.Checked.add_files.Given as goal

abbrev pub invariant-loop-file : goal.invariant-loop-file
invariant-loop-file l =
    record {
      so_far :
          files_from (view_checked l.fn.self) 0 (map view_file l.files)
          ≡ files_from (view_checked l.self) l.file (map view_file (drop l.file l.files));
      room : entries l.self.table.value ≤ 4 + l.file * (2 * MAX_FILE_TOKENS);
      after : (all : List Entry) × IsAfter l.file (view_checked l.self) all;
    }
