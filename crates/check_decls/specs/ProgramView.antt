-- What the code's values stand for in the walk over files.
use Rattle.std.specs.Prelude.{map}
use Rattle.ck_typed.specs.View.{view_fun}
use Rattle.check_decls.specs.declared.programs.Checked.{Checked as CheckedFiles}
use Rattle.check_decls.specs.declared.walk.Walked.{Walked as WalkedItems}
use Rattle.program_laws.specs.Programs.{Walked, Checked}
use Rattle.check_decls.specs.View.{all_stated}

abbrev pub view_walked : WalkedItems → Walked
view_walked w =
    record {
      stated = all_stated w.statements.items w.scope.value;
      funs = map view_fun w.funs.items;
    }

abbrev pub view_checked : CheckedFiles → Checked
view_checked c =
    record { table = c.table.value; funs = map view_fun c.funs.items; mains = c.mains.items }
