use Rattle.std.proofs.Common.{◌≤◌, ◌+◌, ℕ, List, All, length, map, sym, subst, ap, arith}
use Rattle.std.proofs.lemmas.List.{length-map}
use Rattle.ck_base.specs.declared.limits.TheConstants.{MAX_FILE_BYTES}
use Rattle.ck_syntax.specs.declared.file.File.{File}
use Rattle.ck_syntax.specs.Size.{file_size}
use Rattle.ck_syntax.specs.View.{view_file}
use Rattle.ck_typed.specs.View.{view_program}
use Rattle.command_inputs.proofs.Sizes.{small_trees}
use Rattle.chuck_driver.proofs.Mains.{checked_mains}
use Rattle.render_pieces.proofs.compiling.machine.Goals as goal

pub check-requires : goal.check-requires
check-requires c =
    let same = c.as_slice.ensures.value in
    let count = ap (length {A = File}) same in
    let P : List File → Type 0 = λ trees.
    All (λ it. file_size (view_file it) ≤ MAX_FILE_BYTES + 1) trees in
    record {
      some = omega (arith, count, c.in-Ok.ensures.count, c.requires.some);
      few = omega (arith, count, c.in-Ok.ensures.count, c.requires.few);
      short = subst P (sym same)
          (small_trees c.args.files.now c.in-Ok.trees.items c.requires.short c.in-Ok.ensures.say);
    }

-- a main for each file
pub start-requires : goal.start-requires
start-requires c = omega (
  arith,
  ap (length {A = ℕ}) c.in_ok-code.ensures.scheme.mains,
  checked_mains (map view_file c.as_slice.result.now) (view_program c.in-Ok-check.program)
      c.in-Ok-check.ensures.checked,
  length-map c.as_slice.result.now view_file,
  ap (length {A = File}) c.as_slice.ensures.value,
  c.in-Ok.ensures.count,
  c.requires.few,
)
