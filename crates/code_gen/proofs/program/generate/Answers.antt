use Rattle.std.proofs.Common.{subst, sym}
use Rattle.ck_typed.specs.View.{view_program}
use Rattle.ck_typed.specs.WellFormed.{IsWellFormed}
use Rattle.ck_scheme.specs.Scheme.{IsScheme}
use Rattle.code_laws.proofs.Means.{means}
use Rattle.code_laws.proofs.SameRuns.{same_runs}
use Rattle.code_laws.proofs.Shaped.{all_shaped}
use Rattle.code_laws.proofs.Verifies.{verified}
use Rattle.code_laws.proofs.Whole.{follows}
use Rattle.code_gen.proofs.program.generate.Goals as goal
use Rattle.code_gen.proofs.program.generate.Goals.{After-new}

pub new-requires : goal.new-requires
new-requires c =
    let program = view_program c.args.program in
    let scheme =
    subst (λ p.
    IsScheme
    (view_program p) c.in_ok-parts.parts) c.into_parts.ensures.parts c.in_ok-parts.ensures in
    record {
      verified = verified program c.into_parts.ensures.well_formed c.in_ok-parts.parts scheme;
    }

is_fine : (c : After-new) → IsWellFormed (view_program c.args.program)
is_fine c = c.into_parts.ensures.well_formed

is_scheme : (c : After-new) → IsScheme (view_program c.args.program) c.new.result
is_scheme c =
    subst (IsScheme (view_program c.args.program)) (sym c.new.ensures)
    (subst (λ p.
    IsScheme (view_program p) c.in_ok-parts.parts) c.into_parts.ensures.parts c.in_ok-parts.ensures)

pub returns-clause-follows : goal.returns-clause-follows
returns-clause-follows c =
    let program = view_program c.args.program in
    follows program (all_shaped program (is_fine c)) c.new.result (is_scheme c)

pub returns-clause-means : goal.returns-clause-means
returns-clause-means c =
    means (view_program c.args.program) (is_fine c) c.new.result (is_scheme c)

pub returns-clause-runs : goal.returns-clause-runs
returns-clause-runs c =
    same_runs (view_program c.args.program) (is_fine c) c.new.result (is_scheme c)
