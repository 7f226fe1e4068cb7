use Rattle.std.proofs.Common.{◌≡◌, ◌+◌, ◌≤◌, length, drop}
use Rattle.ck_syntax.specs.Size.{param_size}
use Rattle.type_table.specs.Answer.{gives}
use Rattle.type_table.proofs.Weights.{weight}
use Rattle.check_decls.proofs.DeclWalks.{and_params}
use Rattle.check_decls.proofs.functions.declare_params.Given as goal

-- the parameters from this place on are left
abbrev pub invariant-loop-place : goal.invariant-loop-place
invariant-loop-place l =
    record {
      so_far :
          and_params l.types l.line (gives l.fn.scope) 0 l.params
          ≡ and_params l.types l.line (gives l.scope) l.place (drop l.place l.params);
      left :
          length l.scope.locals + weight param_size (drop l.place l.params)
          ≤ length l.fn.scope.locals + weight param_size l.params;
    }
