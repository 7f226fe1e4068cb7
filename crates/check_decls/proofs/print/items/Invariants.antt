use Rattle.std.proofs.Common.{◌≡◌}
use Rattle.ck_typed.specs.View.{exprs_of}
use Rattle.program_laws.specs.Statements.{exprs}
use Rattle.check_scope.specs.View.{all_typed}
use Rattle.check_decls.proofs.print.items.Given as goal

abbrev pub invariant-loop-value : goal.invariant-loop-value
invariant-loop-value l = exprs_of l.items.items ≡ exprs (all_typed l.yielded)
