use Rattle.std.proofs.Common.{◌≡◌, ◌≤◌, IfSome}
use Rattle.ck_base.specs.declared.limits.TheConstants.{MAX_ANCESTORS}
use Rattle.type_table.specs.Lines.{classes_of, above_of}
use Rattle.type_table.specs.Table.{member_in}
use Rattle.type_table.proofs.WholeLine.{left}
use Rattle.type_table.proofs.table.Table.member_in.Given as goal

abbrev pub invariant-loop-rest : goal.invariant-loop-rest
invariant-loop-rest l = record {
  short : IfSome l.rest (λ line. line.steps ≤ MAX_ANCESTORS);
  same : member_in l.self (classes_of l.self l.fn.line) l.name ≡ member_in l.self (above_of l.self l.rest) l.name;
}

abbrev pub decreases-loop-rest : goal.decreases-loop-rest
decreases-loop-rest l = left l.rest
