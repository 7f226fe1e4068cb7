use Rattle.std.proofs.Common.{true}
use Rattle.type_table.proofs.Walks.{Ran}
use Rattle.built_forms.proofs.Runs.{one_member}
use Rattle.built_forms.proofs.files.are_members_built.Given as goal

abbrev pub invariant-loop-member : goal.invariant-loop-member
invariant-loop-member l = Ran one_member true l.all l.member-index true
