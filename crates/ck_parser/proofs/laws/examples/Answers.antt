use Rattle.std.proofs.Common.{refl, arith}
use Rattle.ck_parser.specs.Examples.{nested_if, nested_if_tree, cut_if, member_first}
use Rattle.ck_parser.specs.Examples.{member_first_tree, indexed, indexed_tree, unfinished}
use Rattle.ck_parser.proofs.Faults.{is_file, is_faulty}
use Rattle.ck_parser.proofs.laws.examples.Goals as goal

pub returns-clause-else_to_inner_if : goal.returns-clause-else_to_inner_if
returns-clause-else_to_inner_if c = is_file nested_if nested_if_tree refl

pub returns-clause-cut_after_else : goal.returns-clause-cut_after_else
returns-clause-cut_after_else c = is_faulty cut_if 1 refl (omega arith)

pub returns-clause-member_before_prefix : goal.returns-clause-member_before_prefix
returns-clause-member_before_prefix c = is_file member_first member_first_tree refl

pub returns-clause-rises_to_the_end : goal.returns-clause-rises_to_the_end
returns-clause-rises_to_the_end c = (is_file indexed indexed_tree refl, refl)

pub returns-clause-operand_missing : goal.returns-clause-operand_missing
returns-clause-operand_missing c = is_faulty unfinished 2 refl (omega arith)
