use Rattle.std.proofs.Common.{subst}
use Rattle.ck_parser.specs.declared.parse_fault.ParseFault.{ParseFault}
use Rattle.ck_parser.specs.FirstFault.{IsFirstFault}
use Rattle.ck_parser.proofs.Ends.{ends_of_tokens}
use Rattle.command_inputs.specs.Sense.{a_tree, no_grammar, stands_too_deep}
use Rattle.command_inputs.proofs.sense.grammar.Goals as goal

pub parse-requires : goal.parse-requires
parse-requires c = ends_of_tokens c.args.bytes.now c.args.tokens.now c.requires

pub returns-in-Ok : goal.returns-in-Ok
returns-in-Ok c = a_tree c.requires c.in-Ok.ensures.tree c.in-Ok.ensures.shallow

pub returns-in-Err-Syntax : goal.returns-in-Err-Syntax
returns-in-Err-Syntax c =
    let P : ParseFault → Type 0 = IsFirstFault c.args.tokens.now in
    no_grammar c.requires (subst P c.in-Err-Syntax.field-0-is c.in-Err-Syntax.ensures.fault)

pub returns-in-Err-TooDeep : goal.returns-in-Err-TooDeep
returns-in-Err-TooDeep c =
    let P : ParseFault → Type 0 = IsFirstFault c.args.tokens.now in
    stands_too_deep c.requires (subst P c.in-Err-TooDeep.field-0-is c.in-Err-TooDeep.ensures.fault)
