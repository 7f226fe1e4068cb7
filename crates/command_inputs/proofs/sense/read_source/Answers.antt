use Rattle.std.proofs.Common.{ℕ, Err, sym, ap, subst, codes}
use Rattle.command_inputs.specs.Sense.{HasFault, Says, no_token_begins}
use Rattle.command_inputs.proofs.sense.read_source.Goals as goal

pub returns-in-Err-Lex : goal.returns-in-Err-Lex
returns-in-Err-Lex c =
    let P : ℕ → Type 0 = λ line. Says c.args.bytes.now (HasFault line (codes "lex")) in
    let fault = c.in-Err-Lex.ensures.lex c.in-Err-Lex.field-0-0 c.in-Err-Lex.line
    (ap Err c.in-Err-Lex.field-0-is) in
    subst P (sym c.in-Err-Lex.line-is) (no_token_begins fault)
