use Rattle.std.proofs.Common.{◌≡◌, Option, IfSome, String, codes, map, sym, subst, ◌∙◌, arith}
use Rattle.std.specs.String.{string_bytes}
use Rattle.std.specs.declared.alloc.Global.{Global}
use Rattle.std.proofs.lemmas.List.{length-map}
use Rattle.ck_syntax.specs.View.{view_file}
use Rattle.ck_typed.specs.Tree.{Program}
use Rattle.ck_typed.specs.View.{view_program}
use Rattle.type_table.specs.Answer as typing
use Rattle.type_table.specs.declared.fault.TypeFault.{TypeFault}
use Rattle.type_table.specs.declared.fault.TypeFault.TheVariants.{Typing}
use Rattle.program_laws.specs.Programs.{checked}
use Rattle.chuck_driver.specs.Answer.{or_answer, answer_of_typing, trees_of}
use Rattle.program_answers.specs.Answer.{WholeAnswer, refusal, answer_of_program}
use Rattle.program_answers.specs.Ends.{moment_of, Ends, EndsAtSink, LeavesTally}
use Rattle.command_inputs.specs.Senses.{said}
use Rattle.command_inputs.specs.Words.{words_of}
use Rattle.chuck_driver.proofs.Answering.{checked_said, refused_types, all_built, one_unbuilt, name_at}
use Rattle.chuck_driver.proofs.Carried.{item_at}
use Rattle.chuck_driver.proofs.Mains.{checked_mains}
use Rattle.program_answers.proofs.Steps.{wanting, press_stands, at_edges, none_left, memory_left}
use Rattle.chuck_driver.proofs.driver.answer_trees.Goals as goal

pub check-requires : goal.check-requires
check-requires g c = record {
  some = omega (arith, c.requires.takes.1, c.requires.all);
  few = omega (arith, c.requires.takes.2, c.requires.all);
  short = c.requires.small;
}

pub answer_program-requires : goal.answer_program-requires
answer_program-requires g c = record {
  takes = c.requires.takes;
  mains = checked_mains (map view_file c.args.trees.now) (view_program c.in-Ok.program)
      c.in-Ok.ensures.checked ∙ length-map c.args.trees.now view_file ∙ c.requires.all;
  shut = c.requires.shut;
}

pub returns-in-None-clause-ends : goal.returns-in-None-clause-ends
returns-in-None-clause-ends g c =
    let names = words_of c.args.names.now in
    let program = view_program c.in-Ok.program in
    let E : WholeAnswer → Type 0 = λ answer. Ends answer
    (moment_of g.O.Sink g.P.Press c.args.out.now c.args.press.now)
    (moment_of g.O.Sink g.P.Press c.answer_program.new.out c.answer_program.new.press)
    c.answer_program.result in
    let O : Option WholeAnswer → Type 0 = λ o.
    E (or_answer o (answer_of_program c.args.command c.args.sheet.now names program)) in
    let P : typing.Answer Program → Type 0 = λ found.
    E (answer_of_typing c.args.command c.args.sheet.now names (trees_of (said c.args.trees.now)) found) in
    subst P (sym (checked_said c.args.trees.now (typing.gives program) c.in-Ok.ensures.checked))
    (subst O (sym (all_built c.args.command names c.args.trees.now c.in-None.ensures)) c.answer_program.ensures.ends)

pub returns-in-None-clause-numbers : goal.returns-in-None-clause-numbers
returns-in-None-clause-numbers g c =
    let names = words_of c.args.names.now in
    let program = view_program c.in-Ok.program in
    let L : WholeAnswer → Type 0 = λ answer.
    LeavesTally c.answer_program.result answer.tally c.args.tally.now c.answer_program.new.tally in
    let O : Option WholeAnswer → Type 0 = λ o.
    L (or_answer o (answer_of_program c.args.command c.args.sheet.now names program)) in
    let P : typing.Answer Program → Type 0 = λ found.
    L (answer_of_typing c.args.command c.args.sheet.now names (trees_of (said c.args.trees.now)) found) in
    subst P (sym (checked_said c.args.trees.now (typing.gives program) c.in-Ok.ensures.checked))
    (subst O (sym (all_built c.args.command names c.args.trees.now c.in-None.ensures)) c.answer_program.ensures.numbers)

pub returns-in-Some-clause-ends : goal.returns-in-Some-clause-ends
returns-in-Some-clause-ends g c =
    let names = words_of c.args.names.now in
    let program = view_program c.in-Ok.program in
    let place = c.in-Some.place in
    let item = item_at c.args.names.now place (omega (arith, c.in-Some.ensures.0, c.requires.all)) in
    let named = name_at c.args.names.now place item.0 item.1 in
    let A : Option (String Global) → Type 0 = λ o. IfSome o (λ name.
    EndsAtSink g.O.Sink (refusal (string_bytes name) (codes "not built")) c.args.out.now c.refuse_unbuilt.new.out
    c.refuse_unbuilt.result) in
    let E : WholeAnswer → Type 0 = λ answer. Ends answer
    (moment_of g.O.Sink g.P.Press c.args.out.now c.args.press.now)
    (moment_of g.O.Sink g.P.Press c.refuse_unbuilt.new.out c.args.press.now) c.refuse_unbuilt.result in
    let O : Option WholeAnswer → Type 0 = λ o.
    E (or_answer o (answer_of_program c.args.command c.args.sheet.now names program)) in
    let P : typing.Answer Program → Type 0 = λ found.
    E (answer_of_typing c.args.command c.args.sheet.now names (trees_of (said c.args.trees.now)) found) in
    subst P (sym (checked_said c.args.trees.now (typing.gives program) c.in-Ok.ensures.checked))
    (subst O (sym (one_unbuilt c.args.command names c.args.trees.now place (string_bytes item.0) c.in-Some.ensures
    named))
    (at_edges g.O.Sink g.P.Press c.args.out.now c.refuse_unbuilt.new.out c.args.press.now
    c.refuse_unbuilt.result _ (subst A item.1 c.refuse_unbuilt.ensures)))

pub returns-in-Some-clause-numbers : goal.returns-in-Some-clause-numbers
returns-in-Some-clause-numbers g c =
    let names = words_of c.args.names.now in
    let program = view_program c.in-Ok.program in
    let place = c.in-Some.place in
    let item = item_at c.args.names.now place (omega (arith, c.in-Some.ensures.0, c.requires.all)) in
    let named = name_at c.args.names.now place item.0 item.1 in
    let L : WholeAnswer → Type 0 = λ answer.
    LeavesTally c.refuse_unbuilt.result answer.tally c.args.tally.now c.args.tally.now in
    let O : Option WholeAnswer → Type 0 = λ o.
    L (or_answer o (answer_of_program c.args.command c.args.sheet.now names program)) in
    let P : typing.Answer Program → Type 0 = λ found.
    L (answer_of_typing c.args.command c.args.sheet.now names (trees_of (said c.args.trees.now)) found) in
    subst P (sym (checked_said c.args.trees.now (typing.gives program) c.in-Ok.ensures.checked))
    (subst O (sym (one_unbuilt c.args.command names c.args.trees.now place (string_bytes item.0) c.in-Some.ensures
    named))
    (none_left c.refuse_unbuilt.result c.args.tally.now))

pub returns-in-Err-Typing-clause-ends : goal.returns-in-Err-Typing-clause-ends
returns-in-Err-Typing-clause-ends g c =
    let fault = c.in-Err-Typing in
    let why : TypeFault = Typing fault.file fault.line fault.kind in
    let P : TypeFault → Type 0 = λ w.
    typing.IsFault w → checked (map view_file c.args.trees.now) ≡ typing.fault w in
    let refused : P why = subst P fault.field-0-is fault.ensures.refused in
    refused_types c.args.command c.args.sheet.now (words_of c.args.names.now)
    (trees_of (said c.args.trees.now)) (checked (trees_of (said c.args.trees.now))) _ _ _ fault.file _ fault.line _
    fault.kind _
    fault.file-is fault.line-is fault.kind-is
    (checked_said c.args.trees.now (typing.fault why) (refused (λ memory. absurd (cc memory))))
    (at_edges g.O.Sink g.P.Press c.args.out.now c.refuse_types.new.out c.args.press.now
    c.refuse_types.result _ c.refuse_types.ensures)

pub returns-in-Err-Typing-clause-numbers : goal.returns-in-Err-Typing-clause-numbers
returns-in-Err-Typing-clause-numbers g c =
    let fault = c.in-Err-Typing in
    let why : TypeFault = Typing fault.file fault.line fault.kind in
    let P : TypeFault → Type 0 = λ w.
    typing.IsFault w → checked (map view_file c.args.trees.now) ≡ typing.fault w in
    let refused : P why = subst P fault.field-0-is fault.ensures.refused in
    let L : typing.Answer Program → Type 0 = λ found.
    LeavesTally c.refuse_types.result
    (answer_of_typing c.args.command c.args.sheet.now (words_of c.args.names.now) (trees_of (said c.args.trees.now))
    found).tally
    c.args.tally.now c.args.tally.now in
    subst L (sym (checked_said c.args.trees.now (typing.fault why)
    (refused (λ memory. absurd (cc memory))))) (none_left c.refuse_types.result c.args.tally.now)

pub returns-in-Err-Typing-clause-leaves : goal.returns-in-Err-Typing-clause-leaves
returns-in-Err-Typing-clause-leaves g c = press_stands g.P.Press c.args.press.now _

pub returns-in-Err-Memory-clause-ends : goal.returns-in-Err-Memory-clause-ends
returns-in-Err-Memory-clause-ends g c = wanting _ _ _ c.from.ensures

pub returns-in-Err-Memory-clause-numbers : goal.returns-in-Err-Memory-clause-numbers
returns-in-Err-Memory-clause-numbers g c = memory_left _ _ _ c.from.ensures

pub returns-in-Err-Memory-clause-leaves : goal.returns-in-Err-Memory-clause-leaves
returns-in-Err-Memory-clause-leaves g c = press_stands g.P.Press c.args.press.now _
