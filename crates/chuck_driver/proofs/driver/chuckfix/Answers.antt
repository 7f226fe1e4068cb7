use Rattle.std.proofs.Common.{◌≡◌, Some, refl, sym, ◌∙◌}
use Rattle.run_report.specs.declared.status.Status.TheVariants.{Done, Usage, Refused, Trapped}
use Rattle.command_inputs.specs.Words.{words_of, command_of}
use Rattle.chuck_driver.specs.Outcome.{WholeCall, whole_call}
use Rattle.chuck_driver.proofs.Clauses as clauses
use Rattle.run_report.proofs.Steps.{does_nothing}
use Rattle.chuck_driver.proofs.driver.chuckfix.Goals as goal

-- the words are a command
is_command : (g : _) (c : goal.After-carry_out g)
    → command_of (words_of c.args.words.now) ≡ Some c.in-Some.command
is_command g c = sym c.command.ensures ∙ c.in-Some.is

abbrev the_call : (g : _) → goal.After-carry_out g → WholeCall
the_call g c = whole_call g.S.Shelf g.O.Sink g.P.Press c.args.words.now
    c.args.shelf.now c.args.out.now c.args.press.now c.args.tally.now
    c.carry_out.new.shelf c.carry_out.new.out c.carry_out.new.press c.carry_out.new.tally

-- how the call concluded
how : (g : _) (c : goal.After-carry_out g)
    → clauses.Concluded (the_call g c) c.carry_out.result
how g c = clauses.concluded (the_call g c) c.carry_out.ensures.concludes

pub carry_out-requires : goal.carry_out-requires
carry_out-requires g c =
    record { command = sym c.command.ensures ∙ c.in-Some.is; shut = c.requires }

not_usage : (g : _) (c : goal.After-carry_out g) → c.carry_out.result ≡ Usage → ⊥
not_usage g c = clauses.not_usage (the_call g c) c.carry_out.result c.in-Some.command
    (is_command g c) (how g c)

pub returns-in-Some-clause-usage : goal.returns-in-Some-clause-usage
returns-in-Some-clause-usage g c = (
  λ usage. absurd (not_usage g c usage),
  λ none. let some = is_command g c in absurd (cc),
)

pub returns-in-Some-clause-untouched : goal.returns-in-Some-clause-untouched
returns-in-Some-clause-untouched g c = λ usage. absurd (not_usage g c usage)

pub returns-in-Some-clause-call : goal.returns-in-Some-clause-call
returns-in-Some-clause-call g c =
    let call = the_call g c in
    let status = c.carry_out.result in
    let ended = how g c in
    record {
      done = clauses.whole_done call status ended Done tt;
      refused = clauses.whole_done call status ended Refused tt;
      trapped = clauses.whole_done call status ended Trapped tt;
      read_fault = clauses.read_fault call status ended;
      write_fault = clauses.write_fault call status ended;
      none_done = clauses.none_done call status ended;
      part_done = clauses.part_done call status ended;
      front_done = clauses.front_done call status ended;
      missing = clauses.missing call status ended;
      nothing = clauses.nothing_done call status ended;
      complete = clauses.complete call status ended;
      sure = clauses.sure call status ended;
    }

pub returns-in-None-clause-call : goal.returns-in-None-clause-call
returns-in-None-clause-call g c =
    let call : WholeCall = whole_call g.S.Shelf g.O.Sink g.P.Press c.args.words.now
    c.args.shelf.now c.args.out.now c.args.press.now c.args.tally.now
    c.args.shelf.now c.args.out.now c.args.press.now c.args.tally.now in
    let ended : clauses.Concluded call Usage =
    clauses.not_asked (sym c.command.ensures ∙ c.in-None.is) refl
    (does_nothing call.old.edges, refl) in
    record {
      done = clauses.whole_done call Usage ended Done tt;
      refused = clauses.whole_done call Usage ended Refused tt;
      trapped = clauses.whole_done call Usage ended Trapped tt;
      read_fault = clauses.read_fault call Usage ended;
      write_fault = clauses.write_fault call Usage ended;
      none_done = clauses.none_done call Usage ended;
      part_done = clauses.part_done call Usage ended;
      front_done = clauses.front_done call Usage ended;
      missing = clauses.missing call Usage ended;
      nothing = clauses.nothing_done call Usage ended;
      complete = clauses.complete call Usage ended;
      sure = clauses.sure call Usage ended;
    }

pub returns-in-Some-clause-kept_text : goal.returns-in-Some-clause-kept_text
returns-in-Some-clause-kept_text g c =
    clauses.kept_text (the_call g c) c.carry_out.result (how g c)

pub returns-in-Some-clause-kept_sheets : goal.returns-in-Some-clause-kept_sheets
returns-in-Some-clause-kept_sheets g c = c.carry_out.ensures.leaves.0

pub returns-in-Some-clause-shut : goal.returns-in-Some-clause-shut
returns-in-Some-clause-shut g c = c.carry_out.ensures.leaves.1 c.requires

pub returns-in-Some-clause-same_tally : goal.returns-in-Some-clause-same_tally
returns-in-Some-clause-same_tally g c =
    clauses.kept_tally (the_call g c) c.carry_out.result (how g c)
