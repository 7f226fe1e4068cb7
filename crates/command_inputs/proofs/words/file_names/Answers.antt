use Rattle.std.proofs.Common.{Some, sym, ap, ◌∙◌, subst, arith}
use Rattle.command_inputs.specs.Words.{words_of, ReadsFiles}
use Rattle.command_inputs.proofs.Names.{words_before, names_are, names_take, enough, none_named}
use Rattle.command_inputs.proofs.words.file_names.Goals as goal

pub slice_bounds-result-count : goal.slice_bounds-result-count
slice_bounds-result-count c =
    omega (
      arith,
      enough c.args.words.now c.args.command 1 c.requires (ap words_before c.in-Check.is)
          (subst ReadsFiles (sym c.in-Check.is) tt),
    )

pub slice_bounds-result-start : goal.slice_bounds-result-start
slice_bounds-result-start c =
    omega (
      arith,
      enough c.args.words.now c.args.command 1 c.requires (ap words_before c.in-Check.is)
          (subst ReadsFiles (sym c.in-Check.is) tt),
    )

pub returns-in-Check-clause-names : goal.returns-in-Check-clause-names
returns-in-Check-clause-names c =
    names_are c.args.words.now c.args.command 1 c.requires (ap words_before c.in-Check.is)

pub returns-in-Check-clause-takes : goal.returns-in-Check-clause-takes
returns-in-Check-clause-takes c =
    names_take c.args.words.now c.args.command 1 c.requires (ap words_before c.in-Check.is)

pub slice_bounds-result-count-in-Wakes : goal.slice_bounds-result-count-in-Wakes
slice_bounds-result-count-in-Wakes c =
    omega (
      arith,
      enough c.args.words.now c.args.command 2 c.requires (ap words_before c.in-Wakes.is)
          (subst ReadsFiles (sym c.in-Wakes.is) tt),
    )

pub slice_bounds-result-start-in-Wakes : goal.slice_bounds-result-start-in-Wakes
slice_bounds-result-start-in-Wakes c =
    omega (
      arith,
      enough c.args.words.now c.args.command 2 c.requires (ap words_before c.in-Wakes.is)
          (subst ReadsFiles (sym c.in-Wakes.is) tt),
    )

pub returns-in-Wakes-clause-names : goal.returns-in-Wakes-clause-names
returns-in-Wakes-clause-names c =
    names_are c.args.words.now c.args.command 2 c.requires (ap words_before c.in-Wakes.is)

pub returns-in-Wakes-clause-takes : goal.returns-in-Wakes-clause-takes
returns-in-Wakes-clause-takes c =
    names_take c.args.words.now c.args.command 2 c.requires (ap words_before c.in-Wakes.is)

pub slice_bounds-result-count-in-Render : goal.slice_bounds-result-count-in-Render
slice_bounds-result-count-in-Render c =
    omega (
      arith,
      enough c.args.words.now c.args.command 3 c.requires (ap words_before c.in-Render.is)
          (subst ReadsFiles (sym c.in-Render.is) tt),
    )

pub slice_bounds-result-start-in-Render : goal.slice_bounds-result-start-in-Render
slice_bounds-result-start-in-Render c =
    omega (
      arith,
      enough c.args.words.now c.args.command 3 c.requires (ap words_before c.in-Render.is)
          (subst ReadsFiles (sym c.in-Render.is) tt),
    )

pub returns-in-Render-clause-names : goal.returns-in-Render-clause-names
returns-in-Render-clause-names c =
    names_are c.args.words.now c.args.command 3 c.requires (ap words_before c.in-Render.is)

pub returns-in-Render-clause-takes : goal.returns-in-Render-clause-takes
returns-in-Render-clause-takes c =
    names_take c.args.words.now c.args.command 3 c.requires (ap words_before c.in-Render.is)

pub slice_bounds-result-count-in-Stats : goal.slice_bounds-result-count-in-Stats
slice_bounds-result-count-in-Stats c =
    omega (
      arith,
      enough c.args.words.now c.args.command 2 c.requires (ap words_before c.in-Stats.is)
          (subst ReadsFiles (sym c.in-Stats.is) tt),
    )

pub slice_bounds-result-start-in-Stats : goal.slice_bounds-result-start-in-Stats
slice_bounds-result-start-in-Stats c =
    omega (
      arith,
      enough c.args.words.now c.args.command 2 c.requires (ap words_before c.in-Stats.is)
          (subst ReadsFiles (sym c.in-Stats.is) tt),
    )

pub returns-in-Stats-clause-names : goal.returns-in-Stats-clause-names
returns-in-Stats-clause-names c =
    names_are c.args.words.now c.args.command 2 c.requires (ap words_before c.in-Stats.is)

pub returns-in-Stats-clause-takes : goal.returns-in-Stats-clause-takes
returns-in-Stats-clause-takes c =
    names_take c.args.words.now c.args.command 2 c.requires (ap words_before c.in-Stats.is)

pub slice_bounds-result-count-in-Code : goal.slice_bounds-result-count-in-Code
slice_bounds-result-count-in-Code c =
    omega (
      arith,
      enough c.args.words.now c.args.command 1 c.requires (ap words_before c.in-Code.is)
          (subst ReadsFiles (sym c.in-Code.is) tt),
    )

pub slice_bounds-result-start-in-Code : goal.slice_bounds-result-start-in-Code
slice_bounds-result-start-in-Code c =
    omega (
      arith,
      enough c.args.words.now c.args.command 1 c.requires (ap words_before c.in-Code.is)
          (subst ReadsFiles (sym c.in-Code.is) tt),
    )

pub returns-in-Code-clause-names : goal.returns-in-Code-clause-names
returns-in-Code-clause-names c =
    names_are c.args.words.now c.args.command 1 c.requires (ap words_before c.in-Code.is)

pub returns-in-Code-clause-takes : goal.returns-in-Code-clause-takes
returns-in-Code-clause-takes c =
    names_take c.args.words.now c.args.command 1 c.requires (ap words_before c.in-Code.is)

pub returns-in-Load-clause-names : goal.returns-in-Load-clause-names
returns-in-Load-clause-names c =
    sym (none_named (words_of c.args.words.now) c.in-Load.field-0 (c.requires ∙ ap Some c.in-Load.is))

pub returns-in-Load-clause-takes : goal.returns-in-Load-clause-takes
returns-in-Load-clause-takes c = λ reads. absurd (subst ReadsFiles c.in-Load.is reads)
