use Rattle.std.proofs.Common.{rules, ◌≡◌, ◌∙◌, ap, ◌+◌, drop, arith}
use Rattle.ck_syntax.specs.Size.{param_size}
use Rattle.ck_syntax.specs.Tree.{no_params}
use Rattle.ck_syntax.specs.View.{params_of}
use Rattle.type_table.specs.Answer.{Fault, refused}
use Rattle.type_table.proofs.Weights.{weight_next}
use Rattle.program_laws.specs.Programs.{with_params}
use Rattle.check_decls.proofs.DeclWalks.{one_param, and_params, params_from, params_next, params_fault, params_end}
use Rattle.check_decls.proofs.Weights.{params_weigh}
use Rattle.check_decls.proofs.functions.declare_params.Goals as goal

pub returns-in_err-declare_param-clause-refused : goal.returns-in_err-declare_param-clause-refused
returns-in_err-declare_param-clause-refused c =
    let stop : (why : Fault)
    → one_param c.args.types.now c.args.line c.loop-place.place c.loop-place.scope
    c.index-params-place.result ≡ refused why
    → with_params c.args.types.now c.args.scope.now c.args.line
    (params_of no_params c.args.params.now) ≡ refused why =
    λ why is.
    params_from c.args.types.now c.args.line c.args.scope.now no_params c.args.params.now
    ∙ c.loop-place.invariant.so_far
    ∙ params_fault c.args.types.now c.args.line c.args.params.now c.loop-place.place
    c.loop-place.scope c.index-params-place.result c.loop-place-test.true
    c.index-params-place.is why is in
    search (rules, stop)

pub returns-clause-declared : goal.returns-clause-declared
returns-clause-declared c =
    params_from c.args.types.now c.args.line c.args.scope.now no_params c.args.params.now
    ∙ c.loop-place.invariant.so_far
    ∙ params_end c.args.types.now c.args.line c.args.params.now c.loop-place.place
    c.loop-place.scope c.loop-place-test.false

pub declare_param-requires : goal.declare_param-requires
declare_param-requires c =
    record {
      few =
          omega (
            arith,
            params_weigh c.args.params.now,
            weight_next param_size c.args.params.now c.loop-place.place
                c.index-params-place.result c.loop-place-test.true c.index-params-place.is,
          );
    }

pub returns-in_err-declare_param-clause-grown : goal.returns-in_err-declare_param-clause-grown
returns-in_err-declare_param-clause-grown c =
    omega (
      arith,
      params_weigh c.args.params.now,
      weight_next param_size c.args.params.now c.loop-place.place
          c.index-params-place.result c.loop-place-test.true c.index-params-place.is,
    )

pub returns-clause-grown : goal.returns-clause-grown
returns-clause-grown c =
    omega (arith, params_weigh c.args.params.now)

pub loop-place-preserved : goal.loop-place-preserved
loop-place-preserved c =
    record {
      so_far =
          c.loop-place.invariant.so_far
          ∙ params_next c.args.types.now c.args.line c.args.params.now c.loop-place.place
          c.loop-place.scope c.index-params-place.result c.loop-place-test.true
          c.index-params-place.is
          ∙ ap (λ a. and_params c.args.types.now c.args.line a (c.loop-place.place + 1)
          (drop (c.loop-place.place + 1) c.args.params.now)) (search rules);
      left =
          omega (
            arith,
            weight_next param_size c.args.params.now c.loop-place.place
                c.index-params-place.result c.loop-place-test.true c.index-params-place.is,
          );
    }
