use mir.Syntax.{w64}
use mir.Val.{SFits}
use Rattle.std.proofs.Common.{◌≡◌, Some, ap, sym, ◌∙◌, arith, rules}
use Rattle.std.proofs.lemmas.Grind.{common_steps}
use Rattle.std.proofs.lemmas.Int.{to_z-of_z}
use Rattle.ck_values.specs.Datum.{AnInt}
use Rattle.ck_values.specs.declared.value.Value.TheVariants.{Int}
use Rattle.ck_store.specs.Operators.{binary}
use Rattle.ck_store.specs.Store.{Gives}
use Rattle.machine_world.specs.Shown.{shown}
use Rattle.machine_world.proofs.Numbered.{local_meant}
use Rattle.loop_steps.proofs.Meant.{set_meant}
use Rattle.loop_steps.proofs.ints.added.Goals as goal

pub returns-clause-sum : goal.returns-clause-sum
unfolding shown
returns-clause-sum c =
    let a = c.in-Int.a in
    let n = c.in_ok-n.n in
    let fits : SFits w64 n = search rules in
    let sum : binary c.args.operator (AnInt a) (AnInt c.args.b) ≡ Gives (AnInt n) =
    grind (arith, common_steps) in
    record {
      a = a;
      was = local_meant c.args.shred.now.top.locals c.args.i (Int a)
          (c.local.ensures ∙ ap Some c.in-Int.is);
      gives = sum ∙ ap (λ n. Gives (AnInt n)) (sym (to_z-of_z w64 n fits));
      set = set_meant _ _ c.args.i _ c.set_local.ensures.new _ c.set_local.ensures.old;
    }
