use Rattle.std.proofs.Common.{◌≡◌, ◌+◌, suc, [], length, refl, ap, sym, ◌∙◌, subst, arith}
use Rattle.ck_values.specs.declared.trap.Trap.TheVariants.{CallDepth}
use Rattle.ck_typed.specs.WellFormed.{FoundWhere}
use Rattle.ck_code.specs.declared.instr.Instr.TheVariants.{Call}
use Rattle.ck_code.specs.Machine.{Next, Breaks, taken}
use Rattle.ck_store.specs.Store.{IsFitting}
use Rattle.shred_state.specs.Frames.{Standing, IsRefused, at_place, entered as entered_at}
use Rattle.machine_world.specs.Scenes.{scene, effect_over}
use Rattle.machine_world.specs.Steps.{state_of}
use Rattle.machine_world.specs.Shown.{shown, frames_of, operands_of}
use Rattle.machine_world.proofs.Numbered.{length-meant}
use Rattle.machine_world.proofs.Taken.{taken_within}
use Rattle.loop_steps.proofs.Called.{calls_begin, calls_break}
use Rattle.loop_steps.proofs.control.call.Goals.{After-items}
use Rattle.loop_steps.proofs.control.call.Goals as goal

-- there are as many operands as it takes, and a turn that was spent leaves them
takes : (c : After-items) → IsFitting (taken c.fun_at-callee.result.now.params [] (operands_of c.args.shred.now))
takes c =
    subst (λ found. FoundWhere found (λ fn. IsFitting (taken fn.params [] (operands_of c.args.shred.now))))
    c.fun_at-callee.ensures c.requires.arguments

takes_then : (c : After-items) → IsFitting (taken c.fun_at-callee.result.now.params [] (operands_of c.spend.new.self))
unfolding shown
takes_then c =
    subst (λ (s : Standing). IsFitting (taken c.fun_at-callee.result.now.params [] (operands_of s)))
    (c.if-not-spend.ensures {u = tt}).spent (takes c)

pub enter-requires : goal.enter-requires
unfolding shown
enter-requires c = record {
  operands = omega (
    arith,
    length-meant c.spend.new.self.top.operands,
    taken_within c.fun_at-callee.result.now.params [] _ (takes_then c),
  );
}

pub returns-in-Ok : goal.returns-in-Ok
unfolding shown
returns-in-Ok c =
    let items = (goal.at.returns-in-Ok c).After-items in
    let fn = c.fun_at-callee.result.now in
    let spent = (c.if-not-spend.ensures {u = tt}).spent in
    let entered = c.in-Ok.ensures {u = tt} in
    let kinds = c.items.ensures in
    let is : c.enter.new.self ≡ entered_at (at_place c.spend.new.self (c.spend.new.self.top.place
    + 1)) c.args.fun fn.params fn.locals =
    grind (arith, entered.new, kinds, spent, c.requires.here) in
    record {
      carries = λ world acts. record {
        follows = λ store stands. record {
          store = store;
          stands = stands;
          so = subst (λ s. effect_over c.args.code.now (record c.args.at.now { instr = Call c.args.fun })
              (scene s world acts) store
              ≡ Next (frames_of (shown c.enter.new.self)) (state_of c.enter.new.self store acts)) (sym spent)
              (calls_begin c.args.code.now c.args.at.now c.args.fun fn c.spend.new.self world acts store
              c.fun_at-callee.ensures (takes_then items) c.enter.new.self entered.free is);
        };
        same = record {
          number = ap (λ (s : Standing). s.number) is ∙ sym (ap (λ (s : Standing). s.number) spent);
          parent = ap (λ (s : Standing). s.parent) is ∙ sym (ap (λ (s : Standing). s.parent) spent);
          last = ap (λ (s : Standing). s.last) is ∙ sym (ap (λ (s : Standing). s.last) spent);
        };
        stays = tt;
        ran = refl;
      };
    }

pub returns-in-Err-CallDepth : goal.returns-in-Err-CallDepth
unfolding shown
returns-in-Err-CallDepth c =
    let items = (goal.at.returns-in-Err-CallDepth c).After-items in
    let fn = c.fun_at-callee.result.now in
    let spent = (c.if-not-spend.ensures {u = tt}).spent in
    let refused = c.in-Err-CallDepth.ensures {u = tt} in
    let many = subst (λ e. IsRefused e (length c.spend.new.self.below)) c.in-Err-CallDepth.field-0-is refused.refused in
    record {
      carries = λ world acts. record {
        follows = λ store stands. record {
          store = store;
          stands = stands;
          so = subst (λ s. effect_over c.args.code.now (record c.args.at.now { instr = Call c.args.fun })
              (scene s world acts) store
              ≡ Breaks CallDepth c.args.at.now.place (state_of c.enter.new.self store acts)) (sym spent)
              (subst (λ s. effect_over c.args.code.now (record c.args.at.now { instr = Call c.args.fun })
              (scene (record c.spend.new.self { turns = suc c.spend.new.self.turns }) world acts) store
              ≡ Breaks CallDepth c.args.at.now.place (state_of s store acts)) (sym refused.same)
              (calls_break c.args.code.now c.args.at.now c.args.fun fn c.spend.new.self world acts store
              c.fun_at-callee.ensures (takes_then items) many));
        };
        same = record {
          number = ap (λ (s : Standing). s.number) refused.same ∙ sym (ap (λ (s : Standing). s.number) spent);
          parent = ap (λ (s : Standing). s.parent) refused.same ∙ sym (ap (λ (s : Standing). s.parent) spent);
          last = ap (λ (s : Standing). s.last) refused.same ∙ sym (ap (λ (s : Standing). s.last) spent);
        };
        stays = ap (λ (s : Standing). s.below) refused.same ∙ sym (ap (λ (s : Standing). s.below) spent);
        ran = refl;
      };
    }
