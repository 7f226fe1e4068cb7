use Rattle.std.proofs.Common.{refl, ap, sym, ◌∙◌, inl}
use Rattle.ck_values.specs.Datum.{meant}
use Rattle.ck_code.specs.Machine.{Over, returned}
use Rattle.shred_state.specs.Frames.{with_operands}
use Rattle.std.specs.Prelude.{◌∷◌, map}
use Rattle.machine_world.specs.Shown.{shown, shown_frame}
use Rattle.machine_world.specs.Steps.{effect_in, state_of}
use Rattle.loop_steps.proofs.control.give.Goals as goal

pub returns-then-not-leave_function : goal.returns-then-not-leave_function
unfolding shown
returns-then-not-leave_function c =
    let old = c.args.shred.now in
    let found = with_operands old (c.args.v ∷ old.top.operands) in
    let left = c.if-not-leave_function.ensures in
    record {
      carries = λ world code acts. record {
        follows = λ store stands.
            let state = state_of found store acts in
            record {
              store = store;
              stands = stands;
              so = inl (
                meant c.args.v,
                ap (λ instr. effect_in code instr c.args.at.now.place (shown found) state) c.requires
                    ∙ ap (λ rest. returned (meant c.args.v) (map shown_frame rest) state) left.first
                    ∙ ap (λ s. Over (meant c.args.v) (state_of s store acts)) (sym left.same),
              );
            };
        same = record {
          number = ap (λ s. s.number) left.same;
          parent = ap (λ s. s.parent) left.same;
          last = ap (λ s. s.last) left.same;
        };
        stays = tt;
        ran = refl;
      };
    }
