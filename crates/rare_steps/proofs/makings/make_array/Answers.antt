use Rattle.std.proofs.Common.{◌≡◌, true, ◌∷◌, drop, ap, refl, sym, subst, ◌∙◌, arith}
use Rattle.ck_values.specs.declared.value.Value.TheVariants.{Ref as To}
use Rattle.ck_values.specs.Datum.{all_meant}
use Rattle.ck_store.specs.Arrays.{array_made}
use Rattle.value_ops.specs.Ends.{IsEnd}
use Rattle.shred_state.specs.Frames.{Standing, with_operands}
use Rattle.machine_world.specs.Scenes.{scene, Carries}
use Rattle.machine_world.specs.Shown.{shown, operands_of}
use Rattle.machine_world.specs.Steps.{next_standing}
use Rattle.machine_world.proofs.Carried.{carries_next, carries_trap, breaks_here}
use Rattle.machine_world.proofs.Numbered.{length-meant}
use Rattle.machine_world.proofs.Taken.{taken_within}
use Rattle.rare_steps.proofs.Found.{literal_fits}
use Rattle.rare_steps.proofs.Gathered.{array_pushed, array_refused}
use Rattle.rare_steps.proofs.makings.make_array.Goals as goal

pub take_operands-requires : goal.take_operands-requires
unfolding shown
take_operands-requires c =
    let fits = literal_fits _ _ _ c.args.elem c.args.two c.args.n c.requires.is c.requires.can.can in
    omega (
      arith,
      length-meant c.args.shred.now.top.operands,
      taken_within c.args.n _ (operands_of c.args.shred.now) fits,
    )

pub returns-in_ok-push-in-Ok : goal.returns-in_ok-push-in-Ok
returns-in_ok-push-in-Ok c =
    let at = c.args.at.now in
    let old = c.args.shred.now in
    let n = c.args.n in
    let v = To c.in-Ok.array in
    let fits = literal_fits _ _ _ c.args.elem c.args.two n c.requires.is c.requires.can.can in
    let pushed : c.push.new.self ≡ with_operands old (v ∷ drop n old.top.operands) =
    c.in_ok-push-in-Ok.ensures.pushed
    ∙ ap (λ (s : Standing). with_operands s (v ∷ s.top.operands)) c.in_ok-items.ensures.left in
    let new : c.go_on.new.shred ≡ next_standing old old.top.locals (v ∷ drop n old.top.operands) =
    c.go_on.ensures.next
    ∙ ap (λ (s : Standing). next_standing s s.top.locals s.top.operands) pushed in
    record {
      carries = λ code acts.
          let now = scene old c.args.world.now acts in
          let later = scene c.go_on.new.shred c.make_array.new.self acts in
          subst (λ then. Carries code at then now later) (sym c.go_on.ensures.then)
          (carries_next code at now later old.top.locals (v ∷ drop n old.top.operands) new refl
          c.in-Ok.ensures.ran (λ store stands.
          let made = c.in-Ok.ensures.made store stands in
          record {
            store = made.store;
            stands = made.stands;
            so = array_pushed code at now c.args.elem c.args.two n store c.in_ok-items.items
                c.requires.is fits c.in_ok-items.ensures.taken made.store c.in-Ok.array made.so;
          }));
    }

pub returns-in-Err-Trap : goal.returns-in-Err-Trap
unfolding shown
returns-in-Err-Trap c =
    let at = c.args.at.now in
    let old = c.args.shred.now in
    let trap = c.in-Err-Trap.trap in
    let left = c.in_ok-items.ensures.left in
    let fits = literal_fits _ _ _ c.args.elem c.args.two c.args.n c.requires.is c.requires.can.can in
    record {
      carries = λ code acts.
          let now = scene old c.args.world.now acts in
          carries_trap code at trap now (scene c.take_operands.new.shred c.make_array.new.self acts)
          (record {
            number = ap (λ (s : Standing). s.number) left;
            parent = ap (λ (s : Standing). s.parent) left;
            last = ap (λ (s : Standing). s.last) left;
          }) (ap (λ (s : Standing). s.turns) left) (ap (λ (s : Standing). s.below) left) refl c.in-Err-Trap.ensures.ran
          (breaks_here code at trap now c.make_array.new.self c.in-Err-Trap.ensures.same
          (λ store stands.
          array_refused code at now c.args.elem c.args.two c.args.n store c.in_ok-items.items
          c.requires.is fits c.in_ok-items.ensures.taken trap
          (subst (λ end. IsEnd true end
          (array_made c.args.elem c.args.two (all_meant c.in_ok-items.items) store))
          c.in-Err-Trap.field-0-is (c.in-Err-Trap.ensures.end store stands))));
    }
