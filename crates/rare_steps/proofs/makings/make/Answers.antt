use Rattle.std.proofs.Common.{arith}
use Rattle.std.proofs.lemmas.Grind.{common_steps}
use Rattle.machine_world.specs.Scenes.{scene}
use Rattle.machine_world.specs.Shown.{shown}
use Rattle.machine_world.proofs.Follows.{follows_same}
use Rattle.rare_steps.proofs.Carried.{carried}
use Rattle.rare_steps.proofs.Found.{new_fits}
use Rattle.rare_steps.proofs.makings.make.Goals as goal

pub make-requires : goal.make-requires
make-requires c =
    let can = c.requires.can.1 in
    record {
      store = can.store;
      stands = can.stands;
      so = new_fits _ _ _ c.args.class c.requires.is can;
    }

pub returns-in-Ok : goal.returns-in-Ok
unfolding shown
returns-in-Ok c = record {
  carries = λ acts. carried c.put.result c.args.code.now c.args.at.now
      (scene c.args.shred.now c.args.world.now acts) (scene c.put.new.shred c.make.new.self acts)
      (grind (arith, common_steps)) (grind (arith, common_steps)) c.in-Ok.ensures.ran
      (λ store stands.
      let made = c.in-Ok.ensures.made store stands in
      follows_same _ made.store made.stands c.put.result _ _ _ _ (grind (arith, common_steps)));
}
