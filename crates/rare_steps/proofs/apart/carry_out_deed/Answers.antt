use Rattle.rare_steps.proofs.apart.carry_out_deed.Goals as goal

pub returns-in-WaitTime : goal.returns-in-WaitTime
returns-in-WaitTime c = record {
  carries = c.wait_until.ensures.carries c.args.code.now c.args.acts.now;
}

pub returns-in-WaitEvent : goal.returns-in-WaitEvent
returns-in-WaitEvent c = record {
  carries = c.wait_for_event.ensures.carries c.args.world.now c.args.code.now c.args.acts.now;
}

pub returns-in-Yield : goal.returns-in-Yield
returns-in-Yield c = record {
  carries = c.yield_now.ensures.carries c.args.code.now c.args.acts.now;
}
