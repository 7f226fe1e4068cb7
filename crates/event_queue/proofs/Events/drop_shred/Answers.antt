use Rattle.std.proofs.Common.{ap, sym, ◌∙◌}
use Rattle.std.specs.Option.{option_map}
use Rattle.event_queue.specs.Waiters.{Wait, waiting, without}
use Rattle.event_queue.specs.Events.{all_waits}
use Rattle.event_queue.proofs.Queued.{waiting_same, without_same}
use Rattle.event_queue.proofs.Events.drop_shred.Goals as goal

pub returns-in_err-event-clause-event : goal.returns-in_err-event-clause-event
returns-in_err-event-clause-event c =
    c.from_residual.ensures
    ∙ sym (ap (option_map _) (sym c.remove.ensures.place ∙ c.in_err-event.was))
    ∙ waiting_same c.args.shred c.self.inside.queues
    ∙ ap (λ waits. option_map (λ (wait : Wait). wait.event) (waiting c.args.shred waits)) c.self.view_is

pub returns-in_err-event-clause-without : goal.returns-in_err-event-clause-without
returns-in_err-event-clause-without c =
    ap all_waits c.remove.ensures.without ∙ without_same c.args.shred c.self.inside.queues
    ∙ ap (without c.args.shred) c.self.view_is

pub returns-clause-event : goal.returns-clause-event
returns-clause-event c =
    sym (ap (option_map _) (sym c.remove.ensures.place ∙ c.in_ok-event.was))
    ∙ waiting_same c.args.shred c.self.inside.queues
    ∙ ap (λ waits. option_map (λ (wait : Wait). wait.event) (waiting c.args.shred waits)) c.self.view_is

pub returns-clause-without : goal.returns-clause-without
returns-clause-without c =
    ap all_waits c.remove.ensures.without ∙ without_same c.args.shred c.self.inside.queues
    ∙ ap (without c.args.shred) c.self.view_is
