use Rattle.std.proofs.Common.{ap, ◌∙◌}
use Rattle.shred_queues.proofs.Orders.{on_ok}
use Rattle.event_queue.specs.Waiters.{arrived}
use Rattle.event_queue.specs.Events.{all_waits}
use Rattle.event_queue.proofs.Queued.{arrived_same}
use Rattle.event_queue.proofs.Events.wait.Goals as goal

pub returns-clause-waits : goal.returns-clause-waits
returns-clause-waits c =
    on_ok c.push.result c.push.ensures.arrived
    (λ put. ap all_waits put ∙ arrived_same (record { object = c.args.event }) c.args.shred c.self.inside.queues
    ∙ ap (arrived (record { event = c.args.event; shred = c.args.shred })) c.self.view_is)
