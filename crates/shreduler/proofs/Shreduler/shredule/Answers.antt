use mir.Syntax.{w64}
use mir.Val.{SFits}
use Rattle.std.proofs.Common.{rules, ap, ◌∙◌}
use Rattle.std.proofs.lemmas.Int.{to_z-of_z}
use Rattle.std.specs.Ordering.{int_cmp}
use Rattle.shred_queues.specs.Queues as queues
use Rattle.shred_queues.proofs.Orders.{on_ok}
use Rattle.shreduler.specs.Queue.{all_due, arrived}
use Rattle.shreduler.proofs.Dues.{arrived_same}
use Rattle.shreduler.proofs.Shreduler.shredule.Goals as goal

pub returns-clause-due : goal.returns-clause-due
returns-clause-due c =
    let fits : SFits w64 c.args.time = search rules in
    let es = c.self.inside.queues in
    on_ok c.push.result c.push.ensures.arrived
    (λ put. ap all_due put
    ∙ ap (λ time. all_due (queues.arrived int_cmp time c.args.shred es))
    (to_z-of_z w64 c.args.time fits)
    ∙ arrived_same c.args.time c.args.shred es
    ∙ ap (arrived (record { time = c.args.time; shred = c.args.shred })) c.self.view_is)
