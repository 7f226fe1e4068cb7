use Rattle.std.proofs.Common.{ap, sym, subst, ◌∙◌}
use Rattle.shred_queues.specs.Queues.{keyed, AreBefore}
use Rattle.shred_queues.proofs.Orders.{on_ok}
use Rattle.shred_queues.proofs.Tickets.{free_next, put_next, before_next}
use Rattle.shred_queues.proofs.queues.add.Goals as goal

pub put-requires-clause-free : goal.put-requires-clause-free
put-requires-clause-free g c =
    free_next g.K.Ord.cmp c.args.ticket c.args.key c.args.places.now c.requires.before

pub returns-clause-arrived : goal.returns-clause-arrived
returns-clause-arrived g c =
    on_ok c.put.result c.put.ensures.put
    (λ put. ap keyed put
    ∙ put_next g.K.Ord.cmp g.met.K.Ord.total c.args.ticket c.args.shred c.args.key c.args.places.now
    c.requires.before c.put.ensures.orderly.ordered)

pub returns-clause-before : goal.returns-clause-before
returns-clause-before g c =
    on_ok c.put.result c.put.ensures.put
    (λ put. subst (AreBefore _) (sym put)
    (before_next g.K.Ord.cmp c.args.ticket c.args.shred c.args.key c.args.places.now c.requires.before))
