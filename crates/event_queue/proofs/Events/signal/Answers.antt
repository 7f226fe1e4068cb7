use Rattle.std.proofs.Common.{◌≡◌, ◌∷◌, ℕ, Option, IfSome, None, Some, ap, sym, subst, ◌∙◌}
use Rattle.std.specs.Option.{option_map}
use Rattle.event_queue.specs.Waiters.{Wait, longest, without, waits_on, AreApart}
use Rattle.event_queue.specs.Events.{all_waits, wait_of}
use Rattle.event_queue.proofs.Queued.{longest_same, without_same, apart_same}
use Rattle.event_queue.proofs.Waiters.{none_on, others_on}
use Rattle.event_queue.proofs.Events.signal.Goals as goal

none : (c : goal.After-from_residual) → longest c.args.event.serial c.args.self.now ≡ None
none c =
    sym (ap (longest c.args.event.serial) c.self.view_is)
    ∙ sym (longest_same (record { object = c.args.event }) c.self.inside.queues)
    ∙ ap (option_map wait_of) (sym c.first_of.ensures ∙ c.in_err-shred.was)

pub returns-in_err-shred-clause-longest : goal.returns-in_err-shred-clause-longest
returns-in_err-shred-clause-longest c =
    let number : Option Wait → Option ℕ = option_map (λ wait. wait.shred) in
    c.from_residual.ensures ∙ sym (ap number (none c))

pub returns-in_err-shred-clause-others : goal.returns-in_err-shred-clause-others
returns-in_err-shred-clause-others c =
    let e = c.args.event.serial in
    let old = c.args.self.now in
    subst (λ o. IfSome o (λ wait. waits_on e old ≡ wait ∷ waits_on e old))
    (sym (none c)) tt

pub returns-in_err-shred-clause-none : goal.returns-in_err-shred-clause-none
returns-in_err-shred-clause-none c =
    rw c.from_residual.ensures (none_on c.args.event.serial c.args.self.now (none c))

found : (c : goal.After-remove) → longest c.args.event.serial c.args.self.now
    ≡ Some (wait_of (c.in_ok-shred.field-0-0, c.in_ok-shred.shred))
found c =
    sym (ap (longest c.args.event.serial) c.self.view_is)
    ∙ sym (longest_same (record { object = c.args.event }) c.self.inside.queues)
    ∙ ap (option_map wait_of) (sym c.first_of.ensures ∙ c.in_ok-shred.was)

taken : (c : goal.After-remove) → all_waits c.remove.new.self ≡ without c.in_ok-shred.shred c.args.self.now
taken c =
    ap all_waits c.remove.ensures.without ∙ without_same c.in_ok-shred.shred c.self.inside.queues
    ∙ ap (without c.in_ok-shred.shred) c.self.view_is

pub returns-clause-longest : goal.returns-clause-longest
returns-clause-longest c =
    let number : Option Wait → Option ℕ = option_map (λ wait. wait.shred) in
    sym (ap number (found c))

pub returns-clause-taken : goal.returns-clause-taken
returns-clause-taken c = taken c

pub returns-clause-others : goal.returns-clause-others
returns-clause-others c =
    others_on c.args.event.serial c.args.self.now (all_waits c.remove.new.self)
    (wait_of (c.in_ok-shred.field-0-0, c.in_ok-shred.shred))
    (subst AreApart c.self.view_is (apart_same c.self.inside.queues c.remove.ensures.apart))
    (found c) (taken c)
