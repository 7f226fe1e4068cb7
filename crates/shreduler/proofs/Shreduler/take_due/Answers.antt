use mir.Syntax.{w64}
use mir.Val.{SFits, to_z, of_z}
use Rattle.std.proofs.Common.{ap, sym, subst, rules, int_lt, true, false, ℕ, ℤ, Option, Some, slice_get, refl, ◌≡◌, ◌∙◌}
use Rattle.std.proofs.lemmas.Int.{to_z-of_z}
use Rattle.std.specs.Option.{option_map}
use Rattle.shreduler.specs.Queue.{Due, all_due, first_due, without}
use Rattle.shreduler.proofs.Dues.{first_same, first_by, without_same, first_come, first_later}
use Rattle.shred_queues.specs.Places as places
use Rattle.shred_queues.proofs.Orders.{without_front}
use Rattle.shreduler.proofs.Shreduler.take_due.Goals as goal

pub returns-in_err-time-clause-first : goal.returns-in_err-time-clause-first
returns-in_err-time-clause-first c =
    let number : Option Due → Option ℕ = option_map (λ due. due.shred) in
    c.from_residual.ensures
    ∙ sym (ap (λ e. number (first_by c.args.now e)) (sym c.first.ensures.first ∙ c.in_err-time.was))
    ∙ sym (ap number (first_same c.args.now c.self.inside.queues c.first.ensures.rising))
    ∙ ap (λ due. number (first_due c.args.now due)) c.self.view_is

pub returns-then-time-now-clause-first : goal.returns-then-time-now-clause-first
returns-then-time-now-clause-first c =
    let number : Option Due → Option ℕ = option_map (λ due. due.shred) in
    let fits : SFits w64 c.in_ok-time.time = search rules in
    let now_fits : SFits w64 c.args.now = search rules in
    let one = to_z-of_z w64 c.args.now now_fits in
    let two = to_z-of_z w64 c.in_ok-time.time fits in
    let e : ℤ × ℕ = (c.in_ok-time.time, c.in_ok-time.field-0-1) in
    sym (ap number (first_later c.args.now e (subst (λ t. int_lt c.args.now t ≡ true) two
    (subst (λ n. int_lt n (to_z w64 (of_z w64 c.in_ok-time.time)) ≡ true) one c.if-time-now.true))))
    ∙ sym (ap (λ e. number (first_by c.args.now e)) (sym c.first.ensures.first ∙ c.in_ok-time.was))
    ∙ sym (ap number (first_same c.args.now c.self.inside.queues c.first.ensures.rising))
    ∙ ap (λ due. number (first_due c.args.now due)) c.self.view_is

pub returns-clause-first : goal.returns-clause-first
returns-clause-first c =
    let number : Option Due → Option ℕ = option_map (λ due. due.shred) in
    let fits : SFits w64 c.in_ok-time.time = search rules in
    let now_fits : SFits w64 c.args.now = search rules in
    let one = to_z-of_z w64 c.args.now now_fits in
    let two = to_z-of_z w64 c.in_ok-time.time fits in
    let e : ℤ × ℕ = (c.in_ok-time.time, c.in_ok-time.field-0-1) in
    let popped = ap (λ es. slice_get es 0) c.in_ok-shred.ensures.first in
    let same : Some (c.in_ok-shred.field-0-0, c.in_ok-shred.shred) ≡ Some e =
    sym popped ∙ sym c.first.ensures.first ∙ c.in_ok-time.was in
    ap (option_map (λ (e : ℤ × ℕ). e.1)) same
    ∙ sym (ap number (first_come c.args.now e (subst (λ t. int_lt c.args.now t ≡ false) two
    (subst (λ n. int_lt n (to_z w64 (of_z w64 c.in_ok-time.time)) ≡ false) one c.if-time-now.false))))
    ∙ sym (ap (λ e. number (first_by c.args.now e)) (sym c.first.ensures.first ∙ c.in_ok-time.was))
    ∙ sym (ap number (first_same c.args.now c.self.inside.queues c.first.ensures.rising))
    ∙ ap (λ due. number (first_due c.args.now due)) c.self.view_is

pub returns-clause-taken : goal.returns-clause-taken
returns-clause-taken c =
    let n = c.in_ok-shred.shred in
    let e : ℤ × ℕ = (c.in_ok-shred.field-0-0, n) in
    let left = c.pop_first.new.self in
    let apart = subst places.AreApart c.in_ok-shred.ensures.first c.first.ensures.apart in
    ap all_due (sym (without_front n e left refl apart) ∙ ap (places.without n) (sym c.in_ok-shred.ensures.first))
    ∙ without_same n c.self.inside.queues
    ∙ ap (without n) c.self.view_is
