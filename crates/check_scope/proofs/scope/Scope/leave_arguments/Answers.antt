use Rattle.std.proofs.Common.{◌≡◌, true, if◌then◌else◌, List, sym, ap, ◌∙◌, arith}
use Rattle.ck_syntax.specs.Tree.{Name}
use Rattle.check_scope.specs.Scope.{Scope, front, declares_members}
use Rattle.check_scope.proofs.Levels.{all_but_last}
use Rattle.check_scope.proofs.scope.Scope.leave_arguments.Goals as goal

pub returns : goal.returns
returns c =
    let now = c.args.self.now in
    let unseen = ap (λ (s : Scope). s.unseen) c.self.view_is in
    let here : declares_members now ≡ true = grind (arith, c.declares_members.ensures, c.if-not-declares_members.ensures) in
    ap (λ (s : Scope). record s { unseen = c.pop.new.self.items }) c.self.view_is
    ∙ ap (λ (u : List Name). record now { unseen = u }) (c.pop.ensures.rest
    ∙ all_but_last c.self.inside.unseen.items _ (omega arith)
    ∙ ap front unseen ∙ sym (ap (λ b. if b then front now.unseen else now.unseen) here))
