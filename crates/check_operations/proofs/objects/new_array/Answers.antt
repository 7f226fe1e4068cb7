use Rattle.std.proofs.Common.{◌≡◌, ◌∙◌, ◌<◌, ◌∷◌, ◌++◌, [], length, ap, arith}
use Rattle.std.proofs.lemmas.Bool.Decides.{nat_tests}
use Rattle.check_scope.specs.Expressions.{new_array}
use Rattle.check_scope.specs.View.{all_typed}
use Rattle.check_operations.proofs.TypedLists.{many_sizes}
use Rattle.check_operations.proofs.objects.new_array.Goals as goal

pub returns : goal.returns
returns c =
    let split : c.args.sizes.items ≡ (c.pop-2.new.self.items ++ c.in-Some-pop.before ∷ []) ++ c.in-Some.last ∷ [] =
    c.in-Some.ensures.items ∙ ap (λ xs. xs ++ c.in-Some.last ∷ []) c.in-Some-pop.ensures.items in
    let some : 0 < length c.pop-2.new.self.items = grind (arith, nat_tests) in
    λ _. ap (λ xs. new_array c.args.table.now c.args.scope.now c.args.line c.args.elem (all_typed xs)) split
    ∙ many_sizes c.args.table.now c.args.scope.now c.args.line c.args.elem c.pop-2.new.self.items c.in-Some-pop.before
    c.in-Some.last some
    ∙ c.mismatch.ensures
