use Rattle.std.proofs.Common.{rules, ◌≡◌, ◌∙◌, length, map-id, subst, sym}
use Rattle.std.specs.Vec.Iter.{into_iter_items, into_iter_len}
use Rattle.std.proofs.lemmas.Iterator.Adapters.{YieldsList-from_vec}
use Rattle.std.proofs.lemmas.Iterator.Consumers.{YieldsList-end}
use Rattle.code_gen.proofs.SameFuns.{SameFuns, SameFuns-more, all_same}
use Rattle.code_gen.proofs.program.generate_funs.Goals as goal

pub loop-fun-preserved : goal.loop-fun-preserved
loop-fun-preserved c =
    SameFuns-more c.args.classes.now c.args.texts.now c.loop-fun.yielded c.loop-fun.codes.items
    c.push.new.self.items c.in-Some.fun c.in_ok-generate_fun.field-0 c.in_ok-push.ensures.items
    c.loop-fun.invariant c.in_ok-generate_fun.ensures

pub returns : goal.returns
returns c =
    let funs = c.args.funs.items in
    let begun : into_iter_items c.into_iter-fun-iterator.result ≡ funs = search rules in
    let long : into_iter_len c.into_iter-fun-iterator.result ≡ length funs = search rules in
    let ends =
    YieldsList-end (YieldsList-from_vec {s = c.into_iter-fun-iterator.result} funs begun long)
    c.loop-fun.yielded c.loop-fun.fun-iterator c.loop-fun.yielded_by c.next.result c.next.new.self
    c.in-None.is c.next.ensures.steps in
    let all : c.loop-fun.yielded ≡ funs = sym (map-id c.loop-fun.yielded) ∙ ends.0 in
    λ f. all_same c.args.classes.now c.args.texts.now funs c.loop-fun.codes.items f
    (subst (λ fns. SameFuns c.args.classes.now c.args.texts.now fns c.loop-fun.codes.items) all
    c.loop-fun.invariant)
