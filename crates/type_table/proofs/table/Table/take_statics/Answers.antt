use Rattle.std.proofs.Common.{rules, ◌≡◌, ◌∙◌, ap, sym, add-one, map, length, get_or, slice_set}
use Rattle.ck_typed.specs.Standing.{given}
use Rattle.type_table.proofs.Given.{given_first, one_more, all_given}
use Rattle.type_table.proofs.table.Table.take_statics.Goals as goal

pub loop-i-preserved : goal.loop-i-preserved
loop-i-preserved c =
    let old = c.replace-statics.result.items in
    let is = c.index.ensures ∙ ap (λ ks. get_or ks c.loop-i.i c.index.result.now) c.loop-i.invariant in
    ap (λ ks. slice_set ks c.loop-i.i c.given.result) c.loop-i.invariant
    ∙ ap (λ k. slice_set (given_first c.loop-i.i old) c.loop-i.i k) c.given.ensures
    ∙ one_more old c.loop-i.i c.index.result.now is ∙ ap (λ n. given_first n old) (sym (add-one c.loop-i.i))

pub returns : goal.returns
returns c =
    let old = c.replace-statics.result.items in
    let whole : given_first c.loop-i.i old ≡ given_first (length old) old = search rules in
    let taken : old ≡ c.args.self.now.statics = search rules in
    let made : c.from_vec.result ≡ c.loop-i.statics.items = search rules in
    made ∙ c.loop-i.invariant ∙ whole ∙ all_given old ∙ ap (map given) taken
