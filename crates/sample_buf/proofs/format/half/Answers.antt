use Rattle.std.proofs.Common.{drop, ◌∙◌, rules}
use mir.Syntax.{w16}
use mir.Val.{SFits}
use Rattle.sample_buf.proofs.Halves.{half_is, in_part}
use Rattle.sample_buf.proofs.format.half.Goals as goal

pub returns : goal.returns
returns c =
    let f : SFits w16 c.read_i16-left.result = search rules in
    let g : SFits w16 c.read_i16-right.result = search rules in
    half_is c.read_i16-left.result c.read_i16-right.result c.from.result c.from-2.result c.div_euclid.result _ _ f g c.from.ensures c.from-2.ensures c.div_euclid.ensures
    c.read_i16-left.ensures (c.read_i16-right.ensures ∙ in_part (drop 2 c.args.frame.now))
