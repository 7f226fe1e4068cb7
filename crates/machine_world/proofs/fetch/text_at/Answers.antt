use Rattle.std.proofs.Common.{length, get_or, refl, ap, ◌∙◌}
use Rattle.std.proofs.lemmas.Option.{slice_get_read}
use Rattle.machine_world.proofs.Texts.{text_within, text_is}
use Rattle.machine_world.proofs.fetch.text_at.Goals as goal

pub returns : goal.returns
returns c =
    let texts = c.args.code.now.texts in
    let k = c.args.k in
    let text = c.index-items-k.result in
    let is = c.index-items-k.is ∙ ap (λ vs. get_or vs k text) c.items.ensures in
    text_is texts k text
    (slice_get_read texts (length texts) k text refl (text_within texts k c.requires) is)
