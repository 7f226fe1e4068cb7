use Rattle.std.proofs.Common.{ap, is_some, ◌∙◌}
use Rattle.live_shreds.specs.Live.{numbered}
use Rattle.live_shreds.proofs.Entries.{lookup-live}
use Rattle.live_shreds.proofs.shreds.Shreds.is_live.Goals as goal

pub returns : goal.returns
returns c =
    c.contains_key.ensures
    ∙ ap is_some (lookup-live c.args.number c.self.inside.live.entries c.self.invariant.named
    ∙ ap (numbered c.args.number) c.self.view_is)
