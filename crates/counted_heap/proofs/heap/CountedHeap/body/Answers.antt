use Rattle.std.proofs.Common.{◌∙◌, sym, ap}
use Rattle.std.specs.Option.{option_copied}
use Rattle.counted_heap.proofs.Reading.{get_live, body_of}
use Rattle.counted_heap.proofs.heap.CountedHeap.body.Goals as goal

pub unwrap-requires : goal.unwrap-requires
unwrap-requires c = get_live _ _ _ c.args.at c.get.result c.self.view_is c.requires c.get.ensures

pub returns : goal.returns
returns c = body_of _ _ _ c.args.at _ c.self.view_is c.requires (sym c.get.ensures
    ∙ ap option_copied c.unwrap.ensures)
