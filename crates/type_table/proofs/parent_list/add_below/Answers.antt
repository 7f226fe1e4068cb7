use Rattle.type_table.proofs.BelowFacts.{put_on_ok}
use Rattle.type_table.proofs.parent_list.add_below.Goals as goal

pub returns : goal.returns
returns c =
    put_on_ok c.args.first c.args.class c.add.result c.args.lists.now c.add.new.self c.args.ancestor
    c.if-ancestor-first.false c.add.ensures.added
