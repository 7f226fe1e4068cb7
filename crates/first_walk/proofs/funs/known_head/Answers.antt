use Rattle.std.proofs.Common.{◌∙◌}
use Rattle.ck_syntax.specs.View.{view_fun}
use Rattle.first_walk.proofs.KnownHeads.{known}
use Rattle.first_walk.proofs.funs.known_head.Goals as goal

pub returns-in-Some-clause-known : goal.returns-in-Some-clause-known
returns-in-Some-clause-known c =
    known c.args.table.now c.args.file (view_fun c.args.fun.now) _
    (c.in_ok-head.ensures.made ∙ c.in-Some.is)
