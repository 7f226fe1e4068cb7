use Rattle.std.proofs.Common.{rules}
use Rattle.load_text.specs.LoadText.{sporks}
use Rattle.load_text.proofs.Steps.{spork_more}
use Rattle.load_text.proofs.add_sporks.Goals as goal

pub loop-number-init : goal.loop-number-init
unfolding sporks
loop-number-init c = search rules

pub loop-number-preserved : goal.loop-number-preserved
loop-number-preserved c = spork_more _ _ _ _ c.loop-number.number c.loop-number.invariant
    c.in_ok-add_number.ensures c.in_ok-extend_from_slice.ensures.items
