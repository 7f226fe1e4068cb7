use Rattle.load_text.proofs.Steps.{text_written}
use Rattle.load_text.proofs.load_text.Goals as goal

pub returns-clause-text : goal.returns-clause-text
returns-clause-text c = text_written _ _ _ _ _ c.args.seed
    c.in_ok-extend_from_slice.ensures.items c.in_ok-add_voices.ensures c.in_ok-add_sporks.ensures
    c.in_ok-extend_from_slice-2.ensures.items
