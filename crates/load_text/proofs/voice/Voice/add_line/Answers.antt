use Rattle.load_text.proofs.Steps.{voice_written}
use Rattle.load_text.proofs.voice.Voice.add_line.Goals as goal

pub returns : goal.returns
returns c = voice_written _ _ _ _ _ _ c.args.number c.args.self
    c.in_ok-add_number.ensures c.in_ok-add_number-2.ensures c.in_ok-add_number-3.ensures
    c.in_ok-add_number-4.ensures c.in_ok-extend_from_slice.ensures.items
