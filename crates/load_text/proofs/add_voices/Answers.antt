use Rattle.std.proofs.Common.{rules, ◌∙◌, ap, sym}
use Rattle.ugen_kinds.specs.Words.{words_from}
use Rattle.load_text.specs.LoadText.{voices, words_after, after_voice, voice_of}
use Rattle.load_text.proofs.Steps.{voice_more, words_after-more}
use Rattle.load_text.proofs.add_voices.Goals as goal

pub loop-number-init : goal.loop-number-init
unfolding words_from words_after voices
loop-number-init c = search rules

pub loop-number-preserved : goal.loop-number-preserved
loop-number-preserved c =
    let drawn = c.loop-number.invariant.1 in (
      voice_more _ _ _ c.args.seed c.loop-number.number c.draw.result
          c.loop-number.invariant.0 (c.draw.ensures.voice ∙ ap voice_of drawn) c.in_ok-add_line.ensures,
      c.draw.ensures.words ∙ ap after_voice drawn
          ∙ sym (words_after-more c.args.seed c.loop-number.number),
    )
