use Rattle.sample_buf.proofs.Names.{riff_answer}
use Rattle.sample_buf.proofs.chunk.riff_chunks.Goals as goal

pub returns : goal.returns
returns c =
    let a = c.in_ok-strip_prefix.ensures.cases in
    let b = c.in_ok-behind.ensures.cases in
    riff_answer c.args.file.now c.as_slice.result.now c.in_ok-strip_prefix.field-0.now c.in_ok-behind.behind.now c.as_slice-2.result.now c.strip_prefix-2.result c.as_slice.ensures a.0 a.1 b.0 b.2 c.as_slice-2.ensures
    c.strip_prefix-2.ensures.cases
