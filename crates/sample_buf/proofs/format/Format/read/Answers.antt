use Rattle.std.proofs.Common.{arith}
use Rattle.sample_buf.proofs.Fields.{read_format, fit_numbers}
use Rattle.sample_buf.proofs.format.Format.read.Goals as goal
use Rattle.sample_buf.proofs.format.Format.read.Goals.{then-coding-ne1-via-then-coding-ne1, then-coding-ne1-via-else-coding-ne1+then-bits-ne16, then-coding-ne1-via-else-coding-ne1+else-bits-ne16+then-channels-lt1, then-coding-ne1-via-else-coding-ne1+else-bits-ne16+else-channels-lt1+then-channels-gt2}

pub returns-then-coding-ne1 : goal.returns-then-coding-ne1
returns-then-coding-ne1 c format s =
    let f = fit_numbers c.args.body.now c.read_u16-coding.result c.read_u16-channels.result c.read_u32-rate.result c.read_u16-bits.result format (record {
      long = omega (arith, c.if-body-lt16.false);
      coding_is = c.read_u16-coding.ensures;
      channels_is = c.read_u16-channels.ensures;
      rate_is = c.read_u32-rate.ensures;
      bits_is = c.read_u16-bits.ensures;
    }) s in
    elim c.then-coding-ne1.branch [
      | then-coding-ne1-via-then-coding-ne1 w ↦ absurd (omega arith)
      | then-coding-ne1-via-else-coding-ne1+then-bits-ne16 w ↦ absurd (omega arith)
      | then-coding-ne1-via-else-coding-ne1+else-bits-ne16+then-channels-lt1 w ↦ absurd (omega arith)
      | then-coding-ne1-via-else-coding-ne1+else-bits-ne16+else-channels-lt1+then-channels-gt2 w ↦ absurd (omega arith)
    ]

pub returns : goal.returns
returns c =
    read_format c.args.body.now c.read_u16-coding.result c.read_u16-channels.result c.read_u32-rate.result c.read_u16-bits.result (λ i. omega (arith, c.type_inv.body i)) (record {
      long = omega (arith, c.if-body-lt16.false);
      coding_is = c.read_u16-coding.ensures;
      channels_is = c.read_u16-channels.ensures;
      rate_is = c.read_u32-rate.ensures;
      bits_is = c.read_u16-bits.ensures;
    }) (omega arith) (omega arith) (omega arith) (omega arith) (omega arith) (omega arith)
