use Rattle.std.proofs.Common.{arith}
use Rattle.ck_edges.proofs.Sheets.{length-sheets_at}
use Rattle.ck_edges.proofs.memory_press.MemPress.sheets.Goals as goal

pub returns : goal.returns
returns c =
    let press = c.args.self.now in
    omega (arith, length-sheets_at press.text.items press.starts.items press.unended)
