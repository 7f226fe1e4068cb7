use Rattle.std.proofs.Common.{◌∙◌, ap, sym}
use Rattle.ck_edges.specs.Press.{with_ended}
use Rattle.ck_edges.specs.Starts.{sheets_at}
use Rattle.ck_edges.proofs.Sheets.{sheets_at-ended}
use Rattle.ck_edges.proofs.memory_press.MemPressPress.end.Goals as goal

pub returns-clause-ended : goal.returns-clause-ended
returns-clause-ended c =
    let press = c.args.self.now in
    sheets_at-ended press.text.items press.starts.items
    ∙ ap (λ unended. with_ended (sheets_at press.text.items press.starts.items unended))
    (sym c.requires)
