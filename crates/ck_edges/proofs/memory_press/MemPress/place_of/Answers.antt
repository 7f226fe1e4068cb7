use Rattle.std.proofs.Common.{◌<◌, ◌∙◌, arith, length, suc, add-one, drop, ap, sym, subst}
use Rattle.ck_edges.specs.Starts.{end_before, EndsBy}
use Rattle.ck_edges.proofs.Sheets.{length-sheets_at, sheet_read, EndsBy-get_or}
use Rattle.ck_edges.proofs.Sheets.{end_before-drop-le}
use Rattle.ck_edges.proofs.memory_press.MemPress.place_of.Goals as goal

pub index-requires : goal.index-requires
index-requires c =
    let press = c.args.self.now in
    omega (arith, length-sheets_at press.text.items press.starts.items press.unended)

pub end_of-requires : goal.end_of-requires
end_of-requires c =
    let press = c.args.self.now in
    omega (arith, length-sheets_at press.text.items press.starts.items press.unended)

pub returns-clause-sheet : goal.returns-clause-sheet
returns-clause-sheet c =
    let press = c.args.self.now in
    let starts = press.starts.items in
    let within : c.args.i < length starts =
    omega (arith, length-sheets_at press.text.items starts press.unended) in
    sheet_read press.text.items starts press.unended c.args.i c.index.result.now c.end_of.result
    within c.index.ensures c.end_of.ensures

pub returns-clause-in_order : goal.returns-clause-in_order
returns-clause-in_order c =
    let press = c.args.self.now in
    let starts = press.starts.items in
    let start = c.index.result.now in
    let within : c.args.i < length starts =
    omega (arith, length-sheets_at press.text.items starts press.unended) in
    let behind = c.end_of.ensures
    ∙ ap (λ n. end_before (drop n starts) (length press.text.items)) (add-one c.args.i) in
    let last = end_before (drop (suc c.args.i) starts) (length press.text.items) in
    subst (EndsBy start) (sym behind)
    (subst (λ start. EndsBy start last) (sym c.index.ensures)
    (EndsBy-get_or starts (length press.text.items) c.args.i start within press.in_order))

pub returns-clause-within : goal.returns-clause-within
returns-clause-within c =
    let press = c.args.self.now in
    rw (c.end_of.ensures)
    (end_before-drop-le press.starts.items (length press.text.items) _ press.in_order)
