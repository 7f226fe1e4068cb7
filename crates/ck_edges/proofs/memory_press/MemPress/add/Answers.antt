use Rattle.std.proofs.Common.{◌≡◌, ◌++◌, ◌∙◌, ◌≤◌, length, ap, arith, length-append}
use Rattle.std.proofs.lemmas.Grind.{common_steps}
use Rattle.ck_edges.specs.Starts.{sheets_at}
use Rattle.ck_edges.proofs.Sheets.{sheets_at-written, AreInOrder-longer}
use Rattle.ck_edges.proofs.memory_press.MemPress.add.Goals as goal

pub invariant_of-self-clause-in_order : goal.invariant_of-self-clause-in_order
invariant_of-self-clause-in_order c =
    let press = c.args.self.now in
    let text = c.extend_from_slice.new.self.items in
    let grown : text ≡ press.text.items ++ c.args.bytes.now = grind (arith, common_steps) in
    let longer : length press.text.items ≤ length text =
    omega (arith, ap length grown, length-append press.text.items c.args.bytes.now) in
    AreInOrder-longer press.starts.items _ _ longer press.in_order

pub returns-clause-written : goal.returns-clause-written
returns-clause-written c =
    let press = c.args.self.now in
    let text = c.extend_from_slice.new.self.items in
    let grown : text ≡ press.text.items ++ c.args.bytes.now = grind (arith, common_steps) in
    ap (λ text. sheets_at text press.starts.items press.unended) grown
    ∙ sheets_at-written press.text.items c.args.bytes.now press.starts.items press.unended
    press.in_order
