use Rattle.std.proofs.Common.{◌≡◌, [], ◌∷◌, ◌++◌, ◌∙◌, ◌≤◌, length, ap, sym, arith, length-append}
use Rattle.std.proofs.Common.{true}
use Rattle.std.proofs.lemmas.Grind.{common_steps}
use Rattle.ck_edges.specs.declared.memory_press.Start.{Start}
use Rattle.ck_edges.specs.Press.{with_begun}
use Rattle.ck_edges.specs.Starts.{sheets_at}
use Rattle.ck_edges.proofs.Sheets.{sheets_at-begun, AreInOrder-begun}
use Rattle.ck_edges.proofs.memory_press.MemPress.start.Goals as goal

pub invariant_of-self-clause-in_order : goal.invariant_of-self-clause-in_order
invariant_of-self-clause-in_order c =
    let press = c.args.self.now in
    let text = c.extend_from_slice.new.self.items in
    let begun : Start = record { name = c.len-place.result; bytes = c.len-bytes.result } in
    let grown : text ≡ press.text.items ++ c.args.name.now = grind (arith, common_steps) in
    let more : c.push.new.self.items ≡ press.starts.items ++ begun ∷ [] =
    grind (arith, common_steps) in
    let named : begun.name ≡ length press.text.items = grind (arith, common_steps) in
    let filled : begun.bytes ≡ length text = grind (arith, common_steps) in
    let ordered : begun.name ≤ begun.bytes =
    omega (arith, ap length grown, length-append press.text.items c.args.name.now) in
    rw (more)
    (AreInOrder-begun press.starts.items begun (length press.text.items) (length text) named
    (ordered, omega arith) press.in_order)

pub returns-clause-begun : goal.returns-clause-begun
returns-clause-begun c =
    let press = c.args.self.now in
    let text = c.extend_from_slice.new.self.items in
    let begun : Start = record { name = c.len-place.result; bytes = c.len-bytes.result } in
    let grown : text ≡ press.text.items ++ c.args.name.now = grind (arith, common_steps) in
    let more : c.push.new.self.items ≡ press.starts.items ++ begun ∷ [] =
    grind (arith, common_steps) in
    let named : begun.name ≡ length press.text.items = grind (arith, common_steps) in
    let filled : begun.bytes ≡ length (press.text.items ++ c.args.name.now) =
    grind (arith, common_steps) in
    let closed = c.requires.closed in
    ap (λ text. sheets_at text c.push.new.self.items true) grown
    ∙ ap (λ starts. sheets_at (press.text.items ++ c.args.name.now) starts true) more
    ∙ sheets_at-begun press.text.items c.args.name.now press.starts.items begun named filled
    press.in_order
    ∙ ap (λ unended. with_begun c.args.name.now
    (sheets_at press.text.items press.starts.items unended)) (sym closed)
