use Rattle.std.proofs.Common.{◌≡◌, ◌<◌, ◌≤◌, ◌-◌, ◌∙◌, nat_lt, true, suc, arith, length, sym}
use Rattle.std.proofs.lemmas.Grind.{common_steps}
use Rattle.ck_edges.proofs.Sheets.{length-sheets_at, ended_read, ended_before-drop}
use Rattle.ck_edges.proofs.Sheets.{ended_before-past}
use Rattle.ck_edges.proofs.memory_press.MemPress.is_ended.Goals as goal

pub overflow_sub-len : goal.overflow_sub-len
overflow_sub-len c =
    let press = c.args.self.now in
    omega (arith, length-sheets_at press.text.items press.starts.items press.unended)

pub returns-then-len-i-gt1 : goal.returns-then-len-i-gt1
returns-then-len-i-gt1 c =
    let press = c.args.self.now in
    let starts = press.starts.items in
    let within : c.args.i < length starts =
    omega (arith, length-sheets_at press.text.items starts press.unended) in
    let another : suc c.args.i < length starts = omega arith in
    let holds : nat_lt 1 (c.len.result - c.args.i) ≡ true = grind (arith, common_steps) in
    ended_read press.text.items starts press.unended c.args.i _ within
    (holds ∙ sym (ended_before-drop starts (suc c.args.i) press.unended another))

pub returns-else-len-i-gt1 : goal.returns-else-len-i-gt1
returns-else-len-i-gt1 c =
    let press = c.args.self.now in
    let starts = press.starts.items in
    let within : c.args.i < length starts =
    omega (arith, length-sheets_at press.text.items starts press.unended) in
    let last : length starts ≤ suc c.args.i = omega arith in
    ended_read press.text.items starts press.unended c.args.i _ within
    (sym (ended_before-past starts (suc c.args.i) press.unended last))
