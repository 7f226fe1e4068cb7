use Rattle.std.proofs.Common.{arith}
use Rattle.ck_edges.proofs.memory_press.MemPress.end_of.Goals as goal

pub overflow_add-i : goal.overflow_add-i
overflow_add-i c = omega (arith, c.args.self.now.starts.ok, c.args.self.now.starts.small)
