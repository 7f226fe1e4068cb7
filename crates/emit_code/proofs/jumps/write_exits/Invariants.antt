use Rattle.std.proofs.Common.{◌≡◌, drop, vec_len}
use Rattle.emit_code.specs.Exits.{written}
use Rattle.emit_code.proofs.jumps.write_exits.Given as goal

abbrev pub invariant-loop-it : goal.invariant-loop-it
invariant-loop-it l = record {
  code : written l.out l.again (drop l.it-index l.held) l.code.items
      ≡ written l.out l.again l.held l.initial.code.items;
  len : vec_len l.code ≡ vec_len l.initial.code;
}
