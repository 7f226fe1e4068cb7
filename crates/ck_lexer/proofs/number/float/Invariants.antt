use Rattle.std.proofs.Common.{◌≡◌, ◌≤◌, ◌+◌, ◌*◌, ◌^◌, ◌++◌, take}
use Rattle.ck_lexer.specs.Numbers.{number_in, max_whole}
use Rattle.ck_lexer.proofs.number.float.Given as goal

abbrev pub invariant-loop-digit : goal.invariant-loop-digit
invariant-loop-digit l = record {
  value : l.number ≡ number_in 10 (l.fn.whole ++ take l.digit-index l.counted);
  scaled : l.scale ≡ 10 ^ l.digit-index;
  small : l.number + 15 ≤ (max_whole + 15) * l.scale;
}
