use Rattle.std.proofs.Common.{◌≡◌, ◌^◌, ◌<◌, ◌≤◌, take, length, true}
use Rattle.std.specs.List.{list_all}
use Rattle.ck_lexer.specs.Bytes.{is_digit}
use Rattle.command_inputs.specs.Words.{decimal_value}
use Rattle.command_inputs.proofs.words.value_of.Given as goal

abbrev pub invariant-loop-digit : goal.invariant-loop-digit
invariant-loop-digit l = record {
  value : l.value ≡ decimal_value (take l.digit-index l.digits);
  below : l.value < 10 ^ l.digit-index;
  few : length l.digits ≤ 9;
  digits : list_all is_digit l.digits ≡ true;
}
