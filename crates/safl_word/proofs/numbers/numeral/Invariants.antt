use Rattle.safl_word.proofs.Common.{is_digit, list_all, take, true, value, ◌<◌, ◌^◌, ◌≡◌}
use Rattle.safl_word.proofs.numbers.numeral.Given as goal

abbrev pub invariant-loop-c : goal.invariant-loop-c
invariant-loop-c l = record {
  counted : l.number ≡ value l.base (take l.c-index l.bytes);
  digits : list_all (is_digit l.base) (take l.c-index l.bytes) ≡ true;
  small : l.number < 2 ^ 128;
}
