use Rattle.safl_word.proofs.Common.{is_digit, list_all, take, true, value, ◌<◌, ◌^◌, ◌≡◌}
use Rattle.safl_word.proofs.numbers.short_number.Given as goal

abbrev pub invariant-loop-c : goal.invariant-loop-c
invariant-loop-c l = record {
  counted : l.number ≡ value 10 (take l.c-index l.text);
  digits : list_all (is_digit 10) (take l.c-index l.text) ≡ true;
  small : l.number < 10 ^ l.c-index;
}
