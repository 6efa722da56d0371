use Rattle.safl_word.proofs.Common.{is_digit, list_all, take, true, ◌≡◌}
use Rattle.safl_word.proofs.bytes.digits_length.Given as goal

abbrev pub invariant-loop-i : goal.invariant-loop-i
invariant-loop-i l = list_all (is_digit l.base) (take l.i l.text) ≡ true
