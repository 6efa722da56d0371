use Rattle.std.proofs.Common.{◌≡◌, ◌<◌, ◌^◌, take}
use Rattle.safl_word.specs.Numerals.{value}
use Rattle.safl_vparse.proofs.numbers.bounded.Given as goal

abbrev pub invariant-loop-c : goal.invariant-loop-c
invariant-loop-c l = record {
  counted : l.number ≡ value l.base (take l.c-index l.bytes);
  small : l.number < 2 ^ 128;
}
