use Rattle.std.proofs.Common.{◌≡◌, map, take}
use Rattle.safl_word.specs.Halves.{low_half, high_half}
use Rattle.safl_word.proofs.halves.Numbers.new.Given as goal

abbrev pub invariant-numbers : goal.invariant-numbers
invariant-numbers l = record {
  low : l.low.items ≡ map low_half (take l.number-index l.numbers);
  high : l.high.items ≡ map high_half (take l.number-index l.numbers);
}
