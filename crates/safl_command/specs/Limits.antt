-- The ranges of the numbers on a command line.
use Rattle.std.specs.Prelude.{ℕ}

-- the greatest number of cycles of a run, and of events of a walk
abbrev pub cycles_max : ℕ
cycles_max = 1000000000
