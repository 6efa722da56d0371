-- The row of numbers that a seed begins, and the work that is left.
use Rattle.std.specs.Prelude.{ℕ, ◌+◌, ◌*◌, ◌%◌, ◌^◌}

-- the number after x in the row
abbrev pub number_after : ℕ → ℕ
number_after x = (x * 1103515245 + 12345) % 2 ^ 31

-- what is left to do, where so much is below and so much above: a step down leaves their sum, and a step up makes it less
abbrev pub work : ℕ → ℕ → ℕ
work below above = (below + above) * (below + above) + below
