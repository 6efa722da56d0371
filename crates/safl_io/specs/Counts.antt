-- Counts of faults. They never fall, and stay at the greatest number of their type once they are there.
use Rattle.std.specs.Prelude.{ℕ, ◌≡◌, ◌<◌, ◌+◌, ◌⊎◌, min}

-- the greatest count: the greatest number of 64 bits
abbrev pub last_count : ℕ
last_count = 0xffff_ffff_ffff_ffff

-- the count rose, or is at its greatest
abbrev pub Rose : ℕ → ℕ → Type 0
Rose before now = (before < now) ⊎ (now ≡ last_count)

-- a count raised by one, unless it is at its greatest
abbrev pub raised : ℕ → ℕ
raised count = min (count + 1) last_count
