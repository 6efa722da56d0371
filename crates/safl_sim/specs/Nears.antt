-- Near readers: those whose marks are in one word with the step that writes what they read, or with a register's first reader.
use Rattle.std.specs.Prelude.{◌≡◌, ℕ, ◌+◌, ◌*◌, ◌/◌, ◌%◌, ◌<◌, ◌≤◌, List, length, Some, slice_get, slice_index}
use Rattle.std.specs.Int.{bit_at}
use Rattle.safl_sim.specs.declared.step.Near.{Near}
use Rattle.safl_sim.specs.declared.step.Group.{Group}
use Rattle.safl_sim.specs.declared.step.Register.{Register}
use Rattle.safl_sim.specs.declared.step.Step.{Step}

-- Of a part of the readers, those whose marks are in the word have their bits in the mask, and no other bit of it is 1. The
-- readers before number `first` are all in the word.
pub record IsNear (readers : List ℕ) (from to word : ℕ) (near : Near) : Type 0 where
  pub least : from ≤ near.first
  pub most : near.first ≤ to
  pub last : near.end ≡ to
  pub early : (j k : ℕ) → from ≤ j → j < near.first → slice_get readers j ≡ Some k → k / 64 ≡ word
  pub all : (j k : ℕ) → from ≤ j → j < to → slice_get readers j ≡ Some k → k / 64 ≡ word → bit_at near.mask (k % 64) ≡ 1
  pub only : (b : ℕ) → b < 64 → ((j : ℕ) → from ≤ j → j < to → ¬ (slice_get readers j ≡ Some (word * 64 + b))) → bit_at near.mask b ≡ 0

-- the near readers of place p, and its other ones
abbrev pub NearAt : List ℕ → List ℕ → ℕ → ℕ → Near → Type 0
NearAt starts readers p word near = IsNear readers (slice_index starts p) (slice_index starts (p + 1)) word near

-- the near readers of the wire of step i, with their mask; and those of every step
abbrev pub NearOf : List ℕ → List ℕ → ℕ → Step → ℕ → Type 0
NearOf starts readers i s mask = NearAt starts readers s.wire.0 (i / 64) (record { mask = mask; first = s.first; end = s.end })

pub record AreNear (starts readers : List ℕ) (steps : List Step) (masks : List ℕ) : Type 0 where
  pub long : length masks ≡ length steps
  pub each : (i : ℕ) (s : Step) (mask : ℕ) → slice_get steps i ≡ Some s → slice_get masks i ≡ Some mask → NearOf starts readers i s mask

-- the near readers of a register, in the word of its group; and those of every register
abbrev pub GroupOf : List ℕ → List ℕ → Register → Group → Type 0
GroupOf starts readers r g = NearAt starts readers r.signal.0 g.word g.near

pub record AreGrouped (starts readers : List ℕ) (registers : List Register) (groups : List Group) : Type 0 where
  pub long : length groups ≡ length registers
  pub each : (k : ℕ) (r : Register) (g : Group) → slice_get registers k ≡ Some r → slice_get groups k ≡ Some g → GroupOf starts readers r g
