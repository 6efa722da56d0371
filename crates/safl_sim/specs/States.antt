-- The states of registers, by register and by signal.
use Rattle.std.specs.Prelude.{◌≡◌, ℕ, ◌*◌, ◌^◌, ◌<◌, ◌≤◌, List, [], ◌∷◌, length, replicate, Some, true, slice_get, slice_set, slice_index}
use Rattle.safl_net.specs.Netlist.{Netlist}
use Rattle.safl_net.specs.Valuations.{kind_reset}
use Rattle.safl_net.specs.Making.{kind_at}
use Rattle.safl_sim.specs.declared.step.Register.{Register}

-- the numbers of the registers at their signals, and 0 for all other signals
abbrev pub placed : ℕ → List Register → List ℕ → List ℕ
placed count [] numbers = replicate count 0
placed count (r ∷ rs) [] = replicate count 0
placed count (r ∷ rs) (x ∷ xs) = slice_set (placed count rs xs) r.signal.0 x

-- there is a number for each register, which its signal has too
pub record AreAt (regs : List Register) (numbers now : List ℕ) : Type 0 where
  pub long : length numbers ≡ length regs
  pub each : (k : ℕ) (r : Register) → slice_get regs k ≡ Some r → slice_index now r.signal.0 ≡ slice_index numbers k

-- the signals of the registers and their next signals are below this number
abbrev pub AreBelow : List Register → ℕ → Type 0
AreBelow regs count = (k : ℕ) (r : Register) → slice_get regs k ≡ Some r → r.signal.0 < count

abbrev pub HaveNextsBelow : List Register → ℕ → Type 0
HaveNextsBelow regs count = (k : ℕ) (r : Register) → slice_get regs k ≡ Some r → r.next.0 < count

-- no two registers have the same signal
abbrev pub AreOnce : List Register → Type 0
AreOnce regs = (i j : ℕ) (r q : Register) → slice_get regs i ≡ Some r → slice_get regs j ≡ Some q → r.signal.0 ≡ q.signal.0 → i ≡ j

-- narrow registers have numbers of at most 64 bits, both as they are shown and as their states
abbrev pub AreLow : List Register → List ℕ → List ℕ → Type 0
AreLow regs values numbers = (k : ℕ) (r : Register) → slice_get regs k ≡ Some r → r.narrow ≡ true
    → (slice_index values r.signal.0 < 2 ^ 64) × (slice_index numbers k < 2 ^ 64)

-- the next signals of narrow registers have numbers of at most 64 bits
abbrev pub HaveLowNexts : List Register → List ℕ → Type 0
HaveLowNexts regs values = (k : ℕ) (r : Register) → slice_get regs k ≡ Some r → r.narrow ≡ true → slice_index values r.next.0 < 2 ^ 64

-- these values and states can be those of the registers: no place is beyond the values, and none is of two registers
pub record CanShow (regs : List Register) (values state : List ℕ) : Type 0 where
  pub within : AreBelow regs (length values)
  pub once : AreOnce regs
  pub low : AreLow regs values state

-- the registers can take their next states from these values: each has a state and a mark to wait by
pub record CanKeep (regs : List Register) (values state marks waiting : List ℕ) : Type 0 where
  pub few : length marks ≤ 2 ^ 32
  pub room : length regs ≤ length waiting * 64
  pub states : length state ≡ length regs
  pub within : AreBelow regs (length values)
  pub next : HaveNextsBelow regs (length values)
  pub low : HaveLowNexts regs values
  pub once : AreOnce regs

-- there are as many words of marks as before, and of marks by which registers wait
pub record AsManyMarks (old new wait wait' : List ℕ) : Type 0 where
  pub marks : length new ≡ length old
  pub waiting : length wait' ≡ length wait

-- the first `count` registers have their numbers at reset
pub record AreReset (n : Netlist) (regs : List Register) (count : ℕ) (numbers : List ℕ) : Type 0 where
  pub long : length numbers ≡ count
  pub each : (k : ℕ) (r : Register) → k < count → slice_get regs k ≡ Some r → slice_index numbers k ≡ kind_reset (kind_at n r.signal.0)
