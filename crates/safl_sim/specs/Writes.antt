-- Writing numbers to places.
use Rattle.std.specs.Prelude.{◌≡◌, ℕ, ◌+◌, ◌*◌, ◌<◌, ◌≤◌, List, [], ◌∷◌, length, Some, slice_get, slice_set, slice_index}
use Rattle.safl_word.specs.Words.{Word, IsWord}
use Rattle.safl_net.specs.declared.cell.Sig.{Sig}
use Rattle.safl_sim.specs.declared.step.Step.{Step}
use Rattle.safl_sim.specs.declared.step.Register.{Register}
use Rattle.safl_sim.specs.Marks.{marked}
use Rattle.safl_sim.specs.Readers.{Kept, Shown}
use Rattle.safl_sim.specs.States.{placed}
use Rattle.safl_sim.specs.Steps.{action_number, Ready, LowStep}

-- the first `count` words are written to their places
pub record HasPut (places : List Sig) (given : List Word) (count : ℕ) (old new : List ℕ) : Type 0 where
  pub long : length new ≡ length old
  pub put : (k : ℕ) (s : Sig) (w : Word) → k < count → slice_get places k ≡ Some s → slice_get given k ≡ Some w → slice_index new s.0 ≡ w.bits
  pub words : (k : ℕ) (w : Word) → k < count → slice_get given k ≡ Some w → IsWord w
  pub others : (t : ℕ) → ((k : ℕ) (s : Sig) → slice_get places k ≡ Some s → ¬ (s.0 ≡ t)) → slice_index new t ≡ slice_index old t

-- the first `count` registers show the numbers of the state
pub record HasShown (registers : List Register) (state : List ℕ) (count : ℕ) (old new : List ℕ) : Type 0 where
  pub long : length new ≡ length old
  pub shown : (k : ℕ) (r : Register) → k < count → slice_get registers k ≡ Some r → slice_index new r.signal.0 ≡ slice_index state r.signal.0
  pub others : (t : ℕ) → ((k : ℕ) (r : Register) → slice_get registers k ≡ Some r → ¬ (r.signal.0 ≡ t)) → slice_index new t ≡ slice_index old t

-- the first `count` registers have as their state the numbers of their next signals
pub record HasKept (registers : List Register) (values : List ℕ) (count : ℕ) (old new : List ℕ) : Type 0 where
  pub long : length new ≡ length old
  pub kept : (k : ℕ) (r : Register) → k < count → slice_get registers k ≡ Some r → slice_index new r.signal.0 ≡ slice_index values r.next.0
  pub others : (t : ℕ) → ((k : ℕ) (r : Register) → slice_get registers k ≡ Some r → ¬ (r.signal.0 ≡ t)) → slice_index new t ≡ slice_index old t

-- the numbers after some steps, each of which is ready when its turn comes
abbrev pub after_steps : List Step → List ℕ → List ℕ
after_steps [] values = values
after_steps (s ∷ steps) values = after_steps steps (slice_set values s.wire.0 (action_number (slice_index values) s.action))

abbrev pub AllReady : List Step → List ℕ → Type 0
AllReady [] values = Unit {0}
AllReady (s ∷ steps) values = Ready values s.action × LowStep values s × (s.wire.0 < length values)
    × AllReady steps (slice_set values s.wire.0 (action_number (slice_index values) s.action))

-- while the waiting registers are being shown, and none before a place waits any longer
pub record ShowsWaiting (regs : List Register) (now : List ℕ) (place : ℕ) (start values waiting : List ℕ) : Type 0 where
  pub long : length values ≡ length start
  pub below : (k : ℕ) → k < place → marked waiting k ≡ 0
  pub shown : Shown regs now values waiting
  pub others : (t : ℕ) → ((k : ℕ) (r : Register) → slice_get regs k ≡ Some r → ¬ (r.signal.0 ≡ t)) → slice_index values t ≡ slice_index start t
  pub within : (k : ℕ) → marked waiting k ≡ 1 → k < length regs

-- while the marked registers are being kept, and none before a place is marked any longer
pub record KeepsOn (first : ℕ) (regs : List Register) (values : List ℕ) (place : ℕ) (start was now marks waiting : List ℕ) : Type 0 where
  pub long : length now ≡ length start
  pub below : (k : ℕ) → first ≤ k → k < place → marked marks k ≡ 0
  pub low : (k : ℕ) → k < first → marked marks k ≡ marked was k
  pub within : (k : ℕ) → marked marks k ≡ 1 → k < first + length regs
  pub kept : Kept first regs now values marks
  pub others : (t : ℕ) → ((k : ℕ) (r : Register) → slice_get regs k ≡ Some r → ¬ (r.signal.0 ≡ t)) → slice_index now t ≡ slice_index start t
  pub waits : (k : ℕ) → marked was (first + k) ≡ 1 → marked waiting k ≡ 0 → marked marks (first + k) ≡ 1
  pub waiters : (k : ℕ) → marked waiting k ≡ 1 → k < length regs

-- while the marked registers are being kept, with a number for each register; `first` and `word` are numbers of words of marks
abbrev pub IsKeeping : ℕ → List Register → List ℕ → ℕ → List ℕ → List ℕ → List ℕ → List ℕ → List ℕ → Type 0
IsKeeping first regs values word start was numbers marks waiting =
    KeepsOn (first * 64) regs values (word * 64) start was (placed (length values) regs numbers) marks waiting

-- the marked registers from one word of marks to another are kept
abbrev pub KeepsUpTo : ℕ → List Register → List ℕ → ℕ → ℕ → List ℕ → List ℕ → List ℕ → List ℕ → List ℕ → List ℕ → Type 0
KeepsUpTo first regs values from to numbers numbers' marks marks' waiting waiting' = (start was : List ℕ)
    → IsKeeping first regs values from start was numbers marks waiting → IsKeeping first regs values to start was numbers' marks' waiting'
