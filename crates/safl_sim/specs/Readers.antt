-- The readers of each place, and what changes when a place gets a new number.
use Rattle.std.specs.Prelude.{◌≡◌, ◌⊎◌, ℕ, ◌+◌, ◌/◌, ◌^◌, ◌<◌, ◌≤◌, List, map, length, Some, Result, OnOk, slice_get, slice_set, slice_index}
use Rattle.safl_word.specs.Words.{Word, pick}
use Rattle.safl_net.specs.declared.cell.Sig.{Sig}
use Rattle.safl_net.specs.Netlist.{Netlist, Signal, Wire, Cell}
use Rattle.safl_net.specs.Valuations.{signal_word, cell_word}
use Rattle.safl_net.specs.Making.{kind_at}
use Rattle.safl_order.specs.Order.{operands_of}
use Rattle.safl_sim.specs.declared.step.Action.{Action}
use Rattle.safl_sim.specs.declared.step.Action.TheVariants.{Choose, WideChoose}
use Rattle.safl_sim.specs.declared.step.Step.{Step}
use Rattle.safl_sim.specs.declared.step.Register.{Register}
use Rattle.safl_sim.specs.Marks.{marked, first_register}

-- The readers of place p are the part of all readers from number `starts[p]` up to where those of the next place begin.
pub record Lists (starts readers : List ℕ) (places words : ℕ) : Type 0 where
  pub long : length starts ≡ places + 1
  pub ordered : (p : ℕ) → p < places → slice_index starts p ≤ slice_index starts (p + 1)
  pub within : (p : ℕ) → p < places → slice_index starts (p + 1) ≤ length readers
  pub known : (j k : ℕ) → slice_get readers j ≡ Some k → k / 64 < words

-- k is a reader of place p
abbrev pub Reader : List ℕ → List ℕ → ℕ → ℕ → Type 0
Reader starts readers p k = (j : ℕ) × (slice_index starts p ≤ j) × (j < slice_index starts (p + 1)) × (slice_get readers j ≡ Some k)

-- the readers from one number to another are some of those of place p
abbrev pub IsPart : List ℕ → ℕ → ℕ → ℕ → Type 0
IsPart starts p from to = (p + 1 < length starts) × (slice_index starts p ≤ from) × (to ≤ slice_index starts (p + 1))

-- The readers of a place are exactly the steps with the place as an operand, and the registers with it as their next signal.
pub record AreReaders (n : Netlist) (ws : List ℕ) (regs : List Register) (starts readers : List ℕ) : Type 0 where
  pub all : (p k i s : ℕ) → slice_get ws k ≡ Some s → slice_get (operands_of n s) i ≡ Some p → Reader starts readers p k
  pub nexts : (k : ℕ) (r : Register) → slice_get regs k ≡ Some r → Reader starts readers r.next.0 (first_register (length ws) + k)
  pub only : (p k : ℕ) → Reader starts readers p k → k < first_register (length ws)
      → (s : ℕ) × (i : ℕ) × (slice_get ws k ≡ Some s) × (slice_get (operands_of n s) i ≡ Some p)
  pub within : (p k : ℕ) → Reader starts readers p k → k < first_register (length ws) + length regs

-- the action is a choice that is blind to a place: the place is neither its condition nor what it selects
abbrev pub IsBlind : (ℕ → ℕ) → ℕ → Action → Type 0
IsBlind f p (Choose c a b) = ¬ (c ≡ p) × ¬ (pick (f c) a b ≡ p)
IsBlind f p (WideChoose c a b) = ¬ (c ≡ p) × ¬ (pick (f c) a b ≡ p)
IsBlind f p action = ⊥

-- k is a step, and blind to the place
abbrev pub Blind : List Step → List ℕ → ℕ → ℕ → Type 0
Blind steps values p k = (k < length steps) × ((s : Step) → slice_get steps k ≡ Some s → IsBlind (slice_index values) p s.action)

-- each of some readers is marked now, or blind to place p; other marks are as before
pub record HasMarked (steps : List Step) (readers : List ℕ) (from to p : ℕ) (values old new : List ℕ) : Type 0 where
  pub long : length new ≡ length old
  pub grows : (k : ℕ) → marked old k ≡ 1 → marked new k ≡ 1
  pub all : (j k : ℕ) → from ≤ j → j < to → slice_get readers j ≡ Some k → (marked new k ≡ 1) ⊎ Blind steps values p k
  pub others : (k : ℕ) → ((j : ℕ) → from ≤ j → j < to → ¬ (slice_get readers j ≡ Some k)) → marked new k ≡ marked old k

-- the number x is written to place p; if it is new there, each reader of the place is marked now, or blind to it
pub record HasGiven (steps : List Step) (starts readers : List ℕ) (p x : ℕ) (values values' marks marks' : List ℕ) : Type 0 where
  pub is : values' ≡ slice_set values p x
  pub long : length marks' ≡ length marks
  pub grows : (k : ℕ) → marked marks k ≡ 1 → marked marks' k ≡ 1
  pub told : (k : ℕ) → ¬ (slice_index values p ≡ x) → Reader starts readers p k → (marked marks' k ≡ 1) ⊎ Blind steps values' p k
  pub others : (k : ℕ) → ¬ (Reader starts readers p k) → marked marks' k ≡ marked marks k

-- the wire has the number of its cell
abbrev pub Agrees : Netlist → List ℕ → ℕ → Cell → Type 0
Agrees n values s c = slice_index values s ≡ (cell_word c.op (map (signal_word n values) c.operands)).bits

-- each wire whose step is not marked has the number of its cell
abbrev pub Stays : Netlist → List ℕ → List ℕ → List ℕ → Type 0
Stays n ws values marks = (k s : ℕ) (c : Cell) → slice_get ws k ≡ Some s → kind_at n s ≡ Wire (Some c) → marked marks k ≡ 0 → Agrees n values s c

-- each register that is not marked has the number of its next signal as its state
abbrev pub Kept : ℕ → List Register → List ℕ → List ℕ → List ℕ → Type 0
Kept first regs now values marks = (k : ℕ) (r : Register) → slice_get regs k ≡ Some r → marked marks (first + k) ≡ 0
    → slice_index now r.signal.0 ≡ slice_index values r.next.0

-- each register that does not wait shows its state
abbrev pub Shown : List Register → List ℕ → List ℕ → List ℕ → Type 0
Shown regs now values waiting = (k : ℕ) (r : Register) → slice_get regs k ≡ Some r → marked waiting k ≡ 0
    → slice_index values r.signal.0 ≡ slice_index now r.signal.0

-- only steps and registers that exist are marked
pub record Inside (steps registers : ℕ) (marks : List ℕ) : Type 0 where
  pub step : (k : ℕ) → marked marks k ≡ 1 → k < first_register steps → k < steps
  pub register : (k : ℕ) → marked marks k ≡ 1 → k < first_register steps + registers

-- what holds of the steps and registers without marks
pub record Holding (n : Netlist) (ws : List ℕ) (regs : List Register) (now values marks : List ℕ) : Type 0 where
  pub stays : Stays n ws values marks
  pub kept : Kept (first_register (length ws)) regs now values marks
  pub inside : Inside (length ws) (length regs) marks

-- no register is a wire
abbrev pub RegistersAway : List Register → List ℕ → Type 0
RegistersAway regs ws = (k : ℕ) (r : Register) → slice_get regs k ≡ Some r → (i : ℕ) → ¬ (slice_get ws i ≡ Some r.signal.0)

-- no input is a wire; and each word fits its input
abbrev pub InputsAway : List Sig → List ℕ → Type 0
InputsAway inputs ws = (k : ℕ) (s : Sig) → slice_get inputs k ≡ Some s → (i : ℕ) → ¬ (slice_get ws i ≡ Some s.0)

abbrev pub InputsFit : Netlist → List Sig → List Word → Type 0
InputsFit n inputs words = (k : ℕ) (s : Sig) (w : Word) (g : Signal) → slice_get inputs k ≡ Some s → slice_get words k ≡ Some w
    → slice_get n.signals s.0 ≡ Some g → w.bits < 2 ^ g.width

-- k reads place p: it is a step with p as an operand, or a register with p as its next signal
abbrev pub ReadsPlace : Netlist → List ℕ → List Register → ℕ → ℕ → Type 0
ReadsPlace n ws regs p k = ((s : ℕ) × (i : ℕ) × (slice_get ws k ≡ Some s) × (slice_get (operands_of n s) i ≡ Some p))
    ⊎ ((i : ℕ) × (r : Register) × (k ≡ first_register (length ws) + i) × (slice_get regs i ≡ Some r) × (r.next.0 ≡ p))

-- number k is on list p
abbrev pub On : List (List ℕ) → ℕ → ℕ → Type 0
On lists p k = (v : List ℕ) × (e : ℕ) × (slice_get lists p ≡ Some v) × (slice_get v e ≡ Some k)

-- Of the numbers from k on, each one that reads a place is on the place's list, and so is the step before k for its first i
-- operands. Nothing else is on a list.
pub record AreLists (n : Netlist) (ws : List ℕ) (regs : List Register) (k i : ℕ) (lists : List (List ℕ)) : Type 0 where
  pub all : (p j : ℕ) → k ≤ j → ReadsPlace n ws regs p j → On lists p j
  pub own : (p j m s : ℕ) → j + 1 ≡ k → m < i → slice_get ws j ≡ Some s → slice_get (operands_of n s) m ≡ Some p → On lists p j
  pub only : (p j : ℕ) → On lists p j → ReadsPlace n ws regs p j

-- on success, the lists have all readers from the second number on, if they had all from the first number on
abbrev pub ListsDown : {A E : Type 0} → Result A E → Netlist → List ℕ → List Register → ℕ → ℕ → List (List ℕ) → List (List ℕ) → Type 0
ListsDown r n ws regs from to old new = AreLists n ws regs from 0 old → OnOk r (AreLists n ws regs to 0 new)

-- the same, when the registers are added, whose marks begin with `first`; and when a step with these operands is added
abbrev pub ListsNexts : {A E : Type 0} → Result A E → List Register → ℕ → List (List ℕ) → List (List ℕ) → Type 0
ListsNexts r regs first old new = (n : Netlist) (ws : List ℕ) → first ≡ first_register (length ws)
    → ListsDown r n ws regs (first + length regs) first old new

abbrev pub ListsOperands : {A E : Type 0} → Result A E → List ℕ → ℕ → List (List ℕ) → List (List ℕ) → Type 0
ListsOperands r operands k old new = (n : Netlist) (ws : List ℕ) (regs : List Register) (s : ℕ) → slice_get ws k ≡ Some s
    → operands_of n s ≡ operands → ListsDown r n ws regs (k + 1) k old new

-- the first `count` lists are laid out one after another
pub record AreFlat (lists : List (List ℕ)) (starts readers : List ℕ) (count : ℕ) : Type 0 where
  pub long : length starts ≡ count + 1
  pub last : slice_index starts count ≡ length readers
  pub ordered : (p : ℕ) → p < count → slice_index starts p ≤ slice_index starts (p + 1)
  pub within : (p : ℕ) → p ≤ count → slice_index starts p ≤ length readers
  pub all : (p j : ℕ) → p < count → On lists p j → Reader starts readers p j
  pub only : (p j : ℕ) → p < count → Reader starts readers p j → On lists p j
  pub from : (j k : ℕ) → slice_get readers j ≡ Some k → (p : ℕ) × On lists p k
