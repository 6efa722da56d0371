-- Steps: the cells of a net, prepared for evaluation.
use Rattle.std.specs.Prelude.{◌≡◌, ℕ, ◌+◌, ◌*◌, ◌<◌, ◌≤◌, ◌^◌, List, [], ◌∷◌, map, length, Some, IsSome, Bool, true, false, slice_get, slice_index}
use Rattle.safl_word.specs.Words.{IsWord, pick, as_word}
use Rattle.safl_word.specs.Primitives.{result_width, apply_prim}
use Rattle.safl_word.specs.declared.primitive.Primitive.{Primitive}
use Rattle.safl_word.specs.declared.primitive.Primitive.TheVariants as primitive
use Rattle.safl_word.specs.Narrow.{HasLow}
use Rattle.safl_net.specs.declared.cell.Sig.{Sig}
use Rattle.safl_net.specs.Netlist.{Netlist, Kind, Input, Reg, Wire, Cell, width_of}
use Rattle.safl_net.specs.Valuations.{cell_word}
use Rattle.safl_net.specs.Rules.{IsNetlist, CellFits}
use Rattle.safl_net.specs.Laws.{FitWidths}
use Rattle.safl_net.specs.Making.{kind_at, numbers}
use Rattle.safl_order.specs.Order.{Order, IsOrder, IsWire}
use Rattle.safl_sim.specs.declared.step.Action.{Action}
use Rattle.safl_sim.specs.declared.step.Action.TheVariants.{Choose, One, Two, Not, Add, Sub, And, Or, Xor, Eq, Shl}
use Rattle.safl_sim.specs.declared.step.Action.TheVariants.{Shr, Bits, Const, WideChoose, WideOne, WideTwo}
use Rattle.safl_sim.specs.declared.step.Step.{Step}
use Rattle.safl_sim.specs.declared.step.Register.{Register}
use Rattle.safl_sim.specs.Places.{inputs_of}
use Rattle.safl_sim.specs.Marks.{marked, first_register}
use Rattle.safl_sim.specs.Readers.{Lists, AreReaders, Holding, Shown}
use Rattle.safl_sim.specs.States.{AreOnce}

-- an action in plain form: a constant, a choice, or a primitive on one or two operands
pub data Plain : Type 0 where
  Constant : (x : ℕ) → Plain
  Choice : (c a b : ℕ) → Plain
  Unary : (p : Primitive) (w a : ℕ) → Plain
  Binary : (p : Primitive) (w v a b : ℕ) → Plain

abbrev pub plain : Action → Plain
plain (Const a b c d) = Constant (a + b * 2 ^ 32 + c * 2 ^ 64 + d * 2 ^ 96)
plain (Choose c a b) = Choice c a b
plain (One p w a) = Unary p w a
plain (Two p w v a b) = Binary p w v a b
plain (Not w a) = Unary primitive.Not w a
plain (Add w v a b) = Binary primitive.Add w v a b
plain (Sub w v a b) = Binary primitive.Sub w v a b
plain (And w v a b) = Binary primitive.And w v a b
plain (Or w v a b) = Binary primitive.Or w v a b
plain (Xor w v a b) = Binary primitive.Xor w v a b
plain (Eq w v a b) = Binary primitive.Eq w v a b
plain (Shl w v a b) = Binary primitive.Shl w v a b
plain (Shr w v a b) = Binary primitive.Shr w v a b
plain (Bits high low w a) = Unary (primitive.Bits high low) w a
plain (WideChoose c a b) = Choice c a b
plain (WideOne p w a) = Unary p w a
plain (WideTwo p w v a b) = Binary p w v a b

-- the number that an action gives, if the signals have these numbers
abbrev pub plain_number : (ℕ → ℕ) → Plain → ℕ
plain_number f (Constant x) = x
plain_number f (Choice c a b) = pick (f c) (f a) (f b)
plain_number f (Unary p w a) = (apply_prim p (as_word w (f a) ∷ [])).bits
plain_number f (Binary p w v a b) = (apply_prim p (as_word w (f a) ∷ as_word v (f b) ∷ [])).bits

abbrev pub action_number : (ℕ → ℕ) → Action → ℕ
action_number f action = plain_number f (plain action)

-- the operands of an action exist, and are words that it takes
abbrev pub PlainReady : List ℕ → Plain → Type 0
PlainReady values (Constant x) = Unit {0}
PlainReady values (Choice c a b) = (c < length values) × (a < length values) × (b < length values)
PlainReady values (Unary p w a) = (a < length values) × IsWord (as_word w (slice_index values a)) × IsSome (result_width p (w ∷ []))
PlainReady values (Binary p w v a b) = (a < length values) × (b < length values) × IsWord (as_word w (slice_index values a))
    × IsWord (as_word v (slice_index values b))
    × IsSome (result_width p (w ∷ v ∷ []))

abbrev pub Ready : List ℕ → Action → Type 0
Ready values action = PlainReady values (plain action)

-- the numbers that an action takes and gives have at most 64 bits
abbrev pub PlainLow : List ℕ → Plain → Type 0
PlainLow values (Constant x) = x < 2 ^ 64
PlainLow values (Choice c a b) = (slice_index values c < 2 ^ 64) × (slice_index values a < 2 ^ 64) × (slice_index values b < 2 ^ 64)
PlainLow values (Unary p w a) = (slice_index values a < 2 ^ 64) × (w ≤ 64) × HasLow (result_width p (w ∷ []))
PlainLow values (Binary p w v a b) = (slice_index values a < 2 ^ 64) × (slice_index values b < 2 ^ 64) × (w ≤ 64) × HasLow (result_width p (w ∷ v ∷ []))

abbrev pub Low : List ℕ → Action → Type 0
Low values action = PlainLow values (plain action)

-- whether an action is one for at most 64 bits
abbrev pub is_low : Action → Bool
is_low (Const a b c d) = false
is_low (WideChoose c a b) = false
is_low (WideOne p w a) = false
is_low (WideTwo p w v a b) = false
is_low action = true

-- if an action is one for at most 64 bits, what it takes and gives has no more
abbrev pub LowOf : List ℕ → Action → Type 0
LowOf values (Const a b c d) = Unit {0}
LowOf values (WideChoose c a b) = Unit {0}
LowOf values (WideOne p w a) = Unit {0}
LowOf values (WideTwo p w v a b) = Unit {0}
LowOf values action = Low values action

-- a wire and all operands of its cell have at most 64 bits
pub record IsNarrow (n : Netlist) (s : ℕ) (c : Cell) : Type 0 where
  pub wire : width_of n s ≤ 64
  pub operands : (i t : ℕ) → slice_get c.operands i ≡ Some t → width_of n t ≤ 64

-- the action of a cell: it is ready for all words that fit, and gives the cell's word
pub record Performs (n : Netlist) (c : Cell) (action : Action) : Type 0 where
  pub gives : (f : ℕ → ℕ) → FitWidths n f → action_number f action ≡ (cell_word c.op (map (λ t. as_word (width_of n t) (f t)) c.operands)).bits
  pub ready : (values : List ℕ) → length values ≡ length n.signals → FitWidths n (slice_index values) → Ready values action
  pub low : (values : List ℕ) (s : ℕ) → FitWidths n (slice_index values) → CellFits n (width_of n s) c → IsNarrow n s c → Low values action

pub record IsStep (n : Netlist) (s : ℕ) (step : Step) : Type 0 where
  pub wire : step.wire.0 ≡ s
  pub cell : Cell
  pub is : kind_at n s ≡ Wire (Some cell)
  pub performs : Performs n cell step.action
  pub narrow : is_low step.action ≡ true → IsNarrow n s cell

-- if a step's action is one for at most 64 bits, what it takes and gives has no more, and neither has its wire
abbrev pub LowStep : List ℕ → Step → Type 0
LowStep values step = LowOf values step.action × (is_low step.action ≡ true → slice_index values step.wire.0 < 2 ^ 64)

-- the steps of these wires, in this order
pub record AreSteps (n : Netlist) (wires : List ℕ) (steps : List Step) : Type 0 where
  pub long : length steps ≡ length wires
  pub each : (k s : ℕ) (step : Step) → slice_get wires k ≡ Some s → slice_get steps k ≡ Some step → IsStep n s step

abbrev pub IsReg : Kind → Type 0
IsReg Input = ⊥
IsReg (Reg init next) = Unit {0}
IsReg (Wire cell) = ⊥

-- all registers below a number, each with its next signal
pub record AreRegisters (n : Netlist) (count : ℕ) (registers : List Register) : Type 0 where
  pub each : (k : ℕ) (r : Register) → slice_get registers k ≡ Some r → (init : ℕ) × (kind_at n r.signal.0 ≡ Reg init (Some r.next.0))
  pub all : (s : ℕ) → s < count → IsReg (kind_at n s) → (k : ℕ) × (r : Register) × (slice_get registers k ≡ Some r) × (r.signal.0 ≡ s)
  pub narrow : (k : ℕ) (r : Register) → slice_get registers k ≡ Some r → r.narrow ≡ true → width_of n r.signal.0 ≤ 64
  pub few : length registers ≤ count
  pub below : (k : ℕ) (r : Register) → slice_get registers k ≡ Some r → r.signal.0 < count
  pub once : AreOnce registers

-- when numbers are written to places that are no wires, all numbers still fit, and what holds of steps and registers without
-- marks still holds
abbrev pub Goes : Netlist → List ℕ → List Step → List Register → List ℕ → List ℕ → List ℕ → List ℕ → List ℕ → List ℕ → List ℕ → Type 0
Goes n ws steps regs now starts readers values values' marks marks' = AreReaders n ws regs starts readers → AreSteps n ws steps → FitWidths n (slice_index now)
    → FitWidths n (slice_index values) → Holding n ws regs now values marks → FitWidths n (slice_index values') × Holding n ws regs now values' marks'

-- every register that does not wait shows its state
pub record Waits (regs : List Register) (now values waiting : List ℕ) : Type 0 where
  pub room : length regs ≤ length waiting * 64
  pub few : length waiting ≤ 2 ^ 32
  pub shown : Shown regs now values waiting
  pub within : (k : ℕ) → marked waiting k ≡ 1 → k < length regs

-- What holds of a simulator between two cycles: its parts are those of the net, and steps, registers and the registers that wait
-- are as their marks say.
pub record KeepsSimulation (o : Order) (all : List Step) (places : List Sig) (regs : List Register)
    (starts readers marks waiting now shown : List ℕ) : Type 0 where
  pub made : IsNetlist o.net
  pub order : IsOrder o.net o.wires
  pub steps : AreSteps o.net o.wires all
  pub inputs : numbers places ≡ inputs_of o.net
  pub registers : AreRegisters o.net (length o.net.signals) regs
  pub lists : Lists starts readers (length o.net.signals) (length marks)
  pub read : AreReaders o.net o.wires regs starts readers
  pub room : first_register (length all) + length regs ≤ length marks * 64
  pub few : length marks ≤ 2 ^ 32
  pub long : length shown ≡ length o.net.signals
  pub values : FitWidths o.net (slice_index shown)
  pub state_long : length now ≡ length o.net.signals
  pub state : FitWidths o.net (slice_index now)
  pub rest : (s : ℕ) → ¬ (IsReg (kind_at o.net s)) → slice_index now s ≡ 0
  pub holding : Holding o.net o.wires regs now shown marks
  pub waits : Waits regs now shown waiting

-- while the marked steps are being run, and none before a place is marked any longer
pub record Runs (o : Order) (all : List Step) (regs : List Register) (now starts readers start : List ℕ) (place : ℕ) (values marks : List ℕ) : Type 0 where
  pub made : IsNetlist o.net
  pub order : IsOrder o.net o.wires
  pub steps : AreSteps o.net o.wires all
  pub lists : Lists starts readers (length o.net.signals) (length marks)
  pub read : AreReaders o.net o.wires regs starts readers
  pub room : first_register (length all) + length regs ≤ length marks * 64
  pub long : length values ≡ length o.net.signals
  pub fits : FitWidths o.net (slice_index values)
  pub others : (s : ℕ) → ¬ (IsWire o.net s) → slice_index values s ≡ slice_index start s
  pub below : (k : ℕ) → k < place → marked marks k ≡ 0
  pub holding : Holding o.net o.wires regs now values marks
