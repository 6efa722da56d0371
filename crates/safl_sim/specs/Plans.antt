-- Numbers and marks, in terms of a plan.
use Rattle.std.specs.Prelude.{ℕ, ◌+◌, ◌/◌, ◌<◌, List, length, slice_index, bit_or}
use Rattle.safl_word.specs.Words.{Word}
use Rattle.safl_net.specs.Netlist.{Netlist}
use Rattle.safl_order.specs.Order.{Order}
use Rattle.safl_sim.specs.declared.step.Step.{Step}
use Rattle.safl_sim.specs.declared.step.Register.{Register}
use Rattle.safl_sim.specs.declared.step.Group.{Group}
use Rattle.safl_sim.specs.declared.plan.Plan.{Plan}
use Rattle.safl_sim.specs.Marks.{holding, first_register}
use Rattle.safl_sim.specs.Readers.{Lists, HasMarked, HasGiven, InputsAway, InputsFit, RegistersAway}
use Rattle.safl_sim.specs.Nears.{NearAt, NearOf}
use Rattle.safl_sim.specs.States.{AreAt}
use Rattle.safl_sim.specs.Steps.{Goes, Waits, Runs, action_number}
use Rattle.safl_sim.specs.Writes.{HasShown, ShowsWaiting}

-- the plan has the readers of each place, and there is a mark for each reader
abbrev pub HasLists : Plan → List ℕ → List ℕ → Type 0
HasLists p values marks = Lists p.starts.items p.readers.items (length values) (length marks)

-- the near readers of step i have this mask
abbrev pub HasMask : Plan → ℕ → Step → ℕ → Type 0
HasMask p i s mask = NearOf p.starts.items p.readers.items i s mask

-- the near readers of a place are in this group
abbrev pub HasGroup : Plan → ℕ → Group → Type 0
HasGroup p place g = NearAt p.starts.items p.readers.items place g.word g.near

-- each of some readers of a place is marked now, or blind to the place
abbrev pub MarksPart : Plan → ℕ → ℕ → ℕ → List ℕ → List ℕ → List ℕ → Type 0
MarksPart p from to place values old new = HasMarked p.steps.items p.readers.items from to place values old new

-- each reader of a place with this group is marked now, or blind to the place
abbrev pub MarksGroup : Plan → Group → List ℕ → List ℕ → List ℕ → Type 0
MarksGroup p g values old new = (place : ℕ) → place + 1 < length p.starts.items → HasGroup p place g
    → MarksPart p (slice_index p.starts.items place) (slice_index p.starts.items (place + 1)) place values old new

-- the number is written to the place; if it is new there, each reader of the place is marked now, or blind to it
abbrev pub Gives : Plan → ℕ → ℕ → List ℕ → List ℕ → List ℕ → List ℕ → Type 0
Gives p place x values values' marks marks' = HasGiven p.steps.items p.starts.items p.readers.items place x values values' marks marks'

-- The step's number is written to its wire. The marks of the step's own word are held apart; with the answer joined to them, each
-- reader of the wire is marked if its number is new, or blind to it.
abbrev pub Evaluates : Plan → Step → ℕ → ℕ → List ℕ → List ℕ → List ℕ → List ℕ → Type 0
Evaluates p s mask answer values values' marks marks' = (i held : ℕ) → i / 64 < length marks → HasMask p i s mask
    → Gives p s.wire.0 (action_number (slice_index values) s.action) values values' (holding marks (i / 64) held)
    (holding marks' (i / 64) (bit_or held answer))

-- ---- what holds of simulators, and continues to hold

-- what holds of the steps and registers without marks continues to hold
abbrev pub GoesOn : Plan → Netlist → List ℕ → List Register → List ℕ → List ℕ → List ℕ → List ℕ → List ℕ → Type 0
GoesOn p n ws regs now values values' marks marks' = Goes n ws p.steps.items regs now p.starts.items p.readers.items values values' marks marks'

-- it continues to hold when the inputs get these words
abbrev pub InputsGoOn : Plan → List Word → List ℕ → List ℕ → List ℕ → List ℕ → Type 0
InputsGoOn p words values values' marks marks' = (n : Netlist) (ws : List ℕ) (regs : List Register) (now : List ℕ)
    → InputsAway p.inputs.items ws → InputsFit n p.inputs.items words → GoesOn p n ws regs now values values' marks marks'

-- it continues to hold when registers with these numbers are shown
abbrev pub RegistersGoOn : Plan → List ℕ → List ℕ → List ℕ → List ℕ → List ℕ → Type 0
RegistersGoOn p state values values' marks marks' = (n : Netlist) (ws now : List ℕ)
    → RegistersAway p.registers.items ws → AreAt p.registers.items state now → GoesOn p n ws p.registers.items now values values' marks marks'

-- ---- showing the registers that wait

-- registers are being shown, and none before this place waits any longer
abbrev pub IsShowing : Plan → List ℕ → ℕ → List ℕ → List ℕ → Type 0
IsShowing p state place values waiting = (now : List ℕ) × (start : List ℕ) × AreAt p.registers.items state now
    × ShowsWaiting p.registers.items now place start values waiting

-- the waiting registers from one place to another are shown
abbrev pub ShowsUpTo : Plan → List ℕ → ℕ → ℕ → List ℕ → List ℕ → List ℕ → List ℕ → Type 0
ShowsUpTo p state from to values values' waiting waiting' = (now start : List ℕ) → AreAt p.registers.items state now
    → ShowsWaiting p.registers.items now from start values waiting → ShowsWaiting p.registers.items now to start values' waiting'

-- all waiting registers are shown
abbrev pub ShowsAll : Plan → List ℕ → List ℕ → List ℕ → List ℕ → Type 0
ShowsAll p state values values' waiting = (now : List ℕ) → AreAt p.registers.items state now → Waits p.registers.items now values waiting
    → HasShown p.registers.items now (length p.registers.items) values values'

-- ---- running the marked steps

-- the marked steps are being run, and none before this place is marked any longer
abbrev pub RunsPlan : Order → Plan → List Register → List ℕ → List ℕ → ℕ → List ℕ → List ℕ → Type 0
RunsPlan o p regs now start place values marks = Runs o p.steps.items regs now p.starts.items p.readers.items start place values marks

-- the marked steps are being run in some order and for some registers, and none before this place is marked any longer
abbrev pub IsRunning : Plan → ℕ → List ℕ → List ℕ → Type 0
IsRunning p place values marks = (o : Order) × (regs : List Register) × (now : List ℕ) × (start : List ℕ) × RunsPlan o p regs now start place values marks

-- the marked steps from one place to another are run
abbrev pub RunsUpTo : Plan → ℕ → ℕ → List ℕ → List ℕ → List ℕ → List ℕ → Type 0
RunsUpTo p from to values values' marks marks' = (o : Order) (regs : List Register) (now start : List ℕ)
    → RunsPlan o p regs now start from values marks → RunsPlan o p regs now start to values' marks'

-- all marked steps are run, for the registers of the plan
abbrev pub RunsAll : Plan → List ℕ → List ℕ → List ℕ → List ℕ → Type 0
RunsAll p values values' marks marks' = (o : Order) (now start : List ℕ) → RunsPlan o p p.registers.items now start 0 values marks
    → RunsPlan o p p.registers.items now start (first_register (length p.steps.items)) values' marks'
