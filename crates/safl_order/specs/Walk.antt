-- A walk from wires to their operands, deepest first.
use Rattle.std.specs.Prelude.{◌≡◌, ℕ, suc, ◌+◌, ◌-◌, ◌*◌, ◌<◌, ◌≤◌, List, [], ◌∷◌, ◌++◌, map, reverse, length, take, drop, Some, Vec, slice_get, vec_len}
use Rattle.std.specs.Global.{Global}
use Rattle.safl_net.specs.declared.cell.Sig.{Sig}
use Rattle.safl_net.specs.Netlist.{Netlist}
use Rattle.safl_net.specs.Rules.{IsNetlist}
use Rattle.safl_order.specs.declared.walk.Mark.{Mark}
use Rattle.safl_order.specs.declared.walk.Mark.TheVariants.{Unseen, Open, Done}
use Rattle.safl_order.specs.declared.walk.Frame.{Frame}
use Rattle.safl_order.specs.declared.walk.Stop.{Stop}
use Rattle.safl_order.specs.declared.walk.Stop.TheVariants.{Loop, NoMemory}
use Rattle.safl_order.specs.declared.walk.Walk.{Walk}
use Rattle.safl_order.specs.Order.{operands_of, IsWire}

-- the number of signals that the walk has not reached
abbrev pub one_unseen : Mark → ℕ
one_unseen Unseen = 1
one_unseen (Open k) = 0
one_unseen (Done i) = 0

abbrev pub unseen : List Mark → ℕ
unseen [] = 0
unseen (m ∷ ms) = one_unseen m + unseen ms

-- the wire is finished, at a place below this one
abbrev pub DoneBelow : List Mark → ℕ → ℕ → Type 0
DoneBelow marks i t = (j : ℕ) × (j < i) × (slice_get marks t ≡ Some (Done j))

-- the operands of a wire in the order in which the walk looks at them: from the last to the first
abbrev pub looked_at : Netlist → ℕ → List ℕ
looked_at n s = reverse (operands_of n s)

-- t is the next operand that the frame looks at
abbrev pub Looks : Netlist → Frame → ℕ → Type 0
Looks n f t = slice_get (looked_at n f.wire.0) f.next ≡ Some t

-- a wire on the stack. Those operands that come before the next one are finished if they are wires
pub record FrameFits (n : Netlist) (marks : List Mark) (count : ℕ) (f : Frame) : Type 0 where
  pub wire : IsWire n f.wire.0
  pub within : f.next ≤ length (looked_at n f.wire.0)
  pub few : f.next ≤ 3
  pub past : (i t : ℕ) → i < f.next → slice_get (looked_at n f.wire.0) i ≡ Some t → IsWire n t → DoneBelow marks count t

-- The marks say where wires are, among the finished ones or on the stack. Each wire on the stack looks at the one above it.
pub record Walks (n : Netlist) (done : List Sig) (marks : List Mark) (stack : List Frame) : Type 0 where
  pub made : IsNetlist n
  pub long : length marks ≡ length n.signals
  pub done_at : (s i : ℕ) → slice_get marks s ≡ Some (Done i) → slice_get done i ≡ Some (record { 0 = s })
  pub marked : (i : ℕ) (s : Sig) → slice_get done i ≡ Some s → slice_get marks s.0 ≡ Some (Done i)
  pub open_at : (s k : ℕ) → slice_get marks s ≡ Some (Open k) → (f : Frame) × (slice_get stack k ≡ Some f) × (f.wire.0 ≡ s)
  pub opened : (k : ℕ) (f : Frame) → slice_get stack k ≡ Some f → slice_get marks f.wire.0 ≡ Some (Open k)
  pub wires : (i : ℕ) (s : Sig) → slice_get done i ≡ Some s → IsWire n s.0
  pub before : (i : ℕ) (s : Sig) (k t : ℕ) → slice_get done i ≡ Some s → slice_get (operands_of n s.0) k ≡ Some t → IsWire n t → DoneBelow marks i t
  pub frames : (k : ℕ) (f : Frame) → slice_get stack k ≡ Some f → FrameFits n marks (length done) f
  pub count : length done + length stack + unseen marks ≡ length marks
  pub path : (k : ℕ) (f g : Frame) → slice_get stack k ≡ Some f → slice_get stack (suc k) ≡ Some g → Looks n f g.wire.0

-- how many operands the stack still has to look at
abbrev pub stack_work : List Frame → ℕ
stack_work [] = 0
stack_work (f ∷ fs) = (4 - f.next) + stack_work fs

abbrev pub work : List Mark → List Frame → ℕ
work marks stack = 5 * unseen marks + stack_work stack

-- finished wires stay finished, and every signal that was reached stays so
pub record Goes (old new : List Mark) : Type 0 where
  pub done : (s i : ℕ) → slice_get old s ≡ Some (Done i) → slice_get new s ≡ Some (Done i)
  pub seen : (s : ℕ) → slice_get new s ≡ Some Unseen → slice_get old s ≡ Some Unseen

pub record IsTop (stack : List Frame) (f : Frame) : Type 0 where
  pub place : ℕ
  pub last : suc place ≡ length stack
  pub at : slice_get stack place ≡ Some f

-- the place of the top of a stack; and the frame there
abbrev pub top_place : Vec Frame Global → ℕ
top_place stack = vec_len stack - 1

abbrev pub HasTop : Vec Frame Global → Frame → Type 0
HasTop stack f = slice_get stack.items (top_place stack) ≡ Some f

-- the frame after one more operand
abbrev pub passed : Frame → Frame
passed f = record { wire = f.wire; next = f.next + 1 }

-- out of memory: the marks and the stack are as they were; and so are the finished wires
abbrev pub LeavesPath : Walk → Walk → Stop → Type 0
LeavesPath old new e = (e ≡ NoMemory) × (new.marks.items ≡ old.marks.items) × (new.stack.items ≡ old.stack.items)

abbrev pub LeavesAll : Walk → Walk → Stop → Type 0
LeavesAll old new e =
    (e ≡ NoMemory) × (new.wires.items ≡ old.wires.items) × (new.marks.items ≡ old.marks.items) × (new.stack.items ≡ old.stack.items)

-- the wire on top looks at t, which is one of its first three operands
pub record LooksAt (n : Netlist) (stack : List Frame) (t : ℕ) : Type 0 where
  pub top : Frame
  pub is_top : IsTop stack top
  pub looks : Looks n top t
  pub few : top.next < 3

-- the wire on top of the stack looks at the wire at place k of the stack
pub record IsOpenLoop (n : Netlist) (stack : List Frame) (k : ℕ) : Type 0 where
  pub top : Frame
  pub is_top : IsTop stack top
  pub low : Frame
  pub at : slice_get stack k ≡ Some low
  pub looks : Looks n top low.wire.0

abbrev pub IsStop : Netlist → List Frame → Stop → Type 0
IsStop n stack (Loop k) = IsOpenLoop n stack k
IsStop n stack NoMemory = Unit {0}

-- the frames of a loop, turned so that the one with the least wire comes first
pub record IsTurned (fs : List Frame) (ws : List Sig) : Type 0 where
  pub place : ℕ
  pub within : place < length fs
  pub is : ws ≡ map (λ (f : Frame). f.wire) (drop place fs ++ take place fs)
  pub least : (i : ℕ) (f g : Frame) → slice_get fs place ≡ Some f → slice_get fs i ≡ Some g → f.wire.0 ≤ g.wire.0

-- all wires with lower numbers are finished
abbrev pub AllDone : Netlist → List Mark → ℕ → Type 0
AllDone n marks count = (s : ℕ) → s < count → IsWire n s → (i : ℕ) × (slice_get marks s ≡ Some (Done i))
