-- What holds of each turn: its widths fit, its cycles are few, and its work is bounded.
use Rattle.std.specs.Prelude.{◌≡◌, ℕ, ◌+◌, ◌*◌, ◌<◌, ◌≤◌, List, [], ◌∷◌, ◌++◌, length, Some, Bool, true, false}
use Rattle.safl_word.specs.Words.{widths}
use Rattle.safl_word.specs.Primitives.{result_width}
use Rattle.safl_term.specs.Program.{Program}
use Rattle.safl_term.specs.Sizes.{nodes, nodes_in}
use Rattle.safl_term.specs.WellFormed.{HasWidth, HaveWidths}
use Rattle.safl_term.specs.Terms.{Nil}
use Rattle.safl_interpreter.specs.Accounts.{Account, shown_account}
use Rattle.safl_interpreter.specs.Comes.{ComeAlike}
use Rattle.safl_interpreter.specs.declared.account.Account as accounts
use Rattle.safl_interpreter.specs.declared.frame.Frame as frames
use Rattle.safl_interpreter.specs.declared.turn.Turn as turns
use Rattle.safl_interpreter.specs.Turns.{shown_frame, shown_turn, Then, Choose, Bind, Operate, Apply, Frame, Turn, Enter, Within, Leave, calls}

-- words of these widths fit what is done with them, and a word of width n comes out
abbrev pub Fits : Program → Then → List ℕ → List ℕ → ℕ → Type 0
Fits C (Choose a b) slots ws n = (ws ≡ 1 ∷ []) × HasWidth C slots a n × HasWidth C slots b n
Fits C (Bind b) slots ws n = HasWidth C (slots ++ ws) b n
Fits C (Operate p) slots ws n = result_width p ws ≡ Some n
Fits C (Apply f is_loop) slots ws n = (ws ≡ C.params f) × (C.result f ≡ n) × (f < C.functions)

-- the widths of the parts before the rest are known
abbrev pub FitsFrame : Program → Frame → List ℕ → ℕ → Type 0
FitsFrame C r before n = (ws : List ℕ) × HaveWidths C (widths r.slots) r.rest ws × Fits C r.then (widths r.slots) (before ++ ws) n

-- frames of which the first waits for a word of this width
abbrev pub FitFrames : Program → List Frame → ℕ → Type 0
FitFrames C [] n = Unit {0}
FitFrames C (r ∷ rs) n = (m : ℕ) × FitsFrame C r (widths r.words ++ n ∷ []) m × FitFrames C rs m

-- the turn comes to a word of width n
abbrev pub FitsTurn : Program → Turn → ℕ → Type 0
FitsTurn C (Enter t slots now) n = HasWidth C (widths slots) t n
FitsTurn C (Within r) n = FitsFrame C r (widths r.words) n
FitsTurn C (Leave v now) n = v.width ≡ n

-- more than the work of a body
abbrev pub call_work : ℕ
call_work = 200001

-- what there is to do
abbrev pub work_after : Then → ℕ
work_after (Choose a b) = 4 * (nodes a + nodes b)
work_after (Bind b) = 4 * nodes b
work_after (Operate p) = 0
work_after (Apply f is_loop) = 0

abbrev pub frame_work : Frame → ℕ
frame_work r = 4 * nodes_in r.rest + work_after r.then

abbrev pub frames_work : List Frame → ℕ
frames_work [] = 0
frames_work (r ∷ rs) = frame_work r + 2 + frames_work rs

abbrev pub turn_work : Turn → ℕ
turn_work (Enter t slots now) = 4 * nodes t
turn_work (Within r) = frame_work r + 3
turn_work (Leave v now) = 2

-- no cycle of the turn is beyond this one
abbrev pub IsEarly : ℕ → Turn → Type 0
IsEarly b (Enter t slots now) = now ≤ b
IsEarly b (Within r) = (r.begun ≤ b) × (r.ready ≤ b)
IsEarly b (Leave v now) = now ≤ b

abbrev pub AreEarly : ℕ → List Frame → Type 0
AreEarly b [] = Unit {0}
AreEarly b (r ∷ rs) = (r.begun ≤ b) × (r.ready ≤ b) × AreEarly b rs

-- no more tail calls than calls, and a mark for each function
pub record IsAccount (C : Program) (a : Account) : Type 0 where
  pub loops : a.loops ≤ a.calls
  pub called : length a.called ≡ C.functions

-- The frame's words fit, and none of its parts remains. Its cycles fit the numbers of the code, and so do one more call does where one is made.
pub record CanFinish (C : Program) (r : Frame) (a : Account) : Type 0 where
  pub ended : r.rest ≡ Nil
  pub width : ℕ
  pub fits : FitsFrame C r (widths r.words) width
  pub account : IsAccount C a
  pub room : calls r ≡ true → a.calls < 4294967295
  pub early : r.ready ≤ 2 * a.calls

-- whether a turn may make a call
abbrev pub may_call : Turn → Bool
may_call (Enter t slots now) = false
may_call (Within r) = calls r
may_call (Leave v now) = false

-- A step from a turn to the next one. A call makes room for the work of its body.
pub record IsStep (C : Program) (s : Turn) (a : Account) (t : Turn) (b : Account) : Type 0 where
  pub alike : ComeAlike C s a t b
  pub fits : (n : ℕ) → FitsTurn C s n → FitsTurn C t n
  pub early : IsEarly (2 * a.calls) s → IsEarly (2 * b.calls) t
  pub account : IsAccount C a → IsAccount C b
  pub more : a.calls ≤ b.calls
  pub within : (budget : ℕ) → a.calls ≤ budget → (may_call s ≡ true → a.calls < budget) → b.calls ≤ budget
  pub less : turn_work t + call_work * a.calls < turn_work s + call_work * b.calls

-- the step from a frame of the code to the next turn
abbrev pub Steps : Program → frames.Frame → accounts.Account → turns.Turn → accounts.Account → Type 0
Steps C r a t b = IsStep C (Within (shown_frame r)) (shown_account a) (shown_turn t) (shown_account b)
