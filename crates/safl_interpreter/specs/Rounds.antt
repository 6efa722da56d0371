-- What one round of the evaluation does.
use Rattle.std.specs.Prelude.{◌≡◌, ℕ, ◌+◌, ◌*◌, ◌<◌, ◌≤◌, List, [], ◌∷◌, ◌++◌, ◌↔◌}
use Rattle.safl_term.specs.Program.{Program}
use Rattle.safl_interpreter.specs.Accounts.{Account, shown_account}
use Rattle.safl_interpreter.specs.Comes.{Comes, Figures, figures, Returns}
use Rattle.safl_interpreter.specs.Sound.{FitsTurn, FitFrames, IsEarly, AreEarly, IsAccount, turn_work, frames_work, call_work}
use Rattle.safl_interpreter.specs.Turns.{Frame, Turn, shown_frame, shown_turn}
use Rattle.safl_interpreter.specs.declared.account.Account as accounts
use Rattle.safl_interpreter.specs.declared.frame.Frame as declared
use Rattle.safl_interpreter.specs.declared.turn.Turn as turns
use Rattle.safl_interpreter.specs.declared.rounds.Round.{Round}
use Rattle.safl_interpreter.specs.declared.rounds.Round.TheVariants.{Next, Done, Spent}

-- the frames on a stack, from its top down
abbrev pub shown_stack : List declared.Frame → List Frame
shown_stack [] = []
shown_stack (r ∷ rs) = shown_stack rs ++ shown_frame r ∷ []

-- a turn whose word the frames wait for, with an account within the budget
pub record IsState (C : Program) (rs : List Frame) (s : Turn) (a : Account) (budget : ℕ) : Type 0 where
  pub width : ℕ
  pub fits : FitsTurn C s width
  pub fit : FitFrames C rs width
  pub early : IsEarly (2 * a.calls) s
  pub are_early : AreEarly (2 * a.calls) rs
  pub account : IsAccount C a
  pub within : a.calls ≤ budget

-- the figures that come out
abbrev pub Ends : Program → List Frame → Turn → Account → Figures → Type 0
Ends C rs s a out = Comes C s a (Returns C rs out)

-- what there is to do, with a budget of calls
abbrev pub work : List Frame → Turn → ℕ
work rs s = turn_work s + frames_work rs

-- the next state comes to the same figures, and there is less to do
pub record IsNext (C : Program) (rs : List Frame) (s : Turn) (a : Account) (qs : List Frame) (t : Turn) (b : Account) (budget : ℕ) : Type 0 where
  pub alike : (out : Figures) → Ends C rs s a out ↔ Ends C qs t b out
  pub state : IsState C qs t b budget
  pub less : work qs t + call_work * a.calls < work rs s + call_work * b.calls

-- A round goes on, or gives the figures that come out, or finds that more calls than those of the budget come out.
abbrev pub IsRound : Program → List Frame → Turn → Account → List Frame → Round → Account → ℕ → Type 0
IsRound C rs s a qs (Next t) b budget = IsNext C rs s a qs (shown_turn t) b budget
IsRound C rs s a qs (Done v n) b budget = (b ≡ a) × ((out : Figures) → Ends C rs s a out ↔ (figures v n a ≡ out))
IsRound C rs s a qs Spent b budget = (out : Figures) → Ends C rs s a out → budget < out.account.calls

-- the same of the stack, the turn and the accounts of the code
abbrev pub Rounds : Program → List declared.Frame → turns.Turn → accounts.Account → List declared.Frame → Round → accounts.Account → ℕ → Type 0
Rounds C rs s a qs r b budget = IsRound C (shown_stack rs) (shown_turn s) (shown_account a) (shown_stack qs) r (shown_account b) budget
