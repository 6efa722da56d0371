-- Which of the enabled events is picked.
use Rattle.std.specs.Prelude.{◌≡◌, ℕ, ◌<◌, ◌%◌, ◌⊎◌, List, length, Some, slice_get}
use Rattle.safl_word.specs.Words.{Word}
use Rattle.safl_term.specs.Program.{Program}
use Rattle.safl_calls.specs.Machine.{State, Event, Accept, Finish, Return, LoopInto, Enabled}

abbrev pub rank : Event → ℕ × ℕ
rank (Accept k) = (0, k)
rank (Finish f) = (1, f)
rank (Return k) = (2, k)
rank (LoopInto h) = (3, h)

-- accepts come before finishes, these before returns, and these before loops; events of one kind are in rising order
abbrev pub Precedes : Event → Event → Type 0
Precedes d e = ((rank d).0 < (rank e).0) ⊎ (((rank d).0 ≡ (rank e).0) × ((rank d).1 < (rank e).1))

abbrev pub event_number : Event → ℕ
event_number e = (rank e).1

-- the list has exactly the enabled events, each once and in this order
pub record IsListing (C : Program) (args : List Word) (s : State) (es : List Event) : Type 0 where
  pub enabled : (i : ℕ) (e : Event) → slice_get es i ≡ Some e → Enabled C args s e
  pub all : (e : Event) → Enabled C args s e → (i : ℕ) × (slice_get es i ≡ Some e)
  pub order : (i j : ℕ) (d e : Event) → slice_get es i ≡ Some d → slice_get es j ≡ Some e → i < j → Precedes d e

-- the event at the place x, modulo the number of enabled events
pub record IsPicked (C : Program) (args : List Word) (s : State) (x : ℕ) (e : Event) : Type 0 where
  pub list : List Event
  pub lists : IsListing C args s list
  pub there : slice_get list (x % length list) ≡ Some e
