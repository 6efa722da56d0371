-- Calls of a net: its replies, and the cycles that it goes through.
use Rattle.std.specs.Prelude.{◌≡◌, ℕ, ◌<◌, List, [], ◌∷◌, ◌++◌, length, Option, Some, None, codes}
use Rattle.safl_word.specs.Words.{Word}
use Rattle.safl_net.specs.Netlist.{Netlist}
use Rattle.safl_net.specs.Valuations.{Valuation, read_output, next_state, reset_state}
use Rattle.safl_sim.specs.Outcomes.{IsCallRun, NotDoneBefore, output_word}
use Rattle.safl_sim.specs.declared.done.Done.{Done}

-- The reply to a call from a state: the first cycle with `done`, below the limit, and the result then; and the state after that cycle.
pub record Replies (n : Netlist) (limit : ℕ) (state : ℕ → ℕ) (args : List Word) (r : Done) (after : ℕ → ℕ) : Type 0 where
  pub in_time : r.cycle < limit
  pub before : List Valuation
  pub last : Valuation
  pub call : IsCallRun n state args (before ++ last ∷ [])
  pub long : length before ≡ r.cycle
  pub not_done : NotDoneBefore n before r.cycle
  pub done : read_output n last (codes "done") ≡ 1
  pub result : r.result ≡ output_word n last (codes "result")
  pub leads : (s : ℕ) → after s ≡ next_state n last s

-- there is no reply: `done` is 0 in all cycles below the limit
pub record IsSilent (n : Netlist) (limit : ℕ) (state : ℕ → ℕ) (args : List Word) : Type 0 where
  pub cycles : List Valuation
  pub call : IsCallRun n state args cycles
  pub long : length cycles ≡ limit
  pub not_done : NotDoneBefore n cycles limit

-- the answer to a call is a reply and the state after it, or there is none
abbrev pub Answers : Netlist → ℕ → (ℕ → ℕ) → List Word → Option Done → (ℕ → ℕ) → Type 0
Answers n limit state args None after = IsSilent n limit state args
Answers n limit state args (Some r) after = Replies n limit state args r after

-- The outcome of a run is the answer to a call from reset. There is no other answer, and only one run of each length.
pub record IsOutcome (n : Netlist) (args : List Word) (limit : ℕ) (answer : Option Done) : Type 0 where
  pub after : ℕ → ℕ
  pub answers : Answers n limit (reset_state n) args answer after
  pub alone : (other : Option Done) (state : ℕ → ℕ) → Answers n limit (reset_state n) args other state → other ≡ answer
  pub only : (vs ws : List Valuation) → IsCallRun n (reset_state n) args vs → IsCallRun n (reset_state n) args ws → length ws ≡ length vs → ws ≡ vs

-- the cycles of a call up to the reply, or all below the limit if there is none
abbrev pub cycles_of : (n : Netlist) (limit : ℕ) (state : ℕ → ℕ) (args : List Word) (answer : Option Done) (after : ℕ → ℕ) → Answers n limit state args answer after → List Valuation
cycles_of n limit state args None after a = a.cycles
cycles_of n limit state args (Some r) after a = a.before ++ a.last ∷ []
