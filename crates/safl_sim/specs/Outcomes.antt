-- What a run shows up to the cycle in which `done` is 1.
use Rattle.std.specs.Prelude.{◌≡◌, ℕ, suc, ◌+◌, ◌<◌, List, map, length, Option, Some, None, slice_get, codes}
use Rattle.std.specs.Option.{option_map_or}
use Rattle.safl_word.specs.Words.{Word, no_word}
use Rattle.safl_net.specs.Netlist.{Netlist, output_place}
use Rattle.safl_net.specs.Valuations.{Valuation, signal_word, read_output, reset_state}
use Rattle.safl_net.specs.Runs.{RunFrom, input_numbers}
use Rattle.safl_sim.specs.declared.done.Done.{Done}

-- the cycles of a call from a state: in the first one `start` is 1 and the arguments are given; later all inputs are 0
pub record IsCallRun (n : Netlist) (state : ℕ → ℕ) (args : List Word) (vs : List Valuation) : Type 0 where
  pub run : RunFrom n state (map (λ (w : Word). w.bits) args) vs
  pub zeros : (c : ℕ) (v : Valuation) → slice_get vs (suc c) ≡ Some v → input_numbers n.signals v ≡ map (λ (w : Word). 0) args

-- a run is a call from reset
abbrev pub IsRun : Netlist → List Word → List Valuation → Type 0
IsRun n args vs = IsCallRun n (reset_state n) args vs

-- a run of `count` cycles, which is the only one
pub record IsOnlyRun (n : Netlist) (args : List Word) (count : ℕ) (vs : List Valuation) : Type 0 where
  pub is : IsRun n args vs
  pub long : length vs ≡ count
  pub alone : (ws : List Valuation) → IsRun n args ws → length ws ≡ count → ws ≡ vs

-- the word of an output in a cycle
abbrev pub output_word : Netlist → Valuation → List ℕ → Word
output_word n v name = option_map_or (λ (s : ℕ). signal_word n v s) (output_place n.outputs name) no_word

-- in the cycles before this one `done` is 0
abbrev pub NotDoneBefore : Netlist → List Valuation → ℕ → Type 0
NotDoneBefore n vs count = (c : ℕ) (v : Valuation) → c < count → slice_get vs c ≡ Some v → read_output n v (codes "done") ≡ 0

-- in this cycle of the run `done` is 1 and the result has this word, and before it `done` is 0
pub record IsDone (n : Netlist) (args : List Word) (limit : ℕ) (d : Done) : Type 0 where
  pub in_time : d.cycle < limit
  pub run : List Valuation
  pub only : IsOnlyRun n args (d.cycle + 1) run
  pub last : Valuation
  pub there : slice_get run d.cycle ≡ Some last
  pub done : read_output n last (codes "done") ≡ 1
  pub result : d.result ≡ output_word n last (codes "result")
  pub before : NotDoneBefore n run d.cycle

-- `done` is 0 in all cycles of the run below the limit
pub record IsNotDone (n : Netlist) (args : List Word) (limit : ℕ) : Type 0 where
  pub run : List Valuation
  pub only : IsOnlyRun n args limit run
  pub never : NotDoneBefore n run limit

-- what the only run shows below the limit
abbrev pub IsOnlyOutcome : Netlist → List Word → ℕ → Option Done → Type 0
IsOnlyOutcome n args limit None = IsNotDone n args limit
IsOnlyOutcome n args limit (Some d) = IsDone n args limit d

-- ---- parts by name

abbrev pub word_at : Netlist → Valuation → Option ℕ → Word
word_at n v o = option_map_or (λ (s : ℕ). signal_word n v s) o no_word
