-- Runs and their outcomes exist, so that no statement about all runs is empty.
use Rattle.std.specs.Prelude.{ℕ, List, Option}
use Rattle.safl_word.specs.Words.{Word, AreWords}
use Rattle.safl_net.specs.Netlist.{Netlist}
use Rattle.safl_net.specs.Rules.{IsNetlist}
use Rattle.safl_net.specs.Valuations.{Valuation, IsAcyclic}
use Rattle.safl_net.specs.Whole.{IsWhole}
use Rattle.safl_net.specs.Arguments.{AreArguments}
use Rattle.safl_sim.specs.declared.done.Done.{Done}
use Rattle.safl_run.specs.Calls.{IsOutcome}
use Rattle.safl_probe.specs.Runs.{IsRunOf}

-- a run of `limit` cycles, and its outcome
pub record Ending (n : Netlist) (args : List Word) (limit : ℕ) : Type 0 where
  pub run : List Valuation
  pub is_run : IsRunOf n args limit run
  pub answer : Option Done
  pub outcome : IsOutcome n args limit answer

-- a whole net without loops has such a run for any arguments of the widths of its inputs
abbrev pub RunsEnd : Type 0
RunsEnd = (n : Netlist) → IsNetlist n → IsWhole n → IsAcyclic n → (args : List Word) → AreWords args → AreArguments n args → (limit : ℕ) → Ending n args limit
