-- Runs exist, so that no statement about all runs is empty.
use Rattle.std.specs.Prelude.{◌≡◌, ℕ, List, map, length}
use Rattle.safl_word.specs.Words.{Word, AreWords}
use Rattle.safl_net.specs.Laws.{FitWidths}
use Rattle.safl_net.specs.Netlist.{Netlist}
use Rattle.safl_net.specs.Rules.{IsNetlist}
use Rattle.safl_net.specs.Runs.{RunFrom}
use Rattle.safl_net.specs.Valuations.{Valuation, IsAcyclic, reset_state}
use Rattle.safl_net.specs.Whole.{IsWhole}
use Rattle.safl_net.specs.Arguments.{AreArguments}
use Rattle.safl_sim.specs.Outcomes.{IsOnlyRun}

-- a whole net without loops has a run of any length, from any state of the right widths and with any arguments of the inputs'
-- widths
abbrev pub RunsExist : Type 0
RunsExist =
    (n : Netlist) → IsNetlist n → IsWhole n → IsAcyclic n → (state : ℕ → ℕ) → FitWidths n state
    → (args : List Word) → AreWords args → AreArguments n args → (count : ℕ)
    → (vs : List Valuation) × RunFrom n state (map (λ (w : Word). w.bits) args) vs × (length vs ≡ count)

-- the state at reset has the right widths
abbrev pub ResetFits : Type 0
ResetFits = (n : Netlist) → IsNetlist n → FitWidths n (reset_state n)

-- from reset exactly one run has all inputs 0 after cycle 0
abbrev pub OneRunExists : Type 0
OneRunExists =
    (n : Netlist) → IsNetlist n → IsWhole n → IsAcyclic n → (args : List Word) → AreWords args → AreArguments n args → (count : ℕ)
    → (vs : List Valuation) × IsOnlyRun n args count vs
