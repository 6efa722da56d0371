-- The cycles of a run that probes are shown, and their traces.
use Rattle.std.specs.Prelude.{ℕ, ◌≡◌, List, [], ◌∷◌, map, length, Vec, ◌==◌, if◌then◌else◌, codes}
use Rattle.std.specs.declared.alloc.Global.{Global}
use Rattle.safl_word.specs.Words.{Word}
use Rattle.safl_io.specs.Shelf.{ShelfState, SameFaults}
use Rattle.safl_io.specs.Told.{TellsOn}
use Rattle.safl_net.specs.Netlist.{Netlist}
use Rattle.safl_net.specs.Arguments.{AreArguments}
use Rattle.safl_net.specs.Valuations.{Valuation, read_output, reset_state}
use Rattle.safl_net.specs.Whole.{IsWhole}
use Rattle.safl_sim.specs.Outcomes.{IsCallRun}
use Rattle.safl_sim.specs.Places.{resets}
use Rattle.safl_sim.specs.Simulation.{Simulation}
use Rattle.safl_probe.specs.Probing.{ProbeState, IsWaiting, begun, ended}
use Rattle.safl_probe.specs.Calls.{after_frames}
use Rattle.safl_probe.specs.Texts.{Text, trace}
use Rattle.safl_probe.specs.Asked.{Asked, FileNames, IsAsked, AreApart, asked, probe_at}
use Rattle.safl_probe.specs.Growth.{AllGrow, Made, Relation}

-- what a run begins with: a whole net at its reset, and words for its inputs other than `start`
pub record BeginsRun (sim : Simulation) (args : List Word) : Type 0 where
  pub whole : IsWhole sim.net
  pub fresh : sim.state ≡ resets sim.net
  pub arguments : AreArguments sim.net args

-- each probe has its place among the names, and no asked one has begun
pub record AllWait {P : Type 0} (names : FileNames) (tell : P → ProbeState) (ps : List P) : Type 0 where
  pub files : length names ≡ length ps
  pub waiting : (i : ℕ) (name : List ℕ) → IsAsked (asked names) i name → IsWaiting (probe_at (map tell ps) i)

-- a run of this many cycles from reset, in which all inputs are 0 after cycle 0. A net without loops has exactly one
pub record IsRunOf (n : Netlist) (args : List Word) (count : ℕ) (vs : List Valuation) : Type 0 where
  pub run : IsCallRun n (reset_state n) args vs
  pub long : length vs ≡ count

-- the cycles up to the first in which `done` is 1, including that one
abbrev pub until_done : Netlist → List Valuation → List Valuation
until_done n [] = []
until_done n (v ∷ vs) = if read_output n v (codes "done") == 1 then v ∷ [] else v ∷ until_done n vs

-- the trace of these cycles for the probe at this place
abbrev pub trace_at : Netlist → List Valuation → List ProbeState → ℕ → Text
trace_at n vs ps i = trace (probe_at ps i).kind n (until_done n vs)

-- each asked probe was begun on the net, was shown these cycles and no others, and was ended once
abbrev pub AreShown : Netlist → List Valuation → Asked → List ProbeState → List ProbeState → Type 0
AreShown n frames names ps qs = (i : ℕ) (name : List ℕ) → IsAsked names i name → probe_at qs i ≡ ended (after_frames frames (begun n (probe_at ps i)))

-- of a run of so many cycles each asked probe was shown those up to the first with `done` at 1
abbrev pub RunIsShown : {P : Type 0} → Netlist → List Word → ℕ → FileNames → (P → ProbeState) → List P → List P → Type 0
RunIsShown n args count names tell ps qs =
    (vs : List Valuation) → IsRunOf n args count vs → AreShown n (until_done n vs) (asked names) (map tell ps) (map tell qs)

-- In a run of this many cycles, the file of each asked probe is in this relation to its old text, with the probe's trace. This is
-- claimed if no two probes are asked to write the same file and the shelf tells.
abbrev pub TracesGrow : {P : Type 0} → Relation → Netlist → List Word → ℕ → FileNames → (P → ProbeState) → List P → ShelfState → ShelfState → Type 0
TracesGrow R n args count names tell ps old new =
    (vs : List Valuation) → IsRunOf n args count vs → AreApart (asked names)
    → TellsOn (AllGrow R (asked names) (trace_at n vs (map tell ps))) old.holds new.holds

-- what a run leaves that came to its end: each asked file has its whole trace, each asked probe was shown the run, and no read or
-- write failed
pub record RunIsTraced {P : Type 0} (n : Netlist) (args : List Word) (count : ℕ) (names : FileNames) (tell : P → ProbeState) (ps qs : Vec P Global)
    (old new : ShelfState) : Type 0 where
  pub files : TracesGrow Made n args count names tell ps.items old new
  pub shown : RunIsShown n args count names tell ps.items qs.items
  pub quiet : SameFaults old new
