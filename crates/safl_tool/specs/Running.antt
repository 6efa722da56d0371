-- What a run of the netlist of a Verilog file gives.
use Rattle.std.specs.Prelude.{◌≡◌, ℕ, ◌<◌, List, map, length, slice_get, Option, Some, ◌++◌, codes}
use Rattle.std.specs.List.{flat_map}
use Rattle.safl_word.specs.Words.{Word}
use Rattle.safl_net.specs.Netlist.{Netlist}
use Rattle.safl_net.specs.Making.{name_at}
use Rattle.safl_net.specs.Valuations.{IsAcyclic}
use Rattle.safl_order.specs.Order.{IsLoop}
use Rattle.safl_verilog.specs.declared.fault.VFault.{VFault}
use Rattle.safl_verilog.specs.FaultTexts.{vfault_text}
use Rattle.safl_verilog.specs.Reads.{Reads, HasFault}
use Rattle.safl_sim.specs.declared.done.Done.{Done}
use Rattle.safl_net.specs.Arguments.{argument_widths}
use Rattle.safl_run.specs.Calls.{IsOutcome}
use Rattle.safl_session.specs.Lines.{AreArguments}
use Rattle.safl_tool.specs.Arguments.{HaveFault}
use Rattle.safl_tool.specs.Lines.{placed_line, line_at, column_at}

-- the arguments are read as words for the inputs other than `start`, and the netlist has this outcome in its run with them
pub record GivesOutcome (n : Netlist) (args : List (List ℕ)) (limit : ℕ) (answer : Option Done) : Type 0 where
  pub words : List Word
  pub read : AreArguments (argument_widths n.signals) args words
  pub outcome : IsOutcome n words limit answer

-- the text reads as this netlist, which has no combinational loop
pub record IsRunnable (text : List ℕ) (n : Netlist) : Type 0 where
  pub reads : Reads text n
  pub acyclic : IsAcyclic n

-- the netlist of the text has this outcome
abbrev pub RunsText : List ℕ → List (List ℕ) → ℕ → Option Done → Type 0
RunsText text args limit answer = (n : Netlist) × IsRunnable text n × GivesOutcome n args limit answer

-- The Verilog file reads as no netlist without a combinational loop, and the line says why: the text's first fault, or the loop.
pub data IsUnrunnable (name text line : List ℕ) : Type 0 where
  faulty : (f : VFault) → HasFault text f → line ≡ placed_line name (line_at text f.place) (column_at text f.place) (vfault_text f)
      → IsUnrunnable name text line
  looped : (n : Netlist) (ws : List ℕ) → Reads text n → IsLoop n ws → ¬ (IsAcyclic n)
      → line ≡ name ++ codes ": V09 combinational loop:" ++ flat_map (λ (x : List ℕ). codes " " ++ x) (map (name_at n) ws) ++ codes "\n"
      → IsUnrunnable name text line

-- these are numbers of signals of the netlist
abbrev pub AreKnown : Netlist → List ℕ → Type 0
AreKnown n ws = (i s : ℕ) → slice_get ws i ≡ Some s → s < length n.signals

-- ---- parts by name

-- the arguments do not fit the inputs of the netlist of the text, and the line says why
abbrev pub IsMisrun : List ℕ → List (List ℕ) → List ℕ → Type 0
IsMisrun text args line = (n : Netlist) × IsRunnable text n × HaveFault (argument_widths n.signals) args line

-- the netlist of the text takes the arguments, and `done` is 1 in a cycle below the limit
abbrev pub Finishes : List ℕ → List (List ℕ) → ℕ → Type 0
Finishes text args limit = (d : Done) × RunsText text args limit (Some d)
