-- Which probes the code asks.
use Rattle.std.specs.Prelude.{◌≡◌, ℕ, List, Option, Some, None, is_some, MatchOption, Vec, Bool, false, ◌||◌}
use Rattle.std.specs.Borrow.{Bor}
use Rattle.std.specs.declared.string.String.{String}
use Rattle.std.specs.declared.alloc.Global.{Global}
use Rattle.safl_probe.specs.Probing.{ProbeState}
use Rattle.safl_probe.specs.Asked.{asked}
use Rattle.safl_command.specs.Traces.{Traces, shown_traces}
use Rattle.safl_command.specs.declared.traces.Traces as given
use Rattle.safl_tool.specs.Tracing.{AreAskedFor, have_probes, kinds_of, no_traces}

abbrev pub shown_name : Bor (List ℕ) → List ℕ
shown_name name = name.now

-- the files for traces, if a command can have any
abbrev pub traces_given : Option (Bor given.Traces) → Traces
traces_given None = no_traces
traces_given (Some traces) = shown_traces traces.now

-- whether a file is given
abbrev pub is_any_given : Traces → Bool
is_any_given t = is_some t.vcd || (is_some t.starts || is_some t.toggles)

-- the probes are asked for the files of these traces. If some file has no probe, there is no answer
abbrev pub AsksFor : Traces → List ProbeState → Option (Vec (Option (String Global)) Global) → Type 0
AsksFor t ps answer = MatchOption answer (have_probes t (kinds_of ps) ≡ false) (λ files. AreAskedFor t (asked files.items) ps)
