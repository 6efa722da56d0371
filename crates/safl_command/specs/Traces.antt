-- The files for the traces of a run.
use Rattle.std.specs.Prelude.{Option, Some, None, if◌then◌else◌}
use Rattle.safl_command.specs.declared.traces.Traces as code
pub use Rattle.safl_command.specs.Apart.{Traces, files, is_named, differ, are_apart}

abbrev pub shown_traces : code.Traces → Traces
shown_traces t = files t.vcd t.starts t.toggles

-- the traces with these files, if their names differ
abbrev pub if_apart : Traces → Option Traces
if_apart t = if are_apart t then Some t else None
