-- The lines of a report, by name.
use Rattle.std.proofs.Common.{ℕ, ◌++◌, Bool}
use Rattle.std.specs.Prelude.{codes, decimal}
use Rattle.safl_term.specs.Names.{Names}
use Rattle.safl_term.specs.Program.{Program}
use Rattle.safl_net.specs.Netlist.{Netlist}
use Rattle.safl_report.specs.Report.{Text, calls_of, function_text, site_text, register_line, arbiters_of}

abbrev pub function_line : Program → Names → (ℕ → Bool) → ℕ → Text
function_line C D arbiter f = function_text (D.name f) (calls_of C f) (arbiter (C.unit f))

abbrev pub site_line : Program → Names → (ℕ → Bool) → ℕ → Text
site_line C D kept k = site_text k (D.name (C.callee k)) (D.name (C.caller k)) (kept k)

abbrev pub summary_lines : Program → (ℕ → Bool) → Netlist → Text
summary_lines C arbiter n = codes "arbiters " ++ decimal (arbiters_of C arbiter) ++ codes "\n" ++ register_line n
