-- The laws of reports.
use Rattle.std.specs.Prelude.{◌≡◌}
use Rattle.safl_term.specs.Names.{Names}
use Rattle.safl_term.specs.Program.{Program}
use Rattle.safl_net.specs.Netlist.{Netlist}
use Rattle.safl_report.specs.Report.{Text, IsReport, IsSummary}

-- a program and a netlist have at most one report; and at most one summary
abbrev pub ReportOnce : Type 0
ReportOnce = (C : Program) (D : Names) (n : Netlist) (s t : Text) → IsReport C D n s → IsReport C D n t → s ≡ t

abbrev pub SummaryOnce : Type 0
SummaryOnce = (C : Program) (n : Netlist) (s t : Text) → IsSummary C n s → IsSummary C n t → s ≡ t
