use Rattle.safl_tool.proofs.Common.{asked, traces_given}
use Rattle.std.proofs.Common.{◌≡◌, ℕ, List, ◌++◌, map, drop}
use Rattle.safl_command.specs.Traces.{files}
use Rattle.safl_tool.specs.Tracing.{asked_by, have_probes, kinds_of}
use Rattle.safl_tool.proofs.asking.asked_files.Given as goal

abbrev pub invariant-probes : goal.invariant-probes
invariant-probes g l =
    let kinds : List ℕ = kinds_of (map (λ p. (goal.Probe-dyn g (p.vtable, p.value)).state p.value) l.probes) in
    record {
      asked : asked l.files.items ++ asked_by (files l.vcd l.starts l.toggles) (drop l.i kinds) ≡ asked_by (traces_given l.traces) kinds;
      left : have_probes (files l.vcd l.starts l.toggles) (drop l.i kinds) ≡ have_probes (traces_given l.traces) kinds;
    }
