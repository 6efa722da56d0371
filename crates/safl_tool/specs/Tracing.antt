-- The traces of a run, and the probes that are asked to write them.
use Rattle.std.specs.Prelude.{◌≡◌, ℕ, List, [], ◌∷◌, ◌++◌, map, Option, Some, None, is_some, Bool, true, not, ◌||◌}
use Rattle.safl_net.specs.Netlist.{Netlist}
use Rattle.safl_net.specs.Valuations.{Valuation}
use Rattle.safl_probe.specs.Probing.{ProbeState, IsWaiting}
use Rattle.safl_probe.specs.Texts.{trace}
use Rattle.safl_probe.specs.Watching.{kind_of}
use Rattle.safl_probe.specs.declared.kind.TraceKind.{TraceKind}
use Rattle.safl_probe.specs.declared.kind.TraceKind.TheVariants.{Vcd, Starts, Toggles, Silent}
use Rattle.safl_probe.specs.Asked.{Asked, probe_at}
use Rattle.safl_command.specs.Traces.{Traces}

-- ---- the files

-- the files that are given, each with the number of its kind of trace
abbrev pub one_given : Option (List ℕ) → ℕ → List (List ℕ × ℕ)
one_given None kind = []
one_given (Some name) kind = (name, kind) ∷ []

abbrev pub given_files : Traces → List (List ℕ × ℕ)
given_files t = one_given t.vcd 1 ++ one_given t.starts 2 ++ one_given t.toggles 3

-- no file is given
abbrev pub no_traces : Traces
no_traces = record { vcd = None; starts = None; toggles = None }

-- the names of these files; and the traces of these cycles for them
abbrev pub files_for : Traces → List (List ℕ)
files_for t = map (λ f. f.0) (given_files t)

abbrev pub traces_of : Traces → Netlist → List Valuation → List (List ℕ)
traces_of t n frames = map (λ f. trace f.1 n frames) (given_files t)

-- ---- the probes

-- the file for traces of a kind, if one is given
abbrev pub file_of_kind : Traces → TraceKind → Option (List ℕ)
file_of_kind t Vcd = t.vcd
file_of_kind t Starts = t.starts
file_of_kind t Toggles = t.toggles
file_of_kind t Silent = None

-- the file for traces of the kind of the probe at a place
abbrev pub file_at : Traces → List ProbeState → ℕ → Option (List ℕ)
file_at t ps place = file_of_kind t (kind_of (probe_at ps place).kind)

-- the files for all other kinds
abbrev pub without : Traces → TraceKind → Traces
without t Vcd = record t { vcd = None }
without t Starts = record t { starts = None }
without t Toggles = record t { toggles = None }
without t Silent = t

-- which probes are asked, given their kinds: the first probe of a kind is asked to write the file for traces of that kind
abbrev pub asked_by : Traces → List ℕ → Asked
asked_by t [] = []
asked_by t (kind ∷ kinds) = file_of_kind t (kind_of kind) ∷ asked_by (without t (kind_of kind)) kinds

-- whether each file has a probe of its kind among those of these kinds
abbrev pub have_probes : Traces → List ℕ → Bool
have_probes t [] = not (is_some t.vcd || (is_some t.starts || is_some t.toggles))
have_probes t (kind ∷ kinds) = have_probes (without t (kind_of kind)) kinds

abbrev pub kinds_of : List ProbeState → List ℕ
kinds_of ps = map (λ (p : ProbeState). p.kind) ps

-- the probes are asked to write the files of these traces, and none has begun
pub record AreAskedFor (t : Traces) (asks : Asked) (ps : List ProbeState) : Type 0 where
  pub can : have_probes t (kinds_of ps) ≡ true
  pub is : asks ≡ asked_by t (kinds_of ps)
  pub waiting : (i : ℕ) → IsWaiting (probe_at ps i)
