-- The last theorem, from its parts.
use Rattle.safl_circuit.proofs.Common.{AreWordsOf, Choice, IsWellFormed, Main, Names, Netlist, Numbered, OneInUse, Program, Scheme}
use Rattle.safl_circuit.proofs.Common.{ShownWordsServe, Word, as_word, go_up, numbered, some_none, unit_for}
use Rattle.std.proofs.Common.{◌≡◌, ◌≢◌, ℕ, ◌≤◌, List, [], ◌∷◌, length, Some, true, sym, subst, arith, inl, inr, cond, ap, refl, ◌++◌, ◌∙◌, suc, ◌<◌}
use Rattle.std.specs.Prelude.{slice_get, codes}
use Rattle.safl_calls.proofs.Interference.{arbiter_serves}
use Rattle.safl_calls.proofs.KeptWords.{kept_serves}
use Rattle.safl_net.specs.Valuations.{Valuation, read, read_output, reset_state}
use Rattle.safl_net.specs.Runs.{RunFrom}
use Rattle.safl_circuit.specs.Names.{of_function, numbers, of_site, bit, registers_in}
use Rattle.safl_circuit.specs.Correct.{DoneIn, IsExact, NoSooner, IsOnTime, IsSpan, IsResult, latest, QuietAfterDone, SameCalls, Behaves, IsQuietState}
use Rattle.safl_circuit.specs.Blind.{DoneIsBlind}
use Rattle.safl_circuit.proofs.Blind.{control_is_blind}
use Rattle.safl_circuit.specs.Theorem.{IsCircuit, SchemesAreCircuits, ServingSchemesAreCircuits, CyclesAreEvents, LatestIsSoon, Runs}
use Rattle.safl_circuit.proofs.Cycle as cycle
use Rattle.safl_circuit.proofs.NetSteps.{first_run, first_quiet}
use Rattle.safl_circuit.proofs.NetRuns as run
use Rattle.std.proofs.lemmas.Bool.{lt-ltb}
use Rattle.safl_circuit.specs.Layout.{Line, IsLineOf, lines, each_line, register_kind, wire_kind, function_wires, site_wires, layout_wires}
use Rattle.safl_circuit.proofs.Laid.{has_left, has_right, lines_has, in_unit, unit_is, unit_lt, units}

module _ (C : Program) (D : Names) (P : Choice) (n : Netlist) (wf : IsWellFormed C) (h1 : OneInUse C P.arbiter) (h2 : ShownWordsServe C P.kept) (scheme : Scheme C D P n) where
  module _ (state : ℕ → ℕ) (quiet0 : IsQuietState C D n state) where
    prompt : (args : List Word) → AreWordsOf args (C.params C.main) → (vs : List Valuation) → RunFrom n state (numbers args) vs → (v : Word)
        (d : Main C args v) → latest C args d < length vs → DoneIn n vs v (suc (latest C args d))
    prompt args sized [] r v d long = absurd (omega (arith, long))
    prompt args sized (v0 ∷ vs) r v d long = run.prompt C D P n wf h1 h2 scheme args sized state quiet0 v0 vs r v d long

    only : (args : List Word) → AreWordsOf args (C.params C.main) → (vs : List Valuation) → RunFrom n state (numbers args) vs → (c : ℕ)
        (w : Valuation) → slice_get vs c ≡ Some w → read_output n w (codes "done") ≡ 1 → IsResult C args (as_word (C.result C.main) (read_output n w (codes "result"))) c
    only args sized [] r c w e up = absurd (some_none w (sym e))
    only args sized (v0 ∷ vs) r c w e up = run.only C D P n wf h1 h2 scheme args sized state quiet0 v0 vs r c w e up

    alone : (args : List Word) → AreWordsOf args (C.params C.main) → (vs : List Valuation) → RunFrom n state (numbers args) vs → (c : ℕ)
        (w : Valuation) → slice_get vs c ≡ Some w → (j k : ℕ) → j ≤ C.sites → k ≤ C.sites → go_up n w j ≡ true → go_up n w k ≡ true → unit_for C j ≡ unit_for C k → j ≡ k
    alone args sized [] r c w e j k lej lek a b same = absurd (some_none w (sym e))
    alone args sized (v0 ∷ vs) r c w e j k lej lek a b same = run.alone C D P n wf h1 h2 scheme args sized state quiet0 v0 vs r c w e j k lej lek a b same

    rests : (args : List Word) → AreWordsOf args (C.params C.main) → (vs : List Valuation) → RunFrom n state (numbers args) vs → (c : ℕ)
        (w : Valuation) → slice_get vs c ≡ Some w → (k : ℕ) → k ≤ C.sites → go_up n w k ≡ true → read n w (of_function D (codes "run$") (unit_for C k)) ≢ 1
    rests args sized [] r c w e k le up is = some_none w (sym e)
    rests args sized (v0 ∷ vs) r c w e k le up is = run.rests C D P n wf h1 h2 scheme args sized state quiet0 v0 vs r c w e k le up is

    exact : IsExact C n state
    exact seq args sized [] r c w e up v d = absurd (some_none w (sym e))
    exact seq args sized (v0 ∷ vs) r c w e up v d = run.exact C D P n wf h1 h2 scheme args sized state quiet0 v0 vs r seq c w e up v d

    no_sooner : NoSooner C n state
    no_sooner args sized [] r c w e up v d = absurd (some_none w (sym e))
    no_sooner args sized (v0 ∷ vs) r c w e up v d = run.spanned C D P n wf h1 h2 scheme args sized state quiet0 v0 vs r c w e up v d

    on_time : IsOnTime C n state
    on_time args sized [] r free c w e up v d = absurd (some_none w (sym e))
    on_time args sized (v0 ∷ vs) r free c w e up v d = run.timed C D P n wf h1 h2 scheme args sized state quiet0 v0 vs r free c w e up v d

    always : IsSpan C P n state
    always args sized [] r c w e up v d unshared = absurd (some_none w (sym e))
    always args sized (v0 ∷ vs) r c w e up v d unshared = run.unshared C D P n wf h1 h2 scheme args sized state quiet0 v0 vs r c w e up v d unshared

    quiet : QuietAfterDone C D n state
    quiet args sized [] r a c v w ea ec up lt = absurd (some_none v (sym ea))
    quiet args sized (v0 ∷ vs) r a c v w ea ec up lt = run.quiet_then C D P n wf h1 h2 scheme args sized state quiet0 v0 vs r a c v w ea ec up lt

    calls : SameCalls C D n state
    calls args sized [] r v d c le long f lt = absurd (omega (arith, le))
    calls args sized (v0 ∷ vs) r v d c le long f lt = run.same_lists C D P n wf h1 h2 scheme args sized state quiet0 v0 vs r v d c le long f lt

    behaves : Behaves C D n state
    behaves = record { prompt = prompt; only = only; alone = alone; rests = rests }

    runs : Runs C D n state
    runs = record { behaves = behaves; exact = exact; no_sooner = no_sooner; on_time = on_time; quiet = quiet; calls = calls }

  blind : DoneIsBlind C D n
  blind L lab s t quiet_s quiet_t args sized [] r other sized' ws r' alike c v w e e' = absurd (some_none v (sym e))
  blind L lab s t quiet_s quiet_t args sized (v0 ∷ vs) r other sized' [] r' alike c v w e e' = absurd (some_none w (sym e'))
  blind L lab s t quiet_s quiet_t args sized (v0 ∷ vs) r other sized' (w0 ∷ ws) r' alike c v w e e' =
      run.done_based C D P n wf h1 h2 scheme args sized s quiet_s v0 vs r c v e
      ∙ ap bit (control_is_blind C P L wf lab (registers_in C D n s) (registers_in C D n t) quiet_s quiet_t args other alike
      (run.later C D P n wf h1 h2 scheme args sized s quiet_s v0 vs r) (run.later C D P n wf h1 h2 scheme other sized' t quiet_t w0 ws r') c).1
      ∙ sym (run.done_based C D P n wf h1 h2 scheme other sized' t quiet_t w0 ws r' c w e')

  reset_quiet : IsQuietState C D n (reset_state n)
  reset_quiet = first_quiet C D P n wf h1 h2 scheme []

  good : Numbered C
  good = numbered C wf

  running : (f : ℕ) → f < C.functions → IsLineOf (of_function D (codes "run$") (C.unit f), 1) (each_line register_kind n.signals)
  running f lt =
      let u = units C D P n good scheme f lt in
      let line : Line = (of_function D (codes "run$") (C.unit f), 1) in
      subst (IsLineOf line) (sym scheme.registers) (in_unit C D P n good scheme (C.unit f) line (unit_lt C D P n good scheme (C.unit f) u)
      (subst (IsLineOf line) (sym (unit_is C D P n good scheme (C.unit f) u)) (inl refl)))

  in_wires : (x : Line) → IsLineOf x (layout_wires C D P) → IsLineOf x (each_line wire_kind n.signals)
  in_wires x h = subst (IsLineOf x) (sym scheme.named) (has_left x (layout_wires C D P) scheme.others h)

  starting : (k : ℕ) → 0 < k → k ≤ C.sites → IsLineOf (of_site (codes "go$") k, 1) (each_line wire_kind n.signals)
  starting k pos le =
      let line : Line = (of_site (codes "go$") k, 1) in
      let arbiter : List Line = cond (P.arbiter (unit_for C k)) ((of_site (codes "arb$") k, 1) ∷ []) [] in
      let own : List Line = (of_site (codes "want$") k, 1) ∷ (of_site (codes "ret$") k, 1) ∷ (arbiter ++ line ∷ []) in
      let here : IsLineOf line (site_wires C P k) = subst (IsLineOf line) (sym (ap (λ b. cond b own []) (lt-ltb 0 k pos))) (inr (inr (has_right line arbiter (line ∷ []) (inl refl)))) in
      in_wires line (has_right line (lines (function_wires D) C.functions) (lines (site_wires C P) (suc C.sites) ++ (codes "go$main", 1) ∷ [])
      (has_left line (lines (site_wires C P) (suc C.sites)) ((codes "go$main", 1) ∷ []) (lines_has (site_wires C P) (suc C.sites) k line (omega arith) here)))

  starting_main : IsLineOf (codes "go$main", 1) (each_line wire_kind n.signals)
  starting_main =
      in_wires (codes "go$main", 1) (has_right (codes "go$main", 1) (lines (function_wires D) C.functions) (lines (site_wires C P) (suc C.sites) ++ (codes "go$main", 1) ∷ [])
      (has_right (codes "go$main", 1) (lines (site_wires C P) (suc C.sites)) ((codes "go$main", 1) ∷ []) (inl refl)))

  pub is_circuit : IsCircuit C D P n
  is_circuit = record {
    correct = record {
      acyclic = scheme.acyclic;
      inputs = scheme.inputs;
      outputs = scheme.outputs;
      running = running;
      starting = starting;
      starting_main = starting_main;
      behaves = behaves (reset_state n) reset_quiet;
    };
    steps = λ args sized vs r. first_run C D P n wf h1 h2 scheme args sized vs r;
    first = runs (reset_state n) reset_quiet;
    again = runs;
    span = always;
    blind = blind;
  }

pub serving_schemes_are_circuits : ServingSchemesAreCircuits
serving_schemes_are_circuits = is_circuit

pub schemes_are_circuits : SchemesAreCircuits
schemes_are_circuits C D P n wf enough scheme =
    let good : Numbered C = numbered C wf in
    is_circuit C D P n wf (arbiter_serves C P.arbiter good enough.arbiters) (kept_serves C P.kept good enough.keeps) scheme

pub cycles_are_events : CyclesAreEvents
cycles_are_events C P wf h1 h2 r0 quiet args sized later c = cycle.steps C P (numbered C wf) h1 h2 r0 quiet args sized later c

pub latest_is_soon : LatestIsSoon
latest_is_soon C args v d = omega arith
