-- The scheme of a circuit: what a netlist has to be, and what it has to do in each cycle, for any state and any inputs.
use Rattle.std.specs.Prelude.{◌≡◌, ℕ, zero, suc, ◌<◌, ◌≤◌, List, [], ◌∷◌, ◌++◌, map, length, Some, Bool, true, is_some, slice_get, codes}
use Rattle.safl_word.specs.Primitives.{bit_of}
use Rattle.std.specs.List.{zip}
use Rattle.safl_term.specs.Names.{Names}
use Rattle.safl_sites.specs.Plan.{Choice}
use Rattle.safl_term.specs.Program.{Program, unit_for}
use Rattle.safl_calls.specs.Machine.{Event, Accept, Finish, Return, LoopInto}
use Rattle.safl_calls.specs.Picks.{picks}
use Rattle.safl_circuit.specs.Equations.{Registers, Inputs, many, ret, want, go, end_word, loop_words, next}
use Rattle.safl_net.specs.Netlist.{Netlist, Signal, AllSet}
use Rattle.safl_net.specs.Valuations.{Valuation, Fits, read, read_output, reset_state, IsAcyclic, read_next}
use Rattle.safl_circuit.specs.Names.{of_function, of_site, one, numbers, registers_now, input_now, view}
use Rattle.safl_circuit.specs.Layout.{Line, layout_registers, layout_wires, input_kind, register_kind, wire_kind, each_line, output_lines}

-- The two hold equal numbers, as far as the registers exist: at exists in units of several functions, and keep at kept sites.
pub record Agree (C : Program) (P : Choice) (r q : Registers) : Type 0 where
  pub run : (u : ℕ) → r.run u ≡ q.run u
  pub fin : (u : ℕ) → r.fin u ≡ q.fin u
  pub res : (u : ℕ) → (r.res u).bits ≡ (q.res u).bits
  pub at : (f : ℕ) → f < C.functions → many C f ≡ true → r.at f ≡ q.at f
  pub arg : (f : ℕ) → f < C.functions → numbers (r.arg f) ≡ numbers (q.arg f)
  pub sent : (k : ℕ) → 0 < k → r.sent k ≡ q.sent k
  pub got : (k : ℕ) → 0 < k → r.got k ≡ q.got k
  pub keep : (k : ℕ) → 0 < k → k ≤ C.sites → P.kept k ≡ true → (r.keep k).bits ≡ (q.keep k).bits

-- the named wires and the outputs have the numbers that the equations give for the registers and the inputs
pub record Wires (C : Program) (D : Names) (P : Choice) (n : Netlist) (v : Valuation) (r : Registers) (i : Inputs) : Type 0 where
  pub ends : (f : ℕ) → f < C.functions → read n v (of_function D (codes "end$") f) ≡ bit_of (is_some (end_word C P r f))
  pub loops : (f : ℕ) → f < C.functions → read n v (of_function D (codes "loop$") f) ≡ bit_of (is_some (loop_words C P r f))
  pub wants : (k : ℕ) → 0 < k → k ≤ C.sites → read n v (of_site (codes "want$") k) ≡ bit_of (want C P r k)
  pub rets : (k : ℕ) → 0 < k → k ≤ C.sites → read n v (of_site (codes "ret$") k) ≡ bit_of (ret C r k)
  pub arbs : (k : ℕ) → 0 < k → k ≤ C.sites → P.arbiter (unit_for C k) ≡ true → read n v (of_site (codes "arb$") k) ≡ bit_of (go C P r i k)
  pub goes : (k : ℕ) → 0 < k → k ≤ C.sites → read n v (of_site (codes "go$") k) ≡ bit_of (go C P r i k)
  pub goes_main : read n v (codes "go$main") ≡ bit_of (go C P r i 0)
  pub done : read_output n v (codes "done") ≡ bit_of (ret C r 0)
  pub result : read_output n v (codes "result") ≡ (r.res (C.unit C.main)).bits

-- The netlist is whole and acyclic, has the ports, registers and named wires of the layout, and resets to 0. In every valuation
-- that fits any state, the named wires and the next numbers of the registers are as the equations say.
pub record Scheme (C : Program) (D : Names) (P : Choice) (n : Netlist) : Type 0 where
  pub whole : AllSet n
  pub acyclic : IsAcyclic n
  -- each parameter has a name
  pub params : (f : ℕ) → f < C.functions → length (D.params f) ≡ length (C.params f)
  -- no two signals have the same name
  pub distinct : (s t : ℕ) (g h : Signal) → slice_get n.signals s ≡ Some g → slice_get n.signals t ≡ Some h → g.name ≡ h.name → s ≡ t
  pub outputs : output_lines n ≡ (codes "done", 1) ∷ (codes "result", C.result C.main) ∷ []
  pub inputs : each_line input_kind n.signals ≡ (codes "start", 1) ∷ zip (map (λ (x : List ℕ). codes "in$" ++ x) (D.params C.main)) (C.params C.main)
  pub registers : each_line register_kind n.signals ≡ layout_registers C D P
  -- the named wires come before all other wires
  pub others : List Line
  pub named : each_line wire_kind n.signals ≡ layout_wires C D P ++ others
  pub resets : (s : ℕ) → reset_state n s ≡ 0
  pub wires : (v : Valuation) (state : ℕ → ℕ) → Fits n state v → Wires C D P n v (registers_now C D n v) (input_now C n v)
  pub edge : (v : Valuation) (state : ℕ → ℕ) → Fits n state v → Agree C P (view C D (read_next n v)) (next C P (input_now C n v) (registers_now C D n v))

-- the events of a cycle, as its named wires show them
abbrev pub ret_on : Netlist → Valuation → ℕ → Bool
ret_on n v zero = one (read_output n v (codes "done"))
ret_on n v (suc k) = one (read n v (of_site (codes "ret$") (suc k)))

abbrev pub go_up : Netlist → Valuation → ℕ → Bool
go_up n v zero = one (read n v (codes "go$main"))
go_up n v (suc k) = one (read n v (of_site (codes "go$") (suc k)))

abbrev pub net_events : Program → Names → Netlist → Valuation → List Event
net_events C D n v =
    picks (ret_on n v) Return (suc C.sites)
    ++ (picks (go_up n v) Accept (suc C.sites)
    ++ (picks (λ f. one (read n v (of_function D (codes "end$") f))) Finish C.functions
    ++ picks (λ f. one (read n v (of_function D (codes "loop$") f))) LoopInto C.functions))
