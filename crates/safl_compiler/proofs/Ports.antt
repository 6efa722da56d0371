-- The inputs of a circuit other than `start` are the ports of main's parameters.
use Rattle.std.proofs.Common.{◌≡◌, ℕ, List, [], ◌∷◌, ◌++◌, map, length, Bool, true, false, cond, bytes_eq, refl, ap, ◌∙◌, arith}
use Rattle.std.specs.Prelude.{codes}
use Rattle.std.proofs.lemmas.Slice.Eq.{bytes_eq-Decides}
use Rattle.safl_term.specs.Checked.{CheckedProgram}
use Rattle.safl_term.proofs.HeldByChecked.{params_named}
use Rattle.safl_net.specs.Netlist.{Netlist, Signal, Kind, Input, Reg, Wire}
use Rattle.safl_net.specs.Runs.{is_argument}
use Rattle.safl_net.specs.Arguments.{argument_widths}
use Rattle.safl_sites.specs.Plan.{Choice}
use Rattle.safl_circuit.specs.Layout.{Line, named, each_line, input_kind}
use Rattle.safl_circuit.specs.Scheme.{Scheme}
use Rattle.safl_unit.proofs.assembly.Layers.{not_start}

-- the widths of the lines whose name is not `start`
abbrev port_widths : List Line → List ℕ
port_widths [] = []
port_widths (l ∷ ls) = cond (bytes_eq l.0 (codes "start")) (port_widths ls) (l.1 ∷ port_widths ls)

-- those of the inputs' lines are the arguments' widths
input_ports : (gs : List Signal) → argument_widths gs ≡ port_widths (each_line input_kind gs)
unfolding argument_widths each_line
input_ports [] = refl
input_ports (g ∷ gs) = by g.kind (input_ports gs)
  where
    at : (b : Bool) → argument_widths gs ≡ port_widths (each_line input_kind gs)
        → cond (cond b false true) (g.width ∷ argument_widths gs) (argument_widths gs) ≡ cond b (port_widths (each_line input_kind gs)) (g.width ∷ port_widths (each_line input_kind gs))
    at true e = e
    at false e = ap (λ ws. g.width ∷ ws) e

    by : (k : Kind) → argument_widths gs ≡ port_widths (each_line input_kind gs)
        → cond (is_argument g.name k) (g.width ∷ argument_widths gs) (argument_widths gs) ≡ port_widths (input_kind (g.name, g.width) k ++ each_line input_kind gs)
    by Input e = at (bytes_eq g.name (codes "start")) e
    by (Reg init next) e = e
    by (Wire cell) e = e

-- no port is named `start`
named_ports : (names : List (List ℕ)) (ws : List ℕ) → length names ≡ length ws → port_widths (named (map (λ x. codes "in$" ++ x) names) ws) ≡ ws
named_ports [] [] e = refl
named_ports [] (w ∷ ws) e = absurd (omega (arith, e))
named_ports (x ∷ names) [] e = absurd (omega (arith, e))
named_ports (x ∷ names) (w ∷ ws) e =
    let rest = port_widths (named (map (λ y. codes "in$" ++ y) names) ws) in
    ap (λ b. cond b rest (w ∷ rest)) (not_start x) ∙ ap (λ l. w ∷ l) (named_ports names ws (omega (arith, e)))

pub ports : (c : CheckedProgram) (P : Choice) (n : Netlist) → Scheme c.program c.names P n → argument_widths n.signals ≡ c.program.params c.program.main
ports c P n s =
    let C = c.program in
    let rest = named (map (λ x. codes "in$" ++ x) (c.names.params C.main)) (C.params C.main) in
    input_ports n.signals ∙ ap port_widths s.inputs
    ∙ ap (λ b. cond b (port_widths rest) (1 ∷ port_widths rest)) ((bytes_eq-Decides (codes "start") (codes "start")).1 refl)
    ∙ named_ports (c.names.params C.main) (C.params C.main) (params_named c C.main)
