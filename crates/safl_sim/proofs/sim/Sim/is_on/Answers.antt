use Rattle.std.proofs.Common.{◌≡◌, ℕ, ◌<◌, List, length, slice_index, sym, ap, subst, ◌∙◌, arith}
use Rattle.safl_net.specs.Netlist.{Netlist, width_of}
use Rattle.safl_sim.specs.Simulation.{Simulation}
use Rattle.safl_sim.proofs.Actions.{signal_word}
use Rattle.safl_sim.proofs.sim.Sim.is_on.Goals as goal

pub returns-clause-off : goal.returns-clause-off
returns-clause-off c =
    let s = c.self.inside in
    let net : s.ordered.net ≡ c.args.self.now.net = ap (λ (x : Simulation). x.net) c.self.view_is in
    let values : s.values ≡ c.args.self.now.values = ap (λ (x : Simulation). x.values) c.self.view_is in
    let here : c.args.s.0 < length s.ordered.net.signals = (let a = ap (λ (n : Netlist). length n.signals) net in let b = c.requires.known in omega (arith, a, b)) in
    let one : 1 ≡ width_of s.ordered.net c.args.s.0 = sym (ap (λ (n : Netlist). width_of n c.args.s.0) net ∙ c.requires.bit) in
    subst (λ (l : List ℕ). slice_index l c.args.s.0 < 2) values
    (signal_word s.ordered.net s.values c.args.s.0 1 c.self.invariant.keeps.made c.self.invariant.keeps.values here one).fits
