use Rattle.std.proofs.Common.{◌≡◌, ℕ, ◌<◌, length, sym, ap, subst, ◌∙◌, arith}
use Rattle.safl_word.specs.Words.{IsWord, as_word}
use Rattle.safl_net.specs.Netlist.{Netlist, width_of}
use Rattle.safl_sim.specs.Simulation.{Simulation}
use Rattle.safl_sim.proofs.Actions.{signal_word}
use Rattle.safl_sim.proofs.sim.Sim.value.Goals as goal

pub from_parts-requires : goal.from_parts-requires
from_parts-requires c =
    let s = c.self.inside in
    let net : s.ordered.net ≡ c.args.self.now.net = ap (λ (x : Simulation). x.net) c.self.view_is in
    let here : c.args.s.0 < length s.ordered.net.signals = (let a = ap (λ (n : Netlist). length n.signals) net in let b = c.requires in omega (arith, a, b)) in
    subst (λ (x : ℕ). IsWord (as_word c.width.result x)) (sym c.get.ensures)
    (signal_word s.ordered.net s.values c.args.s.0 c.width.result c.self.invariant.keeps.made c.self.invariant.keeps.values here
    (c.width.ensures ∙ ap (λ (n : Netlist). width_of n c.args.s.0) c.net.ensures.net))

pub get-requires : goal.get-requires
get-requires c =
    let s = c.self.inside in
    let net : s.ordered.net ≡ c.args.self.now.net = ap (λ (x : Simulation). x.net) c.self.view_is in
    let a = c.self.invariant.keeps.long in
    let b = ap (λ (n : Netlist). length n.signals) net in
    let d = c.requires in
    omega (arith, a, b, d)
