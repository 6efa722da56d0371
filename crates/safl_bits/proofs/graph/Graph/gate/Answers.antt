use Rattle.std.proofs.Common.{sym, subst}
use Rattle.safl_bits.specs.Gates.{IsLiteral, HasRoom}
use Rattle.safl_bits.proofs.Sharing.{gates_put, value_put}
use Rattle.safl_bits.proofs.graph.Graph.gate.Goals as goal

pub invariant_of-self-2 : goal.invariant_of-self-2
invariant_of-self-2 c =
    let e = sym c.self.view_is in
    gates_put c.self.inside.first c.self.inside.ands.keys c.insert_full.new.self.keys (record { low = c.args.low; high = c.args.high })
    c.self.invariant (subst (λ g. IsLiteral g c.args.low) e c.requires.first)
    (subst (λ g. IsLiteral g c.args.high) e c.requires.second) (subst (λ g. HasRoom g 1) e c.requires.room) c.in_ok-index.ensures.keys

pub returns-clause-value : goal.returns-clause-value
returns-clause-value c = λ m h.
    let s = c.in_ok-index.ensures.stored in
    value_put c.self.inside.first c.insert_full.new.self.keys (record { low = c.args.low; high = c.args.high }) s.0 c.in_ok-index.index m s.1 s.2 h
