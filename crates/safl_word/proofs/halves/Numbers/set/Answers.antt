use Rattle.std.proofs.Common.{◌≡◌, ◌+◌, ◌*◌, ◌^◌, set, ap, ◌∙◌, arith}
use Rattle.safl_word.specs.Halves.{joined_halves}
use Rattle.safl_word.proofs.Joining.{places_known, joined_set}
use Rattle.safl_word.proofs.halves.Numbers.set.Goals as goal

pub index_mut-requires : goal.index_mut-requires
index_mut-requires c =
    let n = c.self.inside in
    let k = (places_known n.low.items n.high.items c.args.self.now c.args.i c.self.view_is c.self.invariant c.requires).0 in
    let ok = n.low.ok.0 in
    omega (arith, k, ok)

pub index_mut-requires-2 : goal.index_mut-requires-2
index_mut-requires-2 c =
    let n = c.self.inside in
    let k = (places_known n.low.items n.high.items c.args.self.now c.args.i c.self.view_is c.self.invariant c.requires).1 in
    let ok = n.high.ok.0 in
    omega (arith, k, ok)

pub returns : goal.returns
returns c =
    let n = c.self.inside in
    let x = c.args.number in
    let a = c.low_half.ensures in
    let b = c.high_half.ensures in
    let e : c.low_half.result + c.high_half.result * 2 ^ 64 ≡ x = omega (arith, a, b) in
    joined_set n.low.items n.high.items c.args.i c.low_half.result c.high_half.result c.self.invariant
    ∙ ap (λ y. set (joined_halves n.low.items n.high.items) c.args.i y) e ∙ ap (λ l. set l c.args.i x) c.self.view_is
