use Rattle.std.proofs.Common.{◌<◌, ◌^◌, set, slice_index, sym, ap, subst, ◌∙◌, arith}
use Rattle.safl_word.proofs.Joining.{places_known, no_high, joined_set_low}
use Rattle.safl_word.proofs.halves.Numbers.set_low.Goals as goal

pub index_mut-requires : goal.index_mut-requires
index_mut-requires c =
    let n = c.self.inside in
    let k = (places_known n.low.items n.high.items c.args.self.now c.args.i c.self.view_is c.self.invariant c.requires.within).0 in
    let ok = n.low.ok.0 in
    omega (arith, k, ok)

pub returns : goal.returns
returns c =
    let n = c.self.inside in
    let i = c.args.i in
    let k = places_known n.low.items n.high.items c.args.self.now c.args.i c.self.view_is c.self.invariant c.requires.within in
    joined_set_low n.low.items n.high.items i c.args.number c.self.invariant
    (no_high n.low.items n.high.items i c.self.invariant k.0 (subst (λ l. slice_index l i < 2 ^ 64) (sym c.self.view_is) c.requires.low))
    ∙ ap (λ l. set l i c.args.number) c.self.view_is
