use Rattle.std.proofs.Common.{◌<◌, ◌^◌, slice_index, sym, ap, subst, ◌∙◌, arith}
use Rattle.std.proofs.lemmas.List.{get_or_read}
use Rattle.safl_word.proofs.Joining.{places_known, low_is}
use Rattle.safl_word.proofs.halves.Numbers.get_low.Goals as goal

pub index-requires : goal.index-requires
index-requires c =
    let n = c.self.inside in
    let k = (places_known n.low.items n.high.items c.args.self.now c.args.i c.self.view_is c.self.invariant c.requires.within).0 in
    let ok = n.low.ok.0 in
    omega (arith, k, ok)

pub returns : goal.returns
returns c =
    let n = c.self.inside in
    let i = c.args.i in
    let k = places_known n.low.items n.high.items c.args.self.now c.args.i c.self.view_is c.self.invariant c.requires.within in
    get_or_read n.low.items i _ k.0 c.index.ensures 0
    ∙ low_is n.low.items n.high.items i c.self.invariant k.0 (subst (λ l. slice_index l i < 2 ^ 64) (sym c.self.view_is) c.requires.low)
    ∙ ap (λ l. slice_index l i) c.self.view_is
