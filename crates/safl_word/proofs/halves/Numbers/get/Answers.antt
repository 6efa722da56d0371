use Rattle.std.proofs.Common.{◌+◌, ◌*◌, ◌^◌, slice_index, sym, ap, ◌∙◌, arith}
use Rattle.std.proofs.lemmas.List.{get_or_read}
use Rattle.safl_word.proofs.Joining.{places_known, joined_index}
use Rattle.safl_word.proofs.halves.Numbers.get.Goals as goal

pub index-requires : goal.index-requires
index-requires c =
    let n = c.self.inside in
    let k = (places_known n.low.items n.high.items c.args.self.now c.args.i c.self.view_is c.self.invariant c.requires).0 in
    let ok = n.low.ok.0 in
    omega (arith, k, ok)

pub index-requires-2 : goal.index-requires-2
index-requires-2 c =
    let n = c.self.inside in
    let k = (places_known n.low.items n.high.items c.args.self.now c.args.i c.self.view_is c.self.invariant c.requires).1 in
    let ok = n.high.ok.0 in
    omega (arith, k, ok)

pub returns : goal.returns
returns c =
    let n = c.self.inside in
    let i = c.args.i in
    let k = places_known n.low.items n.high.items c.args.self.now c.args.i c.self.view_is c.self.invariant c.requires in
    let low = get_or_read n.low.items i _ k.0 c.index.ensures 0 in
    let high = get_or_read n.high.items i _ k.1 c.index-2.ensures 0 in
    c.from_halves.ensures ∙ ap (λ x. x + c.index-2.result.now * 2 ^ 64) low ∙ ap (λ x. slice_index n.low.items i + x * 2 ^ 64) high
    ∙ sym (joined_index n.low.items n.high.items i c.self.invariant k.0) ∙ ap (λ l. slice_index l i) c.self.view_is
