use Rattle.std.proofs.Common.{◌≡◌, ℕ, ◌+◌, ◌*◌, ◌<◌, ◌≤◌, ◌^◌, List, length, slice_index, sym, ap, ◌∙◌, arith}
use Rattle.std.proofs.lemmas.List.{get_or_read}
use Rattle.safl_word.specs.Halves.{joined_halves}
use Rattle.safl_word.proofs.Joining.{index_past, joined_length, joined_index}
use Rattle.safl_word.proofs.halves.Numbers.is_one.Goals as goal

-- a number by its halves
halves : (ls hs ns : List ℕ) (i : ℕ) → joined_halves ls hs ≡ ns → length ls ≡ length hs → i < length ls → slice_index ns i ≡ slice_index ls i + slice_index hs i * 2 ^ 64
halves ls hs ns i is e h = sym (ap (λ l. slice_index l i) is) ∙ joined_index ls hs i e h

known : (ls hs : List ℕ) (i : ℕ) → length ls ≡ length hs → i < length ls → (i < length ls) × (i < length hs)
known ls hs i e h = (h, omega (arith, e, h))

pub returns-then-i-len-clause-no : goal.returns-then-i-len-clause-no
returns-then-i-len-clause-no c = λ f e.
    let n = c.self.inside in
    let past : length c.args.self.now ≤ c.args.i = (let a = ap length c.self.view_is in let b = joined_length n.low.items n.high.items
    c.self.invariant in let d = c.if-i-len.true in let l = c.len.ensures in let g = n.low.ok.0 in omega (arith, a, b, d, l, g)) in
    let z = index_past c.args.self.now c.args.i past in
    absurd (omega (arith, z, e))

pub index-requires : goal.index-requires
index-requires c =
    let n = c.self.inside in
    let k = c.if-i-len.false in
    let l = c.len.ensures in
    let ok = n.low.ok.0 in
    omega (arith, k, l, ok)

pub index-requires-2 : goal.index-requires-2
index-requires-2 c =
    let n = c.self.inside in
    let k = c.if-i-len.false in
    let l = c.len.ensures in
    let same = c.self.invariant in
    let low = n.low.ok.0 in
    let ok = n.high.ok.0 in
    omega (arith, k, l, same, low, ok)

pub returns-then-index-ne1-clause-no : goal.returns-then-index-ne1-clause-no
returns-then-index-ne1-clause-no c = λ f e.
    let n = c.self.inside in
    let k = known n.low.items n.high.items c.args.i c.self.invariant (let a = c.if-i-len.false in let b = c.len.ensures in let d = n.low.ok.0 in omega (arith, a, b, d)) in
    let low = get_or_read n.low.items c.args.i _ k.0 c.index.ensures 0 in
    let is = halves n.low.items n.high.items c.args.self.now c.args.i c.self.view_is c.self.invariant k.0 in
    let other = c.if-index-ne1.true in
    other (omega (arith, low, is, e))

pub returns-then-index-ne0-clause-no : goal.returns-then-index-ne0-clause-no
returns-then-index-ne0-clause-no c = λ f e.
    let n = c.self.inside in
    let k = known n.low.items n.high.items c.args.i c.self.invariant (let a = c.if-i-len.false in let b = c.len.ensures in let d = n.low.ok.0 in omega (arith, a, b, d)) in
    let high = get_or_read n.high.items c.args.i _ k.1 c.index-2.ensures 0 in
    let is = halves n.low.items n.high.items c.args.self.now c.args.i c.self.view_is c.self.invariant k.0 in
    let other = c.if-index-ne0.true in
    other (omega (arith, high, is, e))

pub returns-clause-yes : goal.returns-clause-yes
returns-clause-yes c = λ t.
    let n = c.self.inside in
    let k = known n.low.items n.high.items c.args.i c.self.invariant (let a = c.if-i-len.false in let b = c.len.ensures in let d = n.low.ok.0 in omega (arith, a, b, d)) in
    let low = get_or_read n.low.items c.args.i _ k.0 c.index.ensures 0 in
    let high = get_or_read n.high.items c.args.i _ k.1 c.index-2.ensures 0 in
    let is = halves n.low.items n.high.items c.args.self.now c.args.i c.self.view_is c.self.invariant k.0 in
    let one = c.if-index-ne1.false in
    let zero = c.if-index-ne0.false in
    omega (arith, low, high, is, one, zero)
