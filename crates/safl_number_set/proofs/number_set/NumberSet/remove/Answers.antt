use Rattle.safl_number_set.proofs.Common.{List, arith, get_or, get_or_read, length, subst, sym, ℕ, ◌-◌, ◌/◌, ◌<◌, ◌≡◌}
use Rattle.safl_number_set.proofs.SumsOfParts.{set_counted, part_least, bit_least}
use Rattle.safl_number_set.proofs.number_set.NumberSet.remove.Goals as goal

pub invariant_of-self : goal.invariant_of-self
invariant_of-self c =
    let n = c.self.inside in
    let k = c.args.k in
    let h = c.self.invariant in
    let lt : k < length n.ones.items = subst (λ (l : List ℕ). k < length l) (sym c.self.view_is) c.requires in
    let bit : c.index.result.now ≡ get_or n.ones.items k 0 = get_or_read n.ones.items k _ lt c.index.ensures 0 in
    let one : get_or n.ones.items k 0 ≡ 1 = omega (arith, h.bits k, bit, c.if-index-eq0.false) in
    let in_blocks : k / 32 < length n.blocks.items = omega (arith, lt, h.blocks.enough) in
    let block : c.index_mut-2.result.now ≡ get_or n.blocks.items (k / 32) 0 = get_or_read n.blocks.items (k / 32) _ in_blocks c.index_mut-2.ensures.value 0 in
    let top : c.index_mut-3.result.now ≡ get_or n.tops.items (k / 32 / 32) 0 = get_or_read n.tops.items (k / 32 / 32) _ (omega (arith, in_blocks, h.tops.enough)) c.index_mut-3.ensures.value 0 in
    let a = part_least n.ones.items n.blocks.items k h.blocks lt in
    let b = part_least n.blocks.items n.tops.items (k / 32) h.tops in_blocks in
    let t = bit_least n.ones.items n.blocks.items n.tops.items n.total h k lt in
    set_counted n.ones.items n.blocks.items n.tops.items n.total h k 0 (c.index_mut-2.result.now - 1) (c.index_mut-3.result.now - 1) (n.total - 1) lt
    (omega arith) (omega (arith, one, block, a)) (omega (arith, one, top, a, b)) (omega (arith, one, t))

pub overflow_sub-index_mut : goal.overflow_sub-index_mut
overflow_sub-index_mut c =
    let n = c.self.inside in
    let k = c.args.k in
    let h = c.self.invariant in
    let lt : k < length n.ones.items = subst (λ (l : List ℕ). k < length l) (sym c.self.view_is) c.requires in
    let in_blocks : k / 32 < length n.blocks.items = omega (arith, lt, h.blocks.enough) in
    let bit : c.index.result.now ≡ get_or n.ones.items k 0 = get_or_read n.ones.items k _ lt c.index.ensures 0 in
    let block : c.index_mut-2.result.now ≡ get_or n.blocks.items (k / 32) 0 = get_or_read n.blocks.items (k / 32) _ in_blocks c.index_mut-2.ensures.value 0 in
    omega (arith, bit, block, c.if-index-eq0.false, part_least n.ones.items n.blocks.items k h.blocks lt)

pub overflow_sub-index_mut-2 : goal.overflow_sub-index_mut-2
overflow_sub-index_mut-2 c =
    let n = c.self.inside in
    let k = c.args.k in
    let h = c.self.invariant in
    let lt : k < length n.ones.items = subst (λ (l : List ℕ). k < length l) (sym c.self.view_is) c.requires in
    let in_blocks : k / 32 < length n.blocks.items = omega (arith, lt, h.blocks.enough) in
    let bit : c.index.result.now ≡ get_or n.ones.items k 0 = get_or_read n.ones.items k _ lt c.index.ensures 0 in
    let in_tops : k / 32 / 32 < length n.tops.items = omega (arith, in_blocks, h.tops.enough) in
    let top : c.index_mut-3.result.now ≡ get_or n.tops.items (k / 32 / 32) 0 = get_or_read n.tops.items (k / 32 / 32) _ in_tops c.index_mut-3.ensures.value 0 in
    omega (arith, bit, top, c.if-index-eq0.false, part_least n.ones.items n.blocks.items k h.blocks lt, part_least n.blocks.items n.tops.items (k / 32) h.tops in_blocks)
