use Rattle.safl_number_set.proofs.Common.{ap, arith, get_or, get_or_read, length, sym, ◌*◌, ◌<◌, ◌∙◌, ◌≡◌}
use Rattle.safl_number_set.proofs.CountedGroups.{counted_at, counted_bits}
use Rattle.safl_number_set.proofs.groups.counts.Goals as goal

pub overflow_mul-result : goal.overflow_mul-result
overflow_mul-result c =
    let s = c.args.s.now in
    let k = c.args.k in
    let h = c.requires.grouped in
    let group : c.index-2.result.now ≡ get_or s.group.items k 0 = get_or_read s.group.items k _ c.requires.number c.index-2.ensures 0 in
    let bit : c.index.result.now ≡ get_or s.within.items k 0 = get_or_read s.within.items k _ (omega (arith, c.requires.number, h.long)) c.index.ensures 0 in
    let low : c.index-2.result.now < length s.opened.items = omega (arith, h.below k c.requires.number, group) in
    let open_bit : c.index-3.result.now ≡ get_or s.opened.items (get_or s.group.items k 0) 0 =
    get_or_read s.opened.items c.index-2.result.now _ low c.index-3.ensures 0 ∙ ap (λ g. get_or s.opened.items g 0) group in
    let is = ap (λ x. x * c.index-3.result.now) bit ∙ (ap (λ x. get_or s.within.items k 0 * x) open_bit ∙ sym (counted_at s h k)) in
    omega (arith, is, counted_bits s h k)

pub returns : goal.returns
returns c =
    let s = c.args.s.now in
    let k = c.args.k in
    let h = c.requires.grouped in
    let group : c.index-2.result.now ≡ get_or s.group.items k 0 = get_or_read s.group.items k _ c.requires.number c.index-2.ensures 0 in
    let bit : c.index.result.now ≡ get_or s.within.items k 0 = get_or_read s.within.items k _ (omega (arith, c.requires.number, h.long)) c.index.ensures 0 in
    let low : c.index-2.result.now < length s.opened.items = omega (arith, h.below k c.requires.number, group) in
    let open_bit : c.index-3.result.now ≡ get_or s.opened.items (get_or s.group.items k 0) 0 =
    get_or_read s.opened.items c.index-2.result.now _ low c.index-3.ensures 0 ∙ ap (λ g. get_or s.opened.items g 0) group in
    ap (λ x. x * c.index-3.result.now) bit ∙ (ap (λ x. get_or s.within.items k 0 * x) open_bit ∙ sym (counted_at s h k))
