use Rattle.safl_number_set.proofs.Common.{Shifts, get_or_read}
use Rattle.std.proofs.Common.{◌≡◌, ◌/◌, ◌<◌, ◌≤◌, length, get_or, cond, sym, subst, ⊎_elim, arith}
use Rattle.std.proofs.lemmas.Bool.{cases_lt}
use Rattle.safl_number_set.proofs.CountedGroups.{Halfway, half_first, half_last, half_next, half_rises, sums_fit, share_least}
use Rattle.safl_number_set.proofs.groups.count.Goals as goal

pub loop-k-init : goal.loop-k-init
loop-k-init c =
    let s = c.args.s.now in
    let h = c.requires.grouped in
    let read : c.index.result.now ≡ get_or s.links.heads.items c.args.g 0 = get_or_read s.links.heads.items c.args.g _
    (omega (arith, c.requires.group, h.heads)) c.index.ensures 0 in
    subst (λ k. Halfway s c.args.g c.args.more k c.args.tally.now) (sym read)
    (half_first s h c.args.g c.args.more c.requires.group c.requires.differs c.args.tally.now c.requires.tallies)

pub shift-requires-clause-few : goal.shift-requires-clause-few
shift-requires-clause-few c =
    let s = c.args.s.now in
    let h = c.requires.grouped in
    let k = c.loop-k.k in
    let in_set : k < length s.group.items = omega (arith, c.loop-k-test.true, c.len-numbers.ensures, s.parts.ok.0, h.parts_all) in
    let part : c.index-in-loop-k.result.now ≡ get_or s.parts.items k 0 = get_or_read s.parts.items k _
    (omega (arith, in_set, h.parts_all)) c.index-in-loop-k.ensures 0 in
    omega (arith, part, sums_fit s h c.args.g c.args.more c.requires.group c.requires.differs k c.loop-k.tally c.loop-k.invariant in_set)

pub shift-requires-clause-enough : goal.shift-requires-clause-enough
shift-requires-clause-enough c =
    let s = c.args.s.now in
    let h = c.requires.grouped in
    let k = c.loop-k.k in
    let in_set : k < length s.group.items = omega (arith, c.loop-k-test.true, c.len-numbers.ensures, s.parts.ok.0, h.parts_all) in
    let part : c.index-in-loop-k.result.now ≡ get_or s.parts.items k 0 = get_or_read s.parts.items k _
    (omega (arith, in_set, h.parts_all)) c.index-in-loop-k.ensures 0 in
    subst (λ x. cond c.args.more 0 x ≤ get_or c.loop-k.tally.blocks.items (k / 32) 0) (sym part)
    (share_least s h c.args.g c.args.more c.requires.group c.requires.differs k c.loop-k.tally c.loop-k.invariant in_set)

pub loop-k-preserved : goal.loop-k-preserved
loop-k-preserved c =
    let s = c.args.s.now in
    let h = c.requires.grouped in
    let k = c.loop-k.k in
    let in_set : k < length s.group.items = omega (arith, c.loop-k-test.true, c.len-numbers.ensures, s.parts.ok.0, h.parts_all) in
    let part : c.index-in-loop-k.result.now ≡ get_or s.parts.items k 0 = get_or_read s.parts.items k _
    (omega (arith, in_set, h.parts_all)) c.index-in-loop-k.ensures 0 in
    let next : c.index-in-loop-k-2.result.now ≡ get_or s.links.nexts.items k 0 = get_or_read s.links.nexts.items k _
    (omega (arith, in_set, h.linked.nexts_all)) c.index-in-loop-k-2.ensures 0 in
    let half = half_next s h c.args.g c.args.more c.requires.group c.requires.differs k c.loop-k.tally c.loop-k.invariant in_set c.shift.new.self
    (subst (λ x. Shifts c.loop-k.tally (k / 32) x c.args.more c.shift.new.self) part c.shift.ensures) in
    subst (λ i. Halfway s c.args.g c.args.more i c.shift.new.self) (sym next) half

pub loop-k-smaller : goal.loop-k-smaller
loop-k-smaller c =
    let s = c.args.s.now in
    let h = c.requires.grouped in
    let k = c.loop-k.k in
    let in_set : k < length s.group.items = omega (arith, c.loop-k-test.true, c.len-numbers.ensures, s.parts.ok.0, h.parts_all) in
    let part : c.index-in-loop-k.result.now ≡ get_or s.parts.items k 0 = get_or_read s.parts.items k _
    (omega (arith, in_set, h.parts_all)) c.index-in-loop-k.ensures 0 in
    let next : c.index-in-loop-k-2.result.now ≡ get_or s.links.nexts.items k 0 = get_or_read s.links.nexts.items k _
    (omega (arith, in_set, h.linked.nexts_all)) c.index-in-loop-k-2.ensures 0 in
    let half = half_next s h c.args.g c.args.more c.requires.group c.requires.differs k c.loop-k.tally c.loop-k.invariant in_set c.shift.new.self
    (subst (λ x. Shifts c.loop-k.tally (k / 32) x c.args.more c.shift.new.self) part c.shift.ensures) in
    let rises = half_rises s h c.args.g c.args.more c.requires.group c.requires.differs k c.loop-k.tally c.loop-k.invariant in_set c.shift.new.self half in
    ⊎_elim
    (λ lt. let up = rises lt in omega (arith, next, up, c.loop-k-test.true))
    (λ ge. omega (arith, next, ge, c.loop-k-test.true, c.len-numbers.ensures, s.parts.ok.0, h.parts_all))
    (cases_lt (get_or s.links.nexts.items k 0) (length s.group.items))

pub returns : goal.returns
returns c =
    let s = c.args.s.now in
    let h = c.requires.grouped in
    let past : length s.group.items ≤ c.loop-k.k = omega (arith, c.loop-k-test.false, c.len-numbers.ensures, s.parts.ok.0, h.parts_all) in
    half_last s h c.args.g c.args.more c.requires.group c.requires.differs c.loop-k.k c.loop-k.tally c.loop-k.invariant past
