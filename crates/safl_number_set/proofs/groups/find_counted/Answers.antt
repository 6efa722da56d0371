use Rattle.safl_number_set.proofs.Common.{List, ap, arith, counted, length, shown_groups, sum, take, ℕ, ◌≡◌, ◌≤◌}
use Rattle.std.proofs.lemmas.List.{take_all}
use Rattle.std.proofs.lemmas.List.Sums.{sum_by-take-le}
use Rattle.safl_number_set.proofs.SumsOfParts.{sum_bits}
use Rattle.safl_number_set.proofs.CountedGroups.{counted_bits, counted_long}
use Rattle.safl_number_set.proofs.groups.find_counted.Goals as goal

abbrev same : ℕ → ℕ
same x = x

pub overflow_add-next : goal.overflow_add-next
overflow_add-next c =
    let s = c.args.s.now in
    let h = c.requires.grouped in
    let bit = counted_bits s h c.loop-k.k in
    let part = sum_by-take-le same (counted (shown_groups s)) c.loop-k.k in
    let all = sum_bits (counted (shown_groups s)) (counted_bits s h) in
    omega (arith, c.loop-k.invariant.start, part, all, counted_long s h, h.few, c.counts.ensures, bit)

pub returns-then-place-next-clause-within : goal.returns-then-place-next-clause-within
returns-then-place-next-clause-within c =
    let s = c.args.s.now in
    let h = c.requires.grouped in
    let bit = counted_bits s h c.loop-k.k in
    omega (arith, bit, c.counts.ensures, c.if-place-next.true, c.loop-k.invariant.reached)

pub returns-then-place-next-clause-below : goal.returns-then-place-next-clause-below
returns-then-place-next-clause-below c =
    let s = c.args.s.now in
    let h = c.requires.grouped in
    let bit = counted_bits s h c.loop-k.k in
    omega (arith, bit, c.counts.ensures, c.if-place-next.true, c.loop-k.invariant.reached, c.loop-k.invariant.start)

pub unreachable-requires : goal.unreachable-requires
unreachable-requires c =
    let s = c.args.s.now in
    let h = c.requires.grouped in
    let past : length (counted (shown_groups s)) ≤ c.loop-k.k = omega (arith, c.loop-k-test.false, c.len-k-end.ensures, s.group.ok.0, counted_long s h) in
    let all : sum (take c.loop-k.k (counted (shown_groups s))) ≡ sum (counted (shown_groups s)) = ap (λ (l : List ℕ). sum l) (take_all c.loop-k.k (counted (shown_groups s)) past) in
    omega (arith, all, c.loop-k.invariant.start, c.loop-k.invariant.reached, c.requires.passed)
