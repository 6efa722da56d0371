use Rattle.safl_number_set.proofs.Common.{get_or_read, part, shift_of, sum}
use Rattle.std.proofs.Common.{◌≡◌, ℕ, ◌/◌, ◌<◌, List, length, set, get_or, sym, ap, ◌∙◌, arith, length-set}
use Rattle.safl_number_set.specs.Groups.{Grouped, weighed, only}
use Rattle.safl_number_set.proofs.CountedGroups.{end_in, part_fits, part_least_of, put_parts, set_bits, bit_few}
use Rattle.safl_number_set.proofs.groups.put.Goals as goal

abbrev grouped_as : List ℕ → List ℕ → List ℕ → Grouped
grouped_as g w o = record { group = g; within = w; opened = o }

pub shifted-requires-clause-few : goal.shifted-requires-clause-few
shifted-requires-clause-few c =
    let s = c.args.s.now in
    let h = c.requires.grouped in
    let k = c.args.k in
    let end : c.index.result.now ≡ get_or s.links.ends.items k 0 = get_or_read s.links.ends.items k _
    (omega (arith, c.requires.number, h.linked.ends_all)) c.index.ensures 0 in
    let within : c.index.result.now < length s.parts.items = omega (arith, end, end_in s h k c.args.is_in c.requires.number c.requires.differs) in
    let part : c.index-2.result.now ≡ get_or s.parts.items (get_or s.links.ends.items k 0) 0 =
    get_or_read s.parts.items c.index.result.now _ within c.index-2.ensures 0 ∙ ap (λ i. get_or s.parts.items i 0) end in
    omega (arith, part, part_fits s h k c.args.is_in c.requires.number c.requires.differs)

pub shifted-requires-clause-enough : goal.shifted-requires-clause-enough
shifted-requires-clause-enough c =
    let s = c.args.s.now in
    let h = c.requires.grouped in
    let k = c.args.k in
    let end : c.index.result.now ≡ get_or s.links.ends.items k 0 = get_or_read s.links.ends.items k _
    (omega (arith, c.requires.number, h.linked.ends_all)) c.index.ensures 0 in
    let within : c.index.result.now < length s.parts.items = omega (arith, end, end_in s h k c.args.is_in c.requires.number c.requires.differs) in
    let part : c.index-2.result.now ≡ get_or s.parts.items (get_or s.links.ends.items k 0) 0 =
    get_or_read s.parts.items c.index.result.now _ within c.index-2.ensures 0 ∙ ap (λ i. get_or s.parts.items i 0) end in
    omega (arith, part, part_least_of s h k c.args.is_in c.requires.number c.requires.differs)

pub returns : goal.returns
returns c =
    let s = c.args.s.now in
    let h = c.requires.grouped in
    let k = c.args.k in
    let b = c.args.is_in in
    let end : c.index.result.now ≡ get_or s.links.ends.items k 0 = get_or_read s.links.ends.items k _
    (omega (arith, c.requires.number, h.linked.ends_all)) c.index.ensures 0 in
    let within : c.index.result.now < length s.parts.items = omega (arith, end, end_in s h k b c.requires.number c.requires.differs) in
    let part_is : c.index-2.result.now ≡ get_or s.parts.items (get_or s.links.ends.items k 0) 0 =
    get_or_read s.parts.items c.index.result.now _ within c.index-2.ensures 0 ∙ ap (λ i. get_or s.parts.items i 0) end in
    let new = c.shifted.ensures ∙ ap (λ x. shift_of x 1 b) part_is in
    record {
      grouped = record {
        few = h.few;
        below = h.below;
        long = length-set s.within.items k c.bit.result ∙ h.long;
        bits = set_bits s.within.items k c.bit.result h.bits (omega (arith, c.bit.ensures, bit_few b));
        opens = h.opens;
        heads = h.heads;
        linked = h.linked;
        parts_all = length-set s.parts.items c.index.result.now c.shifted.result ∙ h.parts_all;
        parts = λ j to.
            ap (λ i. get_or (set s.parts.items i c.shifted.result) (get_or s.links.ends.items j 0) 0) end
            ∙ (put_parts s h k b c.requires.number c.requires.differs c.shifted.result new j to
            ∙ ap (λ x. sum (part (j / 32) (weighed (only (get_or s.group.items j 0)) s.group.items (set s.within.items k x)))) (sym c.bit.ensures));
      };
      now = ap (λ x. grouped_as s.group.items (set s.within.items k x) s.opened.items) c.bit.ensures;
    }
