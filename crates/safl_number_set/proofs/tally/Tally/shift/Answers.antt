use Rattle.safl_number_set.proofs.Common.{get_or_read, shift_of}
use Rattle.std.proofs.Common.{◌≡◌, ℕ, ◌/◌, ◌<◌, ◌≤◌, length, get_or, ap, ◌∙◌, arith, length-set}
use Rattle.std.specs.Prelude.{slice_set}
use Rattle.std.proofs.lemmas.List.Sums.{sum_by-set, get_or-le-sum_by}
use Rattle.safl_number_set.proofs.SumsOfParts.{sums_set, sum_all, part_least}
use Rattle.safl_number_set.proofs.CountedGroups.{shift_balance}
use Rattle.safl_number_set.proofs.tally.Tally.shift.Goals as goal

abbrev same : ℕ → ℕ
same x = x

pub shifted-requires-2-clause-few : goal.shifted-requires-2-clause-few
shifted-requires-2-clause-few c =
    let t = c.args.self.now in
    let h = c.requires.summed in
    let in_tops : c.args.block / 32 < length t.tops.items = omega (arith, c.requires.within, h.tops.enough) in
    let top : c.index-2.result.now ≡ get_or t.tops.items (c.args.block / 32) 0 = get_or_read t.tops.items (c.args.block / 32) _ in_tops c.index-2.ensures 0 in
    let le = get_or-le-sum_by same t.tops.items (c.args.block / 32) 0 in_tops in
    omega (arith, top, le, sum_all t.blocks.items t.tops.items h.tops, c.requires.few)

pub shifted-requires-2-clause-enough : goal.shifted-requires-2-clause-enough
shifted-requires-2-clause-enough c =
    let t = c.args.self.now in
    let h = c.requires.summed in
    let in_tops : c.args.block / 32 < length t.tops.items = omega (arith, c.requires.within, h.tops.enough) in
    let top : c.index-2.result.now ≡ get_or t.tops.items (c.args.block / 32) 0 = get_or_read t.tops.items (c.args.block / 32) _ in_tops c.index-2.ensures 0 in
    omega (arith, top, c.requires.enough, part_least t.blocks.items t.tops.items c.args.block h.tops c.requires.within)

pub returns : goal.returns
returns c =
    let t = c.args.self.now in
    let h = c.requires.summed in
    let b = c.args.block in
    let in_tops : b / 32 < length t.tops.items = omega (arith, c.requires.within, h.tops.enough) in
    let block : c.index.result.now ≡ get_or t.blocks.items b 0 = get_or_read t.blocks.items b _ c.requires.within c.index.ensures 0 in
    let top : c.index-2.result.now ≡ get_or t.tops.items (b / 32) 0 = get_or_read t.tops.items (b / 32) _ in_tops c.index-2.ensures 0 in
    let new_block = c.shifted.ensures ∙ ap (λ x. shift_of x c.args.by c.args.more) block in
    let new_top = c.shifted-2.ensures ∙ ap (λ x. shift_of x c.args.by c.args.more) top in
    let least = part_least t.blocks.items t.tops.items b h.tops c.requires.within in
    let part = get_or-le-sum_by same t.blocks.items b 0 c.requires.within in
    let moved = sum_by-set same t.blocks.items b c.shifted.result 0 c.requires.within in
    let in_all : get_or t.blocks.items b 0 ≤ t.total = omega (arith, part, h.total) in
    let all = shift_balance c.args.more c.shifted.result c.shifted-self.result (get_or t.blocks.items b 0) t.total c.args.by
    new_block c.shifted-self.ensures c.requires.enough in_all in
    record {
      blocks = ap (λ x. slice_set t.blocks.items b x) new_block;
      summed = record {
        few = omega (arith, h.few, length-set t.blocks.items b c.shifted.result);
        tops = sums_set t.blocks.items t.tops.items b c.shifted.result c.shifted-2.result h.tops c.requires.within
            (shift_balance c.args.more c.shifted.result c.shifted-2.result (get_or t.blocks.items b 0)
            (get_or t.tops.items (b / 32) 0) c.args.by new_block new_top c.requires.enough least);
        total = omega (arith, moved, all, h.total);
      };
    }
