use Rattle.std.proofs.Common.{◌≡◌, ◌<◌, ◌*◌, ◌/◌, ◌%◌, ◌^◌, ℕ, List, length, set, slice_index, sym, ap, subst, ◌∙◌, arith}
use Rattle.std.specs.Int.RustNames.{bit_or}
use Rattle.std.proofs.lemmas.List.{get_or_read}
use Rattle.safl_sim.specs.Marks.{HasMark}
use Rattle.safl_sim.proofs.MarksByOne.{mark_has}
use Rattle.safl_sim.proofs.marks.Marks.mark.Goals as goal

pub returns : goal.returns
returns c =
    let old = c.args.self.now in
    let i = c.args.i in
    let words = c.self.inside.words.items in
    let known : i / 64 < length words = (let a = ap length c.self.view_is in let b = c.requires in omega (arith, a, b)) in
    let is : c.index.result.now ≡ slice_index old (i / 64) = get_or_read words (i / 64) _ known c.index.ensures 0 ∙ ap (λ (l : List ℕ). slice_index l (i / 64)) c.self.view_is in
    subst (λ (l : List ℕ). HasMark old l i) (sym c.put.ensures)
    (subst (λ y. HasMark old (set old (i / 64) (bit_or y (1 * 2 ^ (i % 64) % 2 ^ 64))) i) (sym is) (mark_has old i c.requires))
