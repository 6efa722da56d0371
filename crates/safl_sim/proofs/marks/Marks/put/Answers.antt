use Rattle.std.proofs.Common.{◌<◌, ◌*◌, ◌/◌, ◌%◌, ◌^◌, length, set, slice_index, sym, ap, subst, arith}
use Rattle.std.specs.Int.{w64, bit_not}
use Rattle.std.specs.Int.RustNames.{bit_or}
use lib.Bits.{bit_and}
use Rattle.std.proofs.lemmas.List.{get_or_read}
use Rattle.safl_sim.specs.Marks.{Covers}
use Rattle.safl_sim.proofs.Covering.{covers_taken, covers_new}
use Rattle.safl_sim.proofs.marks.Marks.put.Goals as goal

pub invariant_of-self : goal.invariant_of-self
invariant_of-self c =
    let filled = c.self.inside.filled.items in
    let words = c.self.inside.words.items in
    let w = c.args.word in
    let known : w < length words = (let a = ap length c.self.view_is in let b = c.requires in omega (arith, a, b)) in
    let is = get_or_read filled (w / 64) _ (let a = c.self.invariant.0 in omega (arith, a, known)) c.index_mut-then-marks-eq0.ensures.value 0 in
    subst (λ y. Covers (set filled (w / 64) (bit_and y (bit_not w64 (1 * 2 ^ (w % 64) % 2 ^ 64)))) (set words w c.args.marks)) (sym is)
    (subst (λ y. Covers (set filled (w / 64) (bit_and (slice_index filled (w / 64)) (bit_not w64 (1 * 2 ^ (w % 64) % 2 ^ 64)))) (set words w y))
    (sym c.if-marks-eq0.true) (covers_taken filled words w c.self.invariant known))

pub invariant_of-self-else-marks-eq0 : goal.invariant_of-self-else-marks-eq0
invariant_of-self-else-marks-eq0 c =
    let filled = c.self.inside.filled.items in
    let words = c.self.inside.words.items in
    let w = c.args.word in
    let known : w < length words = (let a = ap length c.self.view_is in let b = c.requires in omega (arith, a, b)) in
    let is = get_or_read filled (w / 64) _ (let a = c.self.invariant.0 in omega (arith, a, known)) c.index_mut-else-marks-eq0.ensures.value 0 in
    subst (λ y. Covers (set filled (w / 64) (bit_or y (1 * 2 ^ (w % 64) % 2 ^ 64))) (set words w c.args.marks)) (sym is) (covers_new filled words w c.args.marks c.self.invariant known)
