use Rattle.std.proofs.Common.{◌<◌, ◌*◌, ◌/◌, ◌%◌, ◌^◌, length, set, sym, subst, arith}
use Rattle.std.specs.Int.RustNames.{bit_or}
use Rattle.std.proofs.lemmas.List.{get_or_read}
use Rattle.safl_sim.specs.Marks.{Covers}
use Rattle.safl_sim.proofs.Covering.{covers_new}
use Rattle.safl_sim.proofs.marks.Marks.join.Goals as goal

pub invariant_of-self : goal.invariant_of-self
invariant_of-self c =
    let filled = c.self.inside.filled.items in
    let words = c.self.inside.words.items in
    let w = c.args.word in
    let all = bit_or c.index_mut.result.now c.args.marks in
    let known : w < length words = (let a = c.if-word-len.true in let b = c.len.ensures in omega (arith, a, b)) in
    let is = get_or_read filled (w / 64) _ (let a = c.self.invariant.0 in omega (arith, a, known)) c.index_mut-then-word-len.ensures.value 0 in
    subst (λ y. Covers (set filled (w / 64) (bit_or y (1 * 2 ^ (w % 64) % 2 ^ 64))) (set words w all)) (sym is) (covers_new filled words w all c.self.invariant known)
