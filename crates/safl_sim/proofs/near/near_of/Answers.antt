use Rattle.std.proofs.Common.{◌≡◌, ◌+◌, ◌*◌, ◌%◌, ◌^◌, ◌≤◌, Some, slice_get, slice_index, sym, subst, arith}
use Rattle.std.specs.Int.RustNames.{bit_or}
use Rattle.std.proofs.lemmas.Option.{slice_get-get_or}
use Rattle.safl_sim.proofs.Nearing.{NearTo, near_none, near_more, near_other, near_is}
use Rattle.safl_sim.proofs.near.near_of.Goals.{then-reader-word, else-reader-word+then-j-first, else-reader-word+else-j-first}
use Rattle.safl_sim.proofs.near.near_of.Goals as goal

pub readers-init : goal.readers-init
readers-init c = near_none c.args.readers.now c.args.from c.args.to c.args.word c.requires.ordered

pub returns : goal.returns
returns c = near_is c.args.readers.now c.args.from c.readers.j c.args.to c.args.word c.readers.mask c.readers.first
    (let a = c.readers-test.false in let b = c.readers.auto.j-end in let d = c.requires.ordered in omega (arith, a, b, d)) c.readers.invariant

pub readers-preserved : goal.readers-preserved
readers-preserved c =
    let readers = c.args.readers.now in
    let j = c.readers.j in
    let from = c.args.from in
    let to = c.args.to in
    let word = c.args.word in
    let k = slice_index readers j in
    let late : from ≤ j = (let a = c.readers.auto.j in omega (arith, a)) in
    let here : slice_get readers j ≡ Some k = slice_get-get_or readers j 0 (let a = c.readers-test.true in let b = c.requires.within in omega (arith, a, b)) in
    elim c.if-reader-word.branch [
      | then-reader-word w ↦
          subst (λ m. NearTo readers from (j + 1) to word m c.if-reader-word.first) (sym w.mask-is)
          (subst (λ f. NearTo readers from (j + 1) to word (bit_or c.readers.mask (1 * 2 ^ (k % 64) % 2 ^ 64)) f) (sym w.first-is)
          (near_more readers from j to k word c.readers.mask c.readers.first c.readers.invariant late here w.if-reader-word.true))
      | else-reader-word+then-j-first w ↦
          subst (λ m. NearTo readers from (j + 1) to word m c.if-reader-word.first) (sym w.mask-is)
          (subst (λ f. NearTo readers from (j + 1) to word c.readers.mask f) (sym w.first-is)
          (near_other readers from j to k word c.readers.mask c.readers.first j c.readers.invariant late (let a = w.if-j-first.true in omega (arith, a)) (omega arith) here w.if-reader-word.false))
      | else-reader-word+else-j-first w ↦
          subst (λ m. NearTo readers from (j + 1) to word m c.if-reader-word.first) (sym w.mask-is)
          (subst (λ f. NearTo readers from (j + 1) to word c.readers.mask f) (sym w.first-is)
          (near_other readers from j to k word c.readers.mask c.readers.first c.readers.first c.readers.invariant c.readers.invariant.least
          (omega arith) (let a = w.if-j-first.false in omega (arith, a)) here w.if-reader-word.false))
    ]
