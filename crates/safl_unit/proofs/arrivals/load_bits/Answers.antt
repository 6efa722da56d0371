use Rattle.safl_unit.proofs.Common.{Load, Sig, bit_of, slice_get_read, take_all}
use Rattle.std.proofs.Common.{ℕ, ◌<◌, List, [], ◌∷◌, ◌++◌, length, map, take, Option, refl, sym, ap, ◌∙◌, add-one, arith}
use Rattle.safl_unit.proofs.equations.Chains.{bits_next}
use Rattle.safl_unit.proofs.arrivals.load_bits.Goals as goal

pub loop-i-preserved : goal.loop-i-preserved
loop-i-preserved c =
    let xs = c.args.loads.now in
    let i = c.loop-i.i in
    let l = c.loop-i-test.true in
    let n = c.requires in
    let k : i < length xs = omega (arith, l, n) in
    let e = slice_get_read xs (length xs) i c.index-loads-i.result refl k c.index-loads-i.is in
    record {
      same = c.in_ok-push.ensures.items ∙ ap (λ (t : List (Option Sig)). t ++ c.load_bit-bit.result ∷ []) c.loop-i.invariant.same
          ∙ ap (λ (t : Option Sig). map bit_of (take i xs) ++ t ∷ []) c.load_bit-bit.ensures ∙ sym (bits_next xs i c.index-loads-i.result e) ∙ ap (λ (m : ℕ). map bit_of (take m xs)) (sym (add-one i));
    }

pub returns : goal.returns
returns c =
    let l = c.loop-i-test.false in
    let n = c.requires in
    record { bits = c.loop-i.invariant.same ∙ ap (λ (t : List (Option Load)). map bit_of t) (take_all c.loop-i.i c.args.loads.now (omega (arith, l, n))) }
