use Rattle.safl_probe.proofs.Common.{Spot, Valuation, Word, nameless, numbers, seen, toggled}
use Rattle.std.proofs.Common.{◌≡◌, ℕ, ◌+◌, List, ◌∷◌, drop, suc, map, get_or, slice_index, sym, ap, ◌∙◌, add-one, arith}
use Rattle.std.specs.Prelude.{bit_xor, count_ones}
use Rattle.std.proofs.lemmas.List.{drop_all}
use Rattle.safl_probe.proofs.Spots.{no_spot, spots_from, look_more, first_all}
use Rattle.safl_probe.proofs.starts_and_toggles.toggle.Goals as goal

abbrev count_in : Valuation → List Spot → ℕ
count_in frame ss = toggled (numbers ss) (seen (nameless ss) frame)

count_more : (frame : Valuation) (ss : List Spot) (i : ℕ) (s : Spot) → drop i ss ≡ s ∷ drop (suc i) ss
    → count_in frame (drop i ss) ≡ count_ones (bit_xor s.number (slice_index frame s.signal)) + count_in frame (drop (i + 1) ss)
count_more frame ss i s at =
    ap (count_in frame) at ∙ ap (λ (k : ℕ). count_ones (bit_xor s.number (slice_index frame s.signal)) + count_in frame (drop k ss)) (sym (add-one i))

pub spots-preserved : goal.spots-preserved
spots-preserved c =
    let frame : Valuation = map (λ (w : Word). w.bits) c.args.frame.now in
    let ss : List Spot = c.args.spots.now in
    let more = count_more frame ss c.spots.i (get_or c.spots.spots c.spots.i no_spot) (spots_from frame ss c.spots.spots c.spots.i c.spots.invariant.now c.spots-test.true) in
    let before = c.spots.invariant.counted in
    let most = c.spots.invariant.most in
    let number = c.toggle_one.ensures.count in
    let small = c.toggle_one.ensures.most in
    record {
      counted = omega (arith, more, before, number);
      most = omega (arith, most, small);
      now = look_more frame ss c.spots.spots c.spots.i c.toggle_one.new.spot c.spots.invariant.now c.spots-test.true c.toggle_one.ensures.now;
    }

pub returns-clause-count : goal.returns-clause-count
returns-clause-count c =
    let frame : Valuation = map (λ (w : Word). w.bits) c.args.frame.now in
    let none = ap (count_in frame) (drop_all c.spots.i c.args.spots.now c.spots-test.false) in
    let before = c.spots.invariant.counted in
    omega (arith, none, before)

pub returns-clause-now : goal.returns-clause-now
returns-clause-now c = c.spots.invariant.now ∙ first_all (map (λ (w : Word). w.bits) c.args.frame.now) c.args.spots.now c.spots.i c.spots-test.false
