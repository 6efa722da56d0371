use Rattle.safl_probe.proofs.Common.{Spot, Valuation, Word, nameless, numbers, seen}
use Rattle.std.proofs.Common.{ℕ, List, ◌++◌, map, get_or, slice_index, refl, ◌∙◌}
use Rattle.safl_probe.specs.Texts.{Text, changes, changed}
use Rattle.safl_probe.proofs.Rest.{rest_more, rest_none}
use Rattle.safl_probe.proofs.Spots.{no_spot, spots_from, look_more, first_all}
use Rattle.safl_probe.proofs.vcd_text.push_changes.Goals as goal

abbrev rest_of : Valuation → ℕ → List Spot → Text
rest_of frame i ss = changes i (nameless ss) (numbers ss) (seen (nameless ss) frame)

abbrev piece_of : Valuation → ℕ → Spot → Text
piece_of frame i s = changed i s.width s.number (slice_index frame s.signal)

pub spots-preserved : goal.spots-preserved
spots-preserved c =
    let frame : Valuation = map (λ (w : Word). w.bits) c.args.frame.now in
    let ss : List Spot = c.args.spots.now in
    record {
      added =
          rest_more (rest_of frame) (piece_of frame) (λ i. refl) (λ i s ss. refl) ss c.spots.i (get_or c.spots.spots c.spots.i no_spot)
          c.spots.out.items c.push_changed.new.out.items (c.args.out.now.items ++ rest_of frame 0 ss)
          (spots_from frame ss c.spots.spots c.spots.i c.spots.invariant.now c.spots-test.true) c.spots.invariant.added c.in_ok-push_changed.ensures.added;
      now = look_more frame ss c.spots.spots c.spots.i c.push_changed.new.spot c.spots.invariant.now c.spots-test.true c.in_ok-push_changed.ensures.now;
    }

pub returns-clause-added : goal.returns-clause-added
returns-clause-added c =
    let frame : Valuation = map (λ (w : Word). w.bits) c.args.frame.now in
    let ss : List Spot = c.args.spots.now in
    rest_none (rest_of frame) (piece_of frame) (λ i. refl) (λ i s ss. refl) ss c.spots.i c.spots.out.items (c.args.out.now.items ++ rest_of frame 0 ss)
    c.spots-test.false c.spots.invariant.added

pub returns-clause-now : goal.returns-clause-now
returns-clause-now c = c.spots.invariant.now ∙ first_all (map (λ (w : Word). w.bits) c.args.frame.now) c.args.spots.now c.spots.i c.spots-test.false
