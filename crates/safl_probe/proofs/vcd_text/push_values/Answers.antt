use Rattle.safl_probe.proofs.Common.{List, Spot, drop-cons, get_or, nameless, numbers, refl, ℕ, ◌++◌}
use Rattle.safl_probe.specs.Texts.{value_texts, value_text}
use Rattle.safl_probe.proofs.Rest.{rest_more, rest_none}
use Rattle.safl_probe.proofs.Spots.{no_spot}
use Rattle.safl_probe.proofs.vcd_text.push_values.Goals as goal

pub spots-preserved : goal.spots-preserved
spots-preserved c =
    rest_more (λ (i : ℕ) (ss : List Spot). value_texts i (nameless ss) (numbers ss)) (λ (i : ℕ) (s : Spot). value_text i s.width s.number) (λ i. refl) (λ i s ss. refl)
    c.args.spots.now c.spots.i (get_or c.args.spots.now c.spots.i no_spot) c.spots.out.items c.push_number.new.out.items
    (c.args.out.now.items ++ value_texts 0 (nameless c.args.spots.now) (numbers c.args.spots.now))
    (drop-cons c.args.spots.now c.spots.i no_spot c.spots-test.true) c.spots.invariant c.in_ok-push_number.ensures

pub returns : goal.returns
returns c =
    rest_none (λ (i : ℕ) (ss : List Spot). value_texts i (nameless ss) (numbers ss)) (λ (i : ℕ) (s : Spot). value_text i s.width s.number) (λ i. refl) (λ i s ss. refl)
    c.args.spots.now c.spots.i c.spots.out.items (c.args.out.now.items ++ value_texts 0 (nameless c.args.spots.now) (numbers c.args.spots.now)) c.spots-test.false c.spots.invariant
