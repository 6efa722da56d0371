use Rattle.safl_probe.proofs.Common.{Entry, Spot, spot_of}
use Rattle.std.proofs.Common.{ℕ, List, [], ◌∷◌, ◌++◌, map, refl, ap, ◌∙◌}
use Rattle.safl_probe.proofs.Rest.{rest_more, rest_none, drop_or}
use Rattle.safl_probe.proofs.look.spots_of.Goals as goal

pub entries-preserved : goal.entries-preserved
entries-preserved c =
    rest_more (λ (i : ℕ) (es : List Entry). map spot_of es) (λ (i : ℕ) (e : Entry). spot_of e ∷ []) (λ i. refl) (λ i e es. refl)
    c.args.entries.now c.entries.i c.index-entries-i.result c.entries.spots.items c.push.new.self.items (map spot_of c.args.entries.now)
    (drop_or c.args.entries.now c.entries.i c.index-entries-i.result c.entries-test.true c.index-entries-i.is) c.entries.invariant
    (c.in_ok-push.ensures.items ∙ ap (λ (s : Spot). c.entries.spots.items ++ s ∷ []) c.make_spot.ensures)

pub returns : goal.returns
returns c =
    rest_none (λ (i : ℕ) (es : List Entry). map spot_of es) (λ (i : ℕ) (e : Entry). spot_of e ∷ []) (λ i. refl) (λ i e es. refl)
    c.args.entries.now c.entries.i c.entries.spots.items (map spot_of c.args.entries.now) c.entries-test.false c.entries.invariant
