use Rattle.safl_probe.proofs.Common.{Entry, Spot, drop-cons}
use Rattle.std.proofs.Common.{ℕ, List, ◌++◌, get_or, slice_get, refl}
use Rattle.safl_probe.specs.Texts.{Text, start_lines, start}
use Rattle.safl_probe.specs.Entries.{name_of, watched_from, numbers}
use Rattle.safl_probe.proofs.Rest.{rest_more, rest_none}
use Rattle.safl_probe.proofs.Spots.{no_spot}
use Rattle.safl_probe.proofs.starts_and_toggles.push_starts.Goals as goal

abbrev rest_of : ℕ → List Entry → ℕ → List Spot → Text
rest_of t es i ss = start_lines t (watched_from i es ss) (numbers ss)

abbrev piece_of : ℕ → List Entry → ℕ → Spot → Text
piece_of t es i s = start t (name_of (slice_get es i)) s.number

pub spots-preserved : goal.spots-preserved
spots-preserved c =
    rest_more (rest_of c.args.t c.args.entries.now) (piece_of c.args.t c.args.entries.now) (λ i. refl) (λ i s ss. refl)
    c.args.spots.now c.spots.i (get_or c.args.spots.now c.spots.i no_spot) c.spots.out.items c.push_start.new.out.items
    (c.args.out.now.items ++ rest_of c.args.t c.args.entries.now 0 c.args.spots.now)
    (drop-cons c.args.spots.now c.spots.i no_spot c.spots-test.true) c.spots.invariant c.in_ok-push_start.ensures

pub returns : goal.returns
returns c =
    rest_none (rest_of c.args.t c.args.entries.now) (piece_of c.args.t c.args.entries.now) (λ i. refl) (λ i s ss. refl)
    c.args.spots.now c.spots.i c.spots.out.items (c.args.out.now.items ++ rest_of c.args.t c.args.entries.now 0 c.args.spots.now) c.spots-test.false c.spots.invariant
