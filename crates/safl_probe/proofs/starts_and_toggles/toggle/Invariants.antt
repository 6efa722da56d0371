use Rattle.safl_probe.proofs.Common.{Word, nameless, numbers, seen, toggled}
use Rattle.std.proofs.Common.{◌≡◌, ◌+◌, ◌*◌, ◌≤◌, drop, map}
use Rattle.safl_probe.proofs.Spots.{looked_first}
use Rattle.safl_probe.proofs.starts_and_toggles.toggle.Given as goal

abbrev pub invariant-spots : goal.invariant-spots
invariant-spots l =
    let frame = map (λ (w : Word). w.bits) l.frame in
    let rest = drop l.i l.initial.spots in record {
      counted : l.count + toggled (numbers rest) (seen (nameless rest) frame) ≡ toggled (numbers l.initial.spots) (seen (nameless l.initial.spots) frame);
      most : l.count ≤ 128 * l.i;
      now : l.spots ≡ looked_first frame l.initial.spots l.i;
    }
