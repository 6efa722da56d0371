use Rattle.safl_probe.proofs.Common.{Word, drop, map, nameless, numbers, seen, ◌++◌, ◌≡◌}
use Rattle.safl_probe.specs.Texts.{changes}
use Rattle.safl_probe.proofs.Spots.{looked_first}
use Rattle.safl_probe.proofs.vcd_text.push_changes.Given as goal

abbrev pub invariant-spots : goal.invariant-spots
invariant-spots l =
    let frame = map (λ (w : Word). w.bits) l.frame in
    let rest = drop l.i l.initial.spots in record {
      added : l.out.items ++ changes l.i (nameless rest) (numbers rest) (seen (nameless rest) frame)
          ≡ l.fn.out.items ++ changes 0 (nameless l.initial.spots) (numbers l.initial.spots) (seen (nameless l.initial.spots) frame);
      now : l.spots ≡ looked_first frame l.initial.spots l.i;
    }
