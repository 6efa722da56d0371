use Rattle.std.proofs.Common.{[], ◌∷◌, refl}
use Rattle.safl_lower.proofs.BitWords.{not_on}
use Rattle.safl_lower.proofs.Cells.{one_source}
use Rattle.safl_lower.proofs.gates.inverse.Goals as goal

pub operate-requires-clause-operands : goal.operate-requires-clause-operands
operate-requires-clause-operands c = (1 ∷ [], 1, one_source c.requires.bit, refl)

pub returns : goal.returns
returns c =
    let e = c.operate.ensures in
    record {
      built = e.built;
      fits = e.word.fits (1 ∷ []) 1 (one_source c.requires.bit) refl;
      value = not_on c.args.net.now
          c.operate.new.net c.operate.result c.args.a c.requires.bit.width e.built.grows e.word.value;
      gate = e.gate;
    }
