use Rattle.std.proofs.Common.{[], ◌∷◌, refl}
use Rattle.safl_lower.proofs.BitWords.{and_on}
use Rattle.safl_lower.proofs.Cells.{two_sources}
use Rattle.safl_lower.proofs.gates.both.Goals as goal

pub operate-requires-clause-operands : goal.operate-requires-clause-operands
operate-requires-clause-operands c = (1 ∷ 1 ∷ [], 1, two_sources c.requires.first c.requires.second, refl)

pub returns : goal.returns
returns c =
    let e = c.operate.ensures in
    record {
      built = e.built;
      fits = e.word.fits (1 ∷ 1 ∷ []) 1 (two_sources c.requires.first c.requires.second) refl;
      value = and_on c.args.net.now c.operate.new.net c.operate.result c.args.a c.args.b c.requires.first.width c.requires.second.width e.built.grows e.word.value;
      gate = e.gate;
    }
