use Rattle.std.proofs.Common.{[], ◌∷◌}
use Rattle.safl_net.proofs.SignalKinds.{mux_width}
use Rattle.safl_lower.proofs.BitWords.{mux_value}
use Rattle.safl_lower.proofs.Cells.{three_sources}
use Rattle.safl_lower.proofs.gates.mux.Goals as goal

pub cell-requires-clause-operands : goal.cell-requires-clause-operands
cell-requires-clause-operands c = let b = c.requires.branches in (1 ∷ b.0 ∷ b.0 ∷ [], b.0, three_sources c.requires.test b.1 b.2, mux_width b.0)

pub returns : goal.returns
returns c =
    let e = c.cell.ensures in
    record {
      built = e.built;
      fits = λ w p q. e.word.fits (1 ∷ w ∷ w ∷ []) w (three_sources c.requires.test p q) (mux_width w);
      value = mux_value c.cell.new.net c.cell.result c.args.c c.args.a c.args.b e.word.value;
      gate = e.gate;
    }
