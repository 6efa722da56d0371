use Rattle.safl_net.proofs.Growth.{sized_known, sized_fits}
use Rattle.safl_lower.proofs.Cells.{cell_made, cell_builds, cell_source}
use Rattle.safl_lower.proofs.Heights.{gate_made}
use Rattle.safl_lower.proofs.gates.cell.Goals as goal

pub temp-requires-clause-known : goal.temp-requires-clause-known
temp-requires-clause-known c = let b = c.requires.operands in sized_known c.args.net.now c.args.operands.now b.0 b.2.widths

pub temp-requires-clause-fits : goal.temp-requires-clause-fits
temp-requires-clause-fits c = let b = c.requires.operands in sized_fits c.args.net.now c.args.op c.args.operands.now b.0 b.1 b.2.widths b.3

pub returns : goal.returns
returns c =
    let e = c.temp.ensures in
    let b = c.requires.operands in
    record {
      built = cell_builds c.args.net.now c.temp.new.self c.temp.result c.args.op c.args.operands.now e.added e.numbered e.refused b.0 b.1 b.2 b.3 e.tidy;
      word = record {
        fits = cell_source c.args.net.now c.temp.new.self c.temp.result c.args.op c.args.operands.now e.added e.numbered e.refused;
        value = (cell_made c.args.net.now c.temp.new.self c.temp.result c.args.op c.args.operands.now e.added e.numbered e.refused b.0 b.1 b.2 b.3).word;
      };
      gate = gate_made c.args.net.now c.temp.new.self c.temp.result c.args.op c.args.operands.now e.added e.numbered;
    }
