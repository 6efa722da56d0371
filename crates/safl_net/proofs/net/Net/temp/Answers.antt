use Rattle.safl_net.proofs.Common.{Cell, CellFits, IsNetlist, Netlist}
use Rattle.std.proofs.Common.{length, is_some, refl, sym, ap, subst, ◌∙◌, arith}
use Rattle.safl_net.specs.Names.{is_good, has_name, temp_name, wires}
use Rattle.safl_net.specs.Making.{numbers, signal_widths}
use Rattle.safl_net.specs.Stored.{signals_of}
use Rattle.safl_net.proofs.Keeping.{cell_fits, numbers_known}
use Rattle.safl_net.proofs.Tables.{wires_few}
use Rattle.safl_net.proofs.Tidy.{temp_free, temp_good, tidy_made}
use Rattle.safl_net.proofs.Bounds.{op_bounds, widths_are}
use Rattle.safl_net.proofs.net.Net.temp.Goals as goal

pub push-requires-clause-new : goal.push-requires-clause-new
push-requires-clause-new c =
    let few = wires_few c.args.self.now.signals in
    let room = c.requires.room in
    ap (λ x. has_name c.args.self.now x) (c.in_ok-name-in-Some.ensures ∙ ap temp_name (c.self.invariant.counted ∙ ap (λ (n : Netlist). wires n.signals) c.self.view_is))
    ∙ temp_free c.args.self.now c.requires.tidy (omega (arith, few, room))

pub push-requires-clause-fits : goal.push-requires-clause-fits
push-requires-clause-fits c =
    let n = c.args.self.now in
    let k : IsNetlist n = subst IsNetlist c.self.view_is c.self.invariant.netlist in
    let e = ap is_some c.in-Some.is in
    let gives = sym c.width_on.ensures.width ∙ c.in-Some.is in
    let word = c.width_on.ensures.word e in
    let bounds = op_bounds c.args.op (signal_widths n (numbers c.args.operands.now)) c.in-Some.width
    (widths_are n (numbers c.args.operands.now) k (numbers_known n c.args.operands.now c.requires.known)) word gives in
    let few = wires_few (signals_of c.self.inside.signals.entries) in
    let count = c.self.invariant.counted in
    let room = c.requires.room in
    let same = ap (λ (n : Netlist). length n.signals) c.self.view_is in
    record {
      good = ap is_good c.in_ok-name-in-Some.ensures ∙ temp_good c.self.inside.wires (omega (arith, few, count, room, same));
      some = bounds.some;
      most = bounds.most;
      kind = subst (λ (x : Cell). CellFits n c.in-Some.width x) (sym c.make_cell-cell.ensures)
          (cell_fits n c.args.op c.args.operands.now c.in-Some.width c.requires.known gives word);
    }

pub returns-clause-tidy : goal.returns-clause-tidy
returns-clause-tidy c =
    let name = c.in_ok-name-in-Some.ensures ∙ ap temp_name (c.self.invariant.counted ∙ ap (λ (n : Netlist). wires n.signals) c.self.view_is) in
    tidy_made c.push.result c.args.self.now c.push.new.self _ c.push.ensures.added c.push.ensures.refused c.requires.tidy refl name
