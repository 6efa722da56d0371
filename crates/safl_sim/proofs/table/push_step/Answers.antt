use Rattle.std.proofs.Common.{◌≡◌, List, Some, slice_get, option_copied, sym, ap, ◌∙◌, arith}
use Rattle.std.proofs.lemmas.Option.{slice_get_within}
use Rattle.safl_word.proofs.Lists.{get_map, index_get}
use Rattle.safl_net.specs.declared.cell.Sig.{Sig}
use Rattle.safl_net.specs.Stored.{cell_of, maybe_cell}
use Rattle.safl_net.specs.Making.{numbers}
use Rattle.safl_order.specs.Order.{operands_in}
use Rattle.safl_sim.proofs.Builds.{cell_found}
use Rattle.safl_sim.proofs.table.push_step.Goals as goal

pub push_operands-requires : goal.push_operands-requires
push_operands-requires c = record {
  within = λ i t e.
      let is = sym c.cell.ensures ∙ ap (λ x. maybe_cell (option_copied x)) c.in-Some.is in
      let f = cell_found c.args.net.now c.args.wire.0 (cell_of c.in-Some.cell.now) c.requires.netlist is in
      let e' : slice_get (cell_of c.in-Some.cell.now).operands i ≡ Some t.0 = get_map (λ (x : Sig). x.0) c.in-Some.cell.now.operands.items i t
      (ap (λ (l : List Sig). slice_get l i) (sym c.as_slice.ensures.value) ∙ e) in
      let a = f.1.known i 0 (slice_get_within (cell_of c.in-Some.cell.now).operands i t.0 e') in
      let b = index_get (cell_of c.in-Some.cell.now).operands i t.0 e' in
      let d = c.requires.long in
      omega (arith, a, b, d);
}

pub returns-clause-more : goal.returns-clause-more
returns-clause-more c = λ ws regs at w.
    let is = sym c.cell.ensures ∙ ap (λ x. maybe_cell (option_copied x)) c.in-Some.is in
    c.push_operands.ensures.more c.args.net.now ws regs c.args.wire.0 at (ap operands_in is ∙ ap (λ (l : List Sig). numbers l) (sym c.as_slice.ensures.value)) w
