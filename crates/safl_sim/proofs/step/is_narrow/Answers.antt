use Rattle.std.proofs.Common.{◌≡◌, ◌≤◌, ◌<◌, inl, inr, List, Some, get_or, slice_get, sym, ap, subst, ◌∙◌, arith}
use Rattle.std.proofs.lemmas.Bool.{leb-true}
use Rattle.std.proofs.lemmas.Option.{slice_get-get_or, slice_get_within}
use Rattle.safl_word.proofs.Lists.{get_map, get_mapped, index_get}
use Rattle.safl_word.proofs.Naturals.{lower_or_last}
use Rattle.safl_net.specs.declared.cell.Sig.{Sig}
use Rattle.safl_net.specs.Netlist.{width_of}
use Rattle.safl_net.specs.Stored.{cell_of}
use Rattle.safl_sim.proofs.step.is_narrow.Goals as goal

abbrev none : Sig
none = record { 0 = 0 }

pub width-requires : goal.width-requires
width-requires c =
    let f = c.requires.fits.1 in
    let us = (cell_of c.args.cell.now).operands in
    let i = c.signals.i in
    let t = get_or c.as_slice-operands.result.now i none in
    let e = slice_get-get_or c.as_slice-operands.result.now i none c.signals-test.true in
    let e' : slice_get us i ≡ Some t.0 = get_map (λ (x : Sig). x.0) c.args.cell.now.operands.items i t (ap (λ (l : List Sig). slice_get l i) (sym c.as_slice-operands.ensures.value) ∙ e) in
    let a = f.known i 0 (slice_get_within us i t.0 e') in
    let b = index_get us i t.0 e' in
    omega (arith, a, b)

pub signals-preserved : goal.signals-preserved
signals-preserved c = λ j t h e. elim (lower_or_last j c.signals.i h) [
  | inl l ↦ c.signals.invariant j t l e
  | inr q ↦
      let here = slice_get-get_or c.as_slice-operands.result.now c.signals.i none c.signals-test.true in
      let same : Some (get_or c.as_slice-operands.result.now c.signals.i none) ≡ Some t = sym here ∙ ap (slice_get c.as_slice-operands.result.now) (sym q) ∙ e in
      let one : get_or c.as_slice-operands.result.now c.signals.i none ≡ t = cc in
      subst (λ (s : Sig). width_of c.args.net.now s.0 ≤ 64) one (let a = c.if-width-gt-LOW_MAX.false in let b = c.width.ensures in omega (arith, a, b))
]

pub returns : goal.returns
returns c = λ e. record {
  wire = (let a = leb-true c.width-2.result 64 e in let b = c.width-2.ensures in omega (arith, a, b));
  operands = λ i t f.
      let g = get_mapped (λ (x : Sig). x.0) c.args.cell.now.operands.items i t f in
      let at : slice_get c.as_slice-operands.result.now i ≡ Some g.0 = ap (λ (l : List Sig). slice_get l i) c.as_slice-operands.ensures.value ∙ g.1 in
      let early : i < c.signals.i = (let a = slice_get_within c.as_slice-operands.result.now i g.0 at in let b = c.signals-test.false in omega (arith, a, b)) in
      subst (λ x. width_of c.args.net.now x ≤ 64) g.2 (c.signals.invariant i g.0 early at);
}
