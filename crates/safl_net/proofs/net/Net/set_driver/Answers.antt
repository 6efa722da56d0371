use Rattle.safl_net.proofs.Common.{KindFits, Netlist, Row, Signal, one_wire, width_in, width_of}
use Rattle.std.proofs.Common.{◌≡◌, ℕ, List, Some, slice_get, sym, ap, subst, ◌∙◌}
use Rattle.std.specs.Option.{option_copied_mut}
use Rattle.std.specs.Map.{values_of}
use Rattle.safl_net.specs.Making.{kind_in, kind_at, with_kind}
use Rattle.safl_net.specs.Stored.{kind_of, outputs_of, net_of, ResetFits}
use Rattle.safl_net.proofs.Tables.{row_at, rows_set, signals_set}
use Rattle.safl_net.proofs.net.Net.set_driver.Goals as goal

pub invariant_of-self : goal.invariant_of-self
invariant_of-self c =
    let es = c.self.inside.signals.entries in
    let os = c.self.inside.outputs.entries in
    let r : Row = c.in-Some.row.now in
    let here : slice_get (values_of es) c.args.s.0 ≡ Some r = sym (sym (ap option_copied_mut c.in-Some.is) ∙ c.get_index_mut.ensures.value) in
    let a = row_at es c.args.s.0 r here in
    let wide : width_of c.args.self.now c.args.s.0 ≡ r.width = ap (λ (n : Netlist). width_of n c.args.s.0) (sym c.self.view_is) ∙ ap width_in a.1 in
    let kind : kind_at c.args.self.now c.args.s.0 ≡ kind_of r.driver = ap (λ (n : Netlist). kind_at n c.args.s.0) (sym c.self.view_is) ∙ ap kind_in a.1 in
    let fits : KindFits (net_of es os) r.width (kind_of c.args.driver) = subst (λ (w : ℕ). KindFits (net_of es os) w (kind_of c.args.driver)) wide
    (subst (λ (n : Netlist). KindFits n (width_of c.args.self.now c.args.s.0) (kind_of c.args.driver)) (sym c.self.view_is) c.requires.kind) in
    rows_set es os c.self.inside.wires c.args.s.0 r c.args.driver c.self.invariant here
    (c.requires.alike ∙ ap one_wire kind)
    fits
    (subst (λ (w : ℕ). ResetFits w c.args.driver) wide c.requires.reset)

pub returns : goal.returns
returns c =
    let es = c.self.inside.signals.entries in
    let os = c.self.inside.outputs.entries in
    let r : Row = c.in-Some.row.now in
    let here : slice_get (values_of es) c.args.s.0 ≡ Some r = sym (sym (ap option_copied_mut c.in-Some.is) ∙ c.get_index_mut.ensures.value) in
    ap (λ (gs : List Signal). record { signals = gs; outputs = outputs_of os }) (signals_set es c.args.s.0 r c.args.driver here)
    ∙ ap (λ (n : Netlist). with_kind n c.args.s.0 (kind_of c.args.driver)) c.self.view_is
