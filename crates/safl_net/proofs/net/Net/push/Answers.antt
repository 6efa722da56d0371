use Rattle.safl_net.proofs.Common.{Global, Netlist, Row, Signal, SignalFits, has_name, insert_entry-new, one_wire, with_signal}
use Rattle.std.proofs.Common.{◌≡◌, ℕ, ◌+◌, ◌<◌, List, [], ◌∷◌, ◌++◌, length, false, String, string_bytes, sym, ap, subst, ◌∙◌, arith}
use Rattle.safl_net.specs.Stored.{kind_of, signal_of, signals_of, outputs_of, net_of, KeepsNetlist}
use Rattle.safl_net.proofs.Tables.{no_signal, wire_or_not, wires_few, signals_push, rows_kept}
use Rattle.safl_net.proofs.net.Net.push.Goals as goal

pub overflow_add-wires : goal.overflow_add-wires
overflow_add-wires c =
    let a = c.self.invariant.counted in
    let b = wires_few (signals_of c.self.inside.signals.entries) in
    let d = wire_or_not (kind_of c.args.row.driver) in
    let e = c.wire_count.ensures in
    let f = c.requires.room in
    let g = ap (λ (n : Netlist). length n.signals) c.self.view_is in
    omega (arith, a, b, d, e, f, g)

pub invariant_of-self-2 : goal.invariant_of-self-2
invariant_of-self-2 c =
    let es = c.self.inside.signals.entries in
    let os = c.self.inside.outputs.entries in
    let new : has_name (net_of es os) (string_bytes c.args.name) ≡ false = ap (λ (n : Netlist). has_name n (string_bytes c.args.name)) c.self.view_is ∙ c.requires.new in
    let after : c.insert.new.self.entries ≡ es ++ (c.args.name, c.args.row) ∷ [] = c.in-Ok.ensures.entries ∙ insert_entry-new _ c.self.inside.signals
    c.args.name c.args.row (no_signal es os (string_bytes c.args.name) new) in
    let q = c.requires in
    let room : length (signals_of es) < 4294967295 = (let f = q.room in let g = ap (λ (n : Netlist). length n.signals) c.self.view_is in omega (arith, f, g)) in
    let fits : SignalFits (net_of es os) (signal_of (string_bytes c.args.name) c.args.row) =
    subst (λ (n : Netlist). SignalFits n (signal_of (string_bytes c.args.name) c.args.row)) (sym c.self.view_is) q.fits in
    let kept = rows_kept es os c.self.inside.wires c.args.name c.args.row c.self.invariant room new fits q.reset in
    subst (λ (k : ℕ). KeepsNetlist c.insert.new.self.entries os (c.self.inside.wires + k)) (sym c.wire_count.ensures)
    (subst (λ (l : List (String Global × Row)). KeepsNetlist l os (c.self.inside.wires + one_wire (kind_of c.args.row.driver))) (sym after) kept)

pub returns-clause-added : goal.returns-clause-added
returns-clause-added c =
    let es = c.self.inside.signals.entries in
    let os = c.self.inside.outputs.entries in
    let new : has_name (net_of es os) (string_bytes c.args.name) ≡ false = ap (λ (n : Netlist). has_name n (string_bytes c.args.name)) c.self.view_is ∙ c.requires.new in
    let after : c.insert.new.self.entries ≡ es ++ (c.args.name, c.args.row) ∷ [] = c.in-Ok.ensures.entries ∙ insert_entry-new _ c.self.inside.signals
    c.args.name c.args.row (no_signal es os (string_bytes c.args.name) new) in
    ap (λ (l : List (String Global × Row)). net_of l c.self.inside.outputs.entries) after
    ∙ ap (λ (gs : List Signal). record { signals = gs; outputs = outputs_of c.self.inside.outputs.entries }) (signals_push c.self.inside.signals.entries c.args.name c.args.row)
    ∙ ap (λ (n : Netlist). with_signal n (signal_of (string_bytes c.args.name) c.args.row)) c.self.view_is
