use Rattle.safl_net.proofs.Common.{Global, Netlist, Sig, insert_entry-new, with_output}
use Rattle.std.proofs.Common.{◌≡◌, ℕ, ◌<◌, List, [], ◌∷◌, ◌++◌, length, true, false, string_bytes, String, sym, ap, subst, ◌∙◌, arith}
use Rattle.safl_net.specs.Names.{is_good, has_name}
use Rattle.safl_net.specs.Stored.{signals_of, outputs_of, net_of, KeepsNetlist}
use Rattle.safl_net.proofs.Tables.{no_output, outputs_push, outputs_kept}
use Rattle.safl_net.proofs.net.Net.output.Goals as goal

pub invariant_of-self-2 : goal.invariant_of-self-2
invariant_of-self-2 c =
    let es = c.self.inside.signals.entries in
    let os = c.self.inside.outputs.entries in
    let text = c.in-Ok.text in
    let named : string_bytes text ≡ c.args.name.now = c.in-Ok.ensures.ok in
    let good : is_good (string_bytes text) ≡ true = ap is_good named ∙ sym c.is_good_name.ensures ∙ c.if-not-is_good_name.false in
    let new : has_name (net_of es os) (string_bytes text) ≡ false = ap (λ x. has_name (net_of es os) x) named ∙ ap
    (λ (n : Netlist). has_name n c.args.name.now) c.self.view_is ∙ sym c.has_name.ensures ∙ c.if-has_name.false in
    let after : c.insert.new.self.entries ≡ os ++ (text, c.args.s) ∷ [] = c.in-Ok-insert.ensures.entries ∙ insert_entry-new _ c.self.inside.outputs
    text c.args.s (no_output es os (string_bytes text) new) in
    let room : length (outputs_of os) < 4294967295 = (let f = c.requires.room in let g = ap (λ (n : Netlist). length n.outputs) c.self.view_is in omega (arith, f, g)) in
    let here : c.args.s.0 < length (signals_of es) = (let f = c.requires.known in let g = ap (λ (n : Netlist). length n.signals) c.self.view_is in omega (arith, f, g)) in
    subst (λ (l : List (String Global × Sig)). KeepsNetlist es l c.self.inside.wires) (sym after) (outputs_kept es os c.self.inside.wires text c.args.s c.self.invariant room good new here)

pub returns-clause-added : goal.returns-clause-added
returns-clause-added c =
    let es = c.self.inside.signals.entries in
    let os = c.self.inside.outputs.entries in
    let text = c.in-Ok.text in
    let named : string_bytes text ≡ c.args.name.now = c.in-Ok.ensures.ok in
    let new : has_name (net_of es os) (string_bytes text) ≡ false = ap (λ x. has_name (net_of es os) x) named ∙ ap
    (λ (n : Netlist). has_name n c.args.name.now) c.self.view_is ∙ sym c.has_name.ensures ∙ c.if-has_name.false in
    let after : c.insert.new.self.entries ≡ os ++ (text, c.args.s) ∷ [] = c.in-Ok-insert.ensures.entries ∙ insert_entry-new _ c.self.inside.outputs
    text c.args.s (no_output es os (string_bytes text) new) in
    ap (λ (l : List (String Global × Sig)). net_of es l) after
    ∙ ap (λ (l : List (List ℕ × ℕ)). record { signals = signals_of es; outputs = l }) (outputs_push os text c.args.s)
    ∙ ap (λ (x : List ℕ). with_output (net_of es os) x c.args.s.0) named
    ∙ ap (λ (n : Netlist). with_output n c.args.name.now c.args.s.0) c.self.view_is
