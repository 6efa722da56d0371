use Rattle.safl_net.proofs.Common.{Netlist, has_name, named_output, named_signal}
use Rattle.std.proofs.Common.{◌≡◌, Bool, true, false, ◌||◌, ap, ◌∙◌}
use Rattle.safl_net.specs.Stored.{signals_of, outputs_of}
use Rattle.safl_net.proofs.Tables.{signal_found, output_found}
use Rattle.safl_net.proofs.net.Net.has_name.Goals as goal

first : (r a b : Bool) → r ≡ a → r ≡ true → r ≡ (a || b)
first r true b e f = f
first r false b e f = absurd (cc)

second : (q r a b : Bool) → q ≡ a → q ≡ false → r ≡ b → r ≡ (a || b)
second q r true b e f g = absurd (cc)
second q r false b e f g = g

pub returns-then-contains_key : goal.returns-then-contains_key
returns-then-contains_key c =
    let x = c.args.name.now in
    let es = c.self.inside.signals.entries in
    let os = c.self.inside.outputs.entries in
    first c.contains_key.result (named_signal (signals_of es) x) (named_output (outputs_of os) x) (c.contains_key.ensures ∙ signal_found es x) c.if-contains_key.true
    ∙ ap (λ (n : Netlist). has_name n x) c.self.view_is

pub returns-else-contains_key : goal.returns-else-contains_key
returns-else-contains_key c =
    let x = c.args.name.now in
    let es = c.self.inside.signals.entries in
    let os = c.self.inside.outputs.entries in
    second c.contains_key.result c.contains_key-else-contains_key.result (named_signal (signals_of es) x) (named_output (outputs_of os) x)
    (c.contains_key.ensures ∙ signal_found es x) c.if-contains_key.false (c.contains_key-else-contains_key.ensures ∙ output_found os x)
    ∙ ap (λ (n : Netlist). has_name n x) c.self.view_is
