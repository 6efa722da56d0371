use Rattle.safl_vwrite.proofs.Common.{codes, flat_map, input_declaration, output_declaration, register_declaration, wire_declaration}
use Rattle.safl_vwrite.proofs.Texts.{five}
use Rattle.safl_vwrite.proofs.declarations.push_declarations.Goals as goal

pub returns : goal.returns
returns c =
    five c.args.out.now.items (codes "  input clk;\n  input rst;\n") (flat_map input_declaration c.args.net.now.signals) (flat_map (output_declaration c.args.net.now) c.args.net.now.outputs)
    (flat_map register_declaration c.args.net.now.signals) (flat_map wire_declaration c.args.net.now.signals)
    c.push.new.out.items c.declare_inputs.new.out.items c.declare_outputs.new.out.items c.declare_registers.new.out.items c.declare_wires.new.out.items
    c.in_ok-push.ensures c.in_ok-declare_inputs.ensures c.in_ok-declare_outputs.ensures c.in_ok-declare_registers.ensures c.in_ok-declare_wires.ensures
