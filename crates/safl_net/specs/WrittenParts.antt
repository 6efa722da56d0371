-- The parts of the written text that one signal or one output has, by name.
use Rattle.std.specs.Prelude.{ℕ, List, ◌++◌, codes}
use Rattle.safl_net.specs.Netlist.{Netlist, Signal, width_of}
use Rattle.safl_net.specs.Making.{name_at}
use Rattle.safl_net.specs.Written.{Text, if_input, if_register, if_wire, declaration, assignment, cell_assignment, next_update}

-- the ports of the header: the inputs, and the outputs
abbrev pub port : Text → Text
port name = codes ", " ++ name

abbrev pub input_port : Signal → Text
input_port g = if_input g.kind (port g.name)

abbrev pub output_port : List ℕ × ℕ → Text
output_port o = port o.0

-- the declarations of signals and outputs
abbrev pub input_declaration : Signal → Text
input_declaration g = if_input g.kind (declaration (codes "input") g.width g.name)

abbrev pub output_declaration : Netlist → List ℕ × ℕ → Text
output_declaration n o = declaration (codes "output") (width_of n o.1) o.0

abbrev pub register_declaration : Signal → Text
register_declaration g = if_register g.kind (declaration (codes "reg") g.width g.name)

abbrev pub wire_declaration : Signal → Text
wire_declaration g = if_wire g.kind (declaration (codes "wire") g.width g.name)

-- the assignments of wires and outputs
abbrev pub wire_assignment : Netlist → Signal → Text
wire_assignment n g = cell_assignment n g.name g.kind

abbrev pub output_assignment : Netlist → List ℕ × ℕ → Text
output_assignment n o = assignment o.0 (name_at n o.1)

-- the update of a register up to its next signal; and of a signal that is one
abbrev pub reset : Text → Text → Text
reset name word = codes "  always @(posedge clk) if (rst) " ++ name ++ codes " <= " ++ word ++ codes "; else "

abbrev pub register_update : Netlist → Signal → Text
register_update n g = next_update n g.name g.width g.kind
