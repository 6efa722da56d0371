-- The Verilog text that is written for a netlist, byte by byte.
use Rattle.std.specs.Prelude.{ℕ, ◌-◌, List, [], ◌∷◌, ◌++◌, Some, codes, map}
use Rattle.std.specs.List.{flat_map}
use Rattle.std.specs.Fmt.{decimal}
use Rattle.safl_word.specs.declared.primitive.Primitive.{Primitive}
use Rattle.safl_word.specs.declared.primitive.Primitive.TheVariants.{Not, Cat, Bits, Ext}
use Rattle.safl_word.specs.Tokens.{sym_text}
use Rattle.safl_word.specs.Operators.{symbol_of}
use Rattle.safl_net.specs.declared.cell.Op.{Op}
use Rattle.safl_net.specs.declared.cell.Op.TheVariants.{Const, Copy, Mux, Apply}
use Rattle.safl_net.specs.Netlist.{Netlist, Signal, Kind, Input, Reg, Wire, width_of}
use Rattle.safl_net.specs.Making.{name_at}
pub use Rattle.safl_word.specs.Lists.{Text}

-- a sized number: its width, 'd, and its decimal digits
abbrev pub literal : ℕ → ℕ → Text
literal width bits = decimal width ++ codes "'d" ++ decimal bits

-- the declaration of a name with a keyword and a width
abbrev pub declaration : Text → ℕ → Text → Text
declaration keyword width name = codes "  " ++ keyword ++ codes " " ++ (codes "[" ++ decimal (width - 1) ++ codes ":0]") ++ codes " " ++ name ++ codes ";\n"

-- a primitive, and an operation, on operands with these names. There is no text if they are not as many as it takes
abbrev pub operation_text : Primitive → List Text → Text
operation_text Not (a ∷ []) = codes "~" ++ a
operation_text Not _ = []
operation_text Cat (a ∷ b ∷ []) = codes "{" ++ a ++ codes ", " ++ b ++ codes "}"
operation_text (Bits high low) (a ∷ []) = a ++ (codes "[" ++ decimal high ++ codes ":" ++ decimal low ++ codes "]")
operation_text (Bits high low) _ = []
operation_text (Ext width) _ = []
operation_text p (a ∷ b ∷ []) = a ++ codes " " ++ sym_text (symbol_of p) ++ codes " " ++ b
operation_text _ _ = []

abbrev pub operation : Op → List Text → Text
operation (Const w) names = literal w.width w.bits
operation Copy (a ∷ []) = a
operation Mux (c ∷ a ∷ b ∷ []) = c ++ codes " ? " ++ a ++ codes " : " ++ b
operation (Apply p) names = operation_text p names
operation _ _ = []

abbrev pub if_input : Kind → Text → Text
if_input Input t = t
if_input _ t = []

abbrev pub if_register : Kind → Text → Text
if_register (Reg init next) t = t
if_register _ t = []

abbrev pub if_wire : Kind → Text → Text
if_wire (Wire cell) t = t
if_wire _ t = []

-- the assignments of wires and outputs
abbrev pub assignment : Text → Text → Text
assignment target source = codes "  assign " ++ target ++ codes " = " ++ source ++ codes ";\n"

abbrev pub cell_assignment : Netlist → Text → Kind → Text
cell_assignment n name (Wire (Some c)) = assignment name (operation c.op (map (name_at n) c.operands))
cell_assignment n name _ = []

-- the update of a register at the clock's edge: its word at reset, and otherwise its next signal
abbrev pub next_update : Netlist → Text → ℕ → Kind → Text
next_update n name width (Reg init (Some m)) =
    codes "  always @(posedge clk) if (rst) " ++ name ++ codes " <= " ++ literal width init ++ codes "; else " ++ name ++ codes " <= " ++ name_at n m
    ++ codes ";\n"
next_update n name width _ = []

-- the parts of the text
abbrev pub header : Netlist → Text
header n =
    codes "module safl (clk, rst" ++ flat_map (λ (g : Signal). if_input g.kind (codes ", " ++ g.name)) n.signals
    ++ flat_map (λ (o : List ℕ × ℕ). codes ", " ++ o.0) n.outputs ++ codes ");\n"

abbrev pub declarations : Netlist → Text
declarations n =
    codes "  input clk;\n  input rst;\n" ++ flat_map (λ (g : Signal). if_input g.kind (declaration (codes "input") g.width g.name)) n.signals
    ++ flat_map (λ (o : List ℕ × ℕ). declaration (codes "output") (width_of n o.1) o.0) n.outputs
    ++ flat_map (λ (g : Signal). if_register g.kind (declaration (codes "reg") g.width g.name)) n.signals
    ++ flat_map (λ (g : Signal). if_wire g.kind (declaration (codes "wire") g.width g.name)) n.signals

abbrev pub statements : Netlist → Text
statements n =
    flat_map (λ (g : Signal). cell_assignment n g.name g.kind) n.signals
    ++ flat_map (λ (o : List ℕ × ℕ). assignment o.0 (name_at n o.1)) n.outputs
    ++ flat_map (λ (g : Signal). next_update n g.name g.width g.kind) n.signals

-- The whole text: the header with the clock, the reset, inputs and outputs; the declarations of these, then of registers, then of
-- wires; the assignments of wires, then of outputs; the updates of registers.
unfoldable pub written : Netlist → Text
written n = header n ++ declarations n ++ statements n ++ codes "endmodule\n"

-- ---- parts by name

abbrev pub range : ℕ → Text
range width = codes "[" ++ decimal (width - 1) ++ codes ":0]"

abbrev pub slice : ℕ → ℕ → Text
slice high low = codes "[" ++ decimal high ++ codes ":" ++ decimal low ++ codes "]"

abbrev pub names_of : Netlist → List ℕ → List Text
names_of n ss = map (name_at n) ss

abbrev pub update : Text → Text → Text → Text
update name word next =
    codes "  always @(posedge clk) if (rst) " ++ name ++ codes " <= " ++ word ++ codes "; else " ++ name ++ codes " <= " ++ next ++ codes ";\n"
