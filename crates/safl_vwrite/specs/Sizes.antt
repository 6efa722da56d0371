-- How long the text of a net may be.
use Rattle.std.specs.Prelude.{ℕ, ◌+◌, ◌*◌, length}
use Rattle.safl_net.specs.Netlist.{Netlist}

-- the greatest length of the text in bytes: 1,200 for each signal and each output, and 1,200 for the rest
abbrev pub text_max : Netlist → ℕ
text_max n = 1200 * (length n.signals + length n.outputs) + 1200
