-- The declarations of signals, found by number.
use Rattle.std.specs.Prelude.{ℕ}
use Rattle.safl_net.specs.Netlist.{Netlist, width_of}
use Rattle.safl_net.specs.Making.{name_at}
use Rattle.safl_net.specs.Written.{Text, declaration}

-- the declaration of a signal with this keyword
abbrev pub signal_declaration : Netlist → Text → ℕ → Text
signal_declaration n keyword s = declaration keyword (width_of n s) (name_at n s)
