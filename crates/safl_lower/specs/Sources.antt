-- Signals that cells may read, and nets that are built from them.
use Rattle.std.specs.Prelude.{◌≡◌, ℕ, ◌+◌, ◌≤◌, ◌<◌, List, length, Some}
use Rattle.safl_word.specs.Limits.{count_max}
use Rattle.safl_net.specs.declared.cell.Sig.{Sig}
use Rattle.safl_net.specs.Netlist.{Netlist}
use Rattle.safl_net.specs.Names.{IsTidy}
use Rattle.safl_net.specs.Growth.{width_at, Sized, Grows}
use Rattle.safl_net.specs.Settled.{IsSteady, AreSteady, Settles}

-- the signal is an input, a register or a wire with a cell, of this width
pub record IsSource (n : Netlist) (s : Sig) (w : ℕ) : Type 0 where
  pub width : width_at n s.0 ≡ Some w
  pub steady : IsSteady n s.0

-- the signals are sources of these widths
pub record AreSources (n : Netlist) (xs : List Sig) (ws : List ℕ) : Type 0 where
  pub widths : Sized n xs ws
  pub steady : AreSteady n xs

-- the net has more temporaries, at most so many, and is tidy; its cells read no loop and no wire without a cell, if they
-- did not before
pub record Builds (old new : Netlist) (most : ℕ) : Type 0 where
  pub tidy : IsTidy new
  pub grows : Grows old new
  pub settles : Settles old new
  pub count : length new.signals ≤ length old.signals + most

-- it is so in the net, and in every net that is built on it
abbrev pub Lasts : (Netlist → Type 0) → Netlist → Type 0
Lasts P old = (new : Netlist) (most : ℕ) → Builds old new most → P new

-- the net has room for this many more signals
abbrev pub HasRoom : Netlist → ℕ → Type 0
HasRoom n most = length n.signals + most < count_max

-- the net is tidy, with room for so many more signals
pub record CanGrow (n : Netlist) (most : ℕ) : Type 0 where
  pub tidy : IsTidy n
  pub room : HasRoom n most
