-- Nets of single bits.
use Rattle.std.specs.Prelude.{◌≡◌, ℕ, zero, suc, ◌<◌, List, [], ◌∷◌, Some, length}
use Rattle.safl_net.specs.Netlist.{Netlist}
use Rattle.safl_net.specs.Names.{IsTidy}
use Rattle.safl_net.specs.Growth.{width_at}

-- there is at least one signal, and each signal has one bit
pub record OfBits (n : Netlist) : Type 0 where
  pub tidy : IsTidy n
  pub some : 0 < length n.signals
  pub bit : (s : ℕ) → s < length n.signals → width_at n s ≡ Some 1

-- the widths of this many bits
abbrev pub ones : ℕ → List ℕ
ones zero = []
ones (suc k) = 1 ∷ ones k
