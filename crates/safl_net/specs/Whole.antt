-- Whole nets, and what a net lacks.
use Rattle.std.specs.Prelude.{◌≡◌, ℕ, ◌<◌, Some, IsSome, length, codes}
use Rattle.safl_net.specs.Netlist.{Netlist, Input, IsSet, AllSet, width_of, place, output_place}
use Rattle.safl_net.specs.Making.{kind_at}

-- the first signal that is a wire without a cell or a register without a next signal
pub record IsLeastUnset (n : Netlist) (s : ℕ) : Type 0 where
  pub known : s < length n.signals
  pub unset : ¬ IsSet (kind_at n s)
  pub least : (t : ℕ) → t < s → IsSet (kind_at n t)

-- there is an input `start` of width 1; an output `done` of width 1; an output `result`
pub record HasStart (n : Netlist) : Type 0 where
  pub signal : ℕ
  pub at : place n.signals (codes "start") 0 ≡ Some signal
  pub input : kind_at n signal ≡ Input
  pub bit : width_of n signal ≡ 1

pub record HasDone (n : Netlist) : Type 0 where
  pub signal : ℕ
  pub at : output_place n.outputs (codes "done") ≡ Some signal
  pub bit : width_of n signal ≡ 1

-- everything is set, and there are an input `start` and an output `done` of width 1, and an output `result`
pub record IsWhole (n : Netlist) : Type 0 where
  pub set : AllSet n
  pub start : HasStart n
  pub done : HasDone n
  pub result : IsSome (output_place n.outputs (codes "result"))
