-- Readiness.
use Rattle.std.specs.Prelude.{Bool, true, false}
use Rattle.safl_net.specs.Netlist.{Netlist}
use Rattle.safl_net.specs.Growth.{Val}
use Rattle.safl_net.specs.Bits.{on}
use Rattle.safl_lower.specs.declared.lowered.Readiness.{Readiness}
use Rattle.safl_lower.specs.declared.lowered.Readiness.TheVariants.{Always, Never, When}
use Rattle.safl_lower.specs.Sources.{IsSource}

-- whether it is ready under a valuation
abbrev pub is_ready : Val → Readiness → Bool
is_ready v Always = true
is_ready v Never = false
is_ready v (When s) = on v s

abbrev pub ReadyAt : Netlist → Readiness → Type 0
ReadyAt n Always = Unit {0}
ReadyAt n Never = Unit {0}
ReadyAt n (When s) = IsSource n s 1
