-- Bits of signals, and values behind a condition.
use Rattle.std.specs.Prelude.{Option, None, Bool, cond, ◌==◌}
use Rattle.safl_net.specs.declared.cell.Sig.{Sig}
use Rattle.safl_net.specs.Growth.{Val}

-- whether the signal is 1
abbrev pub on : Val → Sig → Bool
on v s = (v s.0).bits == 1

-- the value, if the condition holds
abbrev pub gate : {A : Type 0} → Bool → Option A → Option A
gate b o = cond b o None
