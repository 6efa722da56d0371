-- The first fault of a list.
use Rattle.std.specs.Prelude.{◌≡◌, List, [], ◌∷◌, Option, None, Some, Result, Ok, Err}
use Rattle.safl_verilog.specs.declared.fault.VFault.{VFault}
use Rattle.safl_vparse.specs.declared.error.VErr.{VErr}
use Rattle.safl_vparse.specs.declared.error.VErr.TheVariants as errors

abbrev pub first : List VFault → Option VFault
first [] = None
first (f ∷ fs) = Some f

-- the error is the first fault of the list, or out of memory
abbrev pub RefusesFirst : List VFault → VErr → Type 0
RefusesFirst faults (errors.Refused f) = Some f ≡ first faults
RefusesFirst faults errors.NoMemory = Unit {0}

-- there is no fault, or the error is the first one, or out of memory
abbrev pub Answers : {A : Type 0} → List VFault → Result A VErr → Type 0
Answers faults (Ok x) = faults ≡ []
Answers faults (Err e) = RefusesFirst faults e
