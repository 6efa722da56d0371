-- The answers of the checker.
use Rattle.std.specs.Prelude.{Vec, ◌≡◌, ◌⊎◌, List, map, Some, None, Result, Ok, Err}
use Rattle.std.specs.Global.{Global}
use Rattle.safl_word.specs.declared.fault.Fault.{Fault}
use Rattle.safl_term.specs.declared.checked.Function.{Function}
use Rattle.safl_tree.specs.Tree.{Definition}
use Rattle.safl_typing.specs.Forms.{FunctionForm, AreShallow, shown_function}
use Rattle.safl_typing.specs.PlainTyped.{RefusesFault}
use Rattle.safl_typing.specs.Walk.{limits}
use Rattle.safl_typing.specs.FirstFault.{first_fault}
use Rattle.safl_typing.specs.declared.typed.CheckErr.{CheckErr}
use Rattle.safl_typing.specs.declared.typed.CheckErr.TheVariants as errors

-- the functions that the code gives are those of the definition of checking, or the faults are the same
abbrev pub SaysFunctions : Result (Vec Function Global) CheckErr → Result (List FunctionForm) Fault → Type 0
SaysFunctions (Ok fs) r = r ≡ Ok (map shown_function fs.items)
SaysFunctions (Err e) r = RefusesFault e r

-- no limit is passed, and some body is deeper than a checked one may be
abbrev pub IsTooDeep : List Definition → Type 0
IsTooDeep ds = (limits ds ≡ None) × ¬ (AreShallow ds)

-- the first fault of the program: of a limit, or, if all bodies are shallow, of a head or a body
abbrev pub IsRefused : List Definition → Fault → Type 0
IsRefused ds f = (first_fault ds ≡ Some f) × (limits ds ≡ Some f ⊎ AreShallow ds)

-- each error that the limits give, and, in a program with shallow bodies, the heads
abbrev pub RefusesLimits : List Definition → CheckErr → Type 0
RefusesLimits ds (errors.Refused f) = limits ds ≡ Some f
RefusesLimits ds errors.TooDeep = ⊥
RefusesLimits ds errors.NoMemory = Unit {0}

abbrev pub RefusesShallow : List Definition → CheckErr → Type 0
RefusesShallow ds (errors.Refused f) = first_fault ds ≡ Some f
RefusesShallow ds errors.TooDeep = ⊥
RefusesShallow ds errors.NoMemory = Unit {0}

-- each error of the checker comes only for its cause. Out of memory needs no cause
abbrev pub RefusesProgram : List Definition → CheckErr → Type 0
RefusesProgram ds (errors.Refused f) = IsRefused ds f
RefusesProgram ds errors.TooDeep = IsTooDeep ds
RefusesProgram ds errors.NoMemory = Unit {0}

-- the answer is too deep, or out of memory
abbrev pub FindsTooDeep : {A : Type 0} → Result A CheckErr → Type 0
FindsTooDeep r = (r ≡ Err errors.TooDeep) ⊎ (r ≡ Err errors.NoMemory)
