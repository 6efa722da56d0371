-- What checking gives in the code, as plain values.
use Rattle.std.specs.Prelude.{◌≡◌, ℕ, ◌≤◌, List, Option, Some, None, Bool, if◌then◌else◌, slice_get, Result, Ok, Err}
use Rattle.safl_word.specs.Limits.{width_max}
use Rattle.safl_word.specs.declared.fault.Fault.{Fault}
use Rattle.safl_term.specs.Tree.{shown_term, shown_terms}
use Rattle.safl_typing.specs.declared.heads.Slot as code_slot
use Rattle.safl_typing.specs.declared.typed.CheckErr.{CheckErr}
use Rattle.safl_typing.specs.declared.typed.CheckErr.TheVariants as errors
use Rattle.safl_typing.specs.declared.typed.Wanted as code_wanted
use Rattle.safl_typing.specs.declared.typed.Wanted.TheVariants as wants
use Rattle.safl_typing.specs.declared.typed.Typed as code_typed
use Rattle.safl_typing.specs.declared.terms.TypedAll as code_all
use Rattle.safl_typing.specs.declared.terms.TypedAlike as code_alike
use Rattle.safl_typing.specs.declared.shape.Shape as code_shape
use Rattle.safl_typing.specs.declared.shape.Shape.TheVariants as shapes
use Rattle.safl_typing.specs.Rewriting.{Expressions, no_expression, Shape, Alike, Comparing, Shifting, Resizing}
use Rattle.safl_typing.specs.Heads.{Slot, Known}
use Rattle.safl_typing.specs.Typing.{At}
use Rattle.safl_typing.specs.Walk.{Wanted, Any, Exactly, Typed, TypedAll, TypedAlike, all_any, amounts, check_alike}

abbrev pub shown_wanted : code_wanted.Wanted → Wanted
shown_wanted wants.Any = Any
shown_wanted (wants.Exactly w) = Exactly w

-- the width is one that a word may have
abbrev pub HasWidthOfWord : ℕ → Type 0
HasWidthOfWord w = (1 ≤ w) × (w ≤ width_max)

abbrev pub HasWideWanted : code_wanted.Wanted → Type 0
HasWideWanted wants.Any = Unit {0}
HasWideWanted (wants.Exactly w) = HasWidthOfWord w

abbrev pub shown_typed : code_typed.Typed → Typed
shown_typed t = record { width = t.width; term = shown_term t.term }

abbrev pub shown_all_typed : code_all.TypedAll → TypedAll
shown_all_typed t = record { widths = t.widths.items; terms = shown_terms t.terms.items }

abbrev pub shown_alike : code_alike.TypedAlike → TypedAlike
shown_alike t = record { width = t.width; terms = shown_terms t.terms.items }

-- The error is the fault that the definition of checking gives, or out of memory. That definition finds nothing too deep.
abbrev pub RefusesFault : {A : Type 0} → CheckErr → Result A Fault → Type 0
RefusesFault (errors.Refused f) r = r ≡ Err f
RefusesFault errors.TooDeep r = ⊥
RefusesFault errors.NoMemory r = Unit {0}

-- the result of the code is that of the definition of checking
abbrev pub Says : Result code_typed.Typed CheckErr → Result Typed Fault → Type 0
Says (Ok x) r = r ≡ Ok (shown_typed x)
Says (Err e) r = RefusesFault e r

-- the results of the code for several expressions are those of the definition of checking
abbrev pub SaysAll : Result code_all.TypedAll CheckErr → Result TypedAll Fault → Type 0
SaysAll (Ok x) r = r ≡ Ok (shown_all_typed x)
SaysAll (Err e) r = RefusesFault e r

-- the results of the code for several expressions of one width are those of the definition of checking
abbrev pub SaysAlike : Result code_alike.TypedAlike CheckErr → Result TypedAlike Fault → Type 0
SaysAlike (Ok x) r = r ≡ Ok (shown_alike x)
SaysAlike (Err e) r = RefusesFault e r

-- the result of the code is that of the definition of checking for no operands, whatever is known and in scope
abbrev pub SaysNoOperand : Result code_alike.TypedAlike CheckErr → ℕ → code_wanted.Wanted → Type 0
SaysNoOperand result place wanted =
    (k : Known) (s : List Slot) (site : ℕ) → SaysAlike result (check_alike k s site place (shown_wanted wanted) no_expression)

abbrev pub shown_shape : code_shape.Shape → Shape
shown_shape shapes.Alike = Alike
shown_shape shapes.Comparing = Comparing
shown_shape shapes.Shifting = Shifting
shown_shape shapes.Resizing = Resizing

abbrev pub with_slot : ℕ → Option code_slot.Slot → Option At
with_slot i None = None
with_slot i (Some s) = Some (record { slot = i; width = s.width })

abbrev pub at_slot : List code_slot.Slot → Option ℕ → Option At
at_slot ss None = None
at_slot ss (Some i) = with_slot i (slice_get ss i)

-- how an operand is checked: of a shift by this width, or of another operator
abbrev pub operand_wanted : Option ℕ → Bool → Wanted
operand_wanted None is_flexible = Any
operand_wanted (Some w) is_flexible = if is_flexible then Exactly w else Any

abbrev pub operands_wanted : Option ℕ → Expressions → List Wanted
operands_wanted None es = all_any es
operands_wanted (Some w) es = amounts w es
