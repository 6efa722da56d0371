-- The answer of the checker for a single function.
use Rattle.std.specs.Prelude.{ℕ, List, true, Result, Ok, Err, ◌≡◌}
use Rattle.safl_word.specs.declared.fault.Fault.{Fault}
use Rattle.safl_term.specs.declared.checked.Function.{Function}
use Rattle.safl_tree.specs.declared.tree.Def.{Def}
use Rattle.safl_tree.specs.Tree.{Definition}
use Rattle.safl_tree.specs.Shown.{shown_definition}
use Rattle.safl_typing.specs.declared.expression.Expression as code
use Rattle.safl_typing.specs.declared.heads.Head as code_head
use Rattle.safl_typing.specs.Rewriting.{Expression}
use Rattle.safl_typing.specs.Heads.{Slot, Known}
use Rattle.safl_typing.specs.Forms.{FunctionForm, shown_function}
use Rattle.safl_typing.specs.Plain.{shown_expression}
use Rattle.safl_typing.specs.PlainHeads.{shown_slots, known}
use Rattle.safl_typing.specs.PlainTyped.{RefusesFault}
use Rattle.safl_typing.specs.Walk.{Exactly, after, check, function}
use Rattle.safl_typing.specs.declared.typed.CheckErr.{CheckErr}

-- the function of a definition with these parameters and this body, checked in a group that sees the functions of k
abbrev pub checked_function : Known → List Slot → ℕ → Definition → Expression → Result FunctionForm Fault
checked_function k params lo d body = after (check k params true lo (Exactly d.width) body) (λ x. Ok (function k.unit lo d x.term))

-- the function of a definition and a body of the code, checked by all heads and the definition's own head
abbrev pub checked_with_head : List code_head.Head → code_head.Head → ℕ → Def → code.Expression → Result FunctionForm Fault
checked_with_head hs h lo d body = checked_function (known hs h.unit) (shown_slots h.params.items) lo (shown_definition d) (shown_expression body)

-- the function that the code gives is that of the definition of checking, or the faults are the same
abbrev pub SaysFunction : Result Function CheckErr → Result FunctionForm Fault → Type 0
SaysFunction (Ok f) r = r ≡ Ok (shown_function f)
SaysFunction (Err e) r = RefusesFault e r
