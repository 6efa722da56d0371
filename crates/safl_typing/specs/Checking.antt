-- What checking gives, and what it requires, by the context, the scope and the position in the body.
use Rattle.std.specs.Prelude.{◌≡◌, ℕ, ◌+◌, List, map, Option, ◌&&◌, ◌==◌, length, Result}
use Rattle.safl_word.specs.declared.fault.Rule.TheVariants as rules
use Rattle.safl_word.specs.declared.fault.Fault.{Fault}
use Rattle.safl_term.specs.Terms.{Term}
use Rattle.safl_typing.specs.declared.context.Context.{Context}
use Rattle.safl_typing.specs.declared.expression.Expression as code
use Rattle.safl_typing.specs.declared.heads.Head as code_head
use Rattle.safl_typing.specs.declared.scope.Scope.{Scope}
use Rattle.safl_typing.specs.declared.typed.Wanted as code_wanted
use Rattle.safl_typing.specs.declared.checking.Branches.{Branches}
use Rattle.safl_typing.specs.declared.checking.Position.{Position}
use Rattle.safl_typing.specs.Rewriting.{Expression, If, flexible, count, nodes}
use Rattle.safl_typing.specs.Heads.{Known, sites}
use Rattle.safl_typing.specs.Typing.{widths_of}
use Rattle.safl_typing.specs.Ranges.{IsInRange}
use Rattle.safl_typing.specs.Walk.{Typed, TypedAll, TypedAlike, fault_with, unless, needs, is_any, all_any, branches, exactly, check, check_all, check_alike}
use Rattle.safl_typing.specs.Plain.{shown_expression, shown_expressions}
use Rattle.safl_typing.specs.PlainHeads.{shown_head}
use Rattle.safl_typing.specs.PlainContext.{seen}
use Rattle.safl_typing.specs.PlainScope.{shown_scope}
use Rattle.safl_typing.specs.PlainTyped.{shown_wanted, operands_wanted}
use Rattle.safl_typing.specs.Marks.{AreMarked}
use Rattle.safl_typing.specs.MayWalk.{MayWalk, MayCheck}

-- an if with this condition and these branches
abbrev pub choice_between : ℕ → code.Expression → Branches → Expression
choice_between place condition both = If place (shown_expression condition) (shown_expression both.first.now) (shown_expression both.second.now)

-- the expression may be checked
abbrev pub MayCheckIn : Context → Scope → ℕ → Expression → Type 0
MayCheckIn c s lo e = MayCheck c.heads.now c.unit (shown_scope s) lo e

-- the two branches may be checked
abbrev pub MayCheckBoth : Context → Scope → ℕ → Branches → Type 0
MayCheckBoth c s lo both =
    MayWalk c.heads.now (shown_scope s) lo (IsInRange (shown_expression both.first.now) × IsInRange (shown_expression both.second.now))
    (sites (seen c) (shown_expression both.first.now) + sites (seen c) (shown_expression both.second.now))
    (nodes (shown_expression both.first.now) + nodes (shown_expression both.second.now))

-- what checking gives for an expression in this position
abbrev pub checked : Context → Scope → Position → Expression → Result Typed Fault
checked c s at e = check (seen c) (shown_scope s) at.tail at.first_site (shown_wanted at.wanted) e

-- what checking gives for an if with this term as its condition, from its two branches
abbrev pub checked_both : Context → Scope → Position → Branches → Term → Result Typed Fault
checked_both c s at both test =
    branches (is_any (shown_wanted at.wanted) && flexible (shown_expression both.first.now)) (shown_wanted at.wanted)
    (λ v. check (seen c) (shown_scope s) at.tail at.first_site v (shown_expression both.first.now))
    (λ v. check (seen c) (shown_scope s) at.tail (at.first_site + sites (seen c) (shown_expression both.first.now)) v (shown_expression both.second.now))
    test

-- what checking gives for operands of one width
abbrev pub checked_alike : Context → Scope → ℕ → ℕ → code_wanted.Wanted → List code.Expression → Result TypedAlike Fault
checked_alike c s lo place wanted es = check_alike (seen c) (shown_scope s) lo place (shown_wanted wanted) (shown_expressions es)

-- Operands are wanted so: the width of each is found, but a flexible amount of a shift has the width of what is shifted.
abbrev pub AreWanted : Option ℕ → List code.Expression → List code_wanted.Wanted → Type 0
AreWanted shifted es wanted = (k : Known) → AreMarked k es → map shown_wanted wanted ≡ operands_wanted shifted (shown_expressions es)

-- what checking gives for expressions, each as it is wanted
abbrev pub checked_all : Context → Scope → ℕ → List code_wanted.Wanted → List code.Expression → Result TypedAll Fault
checked_all c s lo wanted es = check_all (seen c) (shown_scope s) lo (map shown_wanted wanted) (shown_expressions es)

-- what checking gives for operands whose widths all have to be found
abbrev pub checked_found : Context → Scope → ℕ → List code.Expression → Result TypedAll Fault
checked_found c s lo es = check_all (seen c) (shown_scope s) lo (all_any (shown_expressions es)) (shown_expressions es)

-- what checking gives for the arguments of a function, which must be as many as its parameters, each against its parameter's width
abbrev pub counted_arguments : Context → Scope → ℕ → ℕ → code_head.Head → List code.Expression → Result TypedAll Fault
counted_arguments c s lo place h es =
    unless
    (needs (length (shown_head h).params == count (shown_expressions es))
    (fault_with rules.E11 place (length (shown_head h).params) (count (shown_expressions es))))
    (check_all (seen c) (shown_scope s) lo (exactly (widths_of (shown_head h).params)) (shown_expressions es))
