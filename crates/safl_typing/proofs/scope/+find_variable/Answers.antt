use Rattle.safl_typing.proofs.Common.{shifted, shown_scope, shown_slots}
use Rattle.std.proofs.Common.{◌∙◌, Option, length, ap, sym, refl}
use Rattle.safl_typing.specs.declared.scope.Scope.{Scope}
use Rattle.safl_typing.specs.Typing.{At, innermost}
use Rattle.safl_typing.proofs.InnermostName.{in_let}
use Rattle.safl_typing.proofs.scope.+find_variable.Goals as goal

pub returns-in-Some : goal.returns-in-Some
returns-in-Some t c =
    let here = ap (λ (o : Option At). shifted c.count.result o) (sym c.in-Some.ensures.found) ∙ c.variable_at-in-Some.ensures in
    sym (ap (λ (s : Scope). innermost c.args.name.now 0 (shown_scope s)) c.in-Let.is
    ∙ in_let c.args.name.now (shown_scope c.in-Let.around.now) (shown_slots c.in-Let.slots.now) c.count.result _ c.count.ensures here)

pub returns-in_default : goal.returns-in_default
returns-in_default t c =
    let none = ap (λ (o : Option At). shifted (length (shown_scope c.in-Let.around.now)) o) (sym c.in_default.ensures.found) in
    c.find_variable.ensures
    ∙ sym (ap (λ (s : Scope). innermost c.args.name.now 0 (shown_scope s)) c.in-Let.is
    ∙ in_let c.args.name.now (shown_scope c.in-Let.around.now) (shown_slots c.in-Let.slots.now) (length (shown_scope c.in-Let.around.now)) _ refl none)
