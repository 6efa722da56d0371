use Rattle.safl_check.proofs.Common.{Fault, bytes_eq}
use Rattle.std.proofs.Common.{◌∙◌, ap, sym, Some, true, false}
use Rattle.std.specs.Prelude.{ℕ, List, codes}
use Rattle.safl_check.proofs.LimitsInOrder.{main_at}
use Rattle.safl_check.proofs.limits.find_main_fault.Goals as goal

pub returns-then-eq : goal.returns-then-eq
returns-then-eq c =
    sym (main_at c.args.defs.now c.in-Some.last.now true c.in-Some.ensures.value (sym (ap (λ (x : List ℕ). bytes_eq x (codes "main")) c.bytes.ensures.bytes) ∙ (sym c.eq.ensures ∙ c.if-eq.true)))

pub returns-else-eq : goal.returns-else-eq
returns-else-eq c =
    ap (λ (f : Fault). Some f) c.no_main-else-eq.ensures
    ∙ sym (main_at c.args.defs.now c.in-Some.last.now false c.in-Some.ensures.value (sym (ap (λ (x : List ℕ). bytes_eq x (codes "main")) c.bytes.ensures.bytes) ∙ (sym c.eq.ensures ∙ c.if-eq.false)))
