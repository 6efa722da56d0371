use Rattle.safl_unit.proofs.Common.{List, Load, Option, ap, bit_or, load_bit, map, ◌∙◌}
use Rattle.safl_unit.proofs.equations.Controlling.{has_controls}
use Rattle.safl_unit.proofs.controls.controls.Goals as goal

pub returns-clause-done : goal.returns-clause-done
returns-clause-done c =
    λ C P pins rs os gs. has_controls C P c.args.net.now c.zero.new.net pins c.args.returns.now c.args.outcomes.now c.args.goes.now
    (record { ends = c.in_ok-ends.ends; loops = c.in_ok-loops.loops; wants = c.in_ok-wants.wants; rets = c.in_ok-rets.rets; goes = c.in_ok-goes.goes }) c.in_ok-never.never
    c.zero.ensures.built rs os gs c.in_ok-never.ensures.fits c.in_ok-never.ensures.value
    (c.in_ok-ends.ensures ∙ ap (λ (xs : List Load). map load_bit xs) c.deref.ensures.value)
    (c.in_ok-loops.ensures ∙ ap (λ (xs : List (Option Load)). map (bit_or c.in_ok-never.never) xs) c.deref-2.ensures.value)
    (c.in_ok-wants.ensures ∙ ap (λ (xs : List Load). map load_bit xs) c.deref-3.ensures.value)
    (c.in_ok-rets.ensures.items ∙ c.deref-4.ensures.value) c.in_ok-goes.ensures.items
