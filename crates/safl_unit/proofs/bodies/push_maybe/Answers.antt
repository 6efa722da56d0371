use Rattle.safl_unit.proofs.Common.{Load, maybe_load, nil_at_end, row_at}
use Rattle.std.proofs.Common.{◌≡◌, ◌==◌, [], ◌++◌, cond, Bool, true, false, List, Option, sym, ap, ◌∙◌}
use Rattle.safl_unit.proofs.bodies.push_maybe.Goals as goal

nothing : (xs : List Load) (t : Bool) → xs ≡ xs ++ cond t [] []
nothing xs true = nil_at_end xs
nothing xs false = nil_at_end xs

pub returns-in-None-clause-rows : goal.returns-in-None-clause-rows
returns-in-None-clause-rows c = λ i.
    nothing (row_at c.args.rows.now.items i) (i == c.args.place)
    ∙ ap (λ (o : Option Load). row_at c.args.rows.now.items i ++ cond (i == c.args.place) (maybe_load o) []) (sym c.in-None.is)
