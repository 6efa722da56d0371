use Rattle.safl_lower.proofs.Common.{Sig, nil_at_end}
use Rattle.std.proofs.Common.{◌≡◌, ◌==◌, [], ◌++◌, cond, Bool, true, false, List, Option, sym, ap, ◌∙◌}
use Rattle.safl_lower.specs.Rows.{maybe_one, row_at}
use Rattle.safl_lower.proofs.rows.push_some.Goals as goal

nothing : (xs : List Sig) (t : Bool) → xs ≡ xs ++ cond t [] []
nothing xs true = nil_at_end xs
nothing xs false = nil_at_end xs

pub returns-in-None-clause-rows : goal.returns-in-None-clause-rows
returns-in-None-clause-rows c = λ i.
    nothing (row_at c.args.rows.now.items i) (i == c.args.place)
    ∙ ap (λ (o : Option Sig). row_at c.args.rows.now.items i ++ cond (i == c.args.place) (maybe_one o) []) (sym c.in-None.is)
