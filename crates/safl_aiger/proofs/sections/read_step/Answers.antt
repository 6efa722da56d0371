use Rattle.std.proofs.Common.{◌-◌, [], ◌∷◌, take, drop}
use Rattle.safl_aiger.proofs.sections.read_step.Goals as goal

pub returns-clause-ok : goal.returns-clause-ok
returns-clause-ok c =
    let h = c.in_ok-found.ensures.ok in
    record { front = take (c.line_end-end.result - c.args.at) (drop c.args.at c.args.text.now) ∷ []; lines_are = c.line_end-end.ensures.line; good = (h.0, h.1, tt) }
