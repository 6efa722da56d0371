use Rattle.safl_vparse.proofs.Common.{first_and_rest, measured}
use Rattle.std.proofs.Common.{◌∙◌, ap, sym, drop, get_or, List, ℕ}
use Rattle.safl_verilog.specs.Pieces.{first_symbol}
use Rattle.safl_vparse.proofs.Fronts.{two_missing}
use Rattle.safl_vparse.proofs.front.symbol.Goals as goal

pub returns-in-None : goal.returns-in-None
returns-in-None c =
    let w = c.args.rest.now in
    c.single-in-None.ensures ∙ sym (two_missing c.args.first (get_or w 0 0) (drop 1 w) c.in-None.ensures.none) ∙ ap
    (λ (l : List ℕ). measured (first_symbol c.args.first l)) (sym (first_and_rest w c.in-len1-up.len_at_least))
