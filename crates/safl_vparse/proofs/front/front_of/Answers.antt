use Rattle.std.proofs.Common.{◌∙◌, sym}
use Rattle.safl_vparse.proofs.Fronts.{symbol_front}
use Rattle.safl_vparse.proofs.front.front_of.Goals as goal

pub returns-else-is_digit : goal.returns-else-is_digit
returns-else-is_digit c =
    symbol_front c.args.text.now c.symbol.result c.in-len1-up.len_at_least (sym c.is_blank.ensures ∙ c.if-is_blank.false) (λ e. c.if-first-eq47.false e)
    (sym c.is_start.ensures ∙ c.if-is_start.false) (sym c.is_digit.ensures ∙ c.if-is_digit.false) c.symbol.ensures
