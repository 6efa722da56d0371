use Rattle.std.proofs.Common.{ap, ◌∙◌}
use Rattle.safl_word.proofs.Arith.{masked}
use Rattle.safl_word.proofs.word.Word.from_low_bits.Goals as goal

pub returns : goal.returns
returns c = c.from_parts.ensures ∙ ap (λ n. record { width = c.args.width; bits = n }) (masked c.args.number _ _ c.greatest.ensures)
