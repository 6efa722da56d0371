use Rattle.std.proofs.Common.{sym, subst}
use Rattle.safl_word.specs.Words.{IsWord}
use Rattle.safl_run.proofs.InputsAroundStart.{zero_is_word}
use Rattle.safl_run.proofs.input_words.push_zero.Goals as goal

pub from_parts-requires : goal.from_parts-requires
from_parts-requires c = subst (λ w. IsWord (record { width = w; bits = 0 })) (sym c.width.ensures) (zero_is_word c.args.net.now c.args.signal.0 c.requires.netlist c.requires.known)
