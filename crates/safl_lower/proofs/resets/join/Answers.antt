use Rattle.safl_lower.proofs.Zeroing.{chosen_word, split_word}
use Rattle.safl_lower.proofs.resets.join.Goals as goal

pub returns-in_default-clause-value : goal.returns-in_default-clause-value
returns-in_default-clause-value c = λ w p.
    let t = c.word_of-in_default in
    split_word c.args.net.now c.choose.new.net c.choose.result c.args.s c.args.c c.args.yes c.args.no w c.choose.ensures.built.grows p
    (chosen_word c.choose.new.net c.choose.result t.result c.args.yes c.args.no c.args.c w t.ensures.ready t.ensures.value c.choose.ensures.value)
