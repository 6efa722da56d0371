use Rattle.safl_lower.proofs.Joining.{first_fits}
use Rattle.safl_unit.proofs.equations.Stepping.{only_word, load_word_value}
use Rattle.safl_unit.proofs.next.load_word.Goals as goal

pub mux-requires-clause-branches : goal.mux-requires-clause-branches
mux-requires-clause-branches c =
    let b = c.requires.fits in
    let f = first_fits c.in-Some.is b.1 in
    (b.0, (only_word c.args.net.now c.in-Some.load.words.items b.0 c.index-other.result.now f.words c.index-other.ensures).0, b.2)

pub returns-in-Some-clause-fits : goal.returns-in-Some-clause-fits
returns-in-Some-clause-fits c = λ w p q. c.mux.ensures.fits w
    (only_word c.args.net.now c.in-Some.load.words.items w c.index-other.result.now (first_fits c.in-Some.is p).words c.index-other.ensures).0 q

pub returns-in-Some-clause-value : goal.returns-in-Some-clause-value
returns-in-Some-clause-value c =
    let b = c.requires.fits in
    let f = first_fits c.in-Some.is b.1 in
    load_word_value c.mux.new.net c.mux.result c.args.load.now c.in-Some.load c.index-other.result.now c.args.word c.in-Some.is
    (only_word c.args.net.now c.in-Some.load.words.items b.0 c.index-other.result.now f.words c.index-other.ensures).1 c.mux.ensures.value
