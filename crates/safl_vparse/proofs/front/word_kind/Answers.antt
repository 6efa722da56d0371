use Rattle.safl_vparse.proofs.Fronts.{kind_keyword, kind_identifier}
use Rattle.safl_vparse.proofs.front.word_kind.Goals as goal

pub returns-in-Some : goal.returns-in-Some
returns-in-Some c = kind_keyword c.args.text.now c.in-Some.keyword c.in-Some.ensures.some

pub returns-in-None : goal.returns-in-None
returns-in-None c = kind_identifier c.args.text.now c.in-None.ensures.none
