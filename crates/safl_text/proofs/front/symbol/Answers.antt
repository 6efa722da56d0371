use Rattle.safl_text.proofs.PrefixByRuns.{pair_front, lone_front, foreign_front}
use Rattle.safl_text.proofs.front.symbol.Goals as goal

pub returns-in-Some : goal.returns-in-Some
returns-in-Some c = pair_front c.args.text.now c.in-Some.symbol c.in-Some.ensures.some.0 c.in-Some.ensures.some.1

pub returns-in-Some-lone_symbol : goal.returns-in-Some-lone_symbol
returns-in-Some-lone_symbol c = lone_front c.args.text.now c.in-Some-lone_symbol.symbol c.requires.other.some c.in-Some-lone_symbol.ensures.some c.in-None.ensures.none

pub returns-in-None-lone_symbol : goal.returns-in-None-lone_symbol
returns-in-None-lone_symbol c = foreign_front c.args.text.now c.requires.other c.requires.no_comment c.in-None-lone_symbol.ensures.none c.in-None.ensures.none
