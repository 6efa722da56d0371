use Rattle.safl_text.proofs.PrefixByRuns.{key_front, name_front, long_name_front}
use Rattle.safl_text.proofs.front.name_or_key.Goals as goal

pub returns-in-Some : goal.returns-in-Some
returns-in-Some c = key_front c.args.text.now c.name_length-n.result c.in-Some.key c.requires.some c.requires.begins c.name_length-n.ensures c.in-Some.ensures.some

pub returns-in-None : goal.returns-in-None
returns-in-None c = name_front c.args.text.now c.name_length-n.result c.requires.some c.requires.begins c.name_length-n.ensures c.in-None.ensures.none c.if-n-le-NAME_MAX.true

pub returns-in-None-2 : goal.returns-in-None-2
returns-in-None-2 c = long_name_front c.args.text.now c.name_length-n.result c.requires.some c.requires.begins c.name_length-n.ensures c.if-n-le-NAME_MAX.false
