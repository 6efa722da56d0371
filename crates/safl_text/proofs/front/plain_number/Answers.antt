use Rattle.std.proofs.Common.{refl}
use Rattle.safl_text.proofs.PrefixByRuns.{plain_front, plain_long}
use Rattle.safl_text.proofs.front.plain_number.Goals as goal

pub returns-in-Some : goal.returns-in-Some
returns-in-Some c = plain_front c.args.text.now c.args.n c.in-Some.value c.requires.some c.requires.run c.requires.alone (c.in-Some.ensures.some.0 refl) c.in-Some.ensures.value

pub returns-in-None : goal.returns-in-None
returns-in-None c = plain_long c.args.text.now c.args.n c.requires.some c.requires.run c.requires.alone (λ b. let e = c.in-None.ensures.some.1 b in cc)
