use Rattle.safl_opt.proofs.Common.{ap, arith, sig_at, ◌∙◌}
use Rattle.safl_opt.proofs.Coming.{sig_is}
use Rattle.safl_opt.proofs.Starting.{sig_or}
use Rattle.safl_opt.proofs.build.new_number.Goals as goal

pub bounds-made-index : goal.bounds-made-index
bounds-made-index c = let e = sig_is c.args.values.now.ids.items c.args.s.0 c.index.result.now c.requires.known c.index.ensures in let w = c.requires.listed in omega (arith, e, w)

pub returns : goal.returns
returns c = sig_or c.args.made.now c.index.result.now.0 ∙ ap (sig_at c.args.made.now) (sig_is c.args.values.now.ids.items c.args.s.0 c.index.result.now c.requires.known c.index.ensures)
