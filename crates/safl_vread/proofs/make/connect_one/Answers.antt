use Rattle.safl_vread.proofs.Stages.{input_stays}
use Rattle.safl_verilog.specs.declared.token.Sort.TheVariants as sorts
use Rattle.std.proofs.Common.{refl}
use Rattle.safl_vread.proofs.make.connect_one.Goals as goal

pub returns-in-Input-default : goal.returns-in-Input-default
returns-in-Input-default c = input_stays c.args.net.now c.args.s.0 c.args.numbers.now c.args.sort sorts.Input c.args.driver.now refl c.in-Input-default.is-0 c.requires.there c.requires.open

pub returns-in-Output-default : goal.returns-in-Output-default
returns-in-Output-default c = input_stays c.args.net.now c.args.s.0 c.args.numbers.now c.args.sort sorts.Output c.args.driver.now refl c.in-Output-default.is-0 c.requires.there c.requires.open
