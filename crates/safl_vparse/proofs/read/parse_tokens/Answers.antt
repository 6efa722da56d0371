use Rattle.safl_vparse.proofs.Common.{Unexpected, shown_all, shown_file}
use Rattle.std.proofs.Common.{ap, ◌∙◌}
use Rattle.safl_verilog.specs.declared.fault.VRule.TheVariants as rules
use Rattle.safl_verilog.specs.Faults.{at}
use Rattle.safl_verilog.proofs.Grammar.{spelled, first_fault}
use Rattle.safl_vparse.proofs.read.parse_tokens.Goals as goal

pub returns-in-Ok : goal.returns-in-Ok
returns-in-Ok c = spelled (shown_all c.args.text.now c.args.tokens.now) (shown_file c.args.text.now c.in-Ok.file) (shown_all c.args.text.now c.in-Ok.field-0-1.now) c.in-Ok.ensures

pub returns-in-Err-Unexpected : goal.returns-in-Err-Unexpected
returns-in-Err-Unexpected c =
    let rest = shown_all c.args.text.now c.in-Err-Unexpected.rest.now in
    let h = rw c.in-Err-Unexpected.field-0-is at c.in-Err-Unexpected.ensures in
    (Unexpected, rest, first_fault (shown_all c.args.text.now c.args.tokens.now) rest Unexpected h, c.new.ensures ∙ ap (at rules.V02) c.place_of.ensures)
