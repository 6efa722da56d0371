use Rattle.std.proofs.Common.{◌++◌, map, string_bytes, arith}
use Rattle.safl_tool.specs.VerilogLines.{spaced}
use Rattle.safl_tool.proofs.Naming.{spaced_more, spaced_all}
use Rattle.safl_tool.proofs.Reading.{text_at}
use Rattle.safl_tool.proofs.verilog_lines.push_names.Goals as goal

pub names-preserved : goal.names-preserved
names-preserved c =
    spaced_more c.args.names.now c.names.i c.deref.result.now (c.args.out.now.items ++ spaced (map string_bytes c.args.names.now)) c.names.out.items _
    (text_at c.args.names.now c.names.i c.index-names-i.result c.deref.result.now c.names-test.true c.index-names-i.is c.deref.ensures) c.names.invariant c.in_ok-push_name.ensures

pub returns : goal.returns
returns c = spaced_all c.args.names.now c.names.i _ _ (let a = c.names-test.false in let b = c.names.auto.i-end in omega (arith, a, b)) c.names.invariant
