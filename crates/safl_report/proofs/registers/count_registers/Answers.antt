use Rattle.std.proofs.Common.{◌<◌, length, refl, ◌∙◌, arith}
use Rattle.safl_net.specs.Making.{kind_at}
use Rattle.safl_net.specs.Netlist.{is_register}
use Rattle.safl_report.proofs.RegistersByOne.{count_more, bits_more}
use Rattle.safl_report.proofs.registers.count_registers.Goals as goal

pub loop-i-preserved : goal.loop-i-preserved
loop-i-preserved c =
    let n = c.args.n.now in
    let i = c.loop-i.i in
    let before = c.loop-i.invariant in
    let after = c.with_signal-total.ensures in
    let lt : i < length n.signals = omega arith in
    record {
      count = after.count ∙ count_more n i c.loop-i.total.count (is_register (kind_at n i)) lt before.count refl;
      bits = after.bits ∙ bits_more n i c.loop-i.total.bits (is_register (kind_at n i)) lt before.bits refl;
      few = after.few;
      narrow = after.narrow;
    }
