use Rattle.std.proofs.Common.{◌∙◌, arith}
use Rattle.safl_typing.proofs.FunctionsByName.{keeps_next}
use Rattle.safl_typing.proofs.heads.Heads.new.Goals as goal

pub loop-number-preserved : goal.loop-number-preserved
loop-number-preserved c =
    keeps_next c.loop-number.last.entries c.insert.new.self.entries c.loop-number.before.items c.push.new.self.items c.args.list.items
    c.loop-number.number c.index.result.now c.in_ok-name.name c.in_ok-insert.field-0
    (omega (arith, c.loop-number-test.true, c.len-number-end.ensures)) c.index.ensures (c.in_ok-name.ensures.items ∙ c.bytes.ensures.bytes)
    c.loop-number.invariant c.in_ok-insert.ensures.entries c.in_ok-insert.ensures.old c.in_ok-push.ensures.items
