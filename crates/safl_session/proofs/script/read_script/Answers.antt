use Rattle.std.proofs.Common.{sym, subst, ◌+◌, refl}
use Rattle.safl_session.proofs.LinesOfScripts.{ScriptTo, script_none, script_more, script_fault, script_done, some_left, all_read}
use Rattle.safl_session.proofs.script.read_script.Goals as goal

pub lines-init : goal.lines-init
lines-init c = subst (λ l. ScriptTo c.args.widths.now c.args.bytes.now 0 l c.args.bytes.now) (sym c.new-words.ensures.items) (script_none c.args.widths.now c.args.bytes.now)

pub lines-preserved : goal.lines-preserved
lines-preserved c =
    let some = some_left c.lines.rest.now c.is_empty.result c.is_empty.ensures c.lines-test.true in
    script_more c.args.widths.now c.args.bytes.now c.lines.calls c.lines.words.items c.lines.rest.now c.cut.result.0.now c.cut.result.1.now
    c.lines.invariant some c.cut.ensures c.read_line.new.words.items c.in-Ok.ensures.read

pub returns-in-Err-clause-refused : goal.returns-in-Err-clause-refused
returns-in-Err-clause-refused c =
    let some = some_left c.lines.rest.now c.is_empty.result c.is_empty.ensures c.lines-test.true in
    script_fault c.args.widths.now c.args.bytes.now c.lines.calls c.lines.words.items c.lines.rest.now c.cut.result.0.now c.cut.result.1.now
    c.lines.invariant some c.cut.ensures (c.lines.calls + 1) c.in-Err.refused refl c.in-Err.ensures.refused

pub returns-clause-read : goal.returns-clause-read
returns-clause-read c =
    script_done c.args.widths.now c.args.bytes.now c.lines.calls c.lines.words.items c.lines.rest.now c.lines.invariant
    (all_read c.lines.rest.now c.is_empty.result c.is_empty.ensures c.lines-test.false)
