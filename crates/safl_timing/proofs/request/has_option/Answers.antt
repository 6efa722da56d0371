use Rattle.std.proofs.Common.{sym, ap, ◌∙◌}
use Rattle.safl_timing.specs.Requests.{is_option}
use Rattle.safl_timing.proofs.Options as on
use Rattle.safl_timing.proofs.request.has_option.Goals as goal

pub returns-then-is_option : goal.returns-then-is_option
returns-then-is_option c =
    on.found c.args.words.now c.loop-word.word-index c.word-item.result c.loop-word-test.true c.word-item.is c.loop-word.invariant
    (sym (c.is_option.ensures ∙ ap is_option c.as_bytes.ensures.value) ∙ c.if-is_option.true)

pub loop-word-preserved : goal.loop-word-preserved
loop-word-preserved c =
    on.passed c.args.words.now c.loop-word.word-index c.word-item.result c.loop-word-test.true c.word-item.is c.loop-word.invariant
    (sym (c.is_option.ensures ∙ ap is_option c.as_bytes.ensures.value) ∙ c.if-is_option.false)

pub returns : goal.returns
returns c = sym (on.none_left c.args.words.now c.loop-word.word-index c.loop-word-test.false) ∙ c.loop-word.invariant
