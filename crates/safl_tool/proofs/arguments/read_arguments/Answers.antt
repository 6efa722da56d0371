use Rattle.std.proofs.Common.{◌≡◌, ◌+◌, ◌<◌, List, length, map, string_bytes, refl, subst, sym, ◌∙◌, arith, inr}
use Rattle.safl_word.specs.Words.{Word}
use Rattle.safl_word.proofs.Lists.{shown_at}
use Rattle.safl_tool.proofs.Reading.{ReadSoFar, read_more, all_read, unread, text_at, texts_long}
use Rattle.safl_tool.proofs.arguments.read_arguments.Goals as goal

pub returns-in-None-clause-refused : goal.returns-in-None-clause-refused
returns-in-None-clause-refused c =
    let same : length c.args.args.now ≡ length c.args.widths.now = c.if-args-widths.false in
    let here : c.arguments.i < length c.args.args.now = c.arguments-test.true in
    inr (
      refl,
      inr (unread c.args.widths.now (map string_bytes c.args.args.now) c.arguments.words.items c.arguments.i _ c.as_bytes.result.now (texts_long c.args.args.now ∙ same) c.arguments.invariant
          (shown_at c.args.widths.now c.arguments.i (omega (arith, here, same)) _ refl)
          (text_at c.args.args.now c.arguments.i c.index-args-i.result c.as_bytes.result.now here c.index-args-i.is c.as_bytes.ensures.value)
          c.in-None.ensures.none),
    )

pub arguments-preserved : goal.arguments-preserved
arguments-preserved c =
    let same : length c.args.args.now ≡ length c.args.widths.now = c.if-args-widths.false in
    let here : c.arguments.i < length c.args.args.now = c.arguments-test.true in
    subst (λ (l : List Word). ReadSoFar c.args.widths.now (map string_bytes c.args.args.now) l (c.arguments.i + 1)) (sym c.in-Ok.ensures.items)
    (read_more c.args.widths.now (map string_bytes c.args.args.now) c.arguments.words.items c.arguments.i _ c.as_bytes.result.now c.in-Some.word c.arguments.invariant
    (shown_at c.args.widths.now c.arguments.i (omega (arith, here, same)) _ refl)
    (text_at c.args.args.now c.arguments.i c.index-args-i.result c.as_bytes.result.now here c.index-args-i.is c.as_bytes.ensures.value)
    c.in-Some.ensures.read)

pub returns-clause-read : goal.returns-clause-read
returns-clause-read c =
    let same : length c.args.args.now ≡ length c.args.widths.now = c.if-args-widths.false in
    all_read c.args.widths.now (map string_bytes c.args.args.now) c.arguments.words.items c.arguments.i (texts_long c.args.args.now ∙ same)
    (let a = texts_long c.args.args.now in let b = c.arguments-test.false in let d = c.arguments.auto.i-end in omega (arith, a, b, d))
    c.arguments.invariant
