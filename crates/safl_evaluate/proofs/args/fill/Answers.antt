use Rattle.std.proofs.Common.{rules, ◌≡◌, ◌<◌, List, length, take, ◌∷◌, ◌++◌, [], get_or, ap, sym, ◌∙◌, arith}
use Rattle.std.proofs.lemmas.List.{take_more, take_more_set}
use Rattle.safl_word.specs.Words.{Word}
use Rattle.safl_evaluate.proofs.args.fill.Goals as goal

pub loop-i-preserved : goal.loop-i-preserved
loop-i-preserved c =
    let i = c.loop-i.i in
    let word = c.index-words-i.result in
    let within : i < length c.args.words.now = omega (arith, c.loop-i-test.true) in
    let room : i < length c.loop-i.env = omega (arith, c.requires, c.loop-i.auto.env, within) in
    let here : get_or c.args.words.now i word ≡ word = search (rules, c.index-words-i) in
    take_more_set c.loop-i.env i word room ∙ (ap (λ (xs : List Word). xs ++ word ∷ []) c.loop-i.invariant
    ∙ (ap (λ (w : Word). take i c.args.words.now ++ w ∷ []) (sym here) ∙ sym (take_more c.args.words.now i word within)))
