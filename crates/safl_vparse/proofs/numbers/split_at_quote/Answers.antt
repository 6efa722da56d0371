use Rattle.std.proofs.Common.{◌∙◌, ap, sym, drop, List, ℕ}
use Rattle.safl_word.proofs.Lists.{slice_rest}
use Rattle.safl_vparse.proofs.NumbersRead.{quote_parts}
use Rattle.safl_vparse.proofs.numbers.split_at_quote.Goals as goal

pub returns-clause-before : goal.returns-clause-before
returns-clause-before c = let k = quote_parts c.args.bytes.now c.quote_at-n.result c.quote_at-n.ensures in sym k.0

pub returns-clause-behind : goal.returns-clause-behind
returns-clause-behind c =
    let k = quote_parts c.args.bytes.now c.quote_at-n.result c.quote_at-n.ensures in
    c.without_first.ensures ∙ ap (λ (l : List ℕ). drop 1 l) (slice_rest c.args.bytes.now c.quote_at-n.result c.quote_at-n.ensures.within) ∙ sym k.1
