use Rattle.std.proofs.Common.{sym, ap, ◌∙◌}
use Rattle.safl_vparse.specs.declared.front.Front.TheVariants as fronts
use Rattle.safl_vparse.proofs.Fronts.{word_found, word_long}
use Rattle.safl_vparse.proofs.front.word.Goals as goal

pub returns-then-n-le-NET_NAME_MAX : goal.returns-then-n-le-NET_NAME_MAX
returns-then-n-le-NET_NAME_MAX c = ap (λ k. fronts.Found k c.part_length-n.result) c.word_kind.ensures ∙ sym
    (word_found c.args.text.now c.part_length-n.result c.part_length-n.ensures c.if-n-le-NET_NAME_MAX.true)

pub returns-else-n-le-NET_NAME_MAX : goal.returns-else-n-le-NET_NAME_MAX
returns-else-n-le-NET_NAME_MAX c = sym (word_long c.args.text.now c.part_length-n.result c.part_length-n.ensures c.if-n-le-NET_NAME_MAX.false)
