use Rattle.safl_vread.proofs.Common.{IsUtf8, List, rules, subst, sym, ℕ}
use Rattle.safl_vread.proofs.GoodNames.{good_text}
use Rattle.safl_vread.proofs.make.declare_one.Goals as goal

pub unreachable-requires : goal.unreachable-requires
unreachable-requires c =
    let text : IsUtf8 c.bytes_of.result.now = subst (λ (w : List ℕ). IsUtf8 w) (sym c.bytes_of.ensures) (good_text _ c.requires.good) in
    search (rules, text)
