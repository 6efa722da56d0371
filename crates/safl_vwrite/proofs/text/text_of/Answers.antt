use Rattle.std.proofs.Common.{ℕ, List, ◌≤◌, ◌≡◌, ◌∙◌, length, sym, subst, rules}
use Rattle.safl_net.specs.Written.{written}
use Rattle.safl_vwrite.specs.Sizes.{text_max}
use Rattle.safl_vwrite.proofs.Lengths.{written_short}
use Rattle.safl_vwrite.proofs.Tearing.{torn}
use Rattle.safl_vwrite.proofs.text.text_of.Goals as goal

pub returns-clause-short : goal.returns-clause-short
unfolding written
returns-clause-short c =
    let whole : c.push.new.out.items ≡ written c.args.net.now = search rules in
    subst (λ (l : List ℕ). length l ≤ text_max c.args.net.now) (sym whole) (written_short c.args.net.now c.signals-signals.ensures.netlist)

pub returns-clause-torn : goal.returns-clause-torn
unfolding written
returns-clause-torn c = λ part rest e.
    let whole : c.push.new.out.items ≡ written c.args.net.now = search rules in
    torn c.no_shorter_text_law.ensures c.args.net.now c.signals-signals.ensures.netlist part rest (sym whole ∙ e)
