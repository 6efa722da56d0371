use Rattle.safl_sites.proofs.Common.{cases_lt, get_or_past}
use Rattle.std.proofs.Common.{◌/◌, ◌≤◌, length, get_or, bit_or, arith, sym, ◌∙◌, ap, inl, inr}
use Rattle.std.specs.Int.Bits.{or_zero_r}
use Rattle.safl_sites.proofs.SetsByWords.{has-union}
use Rattle.safl_sites.proofs.site_set.SiteSet.union.Goals as goal

pub returns : goal.returns
returns c = λ j.
    has-union c.args.self.now c.args.other.now c.loop-i.self j
    (elim (cases_lt (j / 64) c.loop-i.i) [
      | inl h ↦ c.loop-i.invariant.below (j / 64) h
      | inr h ↦
          let past : length c.args.other.now.words ≤ j / 64 = omega arith in
          c.loop-i.invariant.above (j / 64) h ∙ (sym (or_zero_r (get_or c.args.self.now.words (j / 64) 0)) ∙ ap
          (bit_or (get_or c.args.self.now.words (j / 64) 0)) (sym (get_or_past c.args.other.now.words (j / 64) 0 past)))
    ])
