use Rattle.safl_sites.proofs.Common.{SiteSet, cases_eq, cases_lt, get_or-set_at, get_or-set_other}
use Rattle.std.proofs.Common.{◌≡◌, ◌/◌, ◌%◌, ◌<◌, ◌^◌, ◌*◌, ◌⊎◌, Bool, true, length, get_or, slice_set, bit_and, bit_or, arith, sym, ◌∙◌, ap, subst, inl, inr, w64}
use Rattle.std.specs.Int.{bit_not}
use Rattle.safl_sites.specs.SiteSets.{has, Has, Adds, IsCommon}
use Rattle.safl_sites.proofs.SetsByWords.{has_common, has_words, has_within}
use Rattle.safl_sites.proofs.site_set.SiteSet.add_common.Goals as goal
use Rattle.safl_sites.proofs.site_set.SiteSet.add_common.Goals.{then-i-except, else-i-except}

pub loop-i-preserved : goal.loop-i-preserved
loop-i-preserved c =
    let r = c.args.self.now in
    let s = c.loop-i.self in
    let a = c.args.a.now in
    let b = c.args.b.now in
    let e = c.args.except in
    let i = c.loop-i.i in
    let common = c.if-i-except.common in
    let words = slice_set s.words i (bit_or (get_or s.words i 0) common) in
    let next : SiteSet = record { words = words } in
    record {
      below = λ k less. elim (cases_eq (k / 64) i) [
        | inl f ↦
            let set : get_or words (k / 64) 0 ≡ bit_or (get_or s.words i 0) common = get_or-set_at s.words i (k / 64) _ 0 f (omega arith) in
            let old : get_or s.words i 0 ≡ get_or r.words (k / 64) 0 = c.loop-i.invariant.above i (omega arith) ∙ ap (λ n. get_or r.words n 0) (sym f) in
            let which : ((k / 64 ≡ e / 64 → ⊥) × (common ≡ bit_and (get_or a.words (k / 64) 0) (get_or b.words (k / 64) 0))) ⊎
            ((k / 64 ≡ e / 64) × (common ≡ bit_and (bit_and (get_or a.words (k / 64) 0) (get_or b.words (k / 64) 0))
            (bit_not w64 (1 * 2 ^ (e % 64) % 2 ^ 64)))) = elim c.if-i-except.branch [
              | then-i-except w ↦ inr (f ∙ w.if-i-except.true, w.common-is ∙ ap (λ n. bit_and (bit_and (get_or a.words n 0) (get_or b.words n 0)) (bit_not w64 (1 * 2 ^ (e % 64) % 2 ^ 64))) (sym f))
              | else-i-except w ↦ inl (λ q. w.if-i-except.false (sym f ∙ q), w.common-is ∙ ap (λ n. bit_and (get_or a.words n 0) (get_or b.words n 0)) (sym f))
            ] in
            has_common r a b next e k common (set ∙ ap (λ w. bit_or w common) old) which
        | inr f ↦
            let same : has next k ≡ has s k = has_words next s k (get_or-set_other s.words i (k / 64) _ 0 f) in
            subst (λ (v : Bool). Adds (Has r k) (v ≡ true) (IsCommon a b e k)) (sym same) (c.loop-i.invariant.below k (omega arith))
      ];
      above = λ m le. get_or-set_other s.words i m _ 0 (λ f. absurd (omega arith)) ∙ c.loop-i.invariant.above m (omega arith);
    }

pub returns : goal.returns
returns c = λ k.
    let r = c.args.self.now in
    let s = c.loop-i.self in
    let a = c.args.a.now in
    elim (cases_lt (k / 64) c.loop-i.i) [
      | inl f ↦ c.loop-i.invariant.below k f
      | inr f ↦
          let same : has s k ≡ has r k = has_words s r k (c.loop-i.invariant.above (k / 64) f) in
          subst (λ (v : Bool). Adds (Has r k) (v ≡ true) (IsCommon a c.args.b.now c.args.except k)) (sym same)
          (record { splits = λ h. inl h; stays = λ h. h; joins = λ h. let w : k / 64 < length a.words = has_within a k h.first in absurd (omega arith) })
    ]
