-- The members of a unit, and the sites in their bodies.
use Rattle.safl_core.proofs.Common.{CheckedProgram, IsChecked, Span, cases_eq, cases_lt}
use Rattle.std.proofs.Common.{◌≡◌, ℕ, zero, suc, ◌<◌, ◌≤◌, ◌⊎◌, inl, inr, sym, ◌∙◌, subst, ⊎_elim, arith}
use Rattle.safl_term.proofs.HeldByChecked.{first_site_rises, first_site_past}
use Rattle.safl_sites.proofs.NumbersFollow.{sited}
use Rattle.safl_core.specs.Spans.{EndsMembers, IsSpan}

module _ (p : CheckedProgram) (h : IsChecked p) where
  rises : (f g : ℕ) → f ≤ g → g ≤ p.program.functions → p.first_site f ≤ p.first_site g
  rises f zero le within = let e : f ≡ 0 = omega arith in subst (λ n. p.first_site n ≤ p.first_site 0) (sym e) (omega arith)
  rises f (suc g) le within = ⊎_elim
      (λ e. subst (λ n. p.first_site n ≤ p.first_site (suc g)) (sym e) (omega arith))
      (λ ne. let a = rises f g (omega (arith, le, ne)) (omega (arith, within)) in let b = first_site_rises p g h (omega (arith, within)) in omega (arith, a, b))
      (cases_eq f (suc g))

  -- where the first function that is no member of the unit follows
  pub ends_members : (u end : ℕ) → u ≤ end → end ≤ p.program.functions → ((f : ℕ) → u ≤ f → f < end → p.program.unit f ≡ u) →
      (p.program.unit end ≡ u → end < p.program.functions → ⊥)
      → EndsMembers p.program u end
  ends_members u end above most members stop = record {
    above = above;
    most = most;
    members = members;
    all = λ f lt is.
        let low = (h.formed.first f lt).0 in
        (omega (arith, low, is), inside f lt is (cases_lt f end));
  }
    where
      inside : (f : ℕ) → f < p.program.functions → p.program.unit f ≡ u → (f < end) ⊎ (end ≤ f) → f < end
      inside f lt is (inl l) = l
      inside f lt is (inr g) = absurd (stop (h.groups end f lt (omega (arith, is, above)) g ∙ is) (omega (arith, g, lt)))

  pub span_of : (u end : ℕ) (s : Span) → u < p.program.functions → s.first ≡ p.first_site u → s.end ≡ p.first_site end → EndsMembers p.program u end → IsSpan p.program u s
  span_of u end s lt first last e = record {
    least = let a = rises 0 u (omega arith) (omega (arith, lt)) in omega (arith, a, h.first_site, first);
    order = let a = rises u end e.above e.most in omega (arith, a, first, last);
    most = let a = rises end p.program.functions e.most (omega arith) in omega (arith, a, first_site_past p, last);
    own = λ k a b.
        let low = rises 0 u (omega arith) (omega (arith, lt)) in
        let high = rises end p.program.functions e.most (omega arith) in
        let past = first_site_past p in
        let s0 = sited p h k (omega (arith, low, h.first_site, first, a)) (omega (arith, high, past, last, b)) in
        e.members (p.program.caller k) (from k a s0.within s0.below (cases_lt u (p.program.caller k))) (upto k b s0.within s0.from (cases_lt (p.program.caller k) end));
    all = λ k least most is.
        let s0 = sited p h k least most in
        let m = e.all (p.program.caller k) s0.within is in
        let a = rises u (p.program.caller k) m.0 (omega (arith, s0.within)) in
        let b = rises (suc (p.program.caller k)) end (omega (arith, m.1)) e.most in
        (omega (arith, first, a, s0.from), omega (arith, last, b, s0.below));
  }
    where
      from : (k : ℕ) → s.first ≤ k → p.program.caller k < p.program.functions → k < p.first_site (suc (p.program.caller k)) →
          (u < p.program.caller k) ⊎ (p.program.caller k ≤ u) → u ≤ p.program.caller k
      from k a within below (inl l) = omega (arith, l)
      from k a within below (inr g) = ⊎_elim
          (λ q. omega (arith, q))
          (λ ne. let r = rises (suc (p.program.caller k)) u (omega (arith, g, ne)) (omega (arith, lt)) in absurd (omega (arith, r, first, a, below)))
          (cases_eq (p.program.caller k) u)

      upto : (k : ℕ) → k < s.end → p.program.caller k < p.program.functions → p.first_site (p.program.caller k) ≤ k →
          (p.program.caller k < end) ⊎ (end ≤ p.program.caller k) → p.program.caller k < end
      upto k b within from (inl l) = l
      upto k b within from (inr g) = let r = rises end (p.program.caller k) g (omega (arith, within)) in absurd (omega (arith, r, last, b, from))
