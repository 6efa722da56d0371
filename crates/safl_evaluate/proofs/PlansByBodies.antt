-- The plan of a program, body after body.
use Rattle.safl_evaluate.proofs.Common.{Laid, Place, SameOutside, get_or-set_other, get_or-set_same}
use Rattle.std.proofs.Common.{◌≡◌, ℕ, suc, ◌+◌, ◌<◌, ◌≤◌, ◌⊎◌, List, length, get_or, slice_set, inl, inr, refl, sym, ap, subst, ⊎_elim, arith}
use Rattle.std.proofs.lemmas.Bool.{cases_lt}
use Rattle.safl_term.specs.Checked.{CheckedProgram, IsChecked}
use Rattle.safl_term.proofs.HeldByChecked.{nodes_rise}
use Rattle.safl_term.specs.Sizes.{nodes, body_nodes}
use Rattle.safl_evaluate.proofs.LaidByParts.{laid_still}

pub before_next : (c : CheckedProgram) (f : ℕ) → body_nodes c.program (suc f) ≡ body_nodes c.program f + nodes (c.program.body f)
unfolding body_nodes
before_next c f = refl

pub before_most : (c : CheckedProgram) → IsChecked c → (f : ℕ) → f ≤ c.program.functions → body_nodes c.program f ≤ 50000
before_most c h f l = omega (arith, nodes_rise c.program f c.program.functions l, h.limits.nodes)

none_before : (c : CheckedProgram) → 0 ≡ body_nodes c.program 0
unfolding body_nodes
none_before c = refl

-- the first bodies lie one after the other, before a place
pub record ArePlanned (c : CheckedProgram) (P : List Place) (bodies : List ℕ) (f at : ℕ) : Type 0 where
  pub count : at ≡ body_nodes c.program f
  pub laid : (g : ℕ) → g < f → Laid P (get_or bodies g 0) (c.program.body g)
  pub within : (g : ℕ) → g < f → get_or bodies g 0 + nodes (c.program.body g) ≤ at
  pub apart : (g h : ℕ) → g < h → h < f → get_or bodies g 0 + nodes (c.program.body g) ≤ get_or bodies h 0

pub planned_none : (c : CheckedProgram) (P : List Place) (bodies : List ℕ) → ArePlanned c P bodies 0 0
planned_none c P bodies = record {
  count = none_before c;
  laid = λ g lt. absurd (omega (arith, lt));
  within = λ g lt. absurd (omega (arith, lt));
  apart = λ g h lt l. absurd (omega (arith, l));
}

pub planned_next : (c : CheckedProgram) (P P' : List Place) (bodies : List ℕ) (f at next : ℕ) → ArePlanned c P bodies f at → f < c.program.functions → f < length bodies
    → Laid P' at (c.program.body f) → SameOutside at (at + nodes (c.program.body f)) P P' → next ≡ at + nodes (c.program.body f) → ArePlanned c P' (slice_set bodies f at) (suc f) next
planned_next c P P' bodies f at next h lt within laid outside is =
    let new : get_or (slice_set bodies f at) f 0 ≡ at = get_or-set_same bodies f at 0 within in
    let old : (g : ℕ) → g < f → get_or (slice_set bodies f at) g 0 ≡ get_or bodies g 0 = λ g l. get_or-set_other bodies f g at 0 (λ q. absurd (omega (arith, l, q))) in
    let split : (g : ℕ) → g < suc f → (g < f) ⊎ (g ≡ f) = λ g l. ⊎_elim (λ x. inl x) (λ x. inr (omega (arith, x, l))) (cases_lt g f) in
    record {
      count = omega (arith, is, h.count, before_next c f);
      laid = λ g l. ⊎_elim
          (λ x. subst (λ (i : ℕ). Laid P' i (c.program.body g)) (sym (old g x)) (laid_still (get_or bodies g 0) (c.program.body g) outside (inl (h.within g x)) (h.laid g x)))
          (λ e. subst (λ (j : ℕ). Laid P' (get_or (slice_set bodies f at) j 0) (c.program.body j)) (sym e) (subst (λ (i : ℕ). Laid P' i (c.program.body f)) (sym new) laid))
          (split g l);
      within = λ g l. ⊎_elim
          (λ x. omega (arith, old g x, h.within g x, is))
          (λ e. omega (arith, ap (λ (j : ℕ). get_or (slice_set bodies f at) j 0) e, ap (λ (j : ℕ). nodes (c.program.body j)) e, new, is))
          (split g l);
      apart = λ g j l m. ⊎_elim
          (λ x. omega (arith, old g (omega (arith, l, x)), old j x, h.apart g j l x))
          (λ e. let first : g < f = omega (arith, l, e) in omega (arith, old g first, h.within g first, ap (λ (i : ℕ). get_or (slice_set bodies f at) i 0) e, new))
          (split j m);
    }
