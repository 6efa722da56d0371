-- What is kept of partial evaluation, after a unit's body was looked at anew.
use Rattle.safl_core.proofs.Common.{Answer, CheckedProgram, IsChecked, IsSpan, NotYet, Numbered, Program, Span, Word, cases_eq, eq-eqb}
use Rattle.safl_core.proofs.Common.{get_or-set_other, get_or-set_same, ne_eqb, widths}
use Rattle.std.proofs.Common.{◌≡◌, ◌≢◌, ℕ, suc, ◌<◌, ◌≤◌, List, length, cond, eqb, Option, None, true, get_or, slice_set, sym, ap, ◌∙◌, subst, ⊎_elim, arith}
use Rattle.safl_term.specs.WellFormed.{HasWidth}
use Rattle.safl_calls.specs.Machine.{State, back, says, asked_as}
use Rattle.safl_evaluate.specs.declared.stage.Stage.{Stage}
use Rattle.safl_evaluate.specs.Evaluating.{CanRun, Unasked}
use Rattle.safl_core.specs.Knowing.{IsKnown, BackFits}
use Rattle.safl_core.specs.States.{ChangesWithin}

-- a function's body may be evaluated with arguments of the widths of its parameters
pub body_can : (c : CheckedProgram) (S : List Stage) (n : ℕ) (E : List Word) (f : ℕ) → IsChecked c → f < c.program.functions → widths E ≡
    c.program.params f → BackFits c.program S → length S ≡ suc c.program.sites → n ≡ suc c.program.sites → CanRun S n E (c.program.body f)
body_can c S n E f checked lt fits back sites places =
    let C = c.program in
    let b = checked.formed.numbered.bodies f in
    record {
      program = C;
      caller = f;
      tail = true;
      low = b.0;
      high = b.1;
      width = C.result f;
      spans = b.3;
      fits = subst (λ l. HasWidth C l (C.body f) (C.result f)) (sym fits) (checked.formed.widths f lt);
      first = b.2;
      within = omega (arith, checked.formed.sites f lt, places);
      all_sites = omega (arith, sites, places);
      few = checked.limits.params;
      back = back;
    }

module _ (C : Program) (s : State) (u : ℕ) (answers : List Answer) (asks asks1 : List (Option (List Word))) (r : Answer) where
  -- the sites of the unit are wanted as its body wants them, and those of other units as before
  pub refreshed : ((k : ℕ) → 0 < k → k ≤ C.sites → C.unit (C.caller k) ≡ u → get_or asks1 k None ≡ asked_as C (back s) (s.unit u) (C.caller k) k)
      → ((k : ℕ) → 0 < k → k ≤ C.sites → (C.unit (C.caller k) ≡ u → ⊥) → get_or asks1 k None ≡ get_or asks k None)
      → r ≡ says C s u → u < length answers
      → (v : ℕ) → (v ≢ u → IsKnown C s answers asks v) → IsKnown C s (slice_set answers u r) asks1 v
  refreshed here off is lt v before = ⊎_elim same other (cases_eq v u)
    where
      same : v ≡ u → IsKnown C s (slice_set answers u r) asks1 v
      same e = subst (λ n. IsKnown C s (slice_set answers u r) asks1 n) (sym e) (record { outcome = get_or-set_same answers u r NotYet lt ∙ is; wants = here })

      other : (v ≡ u → ⊥) → IsKnown C s (slice_set answers u r) asks1 v
      other ne =
          let h = before ne in
          record {
            outcome = get_or-set_other answers u v r NotYet ne ∙ h.outcome;
            wants = λ k pos le on. off k pos le (λ q. ne (sym on ∙ q)) ∙ h.wants k pos le on;
          }

-- the sites of other units are wanted as before
pub others_stay : (C : Program) (u : ℕ) (own : Span) (asks asks1 : List (Option (List Word))) → IsSpan C u own
    → ((k : ℕ) → 0 < k → k ≤ C.sites → (C.unit (C.caller k) ≡ u → ⊥) → get_or asks1 k None ≡ get_or asks k None) → ChangesWithin C own asks asks1
others_stay C u own asks asks1 span off = record {
  most = span.most;
  others = λ k pos le out. off k pos le (λ q. out (span.all k pos le q).0 (span.all k pos le q).1);
}

-- a unit that was cleared: its sites are not asked for, and those of other units as before
module _ (C : Program) (u : ℕ) (asks asks1 : List (Option (List Word)))
    (clears : (k : ℕ) → 0 < k → k ≤ C.sites → get_or asks1 k None ≡ cond (eqb (C.unit (C.caller k)) u) None (get_or asks k None)) where
  pub cleared_here : (k : ℕ) → 0 < k → k ≤ C.sites → C.unit (C.caller k) ≡ u → get_or asks1 k None ≡ None
  cleared_here k pos le on = clears k pos le ∙ ap (λ b. cond b None (get_or asks k None)) (eq-eqb (C.unit (C.caller k)) u on)

  pub cleared_off : (k : ℕ) → 0 < k → k ≤ C.sites → (C.unit (C.caller k) ≡ u → ⊥) → get_or asks1 k None ≡ get_or asks k None
  cleared_off k pos le apart = clears k pos le ∙ ap (λ b. cond b None (get_or asks k None)) (ne_eqb (C.unit (C.caller k)) u apart)

-- no site of a unit's body is asked for where what it asked for was forgotten
pub cleared_unasked : (C : Program) (u f : ℕ) (asks : List (Option (List Word))) → Numbered C → f < C.functions → C.unit f ≡ u
    → ((k : ℕ) → 0 < k → k ≤ C.sites → C.unit (C.caller k) ≡ u → get_or asks k None ≡ None) → Unasked asks (C.body f)
cleared_unasked C u f asks good lt is cleared = record {
  none = λ k st.
      let own = good.own f k lt st in
      cleared k own.0 own.1 (ap C.unit own.2 ∙ is);
}
