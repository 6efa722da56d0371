-- Writes of modes and stages, as steps of the state.
use Rattle.safl_core.proofs.Common.{IsSpan, Program, Span, fun_ext, idle_mode, mode_of, stage_at, stage_of, unit_at}
use Rattle.std.proofs.Common.{◌≡◌, ◌≢◌, ℕ, zero, suc, ◌+◌, ◌<◌, ◌≤◌, Bool, true, false, List, length, cond, eqb, slice_set, refl, sym, ap, ◌∙◌, subst, ⊎_elim, arith}
use Rattle.std.proofs.lemmas.Bool.{cases_eq, eq-eqb, ne_eqb, cases_lt}
use Rattle.std.proofs.lemmas.List.{get_or-set_other, get_or-set_same, get_or_past}
use Rattle.safl_term.specs.Readiness as plain
use Rattle.safl_calls.specs.Machine as core
use Rattle.safl_calls.specs.Machine.{State, put, ended}
use Rattle.safl_core.specs.declared.mode.Mode as modes_declared
use Rattle.safl_evaluate.specs.declared.stage.Stage as stages_declared

pub unit_put : (modes : List modes_declared.Mode) (u : ℕ) (m : modes_declared.Mode) → u < length modes → unit_at (slice_set modes u m) ≡ put (unit_at modes) u (mode_of m)
unit_put modes u m lt = fun_ext (λ v. ⊎_elim (λ same. at v same) (λ other. off v other) (cases_eq u v))
  where
    at : (v : ℕ) → u ≡ v → unit_at (slice_set modes u m) v ≡ put (unit_at modes) u (mode_of m) v
    at v same = subst (λ n. unit_at (slice_set modes u m) n ≡ put (unit_at modes) u (mode_of m) n) same
        (ap mode_of (get_or-set_same modes u m idle_mode lt) ∙ sym (ap (λ b. cond b (mode_of m) (unit_at modes u)) (eq-eqb u u refl)))

    off : (v : ℕ) → (u ≡ v → ⊥) → unit_at (slice_set modes u m) v ≡ put (unit_at modes) u (mode_of m) v
    off v other = ap mode_of (get_or-set_other modes u v m idle_mode (λ q. other (sym q))) ∙ sym (ap (λ b. cond b (mode_of m) (unit_at modes v)) (ne_eqb u v other))

pub stage_put : (stages : List stages_declared.Stage) (k : ℕ) (x : stages_declared.Stage) → k < length stages → stage_at (slice_set stages k x) ≡ put (stage_at stages) k (stage_of x)
stage_put stages k x lt = fun_ext (λ v. ⊎_elim (λ same. at v same) (λ other. off v other) (cases_eq k v))
  where
    at : (v : ℕ) → k ≡ v → stage_at (slice_set stages k x) v ≡ put (stage_at stages) k (stage_of x) v
    at v same = subst (λ n. stage_at (slice_set stages k x) n ≡ put (stage_at stages) k (stage_of x) n) same
        (ap stage_of (get_or-set_same stages k x stages_declared.TheVariants.Unsent lt) ∙ sym (ap (λ b. cond b (stage_of x) (stage_at stages k)) (eq-eqb k k refl)))

    off : (v : ℕ) → (k ≡ v → ⊥) → stage_at (slice_set stages k x) v ≡ put (stage_at stages) k (stage_of x) v
    off v other = ap stage_of (get_or-set_other stages k v x stages_declared.TheVariants.Unsent (λ q. other (sym q))) ∙ sym (ap (λ b. cond b (stage_of x) (stage_at stages v)) (ne_eqb k v other))

abbrev pub core_state : (ℕ → core.Mode) → (ℕ → plain.Stage) → State
core_state f a = record { unit = f; site = a }

pub state_is : (f g : ℕ → core.Mode) (a b : ℕ → plain.Stage) → f ≡ g → a ≡ b → core_state f a ≡ core_state g b
state_is f g a b e h = ap (λ x. core_state x a) e ∙ ap (core_state g) h

-- ---- the sites of a unit that ends

abbrev none : stages_declared.Stage
none = stages_declared.TheVariants.Unsent

module _ (C : Program) (u : ℕ) where
  off_ended : (f : ℕ → plain.Stage) (j : ℕ) → (0 < j → C.unit (C.caller j) ≢ u) → f j ≡ ended C u f j
  off_ended f zero ne = refl
  off_ended f (suc j) ne = sym (ap (λ b. cond b plain.Unsent (f (suc j))) (ne_eqb (C.unit (C.caller (suc j))) u (ne (omega arith))))

  unsent_ended : (f : ℕ → plain.Stage) (j : ℕ) → f j ≡ plain.Unsent → ended C u f j ≡ plain.Unsent
  unsent_ended f zero e = e
  unsent_ended f (suc j) e = by (eqb (C.unit (C.caller (suc j))) u)
    where
      by : (b : Bool) → cond b plain.Unsent (f (suc j)) ≡ plain.Unsent
      by true = refl
      by false = e

  at_ended : (f : ℕ → plain.Stage) (j : ℕ) → 0 < j → C.unit (C.caller j) ≡ u → ended C u f j ≡ plain.Unsent
  at_ended f zero pos e = absurd (omega arith)
  at_ended f (suc j) pos e = ap (λ b. cond b plain.Unsent (f (suc j))) (eq-eqb (C.unit (C.caller (suc j))) u e)

  -- the sites before the unit's own
  pub end_front : (s : Span) → IsSpan C u s → (S : List stages_declared.Stage) (j : ℕ) → j < s.first → stage_at S j ≡ ended C u (stage_at S) j
  end_front s h S j lt = off_ended (stage_at S) j (λ pos q. absurd (omega (arith, (h.all j pos (omega (arith, lt, h.order, h.most)) q).0, lt)))

  -- one more of them
  pub end_site : (k : ℕ) (S0 S : List stages_declared.Stage) → ((j : ℕ) → j < k → stage_at S j ≡ ended C u (stage_at S0) j) → ((j : ℕ) → k ≤ j → stage_at S j ≡ stage_at S0 j)
      → k < length S → 0 < k → C.unit (C.caller k) ≡ u
      → ((j : ℕ) → j < k + 1 → stage_at (slice_set S k none) j ≡ ended C u (stage_at S0) j) × ((j : ℕ) → k + 1 ≤ j → stage_at (slice_set S k none) j ≡ stage_at S0 j)
  end_site k S0 S below above lt pos own = (
    λ j le. ⊎_elim
        (λ q. subst (λ n. stage_at (slice_set S k none) n ≡ ended C u (stage_at S0) n) (sym q) (ap stage_of (get_or-set_same S k none none lt) ∙ sym (at_ended (stage_at S0) k pos own)))
        (λ ne. ap stage_of (get_or-set_other S k j none none ne) ∙ below j (omega (arith, le, ne)))
        (cases_eq j k),
    λ j le. ap stage_of (get_or-set_other S k j none none (λ q. absurd (omega (arith, le, q)))) ∙ above j (omega (arith, le)),
  )

  -- and those after them
  pub end_back : (s : Span) → IsSpan C u s → (k : ℕ) (S0 S : List stages_declared.Stage) → length S0 ≡ suc C.sites → s.end ≤ k →
      ((j : ℕ) → j < k → stage_at S j ≡ ended C u (stage_at S0) j) → ((j : ℕ) → k ≤ j → stage_at S j ≡ stage_at S0 j)
      → (j : ℕ) → stage_at S j ≡ ended C u (stage_at S0) j
  end_back s h k S0 S long le below above j = ⊎_elim (below j) (λ ge. above j ge ∙ ⊎_elim (within ge) past (cases_lt j (suc C.sites))) (cases_lt j k)
    where
      within : k ≤ j → j < suc C.sites → stage_at S0 j ≡ ended C u (stage_at S0) j
      within ge lt = off_ended (stage_at S0) j (λ pos q. absurd (omega (arith, (h.all j pos (omega (arith, lt)) q).1, ge, le)))

      past : suc C.sites ≤ j → stage_at S0 j ≡ ended C u (stage_at S0) j
      past ge = let e : stage_at S0 j ≡ plain.Unsent = ap stage_of (get_or_past S0 j none (omega (arith, long, ge))) in e ∙ sym (unsent_ended (stage_at S0) j e)
