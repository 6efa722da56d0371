-- The state that the code keeps, from one event to the next.
use Rattle.safl_core.proofs.Common.{Answer, CheckedProgram, IsKnown, IsSpan, Program, Span, Word, state_of}
use Rattle.std.proofs.Common.{◌≡◌, ◌<◌, ◌≢◌, ℕ, ◌+◌, List, Option, None, get_or, slice_set, refl, sym, ap, ◌∙◌, subst, arith}
use Rattle.safl_calls.specs.Machine as core
use Rattle.safl_core.specs.declared.mode.Mode.{Mode}
use Rattle.safl_evaluate.specs.declared.stage.Stage.{Stage}
use Rattle.safl_core.specs.declared.state.State.{State}
use Rattle.safl_core.specs.Shown.{shown_of}
use Rattle.safl_core.specs.States.{IsStateAfter, CanRefresh, ChangesWithin, EndsBody, Steps, Refreshes, Leads, Knows, calls_of}
use Rattle.safl_core.proofs.KeptByEvents.{next_reached, next_member, next_back}

-- after the step of an event each unit may be looked at anew
pub can_refresh : (c : CheckedProgram) (args : List Word) (n : ℕ) (s t : State) (h : IsStateAfter c args n s) (e : core.Event) → core.Enabled c.program args (calls_of s) e
    → (later : core.State) → Steps c.program s t later → later ≡ core.fire c.program args (calls_of s) e → (u : ℕ) → u < c.program.functions → CanRefresh c u t
can_refresh c args n s t h e can later step is u lt = record {
  checked = h.checked;
  unit = lt;
  sized = step.sized;
  member = next_member h e can t.modes.items t.stages.items (step.next ∙ is) u;
  back = next_back h e can t.modes.items t.stages.items (step.next ∙ is);
}

-- what is kept of a unit of which a step is not seen
pub known_after : (C : Program) (s t : State) (later : core.State) (v : ℕ) → Steps C s t later → IsKnown C later s.answers.items s.wants.each.items v → Knows C t v
known_after C s t later v step h =
    subst (λ x. IsKnown C x t.answers.items t.wants.each.items v) (sym step.next)
    (subst (λ (x : List Answer). IsKnown C later x t.wants.each.items v) (sym step.answers)
    (subst (λ (x : List (Option (List Word))). IsKnown C later s.answers.items x v) (sym step.wants) h))

-- what is kept after a unit was looked at anew
pub known_as : (C : Program) (s r : State) (u : ℕ) (a : Answer) (v : ℕ) → r.modes.items ≡ s.modes.items → r.stages.items ≡ s.stages.items → r.answers.items ≡ slice_set s.answers.items u a
    → IsKnown C (calls_of s) (slice_set s.answers.items u a) r.wants.each.items v → IsKnown C (calls_of r) r.answers.items r.wants.each.items v
known_as C s r u a v modes stages answers h =
    subst (λ (x : List Mode). IsKnown C (state_of x r.stages.items) r.answers.items r.wants.each.items v) (sym modes)
    (subst (λ (x : List Stage). IsKnown C (state_of s.modes.items x) r.answers.items r.wants.each.items v) (sym stages)
    (subst (λ (x : List Answer). IsKnown C (calls_of s) x r.wants.each.items v) (sym answers) h))

-- a step, and the unit that sees it looked at anew
pub leads : (c : CheckedProgram) (args : List Word) (e : core.Event) (touched : Span) (s t r : State) (later : core.State) (u : ℕ)
    → Steps c.program s t later → Refreshes c.program u touched t r → later ≡ core.fire c.program args (calls_of s) e
    → ((v : ℕ) → EndsBody c.program e v → IsSpan c.program v touched) → ((v : ℕ) → v ≢ u → IsKnown c.program later s.answers.items s.wants.each.items v) → Leads c args e touched s r
leads c args e touched s t r later u step anew is ends others = record {
  next = ap (λ (x : List Mode). state_of x r.stages.items) anew.modes ∙ (ap (λ (x : List Stage). state_of t.modes.items x) anew.stages ∙ (step.next ∙ is));
  known = λ v. anew.known v (λ ne. known_after c.program s t later v step (others v ne));
  wants = subst (λ (x : List (Option (List Word))). ChangesWithin c.program touched x r.wants.each.items) step.wants anew.wants;
  ended = ends;
  sized = anew.sized;
}

-- a step of which no unit sees anything
pub leads_unseen : (c : CheckedProgram) (args : List Word) (e : core.Event) (touched : Span) (s t : State) (later : core.State) → touched.end ≡ 1
    → Steps c.program s t later → later ≡ core.fire c.program args (calls_of s) e → ((v : ℕ) → EndsBody c.program e v → ⊥)
    → ((v : ℕ) → IsKnown c.program later s.answers.items s.wants.each.items v) → Leads c args e touched s t
leads_unseen c args e touched s t later none step is ends others = record {
  next = step.next ∙ is;
  known = λ v. known_after c.program s t later v step (others v);
  wants = record {
    most = omega (arith, none);
    others = λ k pos le out. ap (λ (x : List (Option (List Word))). get_or x k None) step.wants;
  };
  ended = λ v q. absurd (ends v q);
  sized = step.sized;
}

pub keeps_next : (c : CheckedProgram) (args : List Word) (n : ℕ) (touched : Span) (s t : State) (h : IsStateAfter c args n s) (e : core.Event) → core.Enabled c.program args (calls_of s) e
    → Leads c args e touched s t → IsStateAfter c args (n + 1) t
keeps_next c args n touched s t h e can l = record {
  checked = h.checked;
  units = l.sized.units;
  sites = l.sized.sites;
  answers_all = l.sized.answers;
  wants_all = l.sized.wants;
  given = h.given;
  room_all = l.sized.room;
  reached = next_reached h e can t.modes.items t.stages.items l.next (shown_of c args t.modes.items t.stages.items (n + 1)) refl refl refl refl;
  known = l.known;
}
