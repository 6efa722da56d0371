use Rattle.safl_probe.proofs.Common.{cases_lt, false≢true, lower_or_last, probe_at}
use Rattle.std.proofs.Common.{◌≡◌, ℕ, ◌+◌, ◌<◌, ◌≤◌, List, map, get_or, length, refl, sym, subst, ◌∙◌, inl, inr, arith}
use Rattle.std.proofs.lemmas.List.{length-map, get_or_past}
use Rattle.safl_probe.specs.Probing.{ProbeState, IsWaiting, fresh}
use Rattle.safl_probe.proofs.Telling.{at_place}
use Rattle.safl_probe.proofs.begun.none_begun.Goals as goal

module _ (P : Type 0) (st : P → ProbeState) (ps : List P) where
  waits_more : (i : ℕ) (p : P) → i < length ps → p ≡ get_or ps i p → IsWaiting (st p) → ((k : ℕ) → k < i → IsWaiting (probe_at (map st ps) k))
      → (k : ℕ) → k < i + 1 → IsWaiting (probe_at (map st ps) k)
  waits_more i p lt is here all k below =
      elim (lower_or_last k i below) [
        | inl lower ↦ all k lower
        | inr e ↦ subst (λ j. IsWaiting (probe_at (map st ps) j)) (sym e) (subst (λ (s : ProbeState). IsWaiting s) (sym (at_place P st ps i p lt is)) here)
      ]

  all_wait : (i : ℕ) → length ps ≤ i → ((k : ℕ) → k < i → IsWaiting (probe_at (map st ps) k)) → (k : ℕ) → IsWaiting (probe_at (map st ps) k)
  all_wait i long all k =
      elim (cases_lt k i) [
        | inl lower ↦ all k lower
        | inr past ↦
            let e = length-map ps st in
            subst (λ (s : ProbeState). IsWaiting s) (sym (get_or_past (map st ps) k (fresh 0) (omega (arith, e, long, past)))) refl
      ]

pub probes-preserved : goal.probes-preserved
probes-preserved g c =
    waits_more _ (λ p. (goal.Probe-dyn g (p.vtable, p.value)).state p.value) c.args.probes.now c.probes.i c.index-probes-i.result c.probes-test.true c.index-probes-i.is
    (c.is_waiting.ensures.0 c.if-not-is_waiting.false) c.probes.invariant

pub returns-then-not-is_waiting : goal.returns-then-not-is_waiting
returns-then-not-is_waiting g c = (
  λ e. absurd (false≢true e),
  λ all.
      let here : probe_at (map (λ p. (goal.Probe-dyn g (p.vtable, p.value)).state p.value) c.args.probes.now) c.probes.i
      ≡ (goal.Probe-dyn g (c.index-probes-i.result.vtable, c.index-probes-i.result.value)).state c.index-probes-i.result.value =
      at_place _ (λ p. (goal.Probe-dyn g (p.vtable, p.value)).state p.value) c.args.probes.now c.probes.i c.index-probes-i.result c.probes-test.true c.index-probes-i.is in
      sym c.if-not-is_waiting.true ∙ c.is_waiting.ensures.1 (subst (λ (s : ProbeState). IsWaiting s) here (all c.probes.i)),
)

pub returns : goal.returns
returns g c = (
  λ e. all_wait _ (λ p. (goal.Probe-dyn g (p.vtable, p.value)).state p.value) c.args.probes.now c.probes.i c.probes-test.false c.probes.invariant,
  λ all. refl,
)
