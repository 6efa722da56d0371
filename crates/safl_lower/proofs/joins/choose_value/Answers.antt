use Rattle.safl_lower.proofs.Common.{IsSource, Never, Val, Wired, is_ready, on}
use Rattle.std.proofs.Common.{◌≡◌, true, cond}
use Rattle.safl_lower.proofs.Kept.{weaker}
use Rattle.safl_lower.proofs.joins.choose_value.Goals as goal

pub returns-in_default : goal.returns-in_default
returns-in_default c =
    let e = c.mux.ensures in
    let r = c.mux.result in
    let m = c.mux.new.net in
    record {
      built = e.built;
      fits = λ w y n. weaker r (λ s. IsSource m s w) (λ s. ((c.args.yes.ready ≡ Never) × (c.args.no.ready ≡ Never) → ⊥) → IsSource m s w) (λ s h k. h)
          (e.fits w (y.width c.in_default.not-Never-0) (n.width c.in_default.not-Never-1));
      value = weaker r (λ s. (v : Val) → Wired m v → v s.0 ≡ cond (on v c.args.c) (v c.args.yes.value.0) (v c.args.no.value.0))
          (λ s. (v : Val) → Wired m v → cond (on v c.args.c) (is_ready v c.args.yes.ready) (is_ready v c.args.no.ready) ≡ true → v s.0 ≡ cond
          (on v c.args.c) (v c.args.yes.value.0) (v c.args.no.value.0)) (λ s h v w k. h v w) e.value;
    }
