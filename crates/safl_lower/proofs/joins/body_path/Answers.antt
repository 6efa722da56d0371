use Rattle.safl_lower.proofs.Common.{Val, Wired, holds_calls, is_ready, on, shown_term}
use Rattle.std.proofs.Common.{◌≡◌, ◌&&◌, true}
use Rattle.safl_lower.proofs.Kept.{weaker}
use Rattle.safl_lower.proofs.joins.body_path.Goals as goal

pub returns-then-holds_calls : goal.returns-then-holds_calls
returns-then-holds_calls c =
    let e = c.and_ready.ensures in
    let m = c.and_ready.new.net in
    record {
      built = e.built;
      fits = e.fits;
      value = weaker c.and_ready.result (λ s. (v : Val) → Wired m v → on v s ≡ (on v c.args.path && is_ready v c.args.bound))
          (λ s. holds_calls (shown_term c.args.body.now) ≡ true → (v : Val) → Wired m v → on v s ≡ (on v c.args.path && is_ready v c.args.bound)) (λ s h k. h) e.value;
    }
