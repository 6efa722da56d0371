use Rattle.safl_probe.proofs.Common.{List, Signal, arith, drop_suc, refl, watched_all, ℕ, ◌++◌}
use Rattle.safl_probe.specs.Watching.{group_from, one_watched}
use Rattle.safl_probe.proofs.Rest.{rest_more, rest_none}
use Rattle.safl_probe.proofs.Looks.{signal_there}
use Rattle.safl_probe.proofs.look.watch_group.Goals as goal

pub signals-preserved : goal.signals-preserved
signals-preserved c =
    let n = c.args.net.now in
    let i = c.signals.i in
    rest_more (λ (k : ℕ) (gs : List Signal). group_from c.args.group gs k) (λ (k : ℕ) (g : Signal). one_watched c.args.group g k) (λ k. refl) (λ k g gs. refl)
    n.signals i _ (watched_all c.signals.entries.items) (watched_all c.watch_signal.new.entries.items) (watched_all c.args.entries.now.items ++ group_from c.args.group n.signals 0)
    (drop_suc n.signals i _ (signal_there n i (let a = c.signals-test.true in let b = c.signals-i-end.ensures.count in omega (arith, a, b))))
    c.signals.invariant c.in_ok-watch_signal.ensures

pub returns : goal.returns
returns c =
    let n = c.args.net.now in
    rest_none (λ (k : ℕ) (gs : List Signal). group_from c.args.group gs k) (λ (k : ℕ) (g : Signal). one_watched c.args.group g k) (λ k. refl) (λ k g gs. refl)
    n.signals c.signals.i (watched_all c.signals.entries.items) (watched_all c.args.entries.now.items ++ group_from c.args.group n.signals 0)
    (let a = c.signals-test.false in let b = c.signals-i-end.ensures.count in omega (arith, a, b)) c.signals.invariant
