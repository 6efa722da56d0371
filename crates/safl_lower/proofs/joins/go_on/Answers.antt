use Rattle.safl_lower.proofs.Common.{TailCall, ap, is_ready, on, or_else, went, words, ◌∙◌}
use Rattle.safl_lower.proofs.Kept.{went_end, goes_gate}
use Rattle.safl_lower.proofs.joins.go_on.Goals as goal

pub returns-clause-loops : goal.returns-clause-loops
returns-clause-loops c = λ v w.
    let e : TailCall = record { member = c.args.member; taken = c.in_ok-taken.taken; args = c.args.all.values } in
    ap (went v) c.in_ok-push.ensures.items
    ∙ went_end v c.args.out.now.loops.items e
    ∙ ap (or_else (went v c.args.out.now.loops.items)) (goes_gate c.args.member (words v c.args.all.values.items) (on v c.in_ok-taken.taken)
    (on v c.args.path) (is_ready v c.args.all.ready) (c.in_ok-taken.ensures.value v w))
