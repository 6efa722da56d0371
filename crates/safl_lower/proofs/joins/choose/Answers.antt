use Rattle.safl_lower.proofs.Common.{grows_on, is_ready, on, wired_before}
use Rattle.std.proofs.Common.{ap, ◌∙◌, ◌&&◌, Bool, inr, arith}
use Rattle.safl_lower.proofs.Arms.{chosen}
use Rattle.safl_lower.proofs.Kept.{ready_kept}
use Rattle.safl_lower.proofs.joins.choose.Goals as goal
use Rattle.safl_lower.proofs.Building.{source_grown, builds_on, builds_within}

pub returns-in_err-selected-clause-built : goal.returns-in_err-selected-clause-built
returns-in_err-selected-clause-built c = builds_within 5 (builds_on c.choose_value.ensures.built c.either_ready.ensures.built) (omega arith)

pub either_ready-requires-clause-yes : goal.either_ready-requires-clause-yes
either_ready-requires-clause-yes c = ready_kept c.choose_value.ensures.built.grows c.args.yes.ready c.requires.branches.1.ready

pub either_ready-requires-clause-no : goal.either_ready-requires-clause-no
either_ready-requires-clause-no c = ready_kept c.choose_value.ensures.built.grows c.args.no.ready c.requires.branches.2.ready

pub both_ready-requires-clause-first : goal.both_ready-requires-clause-first
both_ready-requires-clause-first c = ready_kept (grows_on c.choose_value.ensures.built.grows c.either_ready.ensures.built.grows) c.args.test.ready c.requires.ready

pub returns-in_err-ready-clause-built : goal.returns-in_err-ready-clause-built
returns-in_err-ready-clause-built c = builds_within 5 (builds_on c.choose_value.ensures.built (builds_on c.either_ready.ensures.built c.both_ready.ensures.built)) (omega arith)

pub returns-clause-built : goal.returns-clause-built
returns-clause-built c = builds_within 5 (builds_on c.choose_value.ensures.built (builds_on c.either_ready.ensures.built c.both_ready.ensures.built)) (omega arith)

pub returns-clause-shape : goal.returns-clause-shape
returns-clause-shape c = λ w y n.
    record {
      ready = c.in_ok-ready.ensures.fits;
      width = λ ever. source_grown (grows_on c.either_ready.ensures.built.grows c.both_ready.ensures.built.grows) c.in_ok-value.value w
          (c.in_ok-value.ensures.fits w y n (λ no. ever (c.in_ok-ready.ensures.never.1 (inr (c.in_ok-selected.ensures.never.1 no)))));
    }

pub returns-clause-value : goal.returns-clause-value
returns-clause-value c = λ v w.
    let u = wired_before c.both_ready.ensures.built.grows w in
    chosen (is_ready v c.args.test.ready) (on v c.args.test.value) (is_ready v c.args.yes.ready) (is_ready v c.args.no.ready)
    (is_ready v c.in_ok-ready.ready) (v c.args.yes.value.0) (v c.args.no.value.0) (v c.in_ok-value.value.0)
    (c.in_ok-ready.ensures.value v w ∙ ap (λ (b : Bool). is_ready v c.args.test.ready && b) (c.in_ok-selected.ensures.value v u))
    (c.in_ok-value.ensures.value v (wired_before c.either_ready.ensures.built.grows u))
