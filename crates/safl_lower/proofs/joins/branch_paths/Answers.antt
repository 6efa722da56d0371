use Rattle.safl_lower.proofs.Common.{grows_on, on, wired_before}
use Rattle.std.proofs.Common.{ap, ◌∙◌, ◌&&◌, not, Bool, arith}
use Rattle.safl_lower.proofs.joins.branch_paths.Goals as goal
use Rattle.safl_lower.proofs.Building.{source_grown, builds_on, builds_within}

-- ---- both branches hold calls

pub returns-in_err-yes-in-true-true-clause-built : goal.returns-in_err-yes-in-true-true-clause-built
returns-in_err-yes-in-true-true-clause-built c = builds_within 4 (builds_on c.and_ready.ensures.built c.both.ensures.built) (omega arith)

pub and_not-requires-clause-first : goal.and_not-requires-clause-first
and_not-requires-clause-first c = source_grown c.both.ensures.built.grows c.in_ok-reached-in-true-true.reached 1 c.in_ok-reached-in-true-true.ensures.fits

pub and_not-requires-clause-second : goal.and_not-requires-clause-second
and_not-requires-clause-second c = source_grown (grows_on c.and_ready.ensures.built.grows c.both.ensures.built.grows) c.args.test.value 1 c.requires.test

pub returns-in_err-no-in-true-true-clause-built : goal.returns-in_err-no-in-true-true-clause-built
returns-in_err-no-in-true-true-clause-built c = builds_within 4 (builds_on c.and_ready.ensures.built (builds_on c.both.ensures.built c.and_not.ensures.built)) (omega arith)

pub returns-in_ok-no-in-true-true-clause-built : goal.returns-in_ok-no-in-true-true-clause-built
returns-in_ok-no-in-true-true-clause-built c = builds_within 4 (builds_on c.and_ready.ensures.built (builds_on c.both.ensures.built c.and_not.ensures.built)) (omega arith)

pub returns-in_ok-no-in-true-true-clause-widths : goal.returns-in_ok-no-in-true-true-clause-widths
returns-in_ok-no-in-true-true-clause-widths c = (source_grown c.and_not.ensures.built.grows c.in_ok-yes-in-true-true.yes 1 c.in_ok-yes-in-true-true.ensures.fits, c.in_ok-no-in-true-true.ensures.fits)

pub returns-in_ok-no-in-true-true-clause-yes : goal.returns-in_ok-no-in-true-true-clause-yes
returns-in_ok-no-in-true-true-clause-yes c = λ h v w.
    let u = wired_before c.and_not.ensures.built.grows w in
    c.in_ok-yes-in-true-true.ensures.value v u ∙ ap (λ (b : Bool). b && on v c.args.test.value) (c.in_ok-reached-in-true-true.ensures.value v (wired_before c.both.ensures.built.grows u))

pub returns-in_ok-no-in-true-true-clause-no : goal.returns-in_ok-no-in-true-true-clause-no
returns-in_ok-no-in-true-true-clause-no c = λ h v w.
    c.in_ok-no-in-true-true.ensures.value v w ∙ ap (λ (b : Bool). b && not (on v c.args.test.value))
    (c.in_ok-reached-in-true-true.ensures.value v (wired_before (grows_on c.both.ensures.built.grows c.and_not.ensures.built.grows) w))

-- ---- the first branch alone

pub both-requires-in-true-false-clause-second : goal.both-requires-in-true-false-clause-second
both-requires-in-true-false-clause-second c = source_grown c.and_ready-in-true-false.ensures.built.grows c.args.test.value 1 c.requires.test

pub returns-in_err-yes-in-true-false-clause-built : goal.returns-in_err-yes-in-true-false-clause-built
returns-in_err-yes-in-true-false-clause-built c = builds_within 4 (builds_on c.and_ready-in-true-false.ensures.built c.both-in-true-false.ensures.built) (omega arith)

pub returns-in_ok-yes-in-true-false-clause-built : goal.returns-in_ok-yes-in-true-false-clause-built
returns-in_ok-yes-in-true-false-clause-built c = builds_within 4 (builds_on c.and_ready-in-true-false.ensures.built c.both-in-true-false.ensures.built) (omega arith)

pub returns-in_ok-yes-in-true-false-clause-widths : goal.returns-in_ok-yes-in-true-false-clause-widths
returns-in_ok-yes-in-true-false-clause-widths c = (
  c.in_ok-yes-in-true-false.ensures.fits,
  source_grown
      (grows_on c.and_ready-in-true-false.ensures.built.grows c.both-in-true-false.ensures.built.grows) c.args.path 1 c.requires.path,
)

pub returns-in_ok-yes-in-true-false-clause-yes : goal.returns-in_ok-yes-in-true-false-clause-yes
returns-in_ok-yes-in-true-false-clause-yes c = λ h v w. c.in_ok-yes-in-true-false.ensures.value v w ∙ ap (λ (b : Bool). b && on v c.args.test.value)
    (c.in_ok-reached-in-true-false.ensures.value v (wired_before c.both-in-true-false.ensures.built.grows w))

-- ---- the second branch alone

pub and_not-requires-in-false-true-clause-second : goal.and_not-requires-in-false-true-clause-second
and_not-requires-in-false-true-clause-second c = source_grown c.and_ready-in-false-true.ensures.built.grows c.args.test.value 1 c.requires.test

pub returns-in_err-no-in-false-true-clause-built : goal.returns-in_err-no-in-false-true-clause-built
returns-in_err-no-in-false-true-clause-built c = builds_within 4 (builds_on c.and_ready-in-false-true.ensures.built c.and_not-in-false-true.ensures.built) (omega arith)

pub returns-in_ok-no-in-false-true-clause-built : goal.returns-in_ok-no-in-false-true-clause-built
returns-in_ok-no-in-false-true-clause-built c = builds_within 4 (builds_on c.and_ready-in-false-true.ensures.built c.and_not-in-false-true.ensures.built) (omega arith)

pub returns-in_ok-no-in-false-true-clause-widths : goal.returns-in_ok-no-in-false-true-clause-widths
returns-in_ok-no-in-false-true-clause-widths c = (
  source_grown
      (grows_on c.and_ready-in-false-true.ensures.built.grows c.and_not-in-false-true.ensures.built.grows) c.args.path 1 c.requires.path,
  c.in_ok-no-in-false-true.ensures.fits,
)

pub returns-in_ok-no-in-false-true-clause-no : goal.returns-in_ok-no-in-false-true-clause-no
returns-in_ok-no-in-false-true-clause-no c = λ h v w. c.in_ok-no-in-false-true.ensures.value v w ∙ ap
    (λ (b : Bool). b && not (on v c.args.test.value)) (c.in_ok-reached-in-false-true.ensures.value v (wired_before c.and_not-in-false-true.ensures.built.grows w))
