use Rattle.safl_lower.proofs.Common.{Readiness, ReadyAt, subst}
use Rattle.safl_lower.proofs.ready.either_ready.Goals as goal

pub returns-in_ok-mux-in-When-When-clause-fits : goal.returns-in_ok-mux-in-When-When-clause-fits
returns-in_ok-mux-in-When-When-clause-fits c =
    let y = subst (λ (r : Readiness). ReadyAt c.args.net.now r) c.in-When-When.is-0 c.requires.yes in
    let n = subst (λ (r : Readiness). ReadyAt c.args.net.now r) c.in-When-When.is-1 c.requires.no in
    c.in_ok-mux-in-When-When.ensures.fits 1 y n
