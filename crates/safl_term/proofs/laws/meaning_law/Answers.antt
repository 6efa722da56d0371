use Rattle.std.proofs.Common.{◌++◌, arith, ap, subst, refl}
use Rattle.safl_term.specs.Fuel.{GivesInCalls}
use Rattle.safl_term.specs.Meaning.{cost, loops, calls_to, at_function}
use Rattle.safl_term.proofs.Unique.{one_value, one_loops, one_calls}
use Rattle.safl_term.proofs.Fuelled.{agree_to, agree_from}
use Rattle.safl_term.proofs.laws.meaning_law.Goals as goal

pub returns-clause-same : goal.returns-clause-same
returns-clause-same c = λ C args v n. (agree_to C args v n, λ q. subst (λ i. GivesInCalls C args v i) q.1 (agree_from C args v q.0))

pub returns-clause-pair : goal.returns-clause-pair
returns-clause-pair c = λ C args v w m n x y.
    let a = agree_to C args v m x in
    let b = agree_to C args w n y in
    let z = one_value C _ a.0 b.0 refl in
    (z.0, omega (arith, z.1, a.1, b.1))

pub returns-clause-evaluation : goal.returns-clause-evaluation
returns-clause-evaluation c = λ C args v w d e.
    let z = one_value C (cost C e) d e refl in
    (z.0, omega (arith, z.1), one_loops C (loops C e) d e refl, λ f. ap (λ l. at_function f (C.callee 0) args ++ l) (one_calls C f (calls_to C f e) d e refl))
