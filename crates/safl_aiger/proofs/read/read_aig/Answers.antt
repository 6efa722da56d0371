use Rattle.std.proofs.Common.{◌≡◌, ◌-◌, ℕ, take, refl, sym, subst, arith}
use Rattle.safl_aiger.specs.Reads.{Counts, IsHeader}
use Rattle.safl_aiger.proofs.Concluding.{no_header}
use Rattle.safl_aiger.proofs.read.read_aig.Goals as goal

pub returns-in-None-clause-fault : goal.returns-in-None-clause-fault
returns-in-None-clause-fault c =
    let text = c.args.text.now in
    let end = c.line_end-end.result in
    let z : end - 0 ≡ end = omega arith in
    let none = subst (λ (n : ℕ). (k : Counts) → ¬ (IsHeader (take n text) k)) (sym z) (c.in-None.ensures.none refl) in
    no_header text (take (end - 0) text) _ c.line_end-end.ensures.line none
