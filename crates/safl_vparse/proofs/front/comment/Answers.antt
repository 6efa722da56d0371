use Rattle.safl_vparse.proofs.Common.{IsRun, first_and_rest, measured, slice_rest}
use Rattle.std.proofs.Common.{◌≡◌, ◌∷◌, ◌==◌, ◌∙◌, ap, sym, subst, not, drop, List, ℕ}
use Rattle.safl_verilog.specs.Pieces.{first_comment}
use Rattle.safl_vparse.proofs.Fronts.{line_found}
use Rattle.safl_vparse.proofs.front.comment.Goals as goal

pub returns-then-second-eq47 : goal.returns-then-second-eq47
returns-then-second-eq47 c =
    let w = c.args.rest.now in
    let e : w ≡ 47 ∷ drop 1 w = first_and_rest w c.in-len1-up.len_at_least ∙ ap (λ k. k ∷ drop 1 w) c.if-second-eq47.true in
    let r = subst (λ (l : List ℕ). IsRun (λ b. not (b == 10)) l c.line_length.result) (slice_rest w 1 c.in-len1-up.len_at_least) c.line_length.ensures in
    line_found (drop 1 w) c.line_length.result r ∙ ap (λ (l : List ℕ). measured (first_comment l)) (sym e)
