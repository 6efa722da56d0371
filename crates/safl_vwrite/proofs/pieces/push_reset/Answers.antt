use Rattle.safl_vwrite.proofs.Common.{List, ap, codes, literal, ℕ, ◌++◌, ◌∙◌}
use Rattle.safl_vwrite.proofs.Texts.{five}
use Rattle.safl_vwrite.proofs.pieces.push_reset.Goals as goal

pub returns : goal.returns
returns c =
    five c.args.out.now.items (codes "  always @(posedge clk) if (rst) ") c.args.name.now (codes " <= ") (literal c.args.width c.args.init) (codes "; else ")
    c.push.new.out.items c.push-2.new.out.items c.push-3.new.out.items c.push_literal.new.out.items c.push-4.new.out.items
    c.in_ok-push.ensures (c.in_ok-push-2.ensures ∙ ap (λ (l : List ℕ). c.push.new.out.items ++ l) c.as_bytes.ensures.value) c.in_ok-push-3.ensures c.in_ok-push_literal.ensures c.in_ok-push-4.ensures
