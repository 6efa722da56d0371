use Rattle.safl_vwrite.proofs.Common.{List, ap, codes, literal, ℕ, ◌++◌, ◌∙◌}
use Rattle.safl_net.specs.WrittenParts.{reset}
use Rattle.safl_vwrite.proofs.Texts.{five}
use Rattle.safl_vwrite.proofs.pieces.push_update.Goals as goal

pub returns : goal.returns
returns c =
    five c.args.out.now.items (reset c.args.name.now (literal c.args.width c.args.init)) c.args.name.now (codes " <= ") c.args.next.now (codes ";\n")
    c.push_reset.new.out.items c.push.new.out.items c.push-2.new.out.items c.push-3.new.out.items c.push-4.new.out.items
    c.in_ok-push_reset.ensures (c.in_ok-push.ensures ∙ ap (λ (l : List ℕ). c.push_reset.new.out.items ++ l) c.as_bytes.ensures.value) c.in_ok-push-2.ensures
    (c.in_ok-push-3.ensures ∙ ap (λ (l : List ℕ). c.push-2.new.out.items ++ l) c.as_bytes-2.ensures.value) c.in_ok-push-4.ensures
