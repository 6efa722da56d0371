use Rattle.safl_vwrite.proofs.Common.{List, ap, arith, codes, output_assignment, output_known, ℕ, ◌++◌, ◌∙◌}
use Rattle.safl_net.specs.Making.{name_at}
use Rattle.safl_vwrite.proofs.Signals.{output_more}
use Rattle.safl_vwrite.proofs.Texts.{three}
use Rattle.safl_vwrite.proofs.statements.assign_outputs.Goals as goal

pub name-requires : goal.name-requires
name-requires c = output_known c.args.net.now c.loop-i.i c.output_sig-s.result.0 c.requires (omega arith) c.output_sig-s.ensures

pub loop-i-preserved : goal.loop-i-preserved
loop-i-preserved c =
    output_more (output_assignment c.args.net.now) c.args.net.now c.loop-i.i c.output_name.result.now c.output_sig-s.result.0 c.args.out.now.items c.loop-i.out.items c.push-in-loop-i.new.out.items
    c.output_name.ensures c.output_sig-s.ensures c.loop-i.invariant
    (three c.loop-i.out.items (codes "  assign " ++ c.output_name.result.now ++ codes " = ") (name_at c.args.net.now c.output_sig-s.result.0) (codes ";\n")
    c.push_target.new.out.items c.push.new.out.items c.push-in-loop-i.new.out.items
    c.in_ok-push_target.ensures (c.in_ok-push.ensures ∙ ap (λ (l : List ℕ). c.push_target.new.out.items ++ l) (c.as_bytes.ensures.value ∙ c.name.ensures)) c.in_ok-push-2.ensures)
