use Rattle.safl_vwrite.proofs.Common.{ap, arith, codes, output_declaration, output_known, ℕ, ◌++◌, ◌∙◌}
use Rattle.safl_net.specs.Written.{declaration}
use Rattle.safl_vwrite.proofs.Signals.{output_more}
use Rattle.safl_vwrite.proofs.declarations.declare_outputs.Goals as goal

pub width-requires : goal.width-requires
width-requires c = output_known c.args.net.now c.loop-i.i c.output_sig-s.result.0 c.requires (omega arith) c.output_sig-s.ensures

pub loop-i-preserved : goal.loop-i-preserved
loop-i-preserved c =
    output_more (output_declaration c.args.net.now) c.args.net.now c.loop-i.i c.output_name.result.now c.output_sig-s.result.0 c.args.out.now.items c.loop-i.out.items c.push_declaration.new.out.items
    c.output_name.ensures c.output_sig-s.ensures c.loop-i.invariant
    (c.in_ok-push_declaration.ensures ∙ ap (λ (w : ℕ). c.loop-i.out.items ++ declaration (codes "output") w c.output_name.result.now) c.width.ensures)
