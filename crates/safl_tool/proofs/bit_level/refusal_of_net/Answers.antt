use Rattle.safl_tool.proofs.Common.{IsRefused, ap, inr, refl, subst, ◌∙◌}
use Rattle.safl_aig.specs.declared.conversion.BlastErr.{BlastErr}
use Rattle.safl_aig.specs.Lines.{register_line, weight_line}
use Rattle.safl_tool.specs.BitLevel.{nonzero, heavy}
use Rattle.safl_tool.proofs.bit_level.refusal_of_net.Goals as goal

pub name-requires : goal.name-requires
name-requires c = (subst (λ (e : BlastErr). IsRefused c.args.net.now e) c.in-InitNotZero.is c.requires).known

pub returns-in-Ok-clause-refuses : goal.returns-in-Ok-clause-refuses
returns-in-Ok-clause-refuses c =
    let least = subst (λ (e : BlastErr). IsRefused c.args.net.now e) c.in-InitNotZero.is c.requires in
    inr (nonzero c.in-InitNotZero.register.0 least refl (ap register_line (c.in-Ok.ensures.ok ∙ c.name.ensures)))

pub returns-in-TooLarge-clause-refuses : goal.returns-in-TooLarge-clause-refuses
returns-in-TooLarge-clause-refuses c =
    let r = subst (λ (e : BlastErr). IsRefused c.args.net.now e) c.in-TooLarge.is c.requires in
    inr (heavy r.0 r.1 refl (ap weight_line r.2))
