use Rattle.safl_vread.proofs.Common.{Some, ap, declared_names, shown_declaration, shown_declarations, ◌∙◌}
use Rattle.safl_verilog.specs.Files.{Declaration}
use Rattle.safl_vread.proofs.NamesLookedUp.{item_at_both, refused, added}
use Rattle.safl_vread.proofs.names.declared_names.Goals as goal

pub returns-then-not-branch-clause-faults : goal.returns-then-not-branch-clause-faults
returns-then-not-branch-clause-faults c = ap Some c.fault_at.ensures ∙ refused
    (declared_names (shown_declarations c.args.text.now c.args.declarations.now)) c.loop-d.d-index _ c.loop-d.names
    (item_at_both (λ (d : Declaration). d.name) (shown_declaration c.args.text.now) c.args.declarations.now c.loop-d.d-index _ c.loop-d-test.true)
    c.loop-d.invariant c.bytes_of.result.now c.bytes_of.ensures c.in_ok-add.field-0 c.in_ok-add.ensures.new c.if-not-branch.true

pub loop-d-preserved : goal.loop-d-preserved
loop-d-preserved c = added (declared_names (shown_declarations c.args.text.now c.args.declarations.now)) c.loop-d.d-index _ c.loop-d.names
    (item_at_both (λ (d : Declaration). d.name) (shown_declaration c.args.text.now) c.args.declarations.now c.loop-d.d-index _ c.loop-d-test.true)
    c.loop-d.invariant c.bytes_of.result.now c.bytes_of.ensures c.in_ok-add.field-0 c.in_ok-add.ensures.new c.add.new.self c.in_ok-add.ensures.names c.if-not-branch.false
