use Rattle.safl_unit.proofs.Common.{Line, codes, of_site, open_wire, unit_for}
use Rattle.std.proofs.Common.{◌≡◌, [], ◌∷◌, true, ◌∙◌}
use Rattle.safl_unit.proofs.layout.Adding.{named_so, may_now, lines_if}
use Rattle.safl_unit.proofs.declare.add_arbiter_wire.Goals as goal

pub add_wire-requires-clause-free : goal.add_wire-requires-clause-free
add_wire-requires-clause-free c =
    let C = c.args.p.now.program in
    let P = c.args.p.now.choice in
    let line : Line = (of_site (codes "arb$") c.args.k, 1) in
    let arb : P.arbiter (unit_for C c.args.k) ≡ true = cc in
    named_so c.args.net.now c.as_str.result.now (of_site (codes "arb$") c.args.k) (c.as_str.ensures.value ∙ c.in_ok-numbered.ensures)
    (may_now c.args.net.now (open_wire line) [] (lines_if open_wire c.args.net.now (P.arbiter (unit_for C c.args.k)) (line ∷ []) arb c.requires.free))
