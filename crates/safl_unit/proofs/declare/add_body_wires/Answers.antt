use Rattle.safl_unit.proofs.Common.{codes, of_function, open_wire}
use Rattle.std.proofs.Common.{◌≡◌, ◌++◌, [], ◌∷◌, List, ℕ, ap, ◌∙◌}
use Rattle.safl_unit.proofs.layout.Adding.{named_so, may_now, may_step}
use Rattle.safl_unit.proofs.layout.Declaring.{name_text}
use Rattle.safl_unit.proofs.declare.add_body_wires.Goals as goal

pub headed-requires : goal.headed-requires
headed-requires c = name_text c.args.c.now c.args.f _ c.name-name.ensures

pub headed-requires-2 : goal.headed-requires-2
headed-requires-2 c = name_text c.args.c.now c.args.f _ c.name-name.ensures

pub add_wire-requires-clause-free : goal.add_wire-requires-clause-free
add_wire-requires-clause-free c =
    let D = c.args.c.now.names in
    let f = c.args.f in
    let end : c.as_str.result.now ≡ of_function D (codes "end$") f = c.as_str.ensures.value ∙ c.in_ok-headed.ensures ∙ ap (λ (z : List ℕ). codes "end$" ++ z) c.name-name.ensures in
    named_so c.args.net.now c.as_str.result.now (of_function D (codes "end$") f) end
    (may_now c.args.net.now (open_wire (of_function D (codes "end$") f, 1)) (open_wire (of_function D (codes "loop$") f, 1) ∷ []) c.requires.free)

pub add_wire-requires-2-clause-free : goal.add_wire-requires-2-clause-free
add_wire-requires-2-clause-free c =
    let D = c.args.c.now.names in
    let f = c.args.f in
    let end : c.as_str.result.now ≡ of_function D (codes "end$") f = c.as_str.ensures.value ∙ c.in_ok-headed.ensures ∙ ap (λ (z : List ℕ). codes "end$" ++ z) c.name-name.ensures in
    let loop : c.as_str-2.result.now ≡ of_function D (codes "loop$") f = c.as_str-2.ensures.value ∙ c.in_ok-headed-2.ensures ∙ ap (λ (z : List ℕ). codes "loop$" ++ z) c.name-name.ensures in
    let two = may_step c.args.net.now c.add_wire.new.net open_wire c.as_str.result.now (of_function D (codes "end$") f) 1
    (open_wire (of_function D (codes "loop$") f, 1) ∷ []) end c.requires.free c.in_ok-add_wire.ensures.added in
    named_so c.add_wire.new.net c.as_str-2.result.now (of_function D (codes "loop$") f) loop (may_now c.add_wire.new.net (open_wire (of_function D (codes "loop$") f, 1)) [] two)
