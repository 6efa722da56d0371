use Rattle.safl_unit.proofs.Common.{codes, of_site, open_wire}
use Rattle.std.proofs.Common.{◌≡◌, ◌++◌, [], ◌∷◌, map, ◌∙◌}
use Rattle.safl_unit.proofs.layout.Adding.{named_so, may_now, may_step, may_call, lines_first, lines_rest}
use Rattle.safl_unit.specs.Declaring.{arbiter_line}
use Rattle.safl_unit.proofs.declare.add_call_wires.Goals as goal

pub add_wire-requires-clause-free : goal.add_wire-requires-clause-free
add_wire-requires-clause-free c =
    let C = c.args.p.now.program in
    let D = c.args.p.now.names in
    let P = c.args.p.now.choice in
    let k = c.args.k in
    let all = may_call C D P c.args.net.now k c.requires.least c.requires.free in
    let want : c.as_str.result.now ≡ of_site (codes "want$") k = c.as_str.ensures.value ∙ c.in_ok-numbered.ensures in
    named_so c.args.net.now c.as_str.result.now (of_site (codes "want$") k) want (may_now c.args.net.now (open_wire (of_site (codes "want$") k, 1)) _ all)

pub add_wire-requires-2-clause-free : goal.add_wire-requires-2-clause-free
add_wire-requires-2-clause-free c =
    let C = c.args.p.now.program in
    let D = c.args.p.now.names in
    let P = c.args.p.now.choice in
    let k = c.args.k in
    let all = may_call C D P c.args.net.now k c.requires.least c.requires.free in
    let want : c.as_str.result.now ≡ of_site (codes "want$") k = c.as_str.ensures.value ∙ c.in_ok-numbered.ensures in
    let ret : c.as_str-2.result.now ≡ of_site (codes "ret$") k = c.as_str-2.ensures.value ∙ c.in_ok-numbered-2.ensures in
    let two = may_step c.args.net.now c.add_wire.new.net open_wire c.as_str.result.now (of_site (codes "want$") k) 1 _ want all c.in_ok-add_wire.ensures.added in
    named_so c.add_wire.new.net c.as_str-2.result.now (of_site (codes "ret$") k) ret (may_now c.add_wire.new.net (open_wire (of_site (codes "ret$") k, 1)) _ two)

pub add_arbiter_wire-requires-clause-free : goal.add_arbiter_wire-requires-clause-free
add_arbiter_wire-requires-clause-free c =
    let C = c.args.p.now.program in
    let D = c.args.p.now.names in
    let P = c.args.p.now.choice in
    let k = c.args.k in
    let all = may_call C D P c.args.net.now k c.requires.least c.requires.free in
    let want : c.as_str.result.now ≡ of_site (codes "want$") k = c.as_str.ensures.value ∙ c.in_ok-numbered.ensures in
    let ret : c.as_str-2.result.now ≡ of_site (codes "ret$") k = c.as_str-2.ensures.value ∙ c.in_ok-numbered-2.ensures in
    let two = may_step c.args.net.now c.add_wire.new.net open_wire c.as_str.result.now (of_site (codes "want$") k) 1 _ want all c.in_ok-add_wire.ensures.added in
    let three = may_step c.add_wire.new.net c.add_wire-2.new.net open_wire c.as_str-2.result.now (of_site (codes "ret$") k) 1
    (map open_wire (arbiter_line C P k ++ (of_site (codes "go$") k, 1) ∷ [])) ret two c.in_ok-add_wire-2.ensures.added in
    lines_first open_wire c.add_wire-2.new.net (arbiter_line C P k) ((of_site (codes "go$") k, 1) ∷ []) three

pub add_wire-requires-3-clause-free : goal.add_wire-requires-3-clause-free
add_wire-requires-3-clause-free c =
    let C = c.args.p.now.program in
    let D = c.args.p.now.names in
    let P = c.args.p.now.choice in
    let k = c.args.k in
    let all = may_call C D P c.args.net.now k c.requires.least c.requires.free in
    let want : c.as_str.result.now ≡ of_site (codes "want$") k = c.as_str.ensures.value ∙ c.in_ok-numbered.ensures in
    let ret : c.as_str-2.result.now ≡ of_site (codes "ret$") k = c.as_str-2.ensures.value ∙ c.in_ok-numbered-2.ensures in
    let two = may_step c.args.net.now c.add_wire.new.net open_wire c.as_str.result.now (of_site (codes "want$") k) 1 _ want all c.in_ok-add_wire.ensures.added in
    let three = may_step c.add_wire.new.net c.add_wire-2.new.net open_wire c.as_str-2.result.now (of_site (codes "ret$") k) 1
    (map open_wire (arbiter_line C P k ++ (of_site (codes "go$") k, 1) ∷ [])) ret two c.in_ok-add_wire-2.ensures.added in
    let go : c.as_str-3.result.now ≡ of_site (codes "go$") k = c.as_str-3.ensures.value ∙ c.in_ok-numbered-3.ensures in
    named_so c.add_arbiter_wire.new.net c.as_str-3.result.now (of_site (codes "go$") k) go
    (may_now c.add_arbiter_wire.new.net (open_wire (of_site (codes "go$") k, 1)) []
    (lines_rest open_wire c.add_wire-2.new.net c.add_arbiter_wire.new.net (arbiter_line C P k) ((of_site (codes "go$") k, 1) ∷ []) three
    c.in_ok-add_arbiter_wire.ensures))
