use Rattle.safl_unit.proofs.Common.{codes, get_map, input_line, port_lines, take_all, with_signals}
use Rattle.std.proofs.Common.{◌≡◌, ◌++◌, [], ◌∷◌, List, ℕ, map, length, ap, ◌∙◌, arith}
use Rattle.safl_unit.proofs.layout.Declaring.{param_text, param_step, param_count, numbered_next, param_lines_long, named_get}
use Rattle.safl_unit.proofs.layout.Adding.{named_so, line_at}
use Rattle.safl_unit.proofs.declare.add_ports.Goals as goal

pub headed-requires : goal.headed-requires
headed-requires c = param_text c.args.c.now c.args.f c.loop-i.i _ c.param_name.ensures

pub add_input-requires-clause-free : goal.add_input-requires-clause-free
add_input-requires-clause-free c =
    let C = c.args.c.now.program in
    let D = c.args.c.now.names in
    let named : c.as_str.result.now ≡ codes "in$" ++ c.param_name.result.now = c.as_str.ensures.value ∙ c.in_ok-name.ensures in
    named_so c.loop-i.net c.as_str.result.now (codes "in$" ++ c.param_name.result.now) named
    (line_at input_line c.args.net.now c.loop-i.net (port_lines C D c.args.f) c.loop-i.i (codes "in$" ++ c.param_name.result.now, c.param_width.result)
    (named_get (map (λ (x : List ℕ). codes "in$" ++ x) (D.params c.args.f)) (C.params c.args.f) c.loop-i.i (codes "in$" ++ c.param_name.result.now) c.param_width.result
    (get_map (λ (x : List ℕ). codes "in$" ++ x) (D.params c.args.f) c.loop-i.i c.param_name.result.now c.param_name.ensures) c.param_width.ensures.width)
    c.requires.free c.loop-i.invariant.net)

pub loop-i-preserved : goal.loop-i-preserved
loop-i-preserved c =
    let named : c.as_str.result.now ≡ codes "in$" ++ c.param_name.result.now = c.as_str.ensures.value ∙ c.in_ok-name.ensures in
    let below = c.loop-i-test.true in
    let end = c.params-i-end.ensures.count in
    record {
      net = param_step c.args.c.now c.args.f c.loop-i.i c.param_width.result 0 c.param_name.result.now (λ (x : List ℕ). codes "in$" ++ x) input_line c.args.net.now c.loop-i.net c.add_input.new.net
          c.param_name.ensures c.param_width.ensures.width c.loop-i.invariant.net
          (c.in_ok-s.ensures.added ∙ ap (λ (z : List ℕ). with_signals c.loop-i.net (input_line (z, c.param_width.result) ∷ [])) named);
      words = c.in_ok-push.ensures.items ∙ numbered_next (length c.args.net.now.signals) c.loop-i.i c.loop-i.words.items c.in_ok-s.s c.loop-i.invariant.words
          (c.in_ok-s.ensures.next ∙ param_count c.args.c.now c.args.f c.loop-i.i (λ (x : List ℕ). codes "in$" ++ x) input_line c.args.net.now
          c.loop-i.net (omega (arith, below, end)) c.loop-i.invariant.net);
    }

pub returns-clause-added : goal.returns-clause-added
returns-clause-added c =
    let past = c.loop-i-test.false in
    let end = c.params-i-end.ensures.count in
    let long = param_lines_long c.args.c.now c.args.f (λ (x : List ℕ). codes "in$" ++ x) in
    c.loop-i.invariant.net
    ∙ ap (λ ls. with_signals c.args.net.now (map input_line ls)) (take_all c.loop-i.i (port_lines c.args.c.now.program c.args.c.now.names c.args.f) (omega (arith, past, end, long)))
