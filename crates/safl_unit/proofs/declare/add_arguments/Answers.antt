use Rattle.safl_unit.proofs.Common.{argument_lines, codes, get_map, of_param, open_register, take_all, with_signals}
use Rattle.std.proofs.Common.{◌≡◌, ◌++◌, [], ◌∷◌, List, ℕ, map, length, ap, ◌∙◌, arith}
use Rattle.safl_unit.proofs.layout.Declaring.{name_text, param_text, param_step, param_count, numbered_next, param_lines_long, named_get}
use Rattle.safl_unit.proofs.layout.Adding.{named_so, line_at}
use Rattle.safl_unit.proofs.declare.add_arguments.Goals as goal

pub argument_name-requires-clause-function : goal.argument_name-requires-clause-function
argument_name-requires-clause-function c = name_text c.args.c.now c.args.f _ c.name.ensures

pub argument_name-requires-clause-param : goal.argument_name-requires-clause-param
argument_name-requires-clause-param c = param_text c.args.c.now c.args.f c.loop-i.i _ c.param_name.ensures

pub add_register-requires-clause-free : goal.add_register-requires-clause-free
add_register-requires-clause-free c =
    let C = c.args.c.now.program in
    let D = c.args.c.now.names in
    let named : c.as_str.result.now ≡ of_param D c.args.f c.param_name.result.now =
    c.as_str.ensures.value ∙ c.in_ok-name.ensures ∙ ap (λ (z : List ℕ). codes "arg$" ++ (z ++ (codes "$" ++ c.param_name.result.now))) c.name.ensures in
    named_so c.loop-i.net c.as_str.result.now (of_param D c.args.f c.param_name.result.now) named
    (line_at open_register c.args.net.now c.loop-i.net (argument_lines C D c.args.f) c.loop-i.i (of_param D c.args.f c.param_name.result.now, c.param_width.result)
    (named_get (map (of_param D c.args.f) (D.params c.args.f)) (C.params c.args.f) c.loop-i.i (of_param D c.args.f c.param_name.result.now) c.param_width.result
    (get_map (of_param D c.args.f) (D.params c.args.f) c.loop-i.i c.param_name.result.now c.param_name.ensures) c.param_width.ensures.width)
    c.requires.free c.loop-i.invariant.net)

pub loop-i-preserved : goal.loop-i-preserved
loop-i-preserved c =
    let named : c.as_str.result.now ≡ of_param c.args.c.now.names c.args.f c.param_name.result.now =
    c.as_str.ensures.value ∙ c.in_ok-name.ensures ∙ ap (λ (z : List ℕ). codes "arg$" ++ (z ++ (codes "$" ++ c.param_name.result.now))) c.name.ensures in
    let below = c.loop-i-test.true in
    let end = c.params-i-end.ensures.count in
    record {
      net = param_step c.args.c.now c.args.f c.loop-i.i c.param_width.result 0 c.param_name.result.now (of_param c.args.c.now.names c.args.f)
          open_register c.args.net.now c.loop-i.net c.add_register.new.net
          c.param_name.ensures c.param_width.ensures.width c.loop-i.invariant.net
          (c.in_ok-s.ensures.added ∙ ap (λ (z : List ℕ). with_signals c.loop-i.net (open_register (z, c.param_width.result) ∷ [])) named);
      args = c.in_ok-push.ensures.items ∙ numbered_next (length c.args.net.now.signals) c.loop-i.i c.loop-i.args.items c.in_ok-s.s c.loop-i.invariant.args
          (c.in_ok-s.ensures.next ∙ param_count c.args.c.now c.args.f c.loop-i.i (of_param c.args.c.now.names c.args.f) open_register
          c.args.net.now c.loop-i.net (omega (arith, below, end)) c.loop-i.invariant.net);
    }

pub returns-clause-added : goal.returns-clause-added
returns-clause-added c =
    let past = c.loop-i-test.false in
    let end = c.params-i-end.ensures.count in
    let long = param_lines_long c.args.c.now c.args.f (of_param c.args.c.now.names c.args.f) in
    c.loop-i.invariant.net
    ∙ ap (λ ls. with_signals c.args.net.now (map open_register ls)) (take_all c.loop-i.i (argument_lines c.args.c.now.program c.args.c.now.names c.args.f) (omega (arith, past, end, long)))
