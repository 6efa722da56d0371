use Rattle.safl_opt.proofs.Common.{None, ap, arith, length, new_number, refusal, subst, sym, with_output, ◌+◌, ◌∙◌, ◌≡◌}
use Rattle.safl_opt.specs.Stages.{Shown}
use Rattle.safl_opt.proofs.Showing.{shown_none, output_at, output_called, output_root, output_free, shown_next, few_shown}
use Rattle.safl_opt.proofs.build.show_outputs.Goals as goal

pub outputs-init : goal.outputs-init
outputs-init c = shown_none c.args.old.now c.args.values.now c.args.made.now c.args.net.now c.requires.empty c.requires.new_tidy

pub new_number-s-requires-clause-known : goal.new_number-s-requires-clause-known
new_number-s-requires-clause-known c = (c.requires.numbers.listed c.output_sig.result.0 (output_root c.args.old.now c.outputs.i c.output_sig.result.0 c.output_sig.ensures)).0

pub new_number-s-requires-clause-listed : goal.new_number-s-requires-clause-listed
new_number-s-requires-clause-listed c = (c.requires.numbers.listed c.output_sig.result.0 (output_root c.args.old.now c.outputs.i c.output_sig.result.0 c.output_sig.ensures)).1

pub add_output-requires-clause-known : goal.add_output-requires-clause-known
add_output-requires-clause-known c =
    let k = c.requires.numbers.known c.output_sig.result.0 (output_root c.args.old.now c.outputs.i c.output_sig.result.0 c.output_sig.ensures) in
    let e = c.new_number-s.ensures in
    let l = ap length c.outputs.invariant.signals in
    omega (arith, k, e, l)

pub add_output-requires-clause-room : goal.add_output-requires-clause-room
add_output-requires-clause-room c =
    let a = few_shown c.args.old.now c.args.values.now c.args.made.now c.args.net.now c.outputs.net c.outputs.i c.outputs.invariant in
    let b = c.signals-count.ensures.netlist.few_outputs in
    let e = c.outputs-i-end.ensures in
    omega (arith, a, b, e)

pub add_output-requires-clause-free : goal.add_output-requires-clause-free
add_output-requires-clause-free c =
    let o = output_at c.args.old.now c.outputs.i c.output_sig.result.0 c.output_sig.ensures in
    let q = output_called c.args.old.now c.outputs.i c.output_name.result.now o.0 o.1 c.output_name.ensures in
    subst (λ name. refusal c.outputs.net name ≡ None) (sym q)
    (output_free c.args.old.now c.signals-count.ensures.netlist c.requires.tidy c.args.values.now c.args.made.now c.args.net.now c.outputs.net c.outputs.i c.outputs.invariant o.0 o.1 c.requires.named)

pub outputs-preserved : goal.outputs-preserved
outputs-preserved c =
    let o = output_at c.args.old.now c.outputs.i c.output_sig.result.0 c.output_sig.ensures in
    let q = output_called c.args.old.now c.outputs.i c.output_name.result.now o.0 o.1 c.output_name.ensures in
    shown_next c.args.old.now c.signals-count.ensures.netlist c.requires.tidy c.args.values.now c.args.made.now c.args.net.now c.outputs.net
    c.outputs.i c.outputs.invariant o.0 o.1 c.add_output.new.net (c.outputs.i + 1) c.new_number-s.result.0 (omega arith)
    (c.new_number-s.ensures ∙ ap (new_number c.args.values.now c.args.made.now) o.2) (c.in_ok-add_output.ensures.added ∙ ap (λ name. with_output c.outputs.net name c.new_number-s.result.0) q)

pub returns : goal.returns
returns c = subst (λ k. Shown c.args.old.now c.args.values.now c.args.made.now c.args.net.now k c.outputs.net)
    (let a = c.outputs.auto.i-end in let b = c.outputs-test.false in let d = c.outputs-i-end.ensures in omega (arith, a, b, d)) c.outputs.invariant
