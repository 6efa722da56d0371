use Rattle.safl_probe.proofs.Common.{Watched, drop_suc, output_watched, watched_all}
use Rattle.std.proofs.Common.{ℕ, List, [], ◌∷◌, ◌++◌, map, refl, ap, ◌∙◌, arith}
use Rattle.safl_net.proofs.SignalKinds.{output_known}
use Rattle.safl_probe.proofs.Rest.{rest_more, rest_none}
use Rattle.safl_probe.proofs.Looks.{output_there, pushed}
use Rattle.safl_probe.proofs.look.watch_outputs.Goals as goal

pub width-requires : goal.width-requires
width-requires c = output_known c.args.net.now c.outputs.i c.output_sig-signal.result.0 c.signals-count.ensures.netlist (omega arith) c.output_sig-signal.ensures

pub outputs-preserved : goal.outputs-preserved
outputs-preserved c =
    let n = c.args.net.now in
    let i = c.outputs.i in
    let name = c.output_name.result.now in
    let s = c.output_sig-signal.result.0 in
    rest_more (λ (k : ℕ) (os : List (List ℕ × ℕ)). map (output_watched n) os) (λ (k : ℕ) (o : List ℕ × ℕ). output_watched n o ∷ []) (λ k. refl) (λ k o os. refl)
    n.outputs i (name, s) (watched_all c.outputs.entries.items) (watched_all c.push.new.self.items) (watched_all c.args.entries.now.items ++ map (output_watched n) n.outputs)
    (drop_suc n.outputs i (name, s) (output_there n i name s c.output_name.ensures c.output_sig-signal.ensures))
    c.outputs.invariant
    (ap watched_all c.in_ok-push.ensures.items ∙ pushed c.outputs.entries.items c.in_ok-entry.entry
    ∙ ap (λ (w : Watched). watched_all c.outputs.entries.items ++ w ∷ []) (c.in_ok-entry.ensures ∙ ap (λ (width : ℕ). record { name = name; signal = s; width = width }) c.width.ensures))

pub returns : goal.returns
returns c =
    let n = c.args.net.now in
    rest_none (λ (k : ℕ) (os : List (List ℕ × ℕ)). map (output_watched n) os) (λ (k : ℕ) (o : List ℕ × ℕ). output_watched n o ∷ []) (λ k. refl) (λ k o os. refl)
    n.outputs c.outputs.i (watched_all c.outputs.entries.items) (watched_all c.args.entries.now.items ++ map (output_watched n) n.outputs) (omega arith) c.outputs.invariant
