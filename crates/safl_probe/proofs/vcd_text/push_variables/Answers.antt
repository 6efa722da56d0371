use Rattle.safl_probe.proofs.Common.{Entry, List, refl, watched_all, watched_in, ℕ, ◌++◌}
use Rattle.safl_probe.specs.Texts.{variable_texts, variable}
use Rattle.safl_probe.proofs.Rest.{rest_more, rest_none, drop_or}
use Rattle.safl_probe.proofs.vcd_text.push_variables.Goals as goal

pub entries-preserved : goal.entries-preserved
entries-preserved c =
    rest_more (λ (i : ℕ) (es : List Entry). variable_texts i (watched_all es)) (λ (i : ℕ) (e : Entry). variable i (watched_in e)) (λ i. refl) (λ i e es. refl)
    c.args.entries.now c.entries.i c.index-entries-i.result c.entries.out.items c.push_variable.new.out.items (c.args.out.now.items ++ variable_texts 0 (watched_all c.args.entries.now))
    (drop_or c.args.entries.now c.entries.i c.index-entries-i.result c.entries-test.true c.index-entries-i.is) c.entries.invariant c.in_ok-push_variable.ensures

pub returns : goal.returns
returns c =
    rest_none (λ (i : ℕ) (es : List Entry). variable_texts i (watched_all es)) (λ (i : ℕ) (e : Entry). variable i (watched_in e)) (λ i. refl) (λ i e es. refl)
    c.args.entries.now c.entries.i c.entries.out.items (c.args.out.now.items ++ variable_texts 0 (watched_all c.args.entries.now)) c.entries-test.false c.entries.invariant
