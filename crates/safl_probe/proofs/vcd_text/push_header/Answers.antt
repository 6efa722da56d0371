use Rattle.safl_probe.proofs.Common.{Text, variable_texts, watched_all}
use Rattle.std.proofs.Common.{◌≡◌, ◌++◌, ◌∙◌, ap, append_assoc, codes}
use Rattle.safl_probe.proofs.vcd_text.push_header.Goals as goal

three : (old a b d one two now : Text) → one ≡ old ++ a → two ≡ one ++ b → now ≡ two ++ d → now ≡ old ++ (a ++ b ++ d)
three old a b d one two now e f g = g ∙ ap (λ l. l ++ d) (f ∙ ap (λ l. l ++ b) e ∙ append_assoc old a b) ∙ append_assoc old (a ++ b) d

pub returns : goal.returns
returns c =
    three c.args.out.now.items (codes "$timescale 1 ns $end\n$scope module safl $end\n") (variable_texts 0 (watched_all c.args.entries.now))
    (codes "$upscope $end\n$enddefinitions $end\n") c.push.new.out.items c.push_variables.new.out.items c.push-2.new.out.items
    c.in_ok-push.ensures.added c.in_ok-push_variables.ensures c.in_ok-push-2.ensures.added
