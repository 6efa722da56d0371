use Rattle.std.proofs.Common.{◌≡◌, ℕ, ◌+◌, ◌/◌, ◌%◌, ◌≤◌, [], ◌∷◌, ◌++◌, sym, ap, ◌∙◌, append_assoc, arith}
use Rattle.safl_probe.specs.Texts.{Text, code}
use Rattle.safl_probe.proofs.Codes.{code_more, code_last}
use Rattle.safl_probe.proofs.text_pieces.push_code.Goals as goal

more : (out now whole : Text) (rest : ℕ) → 94 ≤ rest → now ≡ out ++ (33 + rest % 94) ∷ [] → out ++ code rest ≡ whole → now ++ code (rest / 94) ≡ whole
more out now whole rest big after before =
    ap (λ l. l ++ code (rest / 94)) after ∙ append_assoc out ((33 + rest % 94) ∷ []) (code (rest / 94)) ∙ ap (λ l. out ++ l) (sym (code_more rest big)) ∙ before

pub digits-preserved : goal.digits-preserved
digits-preserved c = more c.digits.out.items c.push.new.self.items _ c.digits.rest c.digits-test.true c.in_ok-push.ensures.items c.digits.invariant

pub returns : goal.returns
returns c = c.in_ok-push-2.ensures.items ∙ ap (λ l. c.digits.out.items ++ l) (sym (code_last c.digits.rest (omega arith))) ∙ c.digits.invariant
