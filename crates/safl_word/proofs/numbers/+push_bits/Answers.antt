use Rattle.std.proofs.Common.{◌≡◌, ℕ, ◌+◌, ◌/◌, ◌%◌, ◌≤◌, List, [], ◌∷◌, ◌++◌, sym, ap, ◌∙◌, append_assoc}
use Rattle.std.proofs.lemmas.Result.{on_ok_weaker}
use Rattle.safl_word.specs.Numerals.{binary}
use Rattle.safl_word.proofs.Binary.{binary_more, binary_four}
use Rattle.safl_word.proofs.numbers.+push_bits.Goals as goal

after : (old mid now a b whole : List ℕ) → mid ≡ old ++ a → now ≡ mid ++ b → whole ≡ a ++ b → now ≡ old ++ whole
after old mid now a b whole first second is = second ∙ ap (λ (l : List ℕ). l ++ b) first ∙ append_assoc old a b ∙ ap (λ (l : List ℕ). old ++ l) (sym is)

four_more : (old mid now : List ℕ) (n : ℕ) → 16 ≤ n → mid ≡ old ++ binary (n / 16)
    → now ≡ mid ++ (48 + n % 16 / 8) ∷ (48 + n % 16 / 4 % 2) ∷ (48 + n % 16 / 2 % 2) ∷ (48 + n % 16 % 2) ∷ [] → now ≡ old ++ binary n
four_more old mid now n many first second =
    after old mid now (binary (n / 16)) ((48 + n % 16 / 8) ∷ (48 + n % 16 / 4 % 2) ∷ (48 + n % 16 / 2 % 2) ∷ (48 + n % 16 % 2) ∷ []) (binary n) first second (binary_four n many)

pub returns-then-number-lt16-clause-ok : goal.returns-then-number-lt16-clause-ok
returns-then-number-lt16-clause-ok t c =
    let n : ℕ = c.args.number in
    after c.args.out.now.items c.push_bits.new.out.items c.push-then-number-lt16.new.self.items (binary (n / 2)) ((48 + n % 2) ∷ []) (binary n)
    c.in_ok-push_bits.ensures.ok c.in_ok-push-2.ensures.items (binary_more n c.if-number-lt2.false)

pub returns-clause-ok : goal.returns-clause-ok
returns-clause-ok t c =
    on_ok_weaker c.push_four.result (
    four_more c.args.out.now.items c.push_bits-2.new.out.items c.push_four.new.out.items c.args.number c.if-number-lt16.false c.in_ok-push_bits-2.ensures.ok) c.push_four.ensures.ok
