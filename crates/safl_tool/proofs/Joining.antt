-- Texts that are made of pieces.
use Rattle.std.proofs.Common.{◌≡◌, ℕ, List, ◌++◌}
use Rattle.safl_word.proofs.Lists.{joined_three}

pub joined5 : (old x y z u v a b c d e : List ℕ) → x ≡ old ++ a → y ≡ x ++ b → z ≡ y ++ c → u ≡ z ++ d → v ≡ u ++ e → v ≡ old ++ ((((a ++ b) ++ c) ++ d) ++ e)
joined5 old x y z u v a b c d e p q r s t = joined_three old z u v ((a ++ b) ++ c) d e (joined_three old x y z a b c p q r) s t

pub joined7 : (old x y z u v s t a b c d e f g : List ℕ) → x ≡ old ++ a → y ≡ x ++ b → z ≡ y ++ c → u ≡ z ++ d → v ≡ u ++ e → s ≡ v ++ f → t ≡ s ++ g
    → t ≡ old ++ ((((((a ++ b) ++ c) ++ d) ++ e) ++ f) ++ g)
joined7 old x y z u v s t a b c d e f g p q r i j k l = joined_three old v s t ((((a ++ b) ++ c) ++ d) ++ e) f g (joined5 old x y z u v a b c d e p q r i j) k l
