-- Terms and answers.
use Rattle.std.proofs.Common.{List, [], None, Option, Some, ap, arith, is_some, length, refl, suc, sym, true, ℕ, ◌∙◌, ◌∷◌, ◌≡◌, ◌≤◌}
use Rattle.std.proofs.lemmas.Bool.{false≢true}
use Rattle.safl_word.specs.Words.{Word}
use Rattle.safl_term.specs.Readiness.{Answer, LoopTo, NotYet, Ready, loop_to, ready_from, word_of}
use Rattle.safl_term.specs.Terms.{Call, Const, If, Let, Loop, Op, Term, Terms, Var}
use Rattle.safl_term.specs.Sizes.{nodes}
use Rattle.safl_term.specs.WellFormed.{AreWordsOf}

pub words_count : (vs : List Word) (ws : List ℕ) → AreWordsOf vs ws → length vs ≡ length ws
words_count [] [] h = refl
words_count [] (w ∷ ws) h = absurd h
words_count (v ∷ vs) [] h = absurd h
words_count (v ∷ vs) (w ∷ ws) h = ap suc (words_count vs ws h.2)

pub shown_call : (o : Option Word) → o ≡ word_of (ready_from o)
shown_call None = refl
shown_call (Some v) = refl

pub loop_word : (h : ℕ) (o : Option (List Word)) → None ≡ word_of (loop_to h o)
loop_word h None = refl
loop_word h (Some vs) = refl

pub let_by : {t b d : Term} {ts us : Terms} → t ≡ Let ts b → us ≡ ts → d ≡ b → t ≡ Let us d
let_by {t} {b} {d} {ts} {us} e f g = e ∙ (ap (λ z. Let z b) (sym f) ∙ ap (Let us) (sym g))

pub ready_word : (q : Answer) → is_some (word_of q) ≡ true → (v : Word) × (q ≡ Ready v)
ready_word (Ready v) e = (v, refl)
ready_word (LoopTo h vs) e = absurd (false≢true e)
ready_word NotYet e = absurd (false≢true e)

pub some_nodes : (t : Term) → 1 ≤ nodes t
some_nodes (Const w) = omega arith
some_nodes (Var i) = omega arith
some_nodes (Op p ts) = omega arith
some_nodes (If c a b) = omega arith
some_nodes (Let bs b) = omega arith
some_nodes (Call f k ts) = omega arith
some_nodes (Loop h ts) = omega arith
