-- What the rest of an evaluation comes to.
use Rattle.std.specs.Prelude.{◌≡◌, ℕ, ◌+◌, max, List, [], ◌∷◌, ◌++◌, ◌↔◌}
use Rattle.safl_word.specs.Words.{Word, choose, slot}
use Rattle.safl_word.specs.Primitives.{apply_prim}
use Rattle.safl_term.specs.Program.{Program}
use Rattle.safl_term.specs.Terms.{Term}
use Rattle.safl_term.specs.Meaning.{Gives, GivesAll}
use Rattle.safl_interpreter.specs.Accounts.{Account, booked, counted, counted_all, ready, ready_all, cycles}
use Rattle.safl_interpreter.specs.Turns.{Then, Choose, Bind, Operate, Apply, Frame, Turn, Enter, Within, Leave}

-- a word, the cycle in which it is ready, and the account then
pub record Figures : Type 0 where
  pub word : Word
  pub time : ℕ
  pub account : Account

abbrev pub figures : Word → ℕ → Account → Figures
figures v n a = record { word = v; time = n; account = a }

-- what the evaluation of a term that begins in cycle n comes to
abbrev pub Evaluates : Program → List Word → Term → ℕ → Account → (Figures → Type 0) → Type 0
Evaluates C env t n a P = (v : Word) × (d : Gives C env t v) × P (figures v (ready C d n) (counted C d a))

-- What is done in cycle n with the words of all parts: a branch or a body is evaluated, or a primitive is applied.
abbrev pub Finishes : Program → Then → List Word → List Word → ℕ → Account → (Figures → Type 0) → Type 0
Finishes C (Choose a b) env vs n acc P = Evaluates C env (choose (slot vs 0) a b) n acc P
Finishes C (Bind b) env vs n acc P = Evaluates C (env ++ vs) b n acc P
Finishes C (Operate p) env vs n acc P = P (figures (apply_prim p vs) n acc)
Finishes C (Apply f is_loop) env vs n acc P = Evaluates C vs (C.body f) (n + cycles is_loop) (booked f is_loop acc) P

-- the remaining parts are evaluated, and then all words are known
abbrev pub GoesOn : Program → Frame → List Word → ℕ → Account → (Figures → Type 0) → Type 0
GoesOn C r vs n acc P =
    (us : List Word) × (ds : GivesAll C r.slots r.rest us)
    × Finishes C r.then r.slots (vs ++ us) (ready_all C ds r.begun n) (counted_all C ds acc) P

-- a word goes to the frames, of which the first is waiting for it, and these figures come out
abbrev pub Returns : Program → List Frame → Figures → Figures → Type 0
Returns C [] out x = x ≡ out
Returns C (r ∷ rs) out x = GoesOn C r (r.words ++ x.word ∷ []) (max r.ready x.time) x.account (Returns C rs out)

-- what a turn comes to
abbrev pub Comes : Program → Turn → Account → (Figures → Type 0) → Type 0
Comes C (Enter t slots n) acc P = Evaluates C slots t n acc P
Comes C (Within r) acc P = GoesOn C r r.words r.ready acc P
Comes C (Leave v n) acc P = P (figures v n acc)

-- whatever waits for the word of a turn, the two turns come to the same figures
abbrev pub ComeAlike : Program → Turn → Account → Turn → Account → Type 0
ComeAlike C s a t b = (rs : List Frame) (out : Figures) → Comes C s a (Returns C rs out) ↔ Comes C t b (Returns C rs out)
