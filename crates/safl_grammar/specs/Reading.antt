-- Reading tokens from left to right. A reader gives a value and the rest, or the first fault and the rest there.
use Rattle.std.specs.Prelude.{ℕ, zero, suc, List, [], ◌∷◌, length, Option, Some, None, Result, Ok, Err, Bool, if◌then◌else◌}
use Rattle.safl_grammar.specs.Syntax.{Rule, Deep, Unexpected}

-- the value and the rest, or the rule that is broken and the rest at the fault
abbrev pub Read : Type 0 → Type 0 → Type 0
Read T A = Result (A × List T) (Rule × List T)

abbrev pub Reading : Type 0 → Type 0 → Type 0
Reading T A = List T → Read T A

-- goes on with what was read
infixl 10 ◌>>=◌
abbrev pub ◌>>=◌ : {T A B : Type 0} → Read T A → (A × List T → Read T B) → Read T B
(Ok x) >>= f = f x
(Err e) >>= f = Err e

-- the next token, if there is one
abbrev pub head_of : {T : Type 0} → List T → Option T
head_of [] = None
head_of (t ∷ ts) = Some t

abbrev pub taken : {T A : Type 0} → Option A → List T → List T → Read T A
taken None rest all = Err (Unexpected, all)
taken (Some x) rest all = Ok (x, rest)

abbrev pub checked : {T A : Type 0} → Rule → (A → Bool) → List T → A × List T → Read T A
checked rule fits all x = if fits x.0 then Ok x else Err (rule, all)

abbrev pub read_nothing : {T A : Type 0} → A → Reading T A
read_nothing x w = Ok (x, w)

abbrev pub read_token : {T A : Type 0} → (T → Option A) → Reading T A
read_token class [] = Err (Unexpected, [])
read_token class (t ∷ ts) = taken (class t) ts (t ∷ ts)

abbrev pub read_limited : {T A : Type 0} → Rule → (A → Bool) → (T → Option A) → Reading T A
read_limited rule fits class w = read_token class w >>= checked rule fits w

abbrev pub read_follows : {T A B : Type 0} → Reading T A → (A → Reading T B) → Reading T B
read_follows p q w = p w >>= λ x. q x.0 x.1

-- a test on the next token chooses between two readers
abbrev pub read_either : {T A : Type 0} → (Option T → Bool) → Reading T A → Reading T A → Reading T A
read_either g p q w = if g (head_of w) then p w else q w

-- repeats a reader as long as the test holds for the next token, at most this many times
abbrev pub read_turns : {T A : Type 0} → ℕ → (Option T → Bool) → (A → Reading T A) → A → Reading T A
read_turns zero g go a w = Ok (a, w)
read_turns (suc k) g go a w = if g (head_of w) then (go a w >>= λ x. read_turns k g go x.0 x.1) else Ok (a, w)

-- repeats a reader as long as the test holds for the next token. More turns than tokens are never made
unfoldable pub read_many : {T A : Type 0} → (Option T → Bool) → (A → Reading T A) → A → Reading T A
read_many g go a w = read_turns (suc (length w)) g go a w

-- the fault that no level of nesting is left
abbrev pub read_below : {T A : Type 0} → Reading T A
read_below w = Err (Deep, w)
