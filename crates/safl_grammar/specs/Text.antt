-- Whole texts, and the first fault of a text.
use Rattle.std.specs.Prelude.{◌≡◌, ℕ, ◌≤◌, ◌<◌, List, [], ◌∷◌, ◌++◌, length, Ok, Err, ◌⊎◌}
use Rattle.safl_grammar.specs.Syntax.{Rule, Deep, Unexpected, Range, Syntax}
use Rattle.safl_grammar.specs.Reading.{Read, Reading, ◌>>=◌, head_of}

module _ {T A : Type 0} (grammar : ℕ → Syntax T A) where
  -- the tokens derive this value, with some depth of nesting
  abbrev pub Derives : List T → A → Type 0
  Derives w x = (n : ℕ) × (grammar n).derives w x

  -- the tokens can begin a text, limits aside
  abbrev pub Begins : List T → Type 0
  Begins w = (n : ℕ) × (grammar n).begins w

  -- the rule is broken at the first token of the rest, or at the end if there is no rest
  abbrev pub Breaks : Rule → List T → List T → Type 0
  Breaks Deep u rest = (n : ℕ) × (grammar n).passes Deep u (head_of rest)
  Breaks Range u rest = (n : ℕ) × (grammar n).passes Range u (head_of rest)
  Breaks Unexpected u [] = (x : A) → Derives u x → ⊥
  Breaks Unexpected u (t ∷ rest) = Begins (u ++ t ∷ []) → ⊥

  -- the tokens derive the value, and no limit is passed anywhere
  pub record Spells (w : List T) (x : A) : Type 0 where
    pub derived : Derives w x
    pub kept : (e : Rule) (u rest : List T) → w ≡ u ++ rest → (n : ℕ) → (grammar n).passes e u (head_of rest) → ⊥

  -- the order in which faults at one token are reported
  abbrev pub order_of : Rule → ℕ
  order_of Deep = 0
  order_of Unexpected = 1
  order_of Range = 2

  -- the first fault breaks this rule, with this rest
  pub record Faults (w : List T) (e : Rule) (rest : List T) : Type 0 where
    pub front : List T
    pub parts : w ≡ front ++ rest
    pub broken : Breaks e front rest
    pub first : (d : Rule) (u v : List T) → w ≡ u ++ v → Breaks d u v → (length front < length u) ⊎ ((length front ≡ length u) × (order_of e ≤ order_of d))

-- the result of a reader that must leave no rest
abbrev pub at_end : {T A : Type 0} → A × List T → Read T A
at_end (x, []) = Ok (x, [])
at_end (x, t ∷ rest) = Err (Unexpected, t ∷ rest)

abbrev pub read_whole : {T A : Type 0} → Reading T A → Reading T A
read_whole p w = p w >>= at_end
