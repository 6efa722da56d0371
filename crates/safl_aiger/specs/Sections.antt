-- Sections of a text: lines that are read one after another.
use Rattle.std.specs.Prelude.{◌+◌, ◌<◌, ◌≡◌, ℕ, List, ◌∷◌, ◌++◌, length, drop}
use Rattle.safl_aiger.specs.declared.reading.AigRule.{AigRule}
use Rattle.safl_aiger.specs.declared.reading.LineKind.{LineKind}
use Rattle.safl_aiger.specs.declared.sections.SectionErr.{SectionErr}
use Rattle.safl_aiger.specs.declared.sections.SectionErr.TheVariants.{Stopped, NoMemory}
use Rattle.safl_aiger.specs.Lines.{text_lines}
use Rattle.safl_aiger.specs.declared.sections.Body.{Body}
use Rattle.safl_aiger.specs.Reads.{AreGood, BreaksLine, Counts, total, line_kinds, own_numbers, latch_numbers, output_numbers, and_numbers}

-- the lines between two places of the text are of these kinds, with these numbers, which are good
pub record Passes (text : List ℕ) (most at : ℕ) (ws : List LineKind) (nss : List (List ℕ)) (next : ℕ) : Type 0 where
  pub front : List (List ℕ)
  pub lines_are : text_lines (drop at text) ≡ front ++ text_lines (drop next text)
  pub good : AreGood most ws front nss

-- from a place on, k lines are of their kinds, and the next one breaks a rule
pub record Stops (text : List ℕ) (most at : ℕ) (ws : List LineKind) (e : AigRule) (k : ℕ) : Type 0 where
  pub done : List LineKind
  pub kind : LineKind
  pub left : List LineKind
  pub nss : List (List ℕ)
  pub next : ℕ
  pub kinds : ws ≡ done ++ kind ∷ left
  pub passes : Passes text most at done nss next
  pub count : length done ≡ k
  pub breaks : BreaksLine most kind (text_lines (drop next text)) e

-- the section stops at a line that breaks a rule, or memory runs out
abbrev pub Fails : List ℕ → ℕ → ℕ → List LineKind → SectionErr → Type 0
Fails text most at ws (Stopped s) = Stops text most at ws s.rule s.place
Fails text most at ws NoMemory = Unit {0}

-- the line that breaks a rule is among the first ones, of which there are this many
abbrev pub IsWithin : ℕ → SectionErr → Type 0
IsWithin count (Stopped s) = s.place < count
IsWithin count NoMemory = Unit {0}

-- the same error with this many lines before it
abbrev pub Later : ℕ → SectionErr → SectionErr → Type 0
Later k (Stopped s) (Stopped t) = (t.rule ≡ s.rule) × (t.place ≡ k + s.place)
Later k (Stopped s) NoMemory = ⊥
Later k NoMemory (Stopped t) = ⊥
Later k NoMemory NoMemory = Unit {0}

-- the body of a text with these counts
pub record BodyIs (text : List ℕ) (at : ℕ) (c : Counts) (b : Body) : Type 0 where
  pub latches : length b.nexts.items ≡ c.latches
  pub outputs : length b.outputs.items ≡ c.outputs
  pub ands : length b.ands.items ≡ c.ands
  pub passes : Passes text (total c) at (line_kinds c) (own_numbers 1 c.inputs ++ (latch_numbers (1 + c.inputs) b.nexts.items ++ (output_numbers b.outputs.items ++ and_numbers (1 + c.inputs + c.latches) b.ands.items))) b.next
