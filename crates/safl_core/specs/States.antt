-- The state that the code keeps, and what an event does to it.
use Rattle.std.specs.Prelude.{◌≡◌, ◌==◌, ℕ, suc, ◌<◌, ◌≤◌, List, Option, None, Some, cond, length, get_or, slice_set}
use Rattle.safl_word.specs.Words.{Word}
use Rattle.safl_term.specs.Checked.{CheckedProgram, IsChecked}
use Rattle.safl_term.specs.Program.{Program}
use Rattle.safl_term.specs.Readiness.{NotYet}
use Rattle.safl_calls.specs.Machine as core
use Rattle.safl_core.specs.declared.spans.Span.{Span}
use Rattle.safl_core.specs.declared.state.State.{State}
use Rattle.safl_evaluate.specs.declared.places.Plan.{Plan}
use Rattle.safl_evaluate.specs.Asking.{Asks}
use Rattle.safl_core.specs.Knowing.{IsKnown, BackFits, RunsMember, HasRoom}
use Rattle.safl_core.specs.Modes.{unit_at, state_of}
use Rattle.safl_core.specs.Remembering.{Remembers, MayRenew}
use Rattle.safl_core.specs.Shown.{shown_of, serves_of, IsKept}
use Rattle.safl_evaluate.specs.Answers.{args_given}
use Rattle.safl_core.specs.Spans.{IsSpan}
use Rattle.safl_evaluate.specs.Stages.{stage_at, back_at}

-- the modes and stages of a state
abbrev pub calls_of : State → core.State
calls_of s = state_of s.modes.items s.stages.items

-- a unit ends its body and has this mode: the sites of its functions are unsent
abbrev pub ended_with : Program → State → ℕ → core.Mode → core.State
ended_with C s u m = record { unit = core.put (unit_at s.modes.items) u m; site = core.ended C u (stage_at s.stages.items) }

-- the state is that of a machine after this many events
abbrev pub IsStateAfter : CheckedProgram → List Word → ℕ → State → Type 0
IsStateAfter c args events s = IsKept (shown_of c args s.modes.items s.stages.items events) s.answers.items s.wants.each.items (length s.env.items)

-- there is one of each for each unit or site, and room for the slots of each body
pub record IsSized (C : Program) (s : State) : Type 0 where
  pub units : length s.modes.items ≡ C.functions
  pub sites : length s.stages.items ≡ suc C.sites
  pub answers : length s.answers.items ≡ C.functions
  pub wants : length s.wants.each.items ≡ suc C.sites
  pub room : HasRoom C (length s.env.items)

-- the body of a unit may be evaluated: if the unit runs, it runs a function of its group, with words of the right widths
pub record CanRefresh (c : CheckedProgram) (u : ℕ) (s : State) : Type 0 where
  pub checked : IsChecked c
  pub unit : u < c.program.functions
  pub sized : IsSized c.program s
  pub member : RunsMember c.program s.modes.items u
  pub back : BackFits c.program s.stages.items

-- what is noted of a unit is what its body comes to and wants now
abbrev pub Knows : Program → State → ℕ → Type 0
Knows C s u = IsKnown C (calls_of s) s.answers.items s.wants.each.items u

-- what is kept of the nodes of the body that a unit runs is right now
abbrev pub Recalls : Program → Plan → State → ℕ → Type 0
Recalls C plan s u = Remembers C plan (back_at s.stages.items) s.modes.items s.wants.each.items s.kept.items u

-- the body that a unit runs may be evaluated: for the first time, or since a site has returned
abbrev pub CanRenew : Program → Plan → Option ℕ → State → ℕ → Type 0
CanRenew C plan news s u = MayRenew C plan (back_at s.stages.items) news s.modes.items s.wants.each.items s.kept.items u

-- the state before and after a step, which leads to these modes and stages. What is kept of partial evaluation stays
pub record Steps (C : Program) (s t : State) (later : core.State) : Type 0 where
  pub next : calls_of t ≡ later
  pub answers : t.answers.items ≡ s.answers.items
  pub wants : t.wants.each.items ≡ s.wants.each.items
  pub kept : t.kept.items ≡ s.kept.items
  pub sized : IsSized C t

-- the state before and after a unit loops: it runs the new function for the same site, with the words that its body comes to
pub record Restarts (C : Program) (u h : ℕ) (s t : State) : Type 0 where
  pub args : List Word
  pub passed : Some args ≡ args_given (get_or s.answers.items u NotYet)
  pub steps : Steps C s t (ended_with C s u (core.Runs h (serves_of (unit_at s.modes.items u)) args))

-- the wants before and after a unit is cleared: the sites in its bodies are not wanted, and the others are as before
abbrev pub Clears : Program → ℕ → List (Option (List Word)) → List (Option (List Word)) → Type 0
Clears C u before after = (k : ℕ) → 0 < k → k ≤ C.sites → get_or after k None ≡ cond (C.unit (C.caller k) == u) None (get_or before k None)

-- the state before and after a body is evaluated: what it comes to and the words with which it wants its sites are noted and
-- kept; all else stays
pub record Evaluates (C : Program) (plan : Plan) (u : ℕ) (s t : State) : Type 0 where
  pub modes : t.modes.items ≡ s.modes.items
  pub stages : t.stages.items ≡ s.stages.items
  pub answers : t.answers.items ≡ slice_set s.answers.items u (core.says C (calls_of s) u)
  pub asks : Asks s.wants t.wants
  pub wants : (k : ℕ) → 0 < k → k ≤ C.sites → C.unit (C.caller k) ≡ u
      → get_or t.wants.each.items k None ≡ core.asked_as C (core.back (calls_of s)) ((calls_of s).unit u) (C.caller k) k
  pub others : (k : ℕ) → 0 < k → k ≤ C.sites → (C.unit (C.caller k) ≡ u → ⊥) → get_or t.wants.each.items k None ≡ get_or s.wants.each.items k None
  pub recalls : (v : ℕ) → ((v ≡ u → ⊥) → Recalls C plan s v) → Recalls C plan t v
  pub cells : length t.kept.items ≡ length s.kept.items
  pub sized : IsSized C t

-- the wants before and after a change: only sites of the span may be wanted otherwise
pub record ChangesWithin (C : Program) (touched : Span) (before after : List (Option (List Word))) : Type 0 where
  pub most : touched.end ≤ suc C.sites
  pub others : (k : ℕ) → 0 < k → k ≤ C.sites → (touched.first ≤ k → k < touched.end → ⊥) → get_or after k None ≡ get_or before k None

-- The state before and after the body of a unit is evaluated. Modes and stages stay. What is kept is right for this unit, and
-- stays right for each other unit for which it was.
pub record Refreshes (C : Program) (u : ℕ) (touched : Span) (s t : State) : Type 0 where
  pub modes : t.modes.items ≡ s.modes.items
  pub stages : t.stages.items ≡ s.stages.items
  pub known : (v : ℕ) → ((v ≡ u → ⊥) → Knows C s v) → Knows C t v
  pub wants : ChangesWithin C touched s.wants.each.items t.wants.each.items
  pub sized : IsSized C t

-- a body of this unit ends by the event, so its sites are unsent again
abbrev pub EndsBody : Program → core.Event → ℕ → Type 0
EndsBody C (core.Accept k) u = ⊥
EndsBody C (core.Finish f) u = u ≡ C.unit f
EndsBody C (core.Return k) u = ⊥
EndsBody C (core.LoopInto h) u = u ≡ C.unit h

-- The state before and after an event. The modes and stages are those of the next state, and what is kept of partial evaluation
-- is right for it. Only sites of the span may be wanted otherwise than before; if a body ends, the span has the sites of its
-- unit.
pub record Leads (c : CheckedProgram) (args : List Word) (e : core.Event) (touched : Span) (s t : State) : Type 0 where
  pub next : calls_of t ≡ core.fire c.program args (calls_of s) e
  pub known : (u : ℕ) → Knows c.program t u
  pub wants : ChangesWithin c.program touched s.wants.each.items t.wants.each.items
  pub ended : (u : ℕ) → EndsBody c.program e u → IsSpan c.program u touched
  pub sized : IsSized c.program t
