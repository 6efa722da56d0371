-- The turns of an evaluation, as plain data.
use Rattle.std.specs.Prelude.{ℕ, List, [], ◌∷◌, ◌++◌, max, Bool, true, false}
use Rattle.safl_word.specs.Words.{Word}
use Rattle.safl_word.specs.declared.primitive.Primitive.{Primitive}
use Rattle.safl_term.specs.Terms.{Term, Terms}
use Rattle.safl_term.specs.Tree.{shown_term, shown_terms}
use Rattle.safl_interpreter.specs.declared.frame.Then as thens
use Rattle.safl_interpreter.specs.declared.frame.Then.TheVariants as then
use Rattle.safl_interpreter.specs.declared.frame.Frame as frames
use Rattle.safl_interpreter.specs.declared.turn.Turn as turns
use Rattle.safl_interpreter.specs.declared.turn.Turn.TheVariants as turn

-- what is done with the words of all parts of a term
pub data Then : Type 0 where
  Choose : (a b : Term) → Then
  Bind : (body : Term) → Then
  Operate : (primitive : Primitive) → Then
  Apply : (f : ℕ) (is_loop : Bool) → Then

-- parts of a term that are evaluated in the same slots
pub record Frame : Type 0 where
  pub then : Then
  pub rest : Terms
  pub words : List Word
  pub slots : List Word
  pub begun : ℕ
  pub ready : ℕ

-- the parts of a term, of which none has been evaluated
abbrev pub begun : Then → Terms → List Word → ℕ → Frame
begun then ts slots now = record { then = then; rest = ts; words = []; slots = slots; begun = now; ready = now }

-- the frame when a part has come to a word, and is ready in a cycle
abbrev pub with_word : Frame → Word → ℕ → Frame
with_word r v n = record r { words = r.words ++ v ∷ []; ready = max r.ready n }

-- the frame with other parts left
abbrev pub with_rest : Frame → Terms → Frame
with_rest r ts = record r { rest = ts }

-- whether a call is made when all words are known
abbrev pub applies : Then → Bool
applies (Choose a b) = false
applies (Bind b) = false
applies (Operate p) = false
applies (Apply f is_loop) = true

abbrev pub calls : Frame → Bool
calls r = applies r.then

-- a term is evaluated from a cycle on, parts of a term are evaluated, or a term is ready in a cycle
pub data Turn : Type 0 where
  Enter : (t : Term) (slots : List Word) (now : ℕ) → Turn
  Within : (r : Frame) → Turn
  Leave : (v : Word) (now : ℕ) → Turn

abbrev pub shown_then : thens.Then → Then
shown_then (then.Choose a b) = Choose (shown_term a.now) (shown_term b.now)
shown_then (then.Bind b) = Bind (shown_term b.now)
shown_then (then.Operate p) = Operate p
shown_then (then.Apply f is_loop) = Apply f is_loop

abbrev pub shown_frame : frames.Frame → Frame
shown_frame r = record {
  then = shown_then r.then;
  rest = shown_terms r.rest.now;
  words = r.words.items;
  slots = r.slots.items;
  begun = r.begun;
  ready = r.ready;
}

abbrev pub shown_turn : turns.Turn → Turn
shown_turn (turn.Enter t slots now) = Enter (shown_term t.now) slots.items now
shown_turn (turn.Within r) = Within (shown_frame r)
shown_turn (turn.Leave v now) = Leave v now
