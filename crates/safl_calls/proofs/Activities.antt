-- The machine with the stages of its sites kept in the activity that they belong to: a picture of the machine's states in which the laws are proved.
use Rattle.safl_calls.proofs.Common.{Program, Word, back_of, no_word}
use Rattle.std.specs.Prelude.{◌≡◌, ℕ, suc, List, [], ◌∷◌, ◌++◌, Some, Bool, true, false}
use Rattle.safl_term.specs.Meaning.{at_function}
use Rattle.safl_term.specs.Readiness.{Stage, Unsent, Sent, Returned, Ready, LoopTo, answer, wanted}
use Rattle.safl_calls.specs.Machine.{put, Event, Accept, Finish, Return, LoopInto}

abbrev pub fresh : ℕ → Stage
fresh k = Unsent

pub data Activity : Type 0 where
  Free : Activity
  Active : (f : ℕ) (args : List Word) (sites : ℕ → Stage) (serves : ℕ) → Activity
  Giving : (word : Word) (serves : ℕ) → Activity

pub record Scene : Type 0 where
  pub units : ℕ → Activity
  -- the call from outside
  pub outside : Stage

abbrev pub opening : Scene
opening = record { units = λ u. Free; outside = Unsent }

-- a unit, with its own site k in another state
abbrev pub mark : Activity → ℕ → Stage → Activity
mark Free k x = Free
mark (Active f xs s j) k x = Active f xs (put s k x) j
mark (Giving w j) k x = Giving w j

-- one event that is enabled, and the state afterwards
pub data Step (p : Program) (args : List Word) : Scene → Event → Scene → Type 0 where
  accept_main : {s : Scene} → s.outside ≡ Unsent
      → Step p args s (Accept 0) (record { units = put s.units (p.unit (p.callee 0)) (Active (p.callee 0) args fresh 0); outside = Sent })
  accept : {s : Scene} {k j : ℕ} {xs ws : List Word} {sites : ℕ → Stage}
      → s.units (p.unit (p.caller (suc k))) ≡ Active (p.caller (suc k)) xs sites j
      → sites (suc k) ≡ Unsent
      → wanted (back_of sites) xs (p.body (p.caller (suc k))) (suc k) ≡ Some ws
      → s.units (p.unit (p.callee (suc k))) ≡ Free
      → Step p args s (Accept (suc k)) (record {
        units = put (put s.units (p.unit (p.caller (suc k)))
            (mark (s.units (p.unit (p.caller (suc k)))) (suc k) Sent)) (p.unit (p.callee (suc k))) (Active (p.callee (suc k)) ws fresh (suc k));
        outside = s.outside;
      })
  finish : {s : Scene} {f j : ℕ} {v : Word} {xs : List Word} {sites : ℕ → Stage}
      → s.units (p.unit f) ≡ Active f xs sites j
      → answer (back_of sites) xs (p.body f) ≡ Ready v
      → Step p args s (Finish f) (record { units = put s.units (p.unit f) (Giving v j); outside = s.outside })
  loop : {s : Scene} {f h j : ℕ} {xs ws : List Word} {sites : ℕ → Stage}
      → s.units (p.unit h) ≡ Active f xs sites j
      → answer (back_of sites) xs (p.body f) ≡ LoopTo h ws
      → Step p args s (LoopInto h) (record { units = put s.units (p.unit h) (Active h ws fresh j); outside = s.outside })
  return_main : {s : Scene} {v : Word}
      → s.units (p.unit (p.callee 0)) ≡ Giving v 0
      → Step p args s (Return 0) (record { units = put s.units (p.unit (p.callee 0)) Free; outside = Returned v })
  give : {s : Scene} {k : ℕ} {v : Word}
      → s.units (p.unit (p.callee (suc k))) ≡ Giving v (suc k)
      → Step p args s (Return (suc k)) (record {
        units = put (put s.units (p.unit (p.caller (suc k)))
            (mark (s.units (p.unit (p.caller (suc k)))) (suc k) (Returned v))) (p.unit (p.callee (suc k))) Free;
        outside = s.outside;
      })

-- the events, one after another
pub data Trail (p : Program) (args : List Word) : Scene → List Event → Scene → Type 0 where
  l_none : {s : Scene} → Trail p args s [] s
  l_more : {s t r : Scene} {e : Event} {es : List Event} → Step p args s e t → Trail p args t es r → Trail p args s (e ∷ es) r

abbrev pub words_of : Activity → List Word
words_of Free = []
words_of (Active f xs s j) = xs
words_of (Giving v j) = []

-- the arguments with which an event applies f, by the state after it
abbrev pub applied_by : Program → ℕ → Event → Scene → List (List Word)
applied_by p f (Accept k) t = at_function f (p.callee k) (words_of (t.units (p.unit (p.callee k))))
applied_by p f (Finish g) t = []
applied_by p f (Return k) t = []
applied_by p f (LoopInto h) t = at_function f h (words_of (t.units (p.unit h)))

-- the arguments of the Accepts of f's sites and of the Loops of f, in order
abbrev pub applied : (p : Program) (f : ℕ) {args : List Word} {s t : Scene} {es : List Event} → Trail p args s es t → List (List Word)
applied p f l_none = []
applied p f (l_more {t = t} {e = e} q l) = applied_by p f e t ++ applied p f l

abbrev pub given_word : Activity → Word
given_word Free = no_word
given_word (Active f xs s j) = no_word
given_word (Giving v j) = v

-- the last word that each unit finished
abbrev pub last_after : Program → (ℕ → Word) → Event → Scene → ℕ → Word
last_after p last (Accept k) t = last
last_after p last (Return k) t = last
last_after p last (LoopInto h) t = last
last_after p last (Finish f) t = put last (p.unit f) (given_word (t.units (p.unit f)))

abbrev pub last_of : (p : Program) {args : List Word} {s t : Scene} {es : List Event} → (ℕ → Word) → Trail p args s es t → ℕ → Word
last_of p last l_none = last
last_of p last (l_more {t = t} {e = e} q l) = last_of p (last_after p last e t) l

-- the word that a site shows: its own where it is kept, and else the last one of the unit
abbrev pub show : Stage → Bool → Word → Stage
show Unsent b v = Unsent
show Sent b v = Sent
show (Returned w) true v = Returned w
show (Returned w) false v = Returned v

abbrev pub shown : Program → (ℕ → Bool) → (ℕ → Word) → (ℕ → Stage) → ℕ → Stage
shown p kept last s k = show (s k) (kept k) (last (p.unit (p.callee k)))
