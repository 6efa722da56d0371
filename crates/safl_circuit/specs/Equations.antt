-- The equations of a circuit, without names: its wires from its registers, and its registers after the edge.
use Rattle.std.specs.Prelude.{ℕ, zero, suc, ◌++◌, List, Option, Some, None, Bool, false, cond, not, ◌==◌, ◌&&◌, ◌||◌, nat_le, is_some, unwrap_or}
use Rattle.std.specs.Option.{option_or}
use Rattle.safl_calls.specs.Machine.{Event, Accept, Finish, Return, LoopInto}
use Rattle.safl_term.specs.Readiness.{Answer, LoopTo, NotYet, answer, wanted, word_of}
use Rattle.safl_term.specs.Program.{Program, unit_for}
use Rattle.safl_sites.specs.Plan.{Choice}
use Rattle.safl_word.specs.Words.{Word}
use Rattle.safl_calls.specs.Picks.{first, picks}

-- what the registers hold in a cycle
pub record Registers : Type 0 where
  -- of a unit: whether it runs, whether it has just finished, and the word with which it finished last
  pub run : ℕ → Bool
  pub fin : ℕ → Bool
  pub res : ℕ → Word
  -- of a function: whether its unit runs it, and its arguments
  pub at : ℕ → Bool
  pub arg : ℕ → List Word
  -- of a site: whether its call was sent, whether it has returned, and its word
  pub sent : ℕ → Bool
  pub got : ℕ → Bool
  pub keep : ℕ → Word

-- the inputs of a cycle: `start`, and the words of main's argument ports
pub record Inputs : Type 0 where
  pub start : Bool
  pub words : List Word

-- f's unit has another member than f
abbrev pub many : Program → ℕ → Bool
many C f = is_some (first {A = ℕ} (λ g. cond (C.unit g == C.unit f && not (g == f)) (Some g) None) C.functions)

-- ret: the unit of site k has just finished, and the site was sent and has not got its word. For the call of main it is `done`
abbrev pub ret : Program → Registers → ℕ → Bool
ret C r zero = r.fin (C.unit C.main)
ret C r (suc k) = r.fin (unit_for C (suc k)) && (r.sent (suc k) && not (r.got (suc k)))

-- What a site shows once it gets its word: the kept word if the site is kept and got its word before, else the word of its unit.
abbrev pub on_wires : Program → Choice → Registers → ℕ → Option Word
on_wires C P r zero = None
on_wires C P r (suc k) =
    cond (r.got (suc k) || ret C r (suc k)) (Some (cond (P.kept (suc k) && not (ret C r (suc k))) (r.keep (suc k)) (r.res (unit_for C (suc k))))) None

-- the path of f's body: its unit runs, and runs f
abbrev pub path : Program → Registers → ℕ → Bool
path C r f = r.run (C.unit f) && (not (many C f) || r.at f)

-- what the body of f comes to, and the words with which it wants the unsent site k
unfoldable pub body_says : Program → Choice → Registers → ℕ → Answer
body_says C P r f = cond (path C r f) (answer (on_wires C P r) (r.arg f) (C.body f)) NotYet

unfoldable pub body_wants : Program → Choice → Registers → ℕ → Option (List Word)
body_wants C P r k = cond (not (r.sent k) && nat_le k C.sites) (cond (path C r (C.caller k)) (wanted (on_wires C P r) (r.arg (C.caller k)) (C.body (C.caller k)) k) None) None

-- want: the path of the call is 1, its arguments are ready, and it was not sent
abbrev pub want : Program → Choice → Registers → ℕ → Bool
want C P r k = is_some (body_wants C P r k)

-- a site of the same unit with a lower number wants
abbrev pub wants_at : Program → Choice → Registers → ℕ → ℕ → Option ℕ
wants_at C P r u zero = None
wants_at C P r u (suc j) = cond (unit_for C (suc j) == u && want C P r (suc j)) (Some (suc j)) None

-- go: a site starts if it wants; with an arbiter only if its unit rests and no lower site wants. Main starts by `start`, if its unit rests
unfoldable pub go : Program → Choice → Registers → Inputs → ℕ → Bool
go C P r i zero = i.start && not (r.run (C.unit C.main))
go C P r i (suc k) =
    cond (P.arbiter (unit_for C (suc k)))
    (want C P r (suc k) && (not (r.run (unit_for C (suc k))) && not (is_some (first (wants_at C P r (unit_for C (suc k))) (suc k)))))
    (want C P r (suc k))

-- the arguments of a site that starts
abbrev pub go_words : Program → Choice → Registers → Inputs → ℕ → Option (List Word)
go_words C P r i zero = cond (go C P r i 0) (Some i.words) None
go_words C P r i (suc k) = cond (go C P r i (suc k)) (body_wants C P r (suc k)) None

-- end: the body of f is ready, with this word. loop: the body of a function of h's unit makes a tail call to h, so its path is 1
-- and its arguments, which are these, are ready; if several do, the first function counts
abbrev pub end_word : Program → Choice → Registers → ℕ → Option Word
end_word C P r f = word_of (body_says C P r f)

abbrev pub goes_to : ℕ → Answer → Option (List Word)
goes_to h (LoopTo g vs) = cond (g == h) (Some vs) None
goes_to h _ = None

abbrev pub loop_words : Program → Choice → Registers → ℕ → Option (List Word)
loop_words C P r h = first (λ g. cond (C.unit g == C.unit h) (goes_to h (body_says C P r g)) None) C.functions

-- in unit u: the word of the first function that ends, the first function that is looped to, the first site that starts the unit; and
-- the arguments of the first site that starts f
unfoldable pub ends : Program → Choice → Registers → ℕ → Option Word
ends C P r u = first (λ f. cond (C.unit f == u) (end_word C P r f) None) C.functions

unfoldable pub taken_loop : Program → Choice → Registers → ℕ → Option ℕ
taken_loop C P r u = first (λ h. cond (C.unit h == u && is_some (loop_words C P r h)) (Some h) None) C.functions

unfoldable pub starts : Program → Choice → Registers → Inputs → ℕ → Option ℕ
starts C P r i u = first (λ k. cond (unit_for C k == u && go C P r i k) (Some k) None) (suc C.sites)

unfoldable pub loads : Program → Choice → Registers → Inputs → ℕ → Option (List Word)
loads C P r i f = first (λ k. cond (C.callee k == f) (go_words C P r i k) None) (suc C.sites)

-- clear: the sites in u's functions are cleared, since one of the functions ends or is looped to
abbrev pub clears : Program → Choice → Registers → ℕ → Bool
clears C P r u = is_some (ends C P r u) || is_some (taken_loop C P r u)

-- a site or a tail call starts f; and one starts another function of f's unit
abbrev pub starts_it : Program → Choice → Registers → Inputs → ℕ → Bool
starts_it C P r i f = is_some (loads C P r i f) || is_some (loop_words C P r f)

abbrev pub starts_other : Program → Choice → Registers → Inputs → ℕ → Bool
starts_other C P r i f =
    is_some (first {A = ℕ} (λ g. cond (C.unit g == C.unit f && (not (g == f) && starts_it C P r i g)) (Some g) None) C.functions)

-- The registers after the edge. Clearing wins over setting, and everything else stays.
-- run: set by a go, cleared by an end. fin: 1 exactly after an end. res: loaded by an end.
-- at: set by a go or loop to the function, cleared by one to another function of the unit. arg: loaded by a go, otherwise by a
-- loop.
-- sent and got: set by go and by ret, cleared by an end or loop of the unit whose function has the site.
-- keep: loaded by ret, from the unit's res.
unfoldable pub next : Program → Choice → Inputs → Registers → Registers
next C P i r = record {
  run = λ u. cond (is_some (ends C P r u)) false (r.run u || is_some (starts C P r i u));
  fin = λ u. is_some (ends C P r u);
  res = λ u. unwrap_or (ends C P r u) (r.res u);
  at = λ f. cond (starts_other C P r i f) false (r.at f || starts_it C P r i f);
  arg = λ f. unwrap_or (option_or (loads C P r i f) (loop_words C P r f)) (r.arg f);
  sent = λ k. cond (clears C P r (C.unit (C.caller k))) false (r.sent k || go C P r i k);
  got = λ k. cond (clears C P r (C.unit (C.caller k))) false (r.got k || ret C r k);
  keep = λ k. cond (ret C r k) (r.res (unit_for C k)) (r.keep k);
}

-- the events of a cycle, in this order, each kind by rising number
abbrev pub returns : Program → Registers → ℕ → List Event
returns C r n = picks (ret C r) Return n

abbrev pub accepts : Program → Choice → Registers → Inputs → ℕ → List Event
accepts C P r i n = picks (go C P r i) Accept n

abbrev pub finishes : Program → Choice → Registers → ℕ → List Event
finishes C P r n = picks (λ f. is_some (end_word C P r f)) Finish n

abbrev pub goes_on : Program → Choice → Registers → ℕ → List Event
goes_on C P r n = picks (λ h. is_some (loop_words C P r h)) LoopInto n

abbrev pub cycle_events : Program → Choice → Registers → Inputs → List Event
cycle_events C P r i =
    returns C r (suc C.sites) ++ (accepts C P r i (suc C.sites) ++ (finishes C P r C.functions ++ goes_on C P r C.functions))

-- ---- parts by name

abbrev pub word_on : Program → Choice → Registers → ℕ → Word
word_on C P r k = cond (P.kept k && not (ret C r k)) (r.keep k) (r.res (unit_for C k))

abbrev pub loop_from : Program → Choice → Registers → ℕ → ℕ → Option (List Word)
loop_from C P r h g = cond (C.unit g == C.unit h) (goes_to h (body_says C P r g)) None
