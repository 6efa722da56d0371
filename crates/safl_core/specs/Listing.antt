-- The enabled events in order, and the number of busy units.
use Rattle.std.specs.Prelude.{ℕ, zero, suc, ◌+◌, ◌-◌, List, ◌++◌, Bool, cond, not, nat_lt}
use Rattle.safl_word.specs.Words.{Word}
use Rattle.safl_term.specs.Program.{Program}
use Rattle.safl_calls.specs.Machine.{State, Event, Accept, Finish, Return, LoopInto}
use Rattle.safl_calls.specs.Picks.{picks}
use Rattle.safl_core.specs.Testing.{can, is_idle}

-- the enabled accepts, then finishes, returns and loops, each by rising number
abbrev pub listed : Program → List Word → State → List Event
listed C args s =
    picks (λ k. can C args s (Accept k)) Accept (suc C.sites)
    ++ (picks (λ f. can C args s (Finish f)) Finish C.functions
    ++ (picks (λ k. can C args s (Return k)) Return (suc C.sites)
    ++ picks (λ h. can C args s (LoopInto h)) LoopInto C.functions))

-- all events of a program, enabled or not, in that order
abbrev pub event_at : Program → ℕ → Event
event_at C i =
    cond (nat_lt i (suc C.sites)) (Accept i)
    (cond (nat_lt (i - suc C.sites) C.functions) (Finish (i - suc C.sites))
    (cond (nat_lt (i - suc C.sites - C.functions) (suc C.sites)) (Return (i - suc C.sites - C.functions))
    (LoopInto (i - suc C.sites - C.functions - suc C.sites))))

-- how many events a program has, enabled or not
abbrev pub places : Program → ℕ
places C = suc C.sites + (C.functions + (suc C.sites + C.functions))

-- how many numbers below n pass a test
unfoldable pub count_below : (ℕ → Bool) → ℕ → ℕ
count_below p zero = 0
count_below p (suc n) = count_below p n + cond (p n) 1 0

-- how many units are not idle
abbrev pub busy : Program → State → ℕ
busy C s = count_below (λ u. not (is_idle (s.unit u))) C.functions
