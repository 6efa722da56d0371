-- The sets of enabled events that a machine keeps.
use Rattle.std.specs.Prelude.{◌≡◌, ℕ, suc, ◌+◌, ◌<◌, ◌≤◌, ◌⊎◌, List, length, sum, take, get_or, replicate, Option, Bool, Some, true, not, is_some}
use Rattle.std.specs.Int.{from_bool}
use Rattle.safl_word.specs.Words.{Word}
use Rattle.safl_term.specs.Program.{Program, unit_for}
use Rattle.safl_number_set.specs.Groups.{counted, none_of, put_in}
use Rattle.safl_calls.specs.Machine.{State, Event, Accept, Finish, Return, LoopInto, asked}
use Rattle.safl_core.specs.declared.enabled.Enabled.{Enabled}
use Rattle.safl_core.specs.declared.spans.Span.{Span}
use Rattle.safl_core.specs.Called.{AreCalled}
use Rattle.safl_core.specs.Spans.{InSpan}
use Rattle.safl_core.specs.Testing.{can, is_idle, delivered}

-- the number is in the set exactly if it passes the test
abbrev pub IsRight : (ℕ → Bool) → List ℕ → ℕ → Type 0
IsRight p s k = get_or s k 0 ≡ from_bool (p k)

-- the set has exactly the numbers below n that pass the test
pub record Marks (p : ℕ → Bool) (n : ℕ) (s : List ℕ) : Type 0 where
  pub long : length s ≡ n
  pub each : (k : ℕ) → k < n → IsRight p s k

-- The sets are those of a state. One has the sites that are unsent and wanted, each in the group of the unit that it calls, and
-- the groups of idle units are open: so it counts the sites whose calls can be accepted. The others have the functions that can
-- finish, the sites that can get their word, the functions to which a unit can loop, and the busy units.
pub record AreMarked (C : Program) (args : List Word) (s : State) (e : Enabled) : Type 0 where
  pub called : AreCalled C e.accepts.group
  pub waits : Marks (λ k. is_some (asked C args s k)) (suc C.sites) e.accepts.within
  pub idle : Marks (λ u. is_idle (s.unit u)) C.functions e.accepts.opened
  pub finishes : Marks (λ f. can C args s (Finish f)) C.functions e.finishes
  pub returns : Marks (λ k. can C args s (Return k)) (suc C.sites) e.returns
  pub loops : Marks (λ h. can C args s (LoopInto h)) C.functions e.loops
  pub busy : Marks (λ u. not (is_idle (s.unit u))) C.functions e.busy

-- each set has a place for each site or for each function
pub record HasPlaces (C : Program) (e : Enabled) : Type 0 where
  pub called : AreCalled C e.accepts.group
  pub waits : length e.accepts.within ≡ suc C.sites
  pub idle : length e.accepts.opened ≡ C.functions
  pub finishes : length e.finishes ≡ C.functions
  pub returns : length e.returns ≡ suc C.sites
  pub loops : length e.loops ≡ C.functions
  pub busy : length e.busy ≡ C.functions

-- a set before and after an update: it is now right for each of these numbers, and stays right for those for which it was
pub record Rights (p : ℕ → Bool) (which : ℕ → Type 0) (old new : List ℕ) : Type 0 where
  pub long : length new ≡ length old
  pub kept : (k : ℕ) → IsRight p old k → IsRight p new k
  pub these : (k : ℕ) → k < length old → which k → IsRight p new k

-- the sets before and after an update: of the calls of some sites, the returns to others, and some functions and units
pub record Relists (C : Program) (args : List Word) (s : State) (calls backs functions units : ℕ → Type 0) (old new : Enabled) : Type 0 where
  pub called : new.accepts.group ≡ old.accepts.group
  pub waits : Rights (λ k. is_some (asked C args s k)) calls old.accepts.within new.accepts.within
  pub idle : Rights (λ u. is_idle (s.unit u)) units old.accepts.opened new.accepts.opened
  pub finishes : Rights (λ f. can C args s (Finish f)) functions old.finishes new.finishes
  pub returns : Rights (λ k. can C args s (Return k)) backs old.returns new.returns
  pub loops : Rights (λ h. can C args s (LoopInto h)) functions old.loops new.loops
  pub busy : Rights (λ u. not (is_idle (s.unit u))) units old.busy new.busy

abbrev pub Nothing : ℕ → Type 0
Nothing k = ⊥

-- the sets before and after an update of a unit and its functions; and of two units and theirs
abbrev pub RelistsUnit : Program → List Word → State → ℕ → Enabled → Enabled → Type 0
RelistsUnit C args s u old new = Relists C args s Nothing Nothing (λ f. C.unit f ≡ u) (λ v. v ≡ u) old new

abbrev pub RelistsBoth : Program → List Word → State → ℕ → ℕ → Enabled → Enabled → Type 0
RelistsBoth C args s u w old new = Relists C args s Nothing Nothing (λ f. (C.unit f ≡ u) ⊎ (C.unit f ≡ w)) (λ v. (v ≡ u) ⊎ (v ≡ w)) old new

-- the unit delivered to the site before, or does so now
abbrev pub IsServed : State → ℕ → Option ℕ → ℕ → Type 0
IsServed s u before k = (before ≡ Some k) ⊎ (delivered (s.unit u) ≡ Some k)

-- the sets before and after an update of the returns to the sites that a unit delivered to before and delivers to now
abbrev pub RelistsService : Program → List Word → State → ℕ → Option ℕ → Enabled → Enabled → Type 0
RelistsService C args s u before old new = Relists C args s Nothing (λ k. IsServed s u before k) Nothing Nothing old new

-- the sets before and after an update of two units, their functions, and the returns that the first one makes
abbrev pub RelistsAfter : Program → List Word → State → ℕ → ℕ → Option ℕ → Enabled → Enabled → Type 0
RelistsAfter C args s u w before old new = Relists C args s Nothing (λ k. IsServed s u before k)
    (λ f. (C.unit f ≡ u) ⊎ (C.unit f ≡ w)) (λ v. (v ≡ u) ⊎ (v ≡ w)) old new

-- the site is one of the span, or the event accepts its call
abbrev pub Touches : Span → Event → ℕ → Type 0
Touches touched e k = InSpan touched k ⊎ (e ≡ Accept k)

-- the sets before and after an update of the calls that an event touches
abbrev pub RelistsCalls : Program → List Word → State → Span → Event → Enabled → Enabled → Type 0
RelistsCalls C args s touched e old new = Relists C args s (λ k. Touches touched e k) Nothing Nothing Nothing old new

-- Only the events of these units see an event: those of the unit that serves the site, finishes or loops, and, if a site gets its
-- word, those of the unit whose body has the site.
abbrev pub Concerns : Program → Event → ℕ → ℕ → Type 0
Concerns C (Accept k) u w = (u ≡ unit_for C k) × (w ≡ u)
Concerns C (Finish f) u w = (u ≡ C.unit f) × (w ≡ u)
Concerns C (Return k) u w = (u ≡ unit_for C k) × (0 < k → w ≡ C.unit (C.caller k))
Concerns C (LoopInto h) u w = (u ≡ C.unit h) × (w ≡ u)

-- the number of events in the sets
abbrev pub marked : Enabled → ℕ
marked e = sum (counted e.accepts) + (sum e.finishes + (sum e.returns + sum e.loops))

-- the event has its number in its set, and this many events of the sets come before it
abbrev pub IsNth : Enabled → ℕ → Event → Type 0
IsNth e i (Accept k) = (get_or (counted e.accepts) k 0 ≡ 1) × (i ≡ sum (take k (counted e.accepts)))
IsNth e i (Finish f) = (get_or e.finishes f 0 ≡ 1) × (i ≡ sum (counted e.accepts) + sum (take f e.finishes))
IsNth e i (Return k) = (get_or e.returns k 0 ≡ 1) × (i ≡ sum (counted e.accepts) + (sum e.finishes + sum (take k e.returns)))
IsNth e i (LoopInto h) = (get_or e.loops h 0 ≡ 1) × (i ≡ sum (counted e.accepts) + (sum e.finishes + (sum e.returns + sum (take h e.loops))))

-- the event is one of the program
abbrev pub IsThere : Program → Event → Type 0
IsThere C (Accept k) = k ≤ C.sites
IsThere C (Finish f) = f < C.functions
IsThere C (Return k) = k ≤ C.sites
IsThere C (LoopInto h) = h < C.functions

-- only main's call waits, and no unit is busy
pub record OpensWith (C : Program) (e : Enabled) : Type 0 where
  pub units : List ℕ
  pub called : AreCalled C units
  pub accepts : e.accepts ≡ put_in (none_of units C.functions) 0 true
  pub finishes : e.finishes ≡ replicate C.functions 0
  pub returns : e.returns ≡ replicate (suc C.sites) 0
  pub loops : e.loops ≡ replicate C.functions 0
  pub busy : e.busy ≡ replicate C.functions 0
