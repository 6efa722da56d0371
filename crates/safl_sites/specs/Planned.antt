-- A checked program with its plan, and the tables that decide it.
use Rattle.std.specs.Prelude.{◌≡◌, ℕ, suc, ◌≤◌, ◌<◌, List, length, Bool, false, get_or, refl, ◌↔◌}
use Rattle.std.specs.Coded.{Coded, code_by, coded×, coded_list, coded_bool}
use mathlib.Core.Path.{path_j}
use Rattle.safl_term.specs.Checked.{CheckedProgram, IsChecked}
use Rattle.safl_term.specs.Program.{Program}
use Rattle.safl_sites.specs.declared.site_set.SiteSet.{SiteSet}
use Rattle.safl_sites.specs.Conflicts.{Reaches}
use Rattle.safl_sites.specs.Parallel.{ComesBefore}
use Rattle.safl_sites.specs.Plan.{Choice, IsPlan}
use Rattle.safl_sites.specs.SiteSets.{HasAt}

-- a choice as it is stored: by unit, and by site
pub record Flags : Type 0 where
  pub arbiters : List Bool
  pub keeps : List Bool

unfoldable pub choice_of : Flags → Choice
choice_of l = record { arbiter = λ u. get_or l.arbiters u false; kept = λ k. get_or l.keeps k false }

unfoldable pub AreFlagsOf : Choice → Flags → Type 0
AreFlagsOf P l = choice_of l ≡ P

pub record PlannedProgram : Type 0 where
  pub checked : CheckedProgram
  pub open checked use *
  pub choice : Choice
  pub open choice use *
  -- what the choice is stored as
  pub flags : Flags
  pub flagged : AreFlagsOf choice flags

-- ---- the program with the choice that flags are

pub own_flags : (l : Flags) → AreFlagsOf (choice_of l) l
unfolding AreFlagsOf
own_flags l = refl

abbrev pub planned_of : CheckedProgram → Flags → PlannedProgram
planned_of c l = record { checked = c; choice = choice_of l; flags = l; flagged = own_flags l }

pub flags_again : (p : PlannedProgram) → planned_of p.checked p.flags ≡ p
unfolding AreFlagsOf own_flags
flags_again p =
    path_j (λ (P : Choice) (e : choice_of p.flags ≡ P). planned_of p.checked p.flags ≡ record { checked = p.checked; choice = P; flags = p.flags; flagged = e }) refl p.flagged

-- a program with its plan is known by the program and the flags
abbrev pub flags_code : Coded Flags
flags_code =
    code_by (List Bool × List Bool) (coded× (coded_list coded_bool) (coded_list coded_bool)) (λ l. (l.arbiters, l.keeps)) (λ q. record { arbiters = q.0; keeps = q.1 }) (λ _. refl)

abbrev pub planned_code : Coded CheckedProgram → Coded PlannedProgram
planned_code code = code_by (CheckedProgram × Flags) (coded× code flags_code) (λ p. (p.checked, p.flags)) (λ q. planned_of q.0 q.1) flags_again

-- ---- the tables

-- the set of each body has the sites in reach of it
pub record ReachTable (C : Program) (bodies : List SiteSet) : Type 0 where
  pub count : length bodies ≡ C.functions
  pub sets : (f k : ℕ) → f < C.functions → HasAt bodies f k ↔ Reaches C k (C.body f)

-- the set of each site has the sites that come before it
pub record BeforeTable (C : Program) (before : List SiteSet) : Type 0 where
  pub count : length before ≡ suc C.sites
  pub sets : (j k : ℕ) → 1 ≤ k → k ≤ C.sites → HasAt before k j ↔ ComesBefore C j k

pub record IsPlanned (c : CheckedProgram) (l : Flags) (bodies before : List SiteSet) : Type 0 where
  pub checked : IsChecked c
  pub reach : ReachTable c.program bodies
  pub conflicts : BeforeTable c.program before
  pub units : length l.arbiters ≡ c.program.functions
  pub sites : length l.keeps ≡ suc c.program.sites
  pub plan : IsPlan c.program (choice_of l).arbiter (choice_of l).kept
