-- A checked program: the program in numbers, and its names.
use Rattle.std.specs.Prelude.{◌≡◌, ℕ, suc, ◌<◌, ◌≤◌, List, Some, slice_get, true, codes, refl}
use Rattle.std.specs.Coded.{Coded, code_by}
use mathlib.Core.Path.{path_j}
use Rattle.safl_word.specs.Tokens.{IsSourceName}
use Rattle.safl_word.specs.Limits.{width_max, depth_max, functions_max, params_max, sites_max, nodes_max}
use Rattle.safl_term.specs.Names.{Names}
use Rattle.safl_term.specs.Program.{Program, arity}
use Rattle.safl_term.specs.Sizes.{body_nodes, depth, HasShortLets}
use Rattle.safl_term.specs.Tables.{Tables, program_of, names_of, first_site_of}
use Rattle.safl_term.specs.WellFormed.{IsWellFormed, Spans}

-- the tables are those of this program, with these names and these first sites
unfoldable pub AreTablesOf : Program → Names → (ℕ → ℕ) → Tables → Type 0
AreTablesOf C D first t = ◌≡◌ {A = Program × Names × (ℕ → ℕ)} (program_of t, names_of t, first_site_of t) (C, D, first)

pub record CheckedProgram : Type 0 where
  pub program : Program
  pub names : Names
  pub open names use {name, params as param_names}
  -- the number of the first site of a function and of those that follow it
  pub first_site : ℕ → ℕ
  -- what it is stored as
  pub tables : Tables
  pub stored : AreTablesOf program names first_site tables

-- ---- the program that tables are

pub own_tables : (t : Tables) → AreTablesOf (program_of t) (names_of t) (first_site_of t) t
unfolding AreTablesOf
own_tables t = refl

abbrev pub checked_of : Tables → CheckedProgram
checked_of t = record { program = program_of t; names = names_of t; first_site = first_site_of t; tables = t; stored = own_tables t }

pub tables_again : (c : CheckedProgram) → checked_of c.tables ≡ c
unfolding AreTablesOf own_tables
tables_again c =
    path_j (λ (q : Program × Names × (ℕ → ℕ)) (e : ◌≡◌ {A = Program × Names × (ℕ → ℕ)} (program_of c.tables, names_of c.tables, first_site_of c.tables) q).
    checked_of c.tables ≡ record { program = q.0; names = q.1; first_site = q.2; tables = c.tables; stored = e }) refl c.stored

-- a checked program is known by its tables
abbrev pub checked_code : Coded Tables → Coded CheckedProgram
checked_code code = code_by Tables code (λ c. c.tables) checked_of tables_again

-- ---- what is checked

-- the limits of a program from which a circuit is made
pub record IsWithinLimits (C : Program) : Type 0 where
  pub functions : C.functions ≤ functions_max
  pub params : (f : ℕ) → arity C f ≤ params_max
  pub sites : C.sites ≤ sites_max
  pub nodes : body_nodes C C.functions ≤ nodes_max
  pub bindings : (f : ℕ) → HasShortLets (C.body f)
  -- the functions that recurse on a body have a stack that is large enough
  pub depth : (f : ℕ) → depth (C.body f) ≤ depth_max

-- each name is one of the language. No two functions have the same name, and no two parameters of one function
pub record AreNamed (c : CheckedProgram) : Type 0 where
  pub of_functions : (f : ℕ) → f < c.program.functions → IsSourceName (c.name f)
  pub of_main : c.name c.program.main ≡ codes "main"
  pub of_functions_differ : (f g : ℕ) → f < c.program.functions → g < c.program.functions → c.name f ≡ c.name g → f ≡ g
  pub of_params : (f i : ℕ) (name : List ℕ) → slice_get (c.param_names f) i ≡ Some name → IsSourceName name
  pub of_params_differ : (f i j : ℕ) (name : List ℕ) → slice_get (c.param_names f) i ≡ Some name → slice_get (c.param_names f) j ≡ Some name → i ≡ j

-- the widths of results and parameters are widths of words
pub record HasWordWidths (C : Program) : Type 0 where
  pub results : (f : ℕ) → f < C.functions → (1 ≤ C.result f) × (C.result f ≤ width_max)
  pub params : (f i w : ℕ) → slice_get (C.params f) i ≡ Some w → (1 ≤ w) × (w ≤ width_max)

-- the program is well formed, within the limits, and in the order of the text
pub record IsChecked (c : CheckedProgram) : Type 0 where
  pub formed : IsWellFormed c.program
  pub widths : HasWordWidths c.program
  pub limits : IsWithinLimits c.program
  -- the functions of a group follow one another
  pub groups : (f g : ℕ) → g < c.program.functions → c.program.unit g ≤ f → f ≤ g → c.program.unit f ≡ c.program.unit g
  -- the sites of a body follow those of the bodies before it, and every site is in a body
  pub first_site : c.first_site 0 ≡ 1
  pub own_sites : (f : ℕ) → f < c.program.functions → Spans c.program f true (c.first_site f) (c.first_site (suc f)) (c.program.body f)
  pub names : AreNamed c
