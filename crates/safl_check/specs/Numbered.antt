-- The program in numbers that belongs to a form.
use Rattle.std.specs.Prelude.{ℕ, zero, suc, ◌-◌, List, [], length, map, slice_get}
use Rattle.std.specs.Option.{option_map_or}
use Rattle.safl_word.specs.Words.{no_word}
use Rattle.safl_term.specs.Names.{Names}
use Rattle.safl_term.specs.Program.{Program}
use Rattle.safl_term.specs.Terms.{Const}
use Rattle.safl_term.specs.declared.checked.Site.{Site}
use Rattle.safl_typing.specs.Forms.{FunctionForm, Form}

-- something of function f of the form, or a default if there is no such function
abbrev pub form_function : {A : Type 0} → (FunctionForm → A) → A → Form → ℕ → A
form_function has default c f = option_map_or has (slice_get c.functions f) default

-- something of a site. Sites are numbered from 1; for site 0 it is this number
abbrev pub form_site : (Site → ℕ) → ℕ → Form → ℕ → ℕ
form_site has outside c zero = outside
form_site has outside c (suc k) = option_map_or has (slice_get c.sites k) 0

-- the program in numbers. Main is the last function
unfoldable pub program_in : Form → Program
program_in c = record {
  functions = length c.functions;
  sites = length c.sites;
  main = length c.functions - 1;
  unit = form_function (λ f. f.unit) 0 c;
  body = form_function (λ f. f.body) (Const no_word) c;
  params = form_function (λ f. map (λ p. p.width) f.params) [] c;
  result = form_function (λ f. f.width) 0 c;
  caller = form_site (λ s. s.caller) 0 c;
  callee = form_site (λ s. s.callee) (length c.functions - 1) c;
}

-- the names of functions, and those of their parameters
abbrev pub names_in : Form → Names
names_in c = record { name = form_function (λ f. f.name) [] c; params = form_function (λ f. map (λ p. p.name) f.params) [] c }

-- ---- parts by name

abbrev pub name_in : Form → ℕ → List ℕ
name_in c = form_function (λ f. f.name) [] c

abbrev pub param_names_in : Form → ℕ → List (List ℕ)
param_names_in c = form_function (λ f. map (λ p. p.name) f.params) [] c

abbrev pub main_in : Form → ℕ
main_in c = length c.functions - 1
