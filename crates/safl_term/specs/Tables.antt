-- The functions and sites of a program as they are stored, and the program with its names that they are.
use Rattle.std.specs.Prelude.{ℕ, zero, suc, ◌-◌, List, [], length, map, slice_get}
use Rattle.std.specs.Option.{option_map_or}
use Rattle.std.specs.String.{string_bytes}
use Rattle.safl_word.specs.Words.{no_word}
use Rattle.safl_term.specs.declared.checked.Function.{Function}
use Rattle.safl_term.specs.declared.checked.Site.{Site}
use Rattle.safl_term.specs.Names.{Names}
use Rattle.safl_term.specs.Program.{Program}
use Rattle.safl_term.specs.Slots.{HasSlots}
use Rattle.safl_term.specs.Terms as plain
use Rattle.safl_term.specs.Tree.{shown_term}

pub record Tables : Type 0 where
  pub functions : List Function
  pub sites : List Site

-- what a function has, or a default where it is not there
abbrev pub of_function : {A : Type 0} → (Function → A) → A → Tables → ℕ → A
of_function has default t f = option_map_or has (slice_get t.functions f) default

-- what a site has, where sites are numbered from 1; site 0 has a number of its own
abbrev pub of_site : (Site → ℕ) → ℕ → Tables → ℕ → ℕ
of_site has outside t zero = outside
of_site has outside t (suc k) = option_map_or has (slice_get t.sites k) 0

-- the last function
abbrev pub main_of : Tables → ℕ
main_of t = length t.functions - 1

unfoldable pub program_of : Tables → Program
program_of t = record {
  functions = length t.functions;
  sites = length t.sites;
  main = main_of t;
  unit = of_function (λ f. f.unit) 0 t;
  body = of_function (λ f. shown_term f.body) (plain.Const no_word) t;
  params = of_function (λ f. map (λ p. p.width) f.params.items) [] t;
  result = of_function (λ f. f.width) 0 t;
  caller = of_site (λ s. s.caller) 0 t;
  callee = of_site (λ s. s.callee) (main_of t) t;
}

-- the bytes of the names
unfoldable pub name_of : Tables → ℕ → List ℕ
name_of = of_function (λ f. string_bytes f.name) []

unfoldable pub param_names : Tables → ℕ → List (List ℕ)
param_names = of_function (λ f. map (λ p. string_bytes p.name) f.params.items) []

abbrev pub names_of : Tables → Names
names_of t = record { name = name_of t; params = param_names t }

-- the number of the first site of a function and of those that follow it
unfoldable pub first_site_of : Tables → ℕ → ℕ
first_site_of t = of_function (λ f. f.first_site) (suc (length t.sites)) t

-- a body's lets name their slots; the parameters come first
abbrev pub BodyHasSlots : Function → Type 0
BodyHasSlots f = HasSlots (length f.params.items) f.body
