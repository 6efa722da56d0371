-- What a checked program has by its functions and sites, and what its form has.
use Rattle.safl_check.proofs.Common.{Function, Site, length-map, string_bytes}
use Rattle.std.proofs.Common.{◌≡◌, ℕ, zero, suc, ◌-◌, List, [], ◌∷◌, length, map, Option, Some, None, refl, sym, ap, ◌∙◌}
use Rattle.std.specs.Prelude.{slice_get}
use Rattle.std.specs.Option.{option_map_or, option_map}
use Rattle.std.proofs.lemmas.Option.{slice_get-map}
use Rattle.safl_word.specs.Words.{no_word}
use Rattle.safl_term.specs.Checked.{CheckedProgram}
use Rattle.safl_term.specs.Tables as tables
use Rattle.safl_term.specs.Tables.{Tables, program_of, name_of}
use Rattle.safl_term.proofs.HeldByChecked.{each_checked}
use Rattle.safl_term.specs.Terms.{Const}
use Rattle.safl_term.specs.Tree.{shown_term}
use Rattle.safl_term.specs.declared.checked.Parameter.{Parameter}
use Rattle.safl_typing.specs.Forms.{FunctionForm, form_of, shown_function, shown_param}
use Rattle.safl_check.specs.Numbered.{form_function, form_site, program_in, name_in, param_names_in}
use Rattle.safl_check.specs.Laws.{IsNumbered}

at_shown : {A : Type 0} (own : Function → A) (has : FunctionForm → A) (d : A) (o : Option Function) →
    ((f : Function) → own f ≡ has (shown_function f)) → option_map_or own o d ≡ option_map_or has (option_map shown_function o) d
at_shown own has d None h = refl
at_shown own has d (Some f) h = h f

-- what a function has is what its form has
function_shown : {A : Type 0} (own : Function → A) (has : FunctionForm → A) (d : A) (c : Tables) →
    ((f : Function) → own f ≡ has (shown_function f)) → (i : ℕ) → tables.of_function own d c i ≡ form_function has d (form_of c) i
function_shown own has d c h i = at_shown own has d (slice_get c.functions i) h ∙ ap (λ (o : Option FunctionForm). option_map_or has o d) (sym (slice_get-map shown_function c.functions i))

site_shown : (has : Site → ℕ) (m n : ℕ) (c : Tables) → m ≡ n → (k : ℕ) → tables.of_site has m c k ≡ form_site has n (form_of c) k
site_shown has m n c e zero = e
site_shown has m n c e (suc k) = refl

widths_shown : (ps : List Parameter) → map (λ p. p.width) ps ≡ map (λ p. p.width) (map shown_param ps)
widths_shown [] = refl
widths_shown (p ∷ ps) = ap (λ (l : List ℕ). p.width ∷ l) (widths_shown ps)

names_shown : (ps : List Parameter) → map (λ p. string_bytes p.name) ps ≡ map (λ p. p.name) (map shown_param ps)
names_shown [] = refl
names_shown (p ∷ ps) = ap (λ (l : List (List ℕ)). string_bytes p.name ∷ l) (names_shown ps)

program_shown : (c : Tables) → program_of c ≡ program_in (form_of c)
unfolding program_of program_in
program_shown c =
    let count : length c.functions ≡ length (map shown_function c.functions) = sym (length-map c.functions shown_function) in
    let last : length c.functions - 1 ≡ length (map shown_function c.functions) - 1 = ap (λ (n : ℕ). n - 1) count in
    λ k. record {
      functions = count k;
      sites = length c.sites;
      main = last k;
      unit = λ f. function_shown (λ g. g.unit) (λ g. g.unit) 0 c (λ g. refl) f k;
      body = λ f. function_shown (λ g. shown_term g.body) (λ g. g.body) (Const no_word) c (λ g. refl) f k;
      params = λ f. function_shown (λ g. map (λ p. p.width) g.params.items) (λ g. map (λ p. p.width) g.params) [] c (λ g. widths_shown g.params.items) f k;
      result = λ f. function_shown (λ g. g.width) (λ g. g.width) 0 c (λ g. refl) f k;
      caller = λ s. site_shown (λ t. t.caller) 0 0 c refl s k;
      callee = λ s. site_shown (λ t. t.callee) _ _ c last s k;
    }

name_shown : (c : Tables) → name_of c ≡ name_in (form_of c)
unfolding name_of
name_shown c = λ k f. function_shown (λ g. string_bytes g.name) (λ g. g.name) [] c (λ g. refl) f k

params_shown : (c : Tables) → tables.param_names c ≡ param_names_in (form_of c)
unfolding tables.param_names
params_shown c = λ k f. function_shown (λ g. map (λ p. string_bytes p.name) g.params.items) (λ g. map (λ p. p.name) g.params) [] c (λ g. names_shown g.params.items) f k

pub numbered : (c : CheckedProgram) → IsNumbered c
numbered = each_checked IsNumbered (λ t. record { program = program_shown t; names = λ k. record { name = name_shown t k; params = params_shown t k } })
