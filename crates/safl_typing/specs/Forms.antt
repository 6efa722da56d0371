-- The numbered form of a program, and which form a program has.
use Rattle.std.specs.Prelude.{◌≡◌, ℕ, suc, ◌+◌, ◌≤◌, List, [], ◌∷◌, ◌++◌, length, map, None, true, codes}
use Rattle.std.specs.List.{AllByRecursion}
use Rattle.std.specs.String.{string_bytes}
use Rattle.safl_term.specs.declared.checked.Site.{Site}
use Rattle.safl_term.specs.declared.checked.Function.{Function}
use Rattle.safl_term.specs.declared.checked.Parameter as code
use Rattle.safl_term.specs.Checked.{CheckedProgram}
use Rattle.safl_term.specs.Tables.{Tables}
use Rattle.safl_term.specs.Terms as terms
use Rattle.safl_term.specs.Terms.{Term, Loop, Terms, Nil, Cons}
use Rattle.safl_word.specs.Limits.{bindings_max, depth_max, functions_max, params_max, sites_max, nodes_max}
use Rattle.safl_term.specs.Tree.{shown_term}
use Rattle.safl_tree.specs.Tree.{Definition, depth}
use Rattle.safl_typing.specs.Rewriting.{Expression, Number, Sized, Variable, If, Let, Op, Call, Expressions, no_expression, an_expression, Bindings, no_binding, a_binding, rewritten, nodes, long_let}
use Rattle.safl_typing.specs.Heads.{Slot, Head, unit_of, params_of, heads_from}
use Rattle.safl_typing.specs.Typing.{Differ, names, Has}

pub record FunctionForm : Type 0 where
  pub name : List ℕ
  pub params : List Slot
  pub width : ℕ
  -- the number of the first function of its group; and of the first site of its body and of those that follow it
  pub unit : ℕ
  pub first_site : ℕ
  pub body : Term

pub record Form : Type 0 where
  pub functions : List FunctionForm
  pub sites : List Site

-- the form that a checked program shows
abbrev pub shown_param : code.Parameter → Slot
shown_param p = record { name = string_bytes p.name; width = p.width }

abbrev pub shown_function : Function → FunctionForm
shown_function f = record { name = string_bytes f.name; params = map shown_param f.params.items; width = f.width; unit = f.unit; first_site = f.first_site; body = shown_term f.body }

abbrev pub form_of : Tables → Form
form_of t = record { functions = map shown_function t.functions; sites = t.sites }

abbrev pub shown_form : CheckedProgram → Form
shown_form c = form_of c.tables

-- the call sites of the body of g, in order
abbrev mutual
  pub sites_of : ℕ → Term → List Site
  sites_of g (terms.If c a b) = sites_of g c ++ (sites_of g a ++ sites_of g b)
  sites_of g (terms.Let ts b) = sites_of_all g ts ++ sites_of g b
  sites_of g (terms.Op o ts) = sites_of_all g ts
  sites_of g (terms.Call f i ts) = record { caller = g; callee = f } ∷ sites_of_all g ts
  sites_of g (Loop h ts) = sites_of_all g ts
  sites_of g _ = []

  pub sites_of_all : ℕ → Terms → List Site
  sites_of_all g Nil = []
  sites_of_all g (Cons t ts) = sites_of g t ++ sites_of_all g ts

-- the call sites of functions that are numbered from n on
abbrev pub all_sites : ℕ → List FunctionForm → List Site
all_sites n [] = []
all_sites n (f ∷ fs) = sites_of n f.body ++ all_sites (suc n) fs

-- ---- limits

-- no let has too many bindings, said part by part
abbrev mutual
  pub HasShortLets : Expression → Type 0
  HasShortLets (Number p n) = Unit {0}
  HasShortLets (Sized p w n) = Unit {0}
  HasShortLets (Variable p x) = Unit {0}
  HasShortLets (If p c a b) = HasShortLets c × HasShortLets a × HasShortLets b
  HasShortLets (Let p bs b) = (length (names bs) ≤ bindings_max) × HaveShortBound bs × HasShortLets b
  HasShortLets (Op p o es) = HaveShortLets es
  HasShortLets (Call p f es) = HaveShortLets es

  pub HaveShortLets : Expressions → Type 0
  HaveShortLets no_expression = Unit {0}
  HaveShortLets (an_expression e es) = HasShortLets e × HaveShortLets es

  pub HaveShortBound : Bindings → Type 0
  HaveShortBound no_binding = Unit {0}
  HaveShortBound (a_binding p x w e bs) = HasShortLets e × HaveShortBound bs

abbrev pub nodes_of : List Definition → ℕ
nodes_of [] = 0
nodes_of (d ∷ ds) = nodes (rewritten d.body) + nodes_of ds

-- no body is deeper than a checked one may be
abbrev pub AreShallow : List Definition → Type 0
AreShallow ds = AllByRecursion (λ d. depth d.body ≤ depth_max) ds

-- ---- forms

-- the names of a definition's parameters
abbrev pub param_names : Definition → List (List ℕ)
param_names d = map (λ p. p.name) d.params

-- A definition of group u has this form under these heads. Sites below lo are those of functions before it, from hi on of those after it.
pub record IsFunctionOf (all : List Head) (u lo hi : ℕ) (d : Definition) (f : FunctionForm) : Type 0 where
  pub name : f.name ≡ d.name
  pub params : f.params ≡ params_of d
  pub width : f.width ≡ d.width
  pub unit : f.unit ≡ u
  pub first_site : f.first_site ≡ lo
  pub params_differ : Differ (map (λ p. p.name) d.params)
  pub few_params : length d.params ≤ params_max
  pub short_lets : long_let (rewritten d.body) ≡ None
  -- the body has the width of the function's result, and is in tail position
  pub body : Has (record { heads = all; unit = u }) (params_of d) true lo hi (rewritten d.body) d.width f.body

-- Definitions have these forms. The first is function n, u is the group before it and w the width of that group, and their sites
-- are those from lo up to, but not including, hi. A joined definition has the width of its group.
abbrev pub AreFunctionsOf : List Head → ℕ → ℕ → ℕ → ℕ → ℕ → List Definition → List FunctionForm → Type 0
AreFunctionsOf all n u w lo hi [] [] = lo ≡ hi
AreFunctionsOf all n u w lo hi (d ∷ ds) (f ∷ fs) = (m : ℕ) × IsFunctionOf all (unit_of n u d) lo m d f × (d.joined ≡ true → d.width ≡ w) × AreFunctionsOf all (suc n) (unit_of n u d) d.width m hi ds fs
AreFunctionsOf all n u w lo hi ds fs = ⊥

-- the name is that of the last definition
abbrev pub IsLast : List ℕ → List Definition → Type 0
IsLast x [] = ⊥
IsLast x (d ∷ []) = d.name ≡ x
IsLast x (d ∷ (e ∷ ds)) = IsLast x (e ∷ ds)

-- the program has this numbered form
pub record IsFormOf (ds : List Definition) (c : Form) : Type 0 where
  pub last_site : ℕ
  pub functions : AreFunctionsOf (heads_from 0 0 ds) 0 0 0 1 (suc last_site) ds c.functions
  pub sites : c.sites ≡ all_sites 0 c.functions
  pub functions_differ : Differ (map (λ d. d.name) ds)
  pub main : IsLast (codes "main") ds
  pub few_functions : length ds ≤ functions_max
  pub few_sites : last_site ≤ sites_max
  pub few_nodes : nodes_of ds ≤ nodes_max

-- the definitions have a numbered form
abbrev pub HasForm : List Definition → Type 0
HasForm ds = (c : Form) × IsFormOf ds c

-- ---- parts by name

abbrev pub function_names : List Definition → List (List ℕ)
function_names ds = map (λ d. d.name) ds
