-- What holds of every checked program.
use Rattle.safl_term.proofs.Common.{Program, arity, shown_term, sum_by-cons, width_max}
use Rattle.std.proofs.Common.{◌≡◌, ℕ, zero, suc, ◌+◌, ◌-◌, ◌<◌, ◌≤◌, ◌⊎◌, List, [], ◌∷◌, length, map, Option, Some, None, slice_get, take, get_or, option_map, refl, ap, ◌∙◌, subst, ⊎_elim, arith}
use Rattle.std.specs.Prelude.{sum_by}
use Rattle.std.specs.Option.{option_map_or}
use Rattle.std.specs.String.{string_bytes}
use Rattle.safl_word.specs.Words.{no_word}
use Rattle.safl_term.specs.Checked.{CheckedProgram, IsChecked, checked_of, tables_again}
use Rattle.safl_term.specs.Sizes.{nodes, body_nodes}
use Rattle.safl_term.specs.Terms.{Const}
use Rattle.safl_term.specs.Tables.{Tables, program_of, first_site_of, param_names}
use Rattle.safl_term.specs.declared.checked.Function.{Function}
use Rattle.safl_term.specs.declared.checked.Parameter.{Parameter}
use Rattle.std.proofs.lemmas.Bool.{cases_lt}
use Rattle.std.proofs.lemmas.List.{length-map, take_all}
use Rattle.std.proofs.lemmas.Option.{slice_get_past, slice_get_read, slice_get-map}
use Rattle.safl_term.proofs.Places.{fits_le}

-- what holds of the program of all tables
pub each_checked : (P : CheckedProgram → Type 0) → ((t : Tables) → P (checked_of t)) → (c : CheckedProgram) → P c
each_checked P h c = subst P (tables_again c) (h c.tables)

-- ---- main is the last function

last_of : (t : Tables) → (program_of t).main ≡ (program_of t).functions - 1
unfolding program_of
last_of t = refl

pub main_is_last : (c : CheckedProgram) → c.program.main ≡ c.program.functions - 1
main_is_last = each_checked (λ c. c.program.main ≡ c.program.functions - 1) last_of

called_of : (t : Tables) → (program_of t).callee 0 ≡ (program_of t).main
unfolding program_of
called_of t = refl

pub main_is_called : (c : CheckedProgram) → c.program.callee 0 ≡ c.program.main
main_is_called = each_checked (λ c. c.program.callee 0 ≡ c.program.main) called_of

-- ---- sites

-- the sites of a body end where those of the next begin
pub first_site_rises : (c : CheckedProgram) (f : ℕ) → IsChecked c → f < c.program.functions → c.first_site f ≤ c.first_site (suc f)
first_site_rises c f h within = fits_le _ _ _ _ _ _ (h.own_sites f within)

past_of : (t : Tables) → first_site_of t (program_of t).functions ≡ suc (program_of t).sites
unfolding program_of first_site_of
past_of t = rw (slice_get_past t.functions (length t.functions) (omega arith)) refl

-- the first site after the last function follows all sites
pub first_site_past : (c : CheckedProgram) → c.first_site c.program.functions ≡ suc c.program.sites
first_site_past = each_checked (λ c. c.first_site c.program.functions ≡ suc c.program.sites) past_of

-- the functions of a site are there
pub caller_in : (c : CheckedProgram) (k : ℕ) → IsChecked c → 1 ≤ k → k ≤ c.program.sites → c.program.caller k < c.program.functions
caller_in c k h least most = (h.formed.calls k least most).0

pub callee_in : (c : CheckedProgram) (k : ℕ) → IsChecked c → 1 ≤ k → k ≤ c.program.sites → c.program.callee k < c.program.functions
callee_in c k h least most = (h.formed.calls k least most).1

-- ---- parameters

-- a parameter that is read has its width
pub param_read : (t : Tables) (f i : ℕ) (g : Function) (p : Parameter) → f < (program_of t).functions → i < arity (program_of t) f
    → g ≡ get_or t.functions f g → p ≡ get_or g.params.items i p → slice_get ((program_of t).params f) i ≡ Some p.width
unfolding program_of
param_read t f i g p in_functions in_params is_g is_p =
    let there : slice_get t.functions f ≡ Some g = slice_get_read t.functions (length t.functions) f g refl in_functions is_g in
    let params : (program_of t).params f ≡ map (λ q. q.width) g.params.items = ap (λ o. option_map_or (λ f. map (λ q. q.width) f.params.items) o []) there in
    let count : i < length g.params.items = subst (λ n. i < n) (ap length params ∙ length-map g.params.items (λ q. q.width)) in_params in
    let read = slice_get_read g.params.items (length g.params.items) i p refl count is_p in
    ap (λ l. slice_get l i) params ∙ slice_get-map (λ q. q.width) g.params.items i ∙ ap (option_map (λ q. q.width)) read

-- and that is the width of a word
pub param_fits : (t : Tables) (f i : ℕ) (g : Function) (p : Parameter) → IsChecked (checked_of t) → f < (program_of t).functions → i < arity (program_of t) f
    → g ≡ get_or t.functions f g → p ≡ get_or g.params.items i p → (1 ≤ p.width) × (p.width ≤ width_max)
param_fits t f i g p h in_functions in_params is_g is_p = h.widths.params f i p.width (param_read t f i g p in_functions in_params is_g is_p)

as_many : (ps : List Parameter) → length (map (λ (p : Parameter). string_bytes p.name) ps) ≡ length (map (λ (p : Parameter). p.width) ps)
as_many [] = refl
as_many (p ∷ ps) = ap suc (as_many ps)

as_many_in : (o : _) → length (option_map_or (λ (f : Function). map (λ (p : Parameter). string_bytes p.name) f.params.items) o []) ≡ length
    (option_map_or (λ (f : Function). map (λ (p : Parameter). p.width) f.params.items) o [])
as_many_in None = refl
as_many_in (Some f) = as_many f.params.items

as_many_of : (t : Tables) (f : ℕ) → length (param_names t f) ≡ length ((program_of t).params f)
unfolding param_names program_of
as_many_of t f = as_many_in (slice_get t.functions f)

-- each parameter has a name
pub params_named : (c : CheckedProgram) (f : ℕ) → length (c.param_names f) ≡ arity c.program f
params_named = each_checked (λ c. (f : ℕ) → length (c.param_names f) ≡ arity c.program f) as_many_of

-- ---- the nodes of the bodies

pub nodes_rise : (C : Program) (f n : ℕ) → f ≤ n → body_nodes C f ≤ body_nodes C n
unfolding body_nodes
nodes_rise C f zero l = let e : f ≡ 0 = omega (arith, l) in let q = ap (body_nodes C) e in omega (arith, q)
nodes_rise C f (suc n) l = ⊎_elim
    (λ (q : n < f). let e : f ≡ suc n = omega (arith, l, q) in let h : body_nodes C f ≡ body_nodes C n + nodes (C.body n) = ap (body_nodes C) e in omega (arith, h))
    (λ (q : f ≤ n). let h = nodes_rise C f n q in omega (arith, h))
    (cases_lt n f)

pub nodes_within : (C : Program) (f n : ℕ) → f < n → body_nodes C f + nodes (C.body f) ≤ body_nodes C n
unfolding body_nodes
nodes_within C f n l = nodes_rise C (suc f) n (omega (arith, l))

abbrev size : Function → ℕ
size f = nodes (shown_term f.body)

nodes_next : (fs : List Function) (n : ℕ) → n < length fs → sum_by size (take (suc n) fs) ≡ sum_by size (take n fs) + nodes
    (option_map_or (λ (f : Function). shown_term f.body) (slice_get fs n) (Const no_word))
nodes_next [] n lt = absurd (omega (arith, lt))
nodes_next (f ∷ fs) zero lt = omega (arith, sum_by-cons size f [])
nodes_next (f ∷ fs) (suc n) lt = omega (arith, sum_by-cons size f (take (suc n) fs), sum_by-cons size f (take n fs), nodes_next fs n (omega (arith, lt)))

nodes_before : (t : Tables) (n : ℕ) → n ≤ length t.functions → body_nodes (program_of t) n ≡ sum_by size (take n t.functions)
unfolding body_nodes program_of
nodes_before t zero l = refl
nodes_before t (suc n) l = omega (arith, nodes_before t n (omega (arith, l)), nodes_next t.functions n (omega (arith, l)))

-- the nodes of all bodies, function by function
pub table_nodes : (t : Tables) → body_nodes (program_of t) (length t.functions) ≡ sum_by (λ (f : Function). nodes (shown_term f.body)) t.functions
table_nodes t = nodes_before t (length t.functions) (omega arith) ∙ ap (sum_by size) (take_all (length t.functions) t.functions (omega arith))

past_body_of : (t : Tables) (f : ℕ) → (program_of t).functions ≤ f → (program_of t).body f ≡ Const no_word
unfolding program_of
past_body_of t f l = ap (λ (o : Option Function). option_map_or (λ (f : Function). shown_term f.body) o (Const no_word)) (slice_get_past t.functions f l)

-- a function that is not there has a constant as body
pub past_body : (c : CheckedProgram) (f : ℕ) → c.program.functions ≤ f → c.program.body f ≡ Const no_word
past_body = each_checked (λ c. (f : ℕ) → c.program.functions ≤ f → c.program.body f ≡ Const no_word) past_body_of

-- no body has more nodes than all may have
pub few_nodes : (c : CheckedProgram) → IsChecked c → (f : ℕ) → nodes (c.program.body f) ≤ 50000
few_nodes c h f = ⊎_elim
    (λ (q : f < c.program.functions). let n = nodes_within c.program f c.program.functions q in let m = h.limits.nodes in omega (arith, n, m))
    (λ (q : c.program.functions ≤ f). let e = ap nodes (past_body c f q) in omega (arith, e))
    (cases_lt f c.program.functions)
