-- The walk over a program gives exactly the form that the program has.
use Rattle.safl_typing.proofs.Common.{Definition, Differ, Fault, Has, Parameter, bytes_eq, bytes_eq-Decides, list_any, or_else}
use Rattle.std.proofs.Common.{◌≡◌, ℕ, suc, ◌+◌, ◌≤◌, List, [], ◌∷◌, length, map, Some, None, Bool, true, false, cond, refl, sym, ap, ◌∙◌, subst, arith}
use Rattle.std.specs.Prelude.{Ok, ◌==◌, nat_le, codes}
use Rattle.std.proofs.lemmas.Bool.{eq-eqb, eqb-true, le-leb, leb-true}
use Rattle.safl_word.specs.declared.fault.Rule.TheVariants as rules
use Rattle.safl_term.specs.Terms.{Term}
use Rattle.safl_tree.specs.Printable.{OpensGroup, AreFormedDefinitions, IsFormedProgram}
use Rattle.safl_typing.specs.Rewriting.{Expression, rewritten, nodes, excess, long_let}
use Rattle.safl_typing.specs.Heads.{Slot, Head, Known, sites, unit_of, params_of, heads}
use Rattle.safl_word.specs.Limits.{bindings_max, functions_max, params_max, sites_max, nodes_max}
use Rattle.safl_typing.specs.Forms.{FunctionForm, Form, all_sites, nodes_of, param_names}
use Rattle.safl_typing.specs.Forms.{IsFunctionOf, AreFunctionsOf, IsLast, function_names, IsFormOf}
use Rattle.safl_term.proofs.OrElse.{neither}
use Rattle.safl_typing.specs.Walk.{after, unless, needs, fault, fault_with, limit, limits_from, limits, placed_params, head_fault}
use Rattle.safl_typing.specs.Walk.{joined_faults, group_fault, function, functions_from, main_fault, Exactly, outcome}
use Rattle.safl_typing.proofs.Counts.{has_sites}
use Rattle.safl_typing.proofs.Names.{some_none, Apart, in_order, differ_repeat, repeat_differ, unseen, differ_rest, apart_more, differ_first, apart_rest}
use Rattle.safl_typing.proofs.Complete.{typed, after_gives, unless_gives, needs_gives, has_checks}
use Rattle.safl_typing.specs.Ranges.{WideHeads}
use Rattle.safl_typing.proofs.Sound.{ok_is, after_ok, unless_ok, needs_ok, checks_has}
use Rattle.safl_typing.proofs.Limits.{none_both, limit_none, none_limit, excess_none, none_excess}
use Rattle.safl_typing.proofs.Formed.{width_wide, formed_range, params_wide, heads_wide}

pub as_many : (all : List Head) (n u w lo hi : ℕ) (ds : List Definition) (fs : List FunctionForm) → AreFunctionsOf all n u w lo hi ds fs → length fs ≡ length ds
as_many all n u w lo hi [] [] h = refl
as_many all n u w lo hi [] (f ∷ fs) h = absurd h
as_many all n u w lo hi (d ∷ ds) [] h = absurd h
as_many all n u w lo hi (d ∷ ds) (f ∷ fs) (m, is, j, rest) = ap (λ k. suc k) (as_many all (suc n) (unit_of n u d) d.width m hi ds fs rest)

-- ---- heads

names_of_params : (ps : List Parameter) → map (λ p. p.name) ps ≡ in_order (map (λ (p : Parameter). record { place = p.place; name = p.name }) ps)
names_of_params [] = refl
names_of_params (p ∷ ps) = ap (λ l. p.name ∷ l) (names_of_params ps)

places_length : (ps : List Parameter) → length (map (λ (p : Parameter). p.place) ps) ≡ length ps
places_length [] = refl
places_length (p ∷ ps) = ap (λ n. suc n) (places_length ps)

def_places_length : (ds : List Definition) → length (map (λ (d : Definition). d.place) ds) ≡ length ds
def_places_length [] = refl
def_places_length (d ∷ ds) = ap (λ n. suc n) (def_places_length ds)

-- what a head keeps
pub record IsHead (earlier : List (List ℕ)) (w : ℕ) (d : Definition) : Type 0 where
  pub fresh : list_any (bytes_eq d.name) earlier ≡ false
  pub width : w ≡ d.width
  pub params : Differ (param_names d)

cond_none : (b : Bool) (f : Fault) → cond b (Some f) None ≡ None → b ≡ false
cond_none true f e = some_none f e
cond_none false f e = refl

head_is : (earlier : List (List ℕ)) (w : ℕ) (d : Definition) → head_fault earlier w d ≡ None → IsHead earlier w d
head_is earlier w d e =
    let q = none_both (cond (list_any (bytes_eq d.name) earlier) (Some (fault rules.E06 d.place)) None) _ e in
    let r = none_both (needs (w == d.width) (fault_with rules.E12 d.place w d.width)) _ q.1 in
    record {
      fresh = cond_none _ _ q.0;
      width = eqb-true w d.width (needs_ok _ _ r.0);
      params = subst Differ (sym (names_of_params d.params)) (repeat_differ [] (placed_params d) r.1).0;
    }

is_head : (earlier : List (List ℕ)) (w : ℕ) (d : Definition) → IsHead earlier w d → head_fault earlier w d ≡ None
is_head earlier w d h =
    neither _ _ (rw h.fresh refl)
    (neither _ _ (needs_gives _ _ (eq-eqb w d.width h.width))
    (differ_repeat [] (placed_params d) (subst Differ (names_of_params d.params) h.params) (λ i j name p q. absurd cc)))

-- a head that has no fault, and what is left to look at in its group
pub record IsOpened (earlier : List (List ℕ)) (w : ℕ) (d : Definition) (ds : List Definition) : Type 0 where
  pub head : IsHead earlier d.width d
  pub joined : d.joined ≡ true → d.width ≡ w
  pub rest : joined_faults (d.name ∷ earlier) d.width ds ≡ None

opened : (b : Bool) (earlier : List (List ℕ)) (w : ℕ) (d : Definition) (ds : List Definition) → d.joined ≡ b
    → cond b None (or_else (head_fault earlier d.width d) (joined_faults (d.name ∷ earlier) d.width ds)) ≡ None
    → cond b (or_else (head_fault earlier w d) (joined_faults (d.name ∷ earlier) w ds)) None ≡ None
    → IsOpened earlier w d ds
opened true earlier w d ds q e f =
    let r = none_both (head_fault earlier w d) _ f in
    let h = head_is earlier w d r.0 in
    record { head = subst (λ (x : ℕ). IsHead earlier x d) h.width h; joined = λ z. sym h.width; rest = subst (λ (x : ℕ). joined_faults (d.name ∷ earlier) x ds ≡ None) h.width r.1 }
opened false earlier w d ds q e f =
    let r = none_both (head_fault earlier d.width d) _ e in
    record { head = head_is earlier d.width d r.0; joined = λ z. absurd cc; rest = r.1 }

-- ---- from the walk to the form

-- what the walk over definitions leaves
pub record IsWalked (all : List Head) (earlier : List (List ℕ)) (n u w lo placed_nodes : ℕ) (ds : List Definition) (fs : List FunctionForm) : Type 0 where
  pub last : ℕ
  pub functions : AreFunctionsOf all n u w lo (suc last) ds fs
  pub differ : Differ (function_names ds)
  pub apart : Apart earlier (function_names ds)
  pub few_sites : last ≤ sites_max
  pub few_nodes : placed_nodes + nodes_of ds ≤ nodes_max

walked : (all : List Head) (earlier : List (List ℕ)) (n u w lo placed_sites placed_nodes : ℕ) (ds : List Definition) (fs : List FunctionForm)
    → WideHeads all → AreFormedDefinitions ds → lo ≡ suc placed_sites → placed_sites ≤ sites_max → placed_nodes ≤ nodes_max
    → limits_from all n u placed_sites placed_nodes ds ≡ None → joined_faults earlier w ds ≡ None
    → functions_from all earlier n u lo ds ≡ Ok fs → IsWalked all earlier n u w lo placed_nodes ds fs
walked all earlier n u w lo ps pn [] fs wh form at few_sites few_nodes le je e =
    subst (λ (z : List FunctionForm). IsWalked all earlier n u w lo pn [] z) (ok_is [] fs e)
    (record { last = ps; functions = at; differ = λ i j name p q. absurd cc; apart = λ i j name p q. absurd cc; few_sites = few_sites; few_nodes = omega (arith, few_nodes) })
walked all earlier n u w lo ps pn (d ∷ ds) fs wh form at few_sites few_nodes le je e =
    let body : Expression = rewritten d.body in
    let unit : ℕ = unit_of n u d in
    let known : Known = record { heads = all; unit = unit } in
    let l0 = none_both (limit 2 params_max (excess params_max (map (λ (p : Parameter). p.place) d.params))) _ le in
    let l1 = none_both (limit 3 bindings_max (long_let body)) _ l0.1 in
    let l2 = none_both (needs (nat_le (ps + sites known body) sites_max) (fault_with rules.E16 d.place 4 sites_max)) _ l1.1 in
    let l3 = none_both (needs (nat_le (pn + nodes body) nodes_max) (fault_with rules.E16 d.place 5 nodes_max)) _ l2.1 in
    let in_sites : ps + sites known body ≤ sites_max = leb-true _ _ (needs_ok _ _ l2.0) in
    let in_nodes : pn + nodes body ≤ nodes_max = leb-true _ _ (needs_ok _ _ l3.0) in
    let u0 = unless_ok (group_fault earlier d ds) _ fs e in
    let o : IsOpened earlier w d ds = opened d.joined earlier w d ds refl u0.0 je in
    let q = after_ok _ _ fs u0.1 in
    let s = checks_has known (params_of d) true lo (lo + sites known body) (Exactly d.width) body q.0 refl wh (params_wide d.params form.0.1)
    (formed_range d.body form.0.3) (width_wide d.width form.0.2) q.1 in
    let r = after_ok _ _ fs q.2 in
    let next : lo + sites known body ≡ suc (ps + sites known body) = omega (arith, at) in
    let rest : IsWalked all (d.name ∷ earlier) (suc n) unit d.width (lo + sites known body) (pn + nodes body) ds r.0 =
    walked all (d.name ∷ earlier) (suc n) unit d.width (lo + sites known body) (ps + sites known body) (pn + nodes body) ds r.0 wh form.1 next in_sites in_nodes l3.1 o.rest r.1 in
    let met : d.width ≡ q.0.width = s.met in
    let f : FunctionForm = function unit lo d q.0.term in
    let is : IsFunctionOf all unit lo (lo + sites known body) d f =
    record {
      name = refl;
      params = refl;
      width = refl;
      unit = refl;
      first_site = refl;
      params_differ = o.head.params;
      few_params = subst
          (λ (z : ℕ). z ≤ params_max) (places_length d.params) (none_excess params_max _ (none_limit _ _ _ l0.0));
      short_lets = none_limit _ _ _ l1.0;
      body = subst (λ (z : ℕ). Has known (params_of d) true lo (lo + sites known body) body z q.0.term) (sym met) s.has;
    } in
    subst (λ (z : List FunctionForm). IsWalked all earlier n u w lo pn (d ∷ ds) z) (ok_is _ fs r.2)
    (record {
      last = rest.last;
      functions = (lo + sites known body, is, o.joined, rest.functions);
      differ = differ_first d.name (function_names ds) rest.differ (λ j g. rest.apart 0 j d.name refl g);
      apart = apart_rest d.name earlier (function_names ds) o.head.fresh rest.apart;
      few_sites = rest.few_sites;
      few_nodes = omega (arith, rest.few_nodes);
    })

none_joined : (ds : List Definition) → OpensGroup ds → joined_faults [] 0 ds ≡ None
none_joined [] h = refl
none_joined (d ∷ ds) h = rw h refl

same_name : (b : Bool) (x y : List ℕ) (f : Fault) → bytes_eq x y ≡ b → needs b f ≡ None → x ≡ y
same_name true x y f q e = (bytes_eq-Decides x y).0 q
same_name false x y f q e = some_none f e

main_is : (ds : List Definition) → main_fault ds ≡ None → IsLast (codes "main") ds
main_is [] e = some_none _ e
main_is (d ∷ []) e = same_name (bytes_eq d.name (codes "main")) d.name (codes "main") _ refl e
main_is (d ∷ (c ∷ ds)) e = main_is (c ∷ ds) e

pub walk_form : (ds : List Definition) (c : Form) → IsFormedProgram ds → outcome ds ≡ Ok c → IsFormOf ds c
unfolding outcome
walk_form ds c form e =
    let l = unless_ok (limits ds) (after (functions_from (heads ds) [] 0 0 1 ds) (λ fs. unless (main_fault ds) (Ok (record { functions = fs; sites = all_sites 0 fs })))) c e in
    let l0 = none_both (limit 1 functions_max (excess functions_max (map (λ (d : Definition). d.place) ds))) (limits_from (heads ds) 0 0 0 0 ds) l.0 in
    let q = after_ok (functions_from (heads ds) [] 0 0 1 ds) (λ fs. unless (main_fault ds) (Ok (record { functions = fs; sites = all_sites 0 fs }))) c l.1 in
    let m = unless_ok (main_fault ds) (Ok (record { functions = q.0; sites = all_sites 0 q.0 })) c q.2 in
    let w : IsWalked (heads ds) [] 0 0 0 1 0 ds q.0 = walked (heads ds) [] 0 0 0 1 0 0 ds q.0 (heads_wide 0 0 ds form.formed) form.formed refl
    (omega arith) (omega arith) l0.1 (none_joined ds form.opens) q.1 in
    subst (λ (z : Form). IsFormOf ds z) (ok_is (record { functions = q.0; sites = all_sites 0 q.0 }) c m.1)
    (record {
      last_site = w.last;
      functions = w.functions;
      sites = refl;
      functions_differ = w.differ;
      main = main_is ds m.0;
      few_functions = subst (λ (n : ℕ). n ≤ functions_max) (def_places_length ds) (none_excess functions_max _ (none_limit _ _ _ l0.0));
      few_sites = w.few_sites;
      few_nodes = omega (arith, w.few_nodes);
    })

-- ---- from the form to the walk

pub functions_rise : (all : List Head) (n u w lo hi : ℕ) (ds : List Definition) (fs : List FunctionForm) → AreFunctionsOf all n u w lo hi ds fs → lo ≤ hi
functions_rise all n u w lo hi [] [] h = omega (arith, h)
functions_rise all n u w lo hi [] (f ∷ fs) h = absurd h
functions_rise all n u w lo hi (d ∷ ds) [] h = absurd h
functions_rise all n u w lo hi (d ∷ ds) (f ∷ fs) (m, is, j, rest) =
    omega (
      arith,
      functions_rise all (suc n) (unit_of n u d) d.width m hi ds fs rest,
      has_sites (record { heads = all; unit = unit_of n u d })
          (params_of d) true lo m (rewritten d.body) d.width f.body is.body,
    )

-- no definition passes a limit
limits_kept : (all : List Head) (n u w lo hi placed_sites placed_nodes : ℕ) (ds : List Definition) (fs : List FunctionForm)
    → lo ≡ suc placed_sites → hi ≤ suc sites_max → placed_nodes + nodes_of ds ≤ nodes_max → AreFunctionsOf all n u w lo hi ds fs
    → limits_from all n u placed_sites placed_nodes ds ≡ None
limits_kept all n u w lo hi ps pn [] fs at few_sites few_nodes h = refl
limits_kept all n u w lo hi ps pn (d ∷ ds) [] at few_sites few_nodes h = absurd h
limits_kept all n u w lo hi ps pn (d ∷ ds) (f ∷ fs) at few_sites few_nodes (m, is, j, rest) =
    let body : Expression = rewritten d.body in
    let known : Known = record { heads = all; unit = unit_of n u d } in
    let ends : m ≡ lo + sites known body = has_sites known (params_of d) true lo m body d.width f.body is.body in
    let rise : m ≤ hi = functions_rise all (suc n) (unit_of n u d) d.width m hi ds fs rest in
    let in_sites : ps + sites known body ≤ sites_max = omega (arith, ends, rise, few_sites, at) in
    let in_nodes : pn + nodes body ≤ nodes_max = omega (arith, few_nodes) in
    let next : m ≡ suc (ps + sites known body) = omega (arith, ends, at) in
    let left : pn + nodes body + nodes_of ds ≤ nodes_max = omega (arith, few_nodes) in
    neither _ _ (limit_none _ _ _ (excess_none params_max _ (subst (λ (z : ℕ). z ≤ params_max) (sym (places_length d.params)) is.few_params)))
    (neither _ _ (limit_none _ _ _ is.short_lets)
    (neither _ _ (needs_gives _ _ (le-leb _ _ in_sites))
    (neither _ _ (needs_gives _ _ (le-leb _ _ in_nodes))
    (limits_kept all (suc n) (unit_of n u d) d.width m hi (ps + sites known body) (pn + nodes body) ds fs next few_sites left rest))))

-- no head of the members that follow has a fault
joined_kept : (all : List Head) (earlier : List (List ℕ)) (n u w lo hi : ℕ) (ds : List Definition) (fs : List FunctionForm)
    → AreFunctionsOf all n u w lo hi ds fs → Differ (function_names ds) → Apart earlier (function_names ds) → joined_faults earlier w ds ≡ None
joined_kept all earlier n u w lo hi [] fs h d a = refl
joined_kept all earlier n u w lo hi (x ∷ ds) [] h d a = absurd h
joined_kept all earlier n u w lo hi (x ∷ ds) (f ∷ fs) (m, is, j, rest) d a =
    by x.joined refl (λ q. subst (λ (z : ℕ). joined_faults (x.name ∷ earlier) z ds ≡ None) (j q)
    (joined_kept all (x.name ∷ earlier) (suc n) (unit_of n u x) x.width m hi ds fs rest (differ_rest x.name (function_names ds) d)
    (apart_more x.name earlier (function_names ds) d a)))
  where
    by : (b : Bool) → x.joined ≡ b → (x.joined ≡ true → joined_faults (x.name ∷ earlier) w ds ≡ None) → cond b (or_else (head_fault earlier w x) (joined_faults (x.name ∷ earlier) w ds)) None ≡ None
    by true q g = neither _ _ (is_head earlier w x (record { fresh = unseen x.name earlier (function_names ds) a; width = sym (j q); params = is.params_differ })) (g q)
    by false q g = refl

group_kept : (b : Bool) (earlier : List (List ℕ)) (d : Definition) (ds : List Definition) → IsHead earlier d.width d → joined_faults (d.name ∷ earlier) d.width ds ≡ None
    → cond b None (or_else (head_fault earlier d.width d) (joined_faults (d.name ∷ earlier) d.width ds)) ≡ None
group_kept true earlier d ds h e = refl
group_kept false earlier d ds h e = neither _ _ (is_head earlier d.width d h) e

function_parts : (x y : List ℕ) (ps qs : List Slot) (v w u t lo l : ℕ) (b : Term) → x ≡ y → ps ≡ qs → v ≡ w → u ≡ t → lo ≡ l
    → ◌≡◌ {A = FunctionForm} (record { name = x; params = ps; width = v; unit = u; first_site = lo; body = b }) (record { name = y; params = qs; width = w; unit = t; first_site = l; body = b })
function_parts x y ps qs v w u t lo l b e1 e2 e3 e4 e5 = cc

function_same : (u lo : ℕ) (d : Definition) (f : FunctionForm) → f.name ≡ d.name → f.params ≡ params_of d → f.width ≡ d.width → f.unit ≡ u → f.first_site ≡ lo → function u lo d f.body ≡ f
function_same u lo d f a b c e g = function_parts d.name f.name (params_of d) f.params d.width f.width u f.unit lo f.first_site f.body (sym a) (sym b) (sym c) (sym e) (sym g)

functions_kept : (all : List Head) (earlier : List (List ℕ)) (n u w lo hi first : ℕ) (ds : List Definition) (fs : List FunctionForm)
    → first ≡ lo → AreFunctionsOf all n u w lo hi ds fs → Differ (function_names ds) → Apart earlier (function_names ds) → functions_from all earlier n u first ds ≡ Ok fs
functions_kept all earlier n u w lo hi first [] [] at h d a = refl
functions_kept all earlier n u w lo hi first [] (f ∷ fs) at h d a = absurd h
functions_kept all earlier n u w lo hi first (x ∷ ds) [] at h d a = absurd h
functions_kept all earlier n u w lo hi first (x ∷ ds) (f ∷ fs) at (m, is, j, rest) d a =
    let body : Expression = rewritten x.body in
    let unit : ℕ = unit_of n u x in
    let known : Known = record { heads = all; unit = unit } in
    let ends : m ≡ lo + sites known body = has_sites known (params_of x) true lo m body x.width f.body is.body in
    let next : first + sites known body ≡ m = omega (arith, ends, at) in
    let dr = differ_rest x.name (function_names ds) d in
    let ar = apart_more x.name earlier (function_names ds) d a in
    let joined = joined_kept all (x.name ∷ earlier) (suc n) unit x.width m hi ds fs rest dr ar in
    let checks = has_checks known (params_of x) true lo m first (Exactly x.width) body x.width f.body at is.body refl in
    let others = functions_kept all (x.name ∷ earlier) (suc n) unit x.width m hi (first + sites known body) ds fs next rest dr ar in
    unless_gives _ _ _ (group_kept x.joined earlier x ds (record { fresh = unseen x.name earlier (function_names ds) a; width = refl; params = is.params_differ }) joined)
    (after_gives _ _ (typed x.width f.body) _ checks
    (after_gives _ _ fs _ others
    (ap (λ (z : FunctionForm). Ok (z ∷ fs)) (function_same unit first x f is.name is.params is.width is.unit (is.first_site ∙ sym at)))))

is_main : (ds : List Definition) → IsLast (codes "main") ds → main_fault ds ≡ None
is_main [] h = absurd h
is_main (d ∷ []) h = needs_gives _ _ ((bytes_eq-Decides d.name (codes "main")).1 h)
is_main (d ∷ (c ∷ ds)) h = is_main (c ∷ ds) h

pub form_walk : (ds : List Definition) (c : Form) → IsFormOf ds c → outcome ds ≡ Ok c
unfolding outcome
form_walk ds c h =
    unless_gives _ _ _ (neither _ _ (limit_none _ _ _ (excess_none functions_max _
    (subst (λ (n : ℕ). n ≤ functions_max) (sym (def_places_length ds)) h.few_functions)))
    (limits_kept (heads ds) 0 0 0 1 (suc h.last_site) 0 0 ds c.functions refl (omega (arith, h.few_sites)) (omega (arith, h.few_nodes)) h.functions))
    (after_gives _ _ c.functions _ (functions_kept (heads ds) [] 0 0 0 1 (suc h.last_site) 1 ds c.functions refl h.functions h.functions_differ (λ i j name p q. absurd cc))
    (unless_gives _ _ _ (is_main ds h.main) (ap (λ z. Ok (record { functions = c.functions; sites = z })) (sym h.sites))))
