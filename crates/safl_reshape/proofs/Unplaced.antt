-- Programs that are the same but for their places: they have the same form, and are as deep.
use Rattle.safl_reshape.proofs.Common.{Differ, Has, rewritten}
use Rattle.std.proofs.Common.{◌≡◌, ℕ, suc, ◌+◌, ◌≤◌, List, [], ◌∷◌, length, map, true, refl, sym, ap, ◌∙◌, subst, arith}
use Rattle.std.specs.Prelude.{codes}
use Rattle.std.specs.List.{AllByRecursion}
use Rattle.safl_tree.specs.Tree.{Tree, Number, Sized, Variable, If, Let, Cases, Op, Call, Trees, no_tree, a_tree, Binds, no_bind, a_bind, Arms}
use Rattle.safl_tree.specs.Tree.{default_arm, an_arm, Parameter, Definition, depth, deepest, deepest_bind, deepest_arm}
use Rattle.safl_tree.specs.Places.{unplaced, unplaced_trees, unplaced_binds, unplaced_arms, unplaced_parameter, unplaced_program}
use Rattle.safl_typing.specs.Heads.{Slot, Head, Known, unit_of, slot_of, params_of, head_of, heads_from, heads}
use Rattle.safl_typing.specs.Forms.{FunctionForm, Form, nodes_of, param_names, IsFunctionOf, AreFunctionsOf, IsLast, function_names, IsFormOf}
use Rattle.safl_word.specs.Limits.{params_max, functions_max, nodes_max}
use Rattle.safl_typing.proofs.Limits.{short_lets as lets_short, no_long_let}
use Rattle.safl_reshape.proofs.Twins.{Twin, twin_back, twin_nodes, twin_short, twin_has, unplaced_twin}

-- ---- definitions

-- the same but for places
pub record Same (d e : Definition) : Type 0 where
  pub joined : d.joined ≡ e.joined
  pub name : d.name ≡ e.name
  pub params : params_of d ≡ params_of e
  pub names : param_names d ≡ param_names e
  pub many : length d.params ≡ length e.params
  pub width : d.width ≡ e.width
  pub body : Twin (rewritten d.body) (rewritten e.body)

abbrev pub AllSame : List Definition → List Definition → Type 0
AllSame [] [] = Unit {0}
AllSame [] (e ∷ es) = ⊥
AllSame (d ∷ ds) [] = ⊥
AllSame (d ∷ ds) (e ∷ es) = Same d e × AllSame ds es

same_back : (d e : Definition) → Same d e → Same e d
same_back d e s = record { joined = sym s.joined; name = sym s.name; params = sym s.params; names = sym s.names; many = sym s.many; width = sym s.width; body = twin_back s.body }

pub all_back : (ds es : List Definition) → AllSame ds es → AllSame es ds
all_back [] [] s = tt
all_back [] (e ∷ es) s = absurd s
all_back (d ∷ ds) [] s = absurd s
all_back (d ∷ ds) (e ∷ es) s = (same_back d e s.0, all_back ds es s.1)

same_slots : (ps : List Parameter) → map slot_of ps ≡ map slot_of (map unplaced_parameter ps)
same_slots [] = refl
same_slots (p ∷ ps) = ap (λ (l : List Slot). slot_of p ∷ l) (same_slots ps)

same_names : (ps : List Parameter) → map (λ (p : Parameter). p.name) ps ≡ map (λ (p : Parameter). p.name) (map unplaced_parameter ps)
same_names [] = refl
same_names (p ∷ ps) = ap (λ (l : List (List ℕ)). p.name ∷ l) (same_names ps)

same_many : (ps : List Parameter) → length ps ≡ length (map unplaced_parameter ps)
same_many [] = refl
same_many (p ∷ ps) = ap (λ (n : ℕ). suc n) (same_many ps)

pub unplaced_same : (ds : List Definition) → AllSame ds (unplaced_program ds)
unplaced_same [] = tt
unplaced_same (d ∷ ds) = (
  record {
    joined = refl;
    name = refl;
    params = same_slots d.params;
    names = same_names d.params;
    many = same_many d.params;
    width = refl;
    body = unplaced_twin d.body;
  },
  unplaced_same ds,
)

-- ---- what they have in common

same_unit : (n u : ℕ) (d e : Definition) → Same d e → unit_of n u d ≡ unit_of n u e
same_unit n u d e s = rw s.joined refl

abbrev a_head : List ℕ → List Slot → ℕ → ℕ → Head
a_head x ps w u = record { name = x; params = ps; width = w; unit = u }

same_heads : (n u : ℕ) (ds es : List Definition) → AllSame ds es → heads_from n u ds ≡ heads_from n u es
same_heads n u [] [] s = refl
same_heads n u [] (e ∷ es) s = absurd s
same_heads n u (d ∷ ds) [] s = absurd s
same_heads n u (d ∷ ds) (e ∷ es) (s, r) =
    let v = same_unit n u d e s in
    let h : head_of (unit_of n u d) d ≡ head_of (unit_of n u e) e =
    ap (λ (x : List ℕ). a_head x (params_of d) d.width (unit_of n u d)) s.name ∙ (ap (λ (l : List Slot). a_head e.name l d.width (unit_of n u d)) s.params
    ∙ (ap (λ (w : ℕ). a_head e.name (params_of e) w (unit_of n u d)) s.width ∙ ap (λ (x : ℕ). a_head e.name (params_of e) e.width x) v)) in
    let t : heads_from (suc n) (unit_of n u d) ds ≡ heads_from (suc n) (unit_of n u e) es = same_heads (suc n) (unit_of n u d) ds es r ∙ ap (λ (x : ℕ). heads_from (suc n) x es) v in
    ap (λ (x : Head). x ∷ heads_from (suc n) (unit_of n u d) ds) h ∙ ap (λ (l : List Head). head_of (unit_of n u e) e ∷ l) t

same_functions : (ds es : List Definition) → AllSame ds es → function_names ds ≡ function_names es
same_functions [] [] s = refl
same_functions [] (e ∷ es) s = absurd s
same_functions (d ∷ ds) [] s = absurd s
same_functions (d ∷ ds) (e ∷ es) (s, r) = cc (s.name, same_functions ds es r)

same_length : (ds es : List Definition) → AllSame ds es → length ds ≡ length es
same_length [] [] s = refl
same_length [] (e ∷ es) s = absurd s
same_length (d ∷ ds) [] s = absurd s
same_length (d ∷ ds) (e ∷ es) (s, r) = ap (λ (n : ℕ). suc n) (same_length ds es r)

same_nodes : (ds es : List Definition) → AllSame ds es → nodes_of ds ≡ nodes_of es
same_nodes [] [] s = refl
same_nodes [] (e ∷ es) s = absurd s
same_nodes (d ∷ ds) [] s = absurd s
same_nodes (d ∷ ds) (e ∷ es) (s, r) = cc (twin_nodes s.body, same_nodes ds es r)

same_last : (x : List ℕ) (ds es : List Definition) → AllSame ds es → IsLast x ds → IsLast x es
same_last x [] [] s h = h
same_last x [] (e ∷ es) s h = absurd s
same_last x (d ∷ ds) [] s h = absurd s
same_last x (d ∷ []) (e ∷ []) (s, r) h = sym s.name ∙ h
same_last x (d ∷ []) (e ∷ (e2 ∷ es)) (s, r) h = absurd r
same_last x (d ∷ (d2 ∷ ds)) (e ∷ []) (s, r) h = absurd r
same_last x (d ∷ (d2 ∷ ds)) (e ∷ (e2 ∷ es)) (s, r) h = same_last x (d2 ∷ ds) (e2 ∷ es) r h

-- ---- forms

same_function : (all : List Head) (u lo hi : ℕ) (d e : Definition) (f : FunctionForm) → Same d e → IsFunctionOf all u lo hi d f → IsFunctionOf all u lo hi e f
same_function all u lo hi d e f s is =
    let k : Known = record { heads = all; unit = u } in
    let b : Has k (params_of d) true lo hi (rewritten e.body) d.width f.body = twin_has k (params_of d) true lo hi d.width f.body s.body is.body in
    record {
      name = is.name ∙ s.name;
      params = is.params ∙ s.params;
      width = is.width ∙ s.width;
      unit = is.unit;
      first_site = is.first_site;
      params_differ = subst Differ s.names is.params_differ;
      few_params = subst (λ (n : ℕ). n ≤ params_max) s.many is.few_params;
      short_lets = lets_short (rewritten e.body) (twin_short s.body (no_long_let (rewritten d.body) is.short_lets));
      body = subst (λ (l : List Slot). Has k l true lo hi (rewritten e.body) e.width f.body) s.params (subst (λ (w : ℕ). Has k (params_of d) true lo hi (rewritten e.body) w f.body) s.width b);
    }

same_forms : (all : List Head) (n u v w x lo hi : ℕ) (ds es : List Definition) (fs : List FunctionForm) → u ≡ v → w ≡ x → AllSame ds es →
    AreFunctionsOf all n u w lo hi ds fs → AreFunctionsOf all n v x lo hi es fs
same_forms all n u v w x lo hi [] [] fs p q s h = h
same_forms all n u v w x lo hi [] (e ∷ es) fs p q s h = absurd s
same_forms all n u v w x lo hi (d ∷ ds) [] fs p q s h = absurd s
same_forms all n u v w x lo hi (d ∷ ds) (e ∷ es) [] p q s h = absurd h
same_forms all n u v w x lo hi (d ∷ ds) (e ∷ es) (f ∷ fs) p q (s, r) (m, is, j, rest) =
    let y : unit_of n u d ≡ unit_of n v e = ap (λ (z : ℕ). unit_of n z d) p ∙ same_unit n v d e s in (
      m,
      subst (λ (z : ℕ). IsFunctionOf all z lo m e f) y (same_function all (unit_of n u d) lo m d e f s is),
      λ h. sym s.width ∙ (j (s.joined ∙ h) ∙ q),
      same_forms all (suc n) (unit_of n u d) (unit_of n v e) d.width e.width m hi ds es fs y s.width r rest,
    )

same_form : (ds es : List Definition) (c : Form) → AllSame ds es → IsFormOf ds c → IsFormOf es c
same_form ds es c s is = record {
  last_site = is.last_site;
  functions = subst (λ (l : List Head). AreFunctionsOf l 0 0 0 1 (suc is.last_site) es c.functions) (same_heads 0 0 ds es s)
      (same_forms (heads ds) 0 0 0 0 0 1 (suc is.last_site) ds es c.functions refl refl s is.functions);
  sites = is.sites;
  functions_differ = subst Differ (same_functions ds es s) is.functions_differ;
  main = same_last (codes "main") ds es s is.main;
  few_functions = subst (λ (n : ℕ). n ≤ functions_max) (same_length ds es s) is.few_functions;
  few_sites = is.few_sites;
  few_nodes = subst (λ (n : ℕ). n ≤ nodes_max) (same_nodes ds es s) is.few_nodes;
}

-- a form is one of the program without its places, and so of each program that differs from it in places alone
pub form_without_places : (ds es : List Definition) (c : Form) → unplaced_program ds ≡ unplaced_program es → IsFormOf ds c → IsFormOf es c
form_without_places ds es c e is =
    same_form (unplaced_program es) es c (all_back es (unplaced_program es) (unplaced_same es))
    (subst (λ (l : List Definition). IsFormOf l c) e (same_form ds (unplaced_program ds) c (unplaced_same ds) is))

-- ---- depths

mutual
  pub depth_unplaced : (t : Tree) → depth (unplaced t) ≡ depth t
  depth_unplaced (Number p n) = refl
  depth_unplaced (Sized p w n) = refl
  depth_unplaced (Variable p x) = refl
  depth_unplaced (If p c a b) = cc (depth_unplaced c, depth_unplaced a, depth_unplaced b)
  depth_unplaced (Let p bs t) = cc (depth_binds bs, depth_unplaced t)
  depth_unplaced (Cases p e arms) = cc (depth_unplaced e, depth_arms arms)
  depth_unplaced (Op p o ts) = ap (λ (n : ℕ). 1 + n) (depth_trees ts)
  depth_unplaced (Call p x ts) = ap (λ (n : ℕ). 1 + n) (depth_trees ts)

  depth_trees : (ts : Trees) → deepest (unplaced_trees ts) ≡ deepest ts
  depth_trees no_tree = refl
  depth_trees (a_tree t ts) = cc (depth_unplaced t, depth_trees ts)

  depth_binds : (bs : Binds) → deepest_bind (unplaced_binds bs) ≡ deepest_bind bs
  depth_binds no_bind = refl
  depth_binds (a_bind p x w t bs) = cc (depth_unplaced t, depth_binds bs)

  depth_arms : (arms : Arms) → deepest_arm (unplaced_arms arms) ≡ deepest_arm arms
  depth_arms (default_arm t) = depth_unplaced t
  depth_arms (an_arm l t arms) = cc (depth_unplaced t, depth_arms arms)

abbrev ShallowBy : ℕ → List Definition → Type 0
ShallowBy n ds = AllByRecursion (λ d. depth d.body ≤ n) ds

shallow_bare : (n : ℕ) (ds : List Definition) → ShallowBy n ds → ShallowBy n (unplaced_program ds)
shallow_bare n [] h = tt
shallow_bare n (d ∷ ds) h = (subst (λ (x : ℕ). x ≤ n) (sym (depth_unplaced d.body)) h.0, shallow_bare n ds h.1)

shallow_placed : (n m : ℕ) (ds : List Definition) → n ≤ m → ShallowBy n (unplaced_program ds) → ShallowBy m ds
shallow_placed n m [] le h = tt
shallow_placed n m (d ∷ ds) le h = (by (depth d.body) (subst (λ (x : ℕ). x ≤ n) (depth_unplaced d.body) h.0), shallow_placed n m ds le h.1)
  where
    by : (x : ℕ) → x ≤ n → x ≤ m
    by x l = omega (arith, l, le)

-- as shallow as a program that differs from it in places alone
pub shallow_without_places : (n m : ℕ) (ds es : List Definition) → n ≤ m → unplaced_program ds ≡ unplaced_program es → ShallowBy n ds → ShallowBy m es
shallow_without_places n m ds es le e h = shallow_placed n m es le (subst (ShallowBy n) e (shallow_bare n ds h))
