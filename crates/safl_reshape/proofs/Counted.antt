-- Call sites and nodes of expressions, counted part by part.
use Rattle.safl_reshape.proofs.Common.{Arm, Bind, Bound, Def, Definition, Expr, Labelled, Primitive, Tree, arms_of, binds_of, drop_read}
use Rattle.safl_reshape.proofs.Common.{nodes_of, site_total, sites_bounds, sites_in_tree, sites_labelled, sites_list, trees_of}
use Rattle.std.proofs.Common.{◌≡◌, ℕ, suc, ◌+◌, ◌<◌, List, [], ◌∷◌, length, drop, get_or, refl, sym, ap, ◌∙◌, arith, add-one}
use Rattle.safl_tree.specs.Tree as source
use Rattle.safl_tree.specs.Shown.{shown_tree, shown_trees, shown_bounds, shown_labelled, shown_definition, shown_definitions}
use Rattle.safl_typing.specs.Rewriting.{rewritten, rewritten_all, rewritten_binds, rewritten_arms, nodes, nodes_in, nodes_bound}
use Rattle.safl_typing.specs.Heads.{Head, Known, unit_of, callee, is_site, sites, sites_in, sites_bound}
use Rattle.safl_reshape.specs.declared.counts.Counts.{Counts}
use Rattle.safl_reshape.specs.Counting.{saturated, Adds, nodes_list, nodes_bounds, nodes_labelled}
use Rattle.safl_reshape.proofs.Listed.{list_sites, bounds_sites, arms_sites}

-- ---- nodes by their lists

list_nodes : (ts : List Tree) → nodes_in (rewritten_all (trees_of ts)) ≡ nodes_list ts
list_nodes [] = refl
list_nodes (t ∷ ts) = ap (λ (n : ℕ). nodes (rewritten t) + n) (list_nodes ts)

bounds_nodes : (bs : List Bound) → nodes_bound (rewritten_binds (binds_of bs)) ≡ nodes_bounds bs
bounds_nodes [] = refl
bounds_nodes (b ∷ bs) = ap (λ (n : ℕ). nodes (rewritten b.value) + n) (bounds_nodes bs)

arms_nodes : (p : ℕ) (ls : List Labelled) (t : Tree) → nodes (rewritten_arms p (arms_of ls t)) ≡ nodes_labelled ls + nodes (rewritten t)
arms_nodes p [] t = omega arith
arms_nodes p (a ∷ ls) t = omega (arith, arms_nodes p ls t)

-- ---- counts one after another

saturated_more : (a b c m n : ℕ) → saturated b ≡ saturated (a + m) → saturated c ≡ saturated (b + n) → saturated c ≡ saturated (a + (m + n))
saturated_more a b c m n p q = omega (arith, p, q)

pub adds_more : (a b c : Counts) (s n t m : ℕ) → Adds a b s n → Adds b c t m → Adds a c (s + t) (n + m)
adds_more a b c s n t m p q = record { sites = saturated_more a.sites b.sites c.sites s t p.sites q.sites; nodes = saturated_more a.nodes b.nodes c.nodes n m p.nodes q.nodes }

-- other names of the same numbers
pub adds_same : (a b : Counts) (s n t m : ℕ) → Adds a b s n → t ≡ s → m ≡ n → Adds a b t m
adds_same a b s n t m p e f = record { sites = omega (arith, p.sites, e); nodes = omega (arith, p.nodes, f) }

module _ (k : Known) {p : ℕ} {n : Tree} {a b : Counts} (itself : Adds a b 0 1) where
  pub let_adds : (xs : List Bound) {t : Tree} {c d : Counts} → n ≡ source.Let p (binds_of xs) t → Adds b c (sites_bounds k xs) (nodes_bounds xs) →
      Adds c d (sites_in_tree k t) (nodes (rewritten t)) → Adds a d (sites_in_tree k n) (nodes (rewritten n))
  let_adds xs {t} {c} {d} is f g =
      let r = adds_more a c d _ _ _ _ (adds_more a b c _ _ _ _ itself f) g in
      let s : sites_in_tree k n ≡ sites_bound k (rewritten_binds (binds_of xs)) + sites_in_tree k t = ap (sites_in_tree k) is in
      let m : nodes (rewritten n) ≡ 1 + (nodes_bound (rewritten_binds (binds_of xs)) + nodes (rewritten t)) = ap (λ (u : Tree). nodes (rewritten u)) is in
      adds_same a d _ _ _ _ r (omega (arith, s, bounds_sites k xs)) (omega (arith, m, bounds_nodes xs))

  pub if_adds : {v t u : Tree} {c d e : Counts} → n ≡ source.If p v t u → Adds b c (sites_in_tree k v) (nodes (rewritten v)) → Adds c d (sites_in_tree k t)
      (nodes (rewritten t)) → Adds d e (sites_in_tree k u) (nodes (rewritten u)) → Adds a e (sites_in_tree k n) (nodes (rewritten n))
  if_adds {v} {t} {u} {c} {d} {e} is f g h =
      let r = adds_more a d e _ _ _ _ (adds_more a c d _ _ _ _ (adds_more a b c _ _ _ _ itself f) g) h in
      let s : sites_in_tree k n ≡ sites_in_tree k v + (sites_in_tree k t + sites_in_tree k u) = ap (sites_in_tree k) is in
      let m : nodes (rewritten n) ≡ 1 + (nodes (rewritten v) + (nodes (rewritten t) + nodes (rewritten u))) = ap (λ (x : Tree). nodes (rewritten x)) is in
      adds_same a e _ _ _ _ r (omega (arith, s)) (omega (arith, m))

  pub case_adds : {v : Tree} (xs : List Labelled) (t : Tree) {c d e : Counts} → n ≡ source.Cases p v (arms_of xs t) → Adds b c (sites_in_tree k v)
      (nodes (rewritten v)) → Adds c d (sites_labelled k xs) (nodes_labelled xs) → Adds d e (sites_in_tree k t) (nodes (rewritten t)) → Adds a e
      (sites_in_tree k n) (nodes (rewritten n))
  case_adds {v} xs t {c} {d} {e} is f g h =
      let r = adds_more a d e _ _ _ _ (adds_more a c d _ _ _ _ (adds_more a b c _ _ _ _ itself f) g) h in
      let s : sites_in_tree k n ≡ (sites_in_tree k v + 0) + sites k (rewritten_arms p (arms_of xs t)) = ap (sites_in_tree k) is in
      let m : nodes (rewritten n) ≡ 1 + ((nodes (rewritten v) + 0) + nodes (rewritten_arms p (arms_of xs t))) = ap (λ (u : Tree). nodes (rewritten u)) is in
      adds_same a e _ _ _ _ r (omega (arith, s, arms_sites k p xs t)) (omega (arith, m, arms_nodes p xs t))

  pub op_adds : {o : Primitive} (xs : List Tree) {c : Counts} → n ≡ source.Op p o (trees_of xs) → Adds b c (sites_list k xs) (nodes_list xs) → Adds a c (sites_in_tree k n) (nodes (rewritten n))
  op_adds {o} xs {c} is f =
      let s : sites_in_tree k n ≡ sites_in k (rewritten_all (trees_of xs)) = ap (sites_in_tree k) is in
      let m : nodes (rewritten n) ≡ 1 + nodes_in (rewritten_all (trees_of xs)) = ap (λ (u : Tree). nodes (rewritten u)) is in
      adds_same a c _ _ _ _ (adds_more a b c _ _ _ _ itself f) (omega (arith, s, list_sites k xs)) (omega (arith, m, list_nodes xs))

  pub call_adds : {x : List ℕ} (xs : List Tree) {c d : Counts} {w : ℕ} → n ≡ source.Call p x (trees_of xs) → w ≡ is_site (callee k x) → Adds b c w 0 →
      Adds c d (sites_list k xs) (nodes_list xs) → Adds a d (sites_in_tree k n) (nodes (rewritten n))
  call_adds {x} xs {c} {d} {w} is e f g =
      let r = adds_more a c d _ _ _ _ (adds_more a b c _ _ _ _ itself f) g in
      let s : sites_in_tree k n ≡ is_site (callee k x) + sites_in k (rewritten_all (trees_of xs)) = ap (sites_in_tree k) is in
      let m : nodes (rewritten n) ≡ 1 + nodes_in (rewritten_all (trees_of xs)) = ap (λ (u : Tree). nodes (rewritten u)) is in
      adds_same a d _ _ _ _ r (omega (arith, s, e, list_sites k xs)) (omega (arith, m, list_nodes xs))

-- ---- one item after another

-- so many were counted, and so many are left of all
pub record Left (first now : Counts) (sites_left nodes_left all_sites all_nodes : ℕ) : Type 0 where
  pub sites_done : ℕ
  pub nodes_done : ℕ
  pub counted : Adds first now sites_done nodes_done
  pub sites : sites_done + sites_left ≡ all_sites
  pub nodes : nodes_done + nodes_left ≡ all_nodes

pub left_less : (first a b : Counts) (s n ls ln ms mn all_sites all_nodes : ℕ) → Left first a ls ln all_sites all_nodes → Adds a b s n → ls ≡ s + ms →
    ln ≡ n + mn → Left first b ms mn all_sites all_nodes
left_less first a b s n ls ln ms mn all_sites all_nodes l q e f = record {
  sites_done = l.sites_done + s;
  nodes_done = l.nodes_done + n;
  counted = adds_more first a b _ _ _ _ l.counted q;
  sites = omega (arith, l.sites, e);
  nodes = omega (arith, l.nodes, f);
}

-- at the start all are left
pub all_left : (first : Counts) (all_sites all_nodes : ℕ) → Left first first all_sites all_nodes all_sites all_nodes
all_left first all_sites all_nodes = record { sites_done = 0; nodes_done = 0; counted = record { sites = omega arith; nodes = omega arith }; sites = omega arith; nodes = omega arith }

pub none_left : (first a : Counts) (all_sites all_nodes : ℕ) → Left first a 0 0 all_sites all_nodes → Adds first a all_sites all_nodes
none_left first a all_sites all_nodes l = adds_same first a _ _ _ _ l.counted (omega (arith, l.sites)) (omega (arith, l.nodes))

pub list_nodes_left : (es : List Expr) (i : ℕ) (e : Expr) → i < length es → e ≡ get_or es i e → nodes_list (shown_trees (drop i es)) ≡ nodes
    (rewritten (shown_tree e)) + nodes_list (shown_trees (drop (i + 1) es))
list_nodes_left es i e lt is = ap (λ (l : List Expr). nodes_list (shown_trees l)) (drop_read es i e lt is)

pub bounds_nodes_left : (es : List Bind) (i : ℕ) (e : Bind) → i < length es → e ≡ get_or es i e → nodes_bounds (shown_bounds (drop i es)) ≡ nodes
    (rewritten (shown_tree e.value)) + nodes_bounds (shown_bounds (drop (i + 1) es))
bounds_nodes_left es i e lt is = ap (λ (l : List Bind). nodes_bounds (shown_bounds l)) (drop_read es i e lt is)

pub arms_nodes_left : (es : List Arm) (i : ℕ) (e : Arm) → i < length es → e ≡ get_or es i e → nodes_labelled (shown_labelled (drop i es)) ≡
    (3 + (nodes (rewritten (shown_tree e.label)) + nodes (rewritten (shown_tree e.value)))) + nodes_labelled (shown_labelled (drop (i + 1) es))
arms_nodes_left es i e lt is = ap (λ (l : List Arm). nodes_labelled (shown_labelled l)) (drop_read es i e lt is)

-- ---- definitions

pub total_left : (hs : List Head) (ds : List Def) (n u v : ℕ) (d : Def) → n < length ds → d ≡ get_or ds n d → v ≡ unit_of n u (shown_definition d)
    → site_total hs n u (shown_definitions (drop n ds)) ≡ sites_in_tree (record { heads = hs; unit = v }) (shown_tree d.body) + site_total hs (n + 1) v (shown_definitions (drop (n + 1) ds))
total_left hs ds n u v d lt is e =
    let rest : List Definition = shown_definitions (drop (n + 1) ds) in
    ap (λ (l : List Def). site_total hs n u (shown_definitions l)) (drop_read ds n d lt is)
    ∙ (ap (λ (w : ℕ). sites_in_tree (record { heads = hs; unit = w }) (shown_tree d.body) + site_total hs (suc n) w rest) (sym e)
    ∙ ap (λ (m : ℕ). sites_in_tree (record { heads = hs; unit = v }) (shown_tree d.body) + site_total hs m v rest) (sym (add-one n)))

pub defs_nodes_left : (ds : List Def) (n : ℕ) (d : Def) → n < length ds → d ≡ get_or ds n d → nodes_of (shown_definitions (drop n ds)) ≡ nodes
    (rewritten (shown_tree d.body)) + nodes_of (shown_definitions (drop (n + 1) ds))
defs_nodes_left ds n d lt is = ap (λ (l : List Def). nodes_of (shown_definitions l)) (drop_read ds n d lt is)
