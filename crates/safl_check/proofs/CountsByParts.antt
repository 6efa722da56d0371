-- What an expression counts is what it counts by itself, and then what its parts count.
use Rattle.std.proofs.Common.{◌≡◌, ℕ, ◌+◌, ◌*◌, ◌<◌, ◌≤◌, arith, List, [], ◌∷◌, ◌++◌, Option, Some, None, refl, sym, ap, ◌∙◌}
use Rattle.std.specs.Prelude.{min}
use Rattle.std.specs.Option.{option_or}
use Rattle.safl_tree.specs.Tree.{Tree, Number, Sized, Variable, If, Let, Cases, Op, Call, Trees, no_tree, a_tree, Binds, no_bind, a_bind, Arms, default_arm, an_arm}
use Rattle.safl_typing.specs.Heads.{Known, sites, sites_in, sites_bound}
use Rattle.safl_typing.specs.Rewriting.{Expression, rewritten, rewritten_all, rewritten_binds, rewritten_arms, nodes, nodes_in, nodes_bound, long_let, long_let_in, long_let_bound}
use Rattle.std.specs.Option.{option_or as or_place}
use Rattle.safl_check.specs.Parts.{trees_in, values_in, arms_in, parts, arm_count, own_nodes, own_sites, own_long_let, total_nodes}

-- ---- several expressions

abbrev pub total_sites : Known → List Tree → ℕ
total_sites k [] = 0
total_sites k (t ∷ ts) = sites k (rewritten t) + total_sites k ts

abbrev pub first_long_let : List Tree → Option ℕ
first_long_let [] = None
first_long_let (t ∷ ts) = or_place (long_let (rewritten t)) (first_long_let ts)

pub nodes_append : (xs ys : List Tree) → total_nodes (xs ++ ys) ≡ total_nodes xs + total_nodes ys
nodes_append [] ys = omega arith
nodes_append (x ∷ xs) ys = omega (arith, nodes_append xs ys)

sites_append : (k : Known) (xs ys : List Tree) → total_sites k (xs ++ ys) ≡ total_sites k xs + total_sites k ys
sites_append k [] ys = omega arith
sites_append k (x ∷ xs) ys = omega (arith, sites_append k xs ys)

or_none : (a : Option ℕ) → or_place a None ≡ a
or_none (Some p) = refl
or_none None = refl

or_assoc : (a b c : Option ℕ) → or_place (or_place a b) c ≡ or_place a (or_place b c)
or_assoc (Some p) b c = refl
or_assoc None b c = refl

or_is : (a b : Option ℕ) → option_or a b ≡ or_place a b
or_is (Some p) b = refl
or_is None b = refl

lets_append : (xs ys : List Tree) → first_long_let (xs ++ ys) ≡ or_place (first_long_let xs) (first_long_let ys)
lets_append [] ys = refl
lets_append (x ∷ xs) ys = ap (λ (o : Option ℕ). or_place (long_let (rewritten x)) o) (lets_append xs ys) ∙ sym (or_assoc (long_let (rewritten x)) (first_long_let xs) (first_long_let ys))

-- ---- nodes

nodes_trees : (ts : Trees) → nodes_in (rewritten_all ts) ≡ total_nodes (trees_in ts)
nodes_trees no_tree = refl
nodes_trees (a_tree t ts) = omega (arith, nodes_trees ts)

nodes_values : (bs : Binds) → nodes_bound (rewritten_binds bs) ≡ total_nodes (values_in bs)
nodes_values no_bind = refl
nodes_values (a_bind p x w t bs) = omega (arith, nodes_values bs)

nodes_arms : (p : ℕ) (arms : Arms) → nodes (rewritten_arms p arms) ≡ 3 * arm_count arms + total_nodes (arms_in arms)
nodes_arms p (default_arm t) = omega arith
nodes_arms p (an_arm l t arms) = omega (arith, nodes_arms p arms)

nodes_parts : (t : Tree) → nodes (rewritten t) ≡ own_nodes t + total_nodes (parts t)
nodes_parts (Number p n) = refl
nodes_parts (Sized p w n) = refl
nodes_parts (Variable p x) = refl
nodes_parts (If p c a b) = omega arith
nodes_parts (Let p bs t) = omega (arith, nodes_values bs, nodes_append (values_in bs) (t ∷ []))
nodes_parts (Cases p e arms) = omega (arith, nodes_arms p arms)
nodes_parts (Op p o ts) = omega (arith, nodes_trees ts)
nodes_parts (Call p f ts) = omega (arith, nodes_trees ts)

-- an expression is a node
own_nodes_some : (t : Tree) → 1 ≤ own_nodes t
own_nodes_some (Number p n) = omega arith
own_nodes_some (Sized p w n) = omega arith
own_nodes_some (Variable p x) = omega arith
own_nodes_some (If p c a b) = omega arith
own_nodes_some (Let p bs t) = omega arith
own_nodes_some (Cases p e arms) = omega arith
own_nodes_some (Op p o ts) = omega arith
own_nodes_some (Call p f ts) = omega arith

-- its parts are fewer nodes than it
pub parts_below : (t : Tree) → total_nodes (parts t) < nodes (rewritten t)
parts_below t = omega (arith, nodes_parts t, own_nodes_some t)

pub parts_fewer : (t : Tree) (rest : List Tree) → total_nodes (parts t ++ rest) < total_nodes (t ∷ rest)
parts_fewer t rest = omega (arith, parts_below t, nodes_append (parts t) rest)

-- ---- sites

sites_trees : (k : Known) (ts : Trees) → sites_in k (rewritten_all ts) ≡ total_sites k (trees_in ts)
sites_trees k no_tree = refl
sites_trees k (a_tree t ts) = omega (arith, sites_trees k ts)

sites_values : (k : Known) (bs : Binds) → sites_bound k (rewritten_binds bs) ≡ total_sites k (values_in bs)
sites_values k no_bind = refl
sites_values k (a_bind p x w t bs) = omega (arith, sites_values k bs)

sites_arms : (k : Known) (p : ℕ) (arms : Arms) → sites k (rewritten_arms p arms) ≡ total_sites k (arms_in arms)
sites_arms k p (default_arm t) = omega arith
sites_arms k p (an_arm l t arms) = omega (arith, sites_arms k p arms)

sites_parts : (k : Known) (t : Tree) → sites k (rewritten t) ≡ own_sites k t + total_sites k (parts t)
sites_parts k (Number p n) = refl
sites_parts k (Sized p w n) = refl
sites_parts k (Variable p x) = refl
sites_parts k (If p c a b) = omega arith
sites_parts k (Let p bs t) = omega (arith, sites_values k bs, sites_append k (values_in bs) (t ∷ []))
sites_parts k (Cases p e arms) = omega (arith, sites_arms k p arms)
sites_parts k (Op p o ts) = omega (arith, sites_trees k ts)
sites_parts k (Call p f ts) = omega (arith, sites_trees k ts)

-- ---- lets

lets_trees : (ts : Trees) → long_let_in (rewritten_all ts) ≡ first_long_let (trees_in ts)
lets_trees no_tree = refl
lets_trees (a_tree t ts) = ap (λ (o : Option ℕ). or_place (long_let (rewritten t)) o) (lets_trees ts)

lets_values : (bs : Binds) → long_let_bound (rewritten_binds bs) ≡ first_long_let (values_in bs)
lets_values no_bind = refl
lets_values (a_bind p x w t bs) = ap (λ (o : Option ℕ). or_place (long_let (rewritten t)) o) (lets_values bs)

lets_arms : (p : ℕ) (arms : Arms) → long_let (rewritten_arms p arms) ≡ first_long_let (arms_in arms)
lets_arms p (default_arm t) = sym (or_none (long_let (rewritten t)))
lets_arms p (an_arm l t arms) =
    ap (λ (o : Option ℕ). or_place o (or_place (long_let (rewritten t)) (long_let (rewritten_arms p arms)))) (or_none (long_let (rewritten l)))
    ∙ ap (λ (o : Option ℕ). or_place (long_let (rewritten l)) (or_place (long_let (rewritten t)) o)) (lets_arms p arms)

lets_parts : (t : Tree) → long_let (rewritten t) ≡ or_place (own_long_let t) (first_long_let (parts t))
lets_parts (Number p n) = refl
lets_parts (Sized p w n) = refl
lets_parts (Variable p x) = refl
lets_parts (If p c a b) = ap (λ (o : Option ℕ). or_place (long_let (rewritten c)) (or_place (long_let (rewritten a)) o)) (sym (or_none (long_let (rewritten b))))
lets_parts (Let p bs t) =
    ap (λ (o : Option ℕ). or_place (own_long_let (Let p bs t)) o)
    (ap (λ (o : Option ℕ). or_place o (long_let (rewritten t))) (lets_values bs)
    ∙ ap (λ (o : Option ℕ). or_place (first_long_let (values_in bs)) o) (sym (or_none (long_let (rewritten t))))
    ∙ sym (lets_append (values_in bs) (t ∷ [])))
lets_parts (Cases p e arms) =
    ap (λ (o : Option ℕ). or_place o (long_let (rewritten_arms p arms))) (or_none (long_let (rewritten e)))
    ∙ ap (λ (o : Option ℕ). or_place (long_let (rewritten e)) o) (lets_arms p arms)
lets_parts (Op p o ts) = lets_trees ts
lets_parts (Call p f ts) = lets_trees ts

-- ---- a walk over parts

-- what was measured and what is to come are the measures of the whole
pub record IsMeasured (k : Known) (before_sites before_nodes : ℕ) (body : Expression) (long : Option ℕ) (s n : ℕ) (rest : List Tree) : Type 0 where
  pub lets : long_let body ≡ or_place long (first_long_let rest)
  pub sites : min 4001 (before_sites + sites k body) ≡ min 4001 (s + total_sites k rest)
  pub nodes : min 50001 (before_nodes + nodes body) ≡ min 50001 (n + total_nodes rest)
  pub few_sites : s ≤ 4001
  pub few_nodes : n ≤ 50001

pub measured_next : (k : Known) (s0 n0 : ℕ) (body : Expression) (long : Option ℕ) (s n : ℕ) (t : Tree) (rest : List Tree) (long' : Option ℕ) (s' n' : ℕ)
    → IsMeasured k s0 n0 body long s n (t ∷ rest) → long' ≡ option_or long (own_long_let t) → s' ≡ min 4001 (s + own_sites k t) → n' ≡ min 50001 (n + min 50001 (own_nodes t))
    → IsMeasured k s0 n0 body long' s' n' (parts t ++ rest)
measured_next k s0 n0 body long s n t rest long' s' n' h el es en =
    record {
      lets = h.lets ∙ ap (λ (o : Option ℕ). or_place long (or_place o (first_long_let rest))) (lets_parts t)
          ∙ ap (λ (o : Option ℕ). or_place long o) (or_assoc (own_long_let t) (first_long_let (parts t)) (first_long_let rest) ∙ ap
          (λ (o : Option ℕ). or_place (own_long_let t) o) (sym (lets_append (parts t) rest)))
          ∙ sym (or_assoc long (own_long_let t) (first_long_let (parts t ++ rest)))
          ∙ ap (λ (o : Option ℕ). or_place o (first_long_let (parts t ++ rest))) (sym (el ∙ or_is long (own_long_let t)));
      sites = let q = h.sites in omega (arith, q, es, sites_parts k t, sites_append k (parts t) rest);
      nodes = let q = h.nodes in omega (arith, q, en, nodes_parts t, nodes_append (parts t) rest);
      few_sites = omega (arith, es);
      few_nodes = omega (arith, en);
    }
