-- Changed calls in lists of expressions.
use Rattle.safl_reshape.proofs.Common.{Primitive, rewritten_all, rewritten_arms, rewritten_binds}
use Rattle.std.proofs.Common.{◌≡◌, ℕ, ◌+◌, List, [], ◌∷◌, refl, ap, ◌∙◌, arith}
use Rattle.safl_tree.specs.Tree as source
use Rattle.safl_tree.specs.Tree.{Tree, Bound, Labelled, Binds, trees_of, binds_of, arms_of}
use Rattle.safl_typing.specs.Heads.{Known, callee, is_site, sites, sites_in, sites_bound}
use Rattle.safl_reshape.specs.Changed.{Change, changed, changed_all, changed_binds, changed_arms, sites_in_tree}
use Rattle.safl_reshape.specs.Lists.{sites_list, changed_list, sites_bounds, changed_bounds, sites_labelled, changed_labelled}

-- ---- expressions by their lists

module _ (k : Known) where
  pub list_sites : (ts : List Tree) → sites_in k (rewritten_all (trees_of ts)) ≡ sites_list k ts
  list_sites [] = refl
  list_sites (t ∷ ts) = ap (λ (n : ℕ). sites_in_tree k t + n) (list_sites ts)

  pub bounds_sites : (bs : List Bound) → sites_bound k (rewritten_binds (binds_of bs)) ≡ sites_bounds k bs
  bounds_sites [] = refl
  bounds_sites (b ∷ bs) = ap (λ (n : ℕ). sites_in_tree k b.value + n) (bounds_sites bs)

  pub arms_sites : (p : ℕ) (ls : List Labelled) (t : Tree) → sites k (rewritten_arms p (arms_of ls t)) ≡ sites_labelled k ls + sites_in_tree k t
  arms_sites p [] t = omega arith
  arms_sites p (a ∷ ls) t = omega (arith, arms_sites p ls t)

  module _ (ch : Change) where
    pub list_changed : (lo : ℕ) (ts : List Tree) → changed_all k ch lo (trees_of ts) ≡ trees_of (changed_list k ch lo ts)
    list_changed lo [] = refl
    list_changed lo (t ∷ ts) = ap (source.a_tree (changed k ch lo t)) (list_changed (lo + sites_in_tree k t) ts)

    pub bounds_changed : (lo : ℕ) (bs : List Bound) → changed_binds k ch lo (binds_of bs) ≡ binds_of (changed_bounds k ch lo bs)
    bounds_changed lo [] = refl
    bounds_changed lo (b ∷ bs) = ap (source.a_bind b.place b.name b.width (changed k ch lo b.value)) (bounds_changed (lo + sites_in_tree k b.value) bs)

    pub arms_changed : (lo : ℕ) (ls : List Labelled) (t : Tree) → changed_arms k ch lo (arms_of ls t) ≡ arms_of (changed_labelled k ch lo ls) (changed k ch (lo + sites_labelled k ls) t)
    arms_changed lo [] t = let e : lo ≡ lo + 0 = omega arith in ap (λ (n : ℕ). source.default_arm (changed k ch n t)) e
    arms_changed lo (a ∷ ls) t =
        let la = sites_in_tree k a.label in
        let lv = sites_in_tree k a.value in
        let e : lo + la + lv ≡ lo + (la + lv) = omega arith in
        let f : lo + (la + lv) + sites_labelled k ls ≡ lo + ((la + lv) + sites_labelled k ls) = omega arith in
        ap (source.an_arm (changed k ch lo a.label) (changed k ch (lo + la) a.value))
        (ap (λ (n : ℕ). changed_arms k ch n (arms_of ls t)) e ∙ (arms_changed (lo + (la + lv)) ls t ∙ ap (λ (n : ℕ). arms_of (changed_labelled k ch (lo + (la + lv)) ls) (changed k ch n t)) f))

    pub let_tree : (lo p : ℕ) (bs : List Bound) (t : Tree) → changed k ch lo (source.Let p (binds_of bs) t) ≡ source.Let p
        (binds_of (changed_bounds k ch lo bs)) (changed k ch (lo + sites_bounds k bs) t)
    let_tree lo p bs t = ap (λ (z : Binds). source.Let p z (changed k ch (lo + sites_bound k (rewritten_binds (binds_of bs))) t))
        (bounds_changed lo bs) ∙ ap (λ (n : ℕ). source.Let p (binds_of (changed_bounds k ch lo bs)) (changed k ch (lo + n) t)) (bounds_sites bs)

    pub case_tree : (lo p : ℕ) (v : Tree) (ls : List Labelled) (t : Tree) → changed k ch lo (source.Cases p v (arms_of ls t)) ≡ source.Cases p
        (changed k ch lo v) (arms_of (changed_labelled k ch (lo + sites_in_tree k v) ls) (changed k ch (lo + sites_in_tree k v + sites_labelled k ls) t))
    case_tree lo p v ls t = ap (source.Cases p (changed k ch lo v)) (arms_changed (lo + sites_in_tree k v) ls t)

    pub op_tree : (lo p : ℕ) (o : Primitive) (ts : List Tree) → changed k ch lo (source.Op p o (trees_of ts)) ≡ source.Op p o (trees_of (changed_list k ch lo ts))
    op_tree lo p o ts = ap (source.Op p o) (list_changed lo ts)

    pub call_tree : (lo p : ℕ) (x : List ℕ) (ts : List Tree) → changed k ch lo (source.Call p x (trees_of ts)) ≡ ch (callee k x) lo p x (trees_of (changed_list k ch (lo + is_site (callee k x)) ts))
    call_tree lo p x ts = ap (ch (callee k x) lo p x) (list_changed (lo + is_site (callee k x)) ts)
