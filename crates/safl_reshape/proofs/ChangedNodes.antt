-- Nodes from their changed parts, and the sites that are left after them.
use Rattle.safl_reshape.proofs.Common.{Change, Primitive, changed, rewritten_all, rewritten_arms, rewritten_binds, sites_in_tree}
use Rattle.std.proofs.Common.{◌≡◌, ℕ, ◌+◌, ◌-◌, List, sym, ap, ◌∙◌, arith}
use Rattle.safl_tree.specs.Tree as source
use Rattle.safl_tree.specs.Tree.{Tree, Bound, Labelled, trees_of, binds_of, arms_of}
use Rattle.safl_typing.specs.Heads.{Known, callee, is_site, sites, sites_in, sites_bound}
use Rattle.safl_reshape.specs.Lists.{sites_list, changed_list, sites_bounds, changed_bounds, sites_labelled, changed_labelled}
use Rattle.safl_reshape.proofs.Listed.{arms_sites, bounds_sites, call_tree, case_tree, let_tree, list_sites, op_tree}

module _ (k : Known) (ch : Change) (lo : ℕ) {p : ℕ} {n r : Tree} where
  pub let_done : (xs : List Bound) {bs : List Bound} {t u : Tree} → n ≡ source.Let p (binds_of xs) t → bs ≡ changed_bounds k ch lo xs
      → u ≡ changed k ch (lo + sites_bounds k xs) t → r ≡ source.Let p (binds_of bs) u → r ≡ changed k ch lo n
  let_done xs {bs} {t} {u} g e f q =
      q ∙ (ap (λ (z : List Bound). source.Let p (binds_of z) u) e ∙
      (ap (λ (z : Tree). source.Let p (binds_of (changed_bounds k ch lo xs)) z) f ∙ (sym (let_tree k ch lo p xs t) ∙ ap (changed k ch lo) (sym g))))

  pub if_done : {v w t u y z : Tree} → n ≡ source.If p v t y → w ≡ changed k ch lo v → u ≡ changed k ch (lo + sites_in_tree k v) t
      → z ≡ changed k ch (lo + sites_in_tree k v + sites_in_tree k t) y → r ≡ source.If p w u z → r ≡ changed k ch lo n
  if_done {v} {w} {t} {u} {y} {z} g d e f q =
      q ∙ (ap (λ (x : Tree). source.If p x u z) d ∙ (ap (λ (x : Tree). source.If p (changed k ch lo v) x z) e
      ∙ (ap (λ (x : Tree). source.If p (changed k ch lo v) (changed k ch (lo + sites_in_tree k v) t) x) f ∙ ap (changed k ch lo) (sym g))))

  pub case_done : {v w : Tree} (xs : List Labelled) {ls : List Labelled} (t : Tree) {u : Tree} → n ≡ source.Cases p v (arms_of xs t) → w ≡ changed k ch lo v
      → ls ≡ changed_labelled k ch (lo + sites_in_tree k v) xs → u ≡ changed k ch (lo + sites_in_tree k v + sites_labelled k xs) t
      → r ≡ source.Cases p w (arms_of ls u) → r ≡ changed k ch lo n
  case_done {v} {w} xs {ls} t {u} g d e f q =
      q ∙ (ap (λ (z : Tree). source.Cases p z (arms_of ls u)) d ∙ (ap (λ (z : List Labelled). source.Cases p (changed k ch lo v) (arms_of z u)) e
      ∙ (ap (λ (z : Tree). source.Cases p (changed k ch lo v) (arms_of (changed_labelled k ch (lo + sites_in_tree k v) xs) z)) f ∙ (sym (case_tree k ch lo p v xs t) ∙ ap (changed k ch lo) (sym g)))))

  pub op_done : {o : Primitive} (xs : List Tree) {es : List Tree} → n ≡ source.Op p o (trees_of xs) → es ≡ changed_list k ch lo xs → r ≡ source.Op p o (trees_of es) → r ≡ changed k ch lo n
  op_done {o} xs {es} g e q = q ∙ (ap (λ (z : List Tree). source.Op p o (trees_of z)) e ∙ (sym (op_tree k ch lo p o xs) ∙ ap (changed k ch lo) (sym g)))

  pub call_done : {x : List ℕ} (xs : List Tree) {es : List Tree} → n ≡ source.Call p x (trees_of xs) → es ≡ changed_list k ch (lo + is_site (callee k x)) xs
      → r ≡ ch (callee k x) lo p x (trees_of es) → r ≡ changed k ch lo n
  call_done {x} xs {es} g e q = q ∙ (ap (λ (z : List Tree). ch (callee k x) lo p x (trees_of z)) e ∙ (sym (call_tree k ch lo p x xs) ∙ ap (changed k ch lo) (sym g)))

-- ---- what is left

module _ (k : Known) {p : ℕ} {n : Tree} (a : ℕ) {b : ℕ} where
  pub left_let : (xs : List Bound) {t : Tree} {c : ℕ} → n ≡ source.Let p (binds_of xs) t → b ≡ a - sites_bounds k xs → c ≡ b - sites_in_tree k t → c ≡ a - sites_in_tree k n
  left_let xs {t} {c} e f g =
      let q : sites_in_tree k n ≡ sites_bound k (rewritten_binds (binds_of xs)) + sites_in_tree k t = ap (sites_in_tree k) e in
      let r = bounds_sites k xs in
      omega (arith, q, r, f, g)

  pub left_if : {v t u : Tree} {c d : ℕ} → n ≡ source.If p v t u → b ≡ a - sites_in_tree k v → c ≡ b - sites_in_tree k t → d ≡ c - sites_in_tree k u → d ≡ a - sites_in_tree k n
  left_if {v} {t} {u} {c} {d} e f g h =
      let q : sites_in_tree k n ≡ sites_in_tree k v + (sites_in_tree k t + sites_in_tree k u) = ap (sites_in_tree k) e in
      omega (arith, q, f, g, h)

  pub left_case : {v : Tree} (xs : List Labelled) (t : Tree) {c d : ℕ} → n ≡ source.Cases p v (arms_of xs t) → b ≡ a - sites_in_tree k v
      → c ≡ b - sites_labelled k xs → d ≡ c - sites_in_tree k t → d ≡ a - sites_in_tree k n
  left_case {v} xs t {c} {d} e f g h =
      let q : sites_in_tree k n ≡ (sites_in_tree k v + 0) + sites k (rewritten_arms p (arms_of xs t)) = ap (sites_in_tree k) e in
      let r = arms_sites k p xs t in
      omega (arith, q, r, f, g, h)

  pub left_op : {o : Primitive} (xs : List Tree) → n ≡ source.Op p o (trees_of xs) → b ≡ a - sites_list k xs → b ≡ a - sites_in_tree k n
  left_op {o} xs e f =
      let q : sites_in_tree k n ≡ sites_in k (rewritten_all (trees_of xs)) = ap (sites_in_tree k) e in
      let r = list_sites k xs in
      omega (arith, q, r, f)

  pub left_call : {x : List ℕ} (xs : List Tree) {c s : ℕ} → n ≡ source.Call p x (trees_of xs) → s ≡ is_site (callee k x) → b ≡ a - s → c ≡ b - sites_list k xs → c ≡ a - sites_in_tree k n
  left_call {x} xs {c} {s} e z f g =
      let q : sites_in_tree k n ≡ is_site (callee k x) + sites_in k (rewritten_all (trees_of xs)) = ap (sites_in_tree k) e in
      let r = list_sites k xs in
      omega (arith, q, r, z, f, g)
