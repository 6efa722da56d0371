-- The words of operators are read again, in every layer.
use Rattle.safl_tree.proofs.Common.{Deep, Terminal, apart_within, cases_lt, shallow, stops_here, subset_within}
use Rattle.std.proofs.Common.{◌≡◌, ℕ, zero, suc, ◌<◌, ◌≤◌, Bool, true, false, cond, List, [], ◌∷◌, ◌++◌, length, Ok, refl, sym, ap, subst, ◌∙◌, inl, inr, arith}
use Rattle.safl_grammar.specs.Sets.{Set, Every, Only, within, subset, apart}
use Rattle.safl_grammar.specs.Reading.{Read, Reading, ◌>>=◌, head_of, read_nothing, read_either, read_many}
use Rattle.safl_grammar.proofs.Small.{Small, Eats, small, small_nothing, eats_limited, small_follows, eats_follows, small_either, small_many}
use Rattle.safl_word.specs.declared.token.Sym.TheVariants as syms
use Rattle.safl_tree.specs.Tree.{Tree, Number, Sized, Variable, If, Let, Cases, Op, Call, Trees, no_tree, a_tree, Arms, default_arm, an_arm, trees_of}
use Rattle.safl_tree.specs.Tree.{place_of, with_place, depth, deepest, deepest_bind, deepest_arm, Binds, no_bind, a_bind}
use Rattle.safl_tree.specs.Codes.{code, comes, symbol_code, operators, operator}
use Rattle.safl_tree.specs.Reader.{read_parenthesised, read_primary, read_unary, read_joined, read_chained, read_compared, read_layer, read_chain, operand_at, expr_at}
use Rattle.safl_tree.proofs.Leaves.{after_layers, after_expr}
use Rattle.safl_tree.proofs.KeptLevels.{operand_small}
use Rattle.safl_tree.specs.Printed.{PrintedToken, enclosed}
use Rattle.safl_tree.specs.Places.{unplaced, unplaced_trees, unplaced_binds, unplaced_arms}
use Rattle.safl_tree.proofs.Readings.{Reads, words_in, reads_then, reads_first, avoids, reads_second, reads_narrowed, reads_give, reads_symbol}

-- an operand where m levels are left below it
abbrev pub unary_at : ℕ → Reading Terminal Tree
unary_at m = read_unary (operand_at m) (expr_at m)

-- k layers of operators
abbrev pub chain_at : ℕ → ℕ → Reading Terminal Tree
chain_at k m = read_chain k (unary_at m)

abbrev pub behind : ℕ → Set
behind k = Only (after_layers k)

-- these words are read as the tree, at a place of k layers
abbrev pub Stands : ℕ → ℕ → List PrintedToken → Tree → Type 0
Stands k m ks v = Reads (chain_at k m) ks (behind k) unplaced v

-- ---- places change nothing else

mutual
  depth_unplaced : (t : Tree) → depth (unplaced t) ≡ depth t
  depth_unplaced (Number p n) = refl
  depth_unplaced (Sized p w n) = refl
  depth_unplaced (Variable p x) = refl
  depth_unplaced (If p c a b) = rw (depth_unplaced c, depth_unplaced a, depth_unplaced b) refl
  depth_unplaced (Let p bs t) = rw (deepest_bind_unplaced bs, depth_unplaced t) refl
  depth_unplaced (Cases p e arms) = rw (depth_unplaced e, deepest_arm_unplaced arms) refl
  depth_unplaced (Op p o ts) = rw (deepest_unplaced ts) refl
  depth_unplaced (Call p f ts) = rw (deepest_unplaced ts) refl

  deepest_unplaced : (ts : Trees) → deepest (unplaced_trees ts) ≡ deepest ts
  deepest_unplaced no_tree = refl
  deepest_unplaced (a_tree t ts) = rw (depth_unplaced t, deepest_unplaced ts) refl

  deepest_bind_unplaced : (bs : Binds) → deepest_bind (unplaced_binds bs) ≡ deepest_bind bs
  deepest_bind_unplaced no_bind = refl
  deepest_bind_unplaced (a_bind p x w t bs) = rw (depth_unplaced t, deepest_bind_unplaced bs) refl

  deepest_arm_unplaced : (arms : Arms) → deepest_arm (unplaced_arms arms) ≡ deepest_arm arms
  deepest_arm_unplaced (default_arm t) = depth_unplaced t
  deepest_arm_unplaced (an_arm l t arms) = rw (depth_unplaced t, deepest_arm_unplaced arms) refl

unplaced_placed : (p : ℕ) (t : Tree) → unplaced (with_place p t) ≡ unplaced t
unplaced_placed p (Number q n) = refl
unplaced_placed p (Sized q w n) = refl
unplaced_placed p (Variable q x) = refl
unplaced_placed p (If q c a b) = refl
unplaced_placed p (Let q bs t) = refl
unplaced_placed p (Cases q e arms) = refl
unplaced_placed p (Op q o ts) = refl
unplaced_placed p (Call q f ts) = refl

pub same_depth : (x t : Tree) → unplaced x ≡ unplaced t → depth x ≡ depth t
same_depth x t e = sym (depth_unplaced x) ∙ ap depth e ∙ depth_unplaced t

-- ---- one layer more

eats_joined : (k : ℕ) (p : Reading Terminal Tree) → Small p → (a : Tree) → Eats (read_joined k p a)
unfolding read_joined
eats_joined k p h a = eats_follows (eats_limited Deep (shallow a) (operator k)) (λ op. small_follows h (λ b. small_nothing (Op (place_of a) op (trees_of (a ∷ b ∷ [])))))

small_chained : (k : ℕ) (p : Reading Terminal Tree) → Small p → Small (read_chained k p)
unfolding read_chained
small_chained k p h = small_follows h (λ a. small_many (comes (operators k)) (read_joined k p) (λ a. small (eats_joined k p h a)) a)

small_compared : (k : ℕ) (p : Reading Terminal Tree) → Small p → Small (read_compared k p)
unfolding read_compared
small_compared k p h = small_follows h (λ a. small_either (comes (operators k)) (small (eats_joined k p h a)) (small_nothing a))

small_layer : (k : ℕ) (p : Reading Terminal Tree) → Small p → Small (read_layer k p)
unfolding read_layer
small_layer zero p h = small_chained zero p h
small_layer (suc zero) p h = small_chained (suc zero) p h
small_layer (suc (suc zero)) p h = small_chained (suc (suc zero)) p h
small_layer (suc (suc (suc zero))) p h = small_compared (suc (suc (suc zero))) p h
small_layer (suc (suc (suc (suc k)))) p h = small_chained (suc (suc (suc (suc k)))) p h

small_chain : (k : ℕ) (p : Reading Terminal Tree) → Small p → Small (read_chain k p)
unfolding read_chain
small_chain zero p h = h
small_chain (suc k) p h = small_layer k (read_chain k p) (small_chain k p h)

pub joined_eats : (k m : ℕ) (a : Tree) (w r : List Terminal) (x : Tree) → read_joined k (chain_at k m) a w ≡ Ok (x, r) → length r < length w
joined_eats k m a = (eats_joined k (chain_at k m) (small_chain k (unary_at m) (operand_small m)) a).left

-- the loop of a layer
abbrev pub turns : ℕ → ℕ → Tree → Reading Terminal Tree
turns k m = read_many (comes (operators k)) (read_joined k (chain_at k m))

-- a layer whose operators chain
pub record Chain (k : ℕ) : Type 0 where
  pub other : k ≡ 3 → ⊥
  pub few : k ≡ 7 → ⊥
  pub lay : (m : ℕ) (w : List Terminal) → read_chain (suc k) (unary_at m) w ≡ read_chained k (chain_at k m) w
  pub ops_behind : subset (Only (operators k)) (behind k) ≡ true
  pub next_behind : subset (behind (suc k)) (behind k) ≡ true
  pub next_apart : apart (behind (suc k)) (Only (operators k)) ≡ true

pub chain_0 : Chain 0
unfolding read_chain read_layer
chain_0 = record { other = λ e. absurd cc; few = λ e. absurd cc; lay = λ m w. refl; ops_behind = refl; next_behind = refl; next_apart = refl }

pub chain_1 : Chain 1
unfolding read_chain read_layer
chain_1 = record { other = λ e. absurd cc; few = λ e. absurd cc; lay = λ m w. refl; ops_behind = refl; next_behind = refl; next_apart = refl }

pub chain_2 : Chain 2
unfolding read_chain read_layer
chain_2 = record { other = λ e. absurd cc; few = λ e. absurd cc; lay = λ m w. refl; ops_behind = refl; next_behind = refl; next_apart = refl }

pub chain_4 : Chain 4
unfolding read_chain read_layer
chain_4 = record { other = λ e. absurd cc; few = λ e. absurd cc; lay = λ m w. refl; ops_behind = refl; next_behind = refl; next_apart = refl }

pub chain_5 : Chain 5
unfolding read_chain read_layer
chain_5 = record { other = λ e. absurd cc; few = λ e. absurd cc; lay = λ m w. refl; ops_behind = refl; next_behind = refl; next_apart = refl }

pub chain_6 : Chain 6
unfolding read_chain read_layer
chain_6 = record { other = λ e. absurd cc; few = λ e. absurd cc; lay = λ m w. refl; ops_behind = refl; next_behind = refl; next_apart = refl }

-- after these words the layer's loop goes on with the tree
pub record Loops (k m : ℕ) (ks : List PrintedToken) (v : Tree) : Type 0 where
  pub goes : (w r : List Terminal) → words_in w ≡ ks → within (behind k) (code (head_of r)) ≡ true → (x : Tree) × (unplaced x ≡ v) × (read_chain (suc k) (unary_at m) (w ++ r) ≡ turns k m x r)

-- the loop ends where no operator of its layer follows
pub loops_stand : (k m : ℕ) (ks : List PrintedToken) (v : Tree) → Chain k → Loops k m ks v → Stands (suc k) m ks v
loops_stand k m ks v c l = record {
  reads = λ w r e h.
      let x = l.goes w r e (subset_within (behind (suc k)) (behind k) (code (head_of r)) c.next_behind h) in (
        x.0,
        x.1,
        x.2 ∙ stops_here (comes (operators k)) (read_joined k (chain_at k m)) (joined_eats k m) x.0 r (turns k m x.0 r) refl
            (apart_within (behind (suc k)) (Only (operators k)) (code (head_of r)) c.next_apart h),
      );
}

-- and begins after a first operand
pub stand_loops : (k m : ℕ) (ks : List PrintedToken) (v : Tree) → Chain k → Stands k m ks v → Loops k m ks v
unfolding read_chained
stand_loops k m ks v c s = record {
  goes = λ w r e h.
      let x = s.reads w r e h in
      (x.0, x.1, c.lay m (w ++ r) ∙ ap (λ (y : Read Terminal Tree). y >>= λ x. turns k m x.0 x.1) x.2);
}

climb_compared : (m : ℕ) (ks : List PrintedToken) (v : Tree) → Stands 3 m ks v → Stands 4 m ks v
unfolding read_chain read_layer read_compared
climb_compared m ks v s = record {
  reads = λ w r e h.
      let x = s.reads w r e (subset_within (behind 4) (behind 3) (code (head_of r)) refl h) in (
        x.0,
        x.1,
        ap (λ (y : Read Terminal Tree). y >>= λ x. read_either (comes (operators 3)) (read_joined 3 (chain_at 3 m) x.0) (read_nothing x.0) x.1) x.2
            ∙ ap (λ (b : Bool). cond b (read_joined 3 (chain_at 3 m) x.0 r) (Ok (x.0, r))) (apart_within (behind 4) (Only (operators 3)) (code (head_of r)) refl h),
      );
}

climb : (k m : ℕ) (ks : List PrintedToken) (v : Tree) → k ≤ 6 → Stands k m ks v → Stands (suc k) m ks v
climb zero m ks v le s = loops_stand 0 m ks v chain_0 (stand_loops 0 m ks v chain_0 s)
climb (suc zero) m ks v le s = loops_stand 1 m ks v chain_1 (stand_loops 1 m ks v chain_1 s)
climb (suc (suc zero)) m ks v le s = loops_stand 2 m ks v chain_2 (stand_loops 2 m ks v chain_2 s)
climb (suc (suc (suc zero))) m ks v le s = climb_compared m ks v s
climb (suc (suc (suc (suc zero)))) m ks v le s = loops_stand 4 m ks v chain_4 (stand_loops 4 m ks v chain_4 s)
climb (suc (suc (suc (suc (suc zero))))) m ks v le s = loops_stand 5 m ks v chain_5 (stand_loops 5 m ks v chain_5 s)
climb (suc (suc (suc (suc (suc (suc zero)))))) m ks v le s = loops_stand 6 m ks v chain_6 (stand_loops 6 m ks v chain_6 s)
climb (suc (suc (suc (suc (suc (suc (suc k))))))) m ks v le s = absurd (omega arith)

pub climbs : (j k m : ℕ) (ks : List PrintedToken) (v : Tree) → k ≤ j → j ≤ 7 → Stands k m ks v → Stands j m ks v
climbs zero k m ks v le small s = let e : k ≡ 0 = omega arith in subst (λ (k : ℕ). Stands k m ks v) e s
climbs (suc j) k m ks v le small s = elim (cases_lt k (suc j)) [
  | inl lt ↦ climb j m ks v (omega arith) (climbs j k m ks v (omega arith) (omega arith) s)
  | inr ge ↦ let e : k ≡ suc j = omega arith in subst (λ (k : ℕ). Stands k m ks v) e s
]

-- ---- parentheses

pub parens_stand : (m : ℕ) (ks : List PrintedToken) (v : Tree) → Reads (expr_at m) ks after_expr unplaced v → Stands 0 m (enclosed false ks) v
unfolding read_chain read_unary read_primary read_parenthesised
parens_stand m ks v s = reads_narrowed Every (reads_second (symbol_code syms.Tilde ∷ []) _
    (reads_second (2 ∷ []) _ (reads_second (3 ∷ []) _ (reads_second (1 ∷ []) _
    (reads_first (symbol_code syms.OpenParen ∷ []) _ (reads_then (reads_symbol syms.OpenParen)
    (λ p u. reads_then s (λ x e. reads_give (λ closed. with_place p x) unplaced v (reads_symbol syms.CloseParen) (λ c u. unplaced_placed p x ∙ e)) refl)
    refl) refl) (avoids _ _ refl)) (avoids _ _ refl)) (avoids _ _ refl)) (avoids _ _ refl)) refl
