-- What is read has the form of a printable program and keeps the levels: expressions.
use Rattle.safl_tree.proofs.Common.{ArmList, Deep, IsSourceName, Only, Primitive, Reading, TokenKind, cond_some, ltb-true, shallow, within}
use Rattle.std.proofs.Common.{◌≡◌, ℕ, zero, suc, ◌+◌, ◌<◌, ◌≤◌, Bool, true, List, [], ◌∷◌, ◌++◌, length, Some, None, refl, sym, ap, subst, ◌∙◌, arith}
use Rattle.safl_grammar.proofs.Yields.{Each, Yields, yields_nothing, yields_below, yields_limited, yields_follows, yields_either, yields_many}
use Rattle.safl_word.specs.declared.token.Key.TheVariants as keys
use Rattle.safl_word.specs.declared.token.Sym.TheVariants as syms
use Rattle.safl_word.specs.declared.primitive.Primitive.TheVariants as prims
use Rattle.safl_tree.specs.Tree.{Tree, Number, Sized, Variable, If, Let, Cases, Op, Call, Trees, no_tree, a_tree, Bound, Labelled, trees_of, binds_of, arms_of, place_of, with_place, depth}
use Rattle.safl_tree.specs.Terminals.{Terminal, NameAt}
use Rattle.safl_tree.specs.Codes.{code_of, word_code, symbol_code, comes, operators, primitive_in, operator}
use Rattle.safl_tree.specs.Reader.{read_literal, read_sized_literal, read_another, read_exprs, read_no_arguments, read_arguments, read_call}
use Rattle.safl_tree.specs.Reader.{read_named, read_parenthesised, read_cat, read_bits, read_ext, read_primary, read_inverted, read_unary}
use Rattle.safl_tree.specs.Reader.{read_joined, read_chained, read_compared, read_layer, read_chain, read_choice, read_written, read_bind}
use Rattle.safl_tree.specs.Reader.{read_another_bind, read_binds, read_binding, read_label, read_arm, read_last_arm, read_arms, read_cases, read_expr}
use Rattle.safl_tree.specs.Reader.{operand_at, expr_at, arm_value_at, more_arms_at, open_paren, close_paren, comma}
use Rattle.safl_tree.specs.Printable.{InRange, HasBinding, IsLabel, FitsWritten, IsFormed, AreFormed, AreFormedBinds, AreFormedArms, right_context}
use Rattle.safl_tree.specs.Printable.{left_context, below_of, operator_layers, layers_of, lifted, levels, most, most_operand, most_bind, most_arm, OfBinary, IsShallow}
use Rattle.safl_tree.specs.Printable.{AreShallow, AreShallowBinds, AreShallowArms}
use Rattle.safl_tree.proofs.Formed.{IsTerminal, any_word, any_symbol, NamedWell, a_name, a_number, a_width}
use Rattle.safl_tree.proofs.Formed.{an_index, a_sized, Layer, layer_0, layer_1, layer_2, layer_3, layer_4, layer_5, layer_6, lift_low}
use Rattle.safl_tree.proofs.Formed.{lift_high, lift_in, lift_up}
use Rattle.safl_tree.proofs.Operators.{own_small}

-- it stands at a place of k layers in at most m levels
pub record At (k m : ℕ) (t : Tree) : Type 0 where
  pub formed : IsFormed t
  pub shallow : IsShallow t
  pub kept : lifted k (layers_of t) (levels t) ≤ m

-- it takes at most m levels
pub record Whole (m : ℕ) (t : Tree) : Type 0 where
  pub formed : IsFormed t
  pub shallow : IsShallow t
  pub kept : levels t ≤ m

whole_of : (k m : ℕ) (t : Tree) → At k m t → Whole m t
whole_of k m t a = let h = lift_low k (layers_of t) (levels t) in record { formed = a.formed; shallow = a.shallow; kept = omega (arith, h, a.kept) }

at_up : (j k m : ℕ) (t : Tree) → j ≤ k → At j m t → At k m t
at_up j k m t le a = let h = lift_up j k (layers_of t) (levels t) le in record { formed = a.formed; shallow = a.shallow; kept = omega (arith, h, a.kept) }

risen : (m : ℕ) (t : Tree) → Whole m t → At 0 (suc m) t
risen m t w = let h = lift_high 0 (layers_of t) (levels t) in record { formed = w.formed; shallow = w.shallow; kept = omega (arith, h, w.kept) }

-- parentheses are one level
placed_at : (q m : ℕ) (t : Tree) → Whole m t → At 0 (suc m) (with_place q t)
placed_at q m (Number p n) w = risen m (Number q n) (record { formed = w.formed; shallow = w.shallow; kept = w.kept })
placed_at q m (Sized p n x) w = risen m (Sized q n x) (record { formed = w.formed; shallow = w.shallow; kept = w.kept })
placed_at q m (Variable p x) w = risen m (Variable q x) (record { formed = w.formed; shallow = w.shallow; kept = w.kept })
placed_at q m (If p c a b) w = risen m (If q c a b) (record { formed = w.formed; shallow = w.shallow; kept = w.kept })
placed_at q m (Let p bs t) w = risen m (Let q bs t) (record { formed = w.formed; shallow = w.shallow; kept = w.kept })
placed_at q m (Cases p e arms) w = risen m (Cases q e arms) (record { formed = w.formed; shallow = w.shallow; kept = w.kept })
placed_at q m (Op p o ts) w = risen m (Op q o ts) (record { formed = w.formed; shallow = w.shallow; kept = w.kept })
placed_at q m (Call p f ts) w = risen m (Call q f ts) (record { formed = w.formed; shallow = w.shallow; kept = w.kept })

-- a whole expression stands at any place of 8 layers
at_whole : (m : ℕ) (t : Tree) → Whole m t → At 8 m t
at_whole m t w = let h = lift_in 8 (layers_of t) (levels t) (own_small t) in record { formed = w.formed; shallow = w.shallow; kept = omega (arith, h, w.kept) }

-- ---- lists

pub each_end : {A : Type 0} (Q : A → Type 0) (xs : List A) (x : A) → Each Q xs → Q x → Each Q (xs ++ x ∷ [])
each_end Q [] x e q = (q, tt)
each_end Q (y ∷ xs) x e q = (e.0, each_end Q xs x e.1 q)

all_formed : (m : ℕ) (ts : List Tree) → Each (Whole m) ts → AreFormed (trees_of ts)
all_formed m [] e = tt
all_formed m (t ∷ ts) e = (e.0.formed, all_formed m ts e.1)

all_shallow : (m : ℕ) (ts : List Tree) → Each (Whole m) ts → AreShallow (trees_of ts)
all_shallow m [] e = tt
all_shallow m (t ∷ ts) e = (e.0.shallow, all_shallow m ts e.1)

all_kept : (m : ℕ) (ts : List Tree) → Each (Whole m) ts → most (trees_of ts) ≤ m
all_kept m [] e = omega arith
all_kept m (t ∷ ts) e = let h = all_kept m ts e.1 in omega (arith, e.0.kept, h)

-- a call and its arguments
called_at : (m p : ℕ) (f : List ℕ) (ts : List Tree) → IsSourceName f → Each (Whole m) ts → At 0 (suc m) (Call p f (trees_of ts))
called_at m p f ts n e = record { formed = (n, all_formed m ts e); shallow = all_shallow m ts e; kept = let h = all_kept m ts e in omega (arith, h) }

-- ---- primary expressions

literal_yields : (m : ℕ) → Yields IsTerminal read_literal (At 0 (suc m))
unfolding read_literal
literal_yields m = yields_follows (At 0 (suc m)) (Rattle.safl_tree.proofs.Formed.a_number)
    (λ n h. yields_nothing (At 0 (suc m)) (Number n.place n.value) (record { formed = h; shallow = tt; kept = omega arith }))

sized_yields : (m : ℕ) → Yields IsTerminal read_sized_literal (At 0 (suc m))
unfolding read_sized_literal
sized_yields m = yields_follows (At 0 (suc m)) a_sized (λ s h. yields_nothing (At 0 (suc m)) (Sized s.place s.width s.value) (record { formed = h; shallow = tt; kept = omega arith }))

label_yields : Yields IsTerminal read_label IsLabel
unfolding read_label read_literal read_sized_literal
label_yields = yields_either (comes (2 ∷ [])) (yields_follows IsLabel a_number (λ n h. yields_nothing IsLabel (Number n.place n.value) h))
    (yields_follows IsLabel a_sized (λ s h. yields_nothing IsLabel (Sized s.place s.width s.value) h))

module _ (m : ℕ) (pe : Reading Terminal Tree) (e : Yields IsTerminal pe (Whole m)) where
  another_yields : (xs : List Tree) → Each (Whole m) xs → Yields IsTerminal (read_another pe xs) (Each (Whole m))
  unfolding read_another
  another_yields xs h = yields_follows (Each (Whole m)) (any_symbol syms.Comma)
      (λ sep u. yields_follows (Each (Whole m)) e (λ x w. yields_nothing (Each (Whole m)) (xs ++ x ∷ []) (each_end (Whole m) xs x h w)))

  exprs_yields : Yields IsTerminal (read_exprs pe) (Each (Whole m))
  unfolding read_exprs
  exprs_yields = yields_follows (Each (Whole m)) e (λ x w. yields_many (comes comma) (read_another pe) (Each (Whole m)) another_yields (x ∷ []) (w, tt))

  call_yields : (f : NameAt) → NamedWell f → Yields IsTerminal (read_call pe f) (At 0 (suc m))
  unfolding read_call read_no_arguments read_arguments
  call_yields f n = yields_follows (At 0 (suc m)) (any_symbol syms.OpenParen)
      (λ o u. yields_either (comes close_paren) (yields_follows (At 0 (suc m)) (any_symbol syms.CloseParen)
      (λ c v. yields_nothing (At 0 (suc m)) (Call f.place f.name (trees_of [])) (called_at m f.place f.name [] n tt)))
      (yields_follows (At 0 (suc m)) exprs_yields (λ xs h. yields_follows (At 0 (suc m)) (any_symbol syms.CloseParen)
      (λ c v. yields_nothing (At 0 (suc m)) (Call f.place f.name (trees_of xs)) (called_at m f.place f.name xs n h)))))

  named_yields : Yields IsTerminal (read_named pe) (At 0 (suc m))
  unfolding read_named
  named_yields = yields_follows (At 0 (suc m)) a_name (λ f n. yields_either (comes open_paren) (call_yields f n)
      (yields_nothing (At 0 (suc m)) (Variable f.place f.name) (record { formed = n; shallow = tt; kept = omega arith })))

  parenthesised_yields : Yields IsTerminal (read_parenthesised pe) (At 0 (suc m))
  unfolding read_parenthesised
  parenthesised_yields = yields_follows (At 0 (suc m)) (any_symbol syms.OpenParen)
      (λ p u. yields_follows (At 0 (suc m)) e (λ x w. yields_follows (At 0 (suc m)) (any_symbol syms.CloseParen)
      (λ c v. yields_nothing (At 0 (suc m)) (with_place p x) (placed_at p m x w))))

  cat_at : (p : ℕ) (a b : Tree) → Whole m a → Whole m b → At 0 (suc m) (Op p prims.Cat (trees_of (a ∷ b ∷ [])))
  cat_at p a b v w = record {
    formed = (refl, tt, (v.formed, (w.formed, tt)));
    shallow = (tt, (v.shallow, (w.shallow, tt)));
    kept = let h =
        (at_whole m a v).kept in let i = (at_whole m b w).kept in omega (arith, h, i);
  }

  cat_yields : Yields IsTerminal (read_cat pe) (At 0 (suc m))
  unfolding read_cat
  cat_yields = yields_follows (At 0 (suc m)) (any_word keys.Cat)
      (λ p u. yields_follows (At 0 (suc m)) (any_symbol syms.OpenParen)
      (λ o u. yields_follows (At 0 (suc m)) e (λ a v. yields_follows (At 0 (suc m)) (any_symbol syms.Comma)
      (λ k u. yields_follows (At 0 (suc m)) e (λ b w. yields_follows (At 0 (suc m)) (any_symbol syms.CloseParen)
      (λ c u. yields_nothing (At 0 (suc m)) (Op p prims.Cat (trees_of (a ∷ b ∷ []))) (cat_at p a b v w)))))))

  bits_at : (p h l : ℕ) (a : Tree) → InRange (prims.Bits h l) → Whole m a → At 0 (suc m) (Op p (prims.Bits h l) (trees_of (a ∷ [])))
  bits_at p h l a r v = record { formed = (refl, r, (v.formed, tt)); shallow = (tt, (v.shallow, tt)); kept = let i = (at_whole m a v).kept in omega (arith, i) }

  bits_yields : Yields IsTerminal (read_bits pe) (At 0 (suc m))
  unfolding read_bits
  bits_yields = yields_follows (At 0 (suc m)) (any_word keys.Bits)
      (λ p u. yields_follows (At 0 (suc m)) (any_symbol syms.OpenParen)
      (λ o u. yields_follows (At 0 (suc m)) e (λ a v. yields_follows (At 0 (suc m)) (any_symbol syms.Comma)
      (λ k u. yields_follows (At 0 (suc m)) an_index (λ h i. yields_follows (At 0 (suc m)) (any_symbol syms.Comma)
      (λ k u. yields_follows (At 0 (suc m)) an_index (λ l j. yields_follows (At 0 (suc m)) (any_symbol syms.CloseParen)
      (λ c u. yields_nothing (At 0 (suc m)) (Op p (prims.Bits h.value l.value) (trees_of (a ∷ []))) (bits_at p h.value l.value a (i, j) v)))))))))

  ext_at : (p n : ℕ) (a : Tree) → InRange (prims.Ext n) → Whole m a → At 0 (suc m) (Op p (prims.Ext n) (trees_of (a ∷ [])))
  ext_at p n a r v = record { formed = (refl, r, (v.formed, tt)); shallow = (tt, (v.shallow, tt)); kept = let i = (at_whole m a v).kept in omega (arith, i) }

  ext_yields : Yields IsTerminal (read_ext pe) (At 0 (suc m))
  unfolding read_ext
  ext_yields = yields_follows (At 0 (suc m)) (any_word keys.Ext)
      (λ p u. yields_follows (At 0 (suc m)) (any_symbol syms.OpenParen)
      (λ o u. yields_follows (At 0 (suc m)) e (λ a v. yields_follows (At 0 (suc m)) (any_symbol syms.Comma)
      (λ k u. yields_follows (At 0 (suc m)) a_width (λ n i. yields_follows (At 0 (suc m)) (any_symbol syms.CloseParen)
      (λ c u. yields_nothing (At 0 (suc m)) (Op p (prims.Ext n.value) (trees_of (a ∷ []))) (ext_at p n.value a i v)))))))

  primary_yields : Yields IsTerminal (read_primary pe) (At 0 (suc m))
  unfolding read_primary
  primary_yields = yields_either (comes (2 ∷ [])) (literal_yields m)
      (yields_either (comes (3 ∷ [])) (sized_yields m) (yields_either (comes (1 ∷ [])) named_yields
      (yields_either (comes open_paren) parenthesised_yields (yields_either (comes (word_code keys.Cat ∷ [])) cat_yields
      (yields_either (comes (word_code keys.Bits ∷ [])) bits_yields ext_yields)))))

  -- ---- operators

  module _ (pu : Reading Terminal Tree) (u : Yields IsTerminal pu (At 0 m)) where
    not_at : (p : ℕ) (a : Tree) → At 0 m a → At 0 (suc m) (Op p prims.Not (trees_of (a ∷ [])))
    not_at p a v = record { formed = (refl, tt, (v.formed, tt)); shallow = (tt, (v.shallow, tt)); kept = omega (arith, v.kept) }

    pub unary_yields : Yields IsTerminal (read_unary pu pe) (At 0 (suc m))
    unfolding read_unary read_inverted
    unary_yields = yields_either (comes (symbol_code syms.Tilde ∷ []))
        (yields_follows (At 0 (suc m)) (any_symbol syms.Tilde) (λ p w. yields_follows (At 0 (suc m)) u
        (λ x v. yields_nothing (At 0 (suc m)) (Op p prims.Not (trees_of (x ∷ []))) (not_at p x v)))) primary_yields

-- an operator between its operands
joined_at : (k j m p : ℕ) (o : Primitive) (a b : Tree) → Layer k j o → depth a < 100 → At j m a → At k m b → At (suc k) m (Op p o (trees_of (a ∷ b ∷ [])))
joined_at k j m p o a b l d v w = record {
  formed = (sym l.two, l.range, (v.formed, (w.formed, tt)));
  shallow = (subst (λ (x : Bool). OfBinary x (depth a < 100)) (sym l.binary) d, (v.shallow, (w.shallow, tt)));
  kept =
      let ts : Trees = a_tree a (a_tree b no_tree) in
      let e = ap (λ (x : ℕ). most_operand x (right_context o) ts) l.left ∙ ap (λ (x : ℕ). most_operand j x ts) l.right in
      let i = lift_in (suc k) (operator_layers o) (below_of o + most_operand (left_context o) (right_context o) ts) (omega (arith, l.layers_of)) in
      omega (arith, e, i, l.below, v.kept, w.kept);
}

abbrev LayerTable : ℕ → ℕ → Type 0
LayerTable k j = (t : TokenKind) → within (Only (operators k)) (code_of t) ≡ true → Layer k j (primitive_in t)

abbrev Operates : ℕ → ℕ → Tree → Primitive → Type 0
Operates k j a o = Layer k j o × (depth a < 100)

module _ (k j m : ℕ) (table : LayerTable k j) (ps : Reading Terminal Tree) (sub : Yields IsTerminal ps (At k m)) where
  joined_yields : (a : Tree) → At j m a → Yields IsTerminal (read_joined k ps a) (At (suc k) m)
  unfolding read_joined
  joined_yields a v = yields_follows (At (suc k) m) (yields_limited (Operates k j a) Deep (shallow a) (operator k)
      (λ t x q e f. let h = cond_some (within (Only (operators k)) (code_of t.kind)) _ x e in
      (subst (Layer k j) h.1 (table t.kind h.0), ltb-true (depth a) 100 f)))
      (λ o h. yields_follows (At (suc k) m) sub (λ b w. yields_nothing (At (suc k) m) (Op (place_of a) o (trees_of (a ∷ b ∷ [])))
      (joined_at k j m (place_of a) o a b h.0 h.1 v w)))

chained_yields : (k m : ℕ) (table : LayerTable k (suc k)) (ps : Reading Terminal Tree) → Yields IsTerminal ps (At k m) → Yields IsTerminal (read_chained k ps) (At (suc k) m)
unfolding read_chained
chained_yields k m table ps sub = yields_follows (At (suc k) m) sub
    (λ a v. yields_many (comes (operators k)) (read_joined k ps) (At (suc k) m) (λ a v. joined_yields k (suc k) m table ps sub a v) a
    (at_up k (suc k) m a (omega arith) v))

compared_yields : (m : ℕ) (ps : Reading Terminal Tree) → Yields IsTerminal ps (At 3 m) → Yields IsTerminal (read_compared 3 ps) (At 4 m)
unfolding read_compared
compared_yields m ps sub = yields_follows (At 4 m) sub (λ a v. yields_either (comes (operators 3)) (joined_yields 3 3 m layer_3 ps sub a v) (yields_nothing (At 4 m) a (at_up 3 4 m a (omega arith) v)))

chain_yields : (m : ℕ) (pu : Reading Terminal Tree) → Yields IsTerminal pu (At 0 m) → Yields IsTerminal (read_chain 7 pu) (Whole m)
unfolding read_chain read_layer
chain_yields m pu u =
    let product = chained_yields 0 m layer_0 pu u in
    let sum = chained_yields 1 m layer_1 _ product in
    let shift = chained_yields 2 m layer_2 _ sum in
    let comparison = compared_yields m _ shift in
    let and = chained_yields 4 m layer_4 _ comparison in
    let xor = chained_yields 5 m layer_5 _ and in
    let or = chained_yields 6 m layer_6 _ xor in
    record { gives = λ w r x q e. let h = or.gives w r x q e in (whole_of 7 m x h.0, h.1) }

-- ---- expressions

choice_whole : (m p : ℕ) (c a b : Tree) → Whole m c → Whole m a → Whole m b → Whole (suc m) (If p c a b)
choice_whole m p c a b u v w = record { formed = (u.formed, v.formed, w.formed); shallow = (u.shallow, v.shallow, w.shallow); kept = omega (arith, u.kept, v.kept, w.kept) }

-- a binding's facts
abbrev BoundWell : ℕ → Bound → Type 0
BoundWell m b = IsSourceName b.name × FitsWritten b.width × Whole m b.value

binds_formed : (m : ℕ) (bs : List Bound) → Each (BoundWell m) bs → AreFormedBinds (binds_of bs)
binds_formed m [] e = tt
binds_formed m (b ∷ bs) e = (e.0.0, e.0.1, e.0.2.formed, binds_formed m bs e.1)

binds_shallow : (m : ℕ) (bs : List Bound) → Each (BoundWell m) bs → AreShallowBinds (binds_of bs)
binds_shallow m [] e = tt
binds_shallow m (b ∷ bs) e = (e.0.2.shallow, binds_shallow m bs e.1)

binds_kept : (m : ℕ) (bs : List Bound) → Each (BoundWell m) bs → most_bind (binds_of bs) ≤ m
binds_kept m [] e = omega arith
binds_kept m (b ∷ bs) e = let h = binds_kept m bs e.1 in omega (arith, e.0.2.kept, h)

record Binds (m : ℕ) (bs : List Bound) : Type 0 where
  some : HasBinding (binds_of bs)
  each : Each (BoundWell m) bs

some_end : (bs : List Bound) (b : Bound) → HasBinding (binds_of (bs ++ b ∷ []))
some_end [] b = tt
some_end (c ∷ bs) b = tt

binding_whole : (m p : ℕ) (bs : List Bound) (t : Tree) → Binds m bs → Whole m t → Whole (suc m) (Let p (binds_of bs) t)
binding_whole m p bs t h w = record {
  formed = (h.some, binds_formed m bs h.each, w.formed);
  shallow = (binds_shallow m bs h.each, w.shallow);
  kept =
      let i = binds_kept m bs h.each in omega (arith, i, w.kept);
}

written_yields : Yields IsTerminal read_written FitsWritten
unfolding read_written
written_yields = yields_either (comes (symbol_code syms.Colon ∷ []))
    (yields_follows FitsWritten (any_symbol syms.Colon) (λ c u. yields_follows FitsWritten a_width
    (λ n h. yields_nothing FitsWritten (Some n.value) h))) (yields_nothing FitsWritten None tt)

-- ---- arms

abbrev ArmWell : Labelled → Type 0
ArmWell a = IsLabel a.label × IsFormed a.value × IsShallow a.value

-- the arms from the i-th on take at most n levels
abbrev KeptFrom : ℕ → ℕ → List Labelled → Type 0
KeptFrom i n [] = Unit {0}
KeptFrom i n (a ∷ arms) = (i + 1 + levels a.value ≤ n) × KeptFrom (suc i) n arms

kept_end : (i n : ℕ) (arms : List Labelled) (a : Labelled) → KeptFrom i n arms → i + length arms + 1 + levels a.value ≤ n → KeptFrom i n (arms ++ a ∷ [])
kept_end i n [] a k h = (omega (arith, h), tt)
kept_end i n (b ∷ arms) a k h = (k.0, kept_end (suc i) n arms a k.1 (omega (arith, h)))

record LabelsWell (n : ℕ) (arms : List Labelled) : Type 0 where
  each : Each ArmWell arms
  kept : KeptFrom 0 n arms

arms_formed : (arms : List Labelled) (t : Tree) → Each ArmWell arms → IsFormed t → AreFormedArms (arms_of arms t)
arms_formed [] t e f = f
arms_formed (a ∷ arms) t e f = (e.0.0, e.0.1, arms_formed arms t e.1 f)

arms_shallow : (arms : List Labelled) (t : Tree) → Each ArmWell arms → IsShallow t → AreShallowArms (arms_of arms t)
arms_shallow [] t e f = f
arms_shallow (a ∷ arms) t e f = (e.0.2, arms_shallow arms t e.1 f)

arms_kept : (i n : ℕ) (arms : List Labelled) (t : Tree) → KeptFrom i n arms → i + length arms + 1 + levels t ≤ n → i + most_arm (arms_of arms t) ≤ n
arms_kept i n [] t k h = omega (arith, h)
arms_kept i n (a ∷ arms) t k h = let j = arms_kept (suc i) n arms t k.1 (omega (arith, h)) in omega (arith, k.0, j)

record ArmsWell (n : ℕ) (a : ArmList) : Type 0 where
  formed : AreFormedArms (arms_of a.labelled a.default)
  shallow : AreShallowArms (arms_of a.labelled a.default)
  kept : most_arm (arms_of a.labelled a.default) ≤ n

cases_whole : (m p : ℕ) (e : Tree) (a : ArmList) → Whole m e → ArmsWell m a → Whole (suc m) (Cases p e (arms_of a.labelled a.default))
cases_whole m p e a w h = record { formed = (w.formed, h.formed); shallow = (w.shallow, h.shallow); kept = omega (arith, w.kept, h.kept) }

-- the value of an arm, where m levels are left above it
record Value (m : ℕ) (t : Tree) : Type 0 where
  formed : IsFormed t
  shallow : IsShallow t
  kept : suc (levels t) ≤ m

labels_end : (n j : ℕ) (arms : List Labelled) (l x : Tree) → length arms + j ≡ n → LabelsWell n arms → IsLabel l → Value j x → LabelsWell n (arms ++ record { label = l; value = x } ∷ [])
labels_end n j arms l x i h k v = record {
  each = each_end ArmWell arms (record { label = l; value = x }) h.each (k, v.formed, v.shallow);
  kept = kept_end 0 n arms (record { label = l; value = x }) h.kept (omega (arith, i, v.kept));
}

arms_well : (n j : ℕ) (arms : List Labelled) (x : Tree) → length arms + j ≡ n → LabelsWell n arms → Value j x → ArmsWell n (record { labelled = arms; default = x })
arms_well n j arms x i h v = record {
  formed = arms_formed arms x h.each v.formed;
  shallow = arms_shallow arms x h.each v.shallow;
  kept = let k = arms_kept 0 n arms x h.kept (omega (arith, i, v.kept)) in omega (arith, k);
}

abbrev More : ℕ → (List Labelled → Reading Terminal ArmList) → Type 0
More j pr = (n : ℕ) (arms : List Labelled) → length arms + j ≡ suc n → LabelsWell n arms → Yields IsTerminal (pr arms) (ArmsWell n)

arms_yields : (j : ℕ) (pv : Reading Terminal Tree) → Yields IsTerminal pv (Value j) → (pr : List Labelled → Reading Terminal ArmList) → More j pr →
    (n : ℕ) (arms : List Labelled) → length arms + j ≡ n → LabelsWell n arms → Yields IsTerminal (read_arms pv pr arms) (ArmsWell n)
unfolding read_arms read_arm read_last_arm
arms_yields j pv v pr r n arms i h =
    yields_either (comes (2 ∷ 3 ∷ []))
    (yields_follows (ArmsWell n) label_yields (λ l k. yields_follows (ArmsWell n) (any_symbol syms.Arrow)
    (λ g u. yields_follows (ArmsWell n) v (λ x w. yields_follows (ArmsWell n) (any_symbol syms.Comma)
    (λ s u. r n (arms ++ record { label = l; value = x } ∷ []) (longer arms (record { label = l; value = x }) i) (labels_end n j arms l x i h k w))))))
    (yields_follows (ArmsWell n) (any_word keys.Default) (λ d u. yields_follows (ArmsWell n) (any_symbol syms.Arrow)
    (λ g u. yields_follows (ArmsWell n) v (λ x w. yields_nothing (ArmsWell n) (record { labelled = arms; default = x }) (arms_well n j arms x i h w)))))
  where
    longer : (arms : List Labelled) (a : Labelled) → length arms + j ≡ n → length (arms ++ a ∷ []) + j ≡ suc n
    longer arms a i = omega (arith, i, Rattle.std.proofs.Common.length-append arms (a ∷ []))

-- ---- an expression at each level

module _ (m : ℕ) (pe : Reading Terminal Tree) (e : Yields IsTerminal pe (Whole m)) where
  choice_yields : Yields IsTerminal (read_choice pe) (Whole (suc m))
  unfolding read_choice
  choice_yields = yields_follows (Whole (suc m)) (any_word keys.If)
      (λ p u. yields_follows (Whole (suc m)) e (λ c v. yields_follows (Whole (suc m)) (any_word keys.Then)
      (λ t u. yields_follows (Whole (suc m)) e (λ a w. yields_follows (Whole (suc m)) (any_word keys.Else)
      (λ l u. yields_follows (Whole (suc m)) e (λ b x. yields_nothing (Whole (suc m)) (If p c a b) (choice_whole m p c a b v w x)))))))

  bind_yields : Yields IsTerminal (read_bind pe) (BoundWell m)
  unfolding read_bind
  bind_yields = yields_follows (BoundWell m) a_name (λ x n. yields_follows (BoundWell m) written_yields
      (λ w f. yields_follows (BoundWell m) (any_symbol syms.Assign)
      (λ g u. yields_follows (BoundWell m) e (λ v h. yields_nothing (BoundWell m) (record { place = x.place; name = x.name; width = w; value = v }) (n, f, h)))))

  binds_yields : Yields IsTerminal (read_binds pe) (Binds m)
  unfolding read_binds read_another_bind
  binds_yields = yields_follows (Binds m) bind_yields (λ b h. yields_many (comes comma) (read_another_bind pe) (Binds m)
      (λ bs k. yields_follows (Binds m) (any_symbol syms.Comma)
      (λ s u. yields_follows (Binds m) bind_yields (λ b h. yields_nothing (Binds m) (bs ++ b ∷ [])
      (record { some = some_end bs b; each = each_end (BoundWell m) bs b k.each h })))) (b ∷ []) (record { some = tt; each = (h, tt) }))

  binding_yields : Yields IsTerminal (read_binding pe) (Whole (suc m))
  unfolding read_binding
  binding_yields = yields_follows (Whole (suc m)) (any_word keys.Let)
      (λ p u. yields_follows (Whole (suc m)) binds_yields (λ bs h. yields_follows (Whole (suc m)) (any_word keys.In)
      (λ i u. yields_follows (Whole (suc m)) e (λ x w. yields_nothing (Whole (suc m)) (Let p (binds_of bs) x) (binding_whole m p bs x h w)))))

  cases_yields : (pa : List Labelled → Reading Terminal ArmList) → Yields IsTerminal (pa []) (ArmsWell m) → Yields IsTerminal (read_cases pe pa) (Whole (suc m))
  unfolding read_cases
  cases_yields pa a = yields_follows (Whole (suc m)) (any_word keys.Case)
      (λ p u. yields_follows (Whole (suc m)) e (λ s w. yields_follows (Whole (suc m)) (any_symbol syms.OpenBrace)
      (λ o u. yields_follows (Whole (suc m)) a (λ r h. yields_follows (Whole (suc m)) (any_symbol syms.CloseBrace)
      (λ c u. yields_nothing (Whole (suc m)) (Cases p s (arms_of r.labelled r.default)) (cases_whole m p s r w h))))))

record Levelled (m : ℕ) : Type 0 where
  operand : Yields IsTerminal (operand_at m) (At 0 m)
  whole : Yields IsTerminal (expr_at m) (Whole m)
  value : Yields IsTerminal (arm_value_at m) (Value m)
  more : More m (more_arms_at m)

value_of : (m : ℕ) (p : Reading Terminal Tree) → Yields IsTerminal p (Whole m) → Yields IsTerminal p (Value (suc m))
value_of m p h = record { gives = λ w r x q e. let k = h.gives w r x q e in (record { formed = k.0.formed; shallow = k.0.shallow; kept = omega (arith, k.0.kept) }, k.1) }

no_labels : (n : ℕ) → LabelsWell n []
no_labels n = record { each = tt; kept = tt }

levelled : (m : ℕ) → Levelled m
unfolding operand_at expr_at arm_value_at more_arms_at read_expr
levelled zero = record { operand = yields_below (At 0 0); whole = yields_below (Whole 0); value = yields_below (Value 0); more = λ n arms i h. yields_below (ArmsWell n) }
levelled (suc m) =
    let l = levelled m in
    let u = unary_yields m (expr_at m) l.whole (operand_at m) l.operand in
    record {
      operand = u;
      whole = yields_either (comes (word_code keys.If ∷ [])) (choice_yields m (expr_at m) l.whole)
          (yields_either (comes (word_code keys.Let ∷ [])) (binding_yields m (expr_at m) l.whole)
          (yields_either (comes (word_code keys.Case ∷ [])) (cases_yields m (expr_at m) l.whole (read_arms (arm_value_at m) (more_arms_at m))
          (arms_yields m (arm_value_at m) l.value (more_arms_at m) l.more m [] (omega arith) (no_labels m)))
          (chain_yields (suc m) (read_unary (operand_at m) (expr_at m)) u)));
      value = value_of m (expr_at m) l.whole;
      more = λ n arms i h. arms_yields m (arm_value_at m) l.value (more_arms_at m) l.more n arms (omega (arith, i)) h;
    }

pub expr_yields : (m : ℕ) → Yields IsTerminal (expr_at m) (Whole m)
expr_yields m = (levelled m).whole
