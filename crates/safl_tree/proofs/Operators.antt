-- An expression's words are read as it: what is claimed of an expression, and operators.
use Rattle.safl_tree.proofs.Common.{Deep, Primitive, Terminal, cases_lt, goes_on, leb-true, shallow, subset_within, ◌⊎◌}
use Rattle.std.proofs.Common.{◌≡◌, ℕ, zero, suc, ◌<◌, ◌≤◌, leb, Bool, true, false, cond, List, [], ◌∷◌, ◌++◌, refl, sym, ap, subst, ◌∙◌, inl, inr, append_assoc, arith, lt-ltb}
use Rattle.safl_grammar.specs.Sets.{Every, Only, within}
use Rattle.safl_grammar.specs.Reading.{head_of}
use Rattle.safl_grammar.proofs.Small.{small}
use Rattle.safl_word.specs.declared.token.Key.TheVariants as keys
use Rattle.safl_word.specs.declared.token.Sym.TheVariants as syms
use Rattle.safl_word.specs.declared.primitive.Primitive.TheVariants as prims
use Rattle.safl_tree.specs.Tree.{Tree, Number, Op, no_tree, a_tree, trees_of, place_of, depth}
use Rattle.safl_tree.specs.Codes.{comes, word_code, symbol_code, operators, operator, primitive_of, primitive_in}
use Rattle.safl_tree.specs.Reader.{read_joined, read_compared, read_layer, read_chain, read_expr, expr_at}
use Rattle.safl_tree.specs.Printable.{layers_of, operator_layers, lifted, levels, left_context, right_context, is_binary, operands}
use Rattle.safl_tree.proofs.Leaves.{after_expr}
use Rattle.safl_tree.specs.Printed
use Rattle.safl_word.specs.Operators.{symbol_of}
use Rattle.safl_tree.specs.Printed.{PrintedToken, separated, enclosed, applied, words}
use Rattle.safl_tree.specs.Places.{unplaced}
use Rattle.safl_tree.proofs.Readings.{Reads, first_of, cut, kind_is, next_within, classed_some, reads_limited, reads_then, reads_first, Avoids, avoids, reads_second, reads_narrowed, reads_give}
use Rattle.safl_tree.proofs.Layers.{unary_at, chain_at, behind, Stands, same_depth, joined_eats, turns, Chain, chain_0, chain_1, chain_2, chain_4}
use Rattle.safl_tree.proofs.Layers.{chain_5, chain_6, Loops, loops_stand, stand_loops, climbs, parens_stand}

-- ---- what is claimed of an expression

-- its words begin with neither `if` nor `let` nor `case`
pub record Plain (ks : List PrintedToken) : Type 0 where
  pub no_choice : Avoids (word_code keys.If ∷ []) ks
  pub no_binding : Avoids (word_code keys.Let ∷ []) ks
  pub no_cases : Avoids (word_code keys.Case ∷ []) ks

-- with so many levels left below its own, its words are read as it: at its own place, as any expression, and by the loop of its layer
pub record Back (m : ℕ) (t : Tree) : Type 0 where
  pub low : layers_of t ≤ 7 → Stands (layers_of t) m (words t) (unplaced t)
  pub high : layers_of t ≡ 8 → Reads (expr_at (suc m)) (words t) after_expr unplaced (unplaced t)
  pub loops : (k : ℕ) → layers_of t ≡ suc k → Chain k → Loops k m (words t) (unplaced t)

pub record Claim (t : Tree) : Type 0 where
  pub level : 1 ≤ levels t
  pub opens : Avoids (symbol_code syms.CloseParen ∷ []) (words t)
  pub plain : layers_of t ≤ 7 → Plain (words t)
  pub back : (m : ℕ) → levels t ≤ suc m → Back m t

pub own_of_small : (o : Primitive) → operator_layers o ≤ 8
own_of_small prims.Mul = omega arith
own_of_small _ = omega arith

pub own_small : (t : Tree) → layers_of t ≤ 8
own_small (Number p n) = omega arith
own_small (Op p o ts) = own_of_small o
own_small _ = omega arith

seven_whole : (m : ℕ) (ks : List PrintedToken) (v : Tree) → Plain ks → Stands 7 m ks v → Reads (expr_at (suc m)) ks after_expr unplaced v
unfolding expr_at read_expr
seven_whole m ks v p s = reads_second (word_code keys.If ∷ []) _ (reads_second (word_code keys.Let ∷ []) _ (reads_second (word_code keys.Case ∷ []) _ s p.no_cases) p.no_binding) p.no_choice

-- a whole expression, where m levels are left
pub whole : (t : Tree) → Claim t → (m : ℕ) → levels t ≤ m → Reads (expr_at m) (words t) after_expr unplaced (unplaced t)
whole t c zero le = absurd (omega (arith, c.level))
whole t c (suc m) le =
    let b = c.back m le in
    elim (cases_lt (layers_of t) 8) [
      | inl lt ↦ seven_whole m (words t) (unplaced t) (c.plain (omega arith)) (climbs 7 (layers_of t) m (words t) (unplaced t) (omega arith) (omega arith) (b.low (omega arith)))
      | inr ge ↦ b.high (omega (arith, own_small t))
    ]

pub lifted_low : (k j n m : ℕ) → lifted k j n ≤ m → leb j k ≡ true → n ≤ m
lifted_low k j n m le h = subst (λ (b : Bool). cond b n (suc n) ≤ m) h le

lifted_high : (k j n m : ℕ) → lifted k j n ≤ m → leb j k ≡ false → suc n ≤ m
lifted_high k j n m le h = subst (λ (b : Bool). cond b n (suc n) ≤ m) h le

-- an expression in parentheses
closed : (t : Tree) → Claim t → (m : ℕ) → suc (levels t) ≤ suc m → Stands 0 m (enclosed false (words t)) (unplaced t)
closed t c m le = parens_stand m (words t) (unplaced t) (whole t c m (omega arith))

-- a part at a place of k layers
pub part : (t : Tree) → Claim t → (k m : ℕ) → k ≤ 7 → lifted k (layers_of t) (levels t) ≤ suc m → Stands k m (enclosed (leb (layers_of t) k) (words t)) (unplaced t)
part t c k m small le = go (leb (layers_of t) k) refl
  where
    go : (b : Bool) → leb (layers_of t) k ≡ b → Stands k m (enclosed b (words t)) (unplaced t)
    go true h =
        let i = leb-true (layers_of t) k h in
        climbs k (layers_of t) m (words t) (unplaced t) i small ((c.back m (lifted_low k (layers_of t) (levels t) (suc m) le h)).low (omega (arith, i)))
    go false h = climbs k 0 m (enclosed false (words t)) (unplaced t) (omega arith) small (closed t c m (lifted_high k (layers_of t) (levels t) (suc m) le h))

-- a left operand in a chain
left_part : (t : Tree) → Claim t → (k m : ℕ) → k ≤ 6 → Chain k → lifted (suc k) (layers_of t) (levels t) ≤ suc m → Loops k m (enclosed (leb (layers_of t) (suc k)) (words t)) (unplaced t)
left_part t c k m small chains le = go (leb (layers_of t) (suc k)) refl
  where
    go : (b : Bool) → leb (layers_of t) (suc k) ≡ b → Loops k m (enclosed b (words t)) (unplaced t)
    go true h =
        let i = leb-true (layers_of t) (suc k) h in
        let b = c.back m (lifted_low (suc k) (layers_of t) (levels t) (suc m) le h) in
        elim (cases_lt (layers_of t) (suc k)) [
          | inl lt ↦ stand_loops k m (words t) (unplaced t) chains (climbs k (layers_of t) m (words t) (unplaced t) (omega arith) (omega arith) (b.low (omega arith)))
          | inr ge ↦ b.loops k (omega (arith, i)) chains
        ]
    go false h = stand_loops k m (enclosed false (words t)) (unplaced t) chains
        (climbs k 0 m (enclosed false (words t)) (unplaced t) (omega arith) (omega arith) (closed t c m (lifted_high (suc k) (layers_of t) (levels t) (suc m) le h)))

pub avoids_front : (codes : List ℕ) (u v : List PrintedToken) → Avoids codes u → Avoids codes (u ++ v)
avoids_front codes u v (avoids k ks n) = avoids k (ks ++ v) n

plain_front : (u v : List PrintedToken) → Plain u → Plain (u ++ v)
plain_front u v p = record { no_choice = avoids_front _ u v p.no_choice; no_binding = avoids_front _ u v p.no_binding; no_cases = avoids_front _ u v p.no_cases }

pub plain_part : (t : Tree) → Claim t → (k : ℕ) → k ≤ 7 → Plain (enclosed (leb (layers_of t) k) (words t))
plain_part t c k small = go (leb (layers_of t) k) refl
  where
    go : (b : Bool) → leb (layers_of t) k ≡ b → Plain (enclosed b (words t))
    go true h = let i = leb-true (layers_of t) k h in c.plain (omega (arith, i))
    go false h = record { no_choice = avoids _ _ refl; no_binding = avoids _ _ refl; no_cases = avoids _ _ refl }

pub opens_part : (t : Tree) → Claim t → (k : ℕ) → Avoids (symbol_code syms.CloseParen ∷ []) (enclosed (leb (layers_of t) k) (words t))
opens_part t c k = go (leb (layers_of t) k)
  where
    go : (b : Bool) → Avoids (symbol_code syms.CloseParen ∷ []) (enclosed b (words t))
    go true = c.opens
    go false = avoids _ _ refl

-- ---- operators between operands

pub record Between (o : Primitive) : Type 0 where
  pub layers_of : operator_layers o ≡ suc (right_context o)
  pub small : right_context o ≤ 6
  pub among : within (Only (operators (right_context o))) (symbol_code (symbol_of o)) ≡ true
  pub means : primitive_of (symbol_of o) ≡ o
  pub binary : is_binary o ≡ true
  pub two : operands o ≡ 2
  pub written : (parts : List (List PrintedToken)) → applied o parts ≡ separated (Printed.sym (symbol_of o)) parts
  pub left : ((left_context o ≡ suc (right_context o)) × Chain (right_context o)) ⊎ ((left_context o ≡ 3) × (right_context o ≡ 3))

pub between_mul : Between prims.Mul
between_mul = record { layers_of = refl; small = omega arith; among = refl; means = refl; binary = refl; two = refl; written = λ parts. refl; left = inl (refl, chain_0) }

pub between_add : Between prims.Add
between_add = record { layers_of = refl; small = omega arith; among = refl; means = refl; binary = refl; two = refl; written = λ parts. refl; left = inl (refl, chain_1) }

pub between_sub : Between prims.Sub
between_sub = record { layers_of = refl; small = omega arith; among = refl; means = refl; binary = refl; two = refl; written = λ parts. refl; left = inl (refl, chain_1) }

pub between_shl : Between prims.Shl
between_shl = record { layers_of = refl; small = omega arith; among = refl; means = refl; binary = refl; two = refl; written = λ parts. refl; left = inl (refl, chain_2) }

pub between_shr : Between prims.Shr
between_shr = record { layers_of = refl; small = omega arith; among = refl; means = refl; binary = refl; two = refl; written = λ parts. refl; left = inl (refl, chain_2) }

pub between_eq : Between prims.Eq
between_eq = record { layers_of = refl; small = omega arith; among = refl; means = refl; binary = refl; two = refl; written = λ parts. refl; left = inr (refl, refl) }

pub between_ne : Between prims.Ne
between_ne = record { layers_of = refl; small = omega arith; among = refl; means = refl; binary = refl; two = refl; written = λ parts. refl; left = inr (refl, refl) }

pub between_lt : Between prims.Lt
between_lt = record { layers_of = refl; small = omega arith; among = refl; means = refl; binary = refl; two = refl; written = λ parts. refl; left = inr (refl, refl) }

pub between_le : Between prims.Le
between_le = record { layers_of = refl; small = omega arith; among = refl; means = refl; binary = refl; two = refl; written = λ parts. refl; left = inr (refl, refl) }

pub between_gt : Between prims.Gt
between_gt = record { layers_of = refl; small = omega arith; among = refl; means = refl; binary = refl; two = refl; written = λ parts. refl; left = inr (refl, refl) }

pub between_ge : Between prims.Ge
between_ge = record { layers_of = refl; small = omega arith; among = refl; means = refl; binary = refl; two = refl; written = λ parts. refl; left = inr (refl, refl) }

pub between_and : Between prims.And
between_and = record { layers_of = refl; small = omega arith; among = refl; means = refl; binary = refl; two = refl; written = λ parts. refl; left = inl (refl, chain_4) }

pub between_xor : Between prims.Xor
between_xor = record { layers_of = refl; small = omega arith; among = refl; means = refl; binary = refl; two = refl; written = λ parts. refl; left = inl (refl, chain_5) }

pub between_or : Between prims.Or
between_or = record { layers_of = refl; small = omega arith; among = refl; means = refl; binary = refl; two = refl; written = λ parts. refl; left = inl (refl, chain_6) }

abbrev two_words : ℕ → Primitive → Tree → Tree → List PrintedToken
two_words l o a b = enclosed (leb (layers_of a) l) (words a) ++ (Printed.sym (symbol_of o) ∷ enclosed (leb (layers_of b) (right_context o)) (words b))

words_two : (p : ℕ) (o : Primitive) (a b : Tree) → Between o → words (Op p o (a_tree a (a_tree b no_tree))) ≡ two_words (left_context o) o a b
words_two p o a b s = s.written (enclosed (leb (layers_of a) (left_context o)) (words a) ∷ (enclosed (leb (layers_of b) (right_context o)) (words b) ∷ []))

-- an operator and its right operand, after a left one
joined_reads : (o : Primitive) (m : ℕ) (x : Tree) (ks : List PrintedToken) (v : Tree) → Between o → depth x < 100 → Stands (right_context o) m ks v → Reads
    (read_joined (right_context o) (chain_at (right_context o) m) x) (Printed.sym (symbol_of o) ∷ ks) (behind (right_context o)) unplaced
    (Op 0 o (a_tree (unplaced x) (a_tree v no_tree)))
unfolding read_joined
joined_reads o m x ks v s d b =
    reads_then (reads_limited Every Deep (shallow x) (operator (right_context o)) (Printed.sym (symbol_of o)) (λ (q : Primitive). q) o (λ t e. (
      primitive_in t.kind,
      ap (λ (y : PrintedToken). primitive_in y.kind) e ∙ s.means,
      classed_some (Only (operators (right_context o)))
          (λ t. primitive_in t.kind) t (Printed.sym (symbol_of o)) e s.among,
      lt-ltb (depth x) 100 d,
    )))
    (λ op e. reads_give (λ y. Op (place_of x) op (trees_of (x ∷ y ∷ []))) unplaced (Op 0 o (a_tree (unplaced x) (a_tree v no_tree))) b
    (λ y i. ap (λ (q : Primitive). Op 0 q (a_tree (unplaced x) (a_tree (unplaced y) no_tree))) e ∙ ap
    (λ (z : Tree). Op 0 o (a_tree (unplaced x) (a_tree z no_tree))) i)) refl

chain_goes : (o : Primitive) (m : ℕ) (a b : Tree) (ka kb : List PrintedToken) → Between o → Chain (right_context o) → depth a < 100 → Loops (right_context o) m ka
    (unplaced a) → Stands (right_context o) m kb (unplaced b) → Loops (right_context o) m (ka ++ (Printed.sym (symbol_of o) ∷ kb))
    (Op 0 o (a_tree (unplaced a) (a_tree (unplaced b) no_tree)))
chain_goes o m a b ka kb s chains d l q = record {
  goes = λ w r e h.
      let k = right_context o in
      let c = cut w ka (Printed.sym (symbol_of o) ∷ kb) e in
      let f = first_of c.back (Printed.sym (symbol_of o)) kb c.second in
      let inside = subset_within (Only (operators k)) (behind k) (symbol_code (symbol_of o)) chains.ops_behind s.among in
      let x = l.goes c.front (c.back ++ r) c.first (next_within (behind k) (Printed.sym (symbol_of o) ∷ kb) (behind k) c.back r inside c.second h) in
      let low : depth x.0 < 100 = subst (λ (n : ℕ). n < 100) (sym (same_depth x.0 a x.1)) d in
      let y = (joined_reads o m x.0 kb (unplaced b) s low q).reads c.back r c.second h in
      let test : comes (operators k) (head_of (c.back ++ r)) ≡ true = ap (λ (v : List Terminal). comes (operators k) (head_of (v ++ r))) f.is ∙
      kind_is (Only (operators k)) f.token (Printed.sym (symbol_of o)) true f.word s.among in (
        y.0,
        y.1 ∙ ap (λ (z : Tree). Op 0 o (a_tree z (a_tree (unplaced b) no_tree))) x.1,
        ap (λ (v : List Terminal). read_chain (suc k) (unary_at m) v) (ap (λ (v : List Terminal). v ++ r) c.is ∙ append_assoc c.front c.back r)
            ∙ x.2
            ∙ sym (goes_on (comes (operators k)) (read_joined k (chain_at k m)) (joined_eats k m) x.0 (c.back ++ r) (turns k m x.0 (c.back ++ r)) refl y.0 r test y.2),
      );
}

compared_stands : (o : Primitive) (m : ℕ) (a b : Tree) (ka kb : List PrintedToken) → Between o → right_context o ≡ 3 → depth a < 100 → Stands 3 m ka
    (unplaced a) → Stands 3 m kb (unplaced b) → Stands 4 m (ka ++ (Printed.sym (symbol_of o) ∷ kb)) (Op 0 o (a_tree (unplaced a) (a_tree (unplaced b) no_tree)))
unfolding read_chain read_layer read_compared
compared_stands o m a b ka kb s three d l q =
    let among : within (Only (operators 3)) (symbol_code (symbol_of o)) ≡ true = subst (λ (k : ℕ). within (Only (operators k)) (symbol_code (symbol_of o)) ≡ true) three s.among in
    reads_narrowed (behind 3) (reads_then l (λ x e. reads_first (operators 3) _ (joined_at x e) among) (subset_within (Only (operators 3)) (behind 3) (symbol_code (symbol_of o)) refl among)) refl
  where
    joined_at : (x : Tree) → unplaced x ≡ unplaced a → Reads (read_joined 3 (chain_at 3 m) x) (Printed.sym (symbol_of o) ∷ kb) (behind 3) unplaced
        (Op 0 o (a_tree (unplaced a) (a_tree (unplaced b) no_tree)))
    joined_at x e =
        let low : depth x < 100 = subst (λ (n : ℕ). n < 100) (sym (same_depth x a e)) d in
        let j = joined_reads o m x kb (unplaced b) s low (subst (λ (k : ℕ). Stands k m kb (unplaced b)) (sym three) q) in
        let i = subst (λ (k : ℕ). Reads (read_joined k (chain_at k m) x) (Printed.sym (symbol_of o) ∷ kb) (behind k) unplaced (Op 0 o (a_tree (unplaced x) (a_tree (unplaced b) no_tree)))) three j in
        subst (λ (z : Tree). Reads (read_joined 3 (chain_at 3 m) x) (Printed.sym (symbol_of o) ∷ kb) (behind 3) unplaced (Op 0 o (a_tree z (a_tree (unplaced b) no_tree)))) e i

most_two : (p : ℕ) (o : Primitive) (a b : Tree) (m : ℕ) → levels (Op p o (a_tree a (a_tree b no_tree))) ≤ m →
    (lifted (left_context o) (layers_of a) (levels a) ≤ m) × (lifted (right_context o) (layers_of b) (levels b) ≤ m)
most_two p o a b m le = (omega arith, omega arith)

chain_back : (p : ℕ) (o : Primitive) (a b : Tree) → Between o → left_context o ≡ suc (right_context o) → Chain (right_context o) → depth a < 100 → Claim a →
    Claim b → (m : ℕ) → levels (Op p o (a_tree a (a_tree b no_tree))) ≤ suc m → Back m (Op p o (a_tree a (a_tree b no_tree)))
chain_back p o a b s left chains d ca cb m le =
    let t = Op p o (a_tree a (a_tree b no_tree)) in
    let both = most_two p o a b (suc m) le in
    let la : lifted (suc (right_context o)) (layers_of a) (levels a) ≤ suc m = subst (λ (k : ℕ). lifted k (layers_of a) (levels a) ≤ suc m) left both.0 in
    let l = chain_goes o m a b (enclosed (leb (layers_of a) (suc (right_context o))) (words a)) (enclosed (leb (layers_of b) (right_context o)) (words b)) s chains d
    (left_part a ca (right_context o) m s.small chains la) (part b cb (right_context o) m (omega (arith, s.small)) both.1) in
    let written : words t ≡ two_words (suc (right_context o)) o a b = words_two p o a b s ∙ ap (λ (k : ℕ). two_words k o a b) left in
    let loops : Loops (right_context o) m (words t) (unplaced t) = subst (λ (ks : List PrintedToken). Loops (right_context o) m ks (unplaced t)) (sym written) l in
    record {
      low = λ h. subst (λ (k : ℕ). Stands k m (words t) (unplaced t)) (sym s.layers_of) (loops_stand (right_context o) m (words t) (unplaced t) chains loops);
      high = λ h. absurd (omega (arith, s.layers_of, s.small, h));
      loops = λ k e c. let same : right_context o ≡ k = omega (arith, s.layers_of, e) in subst (λ (k : ℕ). Loops k m (words t) (unplaced t)) same loops;
    }

compared_back : (p : ℕ) (o : Primitive) (a b : Tree) → Between o → left_context o ≡ 3 → right_context o ≡ 3 → depth a < 100 → Claim a → Claim b → (m : ℕ)
    → levels (Op p o (a_tree a (a_tree b no_tree))) ≤ suc m → Back m (Op p o (a_tree a (a_tree b no_tree)))
compared_back p o a b s left three d ca cb m le =
    let t = Op p o (a_tree a (a_tree b no_tree)) in
    let both = most_two p o a b (suc m) le in
    let la : lifted 3 (layers_of a) (levels a) ≤ suc m = subst (λ (k : ℕ). lifted k (layers_of a) (levels a) ≤ suc m) left both.0 in
    let lb : lifted 3 (layers_of b) (levels b) ≤ suc m = subst (λ (k : ℕ). lifted k (layers_of b) (levels b) ≤ suc m) three both.1 in
    let l = compared_stands o m a b (enclosed (leb (layers_of a) 3) (words a)) (enclosed (leb (layers_of b) 3) (words b)) s three d (part a ca 3 m (omega arith) la) (part b cb 3 m (omega arith) lb) in
    let written : words t ≡ enclosed (leb (layers_of a) 3) (words a) ++ (Printed.sym (symbol_of o) ∷ enclosed (leb (layers_of b) 3) (words b)) = words_two p o a b
    s ∙ ap (λ (k : ℕ). two_words k o a b) left ∙ ap (λ (k : ℕ). enclosed (leb (layers_of a) 3) (words a) ++
    (Printed.sym (symbol_of o) ∷ enclosed (leb (layers_of b) k) (words b))) three in
    let stands : Stands 4 m (words t) (unplaced t) = subst (λ (ks : List PrintedToken). Stands 4 m ks (unplaced t)) (sym written) l in
    let four : operator_layers o ≡ 4 = s.layers_of ∙ ap suc three in
    record {
      low = λ h. subst (λ (k : ℕ). Stands k m (words t) (unplaced t)) (sym four) stands;
      high = λ h. absurd (omega (arith, four, h));
      loops = λ k e c. absurd (c.other (omega (arith, four, e)));
    }

pub lifted_some : (k j n : ℕ) → 1 ≤ n → 1 ≤ lifted k j n
lifted_some k j n h = go (leb j k)
  where
    go : (b : Bool) → 1 ≤ cond b n (suc n)
    go true = h
    go false = omega arith

pub between_claim : (p : ℕ) (o : Primitive) (a b : Tree) → Between o → depth a < 100 → Claim a → Claim b → Claim (Op p o (a_tree a (a_tree b no_tree)))
between_claim p o a b s d ca cb = record {
  level = let i = lifted_some (left_context o) (layers_of a) (levels a) ca.level in omega (arith, i);
  opens = subst (Avoids (symbol_code syms.CloseParen ∷ [])) (sym (words_two p o a b s))
      (avoids_front (symbol_code syms.CloseParen ∷ []) (enclosed (leb (layers_of a) (left_context o)) (words a))
      (Printed.sym (symbol_of o) ∷ enclosed (leb (layers_of b) (right_context o)) (words b)) (opens_part a ca (left_context o)));
  plain = λ h. subst Plain (sym (words_two p o a b s)) (plain_front (enclosed (leb (layers_of a) (left_context o)) (words a))
      (Printed.sym (symbol_of o) ∷ enclosed (leb (layers_of b) (right_context o)) (words b)) (plain_part a ca (left_context o) (left_small s.left)));
  back = λ m le. elim s.left [
    | inl x ↦ chain_back p o a b s x.0 x.1 d ca cb m le
    | inr x ↦ compared_back p o a b s x.0 x.1 d ca cb m le
  ];
}
  where
    left_small : ((left_context o ≡ suc (right_context o)) × Chain (right_context o)) ⊎ ((left_context o ≡ 3) × (right_context o ≡ 3)) → left_context o ≤ 7
    left_small (inl x) = omega (arith, x.0, s.small)
    left_small (inr x) = omega (arith, x.0)
