-- Expressions are read again from their words.
use Rattle.safl_tree.proofs.Common.{ArmList, Primitive, Reading, Terminal, is_written_width, le-leb, read_either, width_max}
use Rattle.std.proofs.Common.{◌≡◌, ℕ, zero, suc, ◌<◌, ◌≤◌, leb, Bool, true, false, cond, List, [], ◌∷◌, ◌++◌, Option, Some, None, refl, sym, ap, subst, ◌∙◌, append_assoc, arith}
use Rattle.safl_grammar.specs.Sets.{Set, Every, Only, within}
use Rattle.safl_grammar.proofs.Small.{Small, small, small_nothing, eats_token, small_follows, small_parses}
use Rattle.safl_word.specs.declared.token.Key.TheVariants as keys
use Rattle.safl_word.specs.declared.token.Sym.TheVariants as syms
use Rattle.safl_word.specs.declared.primitive.Primitive.TheVariants as prims
use Rattle.safl_tree.specs.Tree.{Tree, Number, Sized, Variable, If, Let, Cases, Op, Call, Trees, no_tree, a_tree, Binds, no_bind, a_bind, Arms}
use Rattle.safl_tree.specs.Tree.{default_arm, an_arm, Bound, Labelled, trees_of, binds_of, arms_of, depth}
use Rattle.safl_tree.specs.Codes.{code_of, comes, word_code, symbol_code}
use Rattle.safl_tree.specs.Reader.{read_literal, read_sized_literal, read_another, read_exprs, read_no_arguments, read_arguments, read_call}
use Rattle.safl_tree.specs.Reader.{read_named, read_cat, read_bits, read_ext, read_primary, read_inverted, read_unary, read_chain, read_choice}
use Rattle.safl_tree.specs.Reader.{read_written, read_bind, read_another_bind, read_binds, read_binding, read_label, read_arm, read_last_arm}
use Rattle.safl_tree.specs.Reader.{read_arms, read_cases, read_expr, operand_at, expr_at, arm_value_at, more_arms_at, open_paren, close_paren}
use Rattle.safl_tree.specs.Printable.{layers_of, lifted, levels, is_binary, operands, count, InRange, HasBinding, IsLabel, FitsWritten, IsFormed, AreFormed}
use Rattle.safl_tree.specs.Printable.{AreFormedBinds, AreFormedArms, most, most_bind, most_arm, LeftShallow, OfBinary, IsShallow, AreShallow}
use Rattle.safl_tree.specs.Printable.{AreShallowBinds, AreShallowArms}
use Rattle.safl_tree.proofs.Leaves.{after_list, after_expr}
use Rattle.safl_tree.proofs.KeptLevels.{expr_small}
use Rattle.safl_tree.specs.Printed
use Rattle.safl_tree.specs.Printed.{PrintedToken, separated, enclosed, words, part_words, bind_words, arm_words, width_words}
use Rattle.safl_tree.specs.Places.{unplaced, unplaced_trees, unplaced_binds, unplaced_arms}
use Rattle.safl_tree.proofs.Readings.{Reads, AllRead, list_reads, reads_nothing, reads_then, reads_first, Avoids, avoids, reads_second, reads_none}
use Rattle.safl_tree.proofs.Readings.{reads_narrowed, reads_give, reads_key, reads_symbol, reads_name, reads_number, reads_width, reads_index}
use Rattle.safl_tree.proofs.Readings.{reads_sized}
use Rattle.safl_tree.proofs.Layers.{chain_at, behind, Stands}
use Rattle.safl_tree.proofs.Operators.{Plain, Claim, own_small, whole, part, opens_part, avoids_front, lifted_some, Between, between_claim}
use Rattle.safl_tree.proofs.Operators.{between_mul, between_add, between_sub, between_shl, between_shr, between_eq, between_ne, between_lt}
use Rattle.safl_tree.proofs.Operators.{between_le, between_gt, between_ge, between_and, between_xor, between_or}
use Rattle.std.proofs.Common.{map}
use Rattle.safl_tree.proofs.Expressions.{written_parses}
use Rattle.safl_tree.specs.Codes.{marked, name}

-- an expression that stands at any place
primary_claim : (t : Tree) → layers_of t ≡ 0 → 1 ≤ levels t → Avoids (symbol_code syms.CloseParen ∷ []) (words t) → Plain (words t) →
    ((m : ℕ) → levels t ≤ suc m → Stands 0 m (words t) (unplaced t)) → Claim t
primary_claim t o l a p f = record {
  level = l;
  opens = a;
  plain = λ h. p;
  back = λ m le. record {
    low = λ h. subst (λ (k : ℕ). Stands k m (words t) (unplaced t)) (sym o) (f m le);
    high = λ h. absurd (omega (arith, o, h));
    loops = λ k e c. absurd (omega (arith, o, e));
  };
}

-- an if, a let or a case
whole_claim : (t : Tree) → layers_of t ≡ 8 → 1 ≤ levels t → Avoids (symbol_code syms.CloseParen ∷ []) (words t) →
    ((m : ℕ) → levels t ≤ suc m → Reads (expr_at (suc m)) (words t) after_expr unplaced (unplaced t)) → Claim t
whole_claim t o l a f = record {
  level = l;
  opens = a;
  plain = λ h. absurd (omega (arith, o, h));
  back = λ m le. record {
    low = λ h. absurd (omega (arith, o, h));
    high = λ h. f m le;
    loops = λ k e c. let s : layers_of t ≡ suc k = e in absurd (c.few (omega (arith, o, e)));
  };
}

-- ---- leaves

number_stands : (m p n : ℕ) → Stands 0 m (words (Number p n)) (Number 0 n)
unfolding read_chain read_unary read_primary read_literal
number_stands m p n = reads_narrowed Every (reads_second (symbol_code syms.Tilde ∷ []) _
    (reads_first (2 ∷ []) _ (reads_give (λ x. Number x.place x.value) unplaced (Number 0 n) (reads_number n) (λ x e. ap (Number 0) e)) refl) (avoids _ _ refl)) refl

sized_stands : (m p w n : ℕ) → is_written_width w ≡ true → Stands 0 m (words (Sized p w n)) (Sized 0 w n)
unfolding read_chain read_unary read_primary read_sized_literal
sized_stands m p w n h = reads_narrowed Every (reads_second (symbol_code syms.Tilde ∷ []) _
    (reads_second (2 ∷ []) _ (reads_first (3 ∷ []) _ (reads_give (λ x. Sized x.place x.width x.value) unplaced (Sized 0 w n) (reads_sized w n h)
    (λ x e. e)) refl) (avoids _ _ refl)) (avoids _ _ refl)) refl

variable_stands : (m p : ℕ) (x : List ℕ) → Stands 0 m (words (Variable p x)) (Variable 0 x)
unfolding read_chain read_unary read_primary read_named
variable_stands m p x = reads_second (symbol_code syms.Tilde ∷ []) _
    (reads_second (2 ∷ []) _ (reads_second (3 ∷ []) _ (reads_first (1 ∷ []) _
    (reads_then (reads_name x) (λ f e. reads_none open_paren _
    (reads_nothing (behind 0) unplaced (Variable f.place f.name) (Variable 0 x) (ap (Variable 0) e)) refl) refl) refl) (avoids _ _ refl))
    (avoids _ _ refl)) (avoids _ _ refl)

abbrev plain_first : (k : PrintedToken) (ks : List PrintedToken) → within (Only (word_code keys.If ∷ [])) (code_of k.kind) ≡ false → within
    (Only (word_code keys.Let ∷ [])) (code_of k.kind) ≡ false → within (Only (word_code keys.Case ∷ [])) (code_of k.kind) ≡ false → Plain (k ∷ ks)
plain_first k ks a b c = record { no_choice = avoids k ks a; no_binding = avoids k ks b; no_cases = avoids k ks c }

number_claim : (p n : ℕ) → Claim (Number p n)
number_claim p n = primary_claim (Number p n) refl (omega arith) (avoids _ _ refl) (plain_first _ _ refl refl refl) (λ m le. number_stands m p n)

sized_claim : (p w n : ℕ) → is_written_width w ≡ true → Claim (Sized p w n)
sized_claim p w n h = primary_claim (Sized p w n) refl (omega arith) (avoids _ _ refl) (plain_first _ _ refl refl refl) (λ m le. sized_stands m p w n h)

variable_claim : (p : ℕ) (x : List ℕ) → Claim (Variable p x)
variable_claim p x = primary_claim (Variable p x) refl (omega arith) (avoids _ _ refl) (plain_first _ _ refl refl refl) (λ m le. variable_stands m p x)

-- ---- lists of expressions

abbrev pub AllClaim : Trees → Type 0
AllClaim no_tree = Unit {0}
AllClaim (a_tree t ts) = Claim t × AllClaim ts

abbrev list_of : Trees → List Tree
list_of no_tree = []
list_of (a_tree t ts) = t ∷ list_of ts

unplaced_all : (xs : List Tree) → unplaced_trees (trees_of xs) ≡ trees_of (map unplaced xs)
unplaced_all [] = refl
unplaced_all (x ∷ xs) = ap (a_tree (unplaced x)) (unplaced_all xs)

trees_back : (ts : Trees) → trees_of (list_of ts) ≡ ts
trees_back no_tree = refl
trees_back (a_tree t ts) = ap (a_tree t) (trees_back ts)

list_shows : (xs : List Tree) (ts : Trees) → map unplaced xs ≡ list_of (unplaced_trees ts) → unplaced_trees (trees_of xs) ≡ unplaced_trees ts
list_shows xs ts e = unplaced_all xs ∙ ap trees_of e ∙ trees_back (unplaced_trees ts)

-- at a place of 8 layers no expression is in parentheses
bare_part : (t : Tree) → enclosed (leb (layers_of t) 8) (words t) ≡ words t
bare_part t = ap (λ (b : Bool). enclosed b (words t)) (le-leb (layers_of t) 8 (own_small t))

all_read : (ts : Trees) → AllClaim ts → (m : ℕ) → most ts ≤ m → AllRead (expr_at m) after_expr unplaced (part_words 8 8 ts) (list_of (unplaced_trees ts))
all_read no_tree c m le = tt
all_read (a_tree t ts) c m le = (
  subst (λ (ks : List PrintedToken). Reads (expr_at m) ks after_expr unplaced (unplaced t)) (sym (bare_part t))
      (whole t c.0 m (omega arith)),
  all_read ts c.1 m (omega arith),
)

exprs_read : (t : Tree) (ts : Trees) → Claim t → AllClaim ts → (m : ℕ) → levels t ≤ m → most ts ≤ m → Reads (read_exprs (expr_at m))
    (separated (Printed.sym syms.Comma) (part_words 8 8 (a_tree t ts))) (Only close_paren) (map unplaced) (unplaced t ∷ list_of (unplaced_trees ts))
unfolding read_exprs read_another
exprs_read t ts c cs m le les =
    let a = all_read (a_tree t ts) (c, cs) m (omega arith) in
    list_reads (expr_at m) (expr_small m) after_list (Only close_paren) unplaced refl refl refl (enclosed (leb (layers_of t) 8) (words t)) (unplaced t)
    (part_words 8 8 ts) (list_of (unplaced_trees ts)) a.0 a.1

opens_list : (t : Tree) (xs : List (List PrintedToken)) (ks : List PrintedToken) → Claim t
    → Avoids close_paren (separated (Printed.sym syms.Comma) (enclosed (leb (layers_of t) 8) (words t) ∷ xs) ++ ks)
opens_list t [] ks c = avoids_front close_paren (enclosed (leb (layers_of t) 8) (words t)) ks (opens_part t c 8)
opens_list t (x ∷ xs) ks c = avoids_front close_paren (separated (Printed.sym syms.Comma) (enclosed (leb (layers_of t) 8) (words t) ∷ (x ∷ xs))) ks
    (avoids_front close_paren (enclosed (leb (layers_of t) 8) (words t)) (Printed.sym syms.Comma ∷ separated (Printed.sym syms.Comma) (x ∷ xs)) (opens_part t c 8))

-- a call, after its name's `(`
call_read : (p : ℕ) (f : List ℕ) (ts : Trees) → AllClaim ts → (m : ℕ) → most ts ≤ m → (q : Rattle.safl_tree.specs.Terminals.NameAt) → q.name ≡ f →
    Reads (read_either (comes close_paren) (read_no_arguments q) (read_arguments (expr_at m) q))
    (separated (Printed.sym syms.Comma) (part_words 8 8 ts) ++ (Printed.sym syms.CloseParen ∷ [])) (behind 0) unplaced (Call 0 f (unplaced_trees ts))
unfolding read_no_arguments read_arguments
call_read p f no_tree c m le q e = reads_narrowed Every (reads_first close_paren _
    (reads_give (λ closed. Call q.place q.name (trees_of [])) unplaced (Call 0 f no_tree) (reads_symbol syms.CloseParen)
    (λ x u. ap (λ (n : List ℕ). Call 0 n no_tree) e)) refl) refl
call_read p f (a_tree t ts) c m le q e =
    reads_narrowed Every
    (reads_second close_paren _ (reads_then (exprs_read t ts c.0 c.1 m (omega arith) (omega arith))
    (λ xs i. reads_give (λ closed. Call q.place q.name (trees_of xs)) unplaced (Call 0 f (unplaced_trees (a_tree t ts)))
    (reads_symbol syms.CloseParen) (λ x u. ap (λ (n : List ℕ). Call 0 n (unplaced_trees (trees_of xs))) e ∙ ap (Call 0 f)
    (list_shows xs (a_tree t ts) i))) refl) (opens_list t (part_words 8 8 ts) (Printed.sym syms.CloseParen ∷ []) c.0)) refl

call_stands : (p : ℕ) (f : List ℕ) (ts : Trees) → AllClaim ts → (m : ℕ) → most ts ≤ m → Stands 0 m (words (Call p f ts)) (Call 0 f (unplaced_trees ts))
unfolding read_chain read_unary read_primary read_named read_call
call_stands p f ts c m le = reads_second (symbol_code syms.Tilde ∷ []) _
    (reads_second (2 ∷ []) _ (reads_second (3 ∷ []) _ (reads_first (1 ∷ []) _
    (reads_then (reads_name f) (λ q e. reads_first open_paren _ (reads_then (reads_symbol syms.OpenParen) (λ o u. call_read p f ts c m le q e) refl)
    refl) refl) refl) (avoids _ _ refl)) (avoids _ _ refl)) (avoids _ _ refl)

call_claim : (p : ℕ) (f : List ℕ) (ts : Trees) → AllClaim ts → Claim (Call p f ts)
call_claim p f ts c = primary_claim (Call p f ts) refl (omega arith) (avoids _ _ refl) (plain_first _ _ refl refl refl) (λ m le. call_stands p f ts c m (omega arith))

-- ---- operators in front of their operands

not_stands : (p : ℕ) (a : Tree) → Claim a → (m : ℕ) → lifted 0 (layers_of a) (levels a) ≤ m → Stands 0 m (words (Op p prims.Not (a_tree a no_tree))) (Op 0 prims.Not (a_tree (unplaced a) no_tree))
unfolding read_chain read_unary read_inverted operand_at
not_stands p a c zero le = let h = lifted_some 0 (layers_of a) (levels a) c.level in absurd (omega arith)
not_stands p a c (suc m) le = reads_first (symbol_code syms.Tilde ∷ []) _
    (reads_then (reads_symbol syms.Tilde) (λ q u. reads_give (λ x. Op q prims.Not (trees_of (x ∷ []))) unplaced
    (Op 0 prims.Not (a_tree (unplaced a) no_tree)) (part a c 0 m (omega arith) le) (λ x e. ap (λ (z : Tree). Op 0 prims.Not (a_tree z no_tree)) e)) refl) refl

inner_read : (a : Tree) → Claim a → (m : ℕ) → lifted 8 (layers_of a) (levels a) ≤ m → Reads (expr_at m) (enclosed (leb (layers_of a) 8) (words a)) after_expr unplaced (unplaced a)
inner_read a c m le = subst (λ (ks : List PrintedToken). Reads (expr_at m) ks after_expr unplaced (unplaced a)) (sym (bare_part a))
    (whole a c m (subst (λ (b : Bool). cond b (levels a) (suc (levels a)) ≤ m) (le-leb (layers_of a) 8 (own_small a)) le))

cat_stands : (p : ℕ) (a b : Tree) → Claim a → Claim b → (m : ℕ) → lifted 8 (layers_of a) (levels a) ≤ m → lifted 8 (layers_of b) (levels b) ≤ m → Stands 0 m
    (words (Op p prims.Cat (a_tree a (a_tree b no_tree)))) (Op 0 prims.Cat (a_tree (unplaced a) (a_tree (unplaced b) no_tree)))
unfolding read_chain read_unary read_primary read_cat
cat_stands p a b c d m le lf =
    let both = append_assoc (enclosed (leb (layers_of a) 8) (words a)) (Printed.sym syms.Comma ∷ enclosed (leb (layers_of b) 8) (words b)) (Printed.sym syms.CloseParen ∷ []) in
    subst (λ (ks : List PrintedToken). Reads (chain_at 0 m) (Printed.key keys.Cat ∷ (Printed.sym syms.OpenParen ∷ ks)) (behind 0) unplaced
    (Op 0 prims.Cat (a_tree (unplaced a) (a_tree (unplaced b) no_tree)))) (sym both)
    (reads_narrowed Every
    (reads_second (symbol_code syms.Tilde ∷ []) _ (reads_second (2 ∷ []) _
    (reads_second (3 ∷ []) _ (reads_second (1 ∷ []) _ (reads_second open_paren _
    (reads_first (word_code keys.Cat ∷ []) _ (reads_then (reads_key keys.Cat)
    (λ q u. reads_then (reads_symbol syms.OpenParen) (λ o u. reads_then (inner_read a c m le)
    (λ x e. reads_then (reads_symbol syms.Comma) (λ k u. reads_then (inner_read b d m lf)
    (λ y i. reads_give (λ closed. Op q prims.Cat (trees_of (x ∷ y ∷ []))) unplaced
    (Op 0 prims.Cat (a_tree (unplaced a) (a_tree (unplaced b) no_tree))) (reads_symbol syms.CloseParen)
    (λ z u. ap (λ (z : Tree). Op 0 prims.Cat (a_tree z (a_tree (unplaced y) no_tree))) e ∙ ap
    (λ (z : Tree). Op 0 prims.Cat (a_tree (unplaced a) (a_tree z no_tree))) i)) refl) refl) refl) refl) refl) refl) (avoids _ _ refl))
    (avoids _ _ refl)) (avoids _ _ refl)) (avoids _ _ refl)) (avoids _ _ refl)) refl)

bits_stands : (p h l : ℕ) (a : Tree) → h < width_max → l < width_max → Claim a → (m : ℕ) → lifted 8 (layers_of a) (levels a) ≤ m → Stands 0 m
    (words (Op p (prims.Bits h l) (a_tree a no_tree))) (Op 0 (prims.Bits h l) (a_tree (unplaced a) no_tree))
unfolding read_chain read_unary read_primary read_bits
bits_stands p h l a hh hl c m le =
    reads_narrowed Every
    (reads_second (symbol_code syms.Tilde ∷ []) _ (reads_second (2 ∷ []) _
    (reads_second (3 ∷ []) _ (reads_second (1 ∷ []) _ (reads_second open_paren _
    (reads_second (word_code keys.Cat ∷ []) _ (reads_first (word_code keys.Bits ∷ []) _
    (reads_then (reads_key keys.Bits) (λ q u. reads_then (reads_symbol syms.OpenParen)
    (λ o u. reads_then (inner_read a c m le) (λ x e. reads_then (reads_symbol syms.Comma)
    (λ k u. reads_then (reads_index h hh) (λ i ei. reads_then (reads_symbol syms.Comma)
    (λ k u. reads_then (reads_index l hl) (λ j ej. reads_give (λ closed. Op q (prims.Bits i.value j.value) (trees_of (x ∷ []))) unplaced
    (Op 0 (prims.Bits h l) (a_tree (unplaced a) no_tree)) (reads_symbol syms.CloseParen)
    (λ z u. ap (λ (z : Tree). Op 0 (prims.Bits i.value j.value) (a_tree z no_tree)) e ∙ ap
    (λ (z : ℕ). Op 0 (prims.Bits z j.value) (a_tree (unplaced a) no_tree)) ei ∙ ap
    (λ (z : ℕ). Op 0 (prims.Bits h z) (a_tree (unplaced a) no_tree)) ej)) refl) refl) refl) refl) refl) refl) refl) refl) (avoids _ _ refl))
    (avoids _ _ refl)) (avoids _ _ refl)) (avoids _ _ refl)) (avoids _ _ refl)) (avoids _ _ refl)) refl

ext_stands : (p n : ℕ) (a : Tree) → is_written_width n ≡ true → Claim a → (m : ℕ) → lifted 8 (layers_of a) (levels a) ≤ m → Stands 0 m
    (words (Op p (prims.Ext n) (a_tree a no_tree))) (Op 0 (prims.Ext n) (a_tree (unplaced a) no_tree))
unfolding read_chain read_unary read_primary read_ext
ext_stands p n a hn c m le =
    reads_narrowed Every
    (reads_second (symbol_code syms.Tilde ∷ []) _ (reads_second (2 ∷ []) _
    (reads_second (3 ∷ []) _ (reads_second (1 ∷ []) _ (reads_second open_paren _
    (reads_second (word_code keys.Cat ∷ []) _ (reads_second (word_code keys.Bits ∷ []) _
    (reads_then (reads_key keys.Ext) (λ q u. reads_then (reads_symbol syms.OpenParen)
    (λ o u. reads_then (inner_read a c m le) (λ x e. reads_then (reads_symbol syms.Comma)
    (λ k u. reads_then (reads_width n hn) (λ i ei. reads_give (λ closed. Op q (prims.Ext i.value) (trees_of (x ∷ []))) unplaced
    (Op 0 (prims.Ext n) (a_tree (unplaced a) no_tree)) (reads_symbol syms.CloseParen)
    (λ z u. ap (λ (z : Tree). Op 0 (prims.Ext i.value) (a_tree z no_tree)) e ∙ ap (λ (z : ℕ). Op 0 (prims.Ext z) (a_tree (unplaced a) no_tree))
    ei)) refl) refl) refl) refl) refl) (avoids _ _ refl)) (avoids _ _ refl)) (avoids _ _ refl)) (avoids _ _ refl)) (avoids _ _ refl))
    (avoids _ _ refl)) (avoids _ _ refl)) refl

-- ---- if

choice_read : (p : ℕ) (c a b : Tree) → Claim c → Claim a → Claim b → (m : ℕ) → levels c ≤ m → levels a ≤ m → levels b ≤ m → Reads (expr_at (suc m))
    (words (If p c a b)) after_expr unplaced (If 0 (unplaced c) (unplaced a) (unplaced b))
unfolding expr_at read_expr read_choice
choice_read p c a b cc' ca cb m lc la lb =
    reads_first (word_code keys.If ∷ []) _ (reads_then (reads_key keys.If)
    (λ q u. reads_then (whole c cc' m lc) (λ x e. reads_then (reads_key keys.Then)
    (λ k u. reads_then (whole a ca m la) (λ y i. reads_then (reads_key keys.Else)
    (λ k u. reads_give (λ z. If q x y z) unplaced (If 0 (unplaced c) (unplaced a) (unplaced b)) (whole b cb m lb)
    (λ z j. ap (λ (t : Tree). If 0 t (unplaced y) (unplaced z)) e ∙ ap (λ (t : Tree). If 0 (unplaced c) t (unplaced z)) i ∙ ap
    (If 0 (unplaced c) (unplaced a)) j)) refl) refl) refl) refl) refl) refl

-- ---- let

abbrev pub AllBound : Binds → Type 0
AllBound no_bind = Unit {0}
AllBound (a_bind p x w t bs) = Claim t × FitsWritten w × AllBound bs

abbrev bounds_in : Binds → List Bound
bounds_in no_bind = []
bounds_in (a_bind p x w t bs) = record { place = p; name = x; width = w; value = t } ∷ bounds_in bs

abbrev unplaced_bound : Bound → Bound
unplaced_bound b = record { place = 0; name = b.name; width = b.width; value = unplaced b.value }

unplaced_bounds : (bs : List Bound) → unplaced_binds (binds_of bs) ≡ binds_of (map unplaced_bound bs)
unplaced_bounds [] = refl
unplaced_bounds (b ∷ bs) = ap (a_bind 0 b.name b.width (unplaced b.value)) (unplaced_bounds bs)

binds_back : (bs : Binds) → binds_of (bounds_in bs) ≡ bs
binds_back no_bind = refl
binds_back (a_bind p x w t bs) = ap (a_bind p x w t) (binds_back bs)

written_read : (w : Option ℕ) → FitsWritten w → Reads read_written (width_words w) (Only (symbol_code syms.Assign ∷ [])) (λ (o : Option ℕ). o) w
unfolding read_written
written_read None h = reads_none (symbol_code syms.Colon ∷ []) _ (reads_nothing (Only (symbol_code syms.Assign ∷ [])) (λ (o : Option ℕ). o) None None refl) refl
written_read (Some n) h = reads_narrowed Every (reads_first (symbol_code syms.Colon ∷ []) _
    (reads_then (reads_symbol syms.Colon) (λ c u. reads_give (λ x. Some x.value) (λ (o : Option ℕ). o) (Some n) (reads_width n h)
    (λ x e. ap (λ (z : ℕ). Some z) e)) refl) refl) refl

abbrev bound_at : ℕ → List ℕ → Option ℕ → Tree → Bound
bound_at p x w t = record { place = p; name = x; width = w; value = t }

bind_read : (x : List ℕ) (w : Option ℕ) (t : Tree) → Claim t → FitsWritten w → (m : ℕ) → levels t ≤ m → Reads (read_bind (expr_at m))
    (Printed.name x ∷ (width_words w ++ (Printed.sym syms.Assign ∷ words t))) after_expr unplaced_bound (record { place = 0; name = x; width = w; value = unplaced t })
unfolding read_bind
bind_read x w t c f m le =
    reads_then (reads_name x) (λ y e. reads_then (written_read w f)
    (λ o i. reads_then (reads_symbol syms.Assign) (λ k u. reads_give (λ v. bound_at y.place y.name o v) unplaced_bound
    (bound_at 0 x w (unplaced t)) (whole t c m le) (λ v j. ap (λ (z : List ℕ). bound_at 0 z o (unplaced v)) e ∙ ap
    (λ (z : Option ℕ). bound_at 0 x z (unplaced v)) i ∙ ap (bound_at 0 x w) j)) refl) refl) refl

all_bound : (bs : Binds) → AllBound bs → (m : ℕ) → most_bind bs ≤ m → AllRead (read_bind (expr_at m)) after_expr unplaced_bound (bind_words bs) (bounds_in (unplaced_binds bs))
all_bound no_bind c m le = tt
all_bound (a_bind p x w t bs) c m le = (bind_read x w t c.0 c.1 m (omega arith), all_bound bs c.2 m (omega arith))

bind_small : (m : ℕ) → Small (read_bind (expr_at m))
unfolding read_bind
bind_small m = small_follows (small (eats_token name)) (λ x. small_follows (small_parses written_parses)
    (λ w. small_follows (small (eats_token (marked (symbol_code syms.Assign))))
    (λ g. small_follows (expr_small m) (λ v. small_nothing (record { place = x.place; name = x.name; width = w; value = v })))))

binds_read : (bs : Binds) → HasBinding bs → AllBound bs → (m : ℕ) → most_bind bs ≤ m → Reads (read_binds (expr_at m))
    (separated (Printed.sym syms.Comma) (bind_words bs)) (Only (word_code keys.In ∷ [])) (map unplaced_bound) (bounds_in (unplaced_binds bs))
unfolding read_binds read_another_bind
binds_read no_bind h c m le = absurd h
binds_read (a_bind p x w t bs) h c m le =
    let a = all_bound (a_bind p x w t bs) c m le in
    list_reads (read_bind (expr_at m)) (bind_small m) after_list (Only (word_code keys.In ∷ [])) unplaced_bound refl refl refl
    (Printed.name x ∷ (width_words w ++ (Printed.sym syms.Assign ∷ words t))) (record { place = 0; name = x; width = w; value = unplaced t })
    (bind_words bs) (bounds_in (unplaced_binds bs)) a.0 a.1

binding_read : (p : ℕ) (bs : Binds) (t : Tree) → HasBinding bs → AllBound bs → Claim t → (m : ℕ) → most_bind bs ≤ m → levels t ≤ m → Reads
    (expr_at (suc m)) (words (Let p bs t)) after_expr unplaced (Let 0 (unplaced_binds bs) (unplaced t))
unfolding expr_at read_expr read_binding
binding_read p bs t h cs c m lb le =
    reads_second (word_code keys.If ∷ []) _ (reads_first (word_code keys.Let ∷ []) _
    (reads_then (reads_key keys.Let) (λ q u. reads_then (binds_read bs h cs m lb)
    (λ xs e. reads_then (reads_key keys.In) (λ k u. reads_give (λ z. Let q (binds_of xs) z) unplaced (Let 0 (unplaced_binds bs) (unplaced t))
    (whole t c m le) (λ z j. ap (λ (b : Binds). Let 0 b (unplaced z)) (unplaced_bounds xs ∙ ap binds_of e ∙ binds_back (unplaced_binds bs)) ∙ ap
    (Let 0 (unplaced_binds bs)) j)) refl) refl) refl) refl) (avoids _ _ refl)

-- ---- case

abbrev pub AllArms : Arms → Type 0
AllArms (default_arm t) = Claim t
AllArms (an_arm l t arms) = IsLabel l × Claim t × AllArms arms

-- the arms so far, before others
abbrev arms_after : List Labelled → Arms → Arms
arms_after [] arms = arms
arms_after (a ∷ more) arms = an_arm (unplaced a.label) (unplaced a.value) (arms_after more arms)

abbrev arms_shown : ArmList → Arms
arms_shown a = unplaced_arms (arms_of a.labelled a.default)

arms_end : (more : List Labelled) (t : Tree) → unplaced_arms (arms_of more t) ≡ arms_after more (default_arm (unplaced t))
arms_end [] t = refl
arms_end (a ∷ more) t = ap (an_arm (unplaced a.label) (unplaced a.value)) (arms_end more t)

arms_more : (more : List Labelled) (l t : Tree) (arms : Arms) → arms_after (more ++ record { label = l; value = t } ∷ []) arms ≡ arms_after more (an_arm (unplaced l) (unplaced t) arms)
arms_more [] l t arms = refl
arms_more (a ∷ more) l t arms = ap (an_arm (unplaced a.label) (unplaced a.value)) (arms_more more l t arms)

label_read : (l : Tree) → IsLabel l → Reads read_label (words l) Every unplaced (unplaced l)
unfolding read_label read_literal read_sized_literal
label_read (Number p n) h = reads_first (2 ∷ []) _ (reads_give (λ x. Number x.place x.value) unplaced (Number 0 n) (reads_number n) (λ x e. ap (Number 0) e)) refl
label_read (Sized p w n) h = reads_second (2 ∷ []) _ (reads_give (λ x. Sized x.place x.width x.value) unplaced (Sized 0 w n) (reads_sized w n h.0) (λ x e. e)) (avoids _ _ refl)
label_read (Variable p x) h = absurd h
label_read (If p c a b) h = absurd h
label_read (Let p bs t) h = absurd h
label_read (Cases p e arms) h = absurd h
label_read (Op p o ts) h = absurd h
label_read (Call p f ts) h = absurd h

-- a labelled arm, or the default
first_label : (l : Tree) (ks : List PrintedToken) → IsLabel l → (q : Reading Terminal ArmList) {p : Reading Terminal ArmList} {F : Set} {v : Arms} → Reads p
    (words l ++ ks) F arms_shown v → Reads (read_either (comes (2 ∷ 3 ∷ [])) p q) (words l ++ ks) F arms_shown v
first_label (Number p n) ks h q a = reads_first (2 ∷ 3 ∷ []) _ a refl
first_label (Sized p w n) ks h q a = reads_first (2 ∷ 3 ∷ []) _ a refl
first_label (Variable p x) ks h q a = absurd h
first_label (If p c a b) ks h q s = absurd h
first_label (Let p bs t) ks h q a = absurd h
first_label (Cases p e arms) ks h q a = absurd h
first_label (Op p o ts) ks h q a = absurd h
first_label (Call p f ts) ks h q a = absurd h

abbrev after_arms : Set
after_arms = Only (symbol_code syms.CloseBrace ∷ [])

next_arm : (l t : Tree) (arms : Arms) (m : ℕ) (so_far : List Labelled) →
    ((more : List Labelled) → Reads (read_arms (arm_value_at m) (more_arms_at m) more) (arm_words arms) after_arms arms_shown
    (arms_after more (unplaced_arms arms))) → (y x : Tree) → unplaced y ≡ unplaced l → unplaced x ≡ unplaced t → Reads
    (more_arms_at (suc m) (so_far ++ record { label = y; value = x } ∷ [])) (arm_words arms) after_arms arms_shown
    (arms_after so_far (an_arm (unplaced l) (unplaced t) (unplaced_arms arms)))
unfolding more_arms_at
next_arm l t arms m so_far rest y x i e =
    let shown = arms_more so_far y x (unplaced_arms arms) ∙ ap (λ (z : Tree). arms_after so_far (an_arm z (unplaced x) (unplaced_arms arms))) i ∙ ap
    (λ (z : Tree). arms_after so_far (an_arm (unplaced l) z (unplaced_arms arms))) e in
    subst (λ (v : Arms). Reads (more_arms_at (suc m) (so_far ++ record { label = y; value = x } ∷ [])) (arm_words arms) after_arms arms_shown v) shown
    (rest (so_far ++ record { label = y; value = x } ∷ []))

arms_read : (arms : Arms) → AllArms arms → (m : ℕ) → most_arm arms ≤ m → (so_far : List Labelled) → Reads
    (read_arms (arm_value_at m) (more_arms_at m) so_far) (arm_words arms) after_arms arms_shown (arms_after so_far (unplaced_arms arms))
unfolding read_arms read_arm read_last_arm arm_value_at
arms_read (default_arm t) c zero le so_far = absurd (omega arith)
arms_read (default_arm t) c (suc m) le so_far =
    reads_narrowed after_expr
    (reads_second (2 ∷ 3 ∷ []) _ (reads_then (reads_key keys.Default)
    (λ k u. reads_then (reads_symbol syms.Arrow) (λ g u. reads_give (λ x. record { labelled = so_far; default = x }) arms_shown
    (arms_after so_far (default_arm (unplaced t))) (whole t c m (omega arith))
    (λ x e. arms_end so_far x ∙ ap (λ (z : Tree). arms_after so_far (default_arm z)) e)) refl) refl) (avoids _ _ refl)) refl
arms_read (an_arm l t arms) c zero le so_far = absurd (omega arith)
arms_read (an_arm l t arms) c (suc m) le so_far =
    let rest = λ (more : List Labelled). arms_read arms c.2 m (omega arith) more in
    first_label l (Printed.sym syms.Arrow ∷ (words t ++ (Printed.sym syms.Comma ∷ arm_words arms))) c.0 _
    (reads_then (label_read l c.0) (λ y i. reads_then (reads_symbol syms.Arrow)
    (λ g u. reads_then (whole t c.1 m (omega arith)) (λ x e. reads_then (reads_symbol syms.Comma) (λ k u. next_arm l t arms m so_far rest y x i e)
    refl) refl) refl) refl)

cases_read : (p : ℕ) (e : Tree) (arms : Arms) → Claim e → AllArms arms → (m : ℕ) → levels e ≤ m → most_arm arms ≤ m → Reads (expr_at (suc m))
    (words (Cases p e arms)) after_expr unplaced (Cases 0 (unplaced e) (unplaced_arms arms))
unfolding expr_at read_expr read_cases
cases_read p e arms c cs m le la =
    reads_narrowed Every
    (reads_second (word_code keys.If ∷ []) _ (reads_second (word_code keys.Let ∷ []) _
    (reads_first (word_code keys.Case ∷ []) _ (reads_then (reads_key keys.Case)
    (λ q u. reads_then (whole e c m le) (λ x i. reads_then (reads_symbol syms.OpenBrace)
    (λ o u. reads_then (arms_read arms cs m la []) (λ r j. reads_give (λ closed. Cases q x (arms_of r.labelled r.default)) unplaced
    (Cases 0 (unplaced e) (unplaced_arms arms)) (reads_symbol syms.CloseBrace)
    (λ z u. ap (λ (t : Tree). Cases 0 t (arms_shown r)) i ∙ ap (Cases 0 (unplaced e)) j)) refl) refl) refl) refl) refl) (avoids _ _ refl)) (avoids _ _ refl)) refl

-- ---- all expressions

choice_claim : (p : ℕ) (c a b : Tree) → Claim c → Claim a → Claim b → Claim (If p c a b)
choice_claim p c a b cc' ca cb = whole_claim (If p c a b) refl (omega arith) (avoids _ _ refl) (λ m le. choice_read p c a b cc' ca cb m (omega arith) (omega arith) (omega arith))

binding_claim : (p : ℕ) (bs : Binds) (t : Tree) → HasBinding bs → AllBound bs → Claim t → Claim (Let p bs t)
binding_claim p bs t h cs c = whole_claim (Let p bs t) refl (omega arith) (avoids _ _ refl) (λ m le. binding_read p bs t h cs c m (omega arith) (omega arith))

cases_claim : (p : ℕ) (e : Tree) (arms : Arms) → Claim e → AllArms arms → Claim (Cases p e arms)
cases_claim p e arms c cs = whole_claim (Cases p e arms) refl (omega arith) (avoids _ _ refl) (λ m le. cases_read p e arms c cs m (omega arith) (omega arith))

binary_claim : (p : ℕ) (o : Primitive) (ts : Trees) → Between o → count ts ≡ operands o → OfBinary (is_binary o) (LeftShallow ts) → AllClaim ts → Claim (Op p o ts)
binary_claim p o no_tree s n l c = absurd (omega (arith, s.two, n))
binary_claim p o (a_tree a no_tree) s n l c = absurd (omega (arith, s.two, n))
binary_claim p o (a_tree a (a_tree b no_tree)) s n l c = between_claim p o a b s (subst (λ (x : Bool). OfBinary x (depth a < 100)) s.binary l) c.0 c.1.0
binary_claim p o (a_tree a (a_tree b (a_tree d ts))) s n l c = absurd (omega (arith, s.two, n))

not_claim : (p : ℕ) (ts : Trees) → count ts ≡ 1 → AllClaim ts → Claim (Op p prims.Not ts)
not_claim p no_tree n c = absurd (omega (arith, n))
not_claim p (a_tree a no_tree) n c = primary_claim (Op p prims.Not (a_tree a no_tree)) refl (omega arith) (avoids _ _ refl)
    (plain_first _ _ refl refl refl) (λ m le. not_stands p a c.0 m (omega arith))
not_claim p (a_tree a (a_tree b ts)) n c = absurd (omega (arith, n))

cat_claim : (p : ℕ) (ts : Trees) → count ts ≡ 2 → AllClaim ts → Claim (Op p prims.Cat ts)
cat_claim p no_tree n c = absurd (omega (arith, n))
cat_claim p (a_tree a no_tree) n c = absurd (omega (arith, n))
cat_claim p (a_tree a (a_tree b no_tree)) n c = primary_claim (Op p prims.Cat (a_tree a (a_tree b no_tree))) refl (omega arith) (avoids _ _ refl)
    (plain_first _ _ refl refl refl) (λ m le. cat_stands p a b c.0 c.1.0 m (omega arith) (omega arith))
cat_claim p (a_tree a (a_tree b (a_tree d ts))) n c = absurd (omega (arith, n))

bits_claim : (p h l : ℕ) (ts : Trees) → count ts ≡ 1 → h < width_max → l < width_max → AllClaim ts → Claim (Op p (prims.Bits h l) ts)
bits_claim p h l no_tree n hh hl c = absurd (omega (arith, n))
bits_claim p h l (a_tree a no_tree) n hh hl c = primary_claim (Op p (prims.Bits h l) (a_tree a no_tree)) refl (omega arith) (avoids _ _ refl)
    (plain_first _ _ refl refl refl) (λ m le. bits_stands p h l a hh hl c.0 m (omega arith))
bits_claim p h l (a_tree a (a_tree b ts)) n hh hl c = absurd (omega (arith, n))

ext_claim : (p x : ℕ) (ts : Trees) → count ts ≡ 1 → is_written_width x ≡ true → AllClaim ts → Claim (Op p (prims.Ext x) ts)
ext_claim p x no_tree n h c = absurd (omega (arith, n))
ext_claim p x (a_tree a no_tree) n h c = primary_claim (Op p (prims.Ext x) (a_tree a no_tree)) refl (omega arith) (avoids _ _ refl)
    (plain_first _ _ refl refl refl) (λ m le. ext_stands p x a h c.0 m (omega arith))
ext_claim p x (a_tree a (a_tree b ts)) n h c = absurd (omega (arith, n))

applied_claim : (p : ℕ) (o : Primitive) (ts : Trees) → count ts ≡ operands o → InRange o → OfBinary (is_binary o) (LeftShallow ts) → AllClaim ts → Claim (Op p o ts)
applied_claim p prims.Mul ts n r l c = binary_claim p prims.Mul ts between_mul n l c
applied_claim p prims.Add ts n r l c = binary_claim p prims.Add ts between_add n l c
applied_claim p prims.Sub ts n r l c = binary_claim p prims.Sub ts between_sub n l c
applied_claim p prims.Shl ts n r l c = binary_claim p prims.Shl ts between_shl n l c
applied_claim p prims.Shr ts n r l c = binary_claim p prims.Shr ts between_shr n l c
applied_claim p prims.Eq ts n r l c = binary_claim p prims.Eq ts between_eq n l c
applied_claim p prims.Ne ts n r l c = binary_claim p prims.Ne ts between_ne n l c
applied_claim p prims.Lt ts n r l c = binary_claim p prims.Lt ts between_lt n l c
applied_claim p prims.Le ts n r l c = binary_claim p prims.Le ts between_le n l c
applied_claim p prims.Gt ts n r l c = binary_claim p prims.Gt ts between_gt n l c
applied_claim p prims.Ge ts n r l c = binary_claim p prims.Ge ts between_ge n l c
applied_claim p prims.And ts n r l c = binary_claim p prims.And ts between_and n l c
applied_claim p prims.Xor ts n r l c = binary_claim p prims.Xor ts between_xor n l c
applied_claim p prims.Or ts n r l c = binary_claim p prims.Or ts between_or n l c
applied_claim p prims.Not ts n r l c = not_claim p ts n c
applied_claim p prims.Cat ts n r l c = cat_claim p ts n c
applied_claim p (prims.Bits h i) ts n r l c = bits_claim p h i ts n r.0 r.1 c
applied_claim p (prims.Ext x) ts n r l c = ext_claim p x ts n r c

mutual
  pub claim : (t : Tree) → IsFormed t → IsShallow t → Claim t
  claim (Number p n) f s = number_claim p n
  claim (Sized p w n) f s = sized_claim p w n f.0
  claim (Variable p x) f s = variable_claim p x
  claim (If p c a b) f s = choice_claim p c a b (claim c f.0 s.0) (claim a f.1 s.1) (claim b f.2 s.2)
  claim (Let p bs t) f s = binding_claim p bs t f.0 (bound_claims bs f.1 s.0) (claim t f.2 s.1)
  claim (Cases p e arms) f s = cases_claim p e arms (claim e f.0 s.0) (arm_claims arms f.1 s.1)
  claim (Op p o ts) f s = applied_claim p o ts f.0 f.1 s.0 (claims ts f.2 s.1)
  claim (Call p x ts) f s = call_claim p x ts (claims ts f.1 s)

  claims : (ts : Trees) → AreFormed ts → AreShallow ts → AllClaim ts
  claims no_tree f s = tt
  claims (a_tree t ts) f s = (claim t f.0 s.0, claims ts f.1 s.1)

  bound_claims : (bs : Binds) → AreFormedBinds bs → AreShallowBinds bs → AllBound bs
  bound_claims no_bind f s = tt
  bound_claims (a_bind p x w t bs) f s = (claim t f.2 s.0, f.1, bound_claims bs f.3 s.1)

  arm_claims : (arms : Arms) → AreFormedArms arms → AreShallowArms arms → AllArms arms
  arm_claims (default_arm t) f s = claim t f s
  arm_claims (an_arm l t arms) f s = (f.0, claim t f.1 s.0, arm_claims arms f.2 s.1)
