-- The reader of operators and of expressions answers as the grammar says.
use Rattle.safl_tree.proofs.Common.{ArmList, Parses, Reading, parses_nothing, read_limited, shallow}
use Rattle.std.proofs.Common.{◌≡◌, ℕ, true, false, List, [], ◌∷◌, ◌++◌, Some, None, refl}
use Rattle.safl_grammar.specs.Sets.{Set, Every, Only, subset, apart}
use Rattle.safl_grammar.specs.Syntax.{Deep, Syntax}
use Rattle.safl_grammar.proofs.Tokens.{parses_limited}
use Rattle.safl_grammar.proofs.Rules.{then, or_else, repeated, narrowed}
use Rattle.safl_word.specs.declared.token.Key.TheVariants as keys
use Rattle.safl_word.specs.declared.token.Sym.TheVariants as syms
use Rattle.safl_word.specs.declared.primitive.Primitive.TheVariants as prims
use Rattle.safl_tree.specs.Tree.{Tree, If, Let, Cases, Op, Bound, Labelled, trees_of, binds_of, arms_of, place_of}
use Rattle.safl_tree.specs.Terminals.{Terminal, operator_at}
use Rattle.safl_tree.specs.Codes.{code, word_code, symbol_code, operators, operator}
use Rattle.safl_tree.specs.Grammar
use Rattle.safl_tree.specs.Reader.{read_inverted, read_unary, read_joined, read_chained, read_compared, read_layer, read_chain, read_choice}
use Rattle.safl_tree.specs.Reader.{read_written, read_bind, read_another_bind, read_binds, read_binding, read_label, read_arm, read_last_arm}
use Rattle.safl_tree.specs.Reader.{read_arms, read_cases, read_expr, comma}
use Rattle.safl_tree.proofs.Classes.{layer_0, layer_1, layer_2, layer_3, layer_4, layer_5, layer_6}
use Rattle.safl_tree.proofs.Leaves.{classed_within, as_limited, a_word, a_symbol, a_name, a_width, starts, operand_starts, operand_opens, after_layers}
use Rattle.safl_tree.proofs.Leaves.{after_operand, after_expr, literal_parses, sized_parses, primary_parses}

-- ---- operators

module _ (pe : Reading Terminal Tree) (se ce : Syntax Terminal Tree) (e : Parses code pe se ce false starts Every after_expr)
    (pu : Reading Terminal Tree) (su cu : Syntax Terminal Tree) (u : Parses code pu su cu false operand_starts Every after_operand) where
  inverted_parses : Parses code (read_inverted pu) (Grammar.inverted su) (Grammar.inverted cu) false (Only (symbol_code syms.Tilde ∷ [])) (Only []) after_operand
  unfolding read_inverted
  inverted_parses = then (a_symbol syms.Tilde) (λ p. then u (λ x. parses_nothing code (Op p prims.Not (trees_of (x ∷ []))) after_operand) refl refl) refl refl

  pub unary_parses : Parses code (read_unary pu pe) (Grammar.unary su se) (Grammar.unary cu ce) false operand_starts operand_opens after_operand
  unfolding read_unary
  unary_parses = or_else (Only (symbol_code syms.Tilde ∷ [])) inverted_parses (primary_parses pe se ce e) refl refl refl refl

-- one layer: after its operands stands what is in xs, and after the layer what is in ys
module _ (k : ℕ) (xs ys : List ℕ) (ps : Reading Terminal Tree) (ss cs : Syntax Terminal Tree)
    (sub : Parses code ps ss cs false operand_starts operand_opens (Only xs)) (coded : operator_at k ≡ operator k) (ops_ops : subset (Only (operators k)) (Only (operators k)) ≡ true)
    (ops_xs : subset (Only (operators k)) (Only xs) ≡ true) (both_xs : subset (Only (operators k ++ ys)) (Only xs) ≡ true)
    (xs_xs : subset (Only xs) (Only xs) ≡ true) (ys_xs : subset (Only ys) (Only xs) ≡ true) (ys_ys : subset (Only ys) (Only ys) ≡ true)
    (ys_ops : apart (Only ys) (Only (operators k)) ≡ true) (ops_none : subset (Only (operators k ++ [])) (Only (operators k)) ≡ true) where
  joined_parses : (zs : List ℕ) → subset (Only zs) (Only xs) ≡ true → (a : Tree) → Parses code (read_joined k ps a) (Grammar.joined k ss a)
      (Grammar.joined k cs a) false (Only (operators k)) (Only (operators k)) (Only zs)
  unfolding read_joined
  joined_parses zs zs_xs a = then (as_limited Deep (shallow a) (read_limited Deep (shallow a) (operator k)) (operator_at k) (operator k) (Only (operators k)) coded
      (parses_limited code Deep tt (shallow a) (operator k) (Only (operators k)) (classed_within (Only (operators k)) _)))
      (λ op. then sub (λ b. parses_nothing code (Op (place_of a) op (trees_of (a ∷ b ∷ []))) (Only zs)) zs_xs refl) refl refl

  chained_parses : Parses code (read_chained k ps) (Grammar.chained k ss) (Grammar.chained k cs) false operand_starts operand_opens (Only ys)
  unfolding read_chained
  chained_parses = then sub (λ a. repeated (Only (operators k)) (Only ys) (joined_parses xs xs_xs) both_xs ops_xs ops_ops ops_ops ys_ops ys_ops ops_none ops_none ys_ys a) both_xs ops_xs

  compared_parses : Parses code (read_compared k ps) (Grammar.compared k ss) (Grammar.compared k cs) false operand_starts operand_opens (Only ys)
  unfolding read_compared
  compared_parses = then sub (λ a. narrowed (Only (operators k)) (Only (operators k)) (Only ys)
      (or_else (Only (operators k)) (joined_parses ys ys_xs a) (parses_nothing code a (Only ys)) ops_ops ops_ops ys_ops refl) ops_none ops_none ys_ys) both_xs ops_xs

module _ (pu : Reading Terminal Tree) (su cu : Syntax Terminal Tree) (u : Parses code pu su cu false operand_starts operand_opens after_operand) where
  chain_parses : Parses code (read_chain 7 pu) (Grammar.chain 7 su) (Grammar.chain 7 cu) false operand_starts operand_opens after_expr
  unfolding read_chain read_layer
  chain_parses =
      let product = chained_parses 0 (after_layers 0) (after_layers 1) pu su cu u layer_0 refl refl refl refl refl refl refl refl in
      let sum = chained_parses 1 (after_layers 1) (after_layers 2) _ _ _ product layer_1 refl refl refl refl refl refl refl refl in
      let shift = chained_parses 2 (after_layers 2) (after_layers 3) _ _ _ sum layer_2 refl refl refl refl refl refl refl refl in
      let comparison = compared_parses 3 (after_layers 3) (after_layers 4) _ _ _ shift layer_3 refl refl refl refl refl refl refl refl in
      let and = chained_parses 4 (after_layers 4) (after_layers 5) _ _ _ comparison layer_4 refl refl refl refl refl refl refl refl in
      let xor = chained_parses 5 (after_layers 5) (after_layers 6) _ _ _ and layer_5 refl refl refl refl refl refl refl refl in
      chained_parses 6 (after_layers 6) (after_layers 7) _ _ _ xor layer_6 refl refl refl refl refl refl refl refl

-- ---- expressions

abbrev assign : List ℕ
assign = symbol_code syms.Assign ∷ []

abbrev inner : List ℕ
inner = word_code keys.In ∷ []

abbrev gives : List ℕ
gives = symbol_code syms.Arrow ∷ []

abbrev pub arm_list : List ℕ
arm_list = 2 ∷ 3 ∷ word_code keys.Default ∷ []

abbrev pub arm_starts : Set
arm_starts = Only arm_list

abbrev pub after_arms : Set
after_arms = Only (symbol_code syms.CloseBrace ∷ [])

pub written_parses : Parses code read_written Grammar.optional_width Grammar.optional_width true (Only (symbol_code syms.Colon ∷ [])) (Only []) (Only assign)
unfolding read_written
written_parses = or_else (Only (symbol_code syms.Colon ∷ []))
    (then (a_symbol syms.Colon) (λ colon. then a_width (λ n. parses_nothing code (Some n.value) (Only assign)) refl refl) refl refl)
    (parses_nothing code None (Only assign)) refl refl refl refl

label_parses : Parses code read_label Grammar.case_label Grammar.case_label false (Only (2 ∷ 3 ∷ [])) (Only (3 ∷ [])) (Only gives)
unfolding read_label
label_parses = or_else (Only (2 ∷ [])) (literal_parses (Only gives)) (sized_parses (Only gives)) refl refl refl refl

module _ (pe : Reading Terminal Tree) (se ce : Syntax Terminal Tree) (e : Parses code pe se ce false starts Every after_expr) where
  choice_parses : Parses code (read_choice pe) (Grammar.choice se) (Grammar.choice ce) false (Only (word_code keys.If ∷ [])) (Only []) after_expr
  unfolding read_choice
  choice_parses = then (a_word keys.If) (λ p. then e (λ c. then (a_word keys.Then)
      (λ thens. then e (λ a. then (a_word keys.Else) (λ elses. then e (λ b. parses_nothing code (If p c a b) after_expr) refl refl) refl refl) refl
      refl) refl refl) refl refl) refl refl

  bind_parses : Parses code (read_bind pe) (Grammar.bind se) (Grammar.bind ce) false (Only (1 ∷ [])) (Only []) (Only (comma ++ inner))
  unfolding read_bind
  bind_parses = then a_name (λ x. then written_parses (λ w. then (a_symbol syms.Assign)
      (λ gives. then e (λ v. parses_nothing code (record { place = x.place; name = x.name; width = w; value = v }) (Only (comma ++ inner))) refl refl)
      refl refl) refl refl) refl refl

  another_bind_parses : (bs : List Bound) → Parses code (read_another_bind pe bs) (Grammar.another_bind se bs) (Grammar.another_bind ce bs) false (Only comma) (Only []) (Only (comma ++ inner))
  unfolding read_another_bind
  another_bind_parses bs = then (a_symbol syms.Comma) (λ sep. then bind_parses (λ b. parses_nothing code (bs ++ b ∷ []) (Only (comma ++ inner))) refl refl) refl refl

  binds_parses : Parses code (read_binds pe) (Grammar.binds se) (Grammar.binds ce) false (Only (1 ∷ [])) (Only []) (Only inner)
  unfolding read_binds
  binds_parses = then bind_parses (λ b. repeated (Only comma) (Only inner) another_bind_parses refl refl refl refl refl refl refl refl refl (b ∷ [])) refl refl

  binding_parses : Parses code (read_binding pe) (Grammar.binding se) (Grammar.binding ce) false (Only (word_code keys.Let ∷ [])) (Only []) after_expr
  unfolding read_binding
  binding_parses = then (a_word keys.Let) (λ p. then binds_parses
      (λ bs. then (a_word keys.In) (λ inner. then e (λ x. parses_nothing code (Let p (binds_of bs) x) after_expr) refl refl) refl refl) refl refl) refl refl

  pub arms_parses : (pr : List Labelled → Reading Terminal ArmList) (sr cr : List Labelled → Syntax Terminal ArmList) →
      ((xs : List Labelled) → Parses code (pr xs) (sr xs) (cr xs) false arm_starts Every after_arms) → (xs : List Labelled) → Parses code
      (read_arms pe pr xs) (Grammar.arms se sr xs) (Grammar.arms ce cr xs) false arm_starts (Only (3 ∷ [])) after_arms
  unfolding read_arms read_arm read_last_arm
  arms_parses pr sr cr rest xs = or_else (Only (2 ∷ 3 ∷ [])) (then label_parses
      (λ l. then (a_symbol syms.Arrow) (λ gives. then e (λ x. then (a_symbol syms.Comma) (λ sep. rest (xs ++ record { label = l; value = x } ∷ []))
      refl refl) refl refl) refl refl) refl refl) (then (a_word keys.Default)
      (λ other. then (a_symbol syms.Arrow) (λ gives. then e (λ x. parses_nothing code (record { labelled = xs; default = x }) after_arms) refl refl)
      refl refl) refl refl) refl refl refl refl

  module _ (pa : List Labelled → Reading Terminal ArmList) (sa ca : List Labelled → Syntax Terminal ArmList)
      (arms : (xs : List Labelled) → Parses code (pa xs) (sa xs) (ca xs) false arm_starts Every after_arms) where
    cases_parses : Parses code (read_cases pe pa) (Grammar.cases se sa) (Grammar.cases ce ca) false (Only (word_code keys.Case ∷ [])) (Only []) after_expr
    unfolding read_cases
    cases_parses = then (a_word keys.Case) (λ p. then e (λ s. then (a_symbol syms.OpenBrace)
        (λ opened. then (arms []) (λ r. then (a_symbol syms.CloseBrace)
        (λ closed. parses_nothing code (Cases p s (arms_of r.labelled r.default)) after_expr) refl refl) refl refl) refl refl) refl refl) refl refl

    pub expr_parses : (pu : Reading Terminal Tree) (su cu : Syntax Terminal Tree) → Parses code pu su cu false operand_starts operand_opens
        after_operand → Parses code (read_expr pu pe pa) (Grammar.expr su se sa) (Grammar.expr cu ce ca) false starts operand_opens after_expr
    unfolding read_expr
    expr_parses pu su cu u = or_else (Only (word_code keys.If ∷ [])) choice_parses
        (or_else (Only (word_code keys.Let ∷ [])) binding_parses
        (or_else (Only (word_code keys.Case ∷ [])) cases_parses (chain_parses pu su cu u) refl refl refl refl) refl refl refl refl) refl refl refl refl
