-- The reader of leaves and of primary expressions answers as the grammar says.
use Rattle.safl_tree.proofs.Common.{Key, Parses, Reading, Sym, key_text, parses_nothing, read_either, read_limited, read_token, sym_text}
use Rattle.std.proofs.Common.{◌≡◌, ℕ, zero, suc, Bool, true, false, cond, List, [], ◌∷◌, ◌++◌, Option, Some, None, refl, sym, subst}
use Rattle.safl_grammar.specs.Sets.{Set, Every, Only, within, subset, union, union_if}
use Rattle.safl_grammar.specs.Syntax.{Rule, Range, Syntax, token, limited, either, without_begin}
use Rattle.safl_grammar.proofs.Tokens.{parses_token, parses_limited}
use Rattle.safl_grammar.proofs.Same.{same_factored, parses_same}
use Rattle.safl_grammar.proofs.Rules.{then, or_else, or_unless, repeated}
use Rattle.safl_word.specs.declared.token.Key.TheVariants as keys
use Rattle.safl_word.specs.declared.token.Sym.TheVariants as syms
use Rattle.safl_word.specs.declared.primitive.Primitive.TheVariants as prims
use Rattle.safl_tree.specs.Tree.{Tree, Number, Sized, Variable, Op, Call, trees_of, with_place}
use Rattle.safl_tree.specs.Terminals.{Terminal, spelled, NameAt, name_token, number_at, sized_at}
use Rattle.safl_tree.specs.Codes.{code, code_of, comes, word_code, symbol_code, classed, marked, name, number, sized, operators}
use Rattle.safl_tree.specs.Grammar
use Rattle.safl_tree.specs.Grammar.{word, symbol, fits_width, fits_sized, fits_index}
use Rattle.safl_tree.specs.Reader.{read_word, read_symbol, read_width, read_index, read_literal, read_sized_literal, read_another, read_exprs}
use Rattle.safl_tree.specs.Reader.{read_no_arguments, read_arguments, read_call, read_named, read_parenthesised, read_cat, read_bits, read_ext}
use Rattle.safl_tree.specs.Reader.{read_primary, open_paren, close_paren, comma}
use Rattle.safl_tree.proofs.Classes.{key_class, symbol_class, closes, name_class, number_class, sized_class}

every : (F : Set) → subset (union_if true (Only []) F) Every ≡ true
every F = refl

-- a token of a class has one of its codes
pub classed_within : {A : Type 0} (codes : Set) (value : Terminal → A) (t : Terminal) (x : A) → classed codes value t ≡ Some x → within codes (code (Some t)) ≡ true
classed_within codes value t x e = go (within codes (code_of t.kind)) e
  where
    go : (b : Bool) → cond b (Some (value t)) None ≡ Some x → b ≡ true
    go true e = refl
    go false e = absurd cc

one_of : {A : Type 0} (codes : Set) (value : Terminal → A) → Parses code (read_token (classed codes value)) (token (classed codes value)) (token (classed codes value)) false codes (Only []) Every
one_of codes value = parses_token code (classed codes value) codes (classed_within codes value)

-- the same of a class by texts
as_token : {A : Type 0} (p : Reading Terminal A) (class coded : Terminal → Option A) (G : Set) → class ≡ coded → Parses code p (token coded) (token coded)
    false G (Only []) Every → Parses code p (token class) (token class) false G (Only []) Every
as_token {A} p class coded G e h = subst (λ (c : Terminal → Option A). Parses code p (token c) (token c) false G (Only []) Every) (sym e) h

pub as_limited : {A : Type 0} (rule : Rule) (fits : A → Bool) (p : Reading Terminal A) (class coded : Terminal → Option A) (G : Set) → class ≡ coded →
    Parses code p (limited rule fits coded) (limited rule fits coded) false G G Every → Parses code p (limited rule fits class) (limited rule fits class) false G G Every
as_limited {A} rule fits p class coded G e h = subst (λ (c : Terminal → Option A). Parses code p (limited rule fits c) (limited rule fits c) false G G Every) (sym e) h

pub a_word : (k : Key) → Parses code (read_word k) (word k) (word k) false (Only (word_code k ∷ [])) (Only []) Every
a_word k = as_token (read_word k) (spelled (key_text k)) (marked (word_code k)) (Only (word_code k ∷ [])) (key_class k) (one_of (Only (word_code k ∷ [])) (λ t. t.place))

pub a_symbol : (s : Sym) → Parses code (read_symbol s) (symbol s) (symbol s) false (Only (symbol_code s ∷ [])) (Only []) Every
a_symbol s = as_token (read_symbol s) (spelled (sym_text s)) (marked (symbol_code s)) (Only (symbol_code s ∷ [])) (symbol_class s) (one_of (Only (symbol_code s ∷ [])) (λ t. t.place))

pub a_name : Parses code (read_token name) (token name_token) (token name_token) false (Only (1 ∷ [])) (Only []) Every
a_name = as_token (read_token name) name_token name (Only (1 ∷ [])) name_class (one_of (Only (1 ∷ [])) _)

a_number : Parses code (read_token number) (token number_at) (token number_at) false (Only (2 ∷ [])) (Only []) Every
a_number = as_token (read_token number) number_at number (Only (2 ∷ [])) number_class (one_of (Only (2 ∷ [])) _)

pub a_width : Parses code read_width Grammar.width Grammar.width false (Only (2 ∷ [])) (Only (2 ∷ [])) Every
a_width = as_limited Range fits_width read_width number_at number (Only (2 ∷ [])) number_class
    (parses_limited code Range tt fits_width number (Only (2 ∷ [])) (classed_within (Only (2 ∷ [])) _))

an_index : Parses code read_index Grammar.index Grammar.index false (Only (2 ∷ [])) (Only (2 ∷ [])) Every
an_index = as_limited Range fits_index read_index number_at number (Only (2 ∷ [])) number_class
    (parses_limited code Range tt fits_index number (Only (2 ∷ [])) (classed_within (Only (2 ∷ [])) _))

a_sized : Parses code (read_limited Range fits_sized sized) (limited Range fits_sized sized_at) (limited Range fits_sized sized_at) false (Only (3 ∷ [])) (Only (3 ∷ [])) Every
a_sized = as_limited Range fits_sized (read_limited Range fits_sized sized) sized_at sized (Only (3 ∷ [])) sized_class
    (parses_limited code Range tt fits_sized sized (Only (3 ∷ [])) (classed_within (Only (3 ∷ [])) _))

-- ---- what may begin an expression, and what may stand after one

-- a literal, a name, `(`, `cat`, `bits`, `ext`
abbrev pub primary_list : List ℕ
primary_list = 2 ∷ 3 ∷ 1 ∷ symbol_code syms.OpenParen ∷ word_code keys.Cat ∷ word_code keys.Bits ∷ word_code keys.Ext ∷ []

abbrev pub operand_starts : Set
operand_starts = Only (symbol_code syms.Tilde ∷ primary_list)

abbrev pub starts : Set
starts = Only (word_code keys.If ∷ word_code keys.Let ∷ word_code keys.Case ∷ symbol_code syms.Tilde ∷ primary_list)

-- a limit that is passed at once is that of a sized literal
abbrev pub operand_opens : Set
operand_opens = Only (3 ∷ [])

-- what ends an expression: the end, `fun`, `and`, `then`, `else`, `in`, `)`, `,`, `;`, `{`, `}`
abbrev pub after_list : List ℕ
after_list = 0 ∷ word_code keys.Fun ∷ word_code keys.And ∷ word_code keys.Then ∷ word_code keys.Else ∷ word_code keys.In ∷ symbol_code syms.CloseParen
    ∷ symbol_code syms.Comma ∷ symbol_code syms.Semicolon ∷ symbol_code syms.OpenBrace ∷ symbol_code syms.CloseBrace ∷ []

-- after k layers: the operators of the layers from k on, and what ends an expression
abbrev pub after_layers : ℕ → List ℕ
after_layers zero = operators 0 ++ (operators 1 ++ (operators 2 ++ (operators 3 ++ (operators 4 ++ (operators 5 ++ (operators 6 ++ after_list))))))
after_layers (suc zero) = operators 1 ++ (operators 2 ++ (operators 3 ++ (operators 4 ++ (operators 5 ++ (operators 6 ++ after_list)))))
after_layers (suc (suc zero)) = operators 2 ++ (operators 3 ++ (operators 4 ++ (operators 5 ++ (operators 6 ++ after_list))))
after_layers (suc (suc (suc zero))) = operators 3 ++ (operators 4 ++ (operators 5 ++ (operators 6 ++ after_list)))
after_layers (suc (suc (suc (suc zero)))) = operators 4 ++ (operators 5 ++ (operators 6 ++ after_list))
after_layers (suc (suc (suc (suc (suc zero))))) = operators 5 ++ (operators 6 ++ after_list)
after_layers (suc (suc (suc (suc (suc (suc zero)))))) = operators 6 ++ after_list
after_layers (suc (suc (suc (suc (suc (suc (suc k))))))) = after_list

abbrev pub after_operand : Set
after_operand = Only (after_layers 0)

abbrev pub after_expr : Set
after_expr = Only after_list

-- ---- literals

pub literal_parses : (F : Set) → Parses code read_literal Grammar.number_literal Grammar.number_literal false (Only (2 ∷ [])) (Only []) F
unfolding read_literal
literal_parses F = then a_number (λ n. parses_nothing code (Number n.place n.value) F) (every F) refl

pub sized_parses : (F : Set) → Parses code read_sized_literal Grammar.sized_literal Grammar.sized_literal false (Only (3 ∷ [])) (Only (3 ∷ [])) F
unfolding read_sized_literal
sized_parses F = then a_sized (λ s. parses_nothing code (Sized s.place s.width s.value) F) (every F) refl

-- ---- primary expressions

module _ (pe : Reading Terminal Tree) (se ce : Syntax Terminal Tree) (e : Parses code pe se ce false starts Every after_expr) where
  another_parses : (xs : List Tree) → Parses code (read_another pe xs) (Grammar.another se xs) (Grammar.another ce xs) false (Only comma) (Only []) (Only (comma ++ close_paren))
  unfolding read_another
  another_parses xs = then (a_symbol syms.Comma) (λ sep. then e (λ x. parses_nothing code (xs ++ x ∷ []) (Only (comma ++ close_paren))) refl refl) refl refl

  exprs_parses : Parses code (read_exprs pe) (Grammar.exprs se) (Grammar.exprs ce) false starts Every (Only close_paren)
  unfolding read_exprs
  exprs_parses = then e (λ x. repeated (Only comma) (Only close_paren) another_parses refl refl refl refl refl refl refl refl refl (x ∷ [])) refl refl

  no_arguments_parses : (f : NameAt) → Parses code (read_no_arguments f) (Grammar.no_arguments f) (Grammar.no_arguments f) false (Only close_paren) (Only []) after_operand
  unfolding read_no_arguments
  no_arguments_parses f = then (a_symbol syms.CloseParen) (λ closed. parses_nothing code (Call f.place f.name (trees_of [])) after_operand) refl refl

  arguments_parses : (f : NameAt) → Parses code (read_arguments pe f) (Grammar.arguments se f) (Grammar.arguments ce f) false starts Every after_operand
  unfolding read_arguments
  arguments_parses f = then exprs_parses (λ xs. then (a_symbol syms.CloseParen) (λ closed. parses_nothing code (Call f.place f.name (trees_of xs)) after_operand) refl refl) refl refl

  call_parses : (f : NameAt) → Parses code (read_call pe f) (Grammar.call se f) (Grammar.call ce f) false (Only open_paren) (Only []) after_operand
  unfolding read_call
  call_parses f = then (a_symbol syms.OpenParen)
      (λ opened. subst (λ (g : Option Terminal → Bool). Parses code (read_either (comes close_paren) (read_no_arguments f) (read_arguments pe f))
      (either (Grammar.no_arguments f) (without_begin g (Grammar.arguments se f))) (either (Grammar.no_arguments f) (without_begin g (Grammar.arguments ce f))) false
      (union (Only close_paren) starts) (union (Only []) Every) after_operand) (sym closes)
      (or_unless (Only close_paren) (no_arguments_parses f) (arguments_parses f) refl refl refl)) refl refl

  named_parses : Parses code (read_named pe) (either (Grammar.call_syntax se) Grammar.variable) (either (Grammar.call_syntax ce) Grammar.variable) false (Only (1 ∷ [])) (Only []) after_operand
  unfolding read_named
  named_parses = parses_same _ _ (then a_name (λ f. or_else (Only open_paren) (call_parses f)
      (parses_nothing code (Variable f.place f.name) after_operand) refl refl refl refl) refl refl)
      (same_factored (token name_token) (Grammar.call se) (λ x. Rattle.safl_grammar.specs.Syntax.nothing (Variable x.place x.name)))
      (same_factored (token name_token) (Grammar.call ce) (λ x. Rattle.safl_grammar.specs.Syntax.nothing (Variable x.place x.name)))

  parenthesised_parses : Parses code (read_parenthesised pe) (Grammar.parenthesised se) (Grammar.parenthesised ce) false (Only open_paren) (Only []) after_operand
  unfolding read_parenthesised
  parenthesised_parses = then (a_symbol syms.OpenParen) (λ p. then e (λ x. then (a_symbol syms.CloseParen)
      (λ closed. parses_nothing code (with_place p x) after_operand) refl refl) refl refl) refl refl

  cat_parses : Parses code (read_cat pe) (Grammar.cat se) (Grammar.cat ce) false (Only (word_code keys.Cat ∷ [])) (Only []) after_operand
  unfolding read_cat
  cat_parses = then (a_word keys.Cat) (λ p. then (a_symbol syms.OpenParen)
      (λ opened. then e (λ a. then (a_symbol syms.Comma) (λ sep. then e
      (λ b. then (a_symbol syms.CloseParen) (λ closed. parses_nothing code (Op p prims.Cat (trees_of (a ∷ b ∷ []))) after_operand) refl refl) refl
      refl) refl refl) refl refl) refl refl) refl refl

  bits_parses : Parses code (read_bits pe) (Grammar.bits se) (Grammar.bits ce) false (Only (word_code keys.Bits ∷ [])) (Only []) after_operand
  unfolding read_bits
  bits_parses = then (a_word keys.Bits) (λ p. then (a_symbol syms.OpenParen)
      (λ opened. then e (λ a. then (a_symbol syms.Comma) (λ sep. then an_index
      (λ high. then (a_symbol syms.Comma) (λ sep. then an_index
      (λ low. then (a_symbol syms.CloseParen) (λ closed. parses_nothing code (Op p (prims.Bits high.value low.value) (trees_of (a ∷ [])))
      after_operand) refl refl) refl refl) refl refl) refl refl) refl refl) refl refl) refl refl) refl refl

  ext_parses : Parses code (read_ext pe) (Grammar.ext se) (Grammar.ext ce) false (Only (word_code keys.Ext ∷ [])) (Only []) after_operand
  unfolding read_ext
  ext_parses = then (a_word keys.Ext) (λ p. then (a_symbol syms.OpenParen)
      (λ opened. then e (λ a. then (a_symbol syms.Comma) (λ sep. then a_width
      (λ n. then (a_symbol syms.CloseParen) (λ closed. parses_nothing code (Op p (prims.Ext n.value) (trees_of (a ∷ []))) after_operand) refl refl)
      refl refl) refl refl) refl refl) refl refl) refl refl

  pub primary_parses : Parses code (read_primary pe) (Grammar.primary se) (Grammar.primary ce) false (Only primary_list) operand_opens after_operand
  unfolding read_primary
  primary_parses = or_else (Only (2 ∷ [])) (literal_parses after_operand)
      (or_else (Only (3 ∷ [])) (sized_parses after_operand) (or_else (Only (1 ∷ [])) named_parses
      (or_else (Only open_paren) parenthesised_parses (or_else (Only (word_code keys.Cat ∷ [])) cat_parses
      (or_else (Only (word_code keys.Bits ∷ [])) bits_parses ext_parses refl refl refl refl) refl refl refl refl) refl refl refl refl) refl refl refl
      refl) refl refl refl refl) refl refl refl refl
