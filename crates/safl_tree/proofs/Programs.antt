-- The reader of programs answers as the grammar says; and what follows for whole lists of tokens.
use Rattle.safl_tree.proofs.Common.{Definition, Every, Only, Parameter, Terminal, Tree, ◌⊎◌}
use Rattle.std.proofs.Common.{◌≡◌, ℕ, Bool, true, false, List, [], ◌∷◌, ◌++◌, Ok, Err, inl, inr, refl, sym, ◌∙◌}
use Rattle.safl_grammar.specs.Syntax.{Rule, Syntax}
use Rattle.safl_grammar.specs.Reading.{Read, Reading}
use Rattle.safl_grammar.specs.Text.{Spells, Faults}
use Rattle.safl_grammar.proofs.Parses.{Parses, parses_nothing, ok_parts}
use Rattle.safl_grammar.proofs.Text
use Rattle.safl_grammar.proofs.Rules.{then, or_else, repeated}
use Rattle.safl_word.specs.declared.token.Key.TheVariants as keys
use Rattle.safl_word.specs.declared.token.Sym.TheVariants as syms
use Rattle.safl_tree.specs.Codes.{code, word_code, symbol_code}
use Rattle.safl_tree.specs.Grammar
use Rattle.safl_tree.specs.Grammar.{source}
use Rattle.safl_tree.specs.Reader.{expr_at, read_param, read_another_param, read_params, read_one, read_another_one, read_group, read_ended}
use Rattle.safl_tree.specs.Reader.{read_another_group, read_program, read_source, close_paren, comma}
use Rattle.safl_tree.proofs.Leaves.{a_word, a_symbol, a_name, a_width, starts, after_expr}
use Rattle.safl_tree.proofs.KeptLevels.{both_levels}

param_parses : Parses code read_param Grammar.param Grammar.param false (Only (1 ∷ [])) (Only []) (Only (comma ++ close_paren))
unfolding read_param
param_parses = then a_name (λ x. then (a_symbol syms.Colon) (λ colon. then a_width
    (λ n. parses_nothing code (record { place = x.place; name = x.name; width = n.value }) (Only (comma ++ close_paren))) refl refl) refl refl) refl refl

pub another_param_parses : (ps : List Parameter) → Parses code (read_another_param ps) (Grammar.another_param ps) (Grammar.another_param ps) false (Only comma) (Only []) (Only (comma ++ close_paren))
unfolding read_another_param
another_param_parses ps = then (a_symbol syms.Comma) (λ sep. then param_parses (λ p. parses_nothing code (ps ++ p ∷ []) (Only (comma ++ close_paren))) refl refl) refl refl

params_parses : Parses code read_params Grammar.params Grammar.params true (Only (1 ∷ [])) (Only []) (Only close_paren)
unfolding read_params
params_parses = or_else (Only (1 ∷ [])) (then param_parses (λ p. repeated (Only comma) (Only close_paren) another_param_parses refl refl refl refl
    refl refl refl refl refl (p ∷ [])) refl refl) (parses_nothing code [] (Only close_paren)) refl refl refl refl

-- ---- groups

abbrev semicolon : List ℕ
semicolon = symbol_code syms.Semicolon ∷ []

-- what may stand after a group, with or without its semicolon, and after a definition
abbrev after_group : List ℕ
after_group = 0 ∷ word_code keys.Fun ∷ []

abbrev after_one : List ℕ
after_one = word_code keys.And ∷ symbol_code syms.Semicolon ∷ after_group

ended_parses : (ds : List Definition) → Parses code (read_ended ds) (Grammar.ended_group ds) (Grammar.ended_group ds) true (Only semicolon) (Only []) (Only after_group)
unfolding read_ended
ended_parses ds = or_else (Only semicolon) (then (a_symbol syms.Semicolon) (λ s. parses_nothing code ds (Only after_group)) refl refl) (parses_nothing code ds (Only after_group)) refl refl refl refl

module _ (pe : Reading Terminal Tree) (se ce : Syntax Terminal Tree) (e : Parses code pe se ce false starts Every after_expr) where
  one_parses : (joins : Bool) → Parses code (read_one joins pe) (Grammar.one_definition joins se) (Grammar.one_definition joins ce) false (Only (1 ∷ [])) (Only []) (Only after_one)
  unfolding read_one
  one_parses joins = then a_name (λ x. then (a_symbol syms.OpenParen)
      (λ opened. then params_parses (λ ps. then (a_symbol syms.CloseParen)
      (λ closed. then (a_symbol syms.Colon) (λ colon. then a_width
      (λ n. then (a_symbol syms.Assign) (λ gives. then e (λ b. parses_nothing code
      (record { joined = joins; place = x.place; name = x.name; params = ps; width = n.value; body = b }) (Only after_one)) refl refl) refl refl) refl
      refl) refl refl) refl refl) refl refl) refl refl) refl refl

  pub another_one_parses : (ds : List Definition) → Parses code (read_another_one pe ds) (Grammar.another_one se ds) (Grammar.another_one ce ds) false
      (Only (word_code keys.And ∷ [])) (Only []) (Only after_one)
  unfolding read_another_one
  another_one_parses ds = then (a_word keys.And) (λ k. then (one_parses true) (λ d. parses_nothing code (ds ++ d ∷ []) (Only after_one)) refl refl) refl refl

  group_parses : (ds : List Definition) → Parses code (read_group pe ds) (Grammar.group se ds) (Grammar.group ce ds) false
      (Only (word_code keys.Fun ∷ [])) (Only []) (Only (symbol_code syms.Semicolon ∷ after_group))
  unfolding read_group
  group_parses ds = then (a_word keys.Fun) (λ f. then (one_parses false)
      (λ d. repeated (Only (word_code keys.And ∷ [])) (Only (symbol_code syms.Semicolon ∷ after_group)) another_one_parses refl refl refl refl refl
      refl refl refl refl (ds ++ d ∷ [])) refl refl) refl refl

  pub another_group_parses : (ds : List Definition) → Parses code (read_another_group pe ds) (Grammar.another_group se ds)
      (Grammar.another_group ce ds) false (Only (word_code keys.Fun ∷ [])) (Only []) (Only after_group)
  unfolding read_another_group
  another_group_parses ds = then (group_parses ds) ended_parses refl refl

  program_parses : Parses code (read_program pe) (Grammar.program se) (Grammar.program ce) true (Only (word_code keys.Fun ∷ [])) (Only []) (Only (0 ∷ []))
  unfolding read_program
  program_parses = repeated (Only (word_code keys.Fun ∷ [])) (Only (0 ∷ [])) another_group_parses refl refl refl refl refl refl refl refl refl []

source_parses : (n : ℕ) → Parses code (read_program (expr_at 100)) (source 101) (source n) true (Only (word_code keys.Fun ∷ [])) (Only []) (Only (0 ∷ []))
source_parses n = program_parses (expr_at 100) (Grammar.level 101 100).whole (Grammar.level n 100).whole (both_levels 100 n).whole

-- ---- whole lists of tokens

pub spelled : (w : List Terminal) (ds : List Definition) (v : List Terminal) → read_source w ≡ Ok (ds, v) → Spells source w ds
unfolding read_source
spelled w ds v e = Text.spelled code (read_program (expr_at 100)) source 101 true (Only (word_code keys.Fun ∷ [])) (Only []) (Only (0 ∷ [])) source_parses refl w ds v e

pub read_again : (w : List Terminal) (ds : List Definition) → Spells source w ds → read_source w ≡ Ok (ds, [])
unfolding read_source
read_again w ds s = Text.read_again code (read_program (expr_at 100)) source 101 true (Only (word_code keys.Fun ∷ [])) (Only []) (Only (0 ∷ [])) source_parses refl w ds s

pub first_fault : (w r : List Terminal) (e : Rule) → read_source w ≡ Err (e, r) → Faults source w e r
unfolding read_source
first_fault w r e h = Text.first_fault code (read_program (expr_at 100)) source 101 true (Only (word_code keys.Fun ∷ [])) (Only []) (Only (0 ∷ [])) source_parses refl w r e h

-- tokens spell at most one program
pub one_program : (w : List Terminal) (a b : List Definition) → Spells source w a → Spells source w b → a ≡ b
one_program w a b s t = (ok_parts a b [] [] (sym (read_again w a s) ∙ read_again w b t)).0

pub program_or_fault : (w : List Terminal) → ((ds : List Definition) × Spells source w ds) ⊎ ((e : Rule) × (r : List Terminal) × Faults source w e r)
program_or_fault w = go (read_source w) refl
  where
    go : (y : Read Terminal (List Definition)) → read_source w ≡ y → ((ds : List Definition) × Spells source w ds) ⊎ ((e : Rule) × (r : List Terminal) × Faults source w e r)
    go (Ok x) e = inl (x.0, spelled w x.0 x.1 e)
    go (Err f) e = inr (f.0, f.1, first_fault w f.1 f.0 e)

pub not_both : (w : List Terminal) (ds : List Definition) (e : Rule) (r : List Terminal) → Spells source w ds → Faults source w e r → ⊥
not_both = Text.not_both code (read_program (expr_at 100)) source 101 true (Only (word_code keys.Fun ∷ [])) (Only []) (Only (0 ∷ [])) source_parses refl

pub one_fault : (w : List Terminal) (d e : Rule) (u v : List Terminal) → Faults source w d u → Faults source w e v → (d ≡ e) × (u ≡ v)
one_fault = Text.one_fault code (read_program (expr_at 100)) source 101 true (Only (word_code keys.Fun ∷ [])) (Only []) (Only (0 ∷ [])) source_parses refl
