-- Expressions at each level: the levels that are left bound the reader's descent.
use Rattle.safl_tree.proofs.Common.{Every, Labelled, Only, Terminal}
use Rattle.std.proofs.Common.{ℕ, zero, suc, false, List, [], ◌∷◌, refl}
use Rattle.safl_grammar.specs.Syntax.{Syntax, below, too_high}
use Rattle.safl_grammar.specs.Reading.{read_below}
use Rattle.safl_grammar.proofs.Parses.{Parses, nil_front}
use Rattle.safl_grammar.proofs.Levels.{parses_below, parses_lowest, parses_high, parses_mix, parses_deep, parses_never, read_never}
use Rattle.safl_grammar.proofs.Rules.{narrowed}
use Rattle.safl_grammar.proofs.Small.{Small, small_parses}
use Rattle.safl_tree.specs.Codes.{code}
use Rattle.safl_tree.specs.Grammar
use Rattle.safl_tree.specs.Reader.{read_unary, read_arms, read_arm, read_expr, operand_at, expr_at, arms_at}
use Rattle.safl_tree.proofs.Leaves.{starts, operand_starts, operand_opens, after_operand, after_expr}
use Rattle.safl_tree.proofs.Expressions.{unary_parses, arms_parses, expr_parses, arm_starts, after_arms}

-- the readings at m levels are sound for the one and complete for the other
pub record Both (m : ℕ) (s c : Grammar.Level) : Type 0 where
  pub operand : Parses code (operand_at m) s.operand c.operand false operand_starts Every after_operand
  pub whole : Parses code (expr_at m) s.whole c.whole false starts Every after_expr
  pub rest : (xs : List Labelled) → Parses code (arms_at m xs) (s.rest xs) (c.rest xs) false arm_starts (Only (3 ∷ [])) after_arms

both_next : (m : ℕ) (s c : Grammar.Level) → Both m s c → Both (suc m) (Grammar.next_level s) (Grammar.next_level c)
unfolding operand_at arms_at
both_next m s c b =
    let u = unary_parses (expr_at m) s.whole c.whole b.whole (operand_at m) s.operand c.operand b.operand in
    record {
      operand = narrowed operand_starts Every after_operand u refl refl refl;
      whole = narrowed starts Every after_expr (expr_parses (expr_at m) s.whole c.whole b.whole (arms_at m) s.rest c.rest
          (λ xs. narrowed arm_starts Every after_arms (b.rest xs) refl refl refl) (read_unary (operand_at m) (expr_at m)) _ _ u) refl refl refl;
      rest = arms_parses (expr_at m) s.whole c.whole b.whole (arms_at m) s.rest c.rest (λ xs. narrowed arm_starts Every after_arms (b.rest xs) refl refl refl);
    }

-- ---- no level is left: nothing but an arm's label is read

abbrev deep : {A : Type 0} → Syntax Terminal A
deep = below too_high

record Lowest (c : Grammar.Level) : Type 0 where
  operand : Parses code read_below deep c.operand false operand_starts Every after_operand
  whole : Parses code read_below deep c.whole false starts Every after_expr
  rest : (xs : List Labelled) → Parses code read_below deep (c.rest xs) false arm_starts Every after_arms

lowest_arms : (c : Grammar.Level) → Lowest c → (xs : List Labelled) → Parses code (read_arms read_below (λ so_far. read_below) xs)
    (Grammar.arms deep (λ so_far. deep) xs) (Grammar.arms c.whole c.rest xs) false arm_starts (Only (3 ∷ [])) after_arms
lowest_arms c b = arms_parses read_below deep c.whole b.whole (λ so_far. read_below) (λ so_far. deep) c.rest b.rest

lowest_unary : (c : Grammar.Level) → Lowest c → Parses code (read_unary read_below read_below) (Grammar.unary deep deep)
    (Grammar.unary c.operand c.whole) false operand_starts operand_opens after_operand
lowest_unary c b = unary_parses read_below deep c.whole b.whole read_below deep c.operand b.operand

lowest_expr : (c : Grammar.Level) → Lowest c → Parses code (read_expr (read_unary read_below read_below) read_below (λ so_far. read_below))
    (Grammar.expr (Grammar.unary deep deep) deep (λ so_far. deep)) (Grammar.expr (Grammar.unary c.operand c.whole) c.whole c.rest) false starts operand_opens after_expr
lowest_expr c b = expr_parses read_below deep c.whole b.whole (λ so_far. read_below) (λ so_far. deep) c.rest b.rest (read_unary read_below read_below)
    (Grammar.unary deep deep) (Grammar.unary c.operand c.whole) (lowest_unary c b)

lowest : (n : ℕ) → Lowest (Grammar.level n 0)
unfolding Grammar.level
lowest zero = record {
  operand = parses_lowest code operand_starts after_operand;
  whole = parses_lowest code starts after_expr;
  rest = λ xs.
      parses_high code read_below deep deep false arm_starts Every after_arms (parses_lowest code arm_starts after_arms);
}
lowest (suc n) =
    let c = Grammar.level n 0 in
    let b = lowest n in
    record {
      operand = parses_below code too_high refl (λ u x d. absurd d) nil_front (λ x d. d) (read_unary read_below read_below) (Grammar.unary deep deep)
          (Grammar.unary c.operand c.whole) operand_starts operand_opens after_operand (lowest_unary c b);
      whole = parses_below code too_high refl (λ u x d. absurd d) nil_front (λ x d. d)
          (read_expr (read_unary read_below read_below) read_below (λ so_far. read_below))
          (Grammar.expr (Grammar.unary deep deep) deep (λ so_far. deep)) (Grammar.expr (Grammar.unary c.operand c.whole) c.whole c.rest) starts
          operand_opens after_expr (lowest_expr c b);
      rest = λ xs. parses_deep (lowest_arms c b xs);
    }

-- what is read at the last level is there
bottom : Lowest (Grammar.level 0 0)
bottom = lowest 0

abbrev never : List Labelled → Rattle.safl_grammar.specs.Reading.Reading Terminal Grammar.ArmList
never xs = read_never

bottom_expr : Parses code (read_expr (read_unary read_below read_below) read_below never)
    (Grammar.expr (Grammar.unary deep deep) deep (λ so_far. too_high)) (Grammar.expr (Grammar.unary deep deep) deep (λ so_far. too_high)) false starts
    operand_opens after_expr
unfolding Grammar.level
bottom_expr = expr_parses read_below deep deep bottom.whole never (λ so_far. too_high) (λ so_far. too_high)
    (λ xs. parses_never code arm_starts Every after_arms) (read_unary read_below read_below) (Grammar.unary deep deep) (Grammar.unary deep deep)
    (lowest_unary (Grammar.level 0 0) bottom)

bottom_arms : (xs : List Labelled) → Parses code (read_arms read_below (λ so_far. read_below) xs) (Grammar.arms deep (λ so_far. too_high) xs)
    (Grammar.arms deep (λ so_far. too_high) xs) false arm_starts (Only (3 ∷ [])) after_arms
unfolding Grammar.level read_arms read_arm
bottom_arms = arms_parses read_below deep deep bottom.whole never (λ so_far. too_high) (λ so_far. too_high) (λ xs. parses_never code arm_starts Every after_arms)

both_zero : (n : ℕ) → Both 0 (Grammar.level 1 0) (Grammar.level n 0)
unfolding Grammar.level operand_at arms_at read_arms
both_zero n =
    let u = lowest_unary (Grammar.level 0 0) bottom in
    let e = bottom_expr in
    record {
      operand = parses_mix (parses_below code (Grammar.unary deep deep) u.empty u.covered u.shorter (λ x d. u.firm refl x d)
          (read_unary read_below read_below) (Grammar.unary deep deep) (Grammar.unary deep deep) operand_starts operand_opens after_operand u) (lowest n).operand;
      whole = parses_mix (parses_below code (Grammar.expr (Grammar.unary deep deep) deep (λ so_far. too_high)) e.empty e.covered e.shorter
          (λ x d. e.firm refl x d) (read_expr (read_unary read_below read_below) read_below never)
          (Grammar.expr (Grammar.unary deep deep) deep (λ so_far. too_high)) (Grammar.expr (Grammar.unary deep deep) deep (λ so_far. too_high)) starts
          operand_opens after_expr e) (lowest n).whole;
      rest = arms_here n;
    }
  where
    arms_here : (n : ℕ) (xs : List Labelled) → Parses code (read_arms read_below (λ so_far. read_below) xs)
        (Grammar.arms deep (λ so_far. too_high) xs) ((Grammar.level n 0).rest xs) false arm_starts (Only (3 ∷ [])) after_arms
    arms_here zero xs = parses_high code (read_arms read_below (λ so_far. read_below) xs) (Grammar.arms deep (λ so_far. too_high) xs)
        (Grammar.arms deep (λ so_far. too_high) xs) false arm_starts (Only (3 ∷ [])) after_arms (bottom_arms xs)
    arms_here (suc n) xs = parses_mix (bottom_arms xs) (lowest_arms (Grammar.level n 0) (lowest n) xs)

both_high : (m : ℕ) (s c : Grammar.Level) → Both m s c → Both m s Grammar.no_level
both_high m s c b = record {
  operand = parses_high code (operand_at m) s.operand c.operand false operand_starts Every after_operand b.operand;
  whole = parses_high code (expr_at m) s.whole c.whole false starts Every after_expr b.whole;
  rest = λ xs. parses_high code (arms_at m xs) (s.rest xs) (c.rest xs) false arm_starts (Only (3 ∷ [])) after_arms (b.rest xs);
}

-- at m levels, of one more and of any number of nested expressions
pub both_levels : (m n : ℕ) → Both m (Grammar.level (suc m) m) (Grammar.level n m)
unfolding Grammar.level
both_levels zero n = both_zero n
both_levels (suc m) zero = both_high (suc m) (Grammar.next_level (Grammar.level (suc m) m)) (Grammar.next_level (Grammar.level zero m))
    (both_next m (Grammar.level (suc m) m) (Grammar.level zero m) (both_levels m zero))
both_levels (suc m) (suc n) = both_next m (Grammar.level (suc m) m) (Grammar.level n m) (both_levels m n)

-- ---- no more is left than there was

pub expr_small : (m : ℕ) → Small (expr_at m)
expr_small m = small_parses (both_levels m m).whole

pub operand_small : (m : ℕ) → Small (read_unary (operand_at m) (expr_at m))
operand_small m = let b = both_levels m m in small_parses (unary_parses (expr_at m) (Grammar.level (suc m) m).whole (Grammar.level m m).whole b.whole
    (operand_at m) (Grammar.level (suc m) m).operand (Grammar.level m m).operand b.operand)
