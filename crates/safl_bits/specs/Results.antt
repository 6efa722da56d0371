-- Literals that show the result of an operator.
use Rattle.std.specs.Prelude.{◌≡◌, ℕ, ◌*◌, ◌<◌, ◌≤◌, List, [], ◌∷◌, length, Some}
use Rattle.safl_word.specs.Words.{Word}
use Rattle.safl_word.specs.Limits.{width_max}
use Rattle.safl_word.specs.declared.primitive.Primitive.{Primitive}
use Rattle.safl_word.specs.declared.primitive.Primitive.TheVariants.{Not, Bits}
use Rattle.safl_word.specs.Primitives.{result_width, apply_prim}
use Rattle.safl_aiger.specs.declared.literal.Lit.{Lit}
use Rattle.safl_aiger.specs.Literals.{Assignment, shown}
use Rattle.safl_bits.specs.Gates.{Gates, AreLiterals, HasRoom, Grows, Holds}
use Rattle.safl_bits.specs.Weights.{apply_weight}

-- the word that literals show
abbrev pub word : Assignment → List Lit → Word
word m ls = record { width = length ls; bits = shown m ls }

-- the literals show the result of an operator on two words, or on one
pub record Makes (p : Primitive) (a b : List Lit) (new : Gates) (r : List Lit) : Type 0 where
  pub fits : AreLiterals new r
  pub long : result_width p (length a ∷ length b ∷ []) ≡ Some (length r)
  pub value : (m : Assignment) → Holds new m → shown m r ≡ (apply_prim p (word m a ∷ word m b ∷ [])).bits

pub record MakesOne (p : Primitive) (a : List Lit) (new : Gates) (r : List Lit) : Type 0 where
  pub fits : AreLiterals new r
  pub long : result_width p (length a ∷ []) ≡ Some (length r)
  pub value : (m : Assignment) → Holds new m → shown m r ≡ (apply_prim p (word m a ∷ [])).bits

-- The graph has room for what the operator may take, and it takes no more than that.
abbrev pub MayMake : Primitive → Gates → List ℕ → Type 0
MayMake p old ws = (w : ℕ) × (result_width p ws ≡ Some w) × HasRoom old (16 * apply_weight p w ws)

abbrev pub GrowsBy : Primitive → Gates → Gates → List ℕ → Type 0
GrowsBy p old new ws = (w : ℕ) → result_width p ws ≡ Some w → Grows old new (16 * apply_weight p w ws)

-- the operator takes one operand of this width: it inverts it or takes a slice of it
abbrev pub MayTake : Primitive → ℕ → Type 0
MayTake Not w = (1 ≤ w) × (w ≤ width_max)
MayTake (Bits high low) w = (low ≤ high) × (high < w) × (w ≤ width_max)
MayTake _ w = ⊥
