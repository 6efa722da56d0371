-- Where a comment ends.
use Rattle.safl_verilog.proofs.Common.{Decides-eqb, same_Some}
use Rattle.std.proofs.Common.{◌≡◌, ℕ, suc, List, [], ◌∷◌, ◌++◌, length, false, ◌==◌, ◌&&◌, Some, None, Option, refl, sym, ap, ◌∙◌, inl, inr}
use Rattle.std.proofs.lemmas.Bool.{and_parts, or_parts}
use Rattle.std.proofs.Math.Bool.{and-false}
use Rattle.safl_verilog.specs.Tokens.{has_close}
use Rattle.safl_verilog.specs.Pieces.{closing, one_more}
use Rattle.safl_verilog.proofs.Runs.{chosen}

-- a text up to its first `*/`, of n bytes
pub record Closed (w : List ℕ) (n : ℕ) : Type 0 where
  pub inner : List ℕ
  pub rest : List ℕ
  pub joined : w ≡ inner ++ 42 ∷ 47 ∷ rest
  pub size : length inner ≡ n
  pub first : has_close inner ≡ false

one_more_is : (o : Option ℕ) (n : ℕ) → one_more o ≡ Some n → (m : ℕ) × (o ≡ Some m) × (suc m ≡ n)
one_more_is None n e = absurd cc
one_more_is (Some m) n e = (m, refl, same_Some _ _ e)

opened : (c d : ℕ) (w inner rest : List ℕ) → ((c == 42) && (d == 47)) ≡ false → d ∷ w ≡ inner ++ 42 ∷ 47 ∷ rest → has_close inner ≡ false → has_close (c ∷ inner) ≡ false
opened c d w [] rest a e h = refl
opened c d w (d' ∷ inner) rest a e h =
    let same : d ≡ d' = cc in
    let b : ((c == 42) && (d' == 47)) ≡ false = ap (λ k. (c == 42) && (k == 47)) (sym same) ∙ a in
    rw (b, h) refl

pub closed : (w : List ℕ) (n : ℕ) → closing w ≡ Some n → Closed w n
closed [] n e = absurd cc
closed (c ∷ []) n e = absurd cc
closed (c ∷ (d ∷ w)) n e = elim (chosen ((c == 42) && (d == 47)) (Some 0) (one_more (closing (d ∷ w))) (Some n) e) [
  | inl h ↦ (
      let a = and_parts (c == 42) (d == 47) h.0 in
      let c_is : c ≡ 42 = (Decides-eqb c 42).0 a.0 in
      let d_is : d ≡ 47 = (Decides-eqb d 47).0 a.1 in
      record { inner = []; rest = w; joined = cc; size = same_Some _ _ h.1; first = refl })
  | inr h ↦ (
      let m = one_more_is (closing (d ∷ w)) n h.1 in
      let k = closed (d ∷ w) m.0 m.1 in
      record { inner = c ∷ k.inner; rest = k.rest; joined = ap (λ (l : List ℕ). c ∷ l) k.joined; size = ap suc k.size ∙ m.2; first = opened c d w k.inner k.rest h.0 k.joined k.first })
]

-- a text without a `*/` is what stands before the first one that follows it
pub closing_of : (inner rest : List ℕ) → has_close inner ≡ false → closing (inner ++ 42 ∷ 47 ∷ rest) ≡ Some (length inner)
closing_of [] rest h = refl
closing_of (c ∷ []) rest h = rw (and-false (c == 42)) refl
closing_of (c ∷ (d ∷ inner)) rest h =
    let a = or_parts ((c == 42) && (d == 47)) (has_close (d ∷ inner)) h in
    rw (a.0, closing_of (d ∷ inner) rest a.1) refl
