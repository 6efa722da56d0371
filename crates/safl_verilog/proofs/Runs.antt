-- Runs of bytes that pass a test, and texts of a list of names.
use Rattle.safl_verilog.proofs.Common.{Decides-eqb, and_parts, bytes_eq-Decides, list_all, same_Some, ◌⊎◌}
use Rattle.std.proofs.Common.{◌≡◌, ◌≢◌, ℕ, suc, ◌≤◌, List, [], ◌∷◌, ◌++◌, length, take, drop, Bool, true, false, cond, not, ◌==◌, ◌&&◌, Some, None, Option, refl, ap, subst, ◌∙◌, arith, inl, inr}
use Rattle.std.proofs.Common.{bytes_eq}
use Rattle.safl_net.specs.Names.{is_part, are_parts}
use Rattle.safl_verilog.specs.Tokens.{stops}
use Rattle.safl_verilog.specs.Pieces.{run, named}

pub chosen : {A : Type 0} (b : Bool) (x y z : A) → cond b x y ≡ z → ((b ≡ true) × (x ≡ z)) ⊎ ((b ≡ false) × (y ≡ z))
chosen true x y z e = inl (refl, e)
chosen false x y z e = inr (refl, e)

-- two tests that differ at k tell numbers apart
pub other_than : (p : ℕ → Bool) (c k : ℕ) → p c ≡ true → p k ≡ false → (c == k) ≡ false
other_than p c k h g = go (c == k) refl
  where
    go : (b : Bool) → (c == k) ≡ b → b ≡ false
    go true e = absurd (let same : c ≡ k = (Decides-eqb c k).0 e in let w : p k ≡ true = subst (λ n. p n ≡ true) same h in cc)
    go false e = refl

pub run_le : (p : ℕ → Bool) (w : List ℕ) → run p w ≤ length w
run_le p [] = omega arith
run_le p (c ∷ w) = go (p c) (run_le p w)
  where
    go : (b : Bool) → run p w ≤ length w → cond b (suc (run p w)) 0 ≤ length (c ∷ w)
    go true h = omega arith
    go false h = omega arith

pub run_all : (p : ℕ → Bool) (w : List ℕ) → list_all p (take (run p w) w) ≡ true
run_all p [] = refl
run_all p (c ∷ w) = go (p c) refl (run_all p w)
  where
    go : (b : Bool) → p c ≡ b → list_all p (take (run p w) w) ≡ true → list_all p (take (cond b (suc (run p w)) 0) (c ∷ w)) ≡ true
    go true e h = rw (e, h) refl
    go false e h = refl

pub run_stops : (p : ℕ → Bool) (w : List ℕ) → stops p (drop (run p w) w) ≡ true
run_stops p [] = refl
run_stops p (c ∷ w) = go (p c) refl (run_stops p w)
  where
    go : (b : Bool) → p c ≡ b → stops p (drop (run p w) w) ≡ true → stops p (drop (cond b (suc (run p w)) 0) (c ∷ w)) ≡ true
    go true e h = h
    go false e h = rw e refl

pub run_of : (p : ℕ → Bool) (u rest : List ℕ) → list_all p u ≡ true → stops p rest ≡ true → run p (u ++ rest) ≡ length u
run_of p [] [] h s = refl
run_of p [] (c ∷ rest) h s = go (p c) s
  where
    go : (b : Bool) → not b ≡ true → cond b (suc (run p rest)) 0 ≡ 0
    go true e = absurd cc
    go false e = refl
run_of p (c ∷ u) rest h s = let a = and_parts (p c) (list_all p u) h in rw (a.0, run_of p u rest a.1 s) refl

pub are_parts-all : (w : List ℕ) → are_parts w ≡ list_all is_part w
are_parts-all [] = refl
are_parts-all (c ∷ w) = ap (λ b. is_part c && b) (are_parts-all w)

-- what is found has the text
pub named_has : {A : Type 0} (text : A → List ℕ) (xs : List A) (w : List ℕ) (x : A) → named text xs w ≡ Some x → w ≡ text x
named_has text [] w x e = absurd cc
named_has text (y ∷ ys) w x e = elim (chosen (bytes_eq w (text y)) (Some y) (named text ys w) (Some x) e) [
  | inl h ↦ (bytes_eq-Decides w (text y)).0 h.0 ∙ ap text (same_Some _ _ h.1)
  | inr h ↦ named_has text ys w x h.1
]

-- nothing has the text, so nothing is found
pub named_none : {A : Type 0} (text : A → List ℕ) (xs : List A) (w : List ℕ) → ((x : A) → w ≢ text x) → named text xs w ≡ None
named_none {A} text xs w h = go (named text xs w) refl
  where
    go : (o : Option A) → named text xs w ≡ o → o ≡ None
    go None e = refl
    go (Some x) e = absurd (h x (named_has text xs w x e))
