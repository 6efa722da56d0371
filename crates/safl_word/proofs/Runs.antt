-- Runs of bytes that pass a test, and what ends them.
use Rattle.safl_word.proofs.Common.{EndsRun, and_parts, list_all}
use Rattle.std.proofs.Common.{◌≡◌, ℕ, ◌≤◌, List, [], ◌∷◌, ◌++◌, length, Bool, true, false, refl, sym, ap, subst, arith}

head_fails : (p : ℕ → Bool) (c : ℕ) (u w : List ℕ) {A : Type 0} → c ∷ u ≡ w → EndsRun p w → p c ≡ true → A
head_fails p c u [] e h t = cc
head_fails p c u (d ∷ w) e h t = let k : c ≡ d = cc in let l : p d ≡ true = subst (λ x. p x ≡ true) k t in cc

-- a run is not longer than one that ends
pub run_short : (p : ℕ → Bool) (u v w rest : List ℕ) → list_all p u ≡ true → EndsRun p rest → u ++ v ≡ w ++ rest → length u ≤ length w
run_short p [] v w rest a h e = omega arith
run_short p (c ∷ u) v [] rest a h e = head_fails p c (u ++ v) rest e h (and_parts _ _ a).0
run_short p (c ∷ u) v (d ∷ w) rest a h e =
    let t : u ++ v ≡ w ++ rest = cc in
    omega (arith, run_short p u v w rest (and_parts (p c) (list_all p u) a).1 h t)

-- two runs that end are the same
pub same_run : (p : ℕ → Bool) (u v w rest : List ℕ) → list_all p u ≡ true → list_all p w ≡ true → EndsRun p v → EndsRun p rest → u ++ v ≡ w ++ rest
    → (u ≡ w) × (v ≡ rest)
same_run p [] v [] rest a b g h e = (refl, e)
same_run p [] v (d ∷ w) rest a b g h e = head_fails p d (w ++ rest) v (sym e) g (and_parts _ _ b).0
same_run p (c ∷ u) v [] rest a b g h e = head_fails p c (u ++ v) rest e h (and_parts _ _ a).0
same_run p (c ∷ u) v (d ∷ w) rest a b g h e =
    let t : u ++ v ≡ w ++ rest = cc in
    let k : c ≡ d = cc in
    let r = same_run p u v w rest (and_parts _ _ a).1 (and_parts _ _ b).1 g h t in
    (λ i. k i ∷ r.0 i, r.1)

-- the run of bytes that pass, at the front of a text
pub record Span (p : ℕ → Bool) (text : List ℕ) : Type 0 where
  pub front : List ℕ
  pub rest : List ℕ
  pub joined : front ++ rest ≡ text
  pub passes : list_all p front ≡ true
  pub ends : EndsRun p rest

span_more : (p : ℕ → Bool) (c : ℕ) (text : List ℕ) → Span p text → (b : Bool) → p c ≡ b → Span p (c ∷ text)
span_more p c text s false e = record { front = []; rest = c ∷ text; joined = refl; passes = refl; ends = e }
span_more p c text s true e = record { front = c ∷ s.front; rest = s.rest; joined = ap (λ w. c ∷ w) s.joined; passes = rw e s.passes; ends = s.ends }

pub span : (p : ℕ → Bool) (text : List ℕ) → Span p text
span p [] = record { front = []; rest = []; joined = refl; passes = refl; ends = tt }
span p (c ∷ text) = span_more p c text (span p text) (p c) refl
