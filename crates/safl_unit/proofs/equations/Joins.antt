-- The loads of a body among those of the bodies before it.
use Rattle.safl_unit.proofs.Common.{EachAt, FitsIn, Load, Netlist, Program, PushesLoads, SomeFit, Val, cases_lt, entry_in, eq-eqb}
use Rattle.safl_unit.proofs.Common.{eqb-false, eqb-true, get_end, maybe_load, ne_eqb, nil_at_end, or_else, or_else_none, or_is, taken_in}
use Rattle.std.proofs.Common.{◌≡◌, ℕ, zero, suc, ◌+◌, ◌-◌, ◌<◌, ◌≤◌, List, [], ◌∷◌, ◌++◌, length, length-append, cond, Vec, Global, Option, Some}
use Rattle.std.proofs.Common.{None, Bool, true, false, ◌==◌, ◌⊎◌, inl, inr, add-one, slice_get, refl, sym, ap, subst, ◌∙◌, arith}
use Rattle.safl_term.specs.Sizes.{nodes, body_nodes}
use Rattle.safl_lower.specs.Rows.{AllFit, first_taken, row_at, RowsFit}
use Rattle.safl_lower.proofs.JoinedRows.{fit_push, first_pushed}
use Rattle.safl_lower.specs.Loads.{load_cost, loads_cost}

-- ---- counts

pub nodes_next : (C : Program) (f : ℕ) → body_nodes C (f + 1) ≡ body_nodes C f + nodes (C.body f)
unfolding body_nodes
nodes_next C f = ap (body_nodes C) (add-one f)

-- ---- calls

-- what holds of the entries of two tables holds of those of the one after the other
pub each_append : {A : Type 0} (xs ys : List A) (P : ℕ → A → Type 0) → EachAt xs P → EachAt ys (λ i x. P (length xs + i) x) → EachAt (xs ++ ys) P
each_append [] ys P a b i x e = let s : 0 + i ≡ i = omega arith in subst (λ j. P j x) s (b i x e)
each_append (y ∷ xs) ys P a b zero x e = a zero x e
each_append (y ∷ xs) ys P a b (suc i) x e =
    each_append xs ys (λ j z. P (suc j) z) (λ j z q. a (suc j) z q) (λ j z q. let s : length (y ∷ xs) + j ≡ suc (length xs + j) = omega arith in subst (λ k. P k z) s (b j z q)) i x e

-- ---- tail calls

-- the last of a table, and those before it
front_at : {A : Type 0} (xs : List A) (x : A) (i : ℕ) → i < length xs → slice_get (xs ++ x ∷ []) i ≡ slice_get xs i
front_at [] x i l = absurd (omega (arith, l))
front_at (y ∷ xs) x zero l = refl
front_at (y ∷ xs) x (suc i) l = front_at xs x i (omega (arith, l))

pub cost_end : (xs : List (Option Load)) (o : Option Load) → loads_cost (xs ++ o ∷ []) ≡ loads_cost xs + load_cost o
cost_end [] o = omega arith
cost_end (x ∷ xs) o = let h = cost_end xs o in omega (arith, h)

pub none_pushed : (first : ℕ) (rows : List (Vec Load Global)) → PushesLoads first 0 [] rows rows
none_pushed first rows = record { pushed = λ i l. absurd (omega (arith, l)); others = λ h l. refl }

module _ (first : ℕ) (own : List (Option Load)) (old mid new : List (Vec Load Global)) (o : Option Load)
    (h : PushesLoads first (length own) own old mid)
    (step : (k : ℕ) → row_at new k ≡ row_at mid k ++ cond (k == first + length own) (maybe_load o) []) where
  apart : (k : ℕ) → (k ≡ first + length own → ⊥) → row_at new k ≡ row_at mid k
  apart k d = step k ∙ ap (λ (b : Bool). row_at mid k ++ cond b (maybe_load o) []) (ne_eqb k (first + length own) d) ∙ sym (nil_at_end (row_at mid k))

  here : row_at new (first + length own) ≡ row_at old (first + length own) ++ maybe_load (entry_in (slice_get (own ++ o ∷ []) (length own)))
  here =
      step (first + length own) ∙ ap (λ (b : Bool). row_at mid (first + length own) ++ cond b (maybe_load o) []) (eq-eqb (first + length own) (first + length own) refl)
      ∙ ap (λ (l : List Load). l ++ maybe_load o) (h.others (first + length own) (inr (omega arith)))
      ∙ ap (λ (x : Option (Option Load)). row_at old (first + length own) ++ maybe_load (entry_in x)) (sym (get_end own o))

  pushed_at : (j : ℕ) → j < length own + 1 → (b : Bool) → (j == length own) ≡ b → row_at new (first + j) ≡ row_at old (first + j) ++ maybe_load (entry_in (slice_get (own ++ o ∷ []) j))
  pushed_at j k true e =
      let s : length own ≡ j = sym (eqb-true j (length own) e) in
      subst (λ (x : ℕ). row_at new (first + x) ≡ row_at old (first + x) ++ maybe_load (entry_in (slice_get (own ++ o ∷ []) x))) s here
  pushed_at j k false e =
      let d = eqb-false j (length own) e in
      let l : j < length own = omega (arith, k, d) in
      apart (first + j) (λ s. d (omega (arith, s))) ∙ h.pushed j l ∙ ap (λ (x : Option (Option Load)). row_at old (first + j) ++ maybe_load (entry_in x)) (sym (front_at own o j l))

  one_pushed : PushesLoads first (length own + 1) (own ++ o ∷ []) old new
  one_pushed = record {
    pushed = λ j k. pushed_at j k (j == length own) refl;
    others = λ k q. apart k (λ s. elim q [ inl x ↦ absurd (omega (arith, x, s)) | inr x ↦ absurd (omega (arith, x, s)) ]) ∙ h.others k (elim q [ inl x ↦ inl x | inr x ↦ inr (omega (arith, x)) ]);
  }

  pub more_pushed : PushesLoads first (length (own ++ o ∷ [])) (own ++ o ∷ []) old new
  more_pushed = let a = length-append own (o ∷ []) in let e : length (own ++ o ∷ []) ≡ length own + 1 = omega (arith, a) in subst
      (λ (m : ℕ). PushesLoads first m (own ++ o ∷ []) old new) (sym e) one_pushed

-- ---- what the rows show

pub taken_maybe : (v : Val) (old : List Load) (o : Option Load) → first_taken v (old ++ maybe_load o) ≡ or_else (first_taken v old) (taken_in v o)
taken_maybe v old None = ap (first_taken v) (sym (nil_at_end old)) ∙ sym (or_else_none (first_taken v old))
taken_maybe v old (Some l) = first_pushed v old (old ++ l ∷ []) true l refl ∙ or_is (first_taken v old) (taken_in v (Some l))

fit_maybe : (n : Netlist) (old : List Load) (o : Option Load) (ws : List ℕ) → AllFit n old ws → FitsIn n o ws → AllFit n (old ++ maybe_load o) ws
fit_maybe n old None ws h q = subst (λ (l : List Load). AllFit n l ws) (nil_at_end old) h
fit_maybe n old (Some l) ws h q = fit_push n old l ws h q

module _ (n : Netlist) (first : ℕ) (own : List (Option Load)) (old new : List (Vec Load Global)) (ws : ℕ → List ℕ)
    (joined : PushesLoads first (length own) own old new) (fit : SomeFit n own (λ i. ws (first + i))) (before : RowsFit n old ws) where
  fit_at : (i : ℕ) → (i < first) ⊎ (first ≤ i) → (i < first + length own) ⊎ (first + length own ≤ i) → AllFit n (row_at new i) (ws i)
  fit_at i (inl x) o = subst (λ (l : List Load). AllFit n l (ws i)) (sym (joined.others i (inl x))) (before i)
  fit_at i (inr x) (inr y) = subst (λ (l : List Load). AllFit n l (ws i)) (sym (joined.others i (inr y))) (before i)
  fit_at i (inr x) (inl y) =
      let j : first + (i - first) ≡ i = omega (arith, x) in
      let m : i - first < length own = omega (arith, x, y) in
      subst (λ (k : ℕ). AllFit n (row_at new k) (ws k)) j
      (subst (λ (l : List Load). AllFit n l (ws (first + (i - first)))) (sym (joined.pushed (i - first) m))
      (fit_maybe n (row_at old (first + (i - first))) (entry_in (slice_get own (i - first))) (ws (first + (i - first))) (before (first + (i - first))) (fit (i - first))))

  pub rows_more : RowsFit n new ws
  rows_more i = fit_at i (cases_lt i first) (cases_lt i (first + length own))
