-- A unit that runs after the edge ran before, or one of its members starts.
use Rattle.safl_circuit.proofs.Common.{Choice, Numbered, Program, Word, is_there, or-true, unit_for}
use Rattle.std.proofs.Common.{◌≡◌, ℕ, zero, suc, ◌≤◌, List, Option, Some, None, Bool, true, false, cond, not, ◌&&◌, ◌||◌, ◌==◌}
use Rattle.std.proofs.Common.{is_some, refl, sym, ap, ◌∙◌, inl, inr, ◌⊎◌, arith}
use Rattle.std.proofs.lemmas.Bool.{cases_eq, eqb-true, eq-eqb, ne_eqb, and_from, and_parts, or_left, or_right, false≢true}
use Rattle.safl_calls.proofs.Basics.{cond_some, first_none, first_some, some_none, some_of}
use Rattle.safl_calls.specs.Picks.{first}
use Rattle.safl_circuit.proofs.Searched.{go_in, if_other, load_in, other_than}
use Rattle.safl_circuit.specs.Equations.{Registers, Inputs, many, path, go, go_words, body_wants, loads, starts, starts_it, starts_other, next}

-- a site has words to start with exactly if it starts
pub go_wants : (C : Program) (P : Choice) (q : Registers) (i : Inputs) (k : ℕ) → is_some (go_words C P q i k) ≡ go C P q i k
unfolding go
go_wants C P q i zero = by (go C P q i 0)
  where
    by : (b : Bool) → is_some (cond b (Some i.words) None) ≡ b
    by true = refl
    by false = refl
go_wants C P q i (suc k) = by (P.arbiter (unit_for C (suc k))) (body_wants C P q (suc k)) _
  where
    by : (a : Bool) (o : Option (List Word)) (x : Bool) → is_some (cond (cond a (is_some o && x) (is_some o)) o None) ≡ cond a (is_some o && x) (is_some o)
    by true None x = refl
    by true (Some ws) true = refl
    by true (Some ws) false = refl
    by false None x = refl
    by false (Some ws) x = refl

-- one of two bits that are not both 0
pub either : (a b : Bool) → (a || b) ≡ true → (a ≡ true) ⊎ (b ≡ true)
either true b up = inl refl
either false b up = inr up

-- a bit that is 1 although clearing wins over setting it
pub not_cleared : (a b : Bool) → cond a false b ≡ true → b ≡ true
not_cleared true b up = absurd (false≢true up)
not_cleared false b up = up

module _ (C : Program) (P : Choice) (good : Numbered C) (i : Inputs) (r : Registers) (f : ℕ) where
  -- f or another member of its unit starts
  abbrev pub Begins : Type 0
  Begins = (starts_it C P r i f ≡ true) ⊎ (starts_other C P r i f ≡ true)

  -- a site that starts the unit starts one of its members
  begins : (k : ℕ) → k ≤ C.sites → unit_for C k ≡ C.unit f → go C P r i k ≡ true → Begins
  unfolding loads
  begins k le at up = by (cases_eq (C.callee k) f)
    where
      it : starts_it C P r i (C.callee k) ≡ true
      it =
          let ws = some_of (go_words C P r i k) (go_wants C P r i k ∙ up) in
          let here : load_in C P r i (C.callee k) k ≡ Some ws.0 = rw (eq-eqb (C.callee k) (C.callee k) refl) ws.1 in
          or_left _ _ (is_there _ (λ none. some_none ws.0 (sym here ∙ first_none (load_in C P r i (C.callee k)) (suc C.sites) none k (omega (arith, le)))))

      by : (C.callee k ≡ f) ⊎ (C.callee k ≡ f → ⊥) → Begins
      by (inl same) = inl (ap (starts_it C P r i) (sym same) ∙ it)
      by (inr apart) =
          let here : if_other C P r i f (C.callee k) ≡ Some (C.callee k) = rw (eq-eqb (C.unit (C.callee k)) (C.unit f) at, ne_eqb (C.callee k) f apart, it) refl in
          inr (is_there _ (λ none. some_none (C.callee k) (sym here ∙ first_none (if_other C P r i f) C.functions none (C.callee k) (good.callee_in k le))))

  -- a unit that runs after the edge
  pub awake : (next C P i r).run (C.unit f) ≡ true → (r.run (C.unit f) ≡ true) ⊎ Begins
  unfolding next starts
  awake up = by (either _ _ (not_cleared _ _ up))
    where
      by : (r.run (C.unit f) ≡ true) ⊎ (is_some (starts C P r i (C.unit f)) ≡ true) → (r.run (C.unit f) ≡ true) ⊎ Begins
      by (inl on) = inl on
      by (inr some) =
          let o = some_of (starts C P r i (C.unit f)) some in
          let k = first_some (go_in C P r i (C.unit f)) (suc C.sites) o.0 o.1 in
          let a = and_parts _ _ (cond_some _ _ o.0 k.2).0 in
          inr (begins k.0 (omega (arith, k.1)) (eqb-true _ _ a.0) a.1)

  -- where another member starts, the unit has several
  others_many : starts_other C P r i f ≡ true → many C f ≡ true
  others_many up =
      let o = some_of (first (if_other C P r i f) C.functions) up in
      let g = first_some (if_other C P r i f) C.functions o.0 o.1 in
      let a = and_parts (C.unit g.0 == C.unit f) (not (g.0 == f) && starts_it C P r i g.0) (cond_some _ _ o.0 g.2).0 in
      let b = and_parts (not (g.0 == f)) (starts_it C P r i g.0) a.1 in
      let here : other_than C f g.0 ≡ Some g.0 = rw (a.0, b.0) refl in
      is_there _ (λ none. some_none g.0 (sym here ∙ first_none (other_than C f) C.functions none g.0 g.1))

  -- at of a member that starts, and of one beside which another starts
  pub at_started : starts_it C P r i f ≡ true → (next C P i r).at f ≡ cond (starts_other C P r i f) false true
  unfolding next
  at_started up = ap (λ b. cond (starts_other C P r i f) false (r.at f || b)) up ∙ ap (cond (starts_other C P r i f) false) (or-true (r.at f))

  pub at_left : starts_other C P r i f ≡ true → (next C P i r).at f ≡ false
  unfolding next
  at_left up = ap (λ b. cond b false (r.at f || starts_it C P r i f)) up

  -- a body that has its path after the edge had it before, or starts
  pub path_before : starts_it C P r i f ≡ false → path C (next C P i r) f ≡ true → path C r f ≡ true
  unfolding next
  path_before down up = let a = and_parts _ _ up in by (awake a.0) (either _ _ a.1)
    where
      at_f : (r.at f ≡ true) ⊎ (starts_it C P r i f ≡ true) → r.at f ≡ true
      at_f (inl on) = on
      at_f (inr it) = absurd (false≢true (sym down ∙ it))

      by : (r.run (C.unit f) ≡ true) ⊎ Begins → (not (many C f) ≡ true) ⊎ ((next C P i r).at f ≡ true) → path C r f ≡ true
      by (inl on) (inl alone) = and_from _ _ on (or_left _ _ alone)
      by (inl on) (inr here) = and_from _ _ on (or_right _ _ (at_f (either _ _ (not_cleared _ _ here))))
      by (inr (inl it)) h = absurd (false≢true (sym down ∙ it))
      by (inr (inr other)) (inl alone) = absurd (false≢true (sym (ap not (others_many other)) ∙ alone))
      by (inr (inr other)) (inr here) = absurd (false≢true (sym (at_left other) ∙ here))
