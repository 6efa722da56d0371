-- Which sites start, one by one.
use Rattle.safl_unit.proofs.Common.{Builds, Choice, EachAt, HasGoes, InEachCycle, IsSource, Load, Netlist, Pins, Program, Sig, Val, Wired}
use Rattle.safl_unit.proofs.Common.{called, either_some, gate, on, pin, some_if, source_kept, taken_at, taken_in, unit_for, wired_before}
use Rattle.std.proofs.Common.{◌≡◌, ℕ, zero, suc, ◌≤◌, List, [], ◌∷◌, ◌++◌, length, slice_get, subst, Option, Some, Bool, true, false, ◌&&◌}
use Rattle.std.proofs.Common.{◌||◌, ◌==◌, not, cond, is_some, Result, Ok, Err, IfOk, refl, sym, ap, ◌∙◌, arith}
use Rattle.safl_calls.specs.Picks.{first}
use Rattle.safl_circuit.specs.Equations.{Registers, Inputs, want, wants_at, go}
use Rattle.safl_unit.proofs.equations.Keeping.{cycle_before}
use Rattle.safl_unit.proofs.equations.Sites.{one_more, longer}
use Rattle.safl_unit.proofs.equations.Tables.{pin_get}

pub gated : {A : Type 0} (b : Bool) (x : A) → is_some (gate b (Some x)) ≡ b
gated true x = refl
gated false x = refl

-- the bit of a wanted site
pub want_shown : (C : Program) (P : Choice) (r : Registers) (i : Inputs) (v : Val) (xs : List Load) (m : ℕ) (l : Load) → slice_get xs (suc m) ≡ Some l
    → taken_at v xs (suc m) ≡ called C P r i (suc m) → on v l.bit ≡ want C P r (suc m)
want_shown C P r i v xs m l e h = sym (gated (on v l.bit) _) ∙ ap (λ (o : Option Load). is_some (taken_in v o)) (sym e) ∙ ap is_some h

-- the sites up to number m, as far as they were made, and which of them want, by unit
pub record Granted (C : Program) (P : Choice) (n : Netlist) (p : Pins) (goes : List Sig) (m : ℕ) : Type 0 where
  pub count : length goes ≡ suc m
  pub fits : EachAt goes (λ k s. IsSource n s 1)
  pub shows : InEachCycle C P n p (λ v r i. EachAt goes (λ k s. on v s ≡ go C P r i k))

pub first_of : (C : Program) (P : Choice) (r : Registers) (u : ℕ) → is_some (first (wants_at C P r u) 1) ≡ false
unfolding first
first_of C P r u = refl

pub next_of : (C : Program) (P : Choice) (r : Registers) (u m : ℕ) → is_some (first (wants_at C P r u) (suc (suc m))) ≡
    (is_some (first (wants_at C P r u) (suc m)) || (unit_for C (suc m) == u && want C P r (suc m)))
unfolding first
next_of C P r u m = either_some (first (wants_at C P r u) (suc m)) (wants_at C P r u (suc m)) ∙ ap
    (λ (b : Bool). is_some (first (wants_at C P r u) (suc m)) || b) (some_if (unit_for C (suc m) == u && want C P r (suc m)) (suc m))

main_go : (C : Program) (P : Choice) (r : Registers) (i : Inputs) → (i.start && not (r.run (C.unit C.main))) ≡ go C P r i 0
unfolding go
main_go C P r i = refl

pub site_go : (C : Program) (P : Choice) (r : Registers) (i : Inputs) (k : ℕ) → cond (P.arbiter (unit_for C (suc k)))
    (want C P r (suc k) && (not (r.run (unit_for C (suc k))) && not (is_some (first (wants_at C P r (unit_for C (suc k))) (suc k)))))
    (want C P r (suc k)) ≡ go C P r i (suc k)
unfolding go
site_go C P r i k = refl

pub none_granted : (C : Program) (P : Choice) (n : Netlist) (p : Pins) (goes : List Sig) (s : Sig) → goes ≡ s ∷ [] → IsSource n s 1 → InEachCycle C P
    n p (λ v r i. on v s ≡ (i.start && not (r.run (C.unit C.main))))
    → Granted C P n p goes 0
none_granted C P n p goes s e f h = record {
  count = ap (λ (xs : List Sig). length xs) e;
  fits = subst (λ (xs : List Sig). EachAt xs (λ k x. IsSource n x 1)) (sym e) (alone (λ k x. IsSource n x 1) f);
  shows = λ v r i c. subst (λ (xs : List Sig). EachAt xs (λ k x. on v x ≡ go C P r i k)) (sym e) (alone (λ k x. on v x ≡ go C P r i k) (h v r i c ∙ main_go C P r i));
}
  where
    alone : (Q : ℕ → Sig → Type 0) → Q 0 s → EachAt (s ∷ []) Q
    alone Q q zero x e = let k : s ≡ x = cc in subst (Q 0) k q
    alone Q q (suc j) x e = absurd (cc)

pub granted_on : (C : Program) (P : Choice) (a b : Netlist) (p : Pins) (goes : List Sig) (m k : ℕ) → Builds a b k → Granted C P a p goes m → Granted C P b p goes m
granted_on C P a b p goes m k built h = record { count = h.count; fits = λ j s e. source_kept built (h.fits j s e); shows = λ v r i c. h.shows v r i (cycle_before built c) }

pub more_granted : (C : Program) (P : Choice) (a b : Netlist) (p : Pins) (goes after : List Sig) (m k : ℕ) (bit : Sig) → Granted C P a p goes m →
    Builds a b k → IsSource b bit 1 → InEachCycle C P b p (λ v r i. on v bit ≡ go C P r i (suc m)) → after ≡ goes ++ bit ∷ []
    → Granted C P b p after (suc m)
more_granted C P a b p goes after m k bit all built fits value is = record {
  count = longer goes after bit m all.count is;
  fits = one_more goes after bit m (λ k s. IsSource b s 1) all.count is (λ k s e. source_kept built (all.fits k s e)) fits;
  shows = λ v r i c. let d = cycle_before built c in one_more goes after bit m (λ k s. on v s ≡ go C P r i k) all.count is (all.shows v r i d) (value v r i c);
}

pub all_granted : (C : Program) (P : Choice) (n : Netlist) (p : Pins) (goes : List Sig) → Granted C P n p goes C.sites → HasGoes C P n p goes
all_granted C P n p goes h =
    let there = λ (k : ℕ) (l : k ≤ C.sites). pin_get goes k (let e = h.count in omega (arith, e, l)) in
    record {
      count = h.count;
      fits = λ k l. h.fits k (pin goes k) (there k l);
      shows = λ v r i c k l. h.shows v r i c k (pin goes k) (there k l);
    }

-- ---- gates

pub both_shown : {E : Type 0} (k m : Netlist) (r : Result Sig E) (x y : Sig) (test : Val → Bool) → Builds k m 1 → ((v : Val) → Wired k v → on v y ≡ test v)
    → IfOk r (λ s. (v : Val) → Wired m v → on v s ≡ (on v x && on v y)) → IfOk r (λ s. (v : Val) → Wired m v → on v s ≡ (on v x && test v))
both_shown k m (Ok s) x y test b f h = λ v w. h v w ∙ ap (λ (t : Bool). on v x && t) (f v (wired_before b.grows w))
both_shown k m (Err e) x y test b f h = tt
