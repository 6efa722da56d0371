-- Members of a group.
use Rattle.safl_unit.proofs.Common.{CheckedProgram, IsChecked, Program, eq-eqb, eqb-true, many, ne_eqb}
use Rattle.std.proofs.Common.{◌≡◌, ℕ, ◌+◌, ◌<◌, ◌≤◌, Option, Some, None, Bool, true, false, cond, not, ◌&&◌, ◌==◌, is_some, refl, sym, ap, ◌∙◌, arith}
use Rattle.safl_calls.specs.Picks.{first}
use Rattle.safl_calls.proofs.Basics.{first_none, all_none, some_none}
use Rattle.safl_circuit.proofs.Searched.{other_than}

pub found : {A : Type 0} (g : ℕ → Option A) (n i : ℕ) (x : A) → i < n → g i ≡ Some x → is_some (first g n) ≡ true
found g n i x l e = by (first g n) refl
  where
    by : (o : _) → first g n ≡ o → is_some o ≡ true
    by None q = absurd (some_none x (sym e ∙ first_none g n q i l))
    by (Some y) q = refl

-- another function of the unit
pub many_true : (C : Program) (f g : ℕ) → g < C.functions → C.unit g ≡ C.unit f → (g ≡ f → ⊥) → many C f ≡ true
many_true C f g l same other =
    found (other_than C f) C.functions g g l
    (ap (λ b. cond (b && not (g == f)) (Some g) None) (eq-eqb (C.unit g) (C.unit f) same) ∙ ap (λ b. cond (not b) (Some g) None) (ne_eqb g f other))

-- no other
pub many_false : (C : Program) (f : ℕ) → ((g : ℕ) → g < C.functions → C.unit g ≡ C.unit f → (g ≡ f → ⊥) → ⊥) → many C f ≡ false
many_false C f alone = ap is_some (all_none (other_than C f) C.functions (λ g l. by g l (C.unit g == C.unit f) (g == f) refl refl))
  where
    by : (g : ℕ) → g < C.functions → (a b : Bool) → (C.unit g == C.unit f) ≡ a → (g == f) ≡ b → cond (a && not b) (Some g) None ≡ None
    by g l false b p q = refl
    by g l true true p q = refl
    by g l true false p q = absurd (alone g l (eqb-true (C.unit g) (C.unit f) p) (λ e. absurd (let r : (g == f) ≡ true = eq-eqb g f e in cc)))

-- a function that isn't the first of its group
pub peers_below : (c : CheckedProgram) → IsChecked c → (f : ℕ) → f < c.program.functions → (c.program.unit f ≡ f → ⊥) → many c.program f ≡ true
peers_below c h f l other =
    let q = h.formed.first f l in
    many_true c.program f (c.program.unit f) (let a = q.0 in omega (arith, a, l)) q.1 other

-- one whose next function is in its group
pub peers_next : (c : CheckedProgram) → (f : ℕ) → f + 1 < c.program.functions → c.program.unit f ≡ f → c.program.unit (f + 1) ≡ f → many c.program f ≡ true
peers_next c f l own next = many_true c.program f (f + 1) l (next ∙ sym own) (λ e. absurd (omega (arith, e)))

-- one that is first, and no function or one of another group is next
pub no_peers : (c : CheckedProgram) → IsChecked c → (f : ℕ) → f < c.program.functions → c.program.unit f ≡ f
    → (f + 1 < c.program.functions → c.program.unit (f + 1) ≡ f → ⊥) → many c.program f ≡ false
no_peers c h f l own next =
    many_false c.program f (λ g m same other.
    let a = (h.formed.first g m).0 in
    let b : c.program.unit g ≡ f = same ∙ own in
    let above : f + 1 ≤ g = omega (arith, a, b, other) in
    next (omega (arith, above, m)) (h.groups (f + 1) g m (omega (arith, b)) above ∙ b))

-- whether the next function is in the group of a first member
pub next_peer : (c : CheckedProgram) → IsChecked c → (f r : ℕ) → f < c.program.functions → c.program.unit f ≡ f → f + 1 < c.program.functions
    → r ≡ c.program.unit (f + 1) → (r == f) ≡ many c.program f
next_peer c h f r l own next e = by (r == f) refl
  where
    by : (b : Bool) → (r == f) ≡ b → b ≡ many c.program f
    by true q = sym (peers_next c f next own (sym e ∙ eqb-true r f q))
    by false q = sym (no_peers c h f l own (λ m same. let t : (r == f) ≡ true = eq-eqb r f (e ∙ same) in absurd (cc)))
