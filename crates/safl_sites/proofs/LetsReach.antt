-- What a let's body reaches are sites of the program.
use Rattle.safl_sites.proofs.Common.{Call, CheckedProgram, Const, If, IsChecked, IsHeldHere, IsPart, IsTouched, Let, Loop, MayReach, Op}
use Rattle.safl_sites.proofs.Common.{Primitive, Program, SiteSet, Term, Terms, Var, Word, cases_eq, stands_within, unit_for}
use Rattle.std.proofs.Common.{◌≡◌, ℕ, ◌+◌, ◌<◌, ◌≤◌, ◌⊎◌, List, get_or, refl, sym, ap, subst, ◌∙◌, inl, inr, arith}
use Rattle.safl_term.specs.Standing.{Stands}
use Rattle.safl_sites.specs.Conflicts.{Reaches, Here, Through, ReachesIn}
use Rattle.safl_sites.specs.Kept.{InBody}
use Rattle.safl_sites.specs.Peers.{IsSiteOf, ArePeers}
use Rattle.safl_sites.specs.SiteSets.{has, Has, Adds, Meets, no_set}
use Rattle.std.specs.Cmp.{both_ways}
use Rattle.safl_sites.proofs.NumbersFollow.{IsSited, sited, site_of_body}
use Rattle.safl_sites.proofs.ReachBySites.{reaches_of, reaches_in_by, reach_const, reach_var}

module _ (p : CheckedProgram) (h : IsChecked p) where
  abbrev C : Program
  C = p.program

  pub reached_site : (k : ℕ) {t : Term} → ((a : ℕ) → Stands a t → IsSited p a) → Reaches C k t → IsSited p k
  reached_site k own (Here s) = own k s
  reached_site k own (Through a g s w u r) = reached_site k (λ b q. (site_of_body p h g b w q).0) r

  part_sites : {g n : ℕ} {t : Term} → IsPart C g n t → (a : ℕ) → Stands a t → IsSited p a
  part_sites {g} {n} {t} q a s = let w = stands_within C g q.tail q.lo q.hi t a q.spans s in sited p h a (omega (arith, w.above, q.least)) (omega (arith, w.below, q.most))

  in_body_reaches : (k : ℕ) (t : Term) → InBody C k t → Reaches C k t
  unfolding InBody Stands
  in_body_reaches k (Const w) r = r
  in_body_reaches k (Var i) r = r
  in_body_reaches k (Op o ts) r = r
  in_body_reaches k (If c a b) r = r
  in_body_reaches k (Let ts b) r = r
  in_body_reaches k (Call f j ts) r = let (a, s, q) = reaches_in_by ts r in reaches_of a (inr s) q
  in_body_reaches k (Loop f ts) r = r

  pub body_site : (units : List SiteSet) (n k : ℕ) (t : Term) → MayReach C units n t → InBody C k t → IsSiteOf C C.sites (unit_for C k) k
  body_site units n k t m b = let s = reached_site k (part_sites m.part) (in_body_reaches k t b) in record { least = s.least; most = s.most; unit = refl }

-- ---- the sites that are held, one after the other

pub record Looked (C : Program) (slots : List SiteSet) (low : ℕ) (body : Term) (old now : SiteSet) (done : ℕ) : Type 0 where
  pub looked : (k : ℕ) → 1 ≤ k → k ≤ done → Adds (Has old k) (Has now k) (IsHeldHere C slots low k body)
  pub rest : (k : ℕ) → done < k → has now k ≡ has old k

pub looked_more : (C : Program) (slots : List SiteSet) (low : ℕ) (body : Term) (old now next : SiteSet) (done k : ℕ) → k ≡ done + 1 → Looked C slots low body old now done
    → (((j : ℕ) → Adds (Has now j) (Has next j) (j ≡ k)) × IsHeldHere C slots low k body) ⊎ ((next ≡ now) × (IsHeldHere C slots low k body → ⊥))
    → Looked C slots low body old next k
looked_more C slots low body old now next done k e l (inl (insert, held)) = record {
  looked = λ j least most. elim (cases_eq j k) [
    | inl f ↦ record {
      splits = λ x. inr (subst (λ n. IsHeldHere C slots low n body) (sym f) held);
      stays = λ x. (insert j).stays (l.rest j (omega arith) ∙ x);
      joins = λ x. (insert j).joins f;
    }
    | inr f ↦
        let a = l.looked j least (omega arith) in
        record {
          splits = λ x. elim ((insert j).splits x) [ inl y ↦ a.splits y | inr y ↦ absurd (f y) ];
          stays = λ x. (insert j).stays (a.stays x);
          joins = λ x. (insert j).stays (a.joins x);
        }
  ];
  rest = λ j above. both_ways (has next j) (has now j) (λ x. elim ((insert j).splits x) [ inl y ↦ y | inr y ↦ absurd (omega arith) ]) (λ x. (insert j).stays x) ∙ l.rest j (omega arith);
}
looked_more C slots low body old now next done k e l (inr (same, none)) = record {
  looked = λ j least most. subst (λ (r : SiteSet). Adds (Has old j) (Has r j) (IsHeldHere C slots low j body)) (sym same) (elim (cases_eq j k) [
    | inl f ↦ record {
      splits = λ x. inl (sym (l.rest j (omega arith)) ∙ x);
      stays = λ x. l.rest j (omega arith) ∙ x;
      joins = λ x. absurd (none (subst (λ n. IsHeldHere C slots low n body) f x));
    }
    | inr f ↦ l.looked j least (omega arith)
  ]);
  rest = λ j above. ap (λ (r : SiteSet). has r j) same ∙ l.rest j (omega arith);
}

module _ (p : CheckedProgram) (h : IsChecked p) (units slots peers : List SiteSet) (n low : ℕ) (body : Term)
    (m : MayReach p.program units n body) (sites : ArePeers p.program p.program.sites peers) where
  abbrev D : Program
  D = p.program

  pub held_here : (used within : SiteSet) (k : ℕ) → (Has used k → IsTouched slots low k body) → ((j : ℕ) → Has within j → InBody D j body) → Has used
      k → Meets within (get_or peers (unit_for D k) no_set) k → IsHeldHere D slots low k body
  held_here used within k u v x y = record {
    other = y.other;
    differs = y.differs;
    same = sym ((sites.sets (unit_for D k) y.other).0 y.second).unit;
    touched = u x;
    reached = v y.other y.first;
  }

  pub held_meets : (within : SiteSet) (k : ℕ) → ((j : ℕ) → InBody D j body → Has within j) → IsHeldHere D slots low k body → Meets within (get_or peers (unit_for D k) no_set) k
  held_meets within k v x =
      let s = body_site p h units n x.other body m x.reached in
      record {
        other = x.other;
        differs = x.differs;
        first = v x.other x.reached;
        second = (sites.sets (unit_for D k) x.other).1 (record { least = s.least; most = s.most; unit = sym x.same });
      }

-- ---- what is in reach of a let's body

pub in_body_call : (C : Program) (k : ℕ) {X Y : Type 0} (f j : ℕ) (ts : Terms) → Adds X Y (ReachesIn C k ts) → Adds X Y (InBody C k (Call f j ts))
unfolding InBody
in_body_call C k f j ts x = x

pub in_body_other : (C : Program) (k : ℕ) {X Y : Type 0} (t : Term) → ((f j : ℕ) (ts : Terms) → t ≡ Call f j ts → ⊥) → Adds X Y (Reaches C k t) → Adds X Y (InBody C k t)
unfolding InBody
in_body_other C k (Const w) none x = x
in_body_other C k (Var i) none x = x
in_body_other C k (Op o ts) none x = x
in_body_other C k (If c a b) none x = x
in_body_other C k (Let ts b) none x = x
in_body_other C k (Call f j ts) none x = absurd (none f j ts refl)
in_body_other C k (Loop f ts) none x = x

pub in_body_const : (C : Program) (k : ℕ) {X : Type 0} (w : Word) → Adds X X (InBody C k (Const w))
unfolding InBody
in_body_const C k w = reach_const refl

pub in_body_var : (C : Program) (k : ℕ) {X : Type 0} (i : ℕ) → Adds X X (InBody C k (Var i))
unfolding InBody
in_body_var C k i = reach_var refl

pub not_if : {c a b : Term} {f j : ℕ} {ts : Terms} → If c a b ≡ Call f j ts → ⊥
not_if e = cc

pub not_let : {bs : Terms} {b : Term} {f j : ℕ} {ts : Terms} → Let bs b ≡ Call f j ts → ⊥
not_let e = cc

pub not_op : {o : Primitive} {bs : Terms} {f j : ℕ} {ts : Terms} → Op o bs ≡ Call f j ts → ⊥
not_op e = cc

pub not_loop : {h : ℕ} {bs : Terms} {f j : ℕ} {ts : Terms} → Loop h bs ≡ Call f j ts → ⊥
not_loop e = cc

pub body_reached : (p : CheckedProgram) → IsChecked p → (g k : ℕ) → g < p.program.functions → Reaches p.program k (p.program.body g) → IsSited p k
body_reached p h g k within r = reached_site p h k (λ a s. (site_of_body p h g a within s).0) r
