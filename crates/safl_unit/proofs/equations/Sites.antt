-- What a site shows, by its registers.
use Rattle.safl_unit.proofs.Common.{Builds, Choice, EachAt, IsSource, Netlist, Pins, Program, Returns, SitePins, SiteShown, UnitPins, Val}
use Rattle.safl_unit.proofs.Common.{Wired, Word, gate, get_some, on, pin, source_kept, unit_for}
use Rattle.std.proofs.Common.{◌≡◌, ℕ, zero, suc, ◌<◌, ◌≤◌, List, [], ◌∷◌, ◌++◌, length, slice_get, length-append, subst, Some, Bool, true, false, ◌&&◌, ◌||◌, not, cond, refl, sym, ap, ◌∙◌, arith}
use Rattle.safl_circuit.specs.Equations.{Registers, ret, on_wires, word_on}
use Rattle.safl_unit.specs.declared.returns.SiteReturn.{SiteReturn}
use Rattle.safl_lower.specs.Lowering.{returned_word, was_sent}
use Rattle.safl_unit.specs.Cycles.{UnitShows, SiteShows, InEachCycle}
use Rattle.safl_unit.specs.Stages.{PortFits, HasReturns}
use Rattle.safl_unit.proofs.equations.Keeping.{port_kept, cycle_before}
use Rattle.safl_unit.proofs.equations.Tables.{each_push, pin_get}

-- the kept word counts where the site keeps it alone
chosen : (kept late : Bool) (x y z : Word) → (kept ≡ true → x ≡ y) → cond (kept && late) x z ≡ cond (kept && late) y z
chosen true true x y z h = h refl
chosen true false x y z h = refl
chosen false late x y z h = refl

module _ (C : Program) (P : Choice) (v : Val) (r : Registers) (k : ℕ) (u : UnitPins) (s : SitePins) (x : SiteReturn)
    (h : SiteShown v (P.kept (suc k)) u s x) (a : UnitShows v u r (unit_for C (suc k))) (b : SiteShows P v s r (suc k)) where
  pub ret_shown : on v x.ret ≡ ret C r (suc k)
  ret_shown = h.ret ∙ ap (λ (q : Bool). q && (on v s.sent && not (on v s.got))) a.fin ∙ ap
      (λ (q : Bool). r.fin (unit_for C (suc k)) && (q && not (on v s.got))) b.sent ∙ ap (λ (q : Bool). r.fin (unit_for C (suc k)) && (r.sent (suc k) && not q)) b.got

  word_shown : v x.ports.value.0 ≡ word_on C P r (suc k)
  word_shown =
      h.value ∙ ap (λ (q : Bool). cond (P.kept (suc k) && not q) (v s.keep.0) (v u.res.0)) ret_shown ∙ ap (λ (w : Word). cond (P.kept (suc k) && not (ret C r (suc k))) (v s.keep.0) w) a.res
      ∙ chosen (P.kept (suc k)) (not (ret C r (suc k))) (v s.keep.0) (r.keep (suc k)) (r.res (unit_for C (suc k))) b.keep

  pub back_shown : gate (on v x.ports.returned) (Some (v x.ports.value.0)) ≡ on_wires C P r (suc k)
  back_shown =
      ap (λ (q : Bool). gate q (Some (v x.ports.value.0))) (h.returned ∙ ap (λ (q : Bool). q || on v x.ret) b.got ∙ ap (λ (q : Bool). r.got (suc k) || q) ret_shown)
      ∙ ap (λ (w : Word). gate (r.got (suc k) || ret C r (suc k)) (Some w)) word_shown

  pub sent_shown : on v x.ports.sent ≡ r.sent (suc k)
  sent_shown = h.sent ∙ b.sent

-- ---- the sites one by one

-- the sites up to number m, as far as they were made
pub record SoFar (C : Program) (P : Choice) (n : Netlist) (p : Pins) (s : Returns) (m : ℕ) : Type 0 where
  pub ret_length : length s.ret.items ≡ suc m
  pub ports_length : length s.ports.items ≡ suc m
  pub bits : EachAt s.ret.items (λ k x. 0 < k → IsSource n x 1)
  pub ports : EachAt s.ports.items (λ k q. 0 < k → PortFits n q (C.result (C.callee k)))
  pub delivers : InEachCycle C P n p (λ v r i. EachAt s.ret.items (λ k x. 0 < k → on v x ≡ ret C r k))
  pub backs : InEachCycle C P n p (λ v r i. EachAt s.ports.items (λ k q. 0 < k → gate (on v q.returned) (Some (v q.value.0)) ≡ on_wires C P r k))
  pub sents : InEachCycle C P n p (λ v r i. EachAt s.ports.items (λ k q. 0 < k → on v q.sent ≡ r.sent k))

-- the first entry counts for nothing
pub first_only : {A : Type 0} (xs : List A) (Q : ℕ → A → Type 0) → length xs ≡ 1 → EachAt xs (λ k x. 0 < k → Q k x)
first_only [] Q e i x h l = absurd (cc)
first_only (y ∷ xs) Q e zero x h l = absurd (omega (arith, l))
first_only (y ∷ []) Q e (suc i) x h l = absurd (cc)
first_only (y ∷ (z ∷ xs)) Q e (suc i) x h l = absurd (omega (arith, e))

pub none_so_far : (C : Program) (P : Choice) (n : Netlist) (p : Pins) (s : Returns) → length s.ret.items ≡ 1 → length s.ports.items ≡ 1 → SoFar C P n p s 0
none_so_far C P n p s a b = record {
  ret_length = a;
  ports_length = b;
  bits = first_only s.ret.items (λ k x. IsSource n x 1) a;
  ports = first_only s.ports.items (λ k q. PortFits n q (C.result (C.callee k))) b;
  delivers = λ v r i c. first_only s.ret.items (λ k x. on v x ≡ ret C r k) a;
  backs = λ v r i c. first_only s.ports.items (λ k q. gate (on v q.returned) (Some (v q.value.0)) ≡ on_wires C P r k) b;
  sents = λ v r i c. first_only s.ports.items (λ k q. on v q.sent ≡ r.sent k) b;
}

-- one more entry, of the next number
pub one_more : {A : Type 0} (xs ys : List A) (a : A) (m : ℕ) (Q : ℕ → A → Type 0) → length xs ≡ suc m → ys ≡ xs ++ a ∷ [] → EachAt xs Q → Q (suc m) a → EachAt ys Q
one_more xs ys a m Q l e all here = subst (λ (zs : List _). EachAt zs Q) (sym e) (each_push xs a Q all (subst (λ (k : ℕ). Q k a) (sym l) here))

pub longer : {A : Type 0} (xs ys : List A) (a : A) (m : ℕ) → length xs ≡ suc m → ys ≡ xs ++ a ∷ [] → length ys ≡ suc (suc m)
longer xs ys a m l e = let h = ap (λ (zs : List _). length zs) e in let k = length-append xs (a ∷ []) in omega (arith, h, k, l)

module _ (C : Program) (P : Choice) (a b : Netlist) (p : Pins) (s t : Returns) (m : ℕ) (u : UnitPins) (q : SitePins) (x : SiteReturn) (all : SoFar C P a p s m) (built : Builds a b 5)
    (at : slice_get p.bank.units.items (C.callee (suc m)) ≡ Some u) (own : slice_get p.bank.sites.items (suc m) ≡ Some q) (bit : IsSource b x.ret 1)
    (port : PortFits b x.ports (C.result (C.callee (suc m))))
    (shown : (v : Val) → Wired b v → SiteShown v (P.kept (suc m)) u q x) (rets : t.ret.items ≡ s.ret.items ++ x.ret ∷ []) (ports : t.ports.items ≡ s.ports.items ++ x.ports ∷ []) where
  pub more_so_far : SoFar C P b p t (suc m)
  more_so_far = record {
    ret_length = longer s.ret.items t.ret.items x.ret m all.ret_length rets;
    ports_length = longer s.ports.items t.ports.items x.ports m all.ports_length ports;
    bits = one_more s.ret.items t.ret.items x.ret m (λ k y. 0 < k → IsSource b y 1) all.ret_length rets (λ k y e l. source_kept built (all.bits k y e l)) (λ l. bit);
    ports = one_more s.ports.items t.ports.items x.ports m (λ k y. 0 < k → PortFits b y (C.result (C.callee k))) all.ports_length ports (λ k y e l. port_kept built (all.ports k y e l)) (λ l. port);
    delivers = λ v r i c. one_more s.ret.items t.ret.items x.ret m (λ k y. 0 < k → on v y ≡ ret C r k) all.ret_length rets (all.delivers v r i (cycle_before built c))
        (λ l. ret_shown C P v r m u q x (shown v c.wired) (c.bank.units (C.callee (suc m)) u at) (c.bank.sites (suc m) q own (omega arith)));
    backs = λ v r i c. one_more s.ports.items t.ports.items x.ports m (λ k y. 0 < k → gate (on v y.returned) (Some (v y.value.0)) ≡ on_wires C P r k)
        all.ports_length ports (all.backs v r i (cycle_before built c))
        (λ l. back_shown C P v r m u q x (shown v c.wired) (c.bank.units (C.callee (suc m)) u at) (c.bank.sites (suc m) q own (omega arith)));
    sents = λ v r i c. one_more s.ports.items t.ports.items x.ports m (λ k y. 0 < k → on v y.sent ≡ r.sent k) all.ports_length ports (all.sents v r i (cycle_before built c))
        (λ l. sent_shown C P v r m u q x (shown v c.wired) (c.bank.units (C.callee (suc m)) u at) (c.bank.sites (suc m) q own (omega arith)));
  }

pub all_returns : (C : Program) (P : Choice) (n : Netlist) (p : Pins) (s : Returns) → SoFar C P n p s C.sites → HasReturns C P n p s
all_returns C P n p s h =
    let there = λ (k : ℕ) (l : k ≤ C.sites). pin_get s.ret.items k (let e = h.ret_length in omega (arith, e, l)) in
    let port = λ (k : ℕ) (l : k ≤ C.sites). get_some s.ports.items k (let e = h.ports_length in omega (arith, e, l)) in
    record {
      fits = record {
        ret_length = h.ret_length;
        ports_length = h.ports_length;
        ret = λ k o l. h.bits k (pin s.ret.items k) (there k l) o;
        port = λ k q o l e. h.ports k q e o;
      };
      shows = λ v r i c. record {
        ret = λ k o l. h.delivers v r i c k (pin s.ret.items k) (there k l) o;
        back = λ k o l. let g = port k l in ap (returned_word v) g.1 ∙ h.backs v r i c k g.0 g.1 o;
        sent = λ k o l. let g = port k l in ap (was_sent v) g.1 ∙ h.sents v r i c k g.0 g.1 o;
      };
    }
