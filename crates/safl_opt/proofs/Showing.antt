-- Outputs that are shown one after another.
use Rattle.safl_opt.proofs.Common.{Folds, IsNetlist, IsTidy, Netlist, Sig, Signal, Values, get_some, is_temp, ltb-false, ltb-true, map_push}
use Rattle.safl_opt.proofs.Common.{name_in, option_map, refusal, sig_at, slice_get_within, take_next, with_output}
use Rattle.std.proofs.Common.{◌≡◌, ℕ, zero, suc, ◌+◌, ◌<◌, ◌≤◌, List, [], ◌∷◌, ◌++◌, map, length, take, Option, Some, None, Bool, true, false, nat_lt}
use Rattle.std.proofs.Common.{◌⊎◌, inl, inr, slice_get, refl, sym, ap, subst, ◌∙◌, arith}
use Rattle.std.proofs.Math.Seq.{take-length}
use Rattle.safl_net.proofs.Tidy.{tidy_output}
use Rattle.safl_opt.specs.Building.{IsRoot, shown, new_number, kept_signal, Builds}
use Rattle.safl_opt.specs.Stages.{Placed, SetBelow, HasName, AreNamed, Shown}
use Rattle.safl_opt.proofs.Coming.{kept_within}
use Rattle.safl_opt.proofs.Declaring.{no_refusal}
use Rattle.safl_opt.proofs.ListSteps.{mapped_few}

-- an output among the first ones
from_shown : (g : ℕ → ℕ) (os : List (List ℕ × ℕ)) (i j : ℕ) (o : List ℕ × ℕ) → slice_get (map (λ o. (o.0, g o.1)) (take i os)) j ≡ Some o →
    (p : List ℕ × ℕ) × (j < i) × (slice_get os j ≡ Some p) × (o.0 ≡ p.0)
from_shown g [] zero j o e = absurd (cc)
from_shown g [] (suc i) j o e = absurd (cc)
from_shown g (x ∷ os) zero j o e = absurd (cc)
from_shown g (x ∷ os) (suc i) zero o e = (x, omega arith, refl, (let q : (x.0, g x.1) ≡ o = cc in ap (λ (y : List ℕ × ℕ). y.0) (sym q)))
from_shown g (x ∷ os) (suc i) (suc j) o e = let r = from_shown g os i j o e in (r.0, (let a = r.1 in omega (arith, a)), r.2, r.3)

pub shown_none : (n : Netlist) (f : Values) (made : List Sig) (m : Netlist) → m.outputs ≡ [] → IsTidy m → Shown n f made m 0 m
shown_none n f made m e t = record { signals = refl; outputs = e; tidy = t }

module _ (n : Netlist) (kn : IsNetlist n) (tidy : IsTidy n) (f : Values) (made : List Sig) (first m : Netlist) (i : ℕ) (sh : Shown n f made first i m)
    (o : List ℕ × ℕ) (at : slice_get n.outputs i ≡ Some o) where
  pub output_free : AreNamed n first → refusal m o.0 ≡ None
  output_free names = no_refusal m o.0 (kn.outputs i o at).0 (record {
    signals = λ y g e q. elim (names y g (ap (λ l. slice_get l y) (sym sh.signals) ∙ e)) [
      | inl t ↦ absurd (let z = sym (tidy.outputs i o at) ∙ ap is_temp q ∙ t in cc)
      | inr k ↦ let s = get_some n.signals k.signal k.known in kn.between k.signal i s.0 o s.1 at (sym (ap name_in s.1) ∙ k.is ∙ sym q)
    ];
    outputs = λ j p e q.
        let r = from_shown (new_number f made) n.outputs i j p (ap (λ l. slice_get l j) (sym sh.outputs) ∙ e) in
        let one = kn.outputs_apart i j o r.0 at r.2 (q ∙ r.3) in
        let lt = r.1 in
        absurd (omega (arith, one, lt));
  })

  pub shown_next : (a : Netlist) (j t : ℕ) → j ≡ i + 1 → t ≡ new_number f made o.1 → a ≡ with_output m o.0 t → Shown n f made first j a
  shown_next a j t q u e = subst (λ k. Shown n f made first k a) (sym q) (subst (Shown n f made first (i + 1)) (sym (e ∙ ap (λ k. with_output m o.0 k) u)) (record {
    signals = sh.signals;
    outputs =
        ap (λ l. l ++ (o.0, new_number f made o.1) ∷ []) sh.outputs
        ∙ sym (ap (map (λ (p : List ℕ × ℕ). (p.0, new_number f made p.1))) (take_next n.outputs i o at) ∙ map_push (λ (p : List ℕ × ℕ). (p.0, new_number f made p.1)) (take i n.outputs) o);
    tidy = tidy_output m o.0 (new_number f made o.1) sh.tidy (tidy.outputs i o at);
  }))

-- what the next output shows
pub output_at : (n : Netlist) (i s : ℕ) → Some s ≡ option_map (λ (o : List ℕ × ℕ). o.1) (slice_get n.outputs i) → (o : List ℕ × ℕ) × (slice_get n.outputs i ≡ Some o) × (s ≡ o.1)
output_at n i s e = by (slice_get n.outputs i) refl e
  where
    by : (o : Option (List ℕ × ℕ)) → slice_get n.outputs i ≡ o → Some s ≡ option_map (λ (o : List ℕ × ℕ). o.1) o → (o : List ℕ × ℕ) × (slice_get n.outputs i ≡ Some o) × (s ≡ o.1)
    by None q h = absurd (cc)
    by (Some o) q h = (o, q, (cc))

pub output_called : (n : Netlist) (i : ℕ) (name : List ℕ) (o : List ℕ × ℕ) → slice_get n.outputs i ≡ Some o → Some name ≡ option_map (λ (o : List ℕ × ℕ). o.0) (slice_get n.outputs i) → name ≡ o.0
output_called n i name o q e = let z : Some name ≡ Some o.0 = e ∙ ap (option_map (λ (o : List ℕ × ℕ). o.0)) q in cc

pub output_root : (n : Netlist) (i s : ℕ) → Some s ≡ option_map (λ (o : List ℕ × ℕ). o.1) (slice_get n.outputs i) → IsRoot n s
output_root n i s e = let o = output_at n i s e in shown i o.0 o.1 (sym o.2)

pub few_shown : (n : Netlist) (f : Values) (made : List Sig) (first m : Netlist) (i : ℕ) → Shown n f made first i m → length m.outputs ≤ i
few_shown n f made first m i sh =
    let e = ap length sh.outputs in
    let a = mapped_few {A = List ℕ × ℕ} {B = List ℕ × ℕ} (λ (o : List ℕ × ℕ). (o.0, new_number f made o.1)) n.outputs i in
    omega (arith, e, a)

-- ---- the stages together

module _ (n : Netlist) (ws : List ℕ) (f : Values) (h : Folds n ws (length ws) f) (read : List Bool) (made : List Sig) (first mid m : Netlist)
    (p : Placed n f read (length f.nodes) made first) (b : SetBelow n f made first f.kept mid) where
  -- each signal has the name of one of n or a temporary's
  pub all_named : AreNamed n mid
  all_named y g e = by (nat_lt y f.kept) refl
    where
      by : (c : Bool) → nat_lt y f.kept ≡ c → (is_temp g.name ≡ true) ⊎ HasName n g.name
      by true q =
          let lt = ltb-true y f.kept q in
          let same : kept_signal n f made (sig_at f.signals.items y) ≡ g = (let z = sym (b.done y lt) ∙ e in cc) in
          inr (record { signal = sig_at f.signals.items y; known = kept_within n ws (length ws) f h y lt; is = ap (λ (x : Signal). x.name) same })
      by false q =
          let le = ltb-false y f.kept q in
          let was = sym (b.rest y le) ∙ e in
          let o = p.each y g was le in
          let t = p.nodes o.place o.node o.below o.at o.is_read in
          let same : t.signal ≡ g = (let z = sym t.there ∙ ap (slice_get first.signals) o.number ∙ was in cc) in
          inl (ap (λ (x : Signal). is_temp x.name) (sym same) ∙ t.is.name)

  pub builds : (i : ℕ) → i ≡ length n.outputs → Shown n f made mid i m → Builds n f read made m
  builds i e sh = record {
    own = p.own;
    kept = λ x lt. get x ∙ b.done x lt;
    nodes = λ j node at q.
        let t = p.nodes j node (slice_get_within f.nodes j node at) at q in
        (t.behind, (t.signal, get (sig_at made (f.kept + j)) ∙ b.rest (sig_at made (f.kept + j)) t.behind ∙ t.there, t.is));
    each = λ y g at le. let o = p.each y g (sym (get y ∙ b.rest y le) ∙ at) le in (o.place, o.node, o.at, o.is_read, o.number);
    once = λ i j a b ai bj qi qj. p.once i j (slice_get_within f.nodes i a ai) (slice_get_within f.nodes j b bj) qi qj;
    outputs = sh.outputs ∙ ap (map (λ (o : List ℕ × ℕ). (o.0, new_number f made o.1))) (ap (λ k. take k n.outputs) e ∙ take-length n.outputs);
  }
    where
      get : (y : ℕ) → slice_get m.signals y ≡ slice_get mid.signals y
      get y = ap (λ l. slice_get l y) sh.signals
