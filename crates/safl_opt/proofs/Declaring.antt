-- Signals that are declared one after another.
use Rattle.safl_opt.proofs.Common.{Declared, Folds, IsNetlist, Netlist, Signal, Values, cases_eq, sig_at, slice_get_within}
use Rattle.std.proofs.Common.{◌≡◌, ℕ, ◌+◌, ◌<◌, List, [], ◌∷◌, ◌++◌, length, length-append, Some, None, true}
use Rattle.std.proofs.Common.{false, cond, inl, inr, slice_get, sym, ap, subst, ◌∙◌, arith}
use Rattle.safl_word.proofs.Lists.{get_end, get_in_front, get_some}
use Rattle.safl_net.specs.declared.net.NetErr.TheVariants.{NameTaken, BadName}
use Rattle.safl_net.specs.Names.{is_good, has_name, is_temp, IsTidy}
use Rattle.safl_net.specs.Making.{name_in, name_at, refusal, with_signal}
use Rattle.safl_net.proofs.Naming.{Unnamed, has_no_name}
use Rattle.safl_opt.specs.Building.{open_signal}
use Rattle.safl_opt.proofs.Coming.{kept_get, kept_within}
use Rattle.safl_opt.proofs.Adding.{kept_lasts}
use Rattle.safl_opt.proofs.Starting.{kept_once}
use Rattle.safl_opt.proofs.TempNames.{not_temp}

-- a name that is good and that nothing has is not refused
pub no_refusal : (m : Netlist) (name : List ℕ) → is_good name ≡ true → Unnamed m name → refusal m name ≡ None
no_refusal m name good u =
    ap (λ b. cond b (cond (has_name m name) (Some NameTaken) None) (Some BadName)) good ∙ ap (λ b. cond b (Some NameTaken) None) (has_no_name m name u)

pub declared_none : (n : Netlist) (f : Values) (m : Netlist) → m ≡ record { signals = []; outputs = [] } → Declared n f 0 m
declared_none n f m e = record {
  long = ap (λ (x : Netlist). length x.signals) e;
  each = λ x lt. absurd (omega (arith, lt));
  outputs = ap (λ (x : Netlist). x.outputs) e;
}

module _ (n : Netlist) (kn : IsNetlist n) (ws : List ℕ) (f : Values) (h : Folds n ws (length ws) f) where
  -- the signals that are kept have names apart
  names_apart : (x y : ℕ) → x < f.kept → y < f.kept → name_at n (sig_at f.signals.items x) ≡ name_at n (sig_at f.signals.items y) → x ≡ y
  names_apart x y lx ly e =
      let s = sig_at f.signals.items x in
      let t = sig_at f.signals.items y in
      let g = get_some n.signals s (kept_within n ws (length ws) f h x lx) in
      let k = get_some n.signals t (kept_within n ws (length ws) f h y ly) in
      let same : s ≡ t = kn.apart s t g.0 k.0 g.1 k.1 (sym (ap name_in g.1) ∙ e ∙ ap name_in k.1) in
      kept_once n x y s (kept_get n ws (length ws) f h x lx) (kept_get n ws (length ws) f h y ly ∙ ap Some (sym same))

  pub free_next : (m : Netlist) (i s : ℕ) → Declared n f i m → i < f.kept → s ≡ sig_at f.signals.items i → refusal m (name_at n s) ≡ None
  free_next m i s d lt e = subst (λ z. refusal m (name_at n z) ≡ None) (sym e) here
    where
      here : refusal m (name_at n (sig_at f.signals.items i)) ≡ None
      here =
          let g = get_some n.signals (sig_at f.signals.items i) (kept_within n ws (length ws) f h i lt) in
          no_refusal m (name_at n (sig_at f.signals.items i)) (ap (λ o. is_good (name_in o)) g.1 ∙ (kn.signals (sig_at f.signals.items i) g.0 g.1).good) (record {
            signals = λ y k at q.
                let low : y < i = let a = slice_get_within m.signals y k at in let b = d.long in omega (arith, a, b) in
                let same : k ≡ open_signal n (sig_at f.signals.items y) = (let z = sym at ∙ d.each y low in cc) in
                let one = names_apart i y lt (omega (arith, low, lt)) (q ∙ ap (λ (x : Signal). x.name) same) in
                absurd (omega (arith, one, low));
            outputs = λ j o at q. absurd (let z = ap (λ l. slice_get l j) (sym d.outputs) ∙ at in cc);
          })

  pub declared_next : (m a : Netlist) (i j s : ℕ) → j ≡ i + 1 → Declared n f i m → s ≡ sig_at f.signals.items i → a ≡ with_signal m (open_signal n s) → Declared n f j a
  declared_next m a i j s q d e is = subst (λ k. Declared n f k a) (sym q) (subst (Declared n f (i + 1)) (sym (is ∙ ap (λ z. with_signal m (open_signal n z)) e)) (record {
    long = let b = length-append m.signals (open_signal n (sig_at f.signals.items i) ∷ []) in let c = d.long in omega (arith, b, c);
    each = λ x lt. elim (cases_eq x i) [
      | inl one ↦
          ap (λ k. slice_get (m.signals ++ open_signal n (sig_at f.signals.items i) ∷ []) k) (one ∙ sym d.long)
          ∙ get_end m.signals (open_signal n (sig_at f.signals.items i)) ∙ ap (λ k. Some (open_signal n (sig_at f.signals.items k))) (sym one)
      | inr ne ↦
          let low : x < i = omega (arith, lt, ne) in
          get_in_front m.signals (open_signal n (sig_at f.signals.items i) ∷ []) x (let b = d.long in omega (arith, low, b)) ∙ d.each x low
    ];
    outputs = d.outputs;
  }))

  -- no temporary is among them
  pub kept_named : IsTidy n → (x : ℕ) → x < f.kept → is_temp (name_at n (sig_at f.signals.items x)) ≡ false
  kept_named tidy x lt =
      let s = sig_at f.signals.items x in
      let g = get_some n.signals s (kept_within n ws (length ws) f h x lt) in
      ap (λ o. is_temp (name_in o)) g.1 ∙ not_temp n kn tidy s g.0 g.1 (kept_lasts n x s (kept_get n ws (length ws) f h x lt))

  pub declared_tidy : IsTidy n → (m : Netlist) → Declared n f f.kept m → IsTidy m
  declared_tidy tidy m d = record {
    signals = λ y k at temp.
        let low : y < f.kept = let a = slice_get_within m.signals y k at in let b = d.long in omega (arith, a, b) in
        let same : k ≡ open_signal n (sig_at f.signals.items y) = (let z = sym at ∙ d.each y low in cc) in
        absurd (let z = sym temp ∙ ap (λ (x : Signal). is_temp x.name) same ∙ kept_named tidy y low in cc);
    outputs = λ j o at. absurd (let z = ap (λ l. slice_get l j) (sym d.outputs) ∙ at in cc);
  }
