-- The signals of the net that is built stand for those of the net of which the values are.
use Rattle.safl_opt.proofs.Common.{Different, Folds, IsNetlist, IsOrder, IsTemporary, IsTidy, KindFits, Sig, SigKind, Val, Values, Wired}
use Rattle.safl_opt.proofs.Common.{bool_at, is_numbered, is_temp, ltb-false, ltb-true, sig_at, slice_get_within}
use Rattle.std.proofs.Common.{◌≡◌, ℕ, suc, ◌+◌, ◌-◌, ◌<◌, List, [], ◌∷◌, map, length, Some}
use Rattle.std.proofs.Common.{None, Bool, true, false, cond, nat_lt, bytes_eq, ◌⊎◌, inl, inr, ⊎_elim, slice_get, refl, sym, ap}
use Rattle.std.proofs.Common.{subst, ◌∙◌}
use Rattle.safl_net.specs.Netlist.{Netlist, Signal, Kind, Input, Reg, Wire, IsSet, AllSet, width_in, output_place}
use Rattle.safl_net.specs.Making.{kind_in, kind_at, name_in, sort_of}
use Rattle.safl_opt.specs.Building.{IsRoot, shown, kept, AreRead, AreNeeded, new_number, new_kind, kept_signal, IsNodeOf, Builds}
use Rattle.safl_opt.proofs.Coming.{kept_get}
use Rattle.safl_opt.proofs.TempNames.{numbered_temp, not_temp}
use Rattle.safl_opt.proofs.Adding.{kept_lasts}
use Rattle.safl_opt.proofs.Built.{HasSignal, back, kept_back, kept_is, kept_old, root_has, root_word, wired}
use Rattle.safl_opt.proofs.Leaning.{kept_number}
use Rattle.safl_opt.proofs.Standing.{SameSort, StandsFor, OutputStands, Stands}

module _ (n : Netlist) (made_n : IsNetlist n) (ws : List ℕ) (order : IsOrder n ws) (f : Values) (h : Folds n ws (length ws) f) (read : List Bool)
    (marks : AreRead n f read) (made : List Sig) (m : Netlist) (b : Builds n f read made m) (needed : AreNeeded n f read)
    (different : Different f.nodes) (tidy : IsTidy n) where
  abbrev bk : ℕ → ℕ
  bk = back n made_n ws order f h read marks made m b

  abbrev fore : ℕ → ℕ
  fore s = sig_at f.ids.items s

  pub lasts : (s : ℕ) (g : Signal) → slice_get n.signals s ≡ Some g → is_temp g.name ≡ false → ¬ IsTemporary n s
  lasts s g e q t = let a = numbered_temp g.name (sym (ap (λ o. is_numbered (name_in o)) e) ∙ t.name) in absurd (cc)

  pub no_temp : (s : ℕ) (g : Signal) → slice_get n.signals s ≡ Some g → ¬ IsTemporary n s → is_temp g.name ≡ false
  no_temp s g e no_t = not_temp n made_n tidy s g e no_t

  same_sort : (k : Kind) → SameSort k (new_kind f made k)
  same_sort Input = tt
  same_sort (Reg init None) = refl
  same_sort (Reg init (Some t)) = refl
  same_sort (Wire None) = tt
  same_sort (Wire (Some c)) = tt

  -- a signal of m that is kept
  kept_stands : (y s : ℕ) (g : Signal) → y < f.kept → sig_at f.signals.items y ≡ s → slice_get n.signals s ≡ Some g → StandsFor n m s y g (kept_signal n f made s)
  kept_stands y s g lt e there = record {
    old = there;
    new = b.kept y lt ∙ ap (λ t. Some (kept_signal n f made t)) e;
    name = ap name_in there;
    width = ap width_in there;
    sort = subst (λ k. SameSort g.kind (new_kind f made k)) (sym (ap kind_in there)) (same_sort g.kind);
  }

  -- what is no wire, or is named, is kept
  pub is_kept : (y : ℕ) (g : Signal) → slice_get m.signals y ≡ Some g → (is_temp g.name ≡ false) ⊎ (¬ (sort_of g.kind ≡ SigKind.Wire)) → y < f.kept
  is_kept y g e q = by (nat_lt y f.kept) refl
    where
      by : (c : Bool) → nat_lt y f.kept ≡ c → y < f.kept
      by true p = ltb-true y f.kept p
      by false p =
          let r = b.each y g e (ltb-false y f.kept p) in
          let there = (b.nodes r.0 r.1 r.2 r.3).1 in
          let same : there.0 ≡ g = (let z = sym there.1 ∙ ap (slice_get m.signals) r.4 ∙ e in cc) in
          let is = subst (IsNodeOf n f made (f.kept + r.0) r.1) same there.2 in
          absurd (⊎_elim (λ a. let z = sym a ∙ is.name in cc) (λ c. c (ap sort_of is.kind)) q)

  old_stands : (s : ℕ) (g : Signal) → slice_get n.signals s ≡ Some g → is_temp g.name ≡ false → (u : Signal) × StandsFor n m s (fore s) g u × (bk (fore s) ≡ s)
  old_stands s g e q =
      let k = kept_number n made_n ws order f h read marks made m b needed different s (slice_get_within n.signals s g e) (lasts s g e q) in
      let id : fore s ≡ k.0 = ap fore (sym k.2) ∙ h.own k.0 k.1 in (
        kept_signal n f made s,
        subst (λ y. StandsFor n m s y g (kept_signal n f made s)) (sym id) (kept_stands k.0 s g k.1 k.2 e),
        ap bk id ∙ kept_back n made_n ws order f h read marks made m b k.0 k.1 ∙ k.2,
      )

  new_stands : (y : ℕ) (u : Signal) → slice_get m.signals y ≡ Some u → is_temp u.name ≡ false → (g : Signal) × StandsFor n m (bk y) y g u × (fore (bk y) ≡ y)
  new_stands y u e q =
      let lt = is_kept y u e (inl q) in
      let g = kept_old n made_n ws order f h read marks made m b y lt in
      let here : bk y ≡ sig_at f.signals.items y = kept_back n made_n ws order f h read marks made m b y lt in
      let same : u ≡ kept_signal n f made (sig_at f.signals.items y) = kept_is n made_n ws order f h read marks made m b y u e lt in (
        g.0,
        subst (λ s. StandsFor n m s y g.0 u) (sym here) (subst (λ x. StandsFor n m (sig_at f.signals.items y) y g.0 x) (sym same) (kept_stands y (sig_at f.signals.items y) g.0 lt refl g.1)),
        ap fore here ∙ h.own y lt,
      )

  kept_no_temp : (y : ℕ) (u : Signal) → slice_get m.signals y ≡ Some u → y < f.kept → is_temp u.name ≡ false
  kept_no_temp y u e lt =
      let s = sig_at f.signals.items y in
      let g = kept_old n made_n ws order f h read marks made m b y lt in
      let same : u ≡ kept_signal n f made s = kept_is n made_n ws order f h read marks made m b y u e lt in
      ap (λ (x : Signal). is_temp x.name) same ∙ ap (λ o. is_temp (name_in o)) g.1 ∙ no_temp s g.0 g.1 (kept_lasts n y s (kept_get n ws (length ws) f h y lt))

  pub has_within : (x : ℕ) → HasSignal n made_n ws order f h read marks made m b x → sig_at made x < length m.signals
  has_within x (inl lt) = slice_get_within m.signals (sig_at made x) _ (ap (slice_get m.signals) (b.own x lt) ∙ b.kept x lt)
  has_within x (inr r) = slice_get_within m.signals (sig_at made x) _ (ap (λ z. slice_get m.signals (sig_at made z)) r.4 ∙ (b.nodes r.0 r.1 r.2 (ap (bool_at read) (sym r.4) ∙ r.3)).1.1)

  root_stands : (t : ℕ) → t < length n.signals → IsRoot n t → (new_number f made t < length m.signals) × ((v : Val) → Wired n v → v (bk (new_number f made t)) ≡ v t)
  root_stands t lt r = (has_within (sig_at f.ids.items t) (root_has n made_n ws order f h read marks made m b t lt r), root_word n made_n ws order f h read marks made m b t lt r)

  next_stands : (y i j t u : ℕ) (g x : Signal) → StandsFor n m (bk y) y g x → g.kind ≡ Reg i (Some t) → x.kind ≡ Reg j (Some u) → (u < length m.signals) × ((v : Val) → Wired n v → v (bk u) ≡ v t)
  next_stands y i j t u g x r eg ex =
      let lt = is_kept y x r.new (inr (λ z. let q = sym (ap sort_of ex) ∙ z in cc)) in
      let here : bk y ≡ sig_at f.signals.items y = kept_back n made_n ws order f h read marks made m b y lt in
      let same : x ≡ kept_signal n f made (sig_at f.signals.items y) = kept_is n made_n ws order f h read marks made m b y x r.new lt in
      let kind : kind_at n (bk y) ≡ Reg i (Some t) = ap kind_in r.old ∙ eg in
      let made_kind : Reg i (Some (new_number f made t)) ≡ Reg j (Some u) = sym (ap (new_kind f made) (sym (ap (kind_at n) here) ∙ kind)) ∙ sym (ap (λ (z : Signal). z.kind) same) ∙ ex in
      let number : new_number f made t ≡ u = cc in
      let known : t < length n.signals = (subst (KindFits n g.width) eg (made_n.signals (bk y) g r.old).kind).1 in
      let k = root_stands t known (kept (bk y) i kind) in
      (subst (λ z. z < length m.signals) number k.0, λ v w. ap (λ z. v (bk z)) (sym number) ∙ k.1 v w)

  outputs_stand : (name : List ℕ) → OutputStands n m bk name (output_place n.outputs name) (output_place m.outputs name)
  outputs_stand name = subst (λ os. OutputStands n m bk name (output_place n.outputs name) (output_place os name)) (sym b.outputs)
      (by n.outputs (λ i o e. root_stands o.1 (made_n.outputs i o e).1 (shown i o e refl)))
    where
      by : (os : List (List ℕ × ℕ)) → ((i : ℕ) (o : List ℕ × ℕ) → slice_get os i ≡ Some o → (new_number f made o.1 < length m.signals) ×
          ((v : Val) → Wired n v → v (bk (new_number f made o.1)) ≡ v o.1))
          → OutputStands n m bk name (output_place os name) (output_place (map (λ (o : List ℕ × ℕ). (o.0, new_number f made o.1)) os) name)
      by [] k = tt
      by (o ∷ os) k = one (bytes_eq o.0 name) (k 0 o refl) (by os (λ i x e. k (suc i) x e))
        where
          one : (c : Bool) → (new_number f made o.1 < length m.signals) × ((v : Val) → Wired n v → v (bk (new_number f made o.1)) ≡ v o.1)
              → OutputStands n m bk name (output_place os name) (output_place (map (λ (o : List ℕ × ℕ). (o.0, new_number f made o.1)) os) name)
              → OutputStands n m bk name (cond c (Some o.1) (output_place os name))
              (cond c (Some (new_number f made o.1)) (output_place (map (λ (o : List ℕ × ℕ). (o.0, new_number f made o.1)) os) name))
          one true p q = p
          one false p q = q

  pub stands : Stands n m bk fore
  stands = record {
    wired = wired n made_n ws order f h read marks made m b;
    old = old_stands;
    new = new_stands;
    lasting = λ y i q u e is. kept_no_temp y u e (is_kept y u e (inr (λ z. let t = sym (ap sort_of is) ∙ z in cc)));
    inputs = λ y u e is. kept_no_temp y u e (is_kept y u e (inr (λ z. let t = sym (ap sort_of is) ∙ z in cc)));
    next = next_stands;
    outputs = outputs_stand;
  }

  -- ---- all is set

  new_set : (k : Kind) → IsSet k → IsSet (new_kind f made k)
  new_set Input q = tt
  new_set (Reg init None) q = absurd q
  new_set (Reg init (Some t)) q = tt
  new_set (Wire None) q = absurd q
  new_set (Wire (Some c)) q = tt

  pub all_set : AllSet m
  all_set y u e = by (nat_lt y f.kept) refl
    where
      by : (c : Bool) → nat_lt y f.kept ≡ c → IsSet u.kind
      by true q =
          let lt = ltb-true y f.kept q in
          let s = sig_at f.signals.items y in
          let g = kept_old n made_n ws order f h read marks made m b y lt in
          let same : u ≡ kept_signal n f made s = kept_is n made_n ws order f h read marks made m b y u e lt in
          subst (λ (x : Signal). IsSet x.kind) (sym same) (new_set (kind_at n s) (subst IsSet (sym (ap kind_in g.1)) (order.set s g.0 g.1)))
      by false q =
          let r = b.each y u e (ltb-false y f.kept q) in
          let there = (b.nodes r.0 r.1 r.2 r.3).1 in
          let same : there.0 ≡ u = (let z = sym there.1 ∙ ap (slice_get m.signals) r.4 ∙ e in cc) in
          let is = subst (IsNodeOf n f made (f.kept + r.0) r.1) same there.2 in
          subst IsSet (sym is.kind) tt
