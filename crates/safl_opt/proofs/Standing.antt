-- A net whose signals each stand for one of another net mirrors that net.
use Rattle.safl_opt.proofs.Common.{IsNetlist, Word, get_some, is_temp, map_at, name_at, name_in, place_of, slice_get_within}
use Rattle.std.proofs.Common.{◌≡◌, ℕ, zero, suc, ◌+◌, ◌<◌, ◌^◌, List, [], ◌∷◌, length, Option, Some, None, Bool, true, false, cond, bytes_eq}
use Rattle.std.proofs.Common.{slice_get, slice_index, refl, sym, ap, subst, ◌∙◌, arith}
use Rattle.std.proofs.lemmas.Nat.{pow_pos}
use Rattle.std.proofs.lemmas.Slice.Eq.{bytes_eq-Decides}
use Rattle.safl_word.proofs.Words.{word_eq}
use Rattle.safl_net.specs.Netlist.{Netlist, Signal, Kind, Input, Reg, Wire, Cell, IsSet, AllSet, width_in, place, output_place}
use Rattle.safl_net.specs.Laws.{FitWidths, OneFits}
use Rattle.safl_net.specs.Valuations.{Valuation, Holds, Fits, IsAcyclic, signal_word, cell_word, number_at, read, read_next, read_output, next_at, next_number, kind_next}
use Rattle.safl_net.specs.Growth.{Val, KindHolds, Wired}
use Rattle.safl_net.proofs.CellWords.{wired_shown}
use Rattle.safl_net.proofs.OneValuation.{one_valuation}
use Rattle.safl_net.proofs.Existence.{exactly_one}
use Rattle.safl_opt.proofs.Adding.{operand_known}
use Rattle.safl_net.proofs.Twins.{own}
use Rattle.safl_net.specs.Mirrors.{IsCycle, ShowsCycle, Mirrors}

-- ---- a list of numbers for a table of words

abbrev pub table : Val → ℕ → List Signal → Valuation
table v i [] = []
table v i (g ∷ gs) = (v i).bits ∷ table v (suc i) gs

table_length : (v : Val) (i : ℕ) (gs : List Signal) → length (table v i gs) ≡ length gs
table_length v i [] = refl
table_length v i (g ∷ gs) = ap suc (table_length v (suc i) gs)

table_at : (v : Val) (i : ℕ) (gs : List Signal) (s : ℕ) → s < length gs → slice_index (table v i gs) s ≡ (v (i + s)).bits
table_at v i [] s h = absurd (omega (arith, h))
table_at v i (g ∷ gs) zero h = ap (λ (k : ℕ). (v k).bits) (let q : i ≡ i + 0 = omega arith in q)
table_at v i (g ∷ gs) (suc s) h = table_at v (suc i) gs s (omega (arith, h)) ∙ ap (λ (k : ℕ). (v k).bits) (let q : suc i + s ≡ i + suc s = omega arith in q)

-- ---- names that are looked up

record Placed (gs : List Signal) (name : List ℕ) (i k : ℕ) : Type 0 where
  pub number : ℕ
  pub is : k ≡ i + number
  pub signal : Signal
  pub there : slice_get gs number ≡ Some signal
  pub named : signal.name ≡ name

placed : (gs : List Signal) (name : List ℕ) (i k : ℕ) → place gs name i ≡ Some k → Placed gs name i k
unfolding place
placed [] name i k e = absurd (cc)
placed (g ∷ gs) name i k e = by (bytes_eq g.name name) refl e (λ h. placed gs name (suc i) k h)
  where
    by : (b : Bool) → bytes_eq g.name name ≡ b → cond b (Some i) (place gs name (suc i)) ≡ Some k → (place gs name (suc i) ≡ Some k → Placed gs name (suc i) k) → Placed (g ∷ gs) name i k
    by true q h f = let p : i ≡ k = cc in record { number = 0; is = omega (arith, p); signal = g; there = refl; named = (bytes_eq-Decides g.name name).0 q }
    by false q h f = let r = f h in let p = r.is in record { number = suc r.number; is = omega (arith, p); signal = r.signal; there = r.there; named = r.named }

pub found : (n : Netlist) (name : List ℕ) (k : ℕ) → place n.signals name 0 ≡ Some k → (g : Signal) × (slice_get n.signals k ≡ Some g) × (g.name ≡ name)
found n name k e =
    let r = placed n.signals name 0 k e in
    let p : r.number ≡ k = let q = r.is in omega (arith, q) in
    (r.signal, ap (slice_get n.signals) (sym p) ∙ r.there, r.named)

-- ---- signals that stand for others

-- both are inputs, or registers with one number at reset, or wires
abbrev pub SameSort : Kind → Kind → Type 0
SameSort Input Input = Unit {0}
SameSort (Reg i p) (Reg j q) = i ≡ j
SameSort (Wire c) (Wire d) = Unit {0}
SameSort Input (Reg j q) = ⊥
SameSort Input (Wire d) = ⊥
SameSort (Reg i p) Input = ⊥
SameSort (Reg i p) (Wire d) = ⊥
SameSort (Wire c) Input = ⊥
SameSort (Wire c) (Reg j q) = ⊥

-- one signal of m stands for one of n
pub record StandsFor (n m : Netlist) (s y : ℕ) (g h : Signal) : Type 0 where
  pub old : slice_get n.signals s ≡ Some g
  pub new : slice_get m.signals y ≡ Some h
  pub name : h.name ≡ g.name
  pub width : h.width ≡ g.width
  pub sort : SameSort g.kind h.kind

-- the output of a name is in neither, or its signals have one word
abbrev pub OutputStands : Netlist → Netlist → (ℕ → ℕ) → List ℕ → Option ℕ → Option ℕ → Type 0
OutputStands n m back name None None = Unit {0}
OutputStands n m back name None (Some u) = ⊥
OutputStands n m back name (Some t) None = ⊥
OutputStands n m back name (Some t) (Some u) = (u < length m.signals) × ((v : Val) → Wired n v → v (back u) ≡ v t)

-- y of m stands for back y of n, and each s of n that is not temporary has fore s of m that stands for it. Each valuation
-- of n gives one of m in which each signal has the word of that for which it stands
pub record Stands (n m : Netlist) (back fore : ℕ → ℕ) : Type 0 where
  pub wired : (v : Val) → Wired n v → Wired m (λ y. v (back y))
  pub old : (s : ℕ) (g : Signal) → slice_get n.signals s ≡ Some g → is_temp g.name ≡ false → (h : Signal) × StandsFor n m s (fore s) g h × (back (fore s) ≡ s)
  pub new : (y : ℕ) (h : Signal) → slice_get m.signals y ≡ Some h → is_temp h.name ≡ false → (g : Signal) × StandsFor n m (back y) y g h × (fore (back y) ≡ y)
  pub lasting : (y i : ℕ) (q : Option ℕ) (h : Signal) → slice_get m.signals y ≡ Some h → h.kind ≡ Reg i q → is_temp h.name ≡ false
  pub inputs : (y : ℕ) (h : Signal) → slice_get m.signals y ≡ Some h → h.kind ≡ Input → is_temp h.name ≡ false
  pub next : (y i j t u : ℕ) (g h : Signal) → StandsFor n m (back y) y g h → g.kind ≡ Reg i (Some t) → h.kind ≡ Reg j (Some u) → (u < length m.signals) × ((v : Val) → Wired n v → v (back u) ≡ v t)
  pub outputs : (name : List ℕ) → OutputStands n m back name (output_place n.outputs name) (output_place m.outputs name)

module _ (n m : Netlist) (kn : IsNetlist n) (km : IsNetlist m) (set_n : AllSet n) (set_m : AllSet m) (ac_n : IsAcyclic n) (ac_m : IsAcyclic m)
    (back fore : ℕ → ℕ) (st : Stands n m back fore) (w : Valuation) (fw : IsCycle m w) where
  -- the state and the inputs of the cycle, by the numbers of n
  abbrev shown : ℕ → ℕ
  shown s = cond (is_temp (name_at n s)) 0 (slice_index w (fore s))

  power_some : (k : ℕ) → 0 < 2 ^ k
  power_some k = pow_pos k

  shown_fits : FitWidths n shown
  shown_fits s g e = by (is_temp g.name) refl
    where
      named : is_temp (name_at n s) ≡ is_temp g.name
      named = ap (λ o. is_temp (name_in o)) e

      by : (b : Bool) → is_temp g.name ≡ b → shown s < 2 ^ g.width
      by true q = subst (λ b. cond b 0 (slice_index w (fore s)) < 2 ^ g.width) (sym (named ∙ q)) (power_some g.width)
      by false q =
          let r = st.old s g e q in
          subst (λ b. cond b 0 (slice_index w (fore s)) < 2 ^ g.width) (sym (named ∙ q))
          (subst (λ k. slice_index w (fore s) < 2 ^ k) r.1.width ((fw.each (fore s) r.0 r.1.new).0))

  shown_at : (y : ℕ) (h : Signal) → slice_get m.signals y ≡ Some h → is_temp h.name ≡ false → shown (back y) ≡ slice_index w y
  shown_at y h e q =
      let r = st.new y h e q in
      ap (λ o. cond (is_temp (name_in o)) 0 (slice_index w (fore (back y)))) r.1.old
      ∙ ap (λ b. cond b 0 (slice_index w (fore (back y)))) (ap is_temp (sym r.1.name) ∙ q)
      ∙ ap (slice_index w) r.2

  abbrev one : (v : Valuation) × OneFits n shown shown v
  one = exactly_one n kn set_n ac_n shown shown shown_fits shown_fits

  abbrev old : Valuation
  old = one.0

  abbrev word : Val
  word s = signal_word n old s

  wired_old : Wired n word
  wired_old = wired_shown n shown old kn one.1.fits

  wired_new : Wired m (λ y. word (back y))
  wired_new = st.wired word wired_old

  abbrev made : Valuation
  made = table (λ y. word (back y)) 0 m.signals

  made_at : (y : ℕ) → y < length m.signals → slice_index made y ≡ (word (back y)).bits
  made_at y h = table_at (λ y. word (back y)) 0 m.signals y h ∙ ap (λ (k : ℕ). (word (back k)).bits) (let q : 0 + y ≡ y = omega arith in q)

  made_word : (y : ℕ) (h : Signal) → slice_get m.signals y ≡ Some h → signal_word m made y ≡ word (back y)
  made_word y h e = word_eq (signal_word m made y) (word (back y)) (ap width_in e ∙ sym (wired_new.each y h e).width) (made_at y (slice_get_within m.signals y h e))

  -- what the register or input shows
  old_at : (y : ℕ) (g h : Signal) → StandsFor n m (back y) y g h → (k : Kind) → g.kind ≡ k → SameSort k h.kind → (c : ℕ) →
      ((d : Option Cell) → h.kind ≡ Wire d → ⊥) → slice_index old (back y) ≡ shown (back y)
  old_at y g h r Input is sort c never = one.1.inputs (back y) g r.old is
  old_at y g h r (Reg i p) is sort c never = subst (λ k. Holds n old (shown (back y)) (slice_index old (back y)) k) is (one.1.fits.each (back y) g r.old).1
  old_at y g h r (Wire d) is sort c never = absurd (wires h.kind refl sort)
    where
      wires : (k : Kind) → h.kind ≡ k → SameSort (Wire d) k → ⊥
      wires Input q s = s
      wires (Reg j p) q s = s
      wires (Wire d) q s = never d q

  state_at : (y : ℕ) (h : Signal) → slice_get m.signals y ≡ Some h → is_temp h.name ≡ false → ((d : Option Cell) → h.kind ≡ Wire d → ⊥) → slice_index made y ≡ slice_index w y
  state_at y h e q never =
      let r = st.new y h e q in
      made_at y (slice_get_within m.signals y h e) ∙ old_at y r.0 h r.1 r.0.kind refl r.1.sort 0 never ∙ shown_at y h e q

  holds : (y : ℕ) (h : Signal) (k : Kind) → slice_get m.signals y ≡ Some h → h.kind ≡ k → KindHolds (λ y. word (back y)) (word (back y)) k → Holds m made (slice_index w y) (slice_index made y) k
  holds y h Input e is q = tt
  holds y h (Reg i p) e is q = state_at y h e (st.lasting y i p h e is) (λ d z. let t = sym is ∙ z in absurd (cc))
  holds y h (Wire None) e is q = tt
  holds y h (Wire (Some c)) e is q =
      made_at y (slice_get_within m.signals y h e)
      ∙ ap (λ (x : Word). x.bits) q
      ∙ ap (λ l. (cell_word c.op l).bits) (sym (map_at (signal_word m made) (λ y. word (back y)) c.operands (λ i t o. by t (operand i t o))))
    where
      operand : (i t : ℕ) → slice_get c.operands i ≡ Some t → t < length m.signals
      operand i t o = operand_known m y h c i t km e is o

      by : (t : ℕ) → t < length m.signals → signal_word m made t ≡ word (back t)
      by t lt = let s = get_some m.signals t lt in made_word t s.0 s.1

  made_fits : Fits m (slice_index w) made
  made_fits = record {
    full = table_length (λ y. word (back y)) 0 m.signals;
    each = λ y h e.
        let k = wired_new.each y h e in
        (subst (λ x. x < 2 ^ h.width) (sym (made_at y (slice_get_within m.signals y h e))) k.bits, holds y h h.kind e refl k.kind);
  }

  is_made : made ≡ w
  is_made = one_valuation m set_m ac_m (slice_index w) made w made_fits fw (λ y h e is. state_at y h e (st.inputs y h e is) (λ d z. let t = sym is ∙ z in absurd (cc)))

  number_at_new : (y : ℕ) → y < length m.signals → slice_index w y ≡ (word (back y)).bits
  number_at_new y h = ap (λ v. slice_index v y) (sym is_made) ∙ made_at y h

  -- where the old net has the name, so has the new one
  none_then : (name : List ℕ) → is_temp name ≡ false → place m.signals name 0 ≡ None → place n.signals name 0 ≡ None
  none_then name q e = by (place n.signals name 0) refl
    where
      by : (o : Option ℕ) → place n.signals name 0 ≡ o → o ≡ None
      by None p = refl
      by (Some s) p =
          let g = found n name s p in
          let r = st.old s g.0 g.1 (ap is_temp g.2 ∙ q) in
          let z = sym (place_of m (fore s) r.0 km r.1.new) ∙ ap (λ x. place m.signals x 0) (r.1.name ∙ g.2) ∙ e in
          absurd (cc)

  then_some : (name : List ℕ) (y : ℕ) → is_temp name ≡ false → place m.signals name 0 ≡ Some y → (g : Signal) × (h : Signal) × StandsFor n m (back y) y g h × (place n.signals name 0 ≡ Some (back y))
  then_some name y q e =
      let h = found m name y e in
      let r = st.new y h.0 h.1 (ap is_temp h.2 ∙ q) in
      (r.0, h.0, r.1, ap (λ x. place n.signals x 0) (sym (h.2) ∙ r.1.name) ∙ place_of n (back y) r.0 kn r.1.old)

  now_same : (name : List ℕ) → is_temp name ≡ false → read m w name ≡ read n old name
  now_same name q = by (place m.signals name 0) refl
    where
      by : (o : Option ℕ) → place m.signals name 0 ≡ o → number_at w o ≡ read n old name
      by None e = sym (ap (number_at old) (none_then name q e))
      by (Some y) e = let r = then_some name y q e in number_at_new y (slice_get_within m.signals y r.1 r.2.new) ∙ sym (ap (number_at old) r.3)

  kinds_next : (y : ℕ) (g h : Signal) → StandsFor n m (back y) y g h → (k j : Kind) → g.kind ≡ k → h.kind ≡ j → SameSort k j → kind_next w j ≡ kind_next old k
  kinds_next y g h r Input Input eg eh s = refl
  kinds_next y g h r (Wire c) (Wire d) eg eh s = refl
  kinds_next y g h r Input (Reg j q) eg eh s = absurd s
  kinds_next y g h r Input (Wire d) eg eh s = absurd s
  kinds_next y g h r (Reg i p) Input eg eh s = absurd s
  kinds_next y g h r (Reg i p) (Wire d) eg eh s = absurd s
  kinds_next y g h r (Wire c) Input eg eh s = absurd s
  kinds_next y g h r (Wire c) (Reg j q) eg eh s = absurd s
  kinds_next y g h r (Reg i None) (Reg j q) eg eh s = absurd (subst IsSet eg (set_n (back y) g r.old))
  kinds_next y g h r (Reg i (Some t)) (Reg j None) eg eh s = absurd (subst IsSet eh (set_m y h r.new))
  kinds_next y g h r (Reg i (Some t)) (Reg j (Some u)) eg eh s =
      let k = st.next y i j t u g h r eg eh in
      number_at_new u k.0 ∙ ap (λ (x : Word). x.bits) (k.1 word wired_old)

  next_same : (name : List ℕ) → is_temp name ≡ false → read_next m w name ≡ read_next n old name
  next_same name q = by (place m.signals name 0) refl
    where
      by : (o : Option ℕ) → place m.signals name 0 ≡ o → next_at m w o ≡ read_next n old name
      by None e = sym (ap (next_at n old) (none_then name q e))
      by (Some y) e =
          let r = then_some name y q e in
          ap (next_number w) r.2.new ∙ kinds_next y r.0 r.1 r.2 r.0.kind r.1.kind refl refl r.2.sort ∙ sym (ap (next_number old) r.2.old) ∙ sym (ap (next_at n old) r.3)

  outputs_same : (name : List ℕ) → read_output m w name ≡ read_output n old name
  outputs_same name = by (output_place n.outputs name) (output_place m.outputs name) (st.outputs name)
    where
      by : (o p : Option ℕ) → OutputStands n m back name o p → number_at w p ≡ number_at old o
      by None None h = refl
      by None (Some u) h = absurd h
      by (Some t) None h = absurd h
      by (Some t) (Some u) h = number_at_new u h.0 ∙ ap (λ (x : Word). x.bits) (h.1 word wired_old)

  cycle : (v : Valuation) × IsCycle n v × ShowsCycle n m v w
  cycle = (old, own n shown old one.1.fits, record { now = now_same; next = next_same; outputs = outputs_same })

-- so it mirrors the other
pub stands_mirrors : (n m : Netlist) → IsNetlist n → IsNetlist m → AllSet n → AllSet m → IsAcyclic n → IsAcyclic m → (back fore : ℕ → ℕ) → Stands n m back fore → Mirrors n m
stands_mirrors n m kn km set_n set_m ac_n ac_m back fore st w fw = cycle n m kn km set_n set_m ac_n ac_m back fore st w fw
