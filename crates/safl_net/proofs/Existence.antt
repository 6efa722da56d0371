-- Some valuation fits: each wire's number is computed from those of lower rank.
use Rattle.safl_net.proofs.Common.{CellFits, IsNetlist, op_width, slice_get_within}
use Rattle.std.proofs.Common.{◌≡◌, ℕ, zero, suc, ◌+◌, ◌<◌, ◌^◌, List, [], ◌∷◌, map, length, Option, Some, None, slice_get, slice_index, refl, sym, ap, subst, ◌∙◌, arith}
use Rattle.safl_word.specs.Words.{Word, IsWord}
use Rattle.safl_word.proofs.Lists.{get_some, index_get, map_at}
use Rattle.safl_word.proofs.Words.{are_words}
use Rattle.safl_word.proofs.Naturals.{below_power}
use Rattle.safl_net.specs.Netlist.{Netlist, Signal, Kind, Input, Reg, Wire, Cell, IsSet, AllSet, width_in, width_of}
use Rattle.safl_net.specs.Valuations.{Valuation, Holds, Fits, IsAcyclic, signal_word, cell_word}
use Rattle.safl_net.specs.Making.{signal_widths, kind_in, kind_at}
use Rattle.safl_net.specs.Laws.{FitWidths, HasInputs, OneFits, ExactlyOneValuation}
use Rattle.safl_net.proofs.CellWords.{cell_width, cell_is_word, word_widths, cell_of_net}
use Rattle.safl_net.proofs.OneValuation.{one_valuation}

abbrev word_by : Netlist → (ℕ → ℕ) → ℕ → Word
word_by n f t = record { width = width_of n t; bits = f t }

abbrev kind_number : Netlist → (ℕ → ℕ) → (ℕ → ℕ) → (ℕ → ℕ) → ℕ → Kind → ℕ
kind_number n state inputs f s Input = inputs s
kind_number n state inputs f s (Reg init next) = state s
kind_number n state inputs f s (Wire None) = 0
kind_number n state inputs f s (Wire (Some c)) = (cell_word c.op (map (word_by n f) c.operands)).bits

-- the number of a signal, once its rank is below the fuel
abbrev number : Netlist → (ℕ → ℕ) → (ℕ → ℕ) → ℕ → ℕ → ℕ
number n state inputs zero s = kind_number n state inputs (λ t. 0) s (kind_at n s)
number n state inputs (suc m) s = kind_number n state inputs (number n state inputs m) s (kind_at n s)

-- a function as a list
abbrev table : {A : Type 0} → (ℕ → ℕ) → ℕ → List A → List ℕ
table f i [] = []
table f i (x ∷ xs) = f i ∷ table f (suc i) xs

table_length : {A : Type 0} (f : ℕ → ℕ) (i : ℕ) (xs : List A) → length (table f i xs) ≡ length xs
table_length f i [] = refl
table_length f i (x ∷ xs) = ap suc (table_length f (suc i) xs)

table_at : {A : Type 0} (f : ℕ → ℕ) (i : ℕ) (xs : List A) (s : ℕ) → s < length xs → slice_index (table f i xs) s ≡ f (i + s)
table_at f i [] s h = absurd (omega arith)
table_at f i (x ∷ xs) zero h = ap f (omega arith)
table_at f i (x ∷ xs) (suc s) h = table_at f (suc i) xs s (omega (arith, h)) ∙ ap f (omega arith)

by_widths : (n : Netlist) (f : ℕ → ℕ) (ts : List ℕ) → word_widths (map (word_by n f) ts) ≡ signal_widths n ts
by_widths n f [] = refl
by_widths n f (t ∷ ts) = ap (λ l. width_of n t ∷ l) (by_widths n f ts)

operand_in : (n : Netlist) (c : Cell) (w i t : ℕ) → CellFits n w c → slice_get c.operands i ≡ Some t → t < length n.signals
operand_in n c w i t f e =
    let a = f.known i 0 (slice_get_within c.operands i t e) in
    let b = index_get c.operands i t e in
    omega (arith, a, b)

module _ (n : Netlist) (made : IsNetlist n) (whole : AllSet n) (acyclic : IsAcyclic n) (state inputs : ℕ → ℕ) (states : FitWidths n state) (ins : FitWidths n inputs) where
  -- a wire's rank is below m
  abbrev Below : ℕ → ℕ → Type 0
  Below m s = (g : Signal) (d : Option Cell) → slice_get n.signals s ≡ Some g → g.kind ≡ Wire d → acyclic.rank s < m

  lower : (s : ℕ) (g : Signal) (c : Cell) (m : ℕ) → slice_get n.signals s ≡ Some g → g.kind ≡ Wire (Some c) → Below (suc m) s → (i t : ℕ) → slice_get c.operands i ≡ Some t → Below m t
  lower s g c m e is below i t o = λ h d f k. let up = acyclic.rises s t i g h c d e is o f k in let lt = below g (Some c) e is in omega (arith, up, lt)

  -- more fuel gives the same number
  stable : (m k s : ℕ) → Below m s → Below k s → number n state inputs m s ≡ number n state inputs k s
  stable zero zero s a b = refl
  stable zero (suc k) s a b = none (slice_get n.signals s) refl
    where
      by : (g : Signal) (j : Kind) → slice_get n.signals s ≡ Some g → g.kind ≡ j → kind_number n state inputs (λ t. 0) s j ≡ kind_number n state inputs (number n state inputs k) s j
      by g Input e is = refl
      by g (Reg init next) e is = refl
      by g (Wire d) e is = let lt = a g d e is in absurd (omega (arith, lt))

      none : (o : Option Signal) → slice_get n.signals s ≡ o → kind_number n state inputs (λ t. 0) s (kind_in o) ≡ kind_number n state inputs (number n state inputs k) s (kind_in o)
      none None e = refl
      none (Some g) e = by g g.kind e refl
  stable (suc m) zero s a b = none (slice_get n.signals s) refl
    where
      by : (g : Signal) (j : Kind) → slice_get n.signals s ≡ Some g → g.kind ≡ j → kind_number n state inputs (number n state inputs m) s j ≡ kind_number n state inputs (λ t. 0) s j
      by g Input e is = refl
      by g (Reg init next) e is = refl
      by g (Wire d) e is = let lt = b g d e is in absurd (omega (arith, lt))

      none : (o : Option Signal) → slice_get n.signals s ≡ o → kind_number n state inputs (number n state inputs m) s (kind_in o) ≡ kind_number n state inputs (λ t. 0) s (kind_in o)
      none None e = refl
      none (Some g) e = by g g.kind e refl
  stable (suc m) (suc k) s a b = none (slice_get n.signals s) refl (λ t p q. stable m k t p q)
    where
      by : (g : Signal) (j : Kind) → slice_get n.signals s ≡ Some g → g.kind ≡ j → ((t : ℕ) → Below m t → Below k t → number n state inputs m t ≡ number n state inputs k t)
          → kind_number n state inputs (number n state inputs m) s j ≡ kind_number n state inputs (number n state inputs k) s j
      by g Input e is ih = refl
      by g (Reg init next) e is ih = refl
      by g (Wire None) e is ih = refl
      by g (Wire (Some c)) e is ih =
          ap (λ l. (cell_word c.op l).bits)
          (map_at (word_by n (number n state inputs m)) (word_by n (number n state inputs k)) c.operands
          (λ i t o. ap (λ x. (let w : Word = record { width = width_of n t; bits = x } in w)) (ih t (lower s g c m e is a i t o) (lower s g c k e is b i t o))))

      none : (o : Option Signal) → slice_get n.signals s ≡ o → ((t : ℕ) → Below m t → Below k t → number n state inputs m t ≡ number n state inputs k t)
          → kind_number n state inputs (number n state inputs m) s (kind_in o) ≡ kind_number n state inputs (number n state inputs k) s (kind_in o)
      none None e ih = refl
      none (Some g) e ih = by g g.kind e refl ih

  top : ℕ → ℕ
  top s = suc (acyclic.rank s)

  top_below : (s : ℕ) → Below (top s) s
  unfolding top
  top_below s = λ g d e k. omega arith

  final : ℕ → ℕ
  final s = number n state inputs (top s) s

  settled : (m s : ℕ) → Below m s → number n state inputs m s ≡ final s
  unfolding final
  settled m s b = stable m (top s) s b (top_below s)

  made_word : (s : ℕ) (g : Signal) (x : ℕ) → slice_get n.signals s ≡ Some g → x < 2 ^ g.width → IsWord (record { width = width_of n s; bits = x })
  made_word s g x e l =
      let f = made.signals s g e in
      subst (λ (w : ℕ). IsWord (record { width = w; bits = x })) (sym (ap width_in e)) (record { some = f.some; bounded = f.most; fits = l })

  -- the number of a signal makes a word, where those of its operands do
  kind_word : (f : ℕ → ℕ) (s : ℕ) (g : Signal) (j : Kind) → slice_get n.signals s ≡ Some g → g.kind ≡ j
      → ((c : Cell) (i t : ℕ) → j ≡ Wire (Some c) → slice_get c.operands i ≡ Some t → IsWord (word_by n f t))
      → IsWord (record { width = width_of n s; bits = kind_number n state inputs f s j })
  kind_word f s g Input e is ih = made_word s g (inputs s) e (ins s g e)
  kind_word f s g (Reg init next) e is ih = made_word s g (state s) e (states s g e)
  kind_word f s g (Wire None) e is ih = absurd (subst IsSet is (whole s g e))
  kind_word f s g (Wire (Some c)) e is ih =
      let k = cell_of_net n s g made e c is in
      let same = by_widths n f c.operands in
      let q = cell_width c.op (map (word_by n f) c.operands) g.width (ap (op_width c.op) same ∙ k.gives) in
      let w = cell_is_word c.op (map (word_by n f) c.operands) g.width (are_words (word_by n f) c.operands (λ i t o. ih c i t refl o)) k.word (ap (op_width c.op) same ∙ k.gives) in
      made_word s g _ e (let a = w.fits in subst (λ x. (cell_word c.op (map (word_by n f) c.operands)).bits < 2 ^ x) q a)

  is_word : (m s : ℕ) → Below m s → s < length n.signals → IsWord (word_by n (number n state inputs m) s)
  is_word zero s b h =
      let g = get_some n.signals s h in
      subst (λ j. IsWord (record { width = width_of n s; bits = kind_number n state inputs (λ t. 0) s j })) (sym (ap kind_in g.1))
      (kind_word (λ t. 0) s g.0 g.0.kind g.1 refl (λ c i t is o. let lt = b g.0 (Some c) g.1 is in absurd (omega (arith, lt))))
  is_word (suc m) s b h =
      let g = get_some n.signals s h in
      subst (λ j. IsWord (record { width = width_of n s; bits = kind_number n state inputs (number n state inputs m) s j })) (sym (ap kind_in g.1))
      (kind_word (number n state inputs m) s g.0 g.0.kind g.1 refl
      (λ c i t is o. is_word m t (lower s g.0 c m g.1 is b i t o) (operand_in n c g.0.width i t (cell_of_net n s g.0 made g.1 c is) o)))

  valuation : Valuation
  valuation = table final 0 n.signals

  at : (s : ℕ) → s < length n.signals → slice_index valuation s ≡ final s
  unfolding valuation
  at s h = table_at final 0 n.signals s h ∙ ap final (omega arith)

  final_is : (s : ℕ) (g : Signal) → slice_get n.signals s ≡ Some g → final s ≡ kind_number n state inputs (number n state inputs (acyclic.rank s)) s g.kind
  unfolding final top
  final_is s g e = ap (λ j. kind_number n state inputs (number n state inputs (acyclic.rank s)) s j) (ap kind_in e)

  holds : (s : ℕ) (g : Signal) (j : Kind) → slice_get n.signals s ≡ Some g → g.kind ≡ j → Holds n valuation (state s) (slice_index valuation s) j
  holds s g Input e is = tt
  holds s g (Reg init next) e is = at s (slice_get_within n.signals s g e) ∙ final_is s g e ∙ ap (λ j. kind_number n state inputs (number n state inputs (acyclic.rank s)) s j) is
  holds s g (Wire None) e is = tt
  holds s g (Wire (Some c)) e is =
      at s (slice_get_within n.signals s g e) ∙ final_is s g e ∙ ap (λ j. kind_number n state inputs (number n state inputs (acyclic.rank s)) s j) is
      ∙ ap (λ l. (cell_word c.op l).bits)
      (map_at (word_by n (number n state inputs (acyclic.rank s))) (signal_word n valuation) c.operands
      (λ i t o. ap (λ x. (let w : Word = record { width = width_of n t; bits = x } in w))
      (settled (acyclic.rank s) t (lower s g c (acyclic.rank s) e is (λ h d f k. omega arith) i t o)
      ∙ sym (at t (operand_in n c g.width i t (cell_of_net n s g made e c is) o)))))

  final_fits : (s : ℕ) → s < length n.signals → final s < 2 ^ width_of n s
  unfolding final
  final_fits s h = (is_word (top s) s (top_below s) h).fits

  fits : Fits n state valuation
  unfolding valuation
  fits = record {
    full = table_length final 0 n.signals;
    each = λ s g e.
        let here = slice_get_within n.signals s g e in (
          (let q = at s here in let width = ap width_in e in below_power (slice_index valuation s) (final s) (width_of n s) g.width q width (final_fits s here)),
          holds s g g.kind e refl,
        );
  }

  has_inputs : HasInputs n inputs valuation
  has_inputs s g e is = at s (slice_get_within n.signals s g e) ∙ final_is s g e ∙ ap (λ j. kind_number n state inputs (number n state inputs (acyclic.rank s)) s j) is

  exactly : (v : Valuation) × OneFits n state inputs v
  exactly = (
    valuation,
    record {
      fits = fits;
      inputs = has_inputs;
      alone = λ w f h. one_valuation n whole acyclic state w valuation f fits (λ s g e is. h s g e is ∙ sym (has_inputs s g e is));
    },
  )

pub exactly_one : ExactlyOneValuation
exactly_one = exactly
