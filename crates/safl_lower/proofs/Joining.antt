-- Loads that are joined, and tables of them.
use Rattle.safl_lower.proofs.Common.{AreSources, IsSource, Load, Netlist, Sig, Val, Word, eqb-true, gate, on, option_or, or_none, words}
use Rattle.std.proofs.Common.{◌≡◌, ℕ, zero, suc, ◌<◌, List, [], ◌∷◌, length, Option, Some, Bool, true, false, ◌&&◌, ◌||◌, ◌==◌, cond, slice_get, slice_set, refl, sym, ap, subst, ◌∙◌, arith}
use Rattle.std.proofs.Math.Dec.{eqb-suc-zero, eqb-zero-suc, eqb-suc-suc}
use Rattle.safl_word.proofs.Options.{option_or_none}
use Rattle.safl_lower.specs.Tables.{taken, taken_in, taken_from, entry_in, on_in, on_from, LoadFits, FitsIn, SomeFit, IsBitIn, BitsFit}
use Rattle.safl_lower.proofs.Cells.{sources_length}

pub first_fits : {n : Netlist} {o : Option Load} {l : Load} {ws : List ℕ} → o ≡ Some l → FitsIn n o ws → LoadFits n l ws
first_fits {n} {o} {l} {ws} e h = subst (λ (x : Option Load). FitsIn n x ws) e h

-- words of the same widths are as many
pub as_many : {n m : Netlist} {xs ys : List Sig} {ws : List ℕ} → AreSources n xs ws → AreSources m ys ws → length xs ≡ length ys
as_many {n} {m} {xs} {ys} {ws} p q = sources_length n xs ws p ∙ sym (sources_length m ys ws q)

gates_join : {A : Type 0} (p q : Bool) (a b : A) → gate (p || q) (Some (cond p a b)) ≡ option_or (gate p (Some a)) (gate q (Some b))
gates_join true q a b = refl
gates_join false true a b = refl
gates_join false false a b = refl

-- the earlier of two loads
pub joined_shows : (v : Val) (any bit : Sig) (ws us : List Word) (o : Option Load) (l : Load) → o ≡ Some l → on v any ≡ (on v l.bit || on v bit) → ws ≡ cond (on v l.bit) (words v l.words.items) us
    → gate (on v any) (Some ws) ≡ option_or (taken_in v o) (gate (on v bit) (Some us))
joined_shows v any bit ws us o l e p q =
    ap (λ (b : Bool). gate b (Some ws)) p ∙ ap (λ (xs : List Word). gate (on v l.bit || on v bit) (Some xs)) q ∙ gates_join (on v l.bit) (on v bit) (words v l.words.items) us
    ∙ ap (λ (x : Option Load). option_or (taken_in v x) (gate (on v bit) (Some us))) (sym e)

-- ---- an entry is replaced

pub get_set : {A : Type 0} (xs : List A) (i j : ℕ) (x : A) → i < length xs → slice_get (slice_set xs i x) j ≡ cond (j == i) (Some x) (slice_get xs j)
get_set [] i j x l = absurd (omega (arith, l))
get_set (y ∷ xs) zero zero x l = refl
get_set (y ∷ xs) zero (suc j) x l = ap (λ (b : Bool). cond b (Some x) (slice_get xs j)) (sym (eqb-suc-zero j))
get_set (y ∷ xs) (suc i) zero x l = ap (λ (b : Bool). cond b (Some x) (Some y)) (sym (eqb-zero-suc i))
get_set (y ∷ xs) (suc i) (suc j) x l = get_set xs i j x (omega (arith, l)) ∙ ap (λ (b : Bool). cond b (Some x) (slice_get xs j)) (sym (eqb-suc-suc j i))

pub bits_set : (v : Val) (xs : List (Option Sig)) (p i : ℕ) (old : Option Sig) (s bit : Sig) → p < length xs → slice_get xs p ≡ Some old → on v s ≡ (on_in v old || on v bit)
    → on_from v (slice_set xs p (Some s)) i ≡ (on_from v xs i || ((i == p) && on v bit))
bits_set v xs p i old s bit l e h = ap (λ (o : Option (Option Sig)). on_in v (entry_in o)) (get_set xs p i (Some s) l) ∙ by (i == p) refl
  where
    by : (b : Bool) → (i == p) ≡ b → on_in v (entry_in (cond b (Some (Some s)) (slice_get xs i))) ≡ (on_from v xs i || (b && on v bit))
    by true q =
        let k : slice_get xs i ≡ Some old = ap (slice_get xs) (eqb-true i p q) ∙ e in
        h ∙ ap (λ (o : Option (Option Sig)). on_in v (entry_in o) || on v bit) (sym k)
    by false q = or_none (on_from v xs i)

pub loads_set : (v : Val) (xs : List (Option Load)) (p i : ℕ) (old : Option Load) (l : Load) (bit : Sig) (us : List Word) → p < length xs → slice_get
    xs p ≡ Some old → taken v l ≡ option_or (taken_in v old) (gate (on v bit) (Some us))
    → taken_from v (slice_set xs p (Some l)) i ≡ option_or (taken_from v xs i) (gate ((i == p) && on v bit) (Some us))
loads_set v xs p i old l bit us m e h = ap (λ (o : Option (Option Load)). taken_in v (entry_in o)) (get_set xs p i (Some l) m) ∙ by (i == p) refl
  where
    by : (b : Bool) → (i == p) ≡ b → taken_in v (entry_in (cond b (Some (Some l)) (slice_get xs i))) ≡ option_or (taken_from v xs i) (gate (b && on v bit) (Some us))
    by true q =
        let k : slice_get xs i ≡ Some old = ap (slice_get xs) (eqb-true i p q) ∙ e in
        h ∙ ap (λ (o : Option (Option Load)). option_or (taken_in v (entry_in o)) (gate (on v bit) (Some us))) (sym k)
    by false q = option_or_none (taken_from v xs i)

pub loads_set_fit : (n : Netlist) (xs : List (Option Load)) (p : ℕ) (l : Load) (ws : ℕ → List ℕ) → p < length xs → SomeFit n xs ws → LoadFits n l (ws p) → SomeFit n (slice_set xs p (Some l)) ws
loads_set_fit n xs p l ws m h q i = subst (λ (o : Option (Option Load)). FitsIn n (entry_in o) (ws i)) (sym (get_set xs p i (Some l) m)) (by (i == p) refl)
  where
    by : (b : Bool) → (i == p) ≡ b → FitsIn n (entry_in (cond b (Some (Some l)) (slice_get xs i))) (ws i)
    by true e = subst (λ (k : ℕ). LoadFits n l (ws k)) (sym (eqb-true i p e)) q
    by false e = h i

pub load_at : (n : Netlist) (xs : List (Option Load)) (p : ℕ) (o : Option Load) (ws : List ℕ) → slice_get xs p ≡ Some o → FitsIn n (entry_in (slice_get xs p)) ws → FitsIn n o ws
load_at n xs p o ws e h = subst (λ (x : Option (Option Load)). FitsIn n (entry_in x) ws) e h

pub bits_set_fit : (n : Netlist) (xs : List (Option Sig)) (p : ℕ) (s : Sig) → p < length xs → BitsFit n xs → IsSource n s 1 → BitsFit n (slice_set xs p (Some s))
bits_set_fit n xs p s m h q i = subst (λ (o : Option (Option Sig)). IsBitIn n (entry_in o)) (sym (get_set xs p i (Some s) m)) (by (i == p))
  where
    by : (b : Bool) → IsBitIn n (entry_in (cond b (Some (Some s)) (slice_get xs i)))
    by true = q
    by false = h i
