-- Bits and loads in a row that is joined of two.
use Rattle.safl_lower.proofs.Common.{Builds, IsSource, Load, LoadFits, Netlist, Sig, Val, eqb-true, gate, on, option_or, taken}
use Rattle.std.proofs.Common.{◌≡◌, ℕ, suc, ◌+◌, ◌*◌, ◌<◌, ◌≤◌, List, [], ◌∷◌, ◌++◌, length, length-append, map, take, drop, slice_index_or, Option, Some}
use Rattle.std.proofs.Common.{Vec, Global, Bool, true, false, cond, slice_get, slice_set, zero, ◌==◌, not, ◌&&◌, ◌||◌, refl, sym, ap, subst}
use Rattle.std.proofs.Common.{◌∙◌, arith}
use Rattle.std.proofs.lemmas.List.{take-append-drop}
use Rattle.safl_lower.specs.Rows.{AreBits, on_any, on_two, frees, AllFit, first_taken, row_gates, bit_joins, load_joins, row_in, row_at, total}
use Rattle.safl_lower.proofs.Building.{source_kept}
use Rattle.safl_lower.proofs.Cells.{sources_length}
use Rattle.safl_lower.proofs.KnownLoads.{load_kept}
use Rattle.safl_lower.proofs.Joining.{get_set}
use Rattle.std.proofs.Math.Bool.{or-false}
use Rattle.safl_word.proofs.Booleans.{or_assoc, or_none}
use Rattle.safl_word.proofs.Options.{option_or_assoc, option_or_none}
use Rattle.safl_word.proofs.Lists.{get_map, nil_at_end}

-- ---- bits

pub bits_front : (n : Netlist) (xs ys : List Sig) → AreBits n (xs ++ ys) → AreBits n xs
bits_front n [] ys h = tt
bits_front n (x ∷ xs) ys h = (h.0, bits_front n xs ys h.1)

pub bits_back : (n : Netlist) (xs ys : List Sig) → AreBits n (xs ++ ys) → AreBits n ys
bits_back n [] ys h = h
bits_back n (x ∷ xs) ys h = bits_back n xs ys h.1

pub bits_push : (n : Netlist) (xs : List Sig) (s : Sig) → AreBits n xs → IsSource n s 1 → AreBits n (xs ++ s ∷ [])
bits_push n [] s h q = (q, tt)
bits_push n (x ∷ xs) s h q = (h.0, bits_push n xs s h.1 q)

pub row_kept : {a b : Netlist} {k : ℕ} → Builds a b k → (xs : List Sig) → AreBits a xs → AreBits b xs
row_kept g [] h = tt
row_kept g (x ∷ xs) h = (source_kept g h.0, row_kept g xs h.1)

pub any_append : (v : Val) (xs ys : List Sig) → on_any v (xs ++ ys) ≡ (on_any v xs || on_any v ys)
any_append v [] ys = refl
any_append v (x ∷ xs) ys = ap (λ (b : Bool). on v x || b) (any_append v xs ys) ∙ sym (or_assoc (on v x) (on_any v xs) (on_any v ys))

two_mix : (ty tx ax ay b : Bool) → ((ty || (tx || (ax && ay))) || (b && (ax || ay))) ≡ (ty || ((tx || (b && ax)) || ((b || ax) && ay)))
two_mix true tx ax ay b = refl
two_mix false true ax ay b = refl
two_mix false false true true true = refl
two_mix false false true true false = refl
two_mix false false true false true = refl
two_mix false false true false false = refl
two_mix false false false true true = refl
two_mix false false false true false = refl
two_mix false false false false true = refl
two_mix false false false false false = refl

pub two_append : (v : Val) (xs ys : List Sig) → on_two v (xs ++ ys) ≡ (on_two v ys || (on_two v xs || (on_any v xs && on_any v ys)))
two_append v [] ys = or_none (on_two v ys)
two_append v (x ∷ xs) ys =
    ap (λ (b : Bool). b || (on v x && on_any v (xs ++ ys))) (two_append v xs ys)
    ∙ ap (λ (b : Bool). (on_two v ys || (on_two v xs || (on_any v xs && on_any v ys))) || (on v x && b)) (any_append v xs ys)
    ∙ two_mix (on_two v ys) (on_two v xs) (on_any v xs) (on_any v ys) (on v x)

-- two of a row that are 1 are one that is
pub two_any : (v : Val) (xs : List Sig) → (on_two v xs && not (on_any v xs)) ≡ false
two_any v [] = refl
two_any v (x ∷ xs) = by (on_two v xs) (on v x) (on_any v xs) (two_any v xs)
  where
    by : (t b a : Bool) → (t && not a) ≡ false → ((t || (b && a)) && not (b || a)) ≡ false
    by true true a h = refl
    by true false true h = refl
    by true false false h = h
    by false true true h = refl
    by false true false h = refl
    by false false a h = refl

not_either : (f a b : Bool) → ((f && not a) && not b) ≡ (f && not (a || b))
not_either true true b = refl
not_either true false b = refl
not_either false a b = refl

and_true : (f : Bool) → f ≡ (f && not false)
and_true true = refl
and_true false = refl

pub frees_append : (v : Val) (f : Bool) (xs ys : List Sig) → frees v f (xs ++ ys) ≡ frees v f xs ++ frees v (f && not (on_any v xs)) ys
frees_append v f [] ys = ap (λ (b : Bool). frees v b ys) (and_true f)
frees_append v f (x ∷ xs) ys =
    ap (λ (l : List Bool). f ∷ l) (frees_append v (f && not (on v x)) xs ys)
    ∙ ap (λ (b : Bool). f ∷ (frees v (f && not (on v x)) xs ++ frees v b ys)) (not_either f (on v x) (on_any v xs))

-- ---- loads

pub fit_front : (n : Netlist) (xs ys : List Load) (ws : List ℕ) → AllFit n (xs ++ ys) ws → AllFit n xs ws
fit_front n [] ys ws h = tt
fit_front n (x ∷ xs) ys ws h = (h.0, fit_front n xs ys ws h.1)

pub fit_back : (n : Netlist) (xs ys : List Load) (ws : List ℕ) → AllFit n (xs ++ ys) ws → AllFit n ys ws
fit_back n [] ys ws h = h
fit_back n (x ∷ xs) ys ws h = fit_back n xs ys ws h.1

pub fit_kept : {a b : Netlist} {k : ℕ} → Builds a b k → (xs : List Load) (ws : List ℕ) → AllFit a xs ws → AllFit b xs ws
fit_kept g [] ws h = tt
fit_kept g (x ∷ xs) ws h = (load_kept g h.0, fit_kept g xs ws h.1)

pub fit_push : (n : Netlist) (xs : List Load) (l : Load) (ws : List ℕ) → AllFit n xs ws → LoadFits n l ws → AllFit n (xs ++ l ∷ []) ws
fit_push n [] l ws h q = (q, tt)
fit_push n (x ∷ xs) l ws h q = (h.0, fit_push n xs l ws h.1 q)

pub taken_append : (v : Val) (xs ys : List Load) → first_taken v (xs ++ ys) ≡ option_or (first_taken v xs) (first_taken v ys)
taken_append v [] ys = refl
taken_append v (x ∷ xs) ys = ap (option_or (taken v x)) (taken_append v xs ys) ∙ sym (option_or_assoc (taken v x) (first_taken v xs) (first_taken v ys))

pub row_append : (xs ys : List Load) → row_gates (xs ++ ys) ≡ row_gates xs + row_gates ys
row_append [] ys = omega arith
row_append (x ∷ xs) ys = let h = row_append xs ys in omega (arith, h)

-- two rows, and the gates that join them
pub row_joined : (n : Netlist) (xs ys : List Load) (ws : List ℕ) → AllFit n ys ws → 0 < length xs → 0 < length ys → row_gates (drop 1 xs) + row_gates
    (drop 1 ys) + (1 + length ws) ≡ row_gates (drop 1 (xs ++ ys))
row_joined n [] ys ws h k l = absurd (omega (arith, k))
row_joined n (x ∷ xs) [] ws h k l = absurd (omega (arith, l))
row_joined n (x ∷ xs) (y ∷ ys) ws h k l =
    let a = row_append xs (y ∷ ys) in
    let b = sources_length n y.words.items ws h.0.words in
    omega (arith, a, b)

-- a list of one
pub alone : {A : Type 0} (xs : List A) (x : A) (d : A) → length xs ≡ 1 → x ≡ slice_index_or xs 0 d → xs ≡ x ∷ []
alone [] x d e f = absurd (omega (arith, e))
alone (y ∷ []) x d e f = ap (λ z. z ∷ []) (sym f)
alone (y ∷ z ∷ ys) x d e f = absurd (omega (arith, e))

-- a row and its halves
pub whole : {A : Type 0} (xs low high : List A) (k : ℕ) → low ≡ take k xs → high ≡ drop k xs → xs ≡ low ++ high
whole {A} xs low high k e f = sym (ap (λ (l : List A). l ++ high) e ∙ ap (λ (l : List A). take k xs ++ l) f ∙ take-append-drop k xs)

module _ (n : Netlist) (xs low high : List Sig) (e : xs ≡ low ++ high) (h : AreBits n xs) where
  pub low_bits : AreBits n low
  low_bits = bits_front n low high (subst (AreBits n) e h)

  pub high_bits : AreBits n high
  high_bits = bits_back n low high (subst (AreBits n) e h)

module _ (n : Netlist) (xs low high : List Load) (e : xs ≡ low ++ high) (ws : List ℕ) (h : AllFit n xs ws) where
  pub low_fit : AllFit n low ws
  low_fit = fit_front n low high ws (subst (λ (l : List Load). AllFit n l ws) e h)

  pub high_fit : AllFit n high ws
  high_fit = fit_back n low high ws (subst (λ (l : List Load). AllFit n l ws) e h)

  pub gates_of : 0 < length low → 0 < length high → row_gates (drop 1 low) + row_gates (drop 1 high) + (1 + length ws) ≡ row_gates (drop 1 xs)
  gates_of k l = row_joined n low high ws high_fit k l ∙ ap (λ (l : List Load). row_gates (drop 1 l)) (sym e)

pub frees_one : (v : Val) (f : Bool) (xs : List Sig) → length xs ≡ 1 → frees v f xs ≡ f ∷ []
frees_one v f [] e = absurd (omega (arith, e))
frees_one v f (x ∷ []) e = refl
frees_one v f (x ∷ y ∷ xs) e = absurd (omega (arith, e))

-- ---- rows by number

pub row_pushed : {A : Type 0} (xs : List (Vec A Global)) (p i : ℕ) (old new : Vec A Global) (s : A) → p < length xs → slice_get xs p ≡ Some old →
    new.items ≡ old.items ++ s ∷ [] → row_at (slice_set xs p new) i ≡ row_at xs i ++ cond (i == p) (s ∷ []) []
row_pushed {A} xs p i old new s l e h = ap (λ (o : Option (Vec A Global)). row_in o) (get_set xs p i new l) ∙ by (i == p) refl
  where
    by : (b : Bool) → (i == p) ≡ b → row_in (cond b (Some new) (slice_get xs i)) ≡ row_at xs i ++ cond b (s ∷ []) []
    by true q = h ∙ ap (λ (o : Option (Vec A Global)). row_in o ++ s ∷ []) (sym (ap (slice_get xs) (eqb-true i p q) ∙ e))
    by false q = nil_at_end (row_at xs i)

-- ---- sums over rows

pub total_bare : {A : Type 0} (g : List A → ℕ) (xs : List (Vec A Global)) → g [] ≡ 0 → ((i : ℕ) → row_at xs i ≡ []) → total g xs ≡ 0
total_bare g [] e h = refl
total_bare g (x ∷ xs) e h = let a : g x.items ≡ g [] = ap g (h 0) in let b = total_bare g xs e (λ i. h (suc i)) in omega (arith, a, b, e)

total_set : {A : Type 0} (g : List A → ℕ) (xs : List (Vec A Global)) (p : ℕ) (old new : Vec A Global) → slice_get xs p ≡ Some old → total g
    (slice_set xs p new) + g old.items ≡ total g xs + g new.items
total_set g [] p old new e = absurd (cc)
total_set {A} g (x ∷ xs) zero old new e = let q : x ≡ old = cc in let a : g x.items ≡ g old.items = ap (λ (r : Vec A Global). g r.items) q in omega (arith, a)
total_set g (x ∷ xs) (suc p) old new e = let h = total_set g xs p old new e in omega (arith, h)

pub total_pushed : {A : Type 0} (g : List A → ℕ) (xs : List (Vec A Global)) (p : ℕ) (old new : Vec A Global) (s : A) (k : ℕ) → slice_get xs p ≡ Some
    old → new.items ≡ old.items ++ s ∷ [] → ((l : List A) → g (l ++ s ∷ []) ≤ g l + k) → total g (slice_set xs p new) ≤ total g xs + k
total_pushed g xs p old new s k e h f =
    let a = total_set g xs p old new e in
    let b = ap g h in
    let d = f old.items in
    omega (arith, a, b, d)

pub bits_longer : (l : List Sig) (s : Sig) → bit_joins (l ++ s ∷ []) ≤ bit_joins l + 1
bits_longer [] s = omega arith
bits_longer (x ∷ l) s = let h = length-append l (s ∷ []) in omega (arith, h)

pub loads_longer : (l : List Load) (x : Load) → load_joins (l ++ x ∷ []) ≤ load_joins l + (1 + length x.words.items)
loads_longer [] x = omega arith
loads_longer (y ∷ l) x = let h = row_append l (x ∷ []) in omega (arith, h)

pub four_total : (rows : List (Vec Sig Global)) → total (λ xs. 4 * bit_joins xs) rows ≡ 4 * total bit_joins rows
four_total [] = refl
four_total (r ∷ rows) = let h = four_total rows in omega (arith, h)

-- the rows up to a number
pub total_next : {A : Type 0} (g : List A → ℕ) (xs : List (Vec A Global)) (i : ℕ) (r : Vec A Global) → slice_get xs i ≡ Some r → total g (take (suc i) xs) ≡ total g (take i xs) + g r.items
total_next g [] i r e = absurd (cc)
total_next {A} g (x ∷ xs) zero r e = let q : x ≡ r = cc in let a : g x.items ≡ g r.items = ap (λ (y : Vec A Global). g y.items) q in omega (arith, a)
total_next g (x ∷ xs) (suc i) r e = let h = total_next g xs i r e in omega (arith, h)

pub total_front : {A : Type 0} (g : List A → ℕ) (xs : List (Vec A Global)) (i : ℕ) → total g (take i xs) ≤ total g xs
total_front g [] i = by i
  where
    by : (j : ℕ) → total g (take j []) ≤ 0
    by zero = omega arith
    by (suc j) = omega arith
total_front g (x ∷ xs) zero = omega arith
total_front g (x ∷ xs) (suc i) = let h = total_front g xs i in omega (arith, h)

-- ---- what a row shows that is longer by one

pub any_pushed : (v : Val) (old new : List Sig) (t : Bool) (s : Sig) → new ≡ old ++ cond t (s ∷ []) [] → on_any v new ≡ (on_any v old || (t && on v s))
any_pushed v old new t s e = ap (on_any v) e ∙ any_append v old (cond t (s ∷ []) []) ∙ ap (λ (b : Bool). on_any v old || b) (by t)
  where
    by : (b : Bool) → on_any v (cond b (s ∷ []) []) ≡ (b && on v s)
    by true = or-false (on v s)
    by false = refl

pub bits_pushed : (n : Netlist) (old new : List Sig) (t : Bool) (s : Sig) → new ≡ old ++ cond t (s ∷ []) [] → AreBits n old → IsSource n s 1 → AreBits n new
bits_pushed n old new t s e h q = subst (AreBits n) (sym e) (by t)
  where
    by : (b : Bool) → AreBits n (old ++ cond b (s ∷ []) [])
    by true = bits_push n old s h q
    by false = subst (AreBits n) (nil_at_end old) h

pub first_pushed : (v : Val) (old new : List Load) (t : Bool) (l : Load) → new ≡ old ++ cond t (l ∷ []) [] → first_taken v new ≡ option_or (first_taken v old) (gate t (taken v l))
first_pushed v old new t l e = ap (first_taken v) e ∙ taken_append v old (cond t (l ∷ []) []) ∙ ap (option_or (first_taken v old)) (by t)
  where
    by : (b : Bool) → first_taken v (cond b (l ∷ []) []) ≡ gate b (taken v l)
    by true = sym (option_or_none (taken v l))
    by false = refl

pub fit_pushed : (n : Netlist) (old new : List Load) (i p : ℕ) (l : Load) (ws : ℕ → List ℕ) → new ≡ old ++ cond (i == p) (l ∷ []) [] → AllFit n old (ws i) → LoadFits n l (ws p) → AllFit n new (ws i)
fit_pushed n old new i p l ws e h q = subst (λ (k : List Load). AllFit n k (ws i)) (sym e) (by (i == p) refl)
  where
    by : (b : Bool) → (i == p) ≡ b → AllFit n (old ++ cond b (l ∷ []) []) (ws i)
    by true f = fit_push n old l (ws i) h (subst (λ (j : ℕ). LoadFits n l (ws j)) (sym (eqb-true i p f)) q)
    by false f = subst (λ (k : List Load). AllFit n k (ws i)) (nil_at_end old) h

-- what is free at a number of a row
pub frees_at : (v : Val) (f : Bool) (xs : List Sig) (i : ℕ) → i < length xs → slice_get (frees v f xs) i ≡ Some (f && not (on_any v (take i xs)))
frees_at v f [] i l = absurd (omega (arith, l))
frees_at v f (x ∷ xs) zero l = ap (λ (b : Bool). Some b) (and_true f)
frees_at v f (x ∷ xs) (suc i) l = frees_at v (f && not (on v x)) xs i (omega (arith, l)) ∙ ap (λ (b : Bool). Some b) (not_either f (on v x) (on_any v (take i xs)))

-- a row's bits by their number: the row is free, and none before the number is 1
pub row_free : (v : Val) (f : Bool) (xs out : List Sig) (i : ℕ) (s : Sig) → map (on v) out ≡ frees v f xs → i < length xs → slice_get out i ≡ Some s → on v s ≡ (f && not (on_any v (take i xs)))
row_free v f xs out i s e l g = let a = get_map (on v) out i s g in let b = frees_at v f xs i l in let c = ap (λ (k : List Bool). slice_get k i) e in cc

pub bit_of_row : (n : Netlist) (xs : List Sig) (i : ℕ) (s : Sig) → AreBits n xs → slice_get xs i ≡ Some s → IsSource n s 1
bit_of_row n [] i s h e = absurd (cc)
bit_of_row n (x ∷ xs) zero s h e = let q : x ≡ s = cc in subst (λ (y : Sig). IsSource n y 1) q h.0
bit_of_row n (x ∷ xs) (suc i) s h e = bit_of_row n xs i s h.1 e

pub frees_long : (v : Val) (f : Bool) (xs : List Sig) → length (frees v f xs) ≡ length xs
frees_long v f [] = refl
frees_long v f (x ∷ xs) = let h = frees_long v (f && not (on v x)) xs in omega (arith, h)
