-- How the names of wires are put together.
use Rattle.safl_tool.proofs.Common.{AreKnown, Netlist, Sig, name_at, numbers}
use Rattle.std.proofs.Common.{◌≡◌, ℕ, zero, suc, ◌+◌, ◌<◌, ◌≤◌, List, [], ◌∷◌, ◌++◌, map, length, drop, Some, slice_get, slice_index_or, String}
use Rattle.std.proofs.Common.{Global, string_bytes, refl, sym, ap, ◌∙◌, arith, append_assoc}
use Rattle.safl_tool.specs.VerilogLines.{spaced, spaced_name}
use Rattle.std.proofs.lemmas.List.{append-nil, drop_all}

numbers_get : (xs : List Sig) (i : ℕ) (x : Sig) → slice_get xs i ≡ Some x → slice_get (numbers xs) i ≡ Some x.0
numbers_get [] i x e = absurd (cc)
numbers_get (y ∷ ys) zero x e = let q : y ≡ x = cc in ap (λ (k : Sig). Some k.0) q
numbers_get (y ∷ ys) (suc i) x e = numbers_get ys i x e

pub wire_known : (n : Netlist) (xs : List Sig) (i : ℕ) (x : Sig) → AreKnown n (numbers xs) → slice_get xs i ≡ Some x → x.0 < length n.signals
wire_known n xs i x known e = known i x.0 (numbers_get xs i x e)

drop_at : (xs : List Sig) (i : ℕ) (x : Sig) → slice_get xs i ≡ Some x → drop i xs ≡ x ∷ drop (i + 1) xs
drop_at [] i x e = absurd (cc)
drop_at (y ∷ xs) zero x e = let q : y ≡ x = cc in ap (λ k. k ∷ xs) q
drop_at (y ∷ xs) (suc i) x e = drop_at xs i x e ∙ ap (λ k. x ∷ drop k (y ∷ xs)) (let z : suc (i + 1) ≡ suc i + 1 = omega arith in z)

pub get_index : (xs : List Sig) (i : ℕ) → i < length xs → slice_get xs i ≡ Some (slice_index_or xs i (record { 0 = 0 }))
get_index [] i h = absurd (omega (arith, h))
get_index (x ∷ xs) zero h = refl
get_index (x ∷ xs) (suc i) h = get_index xs i (omega (arith, h))

abbrev pub names_at : Netlist → List Sig → List (List ℕ)
names_at n xs = map (name_at n) (numbers xs)

pub names_more : (n : Netlist) (xs : List Sig) (i : ℕ) (x : Sig) (out new : List (List ℕ)) → slice_get xs i ≡ Some x → out ++ names_at n (drop i xs) ≡ names_at n xs → new ≡ out ++ name_at n x.0 ∷ []
    → new ++ names_at n (drop (i + 1) xs) ≡ names_at n xs
names_more n xs i x out new e inv made =
    ap (λ l. l ++ names_at n (drop (i + 1) xs)) made
    ∙ append_assoc out (name_at n x.0 ∷ []) (names_at n (drop (i + 1) xs))
    ∙ ap (λ l. out ++ names_at n l) (sym (drop_at xs i x e))
    ∙ inv

pub names_all : (n : Netlist) (xs : List Sig) (i : ℕ) (out : List (List ℕ)) → length xs ≤ i → out ++ names_at n (drop i xs) ≡ names_at n xs → out ≡ names_at n xs
names_all n xs i out h inv = sym (append-nil out) ∙ ap (λ l. out ++ names_at n l) (sym (drop_all i xs h)) ∙ inv

-- ---- names after spaces

text_drop : (xs : List (String Global)) (i : ℕ) (x : List ℕ) → slice_get (map string_bytes xs) i ≡ Some x → map string_bytes (drop i xs) ≡ x ∷ map string_bytes (drop (i + 1) xs)
text_drop [] i x e = absurd (cc)
text_drop (y ∷ xs) zero x e = let q : string_bytes y ≡ x = cc in ap (λ k. k ∷ map string_bytes xs) q
text_drop (y ∷ xs) (suc i) x e = text_drop xs i x e ∙ ap (λ k. x ∷ map string_bytes (drop k (y ∷ xs))) (let z : suc (i + 1) ≡ suc i + 1 = omega arith in z)

pub spaced_more : (xs : List (String Global)) (i : ℕ) (x old out new : List ℕ) → slice_get (map string_bytes xs) i ≡ Some x → out ++ spaced
    (map string_bytes (drop i xs)) ≡ old → new ≡ out ++ spaced_name x
    → new ++ spaced (map string_bytes (drop (i + 1) xs)) ≡ old
spaced_more xs i x old out new e inv made =
    ap (λ l. l ++ spaced (map string_bytes (drop (i + 1) xs))) made
    ∙ append_assoc out (spaced_name x) (spaced (map string_bytes (drop (i + 1) xs)))
    ∙ ap (λ l. out ++ spaced l) (sym (text_drop xs i x e))
    ∙ inv

pub spaced_all : (xs : List (String Global)) (i : ℕ) (out old : List ℕ) → length xs ≤ i → out ++ spaced (map string_bytes (drop i xs)) ≡ old → out ≡ old
spaced_all xs i out old h inv = sym (append-nil out) ∙ ap (λ l. out ++ spaced (map string_bytes l)) (sym (drop_all i xs h)) ∙ inv
