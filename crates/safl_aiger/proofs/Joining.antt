-- Lines that are written one after another.
use Rattle.safl_aiger.proofs.Common.{Name, names_of}
use Rattle.std.proofs.Common.{◌≡◌, ℕ, zero, suc, ◌+◌, ◌-◌, ◌*◌, ◌<◌, List, [], ◌∷◌, ◌++◌, length, drop, get_or, Some, slice_get, refl, sym, ap, ◌∙◌, arith, append_assoc}
use Rattle.safl_aiger.specs.Texts.{joined_lines, numbers_line, input_text, symbol_row, symbols_text}

pub joined-append : (xs ys : List (List ℕ)) → joined_lines (xs ++ ys) ≡ joined_lines xs ++ joined_lines ys
joined-append [] ys = refl
joined-append (x ∷ xs) ys = ap (λ l. (x ++ 10 ∷ []) ++ l) (joined-append xs ys) ∙ sym (append_assoc (x ++ 10 ∷ []) (joined_lines xs) (joined_lines ys))

-- lines that are written, and those that are left
pub joined_step : (out new whole : List ℕ) (xs ls : List (List ℕ)) → new ≡ out ++ joined_lines xs → out ++ joined_lines (xs ++ ls) ≡ whole → new ++ joined_lines ls ≡ whole
joined_step out new whole xs ls e f = ap (λ l. l ++ joined_lines ls) e ∙ append_assoc out (joined_lines xs) (joined_lines ls) ∙ ap (λ l. out ++ l) (sym (joined-append xs ls)) ∙ f

pub inputs_step : (i count : ℕ) → i < count → input_text (1 + i) (count - i) ≡ (numbers_line (2 * (1 + i)) [] ∷ []) ++ input_text (1 + (i + 1)) (count - (i + 1))
inputs_step i count h =
    let z : count - i ≡ suc (count - (i + 1)) = omega (arith, h) in
    let y : suc (1 + i) ≡ 1 + (i + 1) = omega arith in
    ap (input_text (1 + i)) z ∙ ap (λ k. numbers_line (2 * (1 + i)) [] ∷ input_text k (count - (i + 1))) y

pub symbols_step : (letter i : ℕ) (names : List (List ℕ)) (name : List ℕ) → slice_get names i ≡ Some name → symbols_text letter i (drop i names) ≡
    symbol_row letter i name ++ symbols_text letter (i + 1) (drop (i + 1) names)
symbols_step letter i names name e = ap (symbols_text letter i) (dropped names i e) ∙ ap
    (λ k. symbol_row letter i name ++ symbols_text letter k (drop (i + 1) names)) (let z : suc i ≡ i + 1 = omega arith in z)
  where
    dropped : (xs : List (List ℕ)) (k : ℕ) → slice_get xs k ≡ Some name → drop k xs ≡ name ∷ drop (k + 1) xs
    dropped [] k q = absurd (cc)
    dropped (x ∷ xs) zero q = let z : x ≡ name = cc in ap (λ y. y ∷ xs) z
    dropped (x ∷ xs) (suc k) q = dropped xs k q ∙ ap (λ j. name ∷ drop j (x ∷ xs)) (let z : suc (k + 1) ≡ suc k + 1 = omega arith in z)

-- the sections one after another
pub sections : (h a b c d e f g : List (List ℕ)) (o0 o1 o2 o3 o4 o5 o6 o7 o8 : List ℕ) → o0 ≡ [] → o1 ≡ o0 ++ joined_lines h → o2 ≡ o1 ++ joined_lines a → o3 ≡ o2
    ++ joined_lines b → o4 ≡ o3 ++ joined_lines c → o5 ≡ o4 ++ joined_lines d → o6 ≡ o5 ++ joined_lines e → o7 ≡ o6 ++ joined_lines f → o8 ≡ o7 ++ joined_lines g
    → o8 ≡ joined_lines (h ++ (a ++ (b ++ (c ++ (d ++ (e ++ (f ++ g)))))))
sections h a b c d e f g o0 o1 o2 o3 o4 o5 o6 o7 o8 e0 e1 e2 e3 e4 e5 e6 e7 e8 =
    let s7 = joined_step o6 o7 (o6 ++ joined_lines (f ++ g)) f g e7 refl in
    let s6 = joined_step o5 o6 (o5 ++ joined_lines (e ++ (f ++ g))) e (f ++ g) e6 refl in
    let s5 = joined_step o4 o5 (o4 ++ joined_lines (d ++ (e ++ (f ++ g)))) d (e ++ (f ++ g)) e5 refl in
    let s4 = joined_step o3 o4 (o3 ++ joined_lines (c ++ (d ++ (e ++ (f ++ g))))) c (d ++ (e ++ (f ++ g))) e4 refl in
    let s3 = joined_step o2 o3 (o2 ++ joined_lines (b ++ (c ++ (d ++ (e ++ (f ++ g)))))) b (c ++ (d ++ (e ++ (f ++ g)))) e3 refl in
    let s2 = joined_step o1 o2 (o1 ++ joined_lines (a ++ (b ++ (c ++ (d ++ (e ++ (f ++ g))))))) a (b ++ (c ++ (d ++ (e ++ (f ++ g))))) e2 refl in
    let s1 = joined_step o0 o1 (o0 ++ joined_lines (h ++ (a ++ (b ++ (c ++ (d ++ (e ++ (f ++ g)))))))) h (a ++ (b ++ (c ++ (d ++ (e ++ (f ++ g)))))) e1 refl in
    e8 ∙ s7 ∙ s6 ∙ s5 ∙ s4 ∙ s3 ∙ s2 ∙ s1 ∙ ap (λ l. l ++ joined_lines (h ++ (a ++ (b ++ (c ++ (d ++ (e ++ (f ++ g)))))))) e0

pub names_at : (xs : List Name) (i : ℕ) (d : Name) → i < length xs → slice_get (names_of xs) i ≡ Some (get_or xs i d).bytes.items
names_at [] i d h = absurd (omega (arith, h))
names_at (x ∷ xs) zero d h = refl
names_at (x ∷ xs) (suc i) d h = names_at xs i d (omega (arith, h))
