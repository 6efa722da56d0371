-- Texts that are cut at a byte.
use Rattle.std.proofs.Common.{◌≡◌, ◌≢◌, ℕ, zero, suc, ◌+◌, ◌-◌, ◌^◌, ◌<◌, ◌≤◌, ◌==◌, List, [], ◌∷◌, ◌++◌, length, take, drop, get_or, slice_get, Some}
use Rattle.std.proofs.Common.{Bool, true, false, cond, refl, sym, ap, ◌∙◌, subst, arith}
use Rattle.std.proofs.lemmas.List.{take-append-drop, drop-drop, drop_more, take_more, get_or-drop, drop_all, length-drop, take_all}
use Rattle.std.proofs.lemmas.Bool.{ne_eqb}
use Rattle.safl_aiger.specs.Lines.{grown, text_lines, fields, AreDecimals, HasCount}
use Rattle.safl_word.specs.Numerals.{IsBounded}

-- the byte isn't in the text
abbrev pub Free : ℕ → List ℕ → Type 0
Free c [] = Unit {0}
Free c (x ∷ xs) = (x ≢ c) × Free c xs

pub free_push : (c : ℕ) (xs : List ℕ) (x : ℕ) → Free c xs → x ≢ c → Free c (xs ++ x ∷ [])
free_push c [] x h e = (e, tt)
free_push c (y ∷ xs) x h e = (h.0, free_push c xs x h.1 e)

pub lines_feed : (w t : List ℕ) → Free 10 w → text_lines (w ++ 10 ∷ t) ≡ w ∷ text_lines t
lines_feed [] t h = refl
lines_feed (x ∷ w) t h = ap (λ b. cond b ([] ∷ text_lines (w ++ 10 ∷ t)) (grown x (text_lines (w ++ 10 ∷ t)))) (ne_eqb x 10 h.0) ∙ ap (grown x) (lines_feed w t h.1)

pub lines_last : (x : ℕ) (w : List ℕ) → Free 10 (x ∷ w) → text_lines (x ∷ w) ≡ (x ∷ w) ∷ []
lines_last x [] h = ap (λ b. cond b ([] ∷ []) ((x ∷ []) ∷ [])) (ne_eqb x 10 h.0)
lines_last x (y ∷ w) h = ap (λ b. cond b ([] ∷ text_lines (y ∷ w)) (grown x (text_lines (y ∷ w)))) (ne_eqb x 10 h.0) ∙ ap (grown x) (lines_last y w h.1)

pub fields_space : (w t : List ℕ) → Free 32 w → fields (w ++ 32 ∷ t) ≡ w ∷ fields t
fields_space [] t h = refl
fields_space (x ∷ w) t h = ap (λ b. cond b ([] ∷ fields (w ++ 32 ∷ t)) (grown x (fields (w ++ 32 ∷ t)))) (ne_eqb x 32 h.0) ∙ ap (grown x) (fields_space w t h.1)

pub fields_last : (w : List ℕ) → Free 32 w → fields w ≡ w ∷ []
fields_last [] h = refl
fields_last (x ∷ w) h = ap (λ b. cond b ([] ∷ fields w) (grown x (fields w))) (ne_eqb x 32 h.0) ∙ ap (grown x) (fields_last w h.1)

-- one more byte is looked at
pub free_more : (c : ℕ) (text : List ℕ) (at end d : ℕ) → at ≤ end → end < length text → Free c (take (end - at) (drop at text)) → get_or text end d ≢ c → Free c (take (end + 1 - at) (drop at text))
free_more c text at end d h l f e =
    let k = end - at in
    let z : end + 1 - at ≡ k + 1 = omega (arith, h) in
    let i : k < length (drop at text) = omega (arith, length-drop at text, h, l) in
    let g : get_or (drop at text) k d ≡ get_or text end d = get_or-drop at text k d ∙ ap (λ j. get_or text j d) (let y : at + k ≡ end = omega (arith, h) in y) in
    subst (λ (xs : List ℕ). Free c xs) (sym (ap (λ j. take j (drop at text)) z ∙ take_more (drop at text) k d i))
    (free_push c (take k (drop at text)) (get_or (drop at text) k d) f (λ q. e (sym g ∙ q)))

whole : (text : List ℕ) (at end : ℕ) → at ≤ end → drop at text ≡ take (end - at) (drop at text) ++ drop end text
whole text at end h = sym (take-append-drop (end - at) (drop at text)) ∙ ap (λ l. take (end - at) (drop at text) ++ l)
    (drop-drop (end - at) at text ∙ ap (λ j. drop j text) (let z : at + (end - at) ≡ end = omega (arith, h) in z))

pub line_fed : (text : List ℕ) (at end d : ℕ) → at ≤ end → end < length text → Free 10 (take (end - at) (drop at text)) → get_or text end d ≡ 10 →
    text_lines (drop at text) ≡ take (end - at) (drop at text) ∷ text_lines (drop (end + 1) text)
line_fed text at end d h l f e =
    ap text_lines (whole text at end h ∙ ap (λ x. take (end - at) (drop at text) ++ x) (drop_more text end d l ∙ ap (λ c. c ∷ drop (end + 1) text) e)) ∙
    lines_feed (take (end - at) (drop at text)) (drop (end + 1) text) f

pub line_ended : (text : List ℕ) (at end : ℕ) → at < length text → end ≡ length text → Free 10 (take (end - at) (drop at text)) → text_lines (drop at text)
    ≡ take (end - at) (drop at text) ∷ text_lines (drop (end + 1) text)
line_ended text at end l e f =
    let all : take (end - at) (drop at text) ≡ drop at text = take_all (end - at) (drop at text) (omega (arith, length-drop at text, e)) in
    let past : drop (end + 1) text ≡ [] = drop_all (end + 1) text (omega (arith, e)) in
    last (drop at text) (let z = length-drop at text in omega (arith, z, l)) (subst (λ (xs : List ℕ). Free 10 xs) all f) ∙ (λ i. sym all i ∷ text_lines (sym past i))
  where
    last : (xs : List ℕ) → 0 < length xs → Free 10 xs → text_lines xs ≡ xs ∷ []
    last [] h f = absurd (omega (arith, h))
    last (x ∷ xs) h f = lines_last x xs f

pub field_cut : (line : List ℕ) (end d : ℕ) → end < length line → Free 32 (take end line) → get_or line end d ≡ 32 → fields line ≡ take end line ∷ fields (drop (end + 1) line)
field_cut line end d l f e =
    ap fields (sym (take-append-drop end line) ∙ ap (λ x. take end line ++ x) (drop_more line end d l ∙ ap (λ c. c ∷ drop (end + 1) line) e)) ∙ fields_space (take end line) (drop (end + 1) line) f

pub field_more : (c : ℕ) (line : List ℕ) (end d : ℕ) → end < length line → Free c (take end line) → get_or line end d ≢ c → Free c (take (end + 1) line)
field_more c line end d l f e = subst (λ (xs : List ℕ). Free c xs) (sym (take_more line end d l)) (free_push c (take end line) (get_or line end d) f e)

-- ---- counts of numbers

grown_some : (c : ℕ) (ls : List (List ℕ)) → 1 ≤ length (grown c ls)
grown_some c [] = omega arith
grown_some c (l ∷ ls) = omega arith

pub fields_some : (t : List ℕ) → 1 ≤ length (fields t)
fields_some [] = omega arith
fields_some (c ∷ t) = by (c == 32)
  where
    by : (b : Bool) → 1 ≤ length (cond b ([] ∷ fields t) (grown c (fields t)))
    by true = omega arith
    by false = grown_some c (fields t)

decimals_long : (ws : List (List ℕ)) (ns : List ℕ) → AreDecimals ws ns → length ws ≡ length ns
decimals_long [] [] h = refl
decimals_long [] (n ∷ ns) h = absurd h
decimals_long (w ∷ ws) [] h = absurd h
decimals_long (w ∷ ws) (n ∷ ns) h = ap suc (decimals_long ws ns h.1)

pub count_fields : (line : List ℕ) (k : ℕ) → HasCount line k → length (fields line) ≡ k
count_fields line k h = decimals_long (fields line) h.0 h.2 ∙ h.1

-- a first field, and the numbers after it
pub count_first : (line w rest : List ℕ) (k : ℕ) → fields line ≡ w ∷ fields rest → HasCount line (suc k) → IsBounded 10 10 (2 ^ 31) w × HasCount rest k
count_first line w rest k e h = by h.0 h.1 (subst (λ ws. AreDecimals ws h.0) e h.2)
  where
    by : (ns : List ℕ) → length ns ≡ suc k → AreDecimals (w ∷ fields rest) ns → IsBounded 10 10 (2 ^ 31) w × HasCount rest k
    by [] l d = absurd d
    by (n ∷ ns) l d = (d.0.bounded, (ns, (let z : length ns ≡ k = omega (arith, l) in z), d.1))

-- ---- numbers once

pub decimals_once : (ws : List (List ℕ)) (ns ms : List ℕ) → AreDecimals ws ns → AreDecimals ws ms → ns ≡ ms
decimals_once [] [] [] h k = refl
decimals_once [] [] (m ∷ ms) h k = absurd k
decimals_once [] (n ∷ ns) ms h k = absurd h
decimals_once (w ∷ ws) [] ms h k = absurd h
decimals_once (w ∷ ws) (n ∷ ns) [] h k = absurd k
decimals_once (w ∷ ws) (n ∷ ns) (m ∷ ms) h k = λ i. (h.0.is ∙ sym k.0.is) i ∷ decimals_once ws ns ms h.1 k.1 i

pub decimals_small : (ws : List (List ℕ)) (ns : List ℕ) (k n : ℕ) → AreDecimals ws ns → slice_get ns k ≡ Some n → n < 2 ^ 31
decimals_small [] [] k n h e = absurd (cc)
decimals_small [] (m ∷ ns) k n h e = absurd h
decimals_small (w ∷ ws) [] k n h e = absurd h
decimals_small (w ∷ ws) (m ∷ ns) zero n h e = let q : m ≡ n = cc in let b = h.0.bounded.small in let i = h.0.is in omega (arith, q, b, i)
decimals_small (w ∷ ws) (m ∷ ns) (suc k) n h e = decimals_small ws ns k n h.1 e
