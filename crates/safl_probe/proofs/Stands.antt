-- Each number stands until the next change of its code.
use Rattle.safl_probe.proofs.Common.{Valuation, Watched, bytes_eq-Decides, number_digits_of, option_or, seen}
use Rattle.std.proofs.Common.{◌≡◌, ℕ, zero, suc, ◌+◌, ◌-◌, ◌<◌, ◌≤◌, List, [], ◌∷◌, ◌++◌, map, reverse, Option, Some, None, Bool, true, false, ◌==◌}
use Rattle.std.proofs.Common.{slice_get, slice_index, refl, sym, ap, subst, ◌∙◌, arith, bytes_eq, inl, inr}
use Rattle.std.specs.Prelude.{if◌then◌else◌}
use Rattle.std.specs.Int.Digits.{digits_of, number_from_digits}
use Rattle.std.proofs.lemmas.List.{reverse-reverse, append-nil}
use Rattle.std.proofs.lemmas.Bool.Decides.{eqb_tells}
use Rattle.std.proofs.lemmas.Bool.{le-ltb, lt-ltb}
use Rattle.safl_word.proofs.Options.{option_or_assoc}
use Rattle.safl_probe.specs.Texts.{Text, code, changes}
use Rattle.safl_probe.specs.Following.{Line, Time, Change, is_later, up_to, change_of, stands}
use Rattle.safl_probe.proofs.Codes.{code_of}
use Rattle.safl_probe.proofs.Lines.{value_lines, changed_line, change_lines, timed_lines, Tells, none_told, tells_changes, Fitting}

-- ---- codes differ

abbrev number_in : Text → ℕ
number_in text = number_from_digits 94 (reverse (map (λ c. c - 33) text))

code_counts : (i : ℕ) → number_in (code i) ≡ i
unfolding code
code_counts zero = refl
code_counts (suc i) =
    let ds : List ℕ = digits_of 94 (suc i) in
    ap number_in (code_of (suc i) (omega arith)) ∙ ap (λ l. number_from_digits 94 (reverse l)) (less (reverse ds)) ∙ ap (number_from_digits 94)
    (reverse-reverse ds) ∙ number_digits_of 94 (suc i) (omega arith)
  where
    less : (l : List ℕ) → map (λ c. c - 33) (map (λ d. 33 + d) l) ≡ l
    less [] = refl
    less (d ∷ l) = let e : 33 + d - 33 ≡ d = omega arith in ap (λ x. x ∷ map (λ c. c - 33) (map (λ k. 33 + k) l)) e ∙ ap (λ m. d ∷ m) (less l)

same_code : (i : ℕ) → bytes_eq (code i) (code i) ≡ true
same_code i = (bytes_eq-Decides (code i) (code i)).1 refl

other_code : (k i : ℕ) → (k ≡ i → ⊥) → bytes_eq (code k) (code i) ≡ false
other_code k i ne = go (bytes_eq (code k) (code i)) refl
  where
    go : (b : Bool) → bytes_eq (code k) (code i) ≡ b → b ≡ false
    go true e = absurd (ne (sym (code_counts k) ∙ ap number_in ((bytes_eq-Decides (code k) (code i)).0 e) ∙ code_counts i))
    go false e = refl

-- ---- options

pub or_none : (o : Option ℕ) → option_or o None ≡ o
or_none None = refl
or_none (Some x) = refl

pub stands_more : (c : Text) (xs ys : List Line) → stands c (xs ++ ys) ≡ option_or (stands c ys) (stands c xs)
stands_more c [] ys = sym (or_none (stands c ys))
stands_more c (l ∷ xs) ys = ap (λ o. option_or o (change_of c l)) (stands_more c xs ys) ∙ option_or_assoc (stands c ys) (stands c xs) (change_of c l)

-- ---- numbers of codes

change_other : (i k x : ℕ) → (k ≡ i → ⊥) → change_of (code i) (Change x (code k)) ≡ None
change_other i k x ne = ap (λ b. if b then Some x else None) (other_code k i ne)

change_same : (i k x : ℕ) → k ≡ i → change_of (code i) (Change x (code k)) ≡ Some x
change_same i k x e = subst (λ j. change_of (code i) (Change x (code j)) ≡ Some x) (sym e) (ap (λ b. if b then Some x else None) (same_code i))

values_below : (i j : ℕ) (ws : List Watched) (now : List ℕ) → i < j → stands (code i) (value_lines j ws now) ≡ None
values_below i j [] now h = refl
values_below i j (w ∷ ws) [] h = refl
values_below i j (w ∷ ws) (x ∷ now) h =
    ap (λ o. option_or o (change_of (code i) (Change x (code j)))) (values_below i (suc j) ws now (omega (arith, h))) ∙ change_other i j x (λ e. omega (arith, e, h))

pub values_at : (i j k : ℕ) (ws : List Watched) (now : List ℕ) (w : Watched) (x : ℕ) → i ≡ j + k → slice_get ws k ≡ Some w → slice_get now k ≡ Some x → stands (code i) (value_lines j ws now) ≡ Some x
values_at i j k [] now w x e a b = absurd (cc)
values_at i j zero (v ∷ ws) [] w x e a b = absurd (cc)
values_at i j (suc k) (v ∷ ws) [] w x e a b = absurd (cc)
values_at i j zero (v ∷ ws) (y ∷ now) w x e a b =
    let same : y ≡ x = cc in
    ap (λ o. option_or o (change_of (code i) (Change y (code j)))) (values_below i (suc j) ws now (omega (arith, e))) ∙ change_same i j y (omega (arith, e)) ∙ ap Some same
values_at i j (suc k) (v ∷ ws) (y ∷ now) w x e a b =
    ap (λ o. option_or o (change_of (code i) (Change y (code j)))) (values_at i (suc j) k ws now w x (omega (arith, e)) a b)

changed_other : (i j x y : ℕ) → i < j → stands (code i) (changed_line j x y) ≡ None
changed_other i j x y h = go (x == y)
  where
    go : (b : Bool) → stands (code i) (if b then [] else Change y (code j) ∷ []) ≡ None
    go true = refl
    go false = change_other i j y (λ e. omega (arith, e, h))

changes_below : (i j : ℕ) (ws : List Watched) (last now : List ℕ) → i < j → stands (code i) (change_lines j ws last now) ≡ None
changes_below i j [] last now h = refl
changes_below i j (w ∷ ws) [] now h = refl
changes_below i j (w ∷ ws) (x ∷ last) [] h = refl
changes_below i j (w ∷ ws) (x ∷ last) (y ∷ now) h =
    stands_more (code i) (changed_line j x y) (change_lines (suc j) ws last now)
    ∙ ap (λ o. option_or o (stands (code i) (changed_line j x y))) (changes_below i (suc j) ws last now (omega (arith, h)))
    ∙ changed_other i j x y h

changed_here : (i j x y : ℕ) → j ≡ i → option_or (stands (code i) (changed_line j x y)) (Some x) ≡ Some y
changed_here i j x y e = elim (eqb_tells x y) [
  | inl q ↦ subst (λ b. option_or (stands (code i) (if b then [] else Change y (code j) ∷ [])) (Some x) ≡ Some y) (sym q.0) (ap Some q.1)
  | inr q ↦ subst (λ b. option_or (stands (code i) (if b then [] else Change y (code j) ∷ [])) (Some x) ≡ Some y) (sym q.0) (ap (λ o. option_or o (Some x)) (change_same i j y e))
]

-- after the changes the code stands at the new number, where it stood at the old one
pub changes_at : (i j k : ℕ) (ws : List Watched) (last now : List ℕ) (w : Watched) (x y : ℕ) → i ≡ j + k → slice_get ws k ≡ Some w → slice_get last k ≡ Some x → slice_get now k ≡ Some y
    → option_or (stands (code i) (change_lines j ws last now)) (Some x) ≡ Some y
changes_at i j k [] last now w x y e a b c = absurd (cc)
changes_at i j zero (v ∷ ws) [] now w x y e a b c = absurd (cc)
changes_at i j (suc k) (v ∷ ws) [] now w x y e a b c = absurd (cc)
changes_at i j zero (v ∷ ws) (p ∷ last) [] w x y e a b c = absurd (cc)
changes_at i j (suc k) (v ∷ ws) (p ∷ last) [] w x y e a b c = absurd (cc)
changes_at i j zero (v ∷ ws) (p ∷ last) (q ∷ now) w x y e a b c =
    let old : p ≡ x = cc in
    let new : q ≡ y = cc in
    ap (λ o. option_or o (Some x)) (
    stands_more (code i) (changed_line j p q) (change_lines (suc j) ws last now)
    ∙ ap (λ o. option_or o (stands (code i) (changed_line j p q))) (changes_below i (suc j) ws last now (omega (arith, e))))
    ∙ ap (λ z. option_or (stands (code i) (changed_line j p q)) (Some z)) (sym old)
    ∙ changed_here i j p q (omega (arith, e)) ∙ ap Some new
changes_at i j (suc k) (v ∷ ws) (p ∷ last) (q ∷ now) w x y e a b c =
    ap (λ o. option_or o (Some x)) (
    stands_more (code i) (changed_line j p q) (change_lines (suc j) ws last now)
    ∙ ap (option_or (stands (code i) (change_lines (suc j) ws last now))) (changed_other_above i j p q (omega (arith, e)))
    ∙ or_none (stands (code i) (change_lines (suc j) ws last now)))
    ∙ changes_at i (suc j) k ws last now w x y (omega (arith, e)) a b c
  where
    changed_other_above : (m n : ℕ) (u v : ℕ) → n < m → stands (code m) (changed_line n u v) ≡ None
    changed_other_above m n u v h = go (u == v)
      where
        go : (b : Bool) → stands (code m) (if b then [] else Change v (code n) ∷ []) ≡ None
        go true = refl
        go false = change_other m n v (λ e. omega (arith, e, h))

-- ---- times

-- lines that tell no later time
abbrev pub Passing : ℕ → List Line → Type 0
Passing t [] = Unit {0}
Passing t (l ∷ ls) = (is_later t l ≡ false) × Passing t ls

pub pass : (t : ℕ) (xs ys : List Line) → Passing t xs → up_to t (xs ++ ys) ≡ xs ++ up_to t ys
pass t [] ys p = refl
pass t (l ∷ xs) ys p = ap (λ b. if b then [] else l ∷ up_to t (xs ++ ys)) p.0 ∙ ap (λ r. l ∷ r) (pass t xs ys p.1)

pub passing_more : (t : ℕ) (xs ys : List Line) → Passing t xs → Passing t ys → Passing t (xs ++ ys)
passing_more t [] ys p q = q
passing_more t (l ∷ xs) ys p q = (p.0, passing_more t xs ys p.1 q)

pub passing_values : (t i : ℕ) (ws : List Watched) (now : List ℕ) → Passing t (value_lines i ws now)
passing_values t i [] now = tt
passing_values t i (w ∷ ws) [] = tt
passing_values t i (w ∷ ws) (x ∷ now) = (refl, passing_values t (suc i) ws now)

passing_changed : (t i x y : ℕ) → Passing t (changed_line i x y)
passing_changed t i x y = go (x == y)
  where
    go : (b : Bool) → Passing t (if b then [] else Change y (code i) ∷ [])
    go true = tt
    go false = (refl, tt)

pub passing_changes : (t i : ℕ) (ws : List Watched) (last now : List ℕ) → Passing t (change_lines i ws last now)
passing_changes t i [] last now = tt
passing_changes t i (w ∷ ws) [] now = tt
passing_changes t i (w ∷ ws) (x ∷ last) [] = tt
passing_changes t i (w ∷ ws) (x ∷ last) (y ∷ now) = passing_more t (changed_line i x y) (change_lines (suc i) ws last now) (passing_changed t i x y) (passing_changes t (suc i) ws last now)

passing_timed : (t s : ℕ) (text : Text) (ls : List Line) → s ≤ t → Passing t ls → Passing t (timed_lines s text ls)
passing_timed t s [] ls h p = p
passing_timed t s (c ∷ cs) ls h p = (le-ltb t s h, p)

stands_timed : (c : Text) (s : ℕ) (text : Text) (ls : List Line) → stands c (timed_lines s text ls) ≡ stands c ls
stands_timed c s [] ls = refl
stands_timed c s (b ∷ bs) ls = or_none (stands c ls)

-- ---- the frames after the first

pub seen_at : (ws : List Watched) (k : ℕ) (w : Watched) (frame : Valuation) → slice_get ws k ≡ Some w → slice_get (seen ws frame) k ≡ Some (slice_index frame w.signal)
seen_at [] k w frame a = absurd (cc)
seen_at (v ∷ ws) zero w frame a = let same : v ≡ w = cc in ap (λ (u : Watched). Some (slice_index frame u.signal)) same
seen_at (v ∷ ws) (suc k) w frame a = seen_at ws k w frame a

abbrev pub later_lines : List Watched → ℕ → List ℕ → List Valuation → List Line
later_lines ws t last [] = Time t ∷ []
later_lines ws t last (f ∷ fs) = timed_lines t (changes 0 ws last (seen ws f)) (change_lines 0 ws last (seen ws f)) ++ later_lines ws (suc t) (seen ws f) fs

abbrev pub AllFit : List Watched → List Valuation → Type 0
AllFit ws [] = Unit {0}
AllFit ws (f ∷ fs) = Fitting ws (seen ws f) × AllFit ws fs

-- none of them is read before its time
pub cut : (ws : List Watched) (q t : ℕ) (last : List ℕ) (fs : List Valuation) → q < t → AllFit ws fs → up_to q (later_lines ws t last fs) ≡ []
cut ws q t last [] h fit = ap (λ b. if b then [] else Time t ∷ []) (lt-ltb q t h)
cut ws q t last (f ∷ fs) h fit = go (changes 0 ws last (seen ws f)) (tells_changes 0 ws last (seen ws f) fit.0) (cut ws q (suc t) (seen ws f) fs (omega (arith, h)) fit.1)
  where
    go : (text : Text) → Tells text (change_lines 0 ws last (seen ws f)) → up_to q (later_lines ws (suc t) (seen ws f) fs) ≡ [] → up_to q
        (timed_lines t text (change_lines 0 ws last (seen ws f)) ++ later_lines ws (suc t) (seen ws f) fs) ≡ []
    go [] tells after = ap (λ l. up_to q (l ++ later_lines ws (suc t) (seen ws f) fs)) (none_told (change_lines 0 ws last (seen ws f)) tells) ∙ after
    go (c ∷ cs) tells after = ap (λ b. if b then [] else Time t ∷ up_to q (change_lines 0 ws last (seen ws f) ++ later_lines ws (suc t) (seen ws f) fs)) (lt-ltb q t h)

-- at its time the code stands at its number in the frame
pub follow : (ws : List Watched) (i : ℕ) (w : Watched) → slice_get ws i ≡ Some w → (d q t : ℕ) (last : List ℕ) (fs : List Valuation) (x : ℕ)
    (frame : Valuation) → q ≡ t + d → slice_get last i ≡ Some x → slice_get fs d ≡ Some frame → AllFit ws fs
    → option_or (stands (code i) (up_to q (later_lines ws t last fs))) (Some x) ≡ Some (slice_index frame w.signal)
follow ws i w is d q t last [] x frame e old at fit = absurd (cc)
follow ws i w is zero q t last (f ∷ fs) x frame e old at fit =
    let same : f ≡ frame = cc in
    let head : List Line = timed_lines t (changes 0 ws last (seen ws f)) (change_lines 0 ws last (seen ws f)) in
    let read : up_to q (head ++ later_lines ws (suc t) (seen ws f) fs) ≡ head =
    pass q head (later_lines ws (suc t) (seen ws f) fs) (passing_timed q t (changes 0 ws last (seen ws f)) (change_lines 0 ws last (seen ws f))
    (omega (arith, e)) (passing_changes q 0 ws last (seen ws f)))
    ∙ ap (λ l. head ++ l) (cut ws q (suc t) (seen ws f) fs (omega (arith, e)) fit.1) ∙ append-nil head in
    ap (λ l. option_or (stands (code i) l) (Some x)) read
    ∙ ap (λ o. option_or o (Some x)) (stands_timed (code i) t (changes 0 ws last (seen ws f)) (change_lines 0 ws last (seen ws f)))
    ∙ changes_at i 0 i ws last (seen ws f) w x (slice_index f w.signal) (omega arith) is old (seen_at ws i w f is)
    ∙ ap (λ (v : Valuation). Some (slice_index v w.signal)) same
follow ws i w is (suc d) q t last (f ∷ fs) x frame e old at fit =
    let head : List Line = timed_lines t (changes 0 ws last (seen ws f)) (change_lines 0 ws last (seen ws f)) in
    let rest : List Line = up_to q (later_lines ws (suc t) (seen ws f) fs) in
    let here : option_or (stands (code i) head) (Some x) ≡ Some (slice_index f w.signal) =
    ap (λ o. option_or o (Some x)) (stands_timed (code i) t (changes 0 ws last (seen ws f)) (change_lines 0 ws last (seen ws f)))
    ∙ changes_at i 0 i ws last (seen ws f) w x (slice_index f w.signal) (omega arith) is old (seen_at ws i w f is) in
    ap (λ l. option_or (stands (code i) l) (Some x)) (
    pass q head (later_lines ws (suc t) (seen ws f) fs) (passing_timed q t (changes 0 ws last (seen ws f)) (change_lines 0 ws last (seen ws f))
    (omega (arith, e)) (passing_changes q 0 ws last (seen ws f))))
    ∙ ap (λ o. option_or o (Some x)) (stands_more (code i) head rest)
    ∙ option_or_assoc (stands (code i) rest) (stands (code i) head) (Some x)
    ∙ ap (option_or (stands (code i) rest)) here
    ∙ follow ws i w is d q (suc t) (seen ws f) fs (slice_index f w.signal) frame (omega (arith, e)) (seen_at ws i w f is) at fit.1
