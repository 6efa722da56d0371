-- Spots: what they are of, and what they have seen.
use Rattle.safl_probe.proofs.Common.{Entry, Spot, Valuation, Watched, drop-cons, seen}
use Rattle.std.proofs.Common.{◌≡◌, ℕ, zero, suc, ◌+◌, ◌<◌, ◌≤◌, List, [], ◌∷◌, ◌++◌, length, take, drop, map, get_or, Option, Some, slice_get, slice_set, slice_index, codes}
use Rattle.std.proofs.Common.{refl, sym, ap, ◌∙◌, add-one, arith}
use Rattle.safl_probe.specs.Texts.{Text, value_text, value_texts, changed, changes, time, timed, dump, start_lines, toggled}
use Rattle.safl_probe.specs.Entries.{watched_in, watched_all, spot_of, name_of, named, watched_from, nameless, numbers, looked, looked_all}

-- ---- spots of entries are of the same signals

get_at : {A : Type 0} (xs : List A) (k : ℕ) (x : A) (rest : List A) → drop k xs ≡ x ∷ rest → slice_get xs k ≡ Some x
get_at [] zero x rest h = absurd (cc)
get_at [] (suc k) x rest h = absurd (cc)
get_at (y ∷ xs) zero x rest h = let same : y ≡ x = cc in ap Some same
get_at (y ∷ xs) (suc k) x rest h = get_at xs k x rest h

next_at : {A : Type 0} (xs : List A) (k : ℕ) (x : A) (rest : List A) → drop k xs ≡ x ∷ rest → drop (suc k) xs ≡ rest
next_at [] zero x rest h = absurd (cc)
next_at [] (suc k) x rest h = absurd (cc)
next_at (y ∷ xs) zero x rest h = cc
next_at (y ∷ xs) (suc k) x rest h = next_at xs k x rest h

pub drop_none : {A : Type 0} (xs : List A) → drop 0 xs ≡ xs
drop_none [] = refl
drop_none (x ∷ xs) = refl

pub watched_spots : (k : ℕ) (all es : List Entry) → drop k all ≡ es → watched_from k all (map spot_of es) ≡ watched_all es
watched_spots k all [] h = refl
watched_spots k all (e ∷ es) h =
    ap (λ (o : Option Entry). named (name_of o) (spot_of e) ∷ watched_from (suc k) all (map spot_of es)) (get_at all k e es h)
    ∙ ap (λ (l : List Watched). watched_in e ∷ l) (watched_spots (suc k) all es (next_at all k e es h))

-- ---- numbers and changes are written without names

values_named : (i k : ℕ) (es : List Entry) (ss : List Spot) (now : List ℕ) → value_texts i (nameless ss) now ≡ value_texts i (watched_from k es ss) now
values_named i k es [] now = refl
values_named i k es (s ∷ ss) [] = refl
values_named i k es (s ∷ ss) (x ∷ now) = ap (λ (l : Text). value_text i s.width x ++ l) (values_named (suc i) (suc k) es ss now)

changes_named : (i k : ℕ) (es : List Entry) (ss : List Spot) (last now : List ℕ) → changes i (nameless ss) last now ≡ changes i (watched_from k es ss) last now
changes_named i k es [] last now = refl
changes_named i k es (s ∷ ss) [] now = refl
changes_named i k es (s ∷ ss) (x ∷ last) [] = refl
changes_named i k es (s ∷ ss) (x ∷ last) (y ∷ now) = ap (λ (l : Text). changed i s.width x y ++ l) (changes_named (suc i) (suc k) es ss last now)

pub seen_named : (k : ℕ) (es : List Entry) (ss : List Spot) (frame : Valuation) → seen (nameless ss) frame ≡ seen (watched_from k es ss) frame
seen_named k es [] frame = refl
seen_named k es (s ∷ ss) frame = ap (λ (l : List ℕ). slice_index frame s.signal ∷ l) (seen_named (suc k) es ss frame)

-- ---- after a frame

pub same_named : (k : ℕ) (es : List Entry) (ss : List Spot) (frame : Valuation) → watched_from k es (looked_all frame ss) ≡ watched_from k es ss
same_named k es [] frame = refl
same_named k es (s ∷ ss) frame = ap (λ (l : List Watched). named (name_of (slice_get es k)) s ∷ l) (same_named (suc k) es ss frame)

pub new_numbers : (k : ℕ) (es : List Entry) (ss : List Spot) (frame : Valuation) → numbers (looked_all frame ss) ≡ seen (watched_from k es ss) frame
new_numbers k es [] frame = refl
new_numbers k es (s ∷ ss) frame = ap (λ (l : List ℕ). slice_index frame s.signal ∷ l) (new_numbers (suc k) es ss frame)

pub dump_is : (t : ℕ) (es : List Entry) (ss now : List Spot) (frame : Valuation) → now ≡ looked_all frame ss
    → dump t (nameless now) (numbers now) ≡ dump t (watched_from 0 es ss) (seen (watched_from 0 es ss) frame)
dump_is t es ss now frame after =
    ap (λ (l : Text). time t ++ codes "$dumpvars\n" ++ l ++ codes "$end\n") (values_named 0 0 es now (numbers now))
    ∙ ap (λ (l : List Spot). dump t (watched_from 0 es l) (numbers l)) after
    ∙ ap (λ (l : List Watched). dump t l (numbers (looked_all frame ss))) (same_named 0 es ss frame)
    ∙ ap (dump t (watched_from 0 es ss)) (new_numbers 0 es ss frame)

pub starts_are : (t : ℕ) (es : List Entry) (ss now : List Spot) (frame : Valuation) → now ≡ looked_all frame ss
    → start_lines t (watched_from 0 es now) (numbers now) ≡ start_lines t (watched_from 0 es ss) (seen (watched_from 0 es ss) frame)
starts_are t es ss now frame after =
    ap (λ (l : List Spot). start_lines t (watched_from 0 es l) (numbers l)) after
    ∙ ap (λ (l : List Watched). start_lines t l (numbers (looked_all frame ss))) (same_named 0 es ss frame)
    ∙ ap (start_lines t (watched_from 0 es ss)) (new_numbers 0 es ss frame)

pub changes_are : (t : ℕ) (es : List Entry) (ss : List Spot) (frame : Valuation)
    → timed t (changes 0 (nameless ss) (numbers ss) (seen (nameless ss) frame)) ≡ timed t (changes 0 (watched_from 0 es ss) (numbers ss) (seen (watched_from 0 es ss) frame))
changes_are t es ss frame =
    ap (timed t) (ap (changes 0 (nameless ss) (numbers ss)) (seen_named 0 es ss frame) ∙ changes_named 0 0 es ss (numbers ss) (seen (watched_from 0 es ss) frame))

pub toggles_are : (es : List Entry) (ss : List Spot) (frame : Valuation)
    → toggled (numbers ss) (seen (nameless ss) frame) ≡ toggled (numbers ss) (seen (watched_from 0 es ss) frame)
toggles_are es ss frame = ap (toggled (numbers ss)) (seen_named 0 es ss frame)

-- ---- the first so many have seen a frame

abbrev pub looked_first : Valuation → List Spot → ℕ → List Spot
looked_first frame ss i = looked_all frame (take i ss) ++ drop i ss

first_at : (frame : Valuation) (ss : List Spot) (i : ℕ) (d : Spot) → i < length ss → get_or (looked_first frame ss i) i d ≡ get_or ss i d
first_at frame [] i d within = absurd (omega (arith, within))
first_at frame (s ∷ ss) zero d within = refl
first_at frame (s ∷ ss) (suc i) d within = first_at frame ss i d (omega (arith, within))

first_more : (frame : Valuation) (ss : List Spot) (i : ℕ) (d : Spot) → i < length ss
    → slice_set (looked_first frame ss i) i (looked frame (get_or ss i d)) ≡ looked_first frame ss (suc i)
first_more frame [] i d within = absurd (omega (arith, within))
first_more frame (s ∷ ss) zero d within = refl
first_more frame (s ∷ ss) (suc i) d within = ap (λ (l : List Spot). looked frame s ∷ l) (first_more frame ss i d (omega (arith, within)))

pub first_all : (frame : Valuation) (ss : List Spot) (i : ℕ) → length ss ≤ i → looked_first frame ss i ≡ looked_all frame ss
first_all frame [] zero all = refl
first_all frame [] (suc i) all = refl
first_all frame (s ∷ ss) zero all = absurd (omega (arith, all))
first_all frame (s ∷ ss) (suc i) all = ap (λ (l : List Spot). looked frame s ∷ l) (first_all frame ss i (omega (arith, all)))

-- what stands past the last
abbrev pub no_spot : Spot
no_spot = record { signal = 0; width = 0; number = 0 }

-- the next one, as it was before
pub spot_at : (frame : Valuation) (ss now : List Spot) (i : ℕ) → now ≡ looked_first frame ss i → i < length ss → get_or now i no_spot ≡ get_or ss i no_spot
spot_at frame ss now i before within = ap (λ (l : List Spot). get_or l i no_spot) before ∙ first_at frame ss i no_spot within

pub spots_from : (frame : Valuation) (ss now : List Spot) (i : ℕ) → now ≡ looked_first frame ss i → i < length ss → drop i ss ≡ get_or now i no_spot ∷ drop (suc i) ss
spots_from frame ss now i before within = drop-cons ss i no_spot within ∙ ap (λ (s : Spot). s ∷ drop (suc i) ss) (sym (spot_at frame ss now i before within))

-- one more has
pub look_more : (frame : Valuation) (ss now : List Spot) (i : ℕ) (new : Spot) → now ≡ looked_first frame ss i → i < length ss → new ≡ looked frame (get_or now i no_spot)
    → slice_set now i new ≡ looked_first frame ss (i + 1)
look_more frame ss now i new before within after =
    ap (λ (l : List Spot). slice_set l i new) before
    ∙ ap (slice_set (looked_first frame ss i) i) (after ∙ ap (looked frame) (spot_at frame ss now i before within))
    ∙ first_more frame ss i no_spot within
    ∙ ap (looked_first frame ss) (sym (add-one i))
