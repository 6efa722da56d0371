-- Pieces, words and lines of a text.
use Rattle.std.proofs.Common.{◌≡◌, ℕ, zero, suc, ◌+◌, ◌-◌, ◌<◌, ◌≤◌, ◌⊎◌, List, [], ◌∷◌, ◌++◌, length, take, drop, Bool, true, false, not, ◌==◌, refl, sym, ap, subst, ◌∙◌, arith, inl, inr}
use Rattle.std.specs.Prelude.{All}
use Rattle.std.specs.List.{join_with_byte}
use Rattle.std.proofs.lemmas.Bool.{and_parts, and_from, eqb-true, eq-eqb, true≢false, false≢true}
use Rattle.std.proofs.lemmas.List.{append-nil, length-append, take-append-drop, take_all}
use Rattle.std.proofs.lemmas.List.Elements.{All-nil, All-cons, All-head, All-tail}
use Rattle.safl_word.specs.Runs.{IsRun, EndsRun}
use Rattle.safl_word.proofs.Lexemes.{same_head, same_tail}
use Rattle.safl_session.specs.Pieces.{Lacks, AreBetween, some_of, ended_of, HasWords, HasLines, IsCut, Blank, StartsWith}

-- a byte that doesn't differ is the same
same_byte : (x c : ℕ) → not (x == c) ≡ false → x ≡ c
same_byte x c e = by (x == c) refl e
  where
    by : (b : Bool) → (x == c) ≡ b → not b ≡ false → x ≡ c
    by true q f = eqb-true x c q
    by false q f = absurd (true≢false f)

differs : (x c : ℕ) → (x == c) ≡ false → not (x == c) ≡ true
differs x c e = ap not e

-- the byte after a run stands at its end
ends_at : (c : ℕ) (text : List ℕ) (n : ℕ) → EndsRun (λ x. not (x == c)) (drop n text) → n < length text → text ≡ take n text ++ c ∷ drop (n + 1) text
ends_at c [] n e h = absurd (omega (arith, h))
ends_at c (x ∷ text) zero e h = ap (λ y. y ∷ text) (same_byte x c e)
ends_at c (x ∷ text) (suc n) e h = ap (λ l. x ∷ l) (ends_at c text n e (omega (arith, h))) ∙ ap (λ k. x ∷ (take n text ++ c ∷ drop k (x ∷ text))) (let z : suc (n + 1) ≡ suc n + 1 = omega arith in z)

drop_long : (xs : List ℕ) (n : ℕ) → n ≤ length xs → length (drop n xs) + n ≡ length xs
drop_long xs zero h = omega arith
drop_long [] (suc n) h = absurd (omega (arith, h))
drop_long (x ∷ xs) (suc n) h = let e = drop_long xs n (omega (arith, h)) in omega (arith, e)

-- a text is cut at the end of the run without the byte
behind_all : (text : List ℕ) (n : ℕ) → n < length text → take (length text - (n + 1)) (drop (n + 1) text) ≡ drop (n + 1) text
behind_all text n h = let e = drop_long text (n + 1) (omega (arith, h)) in take_all (length text - (n + 1)) (drop (n + 1) text) (omega (arith, e))

pub cut_short : (c : ℕ) (text : List ℕ) (n : ℕ) → IsRun (λ x. not (x == c)) text n → n < length text → IsCut c text (take n text) (take (length text - (n + 1)) (drop (n + 1) text))
cut_short c text n run h = record {
  lacks = run.passes;
  is = inl (ends_at c text n run.ends h ∙ ap (λ l. take n text ++ c ∷ l) (sym (behind_all text n h)));
}

pub cut_long : (c : ℕ) (text piece behind : List ℕ) → IsCut c text piece behind → (length behind ≤ length text) × (0 < length text → length behind < length text) × (length piece ≤ length text)
cut_long c text piece behind cut = by cut.is
  where
    by : (text ≡ piece ++ c ∷ behind) ⊎ ((text ≡ piece) × (behind ≡ [])) → (length behind ≤ length text) × (0 < length text → length behind < length text) × (length piece ≤ length text)
    by (inl e) = let a = ap length e ∙ length-append piece (c ∷ behind) in (omega (arith, a), (λ h. omega (arith, a)), omega (arith, a))
    by (inr e) = let a = ap length e.0 in let b : length behind ≡ 0 = ap length e.1 in (omega (arith, b), (λ h. omega (arith, b, h)), omega (arith, a))

-- pieces one after another
pub between_cons : (c : ℕ) (piece rest : List ℕ) (ps : List (List ℕ)) → Lacks c piece → AreBetween c rest ps → AreBetween c (piece ++ c ∷ rest) (piece ∷ ps)
between_cons c piece rest [] lacks b = absurd (let s = b.some in omega (arith, s))
between_cons c piece rest (p ∷ ps) lacks b = record {
  apart = All-cons (Lacks c) piece (p ∷ ps) lacks b.apart;
  some = omega arith;
  joined = ap (λ l. piece ++ c ∷ l) b.joined;
}

pub between_one : (c : ℕ) (piece : List ℕ) → Lacks c piece → AreBetween c piece (piece ∷ [])
between_one c piece lacks = record { apart = All-cons (Lacks c) piece [] lacks (All-nil (Lacks c)); some = omega arith; joined = refl }

-- each text has pieces
longer : (c x : ℕ) (text : List ℕ) (ps : List (List ℕ)) → (x == c) ≡ false → AreBetween c text ps → (qs : List (List ℕ)) × AreBetween c (x ∷ text) qs
longer c x text [] e b = absurd (let s = b.some in omega (arith, s))
longer c x text (p ∷ ps) e b = (
  (x ∷ p) ∷ ps,
  record {
    apart = All-cons (Lacks c) (x ∷ p) ps (and_from _ _ (differs x c e) (All-head (Lacks c) p ps b.apart)) (All-tail (Lacks c) p ps b.apart);
    some = omega arith;
    joined = ap (λ l. x ∷ l) b.joined ∙ joins ps;
  },
)
  where
    joins : (ps : List (List ℕ)) → x ∷ join_with_byte c (p ∷ ps) ≡ join_with_byte c ((x ∷ p) ∷ ps)
    joins [] = refl
    joins (q ∷ ps) = refl

pub pieces : (c : ℕ) (text : List ℕ) → (ps : List (List ℕ)) × AreBetween c text ps
pieces c [] = ([] ∷ [], between_one c [] refl)
pieces c (x ∷ text) = by (x == c) refl (pieces c text)
  where
    by : (b : Bool) → (x == c) ≡ b → ((ps : List (List ℕ)) × AreBetween c text ps) → (ps : List (List ℕ)) × AreBetween c (x ∷ text) ps
    by true e p = ([] ∷ p.0, subst (λ y. AreBetween c (y ∷ text) ([] ∷ p.0)) (sym (eqb-true x c e)) (between_cons c [] text p.0 refl p.1))
    by false e p = longer c x text p.0 e p.1

-- and no others
has_byte : (c : ℕ) (p rest : List ℕ) → Lacks c (p ++ c ∷ rest) → ⊥
has_byte c [] rest h = let a = (and_parts _ _ h).0 in false≢true (sym (ap not (eq-eqb c c refl)) ∙ a)
has_byte c (x ∷ p) rest h = has_byte c p rest (and_parts _ _ h).1

record SameParts (p q r s : List ℕ) : Type 0 where
  first : p ≡ q
  rest : r ≡ s

same_parts : (c : ℕ) (p q r s : List ℕ) → Lacks c p → Lacks c q → p ++ c ∷ r ≡ q ++ c ∷ s → SameParts p q r s
same_parts c [] [] r s a b e = record { first = refl; rest = same_tail c c r s e }
same_parts c [] (y ∷ q) r s a b e = absurd (false≢true (sym (ap not (eq-eqb y c (sym (same_head c y r (q ++ c ∷ s) e)))) ∙ (and_parts _ _ b).0))
same_parts c (x ∷ p) [] r s a b e = absurd (false≢true (sym (ap not (eq-eqb x c (same_head x c (p ++ c ∷ r) s e))) ∙ (and_parts _ _ a).0))
same_parts c (x ∷ p) (y ∷ q) r s a b e =
    let h = same_parts c p q r s (and_parts _ _ a).1 (and_parts _ _ b).1 (same_tail x y (p ++ c ∷ r) (q ++ c ∷ s) e) in
    record { first = ap (λ z. z ∷ p) (same_head x y (p ++ c ∷ r) (q ++ c ∷ s) e) ∙ ap (λ l. y ∷ l) h.first; rest = h.rest }

joins_once : (c : ℕ) (p q : List ℕ) (ps qs : List (List ℕ)) → All (Lacks c) (p ∷ ps) → All (Lacks c) (q ∷ qs) → join_with_byte c (p ∷ ps) ≡ join_with_byte c (q ∷ qs) → p ∷ ps ≡ q ∷ qs
joins_once c p q [] [] a b e = ap (λ l. l ∷ []) e
joins_once c p q [] (q' ∷ qs) a b e = absurd (has_byte c q (join_with_byte c (q' ∷ qs)) (subst (Lacks c) e (All-head (Lacks c) p [] a)))
joins_once c p q (p' ∷ ps) [] a b e = absurd (has_byte c p (join_with_byte c (p' ∷ ps)) (subst (Lacks c) (sym e) (All-head (Lacks c) q [] b)))
joins_once c p q (p' ∷ ps) (q' ∷ qs) a b e =
    let h = same_parts c p q (join_with_byte c (p' ∷ ps)) (join_with_byte c (q' ∷ qs)) (All-head (Lacks c) p (p' ∷ ps) a) (All-head (Lacks c) q (q' ∷ qs) b) e in
    let r = joins_once c p' q' ps qs (All-tail (Lacks c) p (p' ∷ ps) a) (All-tail (Lacks c) q (q' ∷ qs) b) h.rest in
    ap (λ l. l ∷ p' ∷ ps) h.first ∙ ap (λ l. q ∷ l) r

pub between_once : (c : ℕ) (text : List ℕ) (ps qs : List (List ℕ)) → AreBetween c text ps → AreBetween c text qs → ps ≡ qs
between_once c text [] qs a b = absurd (let s = a.some in omega (arith, s))
between_once c text (p ∷ ps) [] a b = absurd (let s = b.some in omega (arith, s))
between_once c text (p ∷ ps) (q ∷ qs) a b = joins_once c p q ps qs a.apart b.apart (sym a.joined ∙ b.joined)

-- words
pub words_of : (line : List ℕ) → (ws : List (List ℕ)) × HasWords line ws
words_of line = let p = pieces 32 line in (some_of p.0, (p.0, p.1, refl))

pub words_once : (line : List ℕ) (us ws : List (List ℕ)) → HasWords line us → HasWords line ws → us ≡ ws
words_once line us ws a b = a.2 ∙ ap some_of (between_once 32 line a.0 b.0 a.1 b.1) ∙ sym b.2

some_cons : (w : List ℕ) (ps : List (List ℕ)) → 0 < length w → some_of (w ∷ ps) ≡ w ∷ some_of ps
some_cons [] ps h = absurd (omega (arith, h))
some_cons (x ∷ w) ps h = refl

no_words : HasWords [] []
no_words = ([] ∷ [], between_one 32 [] refl, refl)

spaced : (spaces rest : List ℕ) (ws : List (List ℕ)) → Blank spaces → HasWords rest ws → HasWords (spaces ++ rest) ws
spaced [] rest ws blank h = h
spaced (x ∷ spaces) rest ws blank h =
    let a = and_parts _ _ blank in
    let m = spaced spaces rest ws a.1 h in
    subst (λ y. HasWords (y ∷ (spaces ++ rest)) ws) (sym (eqb-true x 32 a.0)) ([] ∷ m.0, between_cons 32 [] (spaces ++ rest) m.0 refl m.1, m.2)

pub blank_words : (text : List ℕ) → Blank text → HasWords text []
blank_words text blank = subst (λ l. HasWords l []) (append-nil text) (spaced text [] [] blank no_words)

cut_words : (rest word behind : List ℕ) (ws : List (List ℕ)) → IsCut 32 rest word behind → 0 < length word → HasWords behind ws → HasWords rest (word ∷ ws)
cut_words rest word behind ws cut some h = by cut.is
  where
    by : (rest ≡ word ++ 32 ∷ behind) ⊎ ((rest ≡ word) × (behind ≡ [])) → HasWords rest (word ∷ ws)
    by (inl e) = subst (λ l. HasWords l (word ∷ ws)) (sym e) (word ∷ h.0, between_cons 32 word behind h.0 cut.lacks h.1, ap (λ l. word ∷ l) h.2 ∙ sym (some_cons word h.0 some))
    by (inr e) =
        let none : ws ≡ [] = words_once [] ws [] (subst (λ l. HasWords l ws) e.1 h) no_words in
        subst (λ l. HasWords l (word ∷ ws)) (sym e.0) (word ∷ [], between_one 32 word cut.lacks, ap (λ l. word ∷ l) none ∙ sym (some_cons word [] some))

pub first_word : (text word behind : List ℕ) → StartsWith text word behind → (ws : List (List ℕ)) → HasWords behind ws → HasWords text (word ∷ ws)
first_word text word behind s ws h = subst (λ l. HasWords l (word ∷ ws)) (sym s.is) (spaced s.spaces s.rest (word ∷ ws) s.blank (cut_words s.rest word behind ws s.cut s.some h))

-- what follows a word is shorter
pub behind_long : (text word behind : List ℕ) → StartsWith text word behind → length behind < length text
behind_long text word behind s =
    let a = ap length s.is ∙ length-append s.spaces s.rest in
    let b = cut_long 32 s.rest word behind s.cut in
    let c = s.some in
    let d = b.1 (let e = b.2 in omega (arith, c, e)) in
    omega (arith, a, d)

-- the first word of what follows the spaces
pub starts_with : (text rest word behind : List ℕ) (k : ℕ) → IsRun (λ c. c == 32) text k → rest ≡ drop k text → 0 < length rest → IsCut 32 rest word behind → StartsWith text word behind
starts_with text rest word behind k run r some cut = record {
  spaces = take k text;
  rest = rest;
  blank = run.passes;
  is = sym (take-append-drop k text) ∙ ap (λ l. take k text ++ l) (sym r);
  cut = cut;
  some = by word cut (subst (EndsRun (λ c. c == 32)) (sym r) run.ends);
}
  where
    space : (rest : List ℕ) → 0 < length rest → EndsRun (λ c. c == 32) rest → rest ≡ 32 ∷ behind → ⊥
    space [] h e q = omega (arith, h)
    space (x ∷ rest) h e q = true≢false (sym (eq-eqb x 32 (same_head x 32 rest behind q)) ∙ e)

    by : (word : List ℕ) → IsCut 32 rest word behind → EndsRun (λ c. c == 32) rest → 0 < length word
    by (x ∷ word) cut e = omega arith
    by [] cut e = on cut.is
      where
        on : (rest ≡ [] ++ 32 ∷ behind) ⊎ ((rest ≡ []) × (behind ≡ [])) → 0 < 0
        on (inl q) = absurd (space rest some e q)
        on (inr q) = absurd (let z : length rest ≡ 0 = ap length q.0 in omega (arith, z, some))

-- lines
pub lines_of : (text : List ℕ) → (ls : List (List ℕ)) × HasLines text ls
lines_of text = let p = pieces 10 text in (ended_of p.0, (p.0, p.1, refl))

pub lines_once : (text : List ℕ) (ks ls : List (List ℕ)) → HasLines text ks → HasLines text ls → ks ≡ ls
lines_once text ks ls a b = a.2 ∙ ap ended_of (between_once 10 text a.0 b.0 a.1 b.1) ∙ sym b.2

pub no_lines : HasLines [] []
no_lines = ([] ∷ [], between_one 10 [] refl, refl)

ended_cons : (line : List ℕ) (ps : List (List ℕ)) → 0 < length ps → ended_of (line ∷ ps) ≡ line ∷ ended_of ps
ended_cons line [] h = absurd (omega (arith, h))
ended_cons [] (p ∷ ps) h = refl
ended_cons (x ∷ line) (p ∷ ps) h = refl

ended_one : (line : List ℕ) → 0 < length line → ended_of (line ∷ []) ≡ line ∷ []
ended_one [] h = absurd (omega (arith, h))
ended_one (x ∷ line) h = refl

pub first_line : (text line behind : List ℕ) → 0 < length text → IsCut 10 text line behind → (ls : List (List ℕ)) → HasLines behind ls → HasLines text (line ∷ ls)
first_line text line behind some cut ls h = by cut.is
  where
    by : (text ≡ line ++ 10 ∷ behind) ⊎ ((text ≡ line) × (behind ≡ [])) → HasLines text (line ∷ ls)
    by (inl e) = subst (λ l. HasLines l (line ∷ ls)) (sym e) (line ∷ h.0, between_cons 10 line behind h.0 cut.lacks h.1, ap (λ l. line ∷ l) h.2 ∙ sym (ended_cons line h.0 h.1.some))
    by (inr e) =
        let none : ls ≡ [] = lines_once [] ls [] (subst (λ l. HasLines l ls) e.1 h) no_lines in
        let a : length text ≡ length line = ap length e.0 in
        subst (λ l. HasLines l (line ∷ ls)) (sym e.0) (line ∷ [], between_one 10 line cut.lacks, ap (λ l. line ∷ l) none ∙ sym (ended_one line (omega (arith, some, a))))
