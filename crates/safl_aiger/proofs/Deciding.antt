-- A text is a circuit or has a fault.
use Rattle.safl_aiger.proofs.Common.{AigRule, Circuit, LineKind, Lit, Sort, list_all}
use Rattle.std.proofs.Common.{◌≡◌, ◌≢◌, ◌⊎◌, ℕ, zero, suc, ◌+◌, ◌*◌, ◌^◌, ◌<◌, ◌≤◌, List, [], ◌∷◌, ◌++◌, length, replicate, slice_get, Some, decimal}
use Rattle.std.proofs.Common.{codes, Bool, true, false, inl, inr, refl, sym, ap, ◌∙◌, subst, arith}
use Rattle.std.proofs.lemmas.List.{append_cancel_left}
use Rattle.safl_word.specs.Numerals.{is_digit, value, IsBounded}
use Rattle.safl_word.proofs.Naturals.{le_or_more}
use Rattle.safl_aiger.specs.declared.reading.AigRule.TheVariants.{B01, B02, B03, B04}
use Rattle.safl_aiger.specs.declared.reading.LineKind.TheVariants.{Input, Latch, Output, And}
use Rattle.safl_aiger.specs.declared.symbols.Sort.TheVariants as sorts
use Rattle.safl_aiger.specs.Lines.{text_lines, fields, IsDecimal, AreDecimals, HasNumbers}
use Rattle.safl_aiger.specs.Reads.{Counts, IsHeader, total, size, IsGood, kinds_from, line_kinds, AreGood, own_numbers, latch_numbers, output_numbers}
use Rattle.safl_aiger.specs.Reads.{and_numbers, counts_of, Named, NamesPlace, names_for, with_name, letter, symbol_line, unnamed, RefusesLine, HasHeader, AigReads}
use Rattle.safl_aiger.specs.ReadLaws.{ReadIsCircuit}
use Rattle.safl_aiger.specs.Reads.{IsBad, LineFault, SymbolFault, HasAigFault, bad_line, bad_symbol}
use Rattle.safl_aiger.specs.Symbols.{IsSmall, NamesUpTo, SymbolsPass}
use Rattle.safl_aiger.proofs.Cutting.{Free, decimals_once}
use Rattle.safl_aiger.proofs.Rereading.{decimal_free, is_decimal}
use Rattle.safl_aiger.proofs.Naming.{cut_once, letter_once, place_small, small_kept}
use Rattle.safl_aiger.proofs.Concluding.{no_header, no_line, numbers, made, reads_from, read_circuit}
use Rattle.safl_aiger.proofs.ReadOnce.{header_small, outputs_small}

-- ---- numbers and texts

abbrev Decided : Type 0 → Type 0
Decided A = A ⊎ (A → ⊥)

decide_true : (b : Bool) → Decided (b ≡ true)
decide_true true = inl refl
decide_true false = inr (λ e. cc)

decide_eq : (m n : ℕ) → Decided (m ≡ n)
decide_eq m n = by (le_or_more m n) (le_or_more n m)
  where
    by : (m ≤ n) ⊎ (n < m) → (n ≤ m) ⊎ (m < n) → Decided (m ≡ n)
    by (inl a) (inl b) = inl (omega (arith, a, b))
    by (inl a) (inr b) = inr (λ e. omega (arith, b, e))
    by (inr a) b = inr (λ e. omega (arith, a, e))

decide_list : (xs ys : List ℕ) → Decided (xs ≡ ys)
decide_list [] [] = inl refl
decide_list [] (y ∷ ys) = inr (λ e. cc)
decide_list (x ∷ xs) [] = inr (λ e. cc)
decide_list (x ∷ xs) (y ∷ ys) = by (decide_eq x y) (decide_list xs ys)
  where
    by : Decided (x ≡ y) → Decided (xs ≡ ys) → Decided ((x ∷ xs) ≡ (y ∷ ys))
    by (inl a) (inl b) = inl (λ i. a i ∷ b i)
    by (inl a) (inr b) = inr (λ e. b (let z : xs ≡ ys = cc in z))
    by (inr a) b = inr (λ e. a (let z : x ≡ y = cc in z))

decide_bounded : (w : List ℕ) → Decided (IsBounded 10 10 (2 ^ 31) w)
decide_bounded w = by (le_or_more 1 (length w)) (decide_true (list_all (is_digit 10) w)) (le_or_more (length w) 10) (le_or_more (suc (value 10 w)) (2 ^ 31))
  where
    by : (1 ≤ length w) ⊎ (length w < 1) → Decided (list_all (is_digit 10) w ≡ true) → (length w ≤ 10) ⊎ (10 < length w) → (suc (value 10 w) ≤ 2 ^ 31)
        ⊎ (2 ^ 31 < suc (value 10 w)) → Decided (IsBounded 10 10 (2 ^ 31) w)
    by (inl a) (inl b) (inl c) (inl d) = inl (record { numeral = record { some = a; digits = b }; short = c; small = omega (arith, d) })
    by (inl a) (inl b) (inl c) (inr d) = inr (λ h. let z = h.small in omega (arith, d, z))
    by (inl a) (inl b) (inr c) d = inr (λ h. let z = h.short in omega (arith, c, z))
    by (inl a) (inr b) c d = inr (λ h. b h.numeral.digits)
    by (inr a) b c d = inr (λ h. let z = h.numeral.some in omega (arith, a, z))

-- ---- lines of numbers

head_bounded : (w : List ℕ) (ws : List (List ℕ)) (ns : List ℕ) → AreDecimals (w ∷ ws) ns → IsBounded 10 10 (2 ^ 31) w
head_bounded w ws [] h = absurd h
head_bounded w ws (n ∷ ns) h = h.0.bounded

tail_decimals : (w : List ℕ) (ws : List (List ℕ)) (ns : List ℕ) → AreDecimals (w ∷ ws) ns → (ms : List ℕ) × AreDecimals ws ms
tail_decimals w ws [] h = absurd h
tail_decimals w ws (n ∷ ns) h = (ns, h.1)

abbrev Numbered : List (List ℕ) → Type 0
Numbered ws = (ns : List ℕ) × AreDecimals ws ns

decide_decimals : (ws : List (List ℕ)) → Decided (Numbered ws)
decide_decimals [] = inl ([], tt)
decide_decimals (w ∷ ws) = by (decide_bounded w) (decide_decimals ws)
  where
    by : Decided (IsBounded 10 10 (2 ^ 31) w) → Decided (Numbered ws) → Decided (Numbered (w ∷ ws))
    by (inl b) (inl d) = let i : IsDecimal w (value 10 w) = record { bounded = b; is = refl } in inl (value 10 w ∷ d.0, (i, d.1))
    by (inl b) (inr d) = inr (λ h. d (tail_decimals w ws h.0 h.1))
    by (inr b) d = inr (λ h. b (head_bounded w ws h.0 h.1))

both : (A B : Type 0) → Decided A → Decided B → Decided (A × B)
both A B (inl a) (inl b) = inl (a, b)
both A B (inl a) (inr b) = inr (λ h. b h.1)
both A B (inr a) b = inr (λ h. a h.0)

decide_low : (m n : ℕ) → Decided (m ≤ n)
decide_low m n = by (le_or_more m n)
  where
    by : (m ≤ n) ⊎ (n < m) → Decided (m ≤ n)
    by (inl h) = inl h
    by (inr h) = inr (λ e. omega (arith, h, e))

decide_under : (m n : ℕ) → Decided (m < n)
decide_under m n = by (le_or_more n m)
  where
    by : (n ≤ m) ⊎ (m < n) → Decided (m < n)
    by (inl h) = inr (λ e. omega (arith, h, e))
    by (inr h) = inl h

decide_good : (most : ℕ) (w : LineKind) (ns : List ℕ) → Decided (IsGood most w ns)
decide_good most (Input v) [] = inr (λ g. g)
decide_good most (Input v) (x ∷ []) = decide_eq x (2 * v)
decide_good most (Input v) (x ∷ (y ∷ ns)) = inr (λ g. g)
decide_good most (Latch v) [] = inr (λ g. g)
decide_good most (Latch v) (x ∷ []) = inr (λ g. g)
decide_good most (Latch v) (x ∷ (y ∷ [])) = both (x ≡ 2 * v) (y ≤ 2 * most + 1) (decide_eq x (2 * v)) (decide_low y (2 * most + 1))
decide_good most (Latch v) (x ∷ (y ∷ (z ∷ ns))) = inr (λ g. g)
decide_good most Output [] = inr (λ g. g)
decide_good most Output (x ∷ []) = decide_low x (2 * most + 1)
decide_good most Output (x ∷ (y ∷ ns)) = inr (λ g. g)
decide_good most (And v) [] = inr (λ g. g)
decide_good most (And v) (x ∷ []) = inr (λ g. g)
decide_good most (And v) (x ∷ (y ∷ [])) = inr (λ g. g)
decide_good most (And v) (x ∷ (y ∷ (z ∷ []))) = by (decide_eq x (2 * v)) (decide_under y (2 * v)) (decide_under z (2 * v))
  where
    by : Decided (x ≡ 2 * v) → Decided (y < 2 * v) → Decided (z < 2 * v) → Decided ((x ≡ 2 * v) × (y < 2 * v) × (z < 2 * v))
    by (inl a) (inl b) (inl c) = inl (a, b, c)
    by (inl a) (inl b) (inr c) = inr (λ h. c h.2)
    by (inl a) (inr b) c = inr (λ h. b h.1)
    by (inr a) b c = inr (λ h. a h.0)
decide_good most (And v) (x ∷ (y ∷ (z ∷ (u ∷ ns)))) = inr (λ g. g)

abbrev IsFine : ℕ → LineKind → List ℕ → Type 0
IsFine most w l = (ns : List ℕ) × HasNumbers l ns × IsGood most w ns

abbrev HasBad : ℕ → LineKind → List ℕ → Type 0
HasBad most w l = (e : AigRule) × IsBad most w l e

decide_line : (most : ℕ) (w : LineKind) (l : List ℕ) → IsFine most w l ⊎ HasBad most w l
decide_line most w l = by (decide_decimals (fields l))
  where
    with_numbers : (ns : List ℕ) → HasNumbers l ns → Decided (length ns ≡ size w) → Decided (IsGood most w ns) → IsFine most w l ⊎ HasBad most w l
    with_numbers ns h s (inl g) = inl (ns, h, g)
    with_numbers ns h (inl s) (inr g) = inr (B03, inr (refl, (ns, h, s, g)))
    with_numbers ns h (inr s) (inr g) = inr (B02, inl (refl, λ c. s (ap length (decimals_once (fields l) ns c.0 h c.2) ∙ c.1)))

    by : Decided (Numbered (fields l)) → IsFine most w l ⊎ HasBad most w l
    by (inl h) = with_numbers h.0 h.1 (decide_eq (length h.0) (size w)) (decide_good most w h.0)
    by (inr h) = inr (B02, inl (refl, λ c. h (c.0, c.2)))

record Passed (most : ℕ) (ws : List LineKind) (ls : List (List ℕ)) : Type 0 where
  passed : List (List ℕ)
  rest : List (List ℕ)
  nss : List (List ℕ)
  is : ls ≡ passed ++ rest
  good : AreGood most ws passed nss

abbrev HasLineFault : ℕ → List LineKind → List (List ℕ) → Type 0
HasLineFault most ws ls = (e : AigRule) × (k : ℕ) × LineFault most ws ls e k

decide_lines : (most : ℕ) (ws : List LineKind) (ls : List (List ℕ)) → Passed most ws ls ⊎ HasLineFault most ws ls
decide_lines most [] ls = inl (record { passed = []; rest = ls; nss = []; is = refl; good = tt })
decide_lines most (w ∷ ws) [] = inr (B02, 0, refl)
decide_lines most (w ∷ ws) (l ∷ ls) = by (decide_line most w l) (decide_lines most ws ls)
  where
    by : IsFine most w l ⊎ HasBad most w l → Passed most ws ls ⊎ HasLineFault most ws ls → Passed most (w ∷ ws) (l ∷ ls) ⊎ HasLineFault most (w ∷ ws) (l ∷ ls)
    by (inl a) (inl p) = inl (record { passed = l ∷ p.passed; rest = p.rest; nss = a.0 ∷ p.nss; is = ap (λ x. l ∷ x) p.is; good = (a.1, a.2, p.good) })
    by (inl a) (inr f) = inr (f.0, suc f.1, (a.0, a.1, a.2, f.2))
    by (inr b) f = inr (b.0, 0, b.1)

-- ---- the header

abbrev Stripped : List ℕ → List ℕ → Type 0
Stripped p l = (r : List ℕ) × (l ≡ p ++ r)

decide_strip : (p l : List ℕ) → Decided (Stripped p l)
decide_strip [] l = inl (l, refl)
decide_strip (x ∷ p) [] = inr (λ h. let z = h.1 in cc)
decide_strip (x ∷ p) (y ∷ l) = by (decide_eq y x) (decide_strip p l)
  where
    by : Decided (y ≡ x) → Decided (Stripped p l) → Decided (Stripped (x ∷ p) (y ∷ l))
    by (inl a) (inl r) = inl (r.0, (λ i. a i ∷ r.1 i))
    by (inl a) (inr r) = inr (λ h. r (h.0, let z : y ∷ l ≡ x ∷ (p ++ h.0) = h.1 in let q : l ≡ p ++ h.0 = cc in q))
    by (inr a) r = inr (λ h. a (let z : y ∷ l ≡ x ∷ (p ++ h.0) = h.1 in let q : y ≡ x = cc in q))

abbrev HeaderIs : List ℕ → Type 0
HeaderIs l = (c : Counts) × IsHeader l c

-- five numbers, the first of which is a sum
abbrev IsSum : List ℕ → Type 0
IsSum ns = (c : Counts) × (ns ≡ total c ∷ c.inputs ∷ c.latches ∷ c.outputs ∷ c.ands ∷ [])

abbrev five : ℕ → ℕ → ℕ → ℕ → Counts
five i l o a = record { inputs = i; latches = l; outputs = o; ands = a }

decide_sum : (ns : List ℕ) → Decided (IsSum ns)
decide_sum [] = inr (λ h. let z = h.1 in cc)
decide_sum (t ∷ []) = inr (λ h. let z = h.1 in cc)
decide_sum (t ∷ (i ∷ [])) = inr (λ h. let z = h.1 in cc)
decide_sum (t ∷ (i ∷ (l ∷ []))) = inr (λ h. let z = h.1 in cc)
decide_sum (t ∷ (i ∷ (l ∷ (o ∷ [])))) = inr (λ h. let z = h.1 in cc)
decide_sum (t ∷ (i ∷ (l ∷ (o ∷ (a ∷ []))))) = by (decide_eq t (i + l + a))
  where
    by : Decided (t ≡ i + l + a) → Decided (IsSum (t ∷ (i ∷ (l ∷ (o ∷ (a ∷ []))))))
    by (inl e) = inl (five i l o a, ap (λ x. x ∷ (i ∷ (l ∷ (o ∷ (a ∷ []))))) e)
    by (inr n) = inr (λ h. n (
        let z = h.1 in
        let et : t ≡ total h.0 = cc in
        let ei : i ≡ h.0.inputs = cc in
        let el : l ≡ h.0.latches = cc in
        let ea : a ≡ h.0.ands = cc in
        omega (arith, et, ei, el, ea)
        ))
decide_sum (t ∷ (i ∷ (l ∷ (o ∷ (a ∷ (x ∷ ns)))))) = inr (λ h. let z = h.1 in cc)

decide_header : (l : List ℕ) → Decided (HeaderIs l)
decide_header l = by (decide_strip (codes "aag ") l)
  where
    with_sum : (r ns : List ℕ) → l ≡ codes "aag " ++ r → HasNumbers r ns → Decided (IsSum ns) → Decided (HeaderIs l)
    with_sum r ns e h (inl s) = inl (s.0, (r, e, subst (λ (x : List ℕ). HasNumbers r x) s.1 h))
    with_sum r ns e h (inr s) = inr (λ k.
        let same : r ≡ k.1.0 = append_cancel_left (codes "aag ") r k.1.0 (sym e ∙ k.1.1) in
        let c = k.0 in
        let found = decimals_once (fields k.1.0) ns (total c ∷ c.inputs ∷ c.latches ∷ c.outputs ∷ c.ands ∷ []) (subst (λ (x : List ℕ). HasNumbers x ns) same h) k.1.2 in
        s (c, found))

    with_rest : (r : List ℕ) → l ≡ codes "aag " ++ r → Decided (Numbered (fields r)) → Decided (HeaderIs l)
    with_rest r e (inl n) = with_sum r n.0 e n.1 (decide_sum n.0)
    with_rest r e (inr n) = inr (λ k.
        let same : k.1.0 ≡ r = append_cancel_left (codes "aag ") k.1.0 r (sym k.1.1 ∙ e) in
        let c = k.0 in
        let ns = total c ∷ c.inputs ∷ c.latches ∷ c.outputs ∷ c.ands ∷ [] in
        n (ns, subst (λ (x : List ℕ). HasNumbers x ns) same k.1.2))

    by : Decided (Stripped (codes "aag ") l) → Decided (HeaderIs l)
    by (inl s) = with_rest s.0 s.1 (decide_decimals (fields s.0))
    by (inr s) = inr (λ k. s (k.1.0, k.1.1))

-- ---- symbols

abbrev LetterOf : ℕ → Type 0
LetterOf c = (s : Sort) × (c ≡ letter s)

decide_letter : (c : ℕ) → Decided (LetterOf c)
decide_letter c = by (decide_eq c 105) (decide_eq c 108) (decide_eq c 111)
  where
    none : ((c ≡ 105) → ⊥) → ((c ≡ 108) → ⊥) → ((c ≡ 111) → ⊥) → (s : Sort) → c ≡ letter s → ⊥
    none i l o sorts.Input e = i e
    none i l o sorts.Latch e = l e
    none i l o sorts.Output e = o e

    by : Decided (c ≡ 105) → Decided (c ≡ 108) → Decided (c ≡ 111) → Decided (LetterOf c)
    by (inl i) l o = inl (sorts.Input, i)
    by (inr i) (inl l) o = inl (sorts.Latch, l)
    by (inr i) (inr l) (inl o) = inl (sorts.Output, o)
    by (inr i) (inr l) (inr o) = inr (λ h. none i l o h.0 h.1)

-- what stands before the first space and after it
record Cut (c : ℕ) (cs : List ℕ) : Type 0 where
  before : List ℕ
  behind : List ℕ
  is : cs ≡ before ++ c ∷ behind
  free : Free c before

decide_cut : (c : ℕ) (cs : List ℕ) → Cut c cs ⊎ ((u v : List ℕ) → cs ≡ u ++ c ∷ v → ⊥)
decide_cut c [] = inr none
  where
    none : (u v : List ℕ) → [] ≡ u ++ c ∷ v → ⊥
    none [] v e = cc
    none (x ∷ u) v e = cc
decide_cut c (x ∷ cs) = by (decide_eq x c) (decide_cut c cs)
  where
    none : (x ≢ c) → ((u v : List ℕ) → cs ≡ u ++ c ∷ v → ⊥) → (u v : List ℕ) → x ∷ cs ≡ u ++ c ∷ v → ⊥
    none n r [] v e = n (let z : x ≡ c = cc in z)
    none n r (y ∷ u) v e = r u v (let z : cs ≡ u ++ c ∷ v = cc in z)

    by : Decided (x ≡ c) → Cut c cs ⊎ ((u v : List ℕ) → cs ≡ u ++ c ∷ v → ⊥) → Cut c (x ∷ cs) ⊎ ((u v : List ℕ) → x ∷ cs ≡ u ++ c ∷ v → ⊥)
    by (inl e) r = inl (record { before = []; behind = cs; is = ap (λ y. y ∷ cs) e; free = tt })
    by (inr n) (inl k) = inl (record { before = x ∷ k.before; behind = k.behind; is = ap (λ y. x ∷ y) k.is; free = (n, k.free) })
    by (inr n) (inr r) = inr (none n r)

decide_free : (xs : List (List ℕ)) (k : ℕ) → Decided (slice_get xs k ≡ Some [])
decide_free [] k = inr (λ e. cc)
decide_free ([] ∷ xs) zero = inl refl
decide_free ((c ∷ cs) ∷ xs) zero = inr (λ e. let z : (c ∷ cs) ≡ [] = cc in cc)
decide_free (x ∷ xs) (suc k) = decide_free xs k

decide_some : (v : List ℕ) → (v ≡ []) ⊎ (v ≢ [])
decide_some [] = inl refl
decide_some (c ∷ v) = inr (λ e. cc)

abbrev PlaceNamed : List ℕ → Named → Type 0
PlaceNamed l old = (new : Named) × NamesPlace l old new

decide_place : (l : List ℕ) (old : Named) → IsSmall old → PlaceNamed l old ⊎ RefusesLine l old
decide_place [] old small = inr (λ new p. let z : [] ≡ letter p.sort ∷ (decimal p.place ++ 32 ∷ p.name) = p.is in cc)
decide_place (c ∷ cs) old small = by (decide_letter c) (decide_cut 32 cs)
  where
    first : (new : Named) (p : NamesPlace (c ∷ cs) old new) → c ≡ letter p.sort
    first new p = let z : c ∷ cs ≡ letter p.sort ∷ (decimal p.place ++ 32 ∷ p.name) = p.is in cc

    others : (new : Named) (p : NamesPlace (c ∷ cs) old new) → cs ≡ decimal p.place ++ 32 ∷ p.name
    others new p = let z : c ∷ cs ≡ letter p.sort ∷ (decimal p.place ++ 32 ∷ p.name) = p.is in cc

    same : (k : Cut 32 cs) (new : Named) (p : NamesPlace (c ∷ cs) old new) → (k.before ≡ decimal p.place) × (k.behind ≡ p.name)
    same k new p =
        let l = place_small (c ∷ cs) old new p small in
        cut_once 32 k.before (decimal p.place) k.behind p.name k.free (decimal_free 32 p.place (omega arith) (omega (arith, l))) (sym k.is ∙ others new p)

    number : (k : Cut 32 cs) (new : Named) (p : NamesPlace (c ∷ cs) old new) → value 10 k.before ≡ p.place
    number k new p = ap (value 10) (same k new p).0 ∙ sym (is_decimal p.place (place_small (c ∷ cs) old new p small)).is

    made_of : (s : LetterOf c) (k : Cut 32 cs) → k.before ≡ decimal (value 10 k.before) → c ∷ cs ≡ symbol_line s.0 (value 10 k.before) k.behind
    made_of s k e = λ i. s.1 i ∷ (k.is ∙ ap (λ u. u ++ 32 ∷ k.behind) e) i

    with_parts : (s : LetterOf c) (k : Cut 32 cs) → Decided (k.before ≡ decimal (value 10 k.before)) → (k.behind ≡ []) ⊎ (k.behind ≢ []) → Decided
        (slice_get (names_for s.0 old) (value 10 k.before) ≡ Some []) → PlaceNamed (c ∷ cs) old ⊎ RefusesLine (c ∷ cs) old
    with_parts s k (inl e) (inr n) (inl f) =
        let name = with_name s.0 (value 10 k.before) k.behind old in
        let p : NamesPlace (c ∷ cs) old name = record { sort = s.0; place = value 10 k.before; name = k.behind; is = made_of s k e; free = f; some = n; sets = refl } in
        inl (name, p)
    with_parts s k (inr e) n f = inr (λ new p. e ((same k new p).0 ∙ ap decimal (sym (number k new p))))
    with_parts s k (inl e) (inl n) f = inr (λ new p. p.some (sym (same k new p).1 ∙ n))
    with_parts s k (inl e) (inr n) (inr f) = inr (λ new p. f ((λ i. slice_get (names_for (letter_once s.0 p.sort (sym s.1 ∙ first new p) i) old) (number k new p i)) ∙ p.free))

    by : Decided (LetterOf c) → Cut 32 cs ⊎ ((u v : List ℕ) → cs ≡ u ++ 32 ∷ v → ⊥) → PlaceNamed (c ∷ cs) old ⊎ RefusesLine (c ∷ cs) old
    by (inr s) k = inr (λ new p. s (p.sort, first new p))
    by (inl s) (inr k) = inr (λ new p. k (decimal p.place) p.name (others new p))
    by (inl s) (inl k) = with_parts s k (decide_list k.before (decimal (value 10 k.before))) (decide_some k.behind) (decide_free (names_for s.0 old) (value 10 k.before))

abbrev AllNamed : List (List ℕ) → Named → Type 0
AllNamed ls old = (new : Named) × SymbolsPass ls old new

abbrev HasSymbolFault : List (List ℕ) → Named → Type 0
HasSymbolFault ls old = (k : ℕ) × SymbolFault ls old k

none_named : (ls : List (List ℕ)) (old : Named) → NamesUpTo ls old old ls
none_named ls old = record { symbols = []; lines_are = refl; names = refl }

decide_symbols : (ls : List (List ℕ)) (old : Named) → IsSmall old → AllNamed ls old ⊎ HasSymbolFault ls old
decide_symbols [] old small = inl (old, ([], none_named [] old, tt))
decide_symbols (l ∷ ls) old small = by (decide_list l (codes "c")) (decide_place l old small) (λ p. decide_symbols ls p.0 (small_kept l old p.0 p.1 small))
  where
    behind : (p : PlaceNamed l old) → AllNamed ls p.0 ⊎ HasSymbolFault ls p.0 → (l ≡ codes "c" → ⊥) → AllNamed (l ∷ ls) old ⊎ HasSymbolFault (l ∷ ls) old
    behind p (inl q) n =
        let u = q.1.1 in
        let more : NamesUpTo (l ∷ ls) old q.0 q.1.0 = record { symbols = l ∷ u.symbols; lines_are = ap (λ x. l ∷ x) u.lines_are; names = (p.0, p.1, u.names) } in
        inl (q.0, (q.1.0, more, q.1.2))
    behind p (inr f) n = inr (suc f.0, (p.0, p.1, f.1))

    by : Decided (l ≡ codes "c") → PlaceNamed l old ⊎ RefusesLine l old → ((p : PlaceNamed l old) → AllNamed ls p.0 ⊎ HasSymbolFault ls p.0) → AllNamed (l ∷ ls) old ⊎ HasSymbolFault (l ∷ ls) old
    by (inl e) p rest = inl (old, (l ∷ ls, none_named (l ∷ ls) old, e))
    by (inr n) (inl p) rest = behind p (rest p) n
    by (inr n) (inr r) rest = inr (0, (n, r))

-- ---- the circuit of numbers

record Split (most : ℕ) (ws vs : List LineKind) (nss : List (List ℕ)) : Type 0 where
  first_lines : List (List ℕ)
  second_lines : List (List ℕ)
  first : List (List ℕ)
  second : List (List ℕ)
  is : nss ≡ first ++ second
  first_good : AreGood most ws first_lines first
  second_good : AreGood most vs second_lines second

split : (most : ℕ) (ws vs : List LineKind) (ls nss : List (List ℕ)) → AreGood most (ws ++ vs) ls nss → Split most ws vs nss
split most [] vs ls nss g = record { first_lines = []; second_lines = ls; first = []; second = nss; is = refl; first_good = tt; second_good = g }
split most (w ∷ ws) vs [] nss g = absurd g
split most (w ∷ ws) vs (l ∷ ls) [] g = absurd g
split most (w ∷ ws) vs (l ∷ ls) (n ∷ nss) g =
    let r = split most ws vs ls nss g.2 in
    record {
      first_lines = l ∷ r.first_lines;
      second_lines = r.second_lines;
      first = n ∷ r.first;
      second = r.second;
      is = ap (λ x. n ∷ x) r.is;
      first_good = (g.0, g.1, r.first_good);
      second_good = r.second_good;
    }

input_is : (most v : ℕ) (n : List ℕ) → IsGood most (Input v) n → n ≡ 2 * v ∷ []
input_is most v [] g = absurd g
input_is most v (x ∷ []) g = ap (λ y. y ∷ []) g
input_is most v (x ∷ (y ∷ n)) g = absurd g

inputs_are : (most f k : ℕ) (ls nss : List (List ℕ)) → AreGood most (kinds_from Input f k) ls nss → nss ≡ own_numbers f k
inputs_are most f zero [] [] g = refl
inputs_are most f zero [] (n ∷ nss) g = absurd g
inputs_are most f zero (l ∷ ls) nss g = absurd g
inputs_are most f (suc k) [] nss g = absurd g
inputs_are most f (suc k) (l ∷ ls) [] g = absurd g
inputs_are most f (suc k) (l ∷ ls) (n ∷ nss) g = λ i. input_is most f n g.1 i ∷ inputs_are most (suc f) k ls nss g.2 i

abbrev lit : ℕ → Lit
lit n = record { 0 = n }

latch_is : (most v : ℕ) (n : List ℕ) → IsGood most (Latch v) n → (l : Lit) × (n ≡ 2 * v ∷ l.0 ∷ [])
latch_is most v [] g = absurd g
latch_is most v (x ∷ []) g = absurd g
latch_is most v (x ∷ (y ∷ [])) g = (lit y, ap (λ z. z ∷ (y ∷ [])) g.0)
latch_is most v (x ∷ (y ∷ (z ∷ n))) g = absurd g

abbrev LatchesAre : ℕ → ℕ → List (List ℕ) → Type 0
LatchesAre f k nss = (xs : List Lit) × (length xs ≡ k) × (nss ≡ latch_numbers f xs)

latches_are : (most f k : ℕ) (ls nss : List (List ℕ)) → AreGood most (kinds_from Latch f k) ls nss → LatchesAre f k nss
latches_are most f zero [] [] g = ([], refl, refl)
latches_are most f zero [] (n ∷ nss) g = absurd g
latches_are most f zero (l ∷ ls) nss g = absurd g
latches_are most f (suc k) [] nss g = absurd g
latches_are most f (suc k) (l ∷ ls) [] g = absurd g
latches_are most f (suc k) (l ∷ ls) (n ∷ nss) g =
    let h = latch_is most f n g.1 in
    let r = latches_are most (suc f) k ls nss g.2 in
    (h.0 ∷ r.0, ap suc r.1, (λ i. h.1 i ∷ r.2 i))

output_is : (most : ℕ) (n : List ℕ) → IsGood most Output n → (l : Lit) × (n ≡ l.0 ∷ [])
output_is most [] g = absurd g
output_is most (x ∷ []) g = (lit x, refl)
output_is most (x ∷ (y ∷ n)) g = absurd g

abbrev OutputsAre : ℕ → List (List ℕ) → Type 0
OutputsAre k nss = (xs : List Lit) × (length xs ≡ k) × (nss ≡ output_numbers xs)

outputs_are : (most k : ℕ) (ls nss : List (List ℕ)) → AreGood most (replicate k Output) ls nss → OutputsAre k nss
outputs_are most zero [] [] g = ([], refl, refl)
outputs_are most zero [] (n ∷ nss) g = absurd g
outputs_are most zero (l ∷ ls) nss g = absurd g
outputs_are most (suc k) [] nss g = absurd g
outputs_are most (suc k) (l ∷ ls) [] g = absurd g
outputs_are most (suc k) (l ∷ ls) (n ∷ nss) g =
    let h = output_is most n g.1 in
    let r = outputs_are most k ls nss g.2 in
    (h.0 ∷ r.0, ap suc r.1, (λ i. h.1 i ∷ r.2 i))

and_is : (most v : ℕ) (n : List ℕ) → IsGood most (And v) n → (p : Lit × Lit) × (n ≡ 2 * v ∷ p.0.0 ∷ p.1.0 ∷ [])
and_is most v [] g = absurd g
and_is most v (x ∷ []) g = absurd g
and_is most v (x ∷ (y ∷ [])) g = absurd g
and_is most v (x ∷ (y ∷ (z ∷ []))) g = ((lit y, lit z), ap (λ u. u ∷ (y ∷ (z ∷ []))) g.0)
and_is most v (x ∷ (y ∷ (z ∷ (u ∷ n)))) g = absurd g

abbrev AndsAre : ℕ → ℕ → List (List ℕ) → Type 0
AndsAre f k nss = (xs : List (Lit × Lit)) × (length xs ≡ k) × (nss ≡ and_numbers f xs)

ands_are : (most f k : ℕ) (ls nss : List (List ℕ)) → AreGood most (kinds_from And f k) ls nss → AndsAre f k nss
ands_are most f zero [] [] g = ([], refl, refl)
ands_are most f zero [] (n ∷ nss) g = absurd g
ands_are most f zero (l ∷ ls) nss g = absurd g
ands_are most f (suc k) [] nss g = absurd g
ands_are most f (suc k) (l ∷ ls) [] g = absurd g
ands_are most f (suc k) (l ∷ ls) (n ∷ nss) g =
    let h = and_is most f n g.1 in
    let r = ands_are most (suc f) k ls nss g.2 in
    (h.0 ∷ r.0, ap suc r.1, (λ i. h.1 i ∷ r.2 i))

record Rebuilt (c : Counts) (nss : List (List ℕ)) : Type 0 where
  nexts : List Lit
  outputs : List Lit
  ands : List (Lit × Lit)
  nexts_long : length nexts ≡ c.latches
  outputs_long : length outputs ≡ c.outputs
  ands_long : length ands ≡ c.ands
  is : nss ≡ numbers c nexts outputs ands

rebuilt : (c : Counts) (ls nss : List (List ℕ)) → AreGood (total c) (line_kinds c) ls nss → Rebuilt c nss
rebuilt c ls nss g =
    let most = total c in
    let one = kinds_from Input 1 c.inputs in
    let two = kinds_from Latch (1 + c.inputs) c.latches in
    let three : List LineKind = replicate c.outputs Output in
    let four = kinds_from And (1 + c.inputs + c.latches) c.ands in
    let p = split most one (two ++ (three ++ four)) ls nss g in
    let q = split most two (three ++ four) p.second_lines p.second p.second_good in
    let r = split most three four q.second_lines q.second q.second_good in
    let i = inputs_are most 1 c.inputs p.first_lines p.first p.first_good in
    let l = latches_are most (1 + c.inputs) c.latches q.first_lines q.first q.first_good in
    let o = outputs_are most c.outputs r.first_lines r.first r.first_good in
    let a = ands_are most (1 + c.inputs + c.latches) c.ands r.second_lines r.second r.second_good in
    record {
      nexts = l.0;
      outputs = o.0;
      ands = a.0;
      nexts_long = l.1;
      outputs_long = o.1;
      ands_long = a.1;
      is = p.is ∙ (λ z. i z ++ (q.is ∙ (λ y. l.2 y ++ (r.is ∙ (λ x. o.2 x ++ a.2 x)) y)) z);
    }

-- ---- the whole text

abbrev Read : List ℕ → Type 0
Read text = (a : Circuit) × AigReads text a

abbrev Failed : List ℕ → Type 0
Failed text = (e : AigRule) × (n : ℕ) × HasAigFault text e n

pub reads_or_fails : (text : List ℕ) → Read text ⊎ Failed text
reads_or_fails text = by (text_lines text) refl
  where
    named : (c : Counts) (ls : List (List ℕ)) (b : HasHeader text c ls) (p : Passed (total c) (line_kinds c) ls) → AllNamed p.rest (unnamed c) ⊎
        HasSymbolFault p.rest (unnamed c) → Read text ⊎ Failed text
    named c ls b p (inl q) =
        let u = q.1.1 in
        let r = rebuilt c p.passed p.nss p.good in
        let lines_are : ls ≡ p.passed ++ (u.symbols ++ q.1.0) = p.is ∙ ap (λ x. p.passed ++ x) u.lines_are in
        let begins = subst (λ (x : List (List ℕ)). HasHeader text c x) lines_are b in
        let good = subst (λ (x : List (List ℕ)). AreGood (total c) (line_kinds c) p.passed x) r.is p.good in
        let small : c.outputs < 2 ^ 31 = outputs_small b.head c b.header in
        inl (
          made c.inputs r.nexts r.outputs r.ands q.0,
          reads_from text c p.passed u.symbols q.1.0 r.nexts r.outputs r.ands q.0 small r.nexts_long
              r.outputs_long r.ands_long begins good u.names q.1.2,
        )
    named c ls b p (inr f) = inr (B04, 2 + length p.passed + f.0, bad_symbol c p.passed p.rest p.nss f.0 (subst (λ (x : List (List ℕ)). HasHeader text c x) p.is b) p.good f.1 refl refl)

    lined : (c : Counts) (ls : List (List ℕ)) → HasHeader text c ls → Passed (total c) (line_kinds c) ls ⊎ HasLineFault (total c) (line_kinds c) ls → Read text ⊎ Failed text
    lined c ls b (inl p) = named c ls b p (decide_symbols p.rest (unnamed c) (header_small b.head c b.header))
    lined c ls b (inr f) = inr (f.0, 2 + f.1, bad_line c ls f.1 b f.2 refl)

    headed : (l : List ℕ) (ls : List (List ℕ)) → text_lines text ≡ l ∷ ls → Decided (HeaderIs l) → Read text ⊎ Failed text
    headed l ls e (inl h) = lined h.0 ls (record { head = l; lines_are = e; header = h.1 }) (decide_lines (total h.0) (line_kinds h.0) ls)
    headed l ls e (inr h) = inr (B01, 1, no_header text l ls e (λ c k. h (c, k)))

    by : (ls : List (List ℕ)) → text_lines text ≡ ls → Read text ⊎ Failed text
    by [] e = inr (B01, 1, no_line text e)
    by (l ∷ ls) e = headed l ls e (decide_header l)

pub read_is_circuit : ReadIsCircuit
read_is_circuit text a r = read_circuit text a (outputs_small r.begins.head (counts_of a) r.begins.header) r
