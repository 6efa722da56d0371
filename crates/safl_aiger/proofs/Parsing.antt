-- A line that is cut at its first space, and the symbol that it is.
use Rattle.safl_aiger.proofs.Common.{Sort, nat_tests}
use Rattle.std.proofs.Common.{◌≡◌, ◌≢◌, ℕ, suc, ◌+◌, ◌^◌, ◌<◌, ◌≤◌, ◌==◌, List, [], ◌∷◌, ◌++◌, length, take, drop, get_or, decimal, Bool, true, false}
use Rattle.std.proofs.Common.{cond, ◌↔◌, Option, Some, None, IsSome, IsNone, IfSome, Result, Ok, Err, IfErr, refl, sym, ap, ◌∙◌, arith}
use Rattle.std.proofs.Common.{length-append}
use Rattle.std.proofs.lemmas.List.{drop_all, length-drop, length-take-le}
use Rattle.std.proofs.lemmas.Bool.{eq-eqb}
use Rattle.safl_word.specs.Numerals.{value, IsBounded}
use Rattle.safl_word.proofs.Lists.{first_and_rest, not_empty}
use Rattle.safl_aiger.specs.Lines.{grown, fields}
use Rattle.safl_aiger.specs.declared.symbols.SymbolErr.{SymbolErr}
use Rattle.safl_aiger.specs.declared.symbols.SymbolErr.TheVariants.{Refused, NoMemory}
use Rattle.safl_aiger.specs.Reads.{Named, names_for, letter, symbol_line}
use Rattle.safl_aiger.specs.Symbols.{IsSmall, IsSymbol, IsSymbolLine, IsTaken, IsRefused}
use Rattle.safl_aiger.proofs.Cutting.{fields_space, fields_some}
use Rattle.safl_aiger.proofs.Rereading.{decimal_free}
use Rattle.safl_aiger.proofs.Naming.{taken_refuses, shortest, decimal_bounded}

-- ---- the next line

-- ---- fields joined again

abbrev unsplit : List (List ℕ) → List ℕ
unsplit [] = []
unsplit (l ∷ []) = l
unsplit (l ∷ (m ∷ ls)) = l ++ 32 ∷ unsplit (m ∷ ls)

unsplit_cons : (l : List ℕ) (ls : List (List ℕ)) → 1 ≤ length ls → unsplit (l ∷ ls) ≡ l ++ 32 ∷ unsplit ls
unsplit_cons l [] h = absurd (omega (arith, h))
unsplit_cons l (m ∷ ls) h = refl

unsplit_grown : (c : ℕ) (ls : List (List ℕ)) → 1 ≤ length ls → unsplit (grown c ls) ≡ c ∷ unsplit ls
unsplit_grown c [] h = absurd (omega (arith, h))
unsplit_grown c (l ∷ []) h = refl
unsplit_grown c (l ∷ (m ∷ ls)) h = refl

unsplit_fields : (t : List ℕ) → unsplit (fields t) ≡ t
unsplit_fields [] = refl
unsplit_fields (c ∷ t) = by (c == 32) refl (unsplit_fields t)
  where
    by : (b : Bool) → (c == 32) ≡ b → unsplit (fields t) ≡ t → unsplit (cond b ([] ∷ fields t) (grown c (fields t))) ≡ c ∷ t
    by true e h =
        let q : c ≡ 32 = grind (arith, nat_tests) in
        unsplit_cons [] (fields t) (fields_some t) ∙ (λ i. sym q i ∷ h i)
    by false e h = unsplit_grown c (fields t) (fields_some t) ∙ ap (λ x. c ∷ x) h

-- a text whose first field is cut off
cut_is : (t u v : List ℕ) → fields t ≡ u ∷ fields v → t ≡ u ++ 32 ∷ v
cut_is t u v e = sym (unsplit_fields t) ∙ ap unsplit e ∙ unsplit_cons u (fields v) (fields_some v) ∙ ap (λ x. u ++ 32 ∷ x) (unsplit_fields v)

-- ---- symbols

behind_first : (line : List ℕ) (k : ℕ) → drop (k + 2) line ≡ drop (k + 1) (drop 1 line)
behind_first [] k = drop_all (k + 2) [] (omega arith) ∙ sym (drop_all (k + 1) [] (omega arith))
behind_first (c ∷ cs) k = ap (λ n. drop n (c ∷ cs)) (let z : k + 2 ≡ suc (k + 1) = omega arith in z)

pub symbol_is : (line rest : List ℕ) (end place : ℕ) (s : Sort) → rest ≡ drop 1 line → get_or line 0 0 ≡ letter s → end + 1 < length rest → fields
    rest ≡ take end rest ∷ fields (drop (end + 1) rest) → place < 2 ^ 31 → take end rest ≡ decimal place
    → IsSymbol line (record { sort = s; place = place; start = end + 2 })
symbol_is line rest end place s r l long f few d =
    let cut : rest ≡ take end rest ++ 32 ∷ drop (end + 1) rest = cut_is rest (take end rest) (drop (end + 1) rest) f in
    let behind : drop (end + 2) line ≡ drop (end + 1) rest = behind_first line end ∙ ap (drop (end + 1)) (sym r) in
    let n = ap length r ∙ length-drop 1 line in
    let some : 1 ≤ length line = omega (arith, n, long) in
    record {
      few = few;
      within = omega (arith, n, long, some);
      is = first_and_rest line some ∙ (λ i. l i ∷ (sym r ∙ cut ∙ (λ j. d j ++ 32 ∷ sym behind j)) i);
    }

-- the first field of a symbol line without its letter, and how long it is
number_cut : (rest : List ℕ) (end k : ℕ) (name : List ℕ) → rest ≡ decimal k ++ 32 ∷ name → k < 2 ^ 31 → end ≤ length rest →
    (end < length rest → fields rest ≡ take end rest ∷ fields (drop (end + 1) rest)) → (end ≡ length rest → fields rest ≡ rest ∷ []) →
    (take end rest ≡ decimal k) × (end + 1 + length name ≡ length rest)
number_cut rest end k name e l h some none = by (end == length rest) refl
  where
    split : fields rest ≡ decimal k ∷ fields name
    split = ap fields e ∙ fields_space (decimal k) name (decimal_free 32 k (omega arith) (omega (arith, l)))

    long : length rest ≡ length (decimal k) + (1 + length name)
    long = let a = ap length e in let b = length-append (decimal k) (32 ∷ name) in omega (arith, a, b)

    by : (b : Bool) → (end == length rest) ≡ b → (take end rest ≡ decimal k) × (end + 1 + length name ≡ length rest)
    by true q =
        let at : end ≡ length rest = grind (arith, nat_tests) in
        let a = ap length (sym (none at) ∙ split) in
        let b = fields_some name in
        absurd (omega (arith, a, b))
    by false q =
        let n : end ≢ length rest = (λ z. let y : (end == length rest) ≡ true = eq-eqb end (length rest) z in cc) in
        let under : end < length rest = omega (arith, h, n) in
        let both = sym (some under) ∙ split in
        let same : take end rest ≡ decimal k = cc in
        let a = ap length same in
        let b = length-take-le end rest h in
        (same, omega (arith, a, b, long, h))

behind_letter : (line rest : List ℕ) (h : IsSymbolLine line) → rest ≡ drop 1 line → rest ≡ decimal h.place ++ 32 ∷ h.name
behind_letter line rest h r = r ∙ ap (drop 1) h.is

pub no_name : (line rest : List ℕ) (end : ℕ) → rest ≡ drop 1 line → end ≤ length rest →
    (end < length rest → fields rest ≡ take end rest ∷ fields (drop (end + 1) rest)) → (end ≡ length rest → fields rest ≡ rest ∷ []) → length rest ≤
    end + 1 → ¬ (IsSymbolLine line)
no_name line rest end r l some none short h =
    let c = number_cut rest end h.place h.name (behind_letter line rest h r) h.few l some none in
    let z = c.1 in
    let n = not_empty h.name h.some in
    omega (arith, z, n, short)

pub no_place : (line rest : List ℕ) (end : ℕ) → rest ≡ drop 1 line → end ≤ length rest →
    (end < length rest → fields rest ≡ take end rest ∷ fields (drop (end + 1) rest)) → (end ≡ length rest → fields rest ≡ rest ∷ []) →
    ((n : ℕ) → n < 2 ^ 31 → take end rest ≢ decimal n) → ¬ (IsSymbolLine line)
no_place line rest end r l some none other h =
    let c = number_cut rest end h.place h.name (behind_letter line rest h r) h.few l some none in
    other h.place h.few c.0

pub taken_refused : (line : List ℕ) (s : Sort) (k : ℕ) (name : List ℕ) (old : Named) (e : SymbolErr) → IsSmall old → k < 2 ^ 31 → line ≡ symbol_line s
    k name → IsTaken (names_for s old) k e → IsRefused line old e
taken_refused line s k name old Refused h l q t = taken_refuses line s k name old h l q t
taken_refused line s k name old NoMemory h l q t = tt

pub name_taken : {A : Type 0} (r : Result A SymbolErr) (line : List ℕ) (s : Sort) (k : ℕ) (name : List ℕ) (old : Named) → IsSmall old → k < 2 ^ 31 →
    line ≡ symbol_line s k name → IfErr r (IsTaken (names_for s old) k) → IfErr r (IsRefused line old)
name_taken (Ok x) line s k name old h l q t = tt
name_taken (Err e) line s k name old h l q t = taken_refused line s k name old e h l q t

pub number_found : (r : Option ℕ) (w : List ℕ) → (IsSome r ↔ IsBounded 10 10 (2 ^ 31) w) → IfSome r (λ n. n ≡ value 10 w) →
    ((1 < length w) × (get_or w 0 0 ≡ 48) → ⊥) → IfSome r (λ n. (n < 2 ^ 31) × (w ≡ decimal n))
number_found None w s v h = tt
number_found (Some n) w s v h =
    let b : IsBounded 10 10 (2 ^ 31) w = s.0 refl in
    let small = b.small in
    (omega (arith, v, small), shortest w b (λ x y. h (x, y)) ∙ ap decimal (sym v))

pub number_none : (r : Option ℕ) (w : List ℕ) → (IsSome r ↔ IsBounded 10 10 (2 ^ 31) w) → IsNone r → (n : ℕ) → n < 2 ^ 31 → w ≢ decimal n
number_none r w s i n l e = let t = s.1 (decimal_bounded w n l e) in cc

-- a line that a test of equality tells from `c` is not `c`
pub not_end : (p : List ℕ → List ℕ → Bool) (line c : List ℕ) → p (99 ∷ []) (99 ∷ []) ≡ true → false ≡ p line c → c ≡ 99 ∷ [] → line ≢ 99 ∷ []
not_end p line c t z y q = let e : false ≡ true = z ∙ (λ i. p (q i) (y i)) ∙ t in cc
