-- Symbol lines, and the names that they set.
use Rattle.safl_aiger.proofs.Common.{Name, Sort, list_all, names_of, nat_tests}
use Rattle.std.proofs.Common.{◌≡◌, ◌≢◌, ℕ, zero, suc, ◌+◌, ◌-◌, ◌*◌, ◌^◌, ◌<◌, ◌≤◌, List, [], ◌∷◌, ◌++◌, length, get_or, set, slice_get}
use Rattle.std.proofs.Common.{Some, decimal, codes, true, ◌&&◌, refl, sym, ap, ◌∙◌, subst, arith, append_assoc, length-append}
use Rattle.std.specs.Int.{IsInRange}
use Rattle.std.proofs.lemmas.Bool.{and_parts}
use Rattle.std.proofs.lemmas.Fmt.{decimal_injective, decimal_digit, first_decimal, decimal-digits_value}
use Rattle.std.proofs.lemmas.List.{map-set, length-set}
use Rattle.std.proofs.lemmas.Str.Parse.{IsNumeralModel, IsDigitsTest, WeighsDigits, numerals_by_weight}
use Rattle.safl_word.specs.Numerals.{digit, is_digit, value, IsBounded}
use Rattle.safl_word.proofs.Digits.{digit_passes}
use Rattle.safl_aiger.specs.declared.symbols.Sort.TheVariants.{Input, Latch, Output}
use Rattle.safl_aiger.specs.declared.symbols.SymbolsErr.TheVariants.{Stopped}
use Rattle.safl_aiger.specs.Reads.{Named, NamesPlace, NamePlaces, names_for, with_name, letter, symbol_line, RefusesLine, SymbolFault}
use Rattle.safl_aiger.specs.Symbols.{IsSmall, Sets, NamesUpTo, SymbolsFail}
use Rattle.safl_aiger.proofs.Cutting.{Free}
use Rattle.safl_aiger.proofs.Joining.{names_at}
use Rattle.safl_aiger.proofs.Rereading.{decimal_free, is_decimal, places-append}

-- ---- shortest decimals

digit_range : (c : ℕ) → is_digit 10 c ≡ true → IsInRange 48 57 c
digit_range c e = (
  let low : 48 ≤ c = grind (arith, nat_tests) in low,
  let high : c ≤ 57 = grind (arith, nat_tests) in high,
)

digit_less : (c : ℕ) → 48 ≤ c → c ≤ 57 → digit c ≡ c - 48
digit_less c l h = grind (arith, nat_tests)

abbrev AreDigits : List ℕ → Type 0
AreDigits ds = list_all (is_digit 10) ds ≡ true

tests : IsDigitsTest AreDigits
tests = record {
  empty = refl;
  parts = λ c cs e. let p = and_parts (is_digit 10 c) (list_all (is_digit 10) cs) e in (digit_range c p.0, p.1);
  more = λ c cs r e. ap (λ b. b && list_all (is_digit 10) cs) (digit_passes c r.0 r.1) ∙ e;
}

weighs : WeighsDigits (value 10)
weighs = record { empty = refl; more = λ c cs r. ap (λ d. d * 10 ^ length cs + value 10 cs) (digit_less c r.0 r.1) }

own : IsNumeralModel AreDigits (value 10)
own = numerals_by_weight AreDigits tests (value 10) weighs

-- a numeral with no zero before other digits is the decimal of its number
pub shortest : (w : List ℕ) → IsBounded 10 10 (2 ^ 31) w → (1 < length w → get_or w 0 0 ≡ 48 → ⊥) → w ≡ decimal (value 10 w)
shortest [] b h = absurd (let z = b.numeral.some in omega (arith, z))
shortest (c ∷ []) b h = sym (decimal-digits_value own (c ∷ []) b.numeral.digits (omega arith) (λ e. refl) (let z = b.small in omega (arith, z)))
shortest (c ∷ (d ∷ w)) b h = sym (decimal-digits_value own (c ∷ (d ∷ w)) b.numeral.digits (omega arith) (λ e. absurd (h (omega arith) e)) (let z = b.small in omega (arith, z)))

pub not_padded : (w : List ℕ) (n : ℕ) → n < 2 ^ 31 → 1 < length w → get_or w 0 0 ≡ 48 → w ≢ decimal n
not_padded w zero l long e q = let z : length w ≡ 1 = ap length (q ∙ decimal_digit 0 (omega arith)) in omega (arith, z, long)
not_padded w (suc n) l long e q =
    let f = first_decimal (suc n) (omega arith) (omega (arith, l)) in
    let z : get_or (decimal (suc n)) 0 0 ≡ 48 = ap (λ x. get_or x 0 0) (sym q) ∙ e in
    omega (arith, f, z)

pub decimal_bounded : (w : List ℕ) (n : ℕ) → n < 2 ^ 31 → w ≡ decimal n → IsBounded 10 10 (2 ^ 31) w
decimal_bounded w n l e = subst (λ (x : List ℕ). IsBounded 10 10 (2 ^ 31) x) (sym e) (is_decimal n l).bounded

-- ---- the parts of a symbol line

-- two texts that are cut at the first byte of a kind
pub cut_once : (c : ℕ) (u v x y : List ℕ) → Free c u → Free c v → u ++ c ∷ x ≡ v ++ c ∷ y → (u ≡ v) × (x ≡ y)
cut_once c [] [] x y f g e = (refl, let q : x ≡ y = cc in q)
cut_once c [] (b ∷ v) x y f g e = absurd (g.0 (let q : b ≡ c = cc in q))
cut_once c (a ∷ u) [] x y f g e = absurd (f.0 (let q : a ≡ c = cc in q))
cut_once c (a ∷ u) (b ∷ v) x y f g e =
    let h : a ≡ b = cc in
    let t : u ++ c ∷ x ≡ v ++ c ∷ y = cc in
    let r = cut_once c u v x y f.1 g.1 t in (
      λ i. h i ∷ r.0 i,
      r.1,
    )

pub letter_once : (s t : Sort) → letter s ≡ letter t → s ≡ t
letter_once Input Input e = refl
letter_once Input Latch e = absurd (let q : 105 ≡ 108 = e in omega (arith, q))
letter_once Input Output e = absurd (let q : 105 ≡ 111 = e in omega (arith, q))
letter_once Latch Input e = absurd (let q : 108 ≡ 105 = e in omega (arith, q))
letter_once Latch Latch e = refl
letter_once Latch Output e = absurd (let q : 108 ≡ 111 = e in omega (arith, q))
letter_once Output Input e = absurd (let q : 111 ≡ 105 = e in omega (arith, q))
letter_once Output Latch e = absurd (let q : 111 ≡ 108 = e in omega (arith, q))
letter_once Output Output e = refl

pub symbol_once : (s t : Sort) (k j : ℕ) (n m : List ℕ) → k < 2 ^ 31 → j < 2 ^ 31 → symbol_line s k n ≡ symbol_line t j m → (s ≡ t) × (k ≡ j) × (n ≡ m)
symbol_once s t k j n m kl jl e =
    let h : letter s ≡ letter t = cc in
    let rest : decimal k ++ 32 ∷ n ≡ decimal j ++ 32 ∷ m = cc in
    let c = cut_once 32 (decimal k) (decimal j) n m (decimal_free 32 k (omega arith) (omega (arith, kl))) (decimal_free 32 j (omega arith) (omega (arith, jl))) rest in
    (letter_once s t h, decimal_injective k j (omega (arith, kl)) (omega (arith, jl)) c.0, c.1)

-- no symbol line is `c`
pub symbol_not_end : (s : Sort) (k : ℕ) (n : List ℕ) → symbol_line s k n ≢ codes "c"
symbol_not_end Input k n e = let q : 105 ≡ 99 = ap (λ x. get_or x 0 0) e in omega (arith, q)
symbol_not_end Latch k n e = let q : 108 ≡ 99 = ap (λ x. get_or x 0 0) e in omega (arith, q)
symbol_not_end Output k n e = let q : 111 ≡ 99 = ap (λ x. get_or x 0 0) e in omega (arith, q)

-- ---- places

pub get_small : (xs : List (List ℕ)) (k : ℕ) (x : List ℕ) → slice_get xs k ≡ Some x → k < length xs
get_small [] k x e = absurd (cc)
get_small (y ∷ xs) zero x e = omega arith
get_small (y ∷ xs) (suc k) x e = let h = get_small xs k x e in omega (arith, h)

small_for : (s : Sort) (n : Named) → IsSmall n → length (names_for s n) < 2 ^ 31
small_for Input n h = h.inputs
small_for Latch n h = h.latches
small_for Output n h = h.outputs

pub place_small : (line : List ℕ) (old new : Named) (p : NamesPlace line old new) → IsSmall old → p.place < 2 ^ 31
place_small line old new p h =
    let a = get_small (names_for p.sort old) p.place [] p.free in
    let b = small_for p.sort old h in
    omega (arith, a, b)

with_small : (s : Sort) (k : ℕ) (name : List ℕ) (old : Named) → IsSmall old → IsSmall (with_name s k name old)
with_small Input k name old h = record { inputs = subst (λ n. n < 2 ^ 31) (sym (length-set old.inputs k name)) h.inputs; latches = h.latches; outputs = h.outputs }
with_small Latch k name old h = record { inputs = h.inputs; latches = subst (λ n. n < 2 ^ 31) (sym (length-set old.latches k name)) h.latches; outputs = h.outputs }
with_small Output k name old h = record { inputs = h.inputs; latches = h.latches; outputs = subst (λ n. n < 2 ^ 31) (sym (length-set old.outputs k name)) h.outputs }

pub small_kept : (line : List ℕ) (old new : Named) → NamesPlace line old new → IsSmall old → IsSmall new
small_kept line old new p h = subst (λ (n : Named). IsSmall n) (sym p.sets) (with_small p.sort p.place p.name old h)

pub output_named : (line : List ℕ) (k : ℕ) (name : List ℕ) (old : Named) (l : List (List ℕ)) → line ≡ symbol_line Output k name → Sets old.outputs k
    name l → NamesPlace line old (record old { outputs = l })
output_named line k name old l e s = record { sort = Output; place = k; name = name; is = e; free = s.free; some = s.some; sets = ap (λ x. record old { outputs = x }) s.sets }

-- a symbol for a place that has a name, or is none, names no place
pub taken_refuses : (line : List ℕ) (s : Sort) (k : ℕ) (name : List ℕ) (old : Named) → IsSmall old → k < 2 ^ 31 → line ≡ symbol_line s k name → ¬
    (slice_get (names_for s old) k ≡ Some []) → RefusesLine line old
taken_refuses line s k name old h l e t new p =
    let q = symbol_once s p.sort k p.place name p.name l (place_small line old new p h) (sym e ∙ p.is) in
    t ((λ i. slice_get (names_for (q.0 i) old) (q.1 i)) ∙ p.free)

-- a list of names with one set
pub sets_name : (xs : List Name) (i : ℕ) (x d : Name) (name : List ℕ) → i < length xs → (get_or xs i d).bytes.items ≡ [] → 1 ≤ length name →
    x.bytes.items ≡ name → Sets (names_of xs) i name (names_of (set xs i x))
sets_name xs i x d name l e s q = record {
  free = names_at xs i d l ∙ ap (λ y. Some y) e;
  some = λ z. let y : length name ≡ 0 = ap length z in omega (arith, y, s);
  sets = map-set (λ (n : Name). n.bytes.items) xs i x ∙ ap (λ y. set (names_of xs) i y) q;
}

-- ---- lines one after another

-- so many lines have been read, of which the symbols have set these names
pub record Underway (ls : List (List ℕ)) (before : ℕ) (old new : Named) (left : List (List ℕ)) (count : ℕ) : Type 0 where
  pub upto : NamesUpTo ls old new left
  pub count_is : count ≡ before + length upto.symbols
  pub small : IsSmall new

pub underway_start : (ls : List (List ℕ)) (before : ℕ) (old : Named) → IsSmall old → Underway ls before old old ls before
underway_start ls before old h = record { upto = record { symbols = []; lines_are = refl; names = refl }; count_is = omega arith; small = h }

pub underway_step : (ls : List (List ℕ)) (before : ℕ) (old mid new : Named) (line : List ℕ) (left : List (List ℕ)) (count : ℕ) → Underway ls before
    old mid (line ∷ left) count → NamesPlace line mid new → Underway ls before old new left (count + 1)
underway_step ls before old mid new line left count u p =
    let s = u.upto.symbols in
    let e = u.count_is in
    let a = length-append s (line ∷ []) in
    record {
      upto = record {
        symbols = s ++ line ∷ [];
        lines_are = u.upto.lines_are ∙ sym (append_assoc s (line ∷ []) left);
        names = places-append s (line ∷ []) old mid new u.upto.names (new, p, refl);
      };
      count_is = omega (arith, e, a);
      small = small_kept line mid new p u.small;
    }

symbol_fault : (symbols : List (List ℕ)) (line : List ℕ) (left : List (List ℕ)) (old mid : Named) → NamePlaces symbols old mid → line ≢ codes "c" →
    RefusesLine line mid → SymbolFault (symbols ++ line ∷ left) old (length symbols)
symbol_fault [] line left old mid n c r = (c, subst (λ (m : Named). RefusesLine line m) n r)
symbol_fault (s ∷ symbols) line left old mid n c r = (n.0, n.1, symbol_fault symbols line left n.0 mid n.2 c r)

pub underway_fails : (ls : List (List ℕ)) (before : ℕ) (old mid : Named) (line : List ℕ) (left : List (List ℕ)) (count : ℕ) → Underway ls before old
    mid (line ∷ left) count → line ≢ codes "c" → RefusesLine line mid → SymbolsFail ls before old (Stopped (count + 1))
underway_fails ls before old mid line left count u c r =
    let s = u.upto.symbols in
    let e = u.count_is in (
      length s,
      subst (λ (x : List (List ℕ)). SymbolFault x old (length s)) (sym u.upto.lines_are) (symbol_fault s line left old mid u.upto.names c r),
      omega (arith, e),
    )
